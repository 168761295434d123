-- One table with its numbers, written out as bytes and worked out from document 01's layout, so that nothing here goes through the definitions: two
-- records, two tags, a byte between them and the storage, and numbers of which every byte shows. (Its format is none that a check accepts.)
use Rattle.std.specs.Prelude.{ℕ, ◌≡◌, List, [], ◌∷◌}
use Rattle.name_layout.specs.Layout.{format, count, storage, platform, encoding, language, name_id, records_end, tag_count, tag_at, tags_end}
use Rattle.name_layout.specs.Layout.{text_at, string_length, string_start, string_end, record_in, bytes_of}
use Rattle.name_layout.specs.Keys.{packed}
use Rattle.name_layout.specs.declared.Record.{Record}

abbrev pub written : List ℕ
written =
    -- format, count, storage start
    129 ∷ 130 ∷ 0 ∷ 2 ∷ 0 ∷ 41 ∷
    -- the records: platform, encoding, language, name, length, offset
    145 ∷ 146 ∷ 147 ∷ 148 ∷ 149 ∷ 150 ∷ 151 ∷ 152 ∷ 0 ∷ 3 ∷ 0 ∷ 1 ∷
    161 ∷ 162 ∷ 163 ∷ 164 ∷ 165 ∷ 166 ∷ 167 ∷ 168 ∷ 0 ∷ 2 ∷ 0 ∷ 4 ∷
    -- the tag count, and the tags: length, offset
    0 ∷ 2 ∷
    0 ∷ 3 ∷ 0 ∷ 5 ∷
    0 ∷ 2 ∷ 0 ∷ 7 ∷
    -- a byte between, and the storage
    238 ∷
    97 ∷ 98 ∷ 99 ∷ 100 ∷ 101 ∷ 102 ∷ 103 ∷ 104 ∷ 105 ∷
    []

-- the numbers of its head, the four parts of a record's key, and where the records and the tags end
abbrev pub head : List ℕ → List ℕ
head t = format t ∷ count t ∷ storage t ∷ records_end t ∷ tag_count t ∷ tags_end t ∷ []

abbrev pub key : List ℕ → ℕ → List ℕ
key t i = platform t i ∷ encoding t i ∷ language t i ∷ name_id t i ∷ []

-- of the string whose length and offset stand at a place: start, length and end
abbrev pub text : List ℕ → ℕ → List ℕ
text t at = string_start t at ∷ string_length t at ∷ string_end t at ∷ []

-- a record of the code, part by part
abbrev pub parts : Record → List ℕ
parts r = r.platform ∷ r.encoding ∷ r.language ∷ r.name ∷ r.length ∷ r.offset ∷ []

pub record ReadsEach : Type 0 where
  pub first : head written ≡ 33154 ∷ 2 ∷ 41 ∷ 30 ∷ 2 ∷ 40 ∷ []
  pub key_0 : key written 0 ≡ 37266 ∷ 37780 ∷ 38294 ∷ 38808 ∷ []
  pub key_1 : key written 1 ≡ 41378 ∷ 41892 ∷ 42406 ∷ 42920 ∷ []
  pub record_0 : parts (record_in written 0) ≡ 37266 ∷ 37780 ∷ 38294 ∷ 38808 ∷ 3 ∷ 1 ∷ []
  pub record_1 : parts (record_in written 1) ≡ 41378 ∷ 41892 ∷ 42406 ∷ 42920 ∷ 2 ∷ 4 ∷ []
  pub packed_1 : packed (record { platform = 1; encoding = 2; language = 3; name = 4 }) ≡ 281483566841860
  pub text_0 : text written (text_at 0) ≡ 42 ∷ 3 ∷ 45 ∷ []
  pub text_1 : text written (text_at 1) ≡ 45 ∷ 2 ∷ 47 ∷ []
  pub bytes_0 : bytes_of written 0 ≡ 98 ∷ 99 ∷ 100 ∷ []
  pub bytes_1 : bytes_of written 1 ≡ 101 ∷ 102 ∷ []
  pub tag_0 : text written (tag_at written 0) ≡ 46 ∷ 3 ∷ 49 ∷ []
  pub tag_1 : text written (tag_at written 1) ≡ 48 ∷ 2 ∷ 50 ∷ []
