-- Which refusal a table gets, in propositions: "10, 11, 12, 13, 14; then records from 0 upward, at each 15, 18, 17; then tags from 0 upward, 16" (document 01),
-- "27 stands beside 15 in the order, 19 beside 17" (document 02, Ask 3). A refusal is given where its condition holds and none that comes earlier in the order.
use Rattle.std.specs.Prelude.{ℕ, suc, ◌≤◌, ◌<◌, ◌≡◌, ◌⊎◌, ◌↔◌, List, length}
use Rattle.outcomes.specs.Outcomes.{Refusal, bare, carrying, Outcome, refused}
use Rattle.name_layout.specs.Layout.{format, count, storage, text_at, records_end, tag_count, tag_at, tags_end, string_start, string_end}
use Rattle.name_layout.specs.Keys.{key_of, KeyBelow}
use Rattle.name_tests.specs.Languages.{LanguageAllowed}

-- not 11
abbrev pub Known : List ℕ → Type 0
Known t = (format t ≡ 0) ⊎ (format t ≡ 1)

-- none of 10 to 14
pub record Laid (t : List ℕ) : Type 0 where
  pub long : 6 ≤ length t
  pub known : Known t
  pub records : records_end t ≤ length t
  pub tags : tags_end t ≤ length t
  pub placed : (tags_end t ≤ storage t) × (storage t ≤ length t)

-- the string whose length and offset stand at a place ends within storage, which ends where the table does
abbrev pub Fits : List ℕ → ℕ → Type 0
Fits t at = string_end t at ≤ length t

-- none of 15, 27, 18, 17, 19 at record i
pub record Sound (t : List ℕ) (i : ℕ) : Type 0 where
  pub string : Fits t (text_at i)
  pub language : LanguageAllowed t i
  pub order : (j : ℕ) → i ≡ suc j → KeyBelow (key_of t j) (key_of t i)

-- nor at any of the first n records, on a table that is laid out as it should be
pub record SoundBelow (t : List ℕ) (n : ℕ) : Type 0 where
  pub laid : Laid t
  pub sound : (i : ℕ) → i < n → Sound t i

-- the table gets the refusal
pub data Refused (t : List ℕ) : Refusal → Type 0 where
  too_short : length t < 6 → Refused t (bare 10)
  other_format : 6 ≤ length t → (Known t → ⊥) → Refused t (bare 11)
  records_pass : 6 ≤ length t → Known t → length t < records_end t → Refused t (bare 12)
  tags_pass : 6 ≤ length t → Known t → records_end t ≤ length t → length t < tags_end t → Refused t (bare 13)
  misplaced : 6 ≤ length t → Known t → records_end t ≤ length t → tags_end t ≤ length t → (storage t < tags_end t) ⊎ (length t < storage t) →
      Refused t (bare 14)
  -- Ask 3: "15 when the string starts beyond the storage end, 27 when it starts within or at the end and runs over"
  string_beyond : {i : ℕ} → SoundBelow t i → i < count t → length t < string_start t (text_at i) → Refused t (carrying 15 i)
  string_runs_over : {i : ℕ} → SoundBelow t i → i < count t → string_start t (text_at i) ≤ length t → length t < string_end t (text_at i) →
      Refused t (carrying 27 i)
  language_refused : {i : ℕ} → SoundBelow t i → i < count t → Fits t (text_at i) → (LanguageAllowed t i → ⊥) → Refused t (carrying 18 i)
  -- Ask 3: "17 for a key below the one before, 19 for a key equal to it"
  key_below : {j : ℕ} → SoundBelow t (suc j) → suc j < count t → Fits t (text_at (suc j)) → LanguageAllowed t (suc j) →
      KeyBelow (key_of t (suc j)) (key_of t j) → Refused t (carrying 17 (suc j))
  key_equal : {j : ℕ} → SoundBelow t (suc j) → suc j < count t → Fits t (text_at (suc j)) → LanguageAllowed t (suc j) →
      key_of t (suc j) ≡ key_of t j → Refused t (carrying 19 (suc j))
  tag_passes : {i : ℕ} → SoundBelow t (count t) → i < tag_count t → ((j : ℕ) → j < i → Fits t (tag_at t j)) → length t < string_end t (tag_at t i) →
      Refused t (carrying 16 i)

-- of any check: it refuses a table with exactly that
abbrev pub RefusedExactlyWhen : (List ℕ → Outcome (Unit {0})) → Type 0
RefusedExactlyWhen check = (t : List ℕ) (r : Refusal) → (check t ≡ refused r.number r.carried) ↔ Refused t r
