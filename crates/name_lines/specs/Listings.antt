-- Document 01, end of "Examples to check against": the listing of a 'name' table, as the bytes of its lines.
use Rattle.std.specs.Prelude.{ℕ, zero, suc, ◌-◌, List, [], ◌++◌, length, take, drop}
use Rattle.outcomes.specs.Outcomes.{Outcome, refused, answered}
use Rattle.lines.specs.Lines.{refused_line, listed}
use Rattle.name_layout.specs.Layout.{format, count, storage, platform, encoding, language, name_id, text_at, string_length, string_offset}
use Rattle.name.specs.Acceptance.{check_of}
use Rattle.name_search.specs.declared.Text.{Text}
use Rattle.name_answers.specs.Names.{postscript_of}
use Rattle.name_answers.specs.Versions.{Reading, version_of}
use Rattle.name_lines.specs.Lines.{head_line, record_line, postscript_line, postscript_refused, version_line, version_refused}

-- "the first line ends with the storage's length"
abbrev pub head_text : List ℕ → List ℕ
head_text t = head_line (format t) (count t) (length t - storage t)

-- "record lines are number, four key parts, offset, length"
abbrev pub record_text : List ℕ → ℕ → List ℕ
record_text t i =
    record_line i (platform t i) (encoding t i) (language t i) (name_id t i) (string_offset t (text_at i)) (string_length t (text_at i))

-- the PostScript name's own characters with its record's number, or its refusal
abbrev pub postscript_text : List ℕ → Outcome Text → List ℕ
postscript_text t (answered x) = postscript_line (take x.len (drop x.start t)) x.«record»
postscript_text t (refused n c) = postscript_refused n

-- the version's two figures with the number of the record used, or its refusal
abbrev pub version_text : Outcome Reading → List ℕ
version_text (answered v) = version_line v.major v.minor v.«record»
version_text (refused n c) = version_refused n

-- the lines of the records 0, 1, .., n - 1
unfoldable pub record_texts : List ℕ → ℕ → List ℕ
record_texts t zero = []
record_texts t (suc n) = record_texts t n ++ record_text t n

-- the listing of a table of which the check says so
abbrev pub after_check : List ℕ → Outcome (Unit {0}) → List ℕ
after_check t (refused n c) = refused_line n c
after_check t (answered u) = head_text t ++ record_texts t (count t) ++ postscript_text t (postscript_of t) ++ version_text (version_of t)

-- the whole listing of an input
unfoldable pub listing_of : List ℕ → List ℕ
listing_of t = listed t (after_check t (check_of t))
