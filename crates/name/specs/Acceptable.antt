-- "Accepted exactly when", in plain propositions over every record and tag.
use Rattle.std.specs.Prelude.{ℕ, suc, ◌≤◌, ◌<◌, ◌≡◌, ◌⊎◌, ◌↔◌, List, length}
use Rattle.bigendian.specs.Numbers.{Bytes}
use Rattle.outcomes.specs.Outcomes.{Outcome, accepted}
use Rattle.name_layout.specs.Layout.{format, count, storage, text_at, records_end, tag_count, tag_at, tags_end, string_end}
use Rattle.name_layout.specs.Keys.{key_of, KeyBelow}
use Rattle.name_tests.specs.Languages.{LanguageAllowed}

-- none of the conditions of 10 to 19 and 27 holds
pub record Acceptable (t : List ℕ) : Type 0 where
  pub long : 6 ≤ length t
  pub known : (format t ≡ 0) ⊎ (format t ≡ 1)
  pub records : records_end t ≤ length t
  pub tags : tags_end t ≤ length t
  pub after : tags_end t ≤ storage t
  pub within : storage t ≤ length t
  pub strings : (i : ℕ) → i < count t → string_end t (text_at i) ≤ length t
  pub tag_strings : (i : ℕ) → i < tag_count t → string_end t (tag_at t i) ≤ length t
  pub rising : (i : ℕ) → suc i < count t → KeyBelow (key_of t i) (key_of t (suc i))
  pub languages : (i : ℕ) → i < count t → LanguageAllowed t i

-- of any check: it accepts bytes exactly when they are acceptable
abbrev pub AcceptedExactlyWhen : (List ℕ → Outcome (Unit {0})) → Type 0
AcceptedExactlyWhen check = (t : List ℕ) → Bytes t → (check t ≡ accepted) ↔ Acceptable t

-- of any check: "count is at most 5,460 in any accepted table"
abbrev pub AtMost5460 : (List ℕ → Outcome (Unit {0})) → Type 0
AtMost5460 check = (t : List ℕ) → Bytes t → check t ≡ accepted → count t ≤ 5460
