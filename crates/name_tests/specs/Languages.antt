-- Document 01, refusal 18, in propositions: which languages a format allows.
use Rattle.std.specs.Prelude.{ℕ, ◌+◌, ◌≤◌, ◌<◌, ◌≡◌, List}
use Rattle.name_layout.specs.Layout.{format, platform, language, tag_count}

-- the language of record i is allowed
pub record LanguageAllowed (t : List ℕ) (i : ℕ) : Type 0 where
  pub format0 : format t ≡ 0 → 32768 ≤ language t i → (240 ≤ platform t i) × (platform t i ≤ 255)
  pub format1 : format t ≡ 1 → 32768 ≤ language t i → language t i < 32768 + tag_count t
