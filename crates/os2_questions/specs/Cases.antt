-- Which of the three things an answer is, from the version that what is asked for came in with.
use Rattle.std.specs.Prelude.{ℕ, Bool, cond, ◌&&◌, ◌||◌, ltb}
use Rattle.os2_questions.specs.declared.Case.{Case}
use Rattle.os2_questions.specs.declared.Case.TheVariants as Case·

-- p is above L
unfoldable pub above : ℕ → ℕ → Bool
above p L = ltb L p

-- what came in with version p is not known "if p is above L"; "Three more are not known when w is above L"
unfoldable pub unknown : (p : ℕ) → Bool → (L w : ℕ) → Bool
unknown p whole L w = above p L || (whole && above w L)

-- "else absent if p is above w; else the value"
unfoldable pub case_of : (p : ℕ) → Bool → (L w : ℕ) → Case
case_of p whole L w = cond (unknown p whole L w) Case·.NotKnown (cond (above p w) Case·.Absent Case·.Value)
