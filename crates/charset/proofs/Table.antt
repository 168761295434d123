-- One test over a whole table, which antt computes: there is no code whose entry is another than the definition's answer. It holds exactly when the table
-- allows document 01's characters and no others.
-- Assumes nothing.
use Prim.Native.Nat.{ℕ, ◌<◌}
use mathlib.Core.Path.{◌≡◌, refl, sym}
use mathlib.Core.Bool.{Bool, true, false, xor}
use mathlib.Core.List.{List, [], ◌∷◌}
use mathlib.Core.Logic.{◌↔◌}
use Rattle.std.specs.Bool.{one_answer}
use Rattle.charset.specs.Allowed.{allowed}
use Rattle.charset.specs.Table.{entry_of, AllowsExactly}
use Rattle.charset.proofs.Laws.{codes_below, none_below, allowed_is}

-- whether the entry of a code is another than the definition's answer
abbrev pub other : List ℕ → ℕ → Bool
other words c = xor (entry_of words c) (allowed c)

-- the codes with such an entry
abbrev pub wrong : List ℕ → List ℕ
wrong words = codes_below (other words) 256

not_other : (a b : Bool) → (xor a b ≡ false) ↔ (a ≡ b)
unfolding xor
not_other true true = (λ e. refl, λ e. refl)
not_other true false = (λ e. e, λ e. e)
not_other false true = (λ e. sym e, λ e. sym e)
not_other false false = (λ e. refl, λ e. refl)

-- each entry of a table that allows exactly document 01's characters is the definition's answer
pub settles : (words : List ℕ) → AllowsExactly words → (c : ℕ) → c < 256 → entry_of words c ≡ allowed c
settles words a c h = one_answer (entry_of words c) (allowed c) (a.each c h) (allowed_is c)

-- "one test over the whole table shall show that it allows exactly document 01's 84"
pub whole_table : (words : List ℕ) → (wrong words ≡ []) ↔ AllowsExactly words
whole_table words = (
  λ e. record { each = λ c h. rw ((not_other (entry_of words c) (allowed c)).0 ((none_below (other words) 256).0 e c h)) (allowed_is c) },
  λ a. (none_below (other words) 256).1 (λ c h. (not_other (entry_of words c) (allowed c)).1 (settles words a c h)),
)

-- where an entry stands, worked out: bits 0, 1, 2 and 63 of the four words are the entries of the codes 0, 65, 130 and 255; behind the last word there is none
pub entries_are : codes_below (entry_of (1 ∷ 2 ∷ 4 ∷ 9223372036854775808 ∷ [])) 320 ≡ 0 ∷ 65 ∷ 130 ∷ 255 ∷ []
unfolding entry_of
entries_are = refl
