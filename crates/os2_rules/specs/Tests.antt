-- The value rules as tests: each definition says when its rule is broken.
use Rattle.std.specs.Prelude.{ℕ, ◌+◌, Bool, true, false, ◌&&◌, ◌||◌, List, [], ◌∷◌, ltb, leb, eqb, get_or, Result}
use Rattle.std.proofs.Math.Option.{Option, none, some}
use Rattle.outcomes.specs.Firsts.{when, first_among}
use Rattle.outcomes.specs.Outcomes.{Refusal, carrying, error_of}
use Rattle.os2_rules.specs.Bits.{bit, bits}
use Rattle.os2_rules.specs.declared.Values.{Values}
use Rattle.os2_rules.specs.declared.BrokenRule.{BrokenRule}
use Rattle.os2_rules.specs.declared.BrokenRule.TheVariants.{Weight, Width, TypeBits, Rights, Selection, Regular, Sizes}

-- one of the n bits of x from bit k on is set
abbrev pub any_set : ℕ → ℕ → ℕ → Bool
any_set k n x = ltb 0 (bits k n x)

unfoldable pub weight_broken : ℕ → Bool
weight_broken weight = ltb weight 1 || ltb 1000 weight

unfoldable pub width_broken : ℕ → Bool
width_broken width = ltb width 1 || ltb 9 width

unfoldable pub type_broken : ℕ → Bool
type_broken fstype = any_set 0 1 fstype || (any_set 4 4 fstype || any_set 10 6 fstype)

unfoldable pub rights_broken : ℕ → ℕ → Bool
rights_broken version fstype = leb 3 version && ltb 1 (bit 1 fstype + bit 2 fstype + bit 3 fstype)

unfoldable pub selection_broken : ℕ → ℕ → Bool
selection_broken version fsselection = any_set 10 6 fsselection || (ltb version 4 && any_set 7 3 fsselection)

unfoldable pub regular_broken : ℕ → Bool
regular_broken fsselection = any_set 6 1 fsselection && (any_set 0 1 fsselection || any_set 5 1 fsselection)

unfoldable pub sizes_broken : ℕ → ℕ → ℕ → Bool
sizes_broken version lower upper = eqb version 5 && leb upper lower

-- the tests in the rules' order; there is no rule 0
abbrev pub tests : Values → List Bool
tests v =
    false ∷
    weight_broken v.weight ∷
    width_broken v.width ∷
    type_broken v.fstype ∷
    rights_broken v.version v.fstype ∷
    selection_broken v.version v.fsselection ∷
    regular_broken v.fsselection ∷
    sizes_broken v.version v.lower v.upper ∷
    []

-- rule k is broken
unfoldable pub broken : Values → ℕ → Bool
broken v k = get_or (tests v) k false

-- 3 with "first rule broken, 1 to 7"
unfoldable pub verdict_of : Values → Option Refusal
verdict_of v = first_among (λ k. when (broken v k) (carrying 3 k)) 8

-- a rule's number
abbrev pub rule_number : BrokenRule → ℕ
rule_number Weight = 1
rule_number Width = 2
rule_number TypeBits = 3
rule_number Rights = 4
rule_number Selection = 5
rule_number Regular = 6
rule_number Sizes = 7

-- the code's verdict in these words, and whether it is that no rule is broken
abbrev pub said_rule : BrokenRule → Refusal
said_rule r = carrying 3 (rule_number r)

abbrev pub said : Result (Unit {0}) BrokenRule → Option Refusal
said r = error_of said_rule r

abbrev pub kept : Option Refusal → Bool
kept none = true
kept (some r) = false
