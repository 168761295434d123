-- Rule 4 worked out by hand, for each setting of fsType's bits 1 to 3 in versions 0 to 6.
use Rattle.std.specs.Prelude.{ℕ, ◌≡◌, List, [], ◌∷◌, ◌++◌, map, replicate}
use Rattle.std.proofs.Math.Option.{Option, none, some}
use Rattle.outcomes.specs.Outcomes.{Refusal}
use Rattle.os2_rules.specs.Tests.{verdict_of}

-- what the rules say of an fsType in each of the versions, with weight 400, width 5, optical sizes 0 and 1, and fsSelection 0
abbrev pub verdicts_on : ℕ → List (Option Refusal)
verdicts_on t =
    map (λ w. verdict_of (record { version = w; weight = 400; width = 5; fstype = t; fsselection = 0; lower = 0; upper = 1 }))
    (0 ∷ 1 ∷ 2 ∷ 3 ∷ 4 ∷ 5 ∷ 6 ∷ [])

-- no rule is broken in any of them
abbrev pub never : List (Option Refusal)
never = replicate 7 none

-- rule 4 is, from version 3 on
abbrev pub since_three : List (Option Refusal)
since_three = replicate 3 none ++ replicate 4 (some (record { number = 3; carried = some 4 }))

-- none of the bits, each by itself, two of them, all three
abbrev pub RightsVerdicts : Type 0
RightsVerdicts =
    map verdicts_on (0x0000 ∷ 0x0002 ∷ 0x0004 ∷ 0x0008 ∷ 0x0006 ∷ 0x000a ∷ 0x000c ∷ 0x000e ∷ [])
    ≡ never ∷ never ∷ never ∷ never ∷ since_three ∷ since_three ∷ since_three ∷ since_three ∷ []
