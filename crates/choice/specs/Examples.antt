-- Requests worked out by hand. The family A, one byte, is in slots 0 to 3 and 8, B in 5, and AB in 6.
use Rattle.std.specs.Prelude.{ℕ, ◌≡◌, Bool, true, false, List, [], ◌∷◌, map, ◌++◌, get_or, replicate}
use Rattle.std.proofs.Math.Option.{Option, none, some}
use Rattle.outcomes.specs.Outcomes.{Outcome, refused, answered}
use Rattle.choice.specs.declared.Want.{Want}
use Rattle.choice.specs.Faces.{Face, Slots}

-- a slot with a face: family, weight, width, sloped
abbrev pub holding : List ℕ → ℕ → ℕ → Bool → Option Face
holding family weight width sloped = some (record { family = family; weight = weight; width = width; sloped = sloped })

abbrev pub rack : List (Option Face)
rack =
    holding (65 ∷ []) 400 5 false ∷ holding (65 ∷ []) 700 5 false ∷ holding (65 ∷ []) 300 5 true ∷ holding (65 ∷ []) 400 3 false ∷ none
    ∷ holding (66 ∷ []) 400 5 false ∷ holding (65 ∷ 66 ∷ []) 500 5 false ∷ none ∷ holding (65 ∷ []) 400 5 false ∷ []

-- a request: family, weight, width, sloped
abbrev pub ask : (Slots → List ℕ → Want → Outcome ℕ) → List (Option Face) → List ℕ → ℕ → ℕ → Bool → Outcome ℕ
ask request slots family weight width sloped = request (λ i. get_or slots i none) family (record { weight = weight; width = width; sloped = sloped })

abbrev pub of_a : (Slots → List ℕ → Want → Outcome ℕ) → ℕ → ℕ → Bool → Outcome ℕ
of_a request = ask request rack (65 ∷ [])

-- each step of the order, where it decides: slope before a nearer weight and width; width before a nearer weight; weight; the lower weight of 400 and 700 around 550;
-- widths 3 and 5 around 4, and then the lower slot
abbrev pub Steps : (Slots → List ℕ → Want → Outcome ℕ) → Type 0
Steps request =
    (of_a request 700 5 true ∷ of_a request 300 5 false ∷ of_a request 700 3 false ∷ of_a request 600 5 false ∷ of_a request 549 5 false ∷ of_a request 551 5 false ∷ of_a request 550 5 false
    ∷ of_a request 400 4 false ∷ of_a request 400 5 false ∷ [])
    ≡ answered 2 ∷ answered 0 ∷ answered 3 ∷ answered 1 ∷ answered 0 ∷ answered 1 ∷ answered 0 ∷ answered 0 ∷ answered 0 ∷ []

-- any numbers: below and above all that are loaded, and above 16 and 32 bits
abbrev pub Numbers : (Slots → List ℕ → Want → Outcome ℕ) → Type 0
Numbers request =
    (of_a request 0 5 false ∷ of_a request 65535 5 false ∷ of_a request 65536 5 false ∷ of_a request 4294967295 5 false
    ∷ of_a request 700 0 false ∷ of_a request 700 65536 false ∷ of_a request 400 4294967295 false ∷ [])
    ≡ answered 0 ∷ answered 1 ∷ answered 1 ∷ answered 1 ∷ answered 3 ∷ answered 1 ∷ answered 0 ∷ []

-- exactly that family: B has no sloped face; BA, an empty family and one byte more are in no slot
abbrev pub Families : (Slots → List ℕ → Want → Outcome ℕ) → Type 0
Families request =
    map (λ family. ask request rack family 400 5 true) ((66 ∷ []) ∷ (65 ∷ 66 ∷ []) ∷ (66 ∷ 65 ∷ []) ∷ [] ∷ (65 ∷ 66 ∷ 66 ∷ []) ∷ [])
    ≡ answered 5 ∷ answered 6 ∷ refused 50 none ∷ refused 50 none ∷ refused 50 none ∷ []

-- "It has 32 slots": the last is 31; and no face at all
abbrev pub Slots32 : (Slots → List ℕ → Want → Outcome ℕ) → Type 0
Slots32 request =
    map (λ slots. ask request slots (65 ∷ []) 400 5 false) ((replicate 31 none ++ holding (65 ∷ []) 400 5 false ∷ []) ∷ (replicate 32 none ++ holding (65 ∷ []) 400 5 false ∷ []) ∷ [] ∷ [])
    ≡ answered 31 ∷ refused 50 none ∷ refused 50 none ∷ []

-- the lower weight, though its slot is higher; widths 4 and 6 are equally near 5, on either side, so that the weight decides; and weights of a rack that no load has made
abbrev pub Ties : (Slots → List ℕ → Want → Outcome ℕ) → Type 0
Ties request =
    (ask request (holding (65 ∷ []) 500 5 false ∷ holding (65 ∷ []) 300 5 false ∷ []) (65 ∷ []) 400 5 false
    ∷ ask request (holding (65 ∷ []) 700 6 false ∷ holding (65 ∷ []) 400 4 false ∷ []) (65 ∷ []) 400 5 false
    ∷ ask request (holding (65 ∷ []) 700 4 false ∷ holding (65 ∷ []) 400 6 false ∷ []) (65 ∷ []) 400 5 false
    ∷ ask request (holding (65 ∷ []) 1 5 false ∷ holding (65 ∷ []) 65535 5 false ∷ []) (65 ∷ []) 40000 5 false ∷ [])
    ≡ answered 1 ∷ answered 1 ∷ answered 1 ∷ answered 1 ∷ []

-- "exactly that family": families of 64 bytes that differ in the last alone, one byte less and one more; zero bytes; and another case
abbrev pub Exact : (Slots → List ℕ → Want → Outcome ℕ) → Type 0
Exact request =
    map (λ family. ask request
    (holding (replicate 63 65 ++ 66 ∷ []) 400 5 false ∷ holding (replicate 64 65) 400 5 false ∷ holding (0 ∷ 65 ∷ 0 ∷ 66 ∷ []) 400 5 false ∷ []) family 400 5 false)
    (replicate 64 65 ∷ replicate 63 65 ∷ replicate 65 65 ∷ (0 ∷ 65 ∷ 0 ∷ 66 ∷ []) ∷ (0 ∷ 65 ∷ []) ∷ (65 ∷ 66 ∷ []) ∷ (0 ∷ 97 ∷ 0 ∷ 98 ∷ []) ∷ [])
    ≡ answered 1 ∷ refused 50 none ∷ refused 50 none ∷ answered 2 ∷ refused 50 none ∷ refused 50 none ∷ refused 50 none ∷ []
