-- What the code's search goes by, as one number. Each number of a key is doubled here, so that one stands between each two keys: a key of which a part is above
-- 65,535 stands between the last key of 16-bit numbers before it and the next. The code has the undoubled number, and a flag that tells the two apart.
use Rattle.std.specs.Prelude.{ℕ, ◌+◌, ◌*◌, Bool, true, false, cond, ◌||◌, List, ltb, eqb}
use Rattle.std.proofs.Math.Option.{Option}
use Rattle.outcomes.specs.Firsts.{when, first_among}
use Rattle.name_layout.specs.Layout.{count}
use Rattle.name_layout.specs.Keys.{Key, key_from, key_of, packed}
use Rattle.name_search.specs.Steps.{looks}

-- a part of the key is no 16-bit number
abbrev pub beyond : Key → Bool
beyond k = ltb 65535 k.platform || ltb 65535 k.encoding || ltb 65535 k.language || ltb 65535 k.name

-- the last key of 16-bit numbers before such a key
unfoldable pub last_before : (platform encoding language : ℕ) → Key
last_before platform encoding language =
    cond (ltb 65535 platform) (key_from 65535 65535 65535 65535)
    (cond (ltb 65535 encoding) (key_from platform 65535 65535 65535)
    (cond (ltb 65535 language) (key_from platform encoding 65535 65535)
    (key_from platform encoding language 65535)))

-- a key's number twice, or one more
abbrev pub sought_by : ℕ → Bool → ℕ
sought_by number true = 2 * number
sought_by number false = 2 * number + 1

-- what record i has
abbrev pub doubled : List ℕ → ℕ → ℕ
doubled t i = 2 * packed (key_of t i)

-- the record that has the number, and how many records a search for it looks at
unfoldable pub record_sought : List ℕ → ℕ → Option ℕ
record_sought t number = first_among (λ i. when (eqb (doubled t i) number) i) (count t)

unfoldable pub looks_sought : List ℕ → ℕ → ℕ
looks_sought t number = looks (λ i. eqb (doubled t i) number) (λ i. ltb (doubled t i) number) (count t) 0 (count t)
