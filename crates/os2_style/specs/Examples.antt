-- Rights and point figures worked out by hand.
use Rattle.std.specs.Prelude.{◌≡◌, [], ◌∷◌, map}
use Rattle.std.specs.Float.{binary32}
use Rattle.std.specs.Float.Ieee.{of_bits}
use Rattle.os2_style.specs.Style.{rights_of, points}

-- none of bits 1 to 3, each by itself, two of them, all three
abbrev pub Rights : Type 0
Rights = map rights_of (0x0000 ∷ 0x0002 ∷ 0x0004 ∷ 0x0008 ∷ 0x0006 ∷ 0x000a ∷ 0x000c ∷ 0x000e ∷ []) ≡ 0 ∷ 1 ∷ 2 ∷ 3 ∷ 2 ∷ 3 ∷ 3 ∷ 3 ∷ []

-- 0, 0.05, 0.1, 1, 12, 20 and 3276.7 points: the bits of the 32-bit float nearest to a twentieth of each number
abbrev pub Points : Type 0
Points =
    map points (0 ∷ 1 ∷ 2 ∷ 20 ∷ 240 ∷ 400 ∷ 65534 ∷ [])
    ≡ map (of_bits binary32) (0 ∷ 0x3d4ccccd ∷ 0x3dcccccd ∷ 0x3f800000 ∷ 0x41400000 ∷ 0x41a00000 ∷ 0x454ccb33 ∷ [])
