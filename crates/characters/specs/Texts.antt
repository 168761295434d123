-- The codes of a text that is written out.
use Rattle.std.specs.Prelude.{ℕ}
use Prim.Native.Char.{code}
use Prim.Native.String.{String, [], ◌∷◌}
use mathlib.Core.List as list

abbrev pub codes : String → list.List ℕ
codes [] = list.[]
codes (c ∷ cs) = list.◌∷◌ (code c) (codes cs)
