-- Big-endian numbers of any width in a list of bytes. Both definitions are total.
use Rattle.std.specs.Prelude.{ℕ, zero, suc, ◌+◌, ◌*◌, ◌/◌, ◌%◌, ◌<◌, List, get_or, set}

-- the number that k bytes make from a place on, the first byte counting most; a byte past the end reads as 0
unfoldable pub number : ℕ → List ℕ → ℕ → ℕ
number zero s at = 0
number (suc k) s at = number k s at * 256 + get_or s (at + k) 0

-- the list once n is stored in k bytes from a place on, the first byte counting most; a byte past the end is stored nowhere
unfoldable pub stored : ℕ → List ℕ → ℕ → ℕ → List ℕ
stored zero s at n = s
stored (suc k) s at n = set (stored k s at (n / 256)) (at + k) (n % 256)

-- each element is a byte
abbrev pub Bytes : List ℕ → Type 0
Bytes s = (i : ℕ) → get_or s i 0 < 256
