-- Bits of a number, counted from the low end.
use Rattle.std.specs.Prelude.{ℕ, ◌/◌, ◌%◌, ◌^◌}

-- bit k of x, 0 or 1
unfoldable pub bit : ℕ → ℕ → ℕ
bit k x = x / 2 ^ k % 2

-- the number that n bits of x make from bit k on
unfoldable pub bits : ℕ → ℕ → ℕ → ℕ
bits k n x = x / 2 ^ k % 2 ^ n
