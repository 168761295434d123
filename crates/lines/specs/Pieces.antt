-- What a function that puts a piece of a line into lent bytes leaves.
use Rattle.std.specs.Prelude.{ℕ, ◌+◌, ◌≤◌, ◌≡◌, List, ◌++◌, take}

-- a piece of at most so many bytes was put behind the first `at` bytes of `old`: where it ends, and what stands before that end
pub record Put (old : List ℕ) (at : ℕ) (new : List ℕ) (end most : ℕ) (piece : List ℕ) : Type 0 where
  pub ends : end ≤ at + most
  pub holds : take end new ≡ take at old ++ piece
