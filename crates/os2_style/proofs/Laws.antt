-- Laws that the proofs of this crate share.
-- Assumes nothing.
use borrow.Author.Rules.{rules}
use borrow.Author.Tests.{lt-ltb, le-ltb}

-- for `search`: what closes a need, and the tests that the branches on the way decide
pub ruleset decided = (rules, lt-ltb, le-ltb)
