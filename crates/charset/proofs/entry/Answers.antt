-- The word that is read is the one at the code's number divided by 64; the entry in it is the definition's answer, since the table allows exactly document 01's characters.
use Prim.Native.Nat.{ℕ, ◌/◌, ◌<◌}
use native.Mathlib.Omega.{arith}
use mathlib.Core.Path.{◌≡◌, ◌∙◌, sym, ap}
use lib.ListN.{get_or}
use Rattle.charset.specs.Table.{entry_of}
use Rattle.charset.proofs.Table.{settles}
use Rattle.charset.proofs.entry.Goals as goal
use Rattle.charset.proofs.entry.Goals.{in-0, in-1, in-2, in_default}

pub returns : goal.returns
unfolding entry_of
returns c =
    let word : ℕ → ℕ = λ n. get_or c.args.entries n 0 in
    let at = c.args.code / 64 in
    -- each arm reads the word of its codes
    let is : c.match-code-div64.word ≡ word at =
    elim c.match-code-div64.branch [
      | in-0 w ↦ let k : at ≡ 0 = omega arith in w.word-is ∙ sym (ap word k)
      | in-1 w ↦ let k : at ≡ 1 = omega arith in w.word-is ∙ sym (ap word k)
      | in-2 w ↦ let k : at ≡ 2 = omega arith in w.word-is ∙ sym (ap word k)
      | in_default w ↦ let k : at ≡ 3 = omega arith in w.word-is ∙ sym (ap word k)
    ] in
    let small : c.args.code < 256 = omega arith in
    rw is (settles c.args.entries c.requires c.args.code small)
