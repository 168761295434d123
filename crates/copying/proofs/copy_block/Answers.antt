use Prim.Native.Nat.{ℕ, ◌+◌, ◌-◌}
use mathlib.Core.Path.{◌≡◌, ◌∙◌, ap}
use native.Mathlib.Omega.{arith}
use lib.ListN.{take, drop, length-take, length-drop}
use Rattle.copying.proofs.Copies.{put_sets}
use Rattle.copying.proofs.copy_block.Goals as goal

pub returns : goal.returns
returns g c = let args = c.args in
    let n : args.start + g.row.BLOCK - args.start ≡ g.row.BLOCK = omega arith in
    put_sets args.room.now args.at g.row.BLOCK (take g.row.BLOCK (drop args.start args.pool.now)) c.requires.0 (simp (length-take, length-drop) (omega arith))
    (c.copy_from_slice-2.ensures.after ∙ c.copy_from_slice.ensures.after ∙ ap (λ (k : ℕ). take k (drop args.start args.pool.now)) n)
