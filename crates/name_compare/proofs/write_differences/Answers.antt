-- What a step lists has room, since the room is enough for all that there are.
use Prim.Native.Nat.{ℕ, ◌+◌, ◌*◌, ◌/◌, ◌≤◌}
use mathlib.Core.Path.{◌≡◌, refl, sym, ap, ◌∙◌}
use mathlib.Core.List.{List, [], ◌++◌, append-nil}
use Rattle.std.proofs.lemmas.List.Edits.{sets}
use native.Mathlib.Omega.{arith}
use lib.ListN.{length, length-append}
use Rattle.std.specs.Prelude.{Option as Maybe}
use Rattle.name_compare.specs.declared.Which.{Which}
use Rattle.comparing.specs.Rooms.{rows_of}
use Rattle.comparing.proofs.Rooms.{front_none, grown}
use Rattle.name_compare.specs.Differences.{Difference, row_of, differences}
use Rattle.name_compare.specs.Steps.{Both, both_of, Reached, passed}
use Rattle.name_compare.proofs.Rows.{five, passed_nothing, passed_one, row_one, one_more}
use Rattle.name_compare.proofs.Merges.{started, at_most, all_of_them, unfinished}
use Rattle.name_compare.proofs.write_differences.Goals as goal

module _ {left right : List ℕ} (b : Both left right) (room : ℕ) {count : ℕ} (k : (count ≡ length (differences left right)) × (count ≤ room / 5)) (key : ℕ) (which : Maybe Which) where
  -- what is then listed has room
  fits : {i j : ℕ} (out : List Difference) → Reached left right i j (out ++ passed key which) → length (out ++ passed key which) ≤ room / 5
  fits out r = omega (arith, at_most left right b r, k)

  -- so its numbers have
  numbers_fit : {i j done : ℕ} (out : List Difference) → done ≡ length out → Reached left right i j (out ++ passed key which)
      → 5 * done + 5 * length (passed key which) ≤ room
  numbers_fit out e r = omega (arith, fits out r, length-append out (passed key which))

pub loop-done-init : goal.loop-done-init
unfolding rows_of
loop-done-init c = (omega arith, omega arith, refl, ([], started _ _, refl, front_none _))

pub advance-s-requires : goal.advance-s-requires
advance-s-requires c =
    let l = c.loop-done.invariant in
    record { on_left = l.0; on_right = l.1; more = unfinished _ _ (both_of c.args.pair.now) l.3.1 l.0 l.1 (rw (← l.3.2, ← c.requires.0) c.loop-done-test.true) }

pub overflow_mul-done : goal.overflow_mul-done
overflow_mul-done c =
    let s = c.advance-s in
    let l = c.loop-done.invariant.3 in
    omega (arith, numbers_fit (both_of c.args.pair.now) (length c.args.rows.now) c.requires s.result.key s.result.which l.0 l.2 (s.ensures.lists l.0 l.1))

pub put-requires : goal.put-requires
put-requires c =
    let s = c.advance-s in
    let l = c.loop-done.invariant.3 in
    let one : length (passed s.result.key s.result.which) ≡ 1 = ap (λ w. length (passed s.result.key w)) c.in-Some.is ∙ passed_one _ _ in
    let fit = numbers_fit (both_of c.args.pair.now) (length c.args.rows.now) c.requires s.result.key s.result.which l.0 l.2 (s.ensures.lists l.0 l.1) in
    rw c.loop-done.invariant.2 (omega (arith, fit, one))

pub overflow_add-done : goal.overflow_add-done
overflow_add-done c =
    let s = c.advance-s in
    let l = c.loop-done.invariant.3 in
    let one : length (passed s.result.key s.result.which) ≡ 1 = ap (λ w. length (passed s.result.key w)) c.in-Some.is ∙ passed_one _ _ in
    omega (arith, one, numbers_fit (both_of c.args.pair.now) (length c.args.rows.now) c.requires s.result.key s.result.which l.0 l.2 (s.ensures.lists l.0 l.1))

pub loop-done-smaller : goal.loop-done-smaller
loop-done-smaller c = omega (arith, c.advance-s.ensures)

pub loop-done-smaller-in-Some : goal.loop-done-smaller-in-Some
loop-done-smaller-in-Some c = omega (arith, c.advance-s.ensures)

pub loop-done-preserved-in-Some : goal.loop-done-preserved-in-Some
loop-done-preserved-in-Some c =
    let s = c.advance-s.ensures in
    let l = c.loop-done.invariant in
    let out = l.3.0 in
    let next = s.lists out l.3.1 in
    let stored = c.put.ensures ∙ ap (sets _ _) (sym (row_one _ _)) ∙ ap (λ w. sets c.loop-done.rows (5 * c.loop-done.done) (rows_of row_of (passed c.advance-s.result.key w))) (sym c.in-Some.is) in
    let more = passed c.advance-s.result.key c.advance-s.result.which in
    let room = fits (both_of c.args.pair.now) (length c.args.rows.now) c.requires _ _ out next in
    let w = grown row_of five out more _ room (ap (λ n. 5 * n) l.3.2) l.3.3 stored in
    (s.on_left, s.on_right, w.0, (out ++ passed _ _, next, omega (arith, one_more c.advance-s.result.key out c.in-Some.is, l.3.2), w.1))

pub loop-done-preserved : goal.loop-done-preserved
loop-done-preserved c =
    let s = c.advance-s.ensures in
    let l = c.loop-done.invariant in
    let out = l.3.0 in
    let same : out ++ passed c.advance-s.result.key c.advance-s.result.which ≡ out = rw (c.in_default.is, passed_nothing) (append-nil out) in
    (s.on_left, s.on_right, l.2, (out, rw same at (s.lists out l.3.1), l.3.2, l.3.3))

pub returns : goal.returns
returns c =
    let l = c.loop-done.invariant.3 in
    let e : length l.0 ≡ length (differences c.args.pair.now.left.bytes.now c.args.pair.now.right.bytes.now) =
    omega (arith, at_most _ _ (both_of c.args.pair.now) l.1, c.requires, l.2, c.loop-done-test.false) in
    rw (← all_of_them _ _ (both_of c.args.pair.now) l.1 e) l.3
