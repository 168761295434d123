-- The sweep that writes stores the table, and no byte after it.
-- Assumes nothing.
use Prim.Native.Nat.{ℕ, zero, suc, ◌≤◌, ◌<◌}
use mathlib.Core.Path.{◌≡◌, refl, ◌∙◌, ap}
use mathlib.Core.List.{List}
use native.Mathlib.Omega.{arith}
use lib.ListN.{length}
use Rattle.name_store.specs.declared.Entry.{Entry}
use Rattle.name_store.specs.Entries.{entry_at, offset_for}
use Rattle.name_store.specs.Tables.{records_of, strings_of}
use Rattle.name_store.proofs.Laid.{Within}
use Rattle.name_store.proofs.Stores.{fronted, bytes_to, one_more}
use Rattle.name_writer.specs.Sweeps.{Work, work_at, put_of, visited, sweep}
use Rattle.name_writer.proofs.Turns.{visit_puts}

module _ (pool : List ℕ) (es : List Entry) (room : List ℕ) (key : ℕ) where
  abbrev room_to : ℕ → List ℕ
  room_to = bytes_to pool es room

  -- the work after i entries
  abbrev pub written_to : ℕ → Work
  written_to i = work_at 1 0 key (offset_for es i) (length es)

  -- one more
  put_step : (i : ℕ) → i < length es → Within (length pool) es i → visited pool i (entry_at es i) (room_to i, written_to i) ≡ (room_to (suc i), written_to (suc i))
  unfolding put_of offset_for
  put_step i l w = visit_puts pool i (entry_at es i) (room_to i, written_to i) refl ∙ ap (λ (r : List ℕ). (r, written_to (suc i))) (one_more pool es room i l w)

  pub all_put : Within (length pool) es (length es) → (i : ℕ) → i ≤ length es → sweep es pool i (fronted pool es room, written_to 0) ≡ (room_to i, written_to i)
  unfolding sweep strings_of records_of
  all_put w zero l = refl
  all_put w (suc i) l = ap (visited pool i (entry_at es i)) (all_put w i (omega arith)) ∙ put_step i l (λ j q. w j (omega arith))
