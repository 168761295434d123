-- Demand 2's last two sentences, of our reader and writer: the numbers that were written stand in the table, those in a table are written as its own
-- bytes (`os2_store`), and the reader at level 5 gives what stands there.
-- Assumes nothing.
use Prim.Native.Nat.{ℕ, ◌≤◌}
use mathlib.Core.Path.{◌≡◌, ap, ◌∙◌}
use mathlib.Core.List.{List, ◌++◌, map}
use native.Mathlib.Nat.{le_trans, min-eq_left}
use native.Mathlib.Omega.{arith}
use lib.ListN.{take, get_or-map}
use lib.IntN.{ℤ}
use Rattle.outcomes.specs.Outcomes.{bare, answered}
use Rattle.level.specs.Levels.{newest}
use Rattle.level.proofs.Laws.{size_least}
use Rattle.bigendian.specs.Numbers.{number}
use Rattle.os2_fields.specs.Catalogue.{catalogue, field_of}
use Rattle.os2_fields.specs.Fields.{raw_in, value_in, version}
use Rattle.os2_store.specs.Writing.{number_for, write, room_after, InVersion}
use Rattle.os2_store.proofs.RoundTrips.{Written, written, same_bytes}
use Rattle.os2_acceptance.specs.Settled.{Accepted}
use Rattle.os2_questions.specs.declared.Question.TheVariants.{Field}
use Rattle.os2_questions.specs.Questions.{own_refusal, since, on_whole}
use Rattle.os2_questions.proofs.Cases.{known_exactly, not_above}
use Rattle.os2_questions.proofs.Settling.{under}
use Rattle.os2_answers.specs.Values.{integer, value}
use Rattle.os2_answers.specs.Asking.{value_of, ask}
use Rattle.os2_answers.specs.RoundTrips.{Gives, ReadsBack, Rewrites}
use Rattle.os2_answers.proofs.Cases.{given_value}
use Rattle.os2_answers.proofs.Settling.{ask_accepted}

-- a field of an accepted table, read at level 5
pub ask_field : (b : List ℕ) (k : ℕ) → Accepted newest b → version b ≤ newest → InVersion (version b) k →
    ask newest b (Field k) ≡ answered (value (integer (value_in b (field_of k))))
unfolding own_refusal since on_whole value_of
ask_field b k a l h =
    ask_accepted newest b (Field k) (omega arith) ((under 47 k (bare 6)).1 (omega arith)) a
    ∙ ap answered
    (given_value newest b (Field k) ((known_exactly _ _ newest (version b)).1 (le_trans h.1 l, λ w. l)) ((not_above (field_of k).since (version b)).1 h.1))

-- ---- read back

pub reads_back : ReadsBack ask write room_after
reads_back xs r v n x e rest = (a, λ k h. ask_field b k a (rw w.own w.most) (rw w.own h) ∙ rw (w.values k h))
  where
    b : List ℕ
    b = take n (room_after xs r) ++ rest

    w : Written v xs b
    w = written xs r v n x e rest

    a : Accepted newest b
    a =
        record {
          two = omega (arith, w.sized, size_least v);
          sized = rw (w.own, min-eq_left w.most) w.sized;
          ruled = λ h. w.ruled;
        }

-- ---- rewritten

-- the numbers in the fields of a table
pub numbers_in : List ℕ → List ℤ
numbers_in b = map (value_in b) catalogue

pub numbers_in_lem : (b : List ℕ) (k : ℕ) → number_for (numbers_in b) k ≡ value_in b (field_of k)
unfolding numbers_in field_of value_in raw_in number
numbers_in_lem b k = get_or-map (value_in b) catalogue k _

pub rewrites : Rewrites ask write room_after
rewrites b y l a = (
  (numbers_in b, λ k h. rw (numbers_in_lem b k) (ask_field b k a l h)),
  λ xs g. same_bytes b y l (rw (min-eq_left l) at a.sized) (a.ruled l) xs (λ k h. holds xs g k h),
)
  where
    holds : (xs : List ℤ) → Gives ask (version b) b xs → (k : ℕ) → InVersion (version b) k → number_for xs k ≡ value_in b (field_of k)
    holds xs g k h = let p = ask_field b k a l h in let q = g k h in cc
