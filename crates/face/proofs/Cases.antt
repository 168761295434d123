-- What two tables give, case by case, as the code comes to it.
-- Assumes nothing.
use Prim.Native.Nat.{ℕ, ◌<◌, ◌≤◌}
use mathlib.Core.Path.{◌≡◌, sym, ap, ◌∙◌}
use mathlib.Core.Bool.{true, false}
use mathlib.Core.Option.{Option, none, some}
use mathlib.Core.List.{List}
use native.Mathlib.Omega.{arith}
use lib.Dec.{ltb}
use Rattle.bigendian.specs.Numbers.{Bytes}
use Rattle.outcomes.specs.Firsts.{when, ◌then◌}
use Rattle.std.specs.Prelude.{Result, Ok, Err, IsErrAnd}
use Rattle.choice.specs.Faces.{Face}
use Rattle.outcomes.specs.Outcomes.{Refusal, Outcome, bare, refused, answered, unless, refusing}
use Rattle.outcomes.proofs.Laws.{unless_answered}
use Rattle.level.specs.Levels.{newest}
use Rattle.os2_fields.specs.Fields.{version}
use Rattle.os2_acceptance.specs.Acceptance.{judged}
use Rattle.os2_acceptance.specs.Settled.{Accepted}
use Rattle.os2_acceptance.proofs.Accepting.{judged_exactly}
use Rattle.os2_questions.specs.declared.Question.TheVariants.{Field}
use Rattle.os2_questions.specs.Questions.{own_refusal}
use Rattle.os2_questions.proofs.Settling.{under}
use Rattle.os2_answers.specs.Values.{Said}
use Rattle.os2_answers.specs.Asking.{given, ask}
use Rattle.os2_answers.proofs.Settling.{ask_above, ask_judged}
use Rattle.name_search.specs.declared.Text.{Text}
use Rattle.face.specs.Reading.{number_in, newer, os2_fault, face_of, family_of, unfit, named, face_in}
use Rattle.face.specs.declared.FaceAt.{FaceAt}
use Rattle.face.specs.declared.Refusal as face
use Rattle.face.specs.Replies.{said_face_refusal, said_found, FoundFits, face_at, style_of, Fits}
use Rattle.face.proofs.Answers.{figure, version_answer, version_says}
use Rattle.face.proofs.Settling.{fit_exactly, family_inside}

module _ (L : ℕ) (b : List ℕ) where
  -- the code has the level as one of the six, of the same number
  pub face_above : newest < L → ask L b (Field 0) ≡ refused 1 none
  face_above = ask_above L b (Field 0)

  pub face_judged : (K : ℕ) (r : Refusal) → L ≤ newest → K ≡ L → refusing r ≡ unless (judged K b) (answered K) → ask L b (Field 0) ≡ refusing r
  unfolding unless own_refusal
  face_judged K r l e d = ask_judged L b (Field 0) l ((under 47 0 (bare 6)).1 (omega arith)) ∙ at (judged L b) (d ∙ ap (λ M. unless (judged M b) (answered M)) e)
    where
      at : (o : Option Refusal) → refusing r ≡ unless o (answered L) → unless o (answered (given L b (Field 0))) ≡ refusing r
      at (some q) h = let n : q.number ≡ r.number = cc in let c : q.carried ≡ r.carried = cc in λ i. refused (n i) (c i)
      at none h = let z : ◌≡◌ {A = ℕ} 0 1 = cc in absurd (omega arith)

  pub face_accepted : (K x : ℕ) → K ≡ L → answered x ≡ unless (judged K b) (answered K) → Accepted L b
  face_accepted K x e d = (judged_exactly L b).0 (rw e at ((unless_answered (judged K b) (answered K) x).0 (sym d)).0)

  pub face_version : L ≤ newest → Accepted L b → ask L b (Field 0) ≡ answered (figure (version b))
  face_version l a = version_answer L b l a (version_says b)

  pub face_newness : L ≤ newest → Accepted L b → newer L b ≡ ltb L (version b)
  unfolding newer
  face_newness l a = ap (λ o. ltb L (number_in o)) (face_version l a)

-- an error that is passed on is the answer, and has no text to fit
pub passed_on : (n : List ℕ) (r : Result FaceAt face.Refusal) (e : face.Refusal) {o : Outcome Face} → IsErrAnd r (λ x. x ≡ e) → refusing (said_face_refusal e) ≡ o →
    (said_found n r ≡ o) × FoundFits n r
passed_on n (Ok x) e h d = absurd h
passed_on n (Err x) e h d = (ap (λ y. refusing (said_face_refusal y)) h ∙ d, tt)

module _ (L : ℕ) (b n : List ℕ) where
  pub face_refused : {k : ℕ} {c : Option ℕ} → ask L b (Field 0) ≡ refused k c → face_in L b n ≡ refused k c
  unfolding face_in os2_fault ◌then◌ unless
  face_refused e = rw e

  pub face_newer : {s : Said} → ask L b (Field 0) ≡ answered s → newer L b ≡ true → face_in L b n ≡ refused 52 none
  unfolding face_in os2_fault ◌then◌ when unless
  face_newer e h = rw (e, h)

  pub face_named : {s : Said} → ask L b (Field 0) ≡ answered s → newer L b ≡ false → face_in L b n ≡ named L b n (family_of n)
  unfolding face_in os2_fault ◌then◌ when unless
  face_named e h = rw (e, h)

  pub named_refused : {k : ℕ} {c : Option ℕ} → family_of n ≡ refused k c → named L b n (family_of n) ≡ refused k c
  unfolding named
  named_refused e = rw e

  pub named_unfit : {x : Text} → family_of n ≡ answered x → unfit x.len ≡ true → named L b n (family_of n) ≡ refused 51 none
  unfolding named when unless
  named_unfit e h = rw (e, h)

  pub named_face : {x : Text} → family_of n ≡ answered x → unfit x.len ≡ false → named L b n (family_of n) ≡ answered (face_at n (style_of L b x))
  unfolding named face_of when unless
  named_face e h = rw (e, h)

  pub face_fits : Bytes n → {x : Text} → family_of n ≡ answered x → unfit x.len ≡ false → Fits n (style_of L b x)
  face_fits y {x} e h = let f = (fit_exactly x.len).0 h in record { inside = family_inside n y x e; some = f.0; most = f.1 }
