-- What stands in the words of the chooser's answers, member by member; and from them the answer can be read back, so they lose nothing.
-- Assumes nothing.
use Prim.Native.Nat.{ℕ}
use mathlib.Core.Path.{◌≡◌, refl, ap, ◌∙◌}
use Rattle.std.specs.Prelude.{Result, Ok, Err, OnOk, IfErr}
use Rattle.outcomes.specs.declared.Told.{Told}
use mathlib.Core.Bool.{true, false}
use mathlib.Core.Option.{Option, none, some}
use mathlib.Core.List.{List, [], ◌∷◌, map}
use Rattle.outcomes.specs.Outcomes.{bare, refusal_of, Outcome, refused, answered, found_or}
use Rattle.choice.specs.Faces.{Slots}
use Rattle.choice.specs.Ranks.{Placed, best, request_of}
use Rattle.choice.specs.declared.Want.{Want}
use Rattle.chooser.specs.Calls.{done_of}
use Rattle.chooser.specs.Replies.{said_refusal, said_change}
use Rattle.chooser.specs.declared.Refusal.{Refusal}
use Rattle.refusal_words.specs.declared.GvRefusal.{GvRefusal}
use Rattle.refusal_words.specs.Words.{no_refusal, told_words, refusal_words, outcome_refusal}
use Rattle.refusal_words.proofs.ReadBack.{said}
use Rattle.chooser_words.specs.declared.GvChosen.{GvChosen}
use Rattle.chooser_words.specs.Words.{chosen_words, want_of}

-- where a request is refused, the slot is 0
pub zeros : (n : ℕ) (c : Option ℕ) → chosen_words (refused n c) ≡ record { refusal = refusal_words n c; slot = 0 }
unfolding chosen_words
zeros n c = refl

pub slot_chosen : (i : ℕ) → chosen_words (answered i) ≡ record { refusal = record { number = 0; carries = 0; carried = 0 }; slot = i }
unfolding chosen_words
slot_chosen i = refl

-- 0 is upright, and any other number sloped
pub slopes : map (λ k. (want_of 400 5 k).sloped) (0 ∷ 1 ∷ 2 ∷ 65536 ∷ 4294967295 ∷ []) ≡ false ∷ true ∷ true ∷ true ∷ true ∷ []
slopes = refl

pub wants : (weight width : ℕ) → want_of weight width 0 ≡ record { weight = weight; width = width; sloped = false }
wants weight width = refl

-- a load's words are those of its refusal
pub done_words : {A : Type 0} (o : Outcome A) → outcome_refusal (done_of o) ≡ outcome_refusal o
unfolding outcome_refusal done_of
done_words (refused n c) = refl
done_words (answered x) = refl

-- a load's or an unload's words, from what its refusals convert to
pub change_said : (r : Result (Unit {0}) Refusal) {w : GvRefusal} → OnOk r (w ≡ no_refusal)
    → IfErr r (λ e. (told : Told) × (refusal_of told ≡ said_refusal e) × (w ≡ told_words (refusal_of told)))
    → w ≡ outcome_refusal (said_change r)
unfolding outcome_refusal
change_said (Ok u) a b = a
change_said (Err e) a b = b.2 ∙ ap told_words b.1

-- ---- read back

abbrev pub chosen_said : GvChosen → Outcome ℕ
chosen_said w = said w.refusal w.slot

pub chosen_back : (m : Slots) (family : List ℕ) (w : Want) → chosen_said (chosen_words (request_of m family w)) ≡ request_of m family w
unfolding chosen_words request_of found_or
chosen_back m family w = at (best m family w 32)
  where
    at : (o : Option Placed) → chosen_said (chosen_words (found_or (bare 50) o (λ p. answered p.slot))) ≡ found_or (bare 50) o (λ p. answered p.slot)
    at none = refl
    at (some p) = refl
