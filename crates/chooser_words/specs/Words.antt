-- What the chooser says in the words of C. A member that does not apply is 0.
use Rattle.std.specs.Prelude.{ℕ, not, eqb}
use Rattle.outcomes.specs.Outcomes.{Outcome, refused, answered}
use Rattle.choice.specs.declared.Want.{Want}
use Rattle.refusal_words.specs.Words.{refusal_words, no_refusal}
use Rattle.chooser_words.specs.declared.GvChosen.{GvChosen}

-- the slot that is chosen
unfoldable pub chosen_words : Outcome ℕ → GvChosen
chosen_words (refused n c) = record { refusal = refusal_words n c; slot = 0 }
chosen_words (answered i) = record { refusal = no_refusal; slot = i }

-- what a request wants: 0 for upright, any other number for sloped
abbrev pub want_of : ℕ → ℕ → ℕ → Want
want_of weight width slope = record { weight = weight; width = width; sloped = not (eqb slope 0) }
