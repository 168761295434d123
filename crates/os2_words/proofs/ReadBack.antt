-- From the words of an answer on an 'OS/2' table the answer can be read back, so they lose nothing; and from those of the writer's.
-- Assumes nothing.
use Prim.Native.Nat.{ℕ}
use mathlib.Core.Path.{◌≡◌, refl}
use mathlib.Core.Bool.{cond}
use mathlib.Core.Option.{Option}
use lib.Dec.{eqb}
use Rattle.outcomes.specs.Outcomes.{Refusal, Outcome, answered, unless}
use Rattle.outcomes.proofs.Laws.{Only}
use Rattle.os2_style.specs.Style.{Sizes, every, upwards, between}
use Rattle.os2_answers.specs.Values.{Value, integer, rights, position, sizes, Said, value, absent, not_known}
use Rattle.refusal_words.specs.Words.{outcome_refusal}
use Rattle.refusal_words.proofs.ReadBack.{said, Numbered, back_unless}
use Rattle.os2_words.specs.declared.GvNumber.{GvNumber}
use Rattle.os2_words.specs.declared.GvRights.{GvRights}
use Rattle.os2_words.specs.declared.GvStyle.{GvStyle}
use Rattle.os2_words.specs.declared.GvOptical.{GvOptical}
use Rattle.os2_words.specs.declared.GvWritten.{GvWritten}
use Rattle.os2_words.specs.Words.{members_of, optical_words, written_words}

-- ---- the questions: by the kind of the answer

abbrev pub said_by : ℕ → Value → Said
said_by k v = cond (eqb k 1) (value v) (cond (eqb k 2) absent not_known)

abbrev pub number_said : GvNumber → Outcome Said
number_said w = said w.refusal (said_by w.kind (integer w.value))

abbrev pub rights_said : GvRights → Outcome Said
rights_said w = said w.refusal (said_by w.kind (rights w.rights))

abbrev pub style_said : GvStyle → Outcome Said
style_said w = said w.refusal (said_by w.kind (position w.weight w.width))

abbrev pub sizes_in : GvOptical → Sizes
sizes_in w = cond (eqb w.sizes 1) every (cond (eqb w.sizes 2) (upwards w.lower) (between w.lower w.upper))

abbrev pub optical_said : GvOptical → Outcome Said
optical_said w = said w.refusal (said_by w.kind (sizes (sizes_in w)))

pub sizes_back : (s : Sizes) → optical_said (optical_words (answered (value (sizes s)))) ≡ answered (value (sizes s))
unfolding optical_words members_of outcome_refusal
sizes_back every = refl
sizes_back (upwards l) = refl
sizes_back (between l u) = refl

-- ---- the writer

abbrev pub written_said : GvWritten → Outcome ℕ
written_said w = said w.refusal w.size

pub written_back : (r : Option Refusal) (n : ℕ) → Only Numbered r → written_said (written_words (unless r (answered n))) ≡ unless r (answered n)
unfolding written_words
written_back r n p = back_unless written_words (λ w. w.refusal) (λ w. w.size) (λ n c. refl) r (answered n) p refl
