-- An answer on an 'OS/2' table, or of the writer, in the words of C: what stands in each member of the structs. A member that does not apply is 0.
use Rattle.std.specs.Prelude.{ℕ, ℤ, pos, Float}
use Rattle.std.specs.Float.{binary32}
use Rattle.std.specs.Float.Ieee.{of_bits}
use Rattle.outcomes.specs.Outcomes.{Outcome, refused, answered}
use Rattle.os2_style.specs.Style.{every, upwards, between}
use Rattle.os2_answers.specs.Values.{integer, rights, position, sizes, Said, value, absent, not_known}
use Rattle.refusal_words.specs.Words.{refusal_words, no_refusal, outcome_refusal}
use Rattle.os2_words.specs.declared.GvNumber.{GvNumber}
use Rattle.os2_words.specs.declared.GvRights.{GvRights}
use Rattle.os2_words.specs.declared.GvStyle.{GvStyle}
use Rattle.os2_words.specs.declared.GvOptical.{GvOptical}
use Rattle.os2_words.specs.declared.GvWritten.{GvWritten}

-- ---- the questions

-- the members of an answer of any kind
pub record Members : Type 0 where
  -- 0 none, the call being refused, 1 a value, 2 absent, 3 not known
  pub kind : ℕ
  -- of a field or a bit
  pub number : ℤ
  -- 0 installable, 1 restricted, 2 preview, 3 editable
  pub rights : ℕ
  -- of the style position
  pub weight : Float
  pub width : Float
  -- of optical sizes: 0 none, 1 every size, 2 from `lower` upwards, 3 between `lower` and `upper`
  pub sizes : ℕ
  pub lower : Float
  pub upper : Float

-- 0.0
abbrev nought : Float
nought = of_bits binary32 0

-- the members in their order
abbrev row : ℕ → ℤ → ℕ → Float → Float → ℕ → Float → Float → Members
row k x r w p s l u = record { kind = k; number = x; rights = r; weight = w; width = p; sizes = s; lower = l; upper = u }

-- each question gives values of one kind, whose members it shows; the members of the other kinds are 0
unfoldable pub members_of : Outcome Said → Members
members_of (refused n c) = row 0 (pos 0) 0 nought nought 0 nought nought
members_of (answered absent) = row 2 (pos 0) 0 nought nought 0 nought nought
members_of (answered not_known) = row 3 (pos 0) 0 nought nought 0 nought nought
members_of (answered (value (integer x))) = row 1 x 0 nought nought 0 nought nought
members_of (answered (value (rights k))) = row 1 (pos 0) k nought nought 0 nought nought
members_of (answered (value (position w p))) = row 1 (pos 0) 0 w p 0 nought nought
members_of (answered (value (sizes every))) = row 1 (pos 0) 0 nought nought 1 nought nought
members_of (answered (value (sizes (upwards l)))) = row 1 (pos 0) 0 nought nought 2 l nought
members_of (answered (value (sizes (between l u)))) = row 1 (pos 0) 0 nought nought 3 l u

-- of a field or a bit
unfoldable pub number_words : Outcome Said → GvNumber
number_words o = record { refusal = outcome_refusal o; kind = (members_of o).kind; value = (members_of o).number }

unfoldable pub rights_words : Outcome Said → GvRights
rights_words o = record { refusal = outcome_refusal o; kind = (members_of o).kind; rights = (members_of o).rights }

unfoldable pub style_words : Outcome Said → GvStyle
style_words o = record { refusal = outcome_refusal o; kind = (members_of o).kind; weight = (members_of o).weight; width = (members_of o).width }

unfoldable pub optical_words : Outcome Said → GvOptical
optical_words o = record { refusal = outcome_refusal o; kind = (members_of o).kind; sizes = (members_of o).sizes; lower = (members_of o).lower; upper = (members_of o).upper }

-- ---- the writer: the bytes written
unfoldable pub written_words : Outcome ℕ → GvWritten
written_words (refused n c) = record { refusal = refusal_words n c; size = 0 }
written_words (answered n) = record { refusal = no_refusal; size = n }
