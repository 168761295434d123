-- The line of a row says what the row says: the field and both answers as the 'OS/2' listing writes them, and which of the three a key is.
-- Assumes nothing.
use Prim.Native.Nat.{ℕ}
use mathlib.Core.Path.{◌≡◌, refl}
use mathlib.Core.List.{List}
use native.Mathlib.Omega.{arith}
use borrow.Author.Tests.{le-ltb}
use lib.IntN.{ℤ, pos}
use Rattle.characters.specs.Texts.{codes}
use Rattle.lines.specs.Numerals.{decimal}
use Rattle.os2_figures.specs.Figures.{signed_text}
use Rattle.os2_answers.specs.declared.Answer.{Answer}
use Rattle.os2_answers.specs.declared.Answer.TheVariants.{Value, Absent, NotKnown}
use Rattle.os2_answers.specs.Replies.{said_answer}
use Rattle.os2_lines.specs.Listings as listings
use Rattle.os2_compare.specs.Differences.{kind_of, figure_of}
use Rattle.name_compare.specs.Differences.{left_only, right_only, both_other}
use Rattle.compare_lines.specs.Lines.{which_text, answer_text}

pub answer_reads : (b : List ℕ) (a : Answer ℤ) → answer_text (pos (kind_of a)) (figure_of a) ≡ listings.answer_text b (said_answer a)
unfolding answer_text
answer_reads b (Value x) = refl
answer_reads b Absent = refl
answer_reads b NotKnown = refl

pub field_reads : (k : ℕ) → signed_text (pos k) ≡ decimal k
unfolding signed_text
field_reads k = rw (le-ltb k 0 (omega arith))

pub left_reads : which_text left_only ≡ codes "left"
unfolding which_text
left_reads = refl

pub right_reads : which_text right_only ≡ codes "right"
unfolding which_text
right_reads = refl

pub both_reads : which_text both_other ≡ codes "both"
unfolding which_text
both_reads = refl
