-- From the words of an answer on a 'name' table the answer can be read back, so they lose nothing.
-- Assumes nothing.
use Prim.Native.Nat.{ℕ}
use mathlib.Core.Path.{◌≡◌, refl}
use mathlib.Core.Bool.{Bool}
use mathlib.Core.Option.{Option}
use mathlib.Core.List.{List}
use Rattle.outcomes.specs.Outcomes.{Refusal, Outcome, refused, answered, unless}
use Rattle.outcomes.proofs.Laws.{Only}
use Rattle.version_text.specs.Versions.{Figures, version_in}
use Rattle.version_text.proofs.Rules.{refused_25}
use Rattle.name_search.specs.declared.Text.{Text}
use Rattle.name_answers.specs.Versions.{Reading, read_from}
use Rattle.refusal_words.proofs.ReadBack.{said, Numbered, back_unless}
use Rattle.name_words.specs.declared.GvFound.{GvFound}
use Rattle.name_words.specs.declared.GvText.{GvText}
use Rattle.name_words.specs.declared.GvVersion.{GvVersion}
use Rattle.name_words.specs.Words.{found_words, text_words, version_words}

-- ---- what a lookup found, and how many records it looked at

abbrev found_in : GvFound → Text
found_in w = record { start = w.start; len = w.length; «record» = w.«record» }

abbrev pub found_said : GvFound → Outcome Text
found_said w = said w.refusal (found_in w)

pub found_back : (n : ℕ) (r : Option Refusal) (o : Outcome Text) → Only Numbered r → found_said (found_words o n) ≡ o → found_said (found_words (unless r o) n) ≡ unless r o
unfolding found_words
found_back n r o p h = back_unless (λ x. found_words x n) (λ w. w.refusal) found_in (λ m c. refl) r o p h

pub looked_back : (o : Outcome Text) (n : ℕ) → (found_words o n).looked ≡ n
unfolding found_words
looked_back (refused m c) n = refl
looked_back (answered x) n = refl

-- ---- a string

abbrev text_in : GvText → Text
text_in w = record { start = w.start; len = w.length; «record» = w.«record» }

abbrev pub text_said : GvText → Outcome Text
text_said w = said w.refusal (text_in w)

pub text_back : (r : Option Refusal) (o : Outcome Text) → Only Numbered r → text_said (text_words o) ≡ o → text_said (text_words (unless r o)) ≡ unless r o
unfolding text_words
text_back r o p h = back_unless text_words (λ w. w.refusal) text_in (λ n c. refl) r o p h

-- ---- a version number

abbrev reading_in : GvVersion → Reading
reading_in w = record { major = w.major; minor = w.minor; «record» = w.«record» }

abbrev pub version_said : GvVersion → Outcome Reading
version_said w = said w.refusal (reading_in w)

pub version_back : (r : Option Refusal) (o : Outcome Reading) → Only Numbered r → version_said (version_words o) ≡ o → version_said (version_words (unless r o)) ≡ unless r o
unfolding version_words
version_back r o p h = back_unless version_words (λ w. w.refusal) reading_in (λ n c. refl) r o p h

-- the number in a record's string, or 25
pub number_back : (i : ℕ) (wide : Bool) (bytes : List ℕ) → let o = read_from i (version_in wide bytes) in version_said (version_words o) ≡ o
unfolding read_from version_words
number_back i wide bytes = at (version_in wide bytes) refl
  where
    at : (f : Outcome Figures) → version_in wide bytes ≡ f → let o = read_from i (version_in wide bytes) in version_said (version_words o) ≡ o
    at (answered f) e = rw e refl
    at (refused n c) e = rw (refused_25 wide bytes e) refl
