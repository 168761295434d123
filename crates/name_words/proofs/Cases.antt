-- The words of an answer on a 'name' table written out as include/gyalvindor.h has them, member by member: by computing.
-- Assumes nothing.
use Prim.Native.Nat.{ℕ}
use mathlib.Core.Path.{◌≡◌, refl}
use mathlib.Core.Option.{Option}
use Rattle.outcomes.specs.Outcomes.{refused, answered}
use Rattle.refusal_words.specs.declared.GvRefusal.{GvRefusal}
use Rattle.refusal_words.specs.Words.{refusal_words}
use Rattle.refusal_words.proofs.Cases.{ok}
use Rattle.name_words.specs.declared.GvFound.{GvFound}
use Rattle.name_words.specs.declared.GvText.{GvText}
use Rattle.name_words.specs.declared.GvVersion.{GvVersion}
use Rattle.name_words.specs.Words.{found_words, text_words, version_words}

-- ---- the structs, their members in the header's order

abbrev found : GvRefusal → (start len number looked : ℕ) → GvFound
found r s n i l = record { refusal = r; start = s; length = n; «record» = i; looked = l }

abbrev text : GvRefusal → (start len number : ℕ) → GvText
text r s n i = record { refusal = r; start = s; length = n; «record» = i }

abbrev figures : GvRefusal → (major minor number : ℕ) → GvVersion
figures r a b i = record { refusal = r; major = a; minor = b; «record» = i }

-- ---- "Where it is refused, all members after the refusal are 0, in every answer", but `looked`: for every refusal

pub record Zeros (n : ℕ) (c : Option ℕ) : Type 0 where
  pub of_found : (looked : ℕ) → found_words (refused n c) looked ≡ found (refusal_words n c) 0 0 0 looked
  pub of_text : text_words (refused n c) ≡ text (refusal_words n c) 0 0 0
  pub of_version : version_words (refused n c) ≡ figures (refusal_words n c) 0 0 0

pub zeros : (n : ℕ) (c : Option ℕ) → Zeros n c
unfolding found_words text_words version_words
zeros n c = record { of_found = λ looked. refl; of_text = refl; of_version = refl }

-- ---- answers

pub lookup_found : (s n i l : ℕ) → found_words (answered (record { start = s; len = n; «record» = i })) l ≡ found ok s n i l
unfolding found_words
lookup_found s n i l = refl

pub text_found : (s n i : ℕ) → text_words (answered (record { start = s; len = n; «record» = i })) ≡ text ok s n i
unfolding text_words
text_found s n i = refl

pub version_found : (a b i : ℕ) → version_words (answered (record { major = a; minor = b; «record» = i })) ≡ figures ok a b i
unfolding version_words
version_found a b i = refl
