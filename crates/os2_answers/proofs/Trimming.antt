-- What a level answers on some bytes it answers on their first bytes, up to the size for the smaller of version and level.
-- Assumes nothing.
use Prim.Native.Nat.{ℕ, min, ◌+◌, ◌/◌, ◌<◌, ◌≤◌, zero-le}
use mathlib.Core.Path.{◌≡◌, refl, sym, ◌∙◌}
use mathlib.Core.Bool.{Bool, true, false}
use mathlib.Core.Option.{Option, none, some}
use mathlib.Core.List.{List}
use native.Mathlib.Decide.{dec_lt}
use native.Mathlib.Omega.{arith}
use lib.ListN.{length, take}
use lib.Seq.{take_all}
use Rattle.outcomes.specs.Outcomes.{Refusal, bare}
use Rattle.level.specs.Levels.{newest}
use Rattle.level.specs.Sizes.{table_size}
use Rattle.os2_fields.specs.Catalogue.{catalogue, field_of}
use Rattle.os2_fields.specs.Fields.{version}
use Rattle.os2_fields.proofs.Tiling.{raw_same, value_same, range_since, page_since}
use Rattle.os2_acceptance.specs.Demands.{trimmed}
use Rattle.os2_acceptance.proofs.Trimming.{version_same, judged_trimmed}
use Rattle.os2_questions.specs.declared.Question.{Question}
use Rattle.os2_questions.specs.declared.Question.TheVariants.{Field, SelectionBit, UnicodeBit, CodePageBit, Rights, StylePosition, OpticalSizes}
use Rattle.os2_questions.specs.Questions.{own_refusal, since, on_whole}
use Rattle.os2_questions.specs.Cases.{above}
use Rattle.os2_questions.proofs.Cases.{known_exactly, not_above}
use Rattle.os2_questions.proofs.Settling.{unknown_to, under}
use Rattle.os2_answers.specs.Asking.{value_of, given, ask}
use Rattle.os2_answers.specs.Demands.{ReadsNoMore}
use Rattle.os2_answers.proofs.Cases.{given_not_known, given_absent, given_value}
use Rattle.os2_answers.proofs.Settling.{ask_above, ask_own, ask_judged}

asked_same : (b : List ℕ) (v : ℕ) (q : Question) → own_refusal q ≡ none → since q ≤ v → value_of (take (table_size v) b) q ≡ value_of b q
unfolding value_of since own_refusal field_of catalogue
asked_same b v (Field k) r s = simp (value_same b v k (omega (arith, (under 47 k (bare 6)).0 r)) s)
asked_same b v (SelectionBit n) r s = rw (raw_same b v 31 (omega arith) zero-le)
asked_same b v (UnicodeBit n) r s =
    let h : n / 32 < 4 = omega (arith, (under 127 n (bare 7)).0 r) in
    rw (raw_same b v (26 + n / 32) (omega arith) (omega (arith, range_since (n / 32) h)))
asked_same b v (CodePageBit n) r s =
    let h : n / 32 < 2 = omega (arith, (under 63 n (bare 7)).0 r) in
    rw (raw_same b v (39 + n / 32) (omega arith) (omega (arith, page_since (n / 32) h)))
asked_same b v Rights r s = rw (raw_same b v 4 (omega arith) zero-le)
asked_same b v StylePosition r s = rw (raw_same b v 2 (omega arith) zero-le, raw_same b v 3 (omega arith) zero-le)
asked_same b v OpticalSizes r s = rw (raw_same b v 46 (omega arith) s, raw_same b v 47 (omega arith) s)

module _ (L : ℕ) (b : List ℕ) (q : Question) where
  given_same : table_size (min (version b) L) ≤ length b → own_refusal q ≡ none → given L (trimmed L b) q ≡ given L b q
  given_same s r = at (unknown_to L b q) refl (above (since q) (version b)) refl
    where
      v : version (trimmed L b) ≡ version b
      v = version_same L b s

      at : (t : Bool) → unknown_to L b q ≡ t → (u : Bool) → above (since q) (version b) ≡ u → given L (trimmed L b) q ≡ given L b q
      at true e u d = given_not_known L (trimmed L b) q (rw v e) ∙ sym (given_not_known L b q e)
      at false e true d = given_absent L (trimmed L b) q (rw v e) (rw v d) ∙ sym (given_absent L b q e d)
      at false e false d =
          let known = ((known_exactly (since q) (on_whole q) L (version b)).0 e).0 in
          let there = (not_above (since q) (version b)).0 d in
          given_value L (trimmed L b) q (rw v e) (rw v d)
          ∙ (rw (asked_same b (min (version b) L) q r (omega arith)) (sym (given_value L b q e d)))

  asked_trimmed : ask L (trimmed L b) q ≡ ask L b q
  asked_trimmed = size (dec_lt (length b) (table_size (min (version b) L)))
    where
      number : table_size (min (version b) L) ≤ length b → L ≤ newest → (o : Option Refusal) → own_refusal q ≡ o → ask L (trimmed L b) q ≡ ask L b q
      number s h (some r) e = ask_own L (trimmed L b) q h e ∙ sym (ask_own L b q h e)
      number s h none e = ask_judged L (trimmed L b) q h e ∙ (rw (judged_trimmed L b, given_same s e) (sym (ask_judged L b q h e)))

      level : table_size (min (version b) L) ≤ length b → Dec (newest < L) → ask L (trimmed L b) q ≡ ask L b q
      level s (yes h) = ask_above L (trimmed L b) q h ∙ sym (ask_above L b q h)
      level s (no h) = number s (omega arith) (own_refusal q) refl

      size : Dec (length b < table_size (min (version b) L)) → ask L (trimmed L b) q ≡ ask L b q
      size (yes h) = rw (take_all (table_size (min (version b) L)) b (omega arith))
      size (no h) = level (omega arith) (dec_lt newest L)

pub extra_bytes : ReadsNoMore ask
extra_bytes L b q = asked_trimmed L b q
