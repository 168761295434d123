-- "Accepted exactly when": each refusal's test against its proposition, over every record and tag.
-- Assumes nothing.
use Prim.Native.Nat.{ℕ, zero, suc, ◌<◌}
use mathlib.Core.Path.{◌≡◌, refl}
use mathlib.Core.Logic.{◌↔◌}
use mathlib.Core.Option.{none}
use mathlib.Core.List.{List}
use native.Mathlib.Omega.{arith}
use Rattle.outcomes.specs.Outcomes.{accepted}
use Rattle.outcomes.proofs.Laws.{unless_answered}
use Rattle.name_layout.specs.Layout.{count, text_at}
use Rattle.name_layout.proofs.Layouts.{tags_after, word_lt}
use Rattle.name_tests.proofs.Tests.{string_held, Rises, first_above, above, language_fits}
use Rattle.name.specs.Acceptance.{faults, check_of}
use Rattle.name.specs.Acceptable.{Acceptable, AcceptedExactlyWhen, AtMost5460}
use Rattle.name.proofs.Acceptances.{Passed, no_fault}

pub acceptable : (t : List ℕ) → (faults t ≡ none) ↔ Acceptable t
acceptable t = (λ e. forth ((no_fault t).0 e), λ a. (no_fault t).1 (back a))
  where
    forth : Passed t → Acceptable t
    forth k =
        record {
          long = k.laid.long;
          known = k.laid.known;
          records = k.laid.records;
          tags = k.laid.tags;
          after = k.laid.placed.0;
          within = k.laid.placed.1;
          strings = λ i h. (string_held t (text_at i)).0 (k.sound i h).string;
          tag_strings = k.tags;
          rising = λ i h. (above t i).0 (k.sound (suc i) h).order;
          languages = λ i h. (language_fits t i k.laid.known).0 (k.sound i h).language;
        }

    back : Acceptable t → Passed t
    back a =
        record {
          laid = record { long = a.long; known = a.known; records = a.records; tags = a.tags; placed = (a.after, a.within) };
          sound = λ i h. record {
            string = (string_held t (text_at i)).1 (a.strings i h);
            language = (language_fits t i a.known).1 (a.languages i h);
            order = order i h;
          };
          tags = a.tag_strings;
        }
      where
        order : (i : ℕ) → i < count t → Rises t i
        order zero h = first_above t
        order (suc i) h = (above t i).1 (a.rising i h)

pub accepted_exactly_when : AcceptedExactlyWhen check_of
accepted_exactly_when t b = (
  λ e. (acceptable t).0 ((unless_answered (faults t) accepted tt).0 e).0,
  λ a. (unless_answered (faults t) accepted tt).1 ((acceptable t).1 a, refl),
)

-- the records and tags end by the storage's start, which is below 65,536
pub at_most_5460 : AtMost5460 check_of
at_most_5460 t b e =
    let a = (accepted_exactly_when t b).0 e in
    omega (arith, a.after, tags_after t, word_lt t b 4)
