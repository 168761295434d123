-- The family's record, from what the code's lookups say.
-- Assumes nothing.
use Prim.Native.Nat.{ℕ}
use mathlib.Core.Path.{◌≡◌, refl, sym, ap, ◌∙◌}
use mathlib.Core.Bool.{false}
use mathlib.Core.List.{List}
use lib.Dec.{eqb}
use Rattle.std.specs.Prelude.{Option as Maybe, Some, None, ok_or}
use Rattle.outcomes.specs.Outcomes.{answered, refusing, found_or}
use Rattle.name.specs.declared.Refusal.{Refusal}
use Rattle.name.specs.declared.Refusal.TheVariants.{TooShort, UnknownFormat, RecordsPastEnd, TagsPastEnd, StorageMisplaced}
use Rattle.name.specs.declared.Refusal.TheVariants.{StringBeyond, TagString, KeyBelow, LanguageRefused, KeyEqual, StringRunsOver}
use Rattle.name.specs.Refusals.{said_refusal}
use Rattle.name_search.specs.declared.Text.{Text}
use Rattle.name_lookup.specs.declared.LookupRefusal.TheVariants.{NoRecord}
use Rattle.name_lookup.specs.Answers.{said_answer, lookup_of}
use Rattle.face.specs.Replies.{said_record}
use Rattle.face.specs.Reading.{family_key, or_else, family_of}

-- no refusal of a table is 20
not_twenty : (r : Refusal) → eqb (said_refusal r).number 20 ≡ false
not_twenty TooShort = refl
not_twenty UnknownFormat = refl
not_twenty RecordsPastEnd = refl
not_twenty TagsPastEnd = refl
not_twenty StorageMisplaced = refl
not_twenty (StringBeyond i) = refl
not_twenty (TagString i) = refl
not_twenty (KeyBelow i) = refl
not_twenty (LanguageRefused i) = refl
not_twenty (KeyEqual i) = refl
not_twenty (StringRunsOver i) = refl

-- where no record is found, 20 is the error
pub said_or : (r : Maybe Text) → said_answer (ok_or r NoRecord) ≡ said_record r
unfolding found_or
said_or (Some x) = refl
said_or None = refl

module _ (n : List ℕ) where
  pub first_refused : (r : Refusal) → lookup_of n (family_key 16) ≡ refusing (said_refusal r) → family_of n ≡ refusing (said_refusal r)
  unfolding family_of or_else
  first_refused r e = rw (e, not_twenty r)

  -- as the code's lookups in an accepted table say it
  pub first_lacks : {r : Maybe Text} → r ≡ None → said_record r ≡ lookup_of n (family_key 16) → family_of n ≡ lookup_of n (family_key 1)
  unfolding family_of or_else found_or
  first_lacks d e = rw (sym e ∙ ap said_record d)

  pub first_has : {x : Text} → said_record (Some x) ≡ lookup_of n (family_key 16) → family_of n ≡ answered x
  unfolding family_of or_else found_or
  first_has e = rw (sym e)
