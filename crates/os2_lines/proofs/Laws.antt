-- What a table of which a level gives a line's value has: the fields that the value is read from, and a width class of rule 2.
-- Assumes nothing.
use Rattle.std.proofs.Common.{ℕ, ◌<◌, ◌≡◌, List, refl, arith}
use Rattle.os2_rules.specs.Rules.{WidthRule}
use Rattle.os2_fields.specs.Catalogue.{field_of}
use Rattle.os2_fields.specs.Fields.{raw, version, values_of}
use Rattle.os2_fields.specs.Reading.{Lies, Word}
use Rattle.os2_acceptance.proofs.Accepting.{open_lies, open_word, open_rules}
use Rattle.os2_questions.specs.Questions.{since, on_whole}
use Rattle.os2_questions.proofs.Cases.{Held, held}
use Rattle.os2_lines.specs.declared.Row.{Row}
use Rattle.os2_lines.specs.declared.Row.TheVariants.{Field, StylePosition, OpticalSizes}
use Rattle.os2_lines.specs.Reading.{asked, Given}

module _ {b : List ℕ} {row : Row} (g : Given b row) where
  held_row : Held (since (asked row)) (on_whole (asked row)) g.level (version b)
  held_row = held _ _ g.level (version b) g.case

  pub field_lies : (k : ℕ) → row ≡ Field k → Lies b (field_of k)
  unfolding since
  field_lies k e =
      let p = rw e at held_row in
      open_lies _ _ g.accepted k (rw e at g.range) p.known p.there

  -- a word of every version, and one of version 5
  pub old_word : (n : ℕ) → n < 48 → (field_of n).width ≡ 2 → (field_of n).since ≡ 0 → Word b (field_of n)
  old_word n h w s = open_word _ _ g.accepted n h w (omega arith) (omega arith)

  pub sizes_word : row ≡ OpticalSizes → (n : ℕ) → n < 48 → (field_of n).width ≡ 2 → (field_of n).since ≡ 5 → Word b (field_of n)
  unfolding since
  sizes_word e n h w s = let p = rw e at held_row in open_word _ _ g.accepted n h w (omega (arith, p.known)) (omega (arith, p.there))

  pub style_width : row ≡ StylePosition → WidthRule (raw b 3)
  unfolding on_whole values_of
  style_width e = (open_rules _ _ g.accepted ((rw e at held_row).old refl) 2).rule_2 refl
