-- In format 0 there are no tags; in format 1 their count follows the records, within the table.
use mathlib.Core.Path.{sym, ◌∙◌}
use native.Mathlib.Omega.{arith}
use Rattle.name_layout.proofs.Layouts.{format_0, format_1}
use Rattle.name_layout.proofs.Table.tag_count.Goals as goal

pub returns-then-format_number-eq0 : goal.returns-then-format_number-eq0
returns-then-format_number-eq0 c = let e = format_0 c.args.self.now.bytes.now (sym c.format_number.ensures ∙ c.if-format_number-eq0.true) in
    sym e.0

pub read_u16-requires : goal.read_u16-requires
read_u16-requires c = let e = format_1 c.args.self.now.bytes.now (rw c.format_number.ensures at c.if-format_number-eq0.false) in
    omega arith

pub returns : goal.returns
returns c = let e = format_1 c.args.self.now.bytes.now (rw c.format_number.ensures at c.if-format_number-eq0.false) in
    rw (e.0, ← c.records_end.ensures) c.read_u16.ensures
