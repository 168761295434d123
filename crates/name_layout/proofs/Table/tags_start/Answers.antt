-- In format 0 nothing follows the records; in format 1 the tag count does.
use mathlib.Core.Path.{sym, ◌∙◌}
use Rattle.name_layout.proofs.Layouts.{format_0, format_1}
use Rattle.name_layout.proofs.Table.tags_start.Goals as goal

pub returns-then-format_number-eq0 : goal.returns-then-format_number-eq0
returns-then-format_number-eq0 c = let e = format_0 c.args.self.now.bytes.now (sym c.format_number.ensures ∙ c.if-format_number-eq0.true) in
    c.records_end.ensures ∙ sym e.1

pub returns : goal.returns
returns c = let e = format_1 c.args.self.now.bytes.now (rw c.format_number.ensures at c.if-format_number-eq0.false) in
    rw (e.1, ← c.records_end-2.ensures)
