-- What a page of lines holds.
use Rattle.std.specs.Prelude.{cond, ltb, ℕ, ◌-◌, List, [], length}
use Rattle.lines.specs.Lines.{line_room}

-- the bytes that a page has room for
abbrev pub page_room : ℕ
page_room = 4096

-- what still waits when the next line comes: all, or nothing where less than a line's room is left, since it is written then
unfoldable pub waiting : List ℕ → List ℕ
waiting lines = cond (ltb (page_room - length lines) line_room) [] lines
