-- Document 01, end of "Examples to check against", and document 02, Ask 4: the lines of a 'name' table's listing, each as its bytes.
use Rattle.std.specs.Prelude.{ℕ, ◌+◌, ◌*◌, List, ◌++◌}
use Rattle.characters.specs.Texts.{codes}
use Rattle.lines.specs.Numerals.{most_digits, decimal}
use Rattle.lines.specs.Lines.{numbered}

-- "the first line ends with the storage's length"
unfoldable pub head_line : ℕ → ℕ → ℕ → List ℕ
head_line format records storage =
    numbered "name format " format ++ numbered " records " records ++ numbered " storage " storage ++ codes "\n"

-- "four key parts", each behind a space, and the most bytes that they have
unfoldable pub key_parts : ℕ → ℕ → ℕ → ℕ → List ℕ
key_parts platform encoding language name =
    numbered " " platform ++ numbered " " encoding ++ numbered " " language ++ numbered " " name

abbrev pub key_room : ℕ
key_room = 4 * (1 + most_digits)

-- "record lines are number, four key parts, offset, length"
unfoldable pub record_line : ℕ → ℕ → ℕ → ℕ → ℕ → ℕ → ℕ → List ℕ
record_line i platform encoding language name offset len =
    decimal i ++ key_parts platform encoding language name ++ numbered " " offset ++ numbered " " len ++ codes "\n"

-- "The listing adds ` record ` and that number after the name or version"
abbrev pub of_record : ℕ → List ℕ
of_record i = numbered " record " i

-- the PostScript name's own characters
unfoldable pub postscript_line : List ℕ → ℕ → List ℕ
postscript_line name i = codes "postscript " ++ name ++ of_record i ++ codes "\n"

-- "a PostScript refusal `postscript refused 21`"
abbrev pub postscript_refused : ℕ → List ℕ
postscript_refused number = numbered "postscript refused " number ++ codes "\n"

-- "A version found reads `version 2 5`", and then its record
unfoldable pub version_line : ℕ → ℕ → ℕ → List ℕ
version_line major minor i = numbered "version " major ++ numbered " " minor ++ of_record i ++ codes "\n"

-- a version's refusal reads alike
abbrev pub version_refused : ℕ → List ℕ
version_refused number = numbered "version refused " number ++ codes "\n"
