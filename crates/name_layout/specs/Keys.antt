-- Document 01, "The key is platform, encoding, language, name, compared in that order": as tests, as propositions, and as the code's one number.
use Rattle.std.specs.Prelude.{ℕ, ◌+◌, ◌*◌, ◌<◌, ◌≡◌, ◌⊎◌, Bool, ◌&&◌, ◌||◌, List, ltb, eqb}
use Rattle.name_layout.specs.Layout as layout
use Rattle.name_layout.specs.declared.Key.{Key as Numbers}

-- a key: its four numbers
pub record Key : Type 0 where
  pub platform : ℕ
  pub encoding : ℕ
  pub language : ℕ
  pub name : ℕ

-- four numbers as a key
abbrev pub key_from : ℕ → ℕ → ℕ → ℕ → Key
key_from p e l n = record { platform = p; encoding = e; language = l; name = n }

-- a key of the code
abbrev pub key_in : Numbers ℕ → Key
key_in k = key_from k.platform k.encoding k.language k.name

-- the key of record i
unfoldable pub key_of : List ℕ → ℕ → Key
key_of t i = key_from (layout.platform t i) (layout.encoding t i) (layout.language t i) (layout.name_id t i)

-- all four numbers of two keys are equal
unfoldable pub same : Key → Key → Bool
same j k = eqb j.platform k.platform && eqb j.encoding k.encoding && eqb j.language k.language && eqb j.name k.name

-- "compared in that order": by one number, and where it is equal by what follows
abbrev pub lexical : ℕ → ℕ → Bool → Bool
lexical a b rest = ltb a b || (eqb a b && rest)

-- a key is below another
unfoldable pub below : Key → Key → Bool
below j k =
    lexical j.platform k.platform
    (lexical j.encoding k.encoding
    (lexical j.language k.language
    (ltb j.name k.name)))

-- the same order in propositions
abbrev pub Lexical : ℕ → ℕ → Type 0 → Type 0
Lexical a b rest = (a < b) ⊎ ((a ≡ b) × rest)

abbrev pub KeyBelow : Key → Key → Type 0
KeyBelow j k =
    Lexical j.platform k.platform
    (Lexical j.encoding k.encoding
    (Lexical j.language k.language
    (j.name < k.name)))

-- a key in the code: one number, of which the four are the digits to the base 65,536
abbrev pub packed : Key → ℕ
packed k = ((k.platform * 65536 + k.encoding) * 65536 + k.language) * 65536 + k.name
