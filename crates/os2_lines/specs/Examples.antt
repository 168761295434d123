-- Listings worked out by hand: what is listed of tables made from document 01's first one.
use Rattle.std.specs.Prelude.{ℕ, ◌≡◌, List, [], ◌∷◌, ◌++◌}
use Rattle.characters.specs.Texts.{codes}
use Rattle.os2_answers.specs.Examples.{with, first}
use Rattle.os2_lines.specs.Listings.{line_at, listing_of}

-- levels with tables: the first one at level 5, the same of 77 bytes, a rule broken, a level above 5
abbrev pub listings : List (List ℕ)
listings =
    listing_of 5 (first 78)
    ∷ listing_of 5 (first 77)
    ∷ listing_of 3 (with 0 3 (with 31 0x0080 (first 96)))
    ∷ listing_of 6 (first 78)
    ∷ []

abbrev pub Listed : Type 0
Listed =
    listings
    ≡ (codes "0 0\n1 0\n2 400\n3 5\n4 0\n5 0\n6 0\n7 0\n8 0\n9 0\n10 0\n11 0\n12 0\n13 0\n14 0\n15 0\n16 0\n17 0\n18 0\n19 0\n20 0\n21 0\n22 0\n"
    ++ codes "23 0\n24 0\n25 0\n26 0\n27 0\n28 0\n29 0\n30 0\n31 0\n32 0\n33 0\n34 0\n35 0\n36 0\n37 0\n38 0\n"
    ++ codes "39 absent\n40 absent\n41 absent\n42 absent\n43 absent\n44 absent\n45 absent\n46 absent\n47 absent\n"
    ++ codes "rights installable\nstyle position 400 100\noptical sizes absent\n")
    ∷ codes "refused 2\n"
    ∷ codes "refused 3 at 5\n"
    ∷ codes "refused 1\n"
    ∷ []

-- the last three lines at a level
abbrev pub last_lines : ℕ → List ℕ → List ℕ
last_lines L b = line_at L b 48 ++ line_at L b 49 ++ line_at L b 50

-- version 5, fsType bit 2, weight 1, width class 2, with a lower and an upper size
abbrev pub sized : ℕ → ℕ → List ℕ
sized lower upper = with 0 5 (with 4 4 (with 2 1 (with 3 2 (with 46 lower (with 47 upper (first 100))))))

-- at level 5, and at level 4, where the table's version is above the level; a field that came in after the level, and one that is below 0
abbrev pub last_ones : List (List ℕ)
last_ones =
    last_lines 5 (sized 0 65535)
    ∷ line_at 5 (sized 200 65535) 50
    ∷ line_at 5 (sized 160 241) 50
    ∷ last_lines 4 (sized 160 241)
    ∷ line_at 4 (sized 160 241) 46
    ∷ line_at 0 (with 1 65535 (first 78)) 1
    ∷ []

abbrev pub LastOnes : Type 0
LastOnes =
    last_ones
    ≡ codes "rights preview\nstyle position 1 62.5\noptical sizes every size\n"
    ∷ codes "optical sizes from 10 upwards\n"
    ∷ codes "optical sizes between 8 and 12.05\n"
    ∷ codes "rights not known\nstyle position not known\noptical sizes not known\n"
    ∷ codes "46 not known\n"
    ∷ codes "1 -1\n"
    ∷ []
