-- Version texts that document 01 does not list, and what each reads by its rules.
use Rattle.std.specs.Prelude.{ℕ, ◌≡◌, true, false, List, [], ◌∷◌, map}
use Prim.Native.String.{String}
use Rattle.std.proofs.Math.Option.{none}
use Rattle.outcomes.specs.Outcomes.{Outcome, refused, answered}
use Rattle.characters.specs.Texts.{codes}
use Rattle.version_text.specs.Versions.{Figures, version_in}

pub record Example : Type 0 where
  pub text : String
  pub reads : Outcome Figures

-- a number within what a failed start had read, and a text of which every start fails
abbrev pub examples : List Example
examples =
    record { text = "70000.1.2"; reads = answered (record { major = 1; minor = 2 }) }
    ∷ record { text = "1.70000.5"; reads = refused 25 none }
    ∷ []

-- two bytes a character, each high byte 0
abbrev pub doubled : List ℕ → List ℕ
doubled [] = []
doubled (c ∷ cs) = 0 ∷ c ∷ doubled cs

-- each text reads so, as one byte a character and as two
pub record ExamplesHold : Type 0 where
  pub narrow : map (λ e. version_in false (codes e.text)) examples ≡ map (λ e. e.reads) examples
  pub wide : map (λ e. version_in true (doubled (codes e.text))) examples ≡ map (λ e. e.reads) examples
