-- Definitions of processes whose places know the words that tell them.
use Rattle.std.specs.Prelude.{ℕ, List, [], ◌∷◌}
use Rattle.sap_macro.specs.Located.{Located, without_numbers}
use Rattle.sap_macro.specs.Sources.{located}
use Rattle.sap_macro.specs.Written.{Definition}
use Rattle.sap_macro.specs.declared.definition.Definition as code

-- a name, its parameters, the process that it stands for, and how many words of the file are behind the item that defines it
pub record LocatedDefinition : Type 0 where
  pub name : List ℕ
  pub params : List (List ℕ)
  pub body : Located
  pub behind : ℕ

-- without the numbers
abbrev pub plain_definition : LocatedDefinition → Definition
plain_definition d = record { name = d.name; params = d.params; body = without_numbers d.body }

-- what the program keeps of one, with how many words are behind it
abbrev pub with_words : code.Definition → ℕ → LocatedDefinition
with_words d n = record { name = d.name; params = d.params; body = located d.body.value; behind = n }

-- of definitions, with how many words are behind each
abbrev pub located_definitions : List code.Definition → List ℕ → List LocatedDefinition
located_definitions [] ns = []
located_definitions (d ∷ ds) [] = []
located_definitions (d ∷ ds) (n ∷ ns) = with_words d n ∷ located_definitions ds ns
