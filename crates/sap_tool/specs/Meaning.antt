-- What the text of a compiled file means: the heart of the statement.
use Rattle.std.specs.Prelude.{◌≡◌, ℕ, List}
use Rattle.sap_gen.specs.Kept.{KeepsFile, KeepsFileInlined}
use Rattle.sap_read.specs.Files.{FileContent}
use Rattle.sap_rule.specs.declared.theory.Theory.{Theory}
use Rattle.sap_replay.specs.declared.way.Way.{Way}
use Rattle.sap_replay.specs.declared.way.Way.TheVariants.{Plain, Inlined, Short}
use Rattle.sap_theory.specs.TheoryGrammar.{SpellsTheory, AreSameTheories}
use Rattle.sap_theory.specs.TheoryText.{theory_text}
use Rattle.sap_replay.specs.AcceptedFile.{IsAcceptedFile, IsCompiledTheory}
use Rattle.sap_tool.specs.AsWritten.{ShowsAsWritten}

-- what a theory that is written in this way keeps of its file
abbrev pub Keeps : Way → FileContent → Theory → Type 0
Keeps Plain told t = KeepsFile told t
Keeps Inlined told t = KeepsFileInlined told t
Keeps Short told t = KeepsFile told t

-- the text spells the theory, and no other
pub record IsWritten (text : List ℕ) (t : Theory) : Type 0 where
  pub spelled : SpellsTheory text t
  pub no_other : (u : Theory) → SpellsTheory text u → AreSameTheories t u

-- The bytes are an accepted file. The theory that the text spells, as its layout, is that of the file, and it keeps the file: what its
-- process shows, and its lemmas, each of which holds of the theory exactly where it holds of the file. And that process shows what the
-- file's does as it is written, where a use runs as its definition's instance.
pub record IsFaithfulText (way : Way) (bytes text : List ℕ) : Type 0 where
  pub told : FileContent
  pub file : IsAcceptedFile bytes told
  pub theory : Theory
  pub written : IsWritten text theory
  pub layout : text ≡ theory_text theory
  pub compiled : IsCompiledTheory way told theory
  pub keeps : Keeps way told theory
  pub as_written : ShowsAsWritten bytes told
