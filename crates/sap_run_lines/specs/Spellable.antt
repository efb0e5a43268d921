-- Which steps some bytes spell.
use Rattle.std.specs.Prelude.{◌≡◌, false, List, [], ◌∷◌}
use Rattle.sap_text.specs.declared.token.Kind.TheVariants as kind
use Rattle.sap_text.specs.Tokens.{IsToken}
use Rattle.sap_terms.specs.Tree.{Tree, variable, public, fresh, apply, Trees, none, more}
use Rattle.sap_grammar.specs.TermText.{is_pair}
use Rattle.sap_runs.specs.Limits.{HasFewNodes}
use Rattle.sap_runs.specs.declared.process_step.PStep.{PStep}
use Rattle.sap_runs.specs.declared.rule_step.RStep.{RStep}
use Rattle.sap_run_lines.specs.RunTerms.{IsNumber, IsRunName, IsRunContent}
use Rattle.sap_run_lines.specs.LineWords.{LineWord, identifier, number, fresh_name, public_name, bound}
use Rattle.sap_run_lines.specs.StepLines.{process_words, rule_words, NamesSymbol, NamesRule}

abbrev mutual
  -- no variables; numbers of 64 bits; what is written as a name or in quotes may stand so, the symbol of a pair isn't written
  pub IsWritable : Tree → Type 0
  IsWritable (variable v) = ⊥
  IsWritable (public s) = IsRunContent s
  IsWritable (fresh n) = IsNumber n
  IsWritable (apply f ts) = (is_pair f ts ≡ false → IsRunName f) × AreWritable ts

  -- each of these
  pub AreWritable : Trees → Type 0
  AreWritable none = Unit {0}
  AreWritable (more t ts) = IsWritable t × AreWritable ts

-- so it is with a word of a line; its term has at most 256 nodes
abbrev pub IsWritableWord : LineWord → Type 0
IsWritableWord (identifier x) = IsToken kind.Ident x
IsWritableWord (number n) = IsNumber n
IsWritableWord (fresh_name n) = IsNumber n
IsWritableWord (public_name s) = IsRunContent s
IsWritableWord (bound v t) = IsRunName v.name × IsWritable t × HasFewNodes t

-- each of these words
abbrev pub AreWritableWords : List LineWord → Type 0
AreWritableWords [] = Unit {0}
AreWritableWords (w ∷ ws) = IsWritableWord w × AreWritableWords ws

-- the step can be written: each of its words can, and what it names is a name
pub record IsWritableProcess (s : PStep) : Type 0 where
  pub named : NamesSymbol s
  pub words : AreWritableWords (process_words s)

pub record IsWritableRule (s : RStep) : Type 0 where
  pub named : NamesRule s
  pub words : AreWritableWords (rule_words s)
