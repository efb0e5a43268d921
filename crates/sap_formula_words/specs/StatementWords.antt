-- The parts of the formula of a restriction or a lemma, each with the words of the item that are left from its own on.
use Rattle.std.specs.Prelude.{◌≡◌, ℕ, List}
use Rattle.sap_terms.specs.Signature.{Sig}
use Rattle.sap_grammar.specs.Words.{Word}
use Rattle.sap_grammar.specs.declared.limits.Limits.{Limits}
use Rattle.sap_statements.specs.declared.statement.Statement.{Statement}
use Rattle.sap_statements.specs.Statements.{IsStatement, is_restriction, is_lemma}
use Rattle.sap_formula_words.specs.PartWords.{part_words}

-- the numbers of the parts of its formula
abbrev pub statement_words : {g : Sig} {m : Limits} {s : Statement} {a : List Word} → IsStatement g m s a → List ℕ
statement_words (is_restriction q) = part_words q.spelled
statement_words (is_lemma h d q) = part_words q.spelled

-- all of the words are this statement, and the parts of its formula have these numbers
pub record HasStatementWords (g : Sig) (m : Limits) (s : Statement) (a : List Word) (ns : List ℕ) : Type 0 where
  pub spelled : IsStatement g m s a
  pub numbers : statement_words spelled ≡ ns
