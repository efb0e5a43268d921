-- Restrictions and lemmas, and which words spell one.
use Rattle.std.specs.Prelude.{ℕ, codes, List, [], ◌∷◌}
use Rattle.sap_terms.specs.Signature.{Sig}
use Rattle.sap_formula.specs.Form.{Form}
use Rattle.sap_formula.specs.declared.lemma.Mode.{Mode}
use Rattle.sap_formula.specs.declared.lemma.Mode.TheVariants.{AllTraces, ExistsTrace}
use Rattle.sap_grammar.specs.Words.{Word, mark, name}
use Rattle.sap_grammar.specs.declared.limits.Limits.{Limits}
use Rattle.sap_formula_grammar.specs.FormulaGrammar.{IsShortFormula}
-- what is said of traces: that those count on which a formula is true, or that a formula holds of those that count
pub use Rattle.sap_statements.specs.declared.statement.Statement.{Statement}
pub use Rattle.sap_statements.specs.declared.statement.Statement.TheVariants.{Restriction as restriction, Lemma as lemma}

-- its name
abbrev pub name_of : Statement → List ℕ
name_of (restriction r) = r.name
name_of (lemma l) = l.name

-- its formula
abbrev pub formula_of : Statement → Form
formula_of (restriction r) = r.formula
formula_of (lemma l) = l.formula

-- words for the prover that reads a lemma
pub data IsAttribute : List ℕ → Type 0 where
  is_reuse : IsAttribute (codes "reuse")
  is_use_induction : IsAttribute (codes "use_induction")
  is_sources : IsAttribute (codes "sources")

-- such words, one or more, with commas between them and a closing bracket behind
pub data AreAttributes : List (List ℕ) → List Word → List Word → Type 0 where
  attributes_last : {x : List ℕ} {a : List Word} → IsAttribute x
      → AreAttributes (x ∷ []) (name x ∷ mark (codes "]") ∷ a) a
  attributes_more : {x : List ℕ} {xs : List (List ℕ)} {a b : List Word} → IsAttribute x
      → AreAttributes xs a b
      → AreAttributes (x ∷ xs) (name x ∷ mark (codes ",") ∷ a) b

-- such words in brackets, or nothing
pub data HasAttributes : List (List ℕ) → List Word → List Word → Type 0 where
  without_attributes : {a : List Word} → HasAttributes [] a a
  with_attributes : {xs : List (List ℕ)} {a b : List Word} → AreAttributes xs a b
      → HasAttributes xs (mark (codes "[") ∷ a) b

-- of which traces a lemma speaks; of all where nothing is said
pub data IsMode : Mode → List Word → List Word → Type 0 where
  mode_missing : {a : List Word} → IsMode AllTraces a a
  mode_all : {a : List Word}
      → IsMode AllTraces (name (codes "all") ∷ mark (codes "-") ∷ name (codes "traces") ∷ a) a
  mode_exists : {a : List Word}
      → IsMode ExistsTrace (name (codes "exists") ∷ mark (codes "-") ∷ name (codes "trace") ∷ a) a

-- all of the words are a formula within the limits, as it is written, and the closing quotation mark
abbrev pub IsQuoted : Sig → Limits → Form → List Word → Type 0
IsQuoted g m f a = IsShortFormula g m f a (mark (codes "\"") ∷ [])

-- all of the words are this statement, its formula as it is written: each variable with the sort of its sign
pub data IsStatement (g : Sig) (m : Limits) : Statement → List Word → Type 0 where
  is_restriction : {x : List ℕ} {f : Form} {a : List Word} → IsQuoted g m f a
      → IsStatement g m (restriction (record { name = x; formula = f }))
      (mark (codes "restriction") ∷ name x ∷ mark (codes ":") ∷ mark (codes "\"") ∷ a)
  is_lemma : {x : List ℕ} {xs : List (List ℕ)} {d : Mode} {f : Form} {a b c : List Word}
      → HasAttributes xs a (mark (codes ":") ∷ b)
      → IsMode d b (mark (codes "\"") ∷ c) → IsQuoted g m f c
      → IsStatement g m (lemma (record { name = x; attributes = xs; mode = d; formula = f }))
      (mark (codes "lemma") ∷ name x ∷ a)
