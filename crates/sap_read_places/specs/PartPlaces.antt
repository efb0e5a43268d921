-- Where a fault of a formula stands.
use Rattle.std.specs.Prelude.{◌≡◌, ℕ, ◌+◌, true, List, [], ◌∷◌, ◌++◌, Some, None, slice_get}
use Rattle.sap_terms.specs.Signature.{Sig}
use Rattle.sap_text.specs.declared.token.Token.{Token}
use Rattle.sap_formula.specs.Faults.{HasNoFault, IsFirstFault, told}
use Rattle.sap_formula.specs.declared.fault.FormulaFlaw.{FormulaFlaw}
use Rattle.sap_formula.specs.declared.fault.FormulaFault.{FormulaFault}
use Rattle.sap_formula_words.specs.StatementWords.{statement_words}
use Rattle.sap_grammar.specs.Cut.{Placed}
use Rattle.sap_grammar.specs.Items.{items_end, items_more}
use Rattle.sap_grammar.specs.Words.{Word}
use Rattle.sap_statements.specs.Statements.{formula_of, name_of}
use Rattle.sap_statements.specs.declared.statement.Statement.{Statement}
use Rattle.sap_read.specs.Causes.{cause_of}
use Rattle.sap_read.specs.Files.{IsParted}
use Rattle.sap_read.specs.Item.{Item, Standing, signature_of}
use Rattle.sap_read.specs.ItemGrammar.{AreItems, IsItem, item_builtins, item_functions, item_definition, item_process, item_statement}
use Rattle.sap_read.specs.LocatedItems.{word_count}
use Rattle.sap_read_places.specs.declared.told.Told.{Told}
use Rattle.sap_read_places.specs.Placed.{stretch_before}

-- a restriction or a lemma: how many words of its item are left from the word of each part of its formula, and how many words of the
-- file are behind the item
pub record LocatedStatement : Type 0 where
  pub statement : Statement
  pub words : List ℕ
  pub behind : ℕ

-- the one that an item is, where so many words of the file are behind it; an item of another kind is none
abbrev pub stated_at : {g : Sig} {v : Item} {a : List Word} → IsItem g v a → (behind : ℕ) → List LocatedStatement
stated_at (item_builtins r) behind = []
stated_at (item_functions r) behind = []
stated_at (item_definition h r) behind = []
stated_at (item_process r) behind = []
stated_at (item_statement {s = s} r) behind = record { statement = s; words = statement_words r; behind = behind } ∷ []

-- those among the items, in order
abbrev pub located_statements : {g : Sig} {cut : List (List Placed)} {is : List Standing} → AreItems g cut is → List LocatedStatement
located_statements (items_end e) = []
located_statements (items_more {is = is} r rs) = stated_at r (word_count is) ++ located_statements rs

-- from the word of the part that has it so many words of the file are left, where the first of these whose formula has a fault has this
-- name, and this is the fault that counts
pub data IsFaultyWord (g : Sig) : List LocatedStatement → List ℕ → FormulaFault → ℕ → Type 0 where
  faulty_here : {s : LocatedStatement} {ss : List LocatedStatement} {w : FormulaFlaw} {n : List ℕ} {k : ℕ}
      (first : IsFirstFault g true (formula_of s.statement) w n) → slice_get s.words first.at ≡ Some k
      → IsFaultyWord g (s ∷ ss) (name_of s.statement) (told w n) (k + s.behind)
  faulty_later : {s : LocatedStatement} {ss : List LocatedStatement} {y : List ℕ} {f : FormulaFault} {k : ℕ}
      → HasNoFault g true (formula_of s.statement) → IsFaultyWord g ss y f k → IsFaultyWord g (s ∷ ss) y f k

-- the file, which nothing refuses before its uses are looked at, has this fault at this word
pub record IsPartPlace (z : List ℕ) (y : List ℕ) (f : FormulaFault) (t : Told) : Type 0 where
  pub tokens : List Token
  pub name : List ℕ
  pub cut : List (List Placed)
  pub standing : List Standing
  pub parted : IsParted z tokens name cut
  pub items : AreItems (signature_of standing) cut standing
  pub nothing : cause_of standing ≡ None
  pub word : ℕ
  pub faulty : IsFaultyWord (signature_of standing) (located_statements items) y f word
  pub word_is : t.word ≡ stretch_before tokens word
  pub uses_are : t.uses ≡ []
