-- Which words spell an item of a theory, and which bytes a theory.
use Rattle.std.specs.Prelude.{◌≡◌, ℕ, true, codes, List, [], ◌∷◌, map, None, Ok}
use Rattle.sap_text.specs.declared.token.Token.{Token}
use Rattle.sap_text.specs.Tokens.{IsLexed}
use Rattle.sap_terms.specs.declared.fact.Fact.{Fact}
use Rattle.sap_terms.specs.declared.signature.Symbol.{Symbol}
use Rattle.sap_terms.specs.declared.signature.Builtin.{Builtin}
use Rattle.sap_terms.specs.Signature.{Sig, find_symbol, pairs_alone}
use Rattle.sap_formula.specs.Form.{RestrictionForm, LemmaForm}
use Rattle.sap_rule.specs.declared.rule.Rule.{Rule}
use Rattle.sap_rule.specs.declared.theory.Theory.{Theory}
use Rattle.sap_grammar.specs.Words.{Word, mark, name}
use Rattle.sap_grammar.specs.declared.limits.Limits.{Limits}
use Rattle.sap_grammar.specs.FactGrammar.{AreFacts}
use Rattle.sap_grammar.specs.Cut.{Placed, placed, IsHeader, IsCut}
use Rattle.sap_grammar.specs.Declarations.{Declaration, of_builtin, of_symbol, AreBuiltins, AreSymbols}
use Rattle.sap_grammar.specs.Items.{Standing, AreItems, declared_by_all}
use Rattle.sap_grammar.specs.Signatures.{signature_from, clash_from}
use Rattle.sap_statements.specs.declared.statement.Statement.{Statement}
use Rattle.sap_statements.specs.declared.statement.Statement.TheVariants.{Restriction as restriction, Lemma as lemma}
use Rattle.sap_statements.specs.Statements.{IsStatement}
use Rattle.sap_statements.specs.Sorted.{sorted_statement}

-- the items of a theory
pub data TheoryItem : Type 0 where
  builtins : List Builtin → TheoryItem
  functions : List Symbol → TheoryItem
  rule : Rule → TheoryItem
  statement : Statement → TheoryItem

-- the two sides of a rule, and what it shows between them, which may be left out; `!` may stand before each fact
pub data IsRuleBody (g : Sig) (m : Limits)
    : List Fact → List Fact → List Fact → List Word → Type 0 where
  body_silent : {l r : List Fact} {a b : List Word}
      → AreFacts g m true (codes "]") l a (mark (codes "-->") ∷ mark (codes "[") ∷ b)
      → AreFacts g m true (codes "]") r b [] → IsRuleBody g m l [] r (mark (codes "[") ∷ a)
  body_acts : {l e r : List Fact} {a b c : List Word}
      → AreFacts g m true (codes "]") l a (mark (codes "--[") ∷ b)
      → AreFacts g m true (codes "]->") e b (mark (codes "[") ∷ c)
      → AreFacts g m true (codes "]") r c [] → IsRuleBody g m l e r (mark (codes "[") ∷ a)

-- all of the words are this item, its terms and formulas within the limits; a restriction or lemma stands for what is made of it
pub data IsItemBy (sorting : Statement → Statement) (g : Sig) (m : Limits)
    : TheoryItem → List Word → Type 0 where
  item_builtins : {bs : List Builtin} {a : List Word} → AreBuiltins bs a
      → IsItemBy sorting g m (builtins bs) (mark (codes "builtins") ∷ mark (codes ":") ∷ a)
  item_functions : {ss : List Symbol} {a : List Word} → AreSymbols ss a
      → IsItemBy sorting g m (functions ss) (mark (codes "functions") ∷ mark (codes ":") ∷ a)
  item_rule : {x : List ℕ} {l e r : List Fact} {a : List Word} → IsRuleBody g m l e r a
      → IsItemBy sorting g m (rule (record { name = x; left = l; acts = e; right = r }))
      (mark (codes "rule") ∷ name x ∷ mark (codes ":") ∷ a)
  item_statement : {s : Statement} {a : List Word} → IsStatement g m s a
      → IsItemBy sorting g m (statement (sorting s)) a

-- so that a plain variable of a formula has the sort of its binder
abbrev pub IsTheoryItem : Sig → Limits → TheoryItem → List Word → Type 0
IsTheoryItem = IsItemBy sorted_statement

-- so that each variable of a formula has the sort of its sign, as it is written
abbrev pub IsWrittenItem : Sig → Limits → TheoryItem → List Word → Type 0
IsWrittenItem = IsItemBy (λ s. s)

-- the item within some limits
pub record IsAnyTheoryItem (g : Sig) (v : TheoryItem) (a : List Word) : Type 0 where
  pub limits : Limits
  pub is : IsTheoryItem g limits v a

-- what an item declares, in order
abbrev pub declared_by : TheoryItem → List Declaration
declared_by (builtins bs) = map of_builtin bs
declared_by (functions ss) = map of_symbol ss
declared_by (rule r) = []
declared_by (statement s) = []

-- what the items declare, in order
abbrev pub declarations : List (Standing TheoryItem) → List Declaration
declarations is = declared_by_all declared_by is

-- the items without their lines
abbrev pub items_of : List (Standing TheoryItem) → List TheoryItem
items_of is = map (λ (i : Standing TheoryItem). i.item) is

-- the rules among items
abbrev pub rules_in : List TheoryItem → List Rule
rules_in [] = []
rules_in (builtins bs ∷ vs) = rules_in vs
rules_in (functions ss ∷ vs) = rules_in vs
rules_in (rule r ∷ vs) = r ∷ rules_in vs
rules_in (statement s ∷ vs) = rules_in vs

-- the statements among them, both restrictions and lemmas
abbrev pub statements_in : List TheoryItem → List Statement
statements_in [] = []
statements_in (builtins bs ∷ vs) = statements_in vs
statements_in (functions ss ∷ vs) = statements_in vs
statements_in (rule r ∷ vs) = statements_in vs
statements_in (statement s ∷ vs) = s ∷ statements_in vs

-- the restrictions alone, and the lemmas
abbrev pub restrictions_in : List TheoryItem → List RestrictionForm
restrictions_in [] = []
restrictions_in (builtins bs ∷ vs) = restrictions_in vs
restrictions_in (functions ss ∷ vs) = restrictions_in vs
restrictions_in (rule r ∷ vs) = restrictions_in vs
restrictions_in (statement (restriction r) ∷ vs) = r ∷ restrictions_in vs
restrictions_in (statement (lemma l) ∷ vs) = restrictions_in vs

-- the lemmas alone
abbrev pub lemmas_in : List TheoryItem → List LemmaForm
lemmas_in [] = []
lemmas_in (builtins bs ∷ vs) = lemmas_in vs
lemmas_in (functions ss ∷ vs) = lemmas_in vs
lemmas_in (rule r ∷ vs) = lemmas_in vs
lemmas_in (statement (restriction r) ∷ vs) = lemmas_in vs
lemmas_in (statement (lemma l) ∷ vs) = l ∷ lemmas_in vs

-- the signature of a theory with these items; every signature begins with pairs
abbrev pub signature_of : List (Standing TheoryItem) → Sig
signature_of is = signature_from pairs_alone (declarations is)

-- they hold the same symbols, with their arities and privacy, and the same builtins
pub record AreSameSignatures (g h : Sig) : Type 0 where
  pub symbols : (x : List ℕ) → find_symbol g.symbols x ≡ find_symbol h.symbols x
  pub builtins : g.builtins ≡ h.builtins

-- The bytes spell the theory, within whatever limits: behind its header they are cut into these items, which don't clash, and its
-- parts are theirs.
pub record SpellsTheory (z : List ℕ) (t : Theory) : Type 0 where
  pub most : ℕ
  pub tokens : List Token
  pub lexed : IsLexed most 0 1 z (Ok tokens)
  pub rest : List Placed
  pub header : IsHeader t.name (placed z tokens) rest
  pub pieces : List (List Placed)
  pub is_cut : IsCut rest pieces
  pub items : List (Standing TheoryItem)
  pub are : AreItems (IsAnyTheoryItem (signature_of items)) pieces items
  pub no_clash : clash_from pairs_alone (declarations items) ≡ None
  pub signature : AreSameSignatures t.signature (signature_of items)
  pub rules : t.rules ≡ rules_in (items_of items)
  pub restrictions : t.restrictions ≡ restrictions_in (items_of items)
  pub lemmas : t.lemmas ≡ lemmas_in (items_of items)

-- two theories are the same
pub record AreSameTheories (t u : Theory) : Type 0 where
  pub names : t.name ≡ u.name
  pub signatures : AreSameSignatures t.signature u.signature
  pub rules : t.rules ≡ u.rules
  pub restrictions : t.restrictions ≡ u.restrictions
  pub lemmas : t.lemmas ≡ u.lemmas
