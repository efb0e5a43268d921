-- The items that a theory is printed as, and their words before other words.
use Rattle.std.specs.Prelude.{ℕ, codes, decimal, if◌then◌else◌, List, [], ◌∷◌, ◌++◌, map}
use Rattle.sap_terms.specs.declared.fact.Fact.{Fact}
use Rattle.sap_terms.specs.declared.signature.Symbol.{Symbol}
use Rattle.sap_terms.specs.declared.signature.Builtin.{Builtin}
use Rattle.sap_terms.specs.declared.signature.Builtin.TheVariants.{Hashing, Symmetric, Asymmetric, Signing, RevealingSigning}
use Rattle.sap_formula.specs.Form.{Form, RestrictionForm, LemmaForm}
use Rattle.sap_formula.specs.declared.lemma.Mode.{Mode}
use Rattle.sap_formula.specs.declared.lemma.Mode.TheVariants.{AllTraces, ExistsTrace}
use Rattle.sap_rule.specs.declared.theory.Theory.{Theory}
use Rattle.sap_grammar.specs.Words.{Word, mark, name, number}
use Rattle.sap_grammar.specs.PrintedWords.{Before, fact_words}
use Rattle.sap_statements.specs.declared.statement.Statement.TheVariants.{Restriction as restriction, Lemma as lemma}
use Rattle.sap_theory.specs.SignatureText.{builtins_of, functions_of}
use Rattle.sap_theory.specs.TheoryGrammar.{TheoryItem, builtins, functions, rule, statement}
use Rattle.sap_theory.proofs.FormulaWords.{form_words}

-- further facts, each behind a comma
abbrev pub further_facts : List Fact → Before
further_facts [] k = k
further_facts (f ∷ fs) k = mark (codes ",") ∷ fact_words f (further_facts fs k)

-- facts and the closing mark
abbrev pub facts_words : List ℕ → List Fact → Before
facts_words closing [] k = mark closing ∷ k
facts_words closing (f ∷ fs) k = fact_words f (further_facts fs (mark closing ∷ k))

abbrev pub arrow_words : List Fact → Before
arrow_words [] k = mark (codes "-->") ∷ k
arrow_words (f ∷ fs) k = mark (codes "--[") ∷ facts_words (codes "]->") (f ∷ fs) k

abbrev pub body_words : List Fact → List Fact → List Fact → Before
body_words l e r k = mark (codes "[") ∷ facts_words (codes "]") l (arrow_words e (mark (codes "[") ∷ facts_words (codes "]") r k))

abbrev pub builtin_words : Builtin → Before
builtin_words Hashing k = name (codes "hashing") ∷ k
builtin_words Symmetric k = name (codes "symmetric") ∷ mark (codes "-") ∷ name (codes "encryption") ∷ k
builtin_words Asymmetric k = name (codes "asymmetric") ∷ mark (codes "-") ∷ name (codes "encryption") ∷ k
builtin_words Signing k = name (codes "signing") ∷ k
builtin_words RevealingSigning k = name (codes "revealing") ∷ mark (codes "-") ∷ name (codes "signing") ∷ k

abbrev pub symbol_words : Symbol → Before
symbol_words s k =
    name s.name ∷ mark (codes "/") ∷ number (decimal s.arity) ∷ (if s.private then mark (codes "[") ∷ name (codes "private") ∷ mark (codes "]") ∷ k else k)

-- values with commas between them
abbrev pub further : {A : Type 0} → (A → Before) → List A → Before
further words [] k = k
further words (x ∷ xs) k = mark (codes ",") ∷ words x (further words xs k)

abbrev pub sequence : {A : Type 0} → (A → Before) → List A → Before
sequence words [] k = k
sequence words (x ∷ xs) k = words x (further words xs k)

abbrev pub further_names : List (List ℕ) → Before
further_names [] k = mark (codes "]") ∷ k
further_names (x ∷ xs) k = mark (codes ",") ∷ name x ∷ further_names xs k

abbrev pub attributes_words : List (List ℕ) → Before
attributes_words [] k = k
attributes_words (x ∷ xs) k = mark (codes "[") ∷ name x ∷ further_names xs k

abbrev pub mode_words : Mode → Before
mode_words AllTraces k = name (codes "all") ∷ mark (codes "-") ∷ name (codes "traces") ∷ k
mode_words ExistsTrace k = name (codes "exists") ∷ mark (codes "-") ∷ name (codes "trace") ∷ k

-- a formula in quotation marks
abbrev pub quoted_words : Form → Before
quoted_words f k = mark (codes "\"") ∷ form_words 0 f (mark (codes "\"") ∷ k)

abbrev pub item_words : TheoryItem → Before
item_words (builtins bs) k = mark (codes "builtins") ∷ mark (codes ":") ∷ sequence builtin_words bs k
item_words (functions ss) k = mark (codes "functions") ∷ mark (codes ":") ∷ sequence symbol_words ss k
item_words (rule r) k = mark (codes "rule") ∷ name r.name ∷ mark (codes ":") ∷ body_words r.left r.acts r.right k
item_words (statement (restriction r)) k = mark (codes "restriction") ∷ name r.name ∷ mark (codes ":") ∷ quoted_words r.formula k
item_words (statement (lemma l)) k = mark (codes "lemma") ∷ name l.name ∷ attributes_words l.attributes (mark (codes ":") ∷ mode_words l.mode (quoted_words l.formula k))

-- items, one after another, and the end
abbrev pub items_words : List TheoryItem → List Word
items_words [] = mark (codes "end") ∷ []
items_words (v ∷ vs) = item_words v (items_words vs)

-- an item where there is something to say
abbrev pub item_of : {A : Type 0} → (List A → TheoryItem) → List A → List TheoryItem
item_of made [] = []
item_of made (x ∷ xs) = made (x ∷ xs) ∷ []

abbrev pub as_restriction : RestrictionForm → TheoryItem
as_restriction r = statement (restriction r)

abbrev pub as_lemma : LemmaForm → TheoryItem
as_lemma l = statement (lemma l)

-- what a theory is printed as
abbrev pub printed_items : Theory → List TheoryItem
printed_items t =
    item_of builtins (builtins_of t.signature)
    ++ (item_of functions (functions_of t.signature) ++ (map rule t.rules ++ (map as_restriction t.restrictions ++ map as_lemma t.lemmas)))
