-- What the words of items are that the table takes.
use Rattle.std.proofs.Common.{◌≡◌, ◌≤◌, ℕ, true, false, List, [], ◌∷◌, ◌++◌, append_assoc, refl, sym, ap, subst, ◌∙◌}
use Rattle.std.proofs.lemmas.List.{append-nil}
use Rattle.std.specs.Prelude.{codes}
use Rattle.sap_terms.specs.declared.limits.TheConstants.{MOST_ARITY, MOST_PROCESS_LEVELS}
use Rattle.sap_terms.specs.declared.signature.Symbol.{Symbol}
use Rattle.sap_terms.specs.declared.signature.Builtin.{Builtin}
use Rattle.sap_terms.specs.Signature.{Sig}
use Rattle.sap_formula.specs.Form.{Form}
use Rattle.sap_formula.specs.declared.lemma.Mode.{Mode}
use Rattle.sap_grammar.specs.Words.{Word, is_lower, mark, name, number}
use Rattle.sap_grammar.specs.Declarations.{AreBuiltins, AreSymbols, IsBuiltin, IsSymbol, builtins_last, builtins_more, spells_asymmetric, spells_hashing, spells_private, spells_public, spells_revealing, spells_signing, spells_symmetric, symbols_last, symbols_more, value}
use Rattle.sap_grammar.proofs.ReadingLaws.Limits.{le_of}
use Rattle.sap_formula_grammar.specs.FormulaGrammar.{IsShortFormula}
use Rattle.sap_macro.specs.Written.{Written}
use Rattle.sap_draft.specs.ProcessGrammar.{IsPar}
use Rattle.sap_draft.specs.declared.limits.TheConstants.{FILE_LIMITS}
use Rattle.sap_statements.specs.Statements.{AreAttributes, HasAttributes, IsAttribute, IsMode, attributes_last, attributes_more, is_lemma, is_restriction, mode_all, mode_exists, mode_missing}
use Rattle.sap_read.specs.Item.{Item, builtins as builtins_of_item, functions as functions_of_item}
use Rattle.sap_read.specs.ItemGrammar.{AreParameters, HasParameters, IsItem, item_builtins, item_definition, item_functions, item_process, item_statement, parameters_last, parameters_more}
use Rattle.sap_expect.specs.FileTable.{is_arity}
use Rattle.sap_expect.specs.FileWords.{AreItemWords, IsFileWords, one_item, only_end}
use Rattle.sap_expect.proofs.FormulaFronts.{quoted_front}
use Rattle.sap_expect.proofs.Fronts.{Front, Spelling, alone, before, both, has_attributes_front, heading_front, par_front}

-- items and `end`, and what is behind
pub record SomeItems (a b : List Word) : Type 0 where
  pub words : List Word
  pub is : a ≡ words ++ b
  pub are : AreItemWords words

pub end_items : {b : List Word} → SomeItems (mark (codes "end") ∷ b) b
end_items = record { words = mark (codes "end") ∷ []; is = refl; are = only_end }

-- an item before others
item_before : {g : Sig} {i : Item} {u a c b : List Word} → IsItem g i u → a ≡ u ++ c → SomeItems c b → SomeItems a b
item_before {g = g} {i = i} {u = u} {b = b} s e h = record {
  words = u ++ h.words;
  is = e ∙ (ap (λ (x : List Word). u ++ x) h.is ∙ sym (append_assoc u h.words b));
  are = one_item (record { sig = g; item = i; is = s }) h.are;
}

-- one that begins with these words
whole_before : {g : Sig} {i : Item} {X : Spelling} {a c b : List Word} (ps : List Word) → Front X a c → ((u : List Word) → X u [] → IsItem g i (ps ++ u)) → SomeItems c b → SomeItems (ps ++ a) b
whole_before {X = X} {c = c} ps f g h =
    item_before (g f.words (subst (λ (x : List Word). X x []) (append-nil f.words) (f.all []))) (ap (λ (x : List Word). ps ++ x) f.is ∙ sym (append_assoc ps f.words c)) h

-- builtins from here on, and the items behind them
pub record HasBuiltins (a b : List Word) : Type 0 where
  pub builtins : List Builtin
  pub words : List Word
  pub behind : List Word
  pub is : a ≡ words ++ behind
  pub spelled : AreBuiltins builtins words
  pub items : SomeItems behind b

pub data AreMoreBuiltins : List Word → List Word → Type 0 where
  builtins_none : {a b : List Word} → SomeItems a b → AreMoreBuiltins a b
  builtins_some : {a b : List Word} → HasBuiltins a b → AreMoreBuiltins (mark (codes ",") ∷ a) b

with_builtin : (v : Builtin) (u : List Word) {a b : List Word} → ((c : List Word) → IsBuiltin v (u ++ c) c) → AreMoreBuiltins a b → HasBuiltins (u ++ a) b
with_builtin v u {a = a} s (builtins_none q) =
    record { builtins = v ∷ []; words = u; behind = a; is = refl; spelled = builtins_last (subst (λ (x : List Word). IsBuiltin v x []) (append-nil u) (s [])); items = q }
with_builtin v u s (builtins_some q) = record {
  builtins = v ∷ q.builtins;
  words = u ++ (mark (codes ",") ∷ q.words);
  behind = q.behind;
  is = ap (λ (x : List Word). u ++ (mark (codes ",") ∷ x)) q.is ∙ sym (append_assoc u (mark (codes ",") ∷ q.words) q.behind);
  spelled = builtins_more (s (mark (codes ",") ∷ q.words)) q.spelled;
  items = q.items;
}

pub builtins_of : {v : Builtin} {a c b : List Word} → IsBuiltin v a c → AreMoreBuiltins c b → HasBuiltins a b
builtins_of spells_hashing q = with_builtin _ (name (codes "hashing") ∷ []) (λ c. spells_hashing) q
builtins_of spells_symmetric q = with_builtin _ (name (codes "symmetric") ∷ mark (codes "-") ∷ name (codes "encryption") ∷ []) (λ c. spells_symmetric) q
builtins_of spells_asymmetric q = with_builtin _ (name (codes "asymmetric") ∷ mark (codes "-") ∷ name (codes "encryption") ∷ []) (λ c. spells_asymmetric) q
builtins_of spells_signing q = with_builtin _ (name (codes "signing") ∷ []) (λ c. spells_signing) q
builtins_of spells_revealing q = with_builtin _ (name (codes "revealing") ∷ mark (codes "-") ∷ name (codes "signing") ∷ []) (λ c. spells_revealing) q

pub builtins_item : (g : Sig) {a b : List Word} → HasBuiltins a b → SomeItems (mark (codes "builtins") ∷ mark (codes ":") ∷ a) b
builtins_item g h =
    item_before {g = g} {i = builtins_of_item h.builtins} {u = mark (codes "builtins") ∷ mark (codes ":") ∷ h.words} (item_builtins h.spelled)
    (ap (λ (x : List Word). mark (codes "builtins") ∷ mark (codes ":") ∷ x) h.is) h.items

-- symbols from here on, and the items behind them
pub record HasSymbols (a b : List Word) : Type 0 where
  pub symbols : List Symbol
  pub words : List Word
  pub behind : List Word
  pub is : a ≡ words ++ behind
  pub spelled : AreSymbols symbols words
  pub items : SomeItems behind b

pub data AreMoreSymbols : List Word → List Word → Type 0 where
  symbols_none : {a b : List Word} → SomeItems a b → AreMoreSymbols a b
  symbols_some : {a b : List Word} → HasSymbols a b → AreMoreSymbols (mark (codes ",") ∷ a) b

-- behind an arity
pub data IsBehindArity : List Word → List Word → Type 0 where
  not_private : {a b : List Word} → AreMoreSymbols a b → IsBehindArity a b
  is_private : {a b : List Word} → AreMoreSymbols a b → IsBehindArity (mark (codes "[") ∷ name (codes "private") ∷ mark (codes "]") ∷ a) b

with_symbol : (v : Symbol) (u : List Word) {a b : List Word} → ((c : List Word) → IsSymbol v (u ++ c) c) → AreMoreSymbols a b → HasSymbols (u ++ a) b
with_symbol v u {a = a} s (symbols_none q) =
    record { symbols = v ∷ []; words = u; behind = a; is = refl; spelled = symbols_last (subst (λ (x : List Word). IsSymbol v x []) (append-nil u) (s [])); items = q }
with_symbol v u s (symbols_some q) = record {
  symbols = v ∷ q.symbols;
  words = u ++ (mark (codes ",") ∷ q.words);
  behind = q.behind;
  is = ap (λ (x : List Word). u ++ (mark (codes ",") ∷ x)) q.is ∙ sym (append_assoc u (mark (codes ",") ∷ q.words) q.behind);
  spelled = symbols_more (s (mark (codes ",") ∷ q.words)) q.spelled;
  items = q.items;
}

pub symbols_of : (f n : List ℕ) {a b : List Word} → is_lower f ≡ true → is_arity n ≡ true → IsBehindArity a b
    → HasSymbols (name f ∷ mark (codes "/") ∷ number n ∷ a) b
symbols_of f n low few (not_private q) =
    with_symbol (record { name = f; arity = value n; private = false }) (name f ∷ mark (codes "/") ∷ number n ∷ []) (λ c. spells_public low (le_of (value n) MOST_ARITY few)) q
symbols_of f n low few (is_private q) =
    with_symbol (record { name = f; arity = value n; private = true })
    (name f ∷ mark (codes "/") ∷ number n ∷ mark (codes "[") ∷ name (codes "private") ∷ mark (codes "]") ∷ [])
    (λ c. spells_private low (le_of (value n) MOST_ARITY few)) q

pub functions_item : (g : Sig) {a b : List Word} → HasSymbols a b → SomeItems (mark (codes "functions") ∷ mark (codes ":") ∷ a) b
functions_item g h =
    item_before {g = g} {i = functions_of_item h.symbols} {u = mark (codes "functions") ∷ mark (codes ":") ∷ h.words} (item_functions h.spelled)
    (ap (λ (x : List Word). mark (codes "functions") ∷ mark (codes ":") ∷ x) h.is) h.items

abbrev pub SomeParameters : List Word → List Word → Type 0
SomeParameters a b = (xs : List (List ℕ)) × HasParameters xs a b

-- behind a parameter
pub data AreMoreParameters : List Word → List Word → Type 0 where
  parameters_end : {a : List Word} → AreMoreParameters (mark (codes ")") ∷ a) a
  parameters_next : {xs : List (List ℕ)} {a b : List Word} → AreParameters xs a b → AreMoreParameters (mark (codes ",") ∷ a) b

pub parameters_of : (x : List ℕ) {a b : List Word} → AreMoreParameters a b → (xs : List (List ℕ)) × AreParameters xs (name x ∷ a) b
parameters_of x parameters_end = (_, parameters_last)
parameters_of x (parameters_next q) = (_, parameters_more q)

pub definition_item : {g : Sig} (x : List ℕ) {xs : List (List ℕ)} {p : Written} {k : ℕ} {a b c d : List Word} → HasParameters xs a b → IsPar g FILE_LIMITS p k b c → k ≤ MOST_PROCESS_LEVELS
    → SomeItems c d → SomeItems (mark (codes "let") ∷ name x ∷ a) d
definition_item {g = g} x {k = k} s q le h =
    whole_before (mark (codes "let") ∷ name x ∷ []) (both (heading_front s) (par_front g FILE_LIMITS q)) (λ u r. item_definition r.1 (record { levels = k; spelled = r.2; few_levels = le })) h

pub process_item : {g : Sig} {p : Written} {k : ℕ} {a b c : List Word} → IsPar g FILE_LIMITS p k a b → k ≤ MOST_PROCESS_LEVELS → SomeItems b c
    → SomeItems (mark (codes "process") ∷ mark (codes ":") ∷ a) c
process_item {g = g} {k = k} q le h =
    whole_before (mark (codes "process") ∷ mark (codes ":") ∷ []) (par_front g FILE_LIMITS q) (λ u r. item_process (record { levels = k; spelled = r; few_levels = le })) h

pub data SomeAttribute : List Word → List Word → Type 0 where
  some_attribute : {x : List ℕ} {a : List Word} → IsAttribute x → SomeAttribute (name x ∷ a) a

-- behind an attribute
pub data AreMoreAttributes : List Word → List Word → Type 0 where
  attributes_end : {a : List Word} → AreMoreAttributes (mark (codes "]") ∷ a) a
  attributes_next : {xs : List (List ℕ)} {a b : List Word} → AreAttributes xs a b → AreMoreAttributes (mark (codes ",") ∷ a) b

pub attributes_of : {a b c : List Word} → SomeAttribute a b → AreMoreAttributes b c → (xs : List (List ℕ)) × AreAttributes xs a c
attributes_of (some_attribute s) attributes_end = (_, attributes_last s)
attributes_of (some_attribute s) (attributes_next q) = (_, attributes_more s q)

-- a lemma from behind its `:` on, up to behind its closing quotation mark
pub data SomeMode (g : Sig) : List Word → List Word → Type 0 where
  some_mode : {d : Mode} {f : Form} {a b c : List Word} → IsMode d a (mark (codes "\"") ∷ b) → IsShortFormula g FILE_LIMITS f b (mark (codes "\"") ∷ c) → SomeMode g a c

-- the same from behind its name on
pub data SomeLemma (g : Sig) : List Word → List Word → Type 0 where
  some_lemma : {xs : List (List ℕ)} {a b c : List Word} → HasAttributes xs a (mark (codes ":") ∷ b) → SomeMode g b c → SomeLemma g a c

pub restriction_item : {g : Sig} (x : List ℕ) {f : Form} {a b c : List Word} → IsShortFormula g FILE_LIMITS f a (mark (codes "\"") ∷ b) → SomeItems b c
    → SomeItems (mark (codes "restriction") ∷ name x ∷ mark (codes ":") ∷ mark (codes "\"") ∷ a) c
restriction_item x q h =
    whole_before (mark (codes "restriction") ∷ name x ∷ mark (codes ":") ∷ mark (codes "\"") ∷ []) (quoted_front q) (λ u r. item_statement (is_restriction r)) h

mode_front : {d : Mode} {a b : List Word} → IsMode d a b → Front (IsMode d) a b
mode_front mode_missing = alone [] (λ c. mode_missing)
mode_front mode_all = alone (name (codes "all") ∷ mark (codes "-") ∷ name (codes "traces") ∷ []) (λ c. mode_all)
mode_front mode_exists = alone (name (codes "exists") ∷ mark (codes "-") ∷ name (codes "trace") ∷ []) (λ c. mode_exists)

pub lemma_item : {g : Sig} (x : List ℕ) {a b c : List Word} → SomeLemma g a b → SomeItems b c → SomeItems (mark (codes "lemma") ∷ name x ∷ a) c
lemma_item x (some_lemma s (some_mode d q)) h =
    whole_before (mark (codes "lemma") ∷ name x ∷ []) (both (before (mark (codes ":")) (has_attributes_front s)) (both (before (mark (codes "\"")) (mode_front d)) (quoted_front q)))
    (λ u r. item_statement (is_lemma r.1 r.2.1 r.2.2)) h

-- a file, and what is behind
pub data SomeFile : List Word → List Word → Type 0 where
  some_file : {x : List ℕ} {a b : List Word} → SomeItems a b → SomeFile (mark (codes "theory") ∷ name x ∷ mark (codes "begin") ∷ a) b

pub file_of : {ws b : List Word} → SomeFile ws b → b ≡ [] → IsFileWords ws
file_of (some_file {x = x} {a = a} h) e = record {
  name_of = x;
  items = a;
  header = refl;
  are = subst AreItemWords (sym (h.is ∙ (ap (λ (v : List Word). h.words ++ v) e ∙ append-nil h.words))) h.are;
}
