-- Steps as arrays of JSON: what stands in the array of a step, and which data are it.
use Rattle.std.specs.Prelude.{◌≡◌, ℕ, codes, List, [], ◌∷◌, map}
use Rattle.serde_json.specs.Data.{Data, string, array, unsigned}
use Rattle.serde_json.specs.Data as datum
use Rattle.serde_json.specs.View.{items_of}
use Rattle.sap_text.specs.declared.token.Kind.TheVariants as kind
use Rattle.sap_text.specs.Tokens.{IsToken}
use Rattle.sap_runs.specs.declared.process_step.PStep.{PStep}
use Rattle.sap_runs.specs.declared.process_step.PStep.TheVariants as step
use Rattle.sap_runs.specs.declared.rule_step.RStep.{RStep}
use Rattle.sap_runs.specs.declared.rule_step.RStep.TheVariants as rstep
use Rattle.sap_run_lines.specs.RunTerms.{IsNumber}
use Rattle.sap_run_lines.specs.LineWords.{LineWord, identifier, number, fresh_name, public_name, bound}
use Rattle.sap_run_lines.specs.StepLines.{bound_word, process_words, rule_words, NamesSymbol, NamesRule}
use Rattle.sap_run_lines.specs.WholeWords.{IsFreshName, IsPublicName, IsRunVariable, IsWholeTerm}

-- an item of a step's array: one word, or words in an array of their own
pub data Cell : Type 0 where
  one : LineWord → Cell
  many : List LineWord → Cell

-- what stands in the array of a step: the words of its line, but that the numbers of entries and facts stand in an array of
-- their own, and so do bindings, without `with`
abbrev pub process_cells : PStep → List Cell
process_cells (step.Apply f entries) = one (identifier (codes "app")) ∷ one (identifier f)
    ∷ many (map number entries) ∷ []
process_cells (step.Embedded t facts bindings) =
    one (identifier (codes "rule")) ∷ one (number t) ∷ many (map number facts)
    ∷ many (map bound_word bindings) ∷ []
process_cells s = map one (process_words s)

abbrev pub rule_cells : RStep → List Cell
rule_cells (rstep.Apply f entries) = one (identifier (codes "app")) ∷ one (identifier f)
    ∷ many (map number entries) ∷ []
rule_cells (rstep.Rule name facts bindings) =
    one (identifier (codes "rule")) ∷ one (identifier name) ∷ many (map number facts)
    ∷ many (map bound_word bindings) ∷ []
rule_cells s = map one (rule_words s)

-- these data are those of these things, in order
abbrev pub AreEach : {A : Type 0} → (A → Data → Type 0) → List A → List Data → Type 0
AreEach Is [] [] = Unit {0}
AreEach Is [] (d ∷ ds) = ⊥
AreEach Is (x ∷ xs) [] = ⊥
AreEach Is (x ∷ xs) (d ∷ ds) = Is x d × AreEach Is xs ds

-- the data of a word: a number; a string that is the identifier, the fresh or the public name; for a binding the array of a
-- string that is its variable and one that spells its term
abbrev pub IsWordData : LineWord → Data → Type 0
IsWordData (identifier x) d = IsToken kind.Ident x × (d ≡ string x)
IsWordData (number n) d = IsNumber n × (d ≡ datum.number (unsigned n))
IsWordData (fresh_name n) d = (z : List ℕ) × IsFreshName n z × (d ≡ string z)
IsWordData (public_name s) d = (z : List ℕ) × IsPublicName s z × (d ≡ string z)
IsWordData (bound v t) d =
    (x : List ℕ) × (z : List ℕ) × IsRunVariable v x × IsWholeTerm t z
    × (d ≡ array (items_of (string x ∷ string z ∷ [])))

-- the data of an item: those of its word, which is no binding; or the array of those of its words
abbrev pub IsCellData : Cell → Data → Type 0
IsCellData (one (bound v t)) d = ⊥
IsCellData (one w) d = IsWordData w d
IsCellData (many ws) d = (ds : List Data) × (d ≡ array (items_of ds)) × AreEach IsWordData ws ds

-- the array of a step of a process; what it names is a name
pub record IsProcessArray (s : PStep) (d : Data) : Type 0 where
  pub named : NamesSymbol s
  pub items : List Data
  pub is : d ≡ array (items_of items)
  pub are : AreEach IsCellData (process_cells s) items

-- so it is with a step of rules
pub record IsRuleArray (s : RStep) (d : Data) : Type 0 where
  pub named : NamesRule s
  pub items : List Data
  pub is : d ≡ array (items_of items)
  pub are : AreEach IsCellData (rule_cells s) items
