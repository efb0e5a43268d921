-- The lines of steps: the words of each, and which bytes are a step's line.
use Rattle.std.specs.Prelude.{◌≡◌, ℕ, true, codes, List, [], ◌∷◌, ◌++◌, map, Option, Some, None, ◌⊎◌}
use Rattle.std.specs.List.{list_all}
use Rattle.sap_text.specs.Tokens.{is_not_feed}
use Rattle.sap_terms.specs.declared.binding.Binding.{Binding}
use Rattle.sap_terms.specs.View.{tree}
use Rattle.sap_runs.specs.declared.process_step.PStep.{PStep}
use Rattle.sap_runs.specs.declared.process_step.PStep.TheVariants as step
use Rattle.sap_runs.specs.declared.rule_step.RStep.{RStep}
use Rattle.sap_runs.specs.declared.rule_step.RStep.TheVariants as rstep
use Rattle.sap_run_lines.specs.RunTerms.{IsRunName}
use Rattle.sap_run_lines.specs.LineWords.{LineWord, identifier, number, fresh_name, public_name, bound, AreLineWords}

-- a variable with what stands for it
abbrev pub bound_word : Binding → LineWord
bound_word b = bound b.var (tree b.term)

-- nothing, or `with` and bindings, one or more
abbrev pub with_words : List Binding → List LineWord
with_words [] = []
with_words (b ∷ bs) = identifier (codes "with") ∷ map bound_word (b ∷ bs)

-- the facts that a rule is used on, and what its open variables stand for
abbrev pub use_words : List ℕ → List Binding → List LineWord
use_words facts bindings = map number facts ++ with_words bindings

-- a word of its own and numbers
abbrev pub plain : List ℕ → List ℕ → List LineWord
plain word numbers = identifier word ∷ map number numbers

-- the words of a step of a process
abbrev pub process_words : PStep → List LineWord
process_words (step.Nil t) = plain (codes "nil") (t ∷ [])
process_words (step.Par t) = plain (codes "par") (t ∷ [])
process_words (step.Rep t) = plain (codes "rep") (t ∷ [])
process_words (step.New t n) = identifier (codes "new") ∷ number t ∷ fresh_name n ∷ []
process_words (step.Out t) = plain (codes "out") (t ∷ [])
process_words (step.Send t k) = plain (codes "send") (t ∷ k ∷ [])
process_words (step.In t k) = plain (codes "in") (t ∷ k ∷ [])
process_words (step.Sync s r) = plain (codes "sync") (s ∷ r ∷ [])
process_words (step.Then t) = plain (codes "then") (t ∷ [])
process_words (step.Else t) = plain (codes "else") (t ∷ [])
process_words (step.Event t) = plain (codes "event") (t ∷ [])
process_words (step.Insert t) = plain (codes "insert") (t ∷ [])
process_words (step.Delete t) = plain (codes "delete") (t ∷ [])
process_words (step.Found t) = plain (codes "found") (t ∷ [])
process_words (step.Missing t) = plain (codes "missing") (t ∷ [])
process_words (step.Lock t) = plain (codes "lock") (t ∷ [])
process_words (step.Unlock t) = plain (codes "unlock") (t ∷ [])
process_words (step.Embedded t facts bindings) = identifier (codes "rule") ∷ number t
    ∷ use_words facts bindings
process_words (step.Name n) = identifier (codes "name") ∷ fresh_name n ∷ []
process_words (step.Public a) = identifier (codes "pub") ∷ public_name a ∷ []
process_words (step.Apply f entries) = identifier (codes "app") ∷ identifier f ∷ map number entries
process_words (step.Know k) = plain (codes "know") (k ∷ [])

-- the words of a step of rules
abbrev pub rule_words : RStep → List LineWord
rule_words (rstep.Fresh n) = identifier (codes "fresh") ∷ fresh_name n ∷ []
rule_words (rstep.Learn f) = plain (codes "learn") (f ∷ [])
rule_words (rstep.Own f) = plain (codes "own") (f ∷ [])
rule_words (rstep.Public a) = identifier (codes "pub") ∷ public_name a ∷ []
rule_words (rstep.Apply f entries) = identifier (codes "app") ∷ identifier f ∷ map number entries
rule_words (rstep.Know k) = plain (codes "know") (k ∷ [])
rule_words (rstep.Rule name facts bindings) = identifier (codes "rule") ∷ identifier name
    ∷ use_words facts bindings

-- the symbol that it applies, if it applies one, is a name
abbrev pub NamesSymbol : PStep → Type 0
NamesSymbol (step.Apply f entries) = IsRunName f
NamesSymbol _ = Unit {0}

-- the symbol that it applies or the rule that it uses is a name
abbrev pub NamesRule : RStep → Type 0
NamesRule (rstep.Apply f entries) = IsRunName f
NamesRule (rstep.Rule name facts bindings) = IsRunName name
NamesRule _ = Unit {0}

-- the bytes are the line of this step of a process, without the line feed
pub record IsProcessStepLine (s : PStep) (z : List ℕ) : Type 0 where
  pub named : NamesSymbol s
  pub words : AreLineWords (process_words s) z

-- so it is with a step of rules
pub record IsRuleStepLine (s : RStep) (z : List ℕ) : Type 0 where
  pub named : NamesRule s
  pub words : AreLineWords (rule_words s) z

-- the step whose line the bytes are, or that they are no step's
abbrev pub IsLineRead : {A : Type 0} → (A → List ℕ → Type 0) → List ℕ → Option A → Type 0
IsLineRead IsStepLine z None = (s : _) → IsStepLine s z → ⊥
IsLineRead IsStepLine z (Some s) = IsStepLine s z

-- no line feed stands in the bytes
abbrev pub IsOpenLine : List ℕ → Type 0
IsOpenLine line = list_all is_not_feed line ≡ true

-- the bytes are some step's line, or none's
abbrev pub IsDecided : {A : Type 0} → (A → List ℕ → Type 0) → List ℕ → Type 0
IsDecided {A = A} IsStepLine z = ((s : A) × IsStepLine s z) ⊎ ((s : A) → IsStepLine s z → ⊥)
