-- How the steps of a run are written.
use Rattle.std.specs.Prelude.{ℕ, codes, decimal, List, [], ◌∷◌, ◌++◌}
use Rattle.std.specs.List.{flat_map}
use Rattle.sap_terms.specs.declared.binding.Binding.{Binding}
use Rattle.sap_terms.specs.View.{tree}
use Rattle.sap_grammar.specs.TermText.{variable_text, tree_text}
use Rattle.sap_runs.specs.declared.process_step.PStep.{PStep}
use Rattle.sap_runs.specs.declared.process_step.PStep.TheVariants as process
use Rattle.sap_runs.specs.declared.rule_step.RStep.{RStep}
use Rattle.sap_runs.specs.declared.rule_step.RStep.TheVariants as rule

-- numbers, each behind a blank
abbrev pub numbers_text : List ℕ → List ℕ
numbers_text numbers = flat_map (λ k. codes " " ++ decimal k) numbers

-- a fresh name by its number, behind a blank
abbrev pub fresh_text : ℕ → List ℕ
fresh_text n = codes " ~" ++ decimal n

-- a public name, behind a blank
abbrev pub quoted_text : List ℕ → List ℕ
quoted_text name = codes " '" ++ (name ++ codes "'")

-- a variable and its term, behind a blank
abbrev pub binding_text : Binding → List ℕ
binding_text b = codes " " ++ (variable_text b.var ++ (codes "=" ++ tree_text (tree b.term)))

-- variables and their terms behind `with`, or nothing where there are none
abbrev pub bindings_text : List Binding → List ℕ
bindings_text [] = []
bindings_text (b ∷ bs) = codes " with" ++ flat_map binding_text (b ∷ bs)

-- the facts that a rule is used on, and what stands for its open variables
abbrev pub uses_text : List ℕ → List Binding → List ℕ
uses_text facts bindings = numbers_text facts ++ bindings_text bindings

-- the adversary writes down a public name; applies a symbol; shows that it knows an entry
abbrev pub public_text : List ℕ → List ℕ
public_text name = codes "pub" ++ quoted_text name

abbrev pub apply_text : List ℕ → List ℕ → List ℕ
apply_text symbol entries = codes "app " ++ (symbol ++ numbers_text entries)

abbrev pub know_text : ℕ → List ℕ
know_text entry = codes "know" ++ numbers_text (entry ∷ [])

-- the word of the step, and what it names
abbrev pub process_step_text : PStep → List ℕ
process_step_text (process.Nil t) = codes "nil" ++ numbers_text (t ∷ [])
process_step_text (process.Par t) = codes "par" ++ numbers_text (t ∷ [])
process_step_text (process.Rep t) = codes "rep" ++ numbers_text (t ∷ [])
process_step_text (process.New t n) = codes "new" ++ (numbers_text (t ∷ []) ++ fresh_text n)
process_step_text (process.Out t) = codes "out" ++ numbers_text (t ∷ [])
process_step_text (process.Send t k) = codes "send" ++ numbers_text (t ∷ k ∷ [])
process_step_text (process.In t k) = codes "in" ++ numbers_text (t ∷ k ∷ [])
process_step_text (process.Sync s r) = codes "sync" ++ numbers_text (s ∷ r ∷ [])
process_step_text (process.Then t) = codes "then" ++ numbers_text (t ∷ [])
process_step_text (process.Else t) = codes "else" ++ numbers_text (t ∷ [])
process_step_text (process.Event t) = codes "event" ++ numbers_text (t ∷ [])
process_step_text (process.Insert t) = codes "insert" ++ numbers_text (t ∷ [])
process_step_text (process.Delete t) = codes "delete" ++ numbers_text (t ∷ [])
process_step_text (process.Found t) = codes "found" ++ numbers_text (t ∷ [])
process_step_text (process.Missing t) = codes "missing" ++ numbers_text (t ∷ [])
process_step_text (process.Lock t) = codes "lock" ++ numbers_text (t ∷ [])
process_step_text (process.Unlock t) = codes "unlock" ++ numbers_text (t ∷ [])
process_step_text (process.Embedded t facts bindings) = codes "rule" ++ (numbers_text (t ∷ []) ++ uses_text facts bindings)
process_step_text (process.Name n) = codes "name" ++ fresh_text n
process_step_text (process.Public name) = public_text name
process_step_text (process.Apply symbol entries) = apply_text symbol entries
process_step_text (process.Know k) = know_text k

abbrev pub rule_step_text : RStep → List ℕ
rule_step_text (rule.Fresh n) = codes "fresh" ++ fresh_text n
rule_step_text (rule.Learn f) = codes "learn" ++ numbers_text (f ∷ [])
rule_step_text (rule.Own f) = codes "own" ++ numbers_text (f ∷ [])
rule_step_text (rule.Public name) = public_text name
rule_step_text (rule.Apply symbol entries) = apply_text symbol entries
rule_step_text (rule.Know k) = know_text k
rule_step_text (rule.Rule name facts bindings) = codes "rule " ++ (name ++ uses_text facts bindings)
