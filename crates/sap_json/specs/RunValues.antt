-- Which run bytes of JSON are, and why they are none.
use Rattle.std.specs.Prelude.{◌≡◌, ◌≤◌, ◌<◌, ◌+◌, ℕ, codes, List, ◌∷◌, ◌++◌, length, Some, Result, Ok, Err, IsUtf8, ◌⊎◌}
use Rattle.serde_json.specs.Data.{Data, string, array, object, member, no_members}
use Rattle.serde_json.specs.Read.{read}
use Rattle.serde_json.specs.View.{items_of}
use Rattle.sap_runs.specs.declared.process_step.PStep.{PStep}
use Rattle.sap_runs.specs.declared.rule_step.RStep.{RStep}
use Rattle.sap_run_texts.specs.declared.run.Run.{Run}
use Rattle.sap_run_texts.specs.declared.run.Run.TheVariants as run
use Rattle.sap_run_texts.specs.declared.limits.TheConstants.{MOST_PROCESS_STEPS, MOST_RULE_STEPS}
use Rattle.sap_run_texts.specs.RunTexts.{process_head, rule_head}
use Rattle.sap_json.specs.declared.json_fault.JsonFault.{JsonFault}
use Rattle.sap_json.specs.declared.json_fault.JsonFault.TheVariants as fault
use Rattle.sap_json.specs.Arrays.{AreEach, IsProcessArray, IsRuleArray}

-- the object of these two members, whatever their order in a text
abbrev pub run_object : List ℕ → List Data → Data
run_object kind steps =
    object (member (codes "kind") (string kind) (member (codes "steps") (array (items_of steps)) no_members))

-- the kinds of runs
abbrev pub IsKind : List ℕ → Type 0
IsKind kind = (kind ≡ process_head) ⊎ (kind ≡ rule_head)

-- the bytes are UTF-8, and they are this value, by the definition of `serde_json`
pub record IsValueOf (z : List ℕ) (d : Data) : Type 0 where
  pub utf8 : IsUtf8 z
  pub value : read z ≡ Some d

-- What the items of a run are, of which each is to be a step's array: steps, at most so many; or an item stands behind fewer
-- than so many that are steps', and is none's, and is told by its number, the first one's being 1; or an item stands behind so
-- many.
pub data AreSteps {A : Type 0} (IsArray : A → Data → Type 0) (most : ℕ) (ds : List Data)
    : Result (List A) JsonFault → Type 0 where
  all_steps : {ss : List A} → AreEach IsArray ss ds → length ss ≤ most
      → AreSteps IsArray most ds (Ok ss)
  bad_step : (ss : List A) (good : List Data) (d : Data) (more : List Data) → ds ≡ good ++ d ∷ more
      → AreEach IsArray ss good → length ss < most
      → ((s : A) → IsArray s d → ⊥) → AreSteps IsArray most ds (Err (fault.BadStep (length ss + 1)))
  too_many : (ss : List A) (good : List Data) (d : Data) (more : List Data) → ds ≡ good ++ d ∷ more
      → AreEach IsArray ss good → length ss ≡ most
      → AreSteps IsArray most ds (Err (fault.TooManySteps most))

-- the answer as one on runs of both kinds
abbrev pub process_answer : Result (List PStep) JsonFault → Result Run JsonFault
process_answer (Ok ss) = Ok (run.Process ss)
process_answer (Err e) = Err e

abbrev pub rule_answer : Result (List RStep) JsonFault → Result Run JsonFault
rule_answer (Ok ss) = Ok (run.Rules ss)
rule_answer (Err e) = Err e

-- the run that bytes are, or why they are none: they are no value; the value isn't the object of a kind and of items; an item
-- isn't a step's array, or one is too many
pub data IsJsonRead (z : List ℕ) : Result Run JsonFault → Type 0 where
  not_json : ((d : Data) → IsValueOf z d → ⊥) → IsJsonRead z (Err fault.NotJson)
  not_run : (d : Data) → IsValueOf z d
      → ((kind : List ℕ) (steps : List Data) → IsKind kind → d ≡ run_object kind steps → ⊥)
      → IsJsonRead z (Err fault.NotRun)
  of_process : {o : Result (List PStep) JsonFault} (steps : List Data)
      → IsValueOf z (run_object process_head steps)
      → AreSteps IsProcessArray MOST_PROCESS_STEPS steps o → IsJsonRead z (process_answer o)
  of_rules : {o : Result (List RStep) JsonFault} (steps : List Data)
      → IsValueOf z (run_object rule_head steps)
      → AreSteps IsRuleArray MOST_RULE_STEPS steps o → IsJsonRead z (rule_answer o)

-- the answer is this; of want of memory nothing is said
abbrev pub IsTold : {B : Type 0} → (Result B JsonFault → Type 0) → Result B JsonFault → Type 0
IsTold Is (Ok x) = Is (Ok x)
IsTold Is (Err fault.Mem) = Unit {0}
IsTold Is (Err e) = Is (Err e)
