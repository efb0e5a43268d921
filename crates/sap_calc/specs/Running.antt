-- A configuration that can be written down, and the configuration that it is.
use Rattle.std.specs.Prelude.{◌≡◌, ℕ, Bool, false, List, [], ◌∷◌, Option, None, if◌then◌else◌}
use Rattle.sap_terms.specs.Piles.{Pile}
use Rattle.sap_terms.specs.Same.{same_tree}
use Rattle.sap_terms.specs.Signature.{Sig}
use Rattle.sap_terms.specs.Tree.{Tree}
use Rattle.sap_terms.specs.declared.fact.Fact.{Fact}
use Rattle.sap_deduce.specs.Entries.{Entry, terms_of, names_given, outputs_given}
use Rattle.sap_process.specs.Configuration.{Config}
use Rattle.sap_process.specs.Proc.{Proc}
use Rattle.sap_runs.specs.Inner.{InnerAction, found}
use Rattle.sap_runs.specs.Limits.{HasFewNodes}
use Rattle.sap_runs.specs.declared.process_step.PStep.{PStep}
use Rattle.sap_runs.specs.declared.process_step.PStep.TheVariants as line
use Rattle.sap_lines.specs.Faults.{IsRefused}
use Rattle.sap_lines.specs.Lines.{IsProcessLine}
use Rattle.sap_lines.specs.declared.fault.PFault.{PFault}
use Rattle.sap_lines.specs.declared.fault.PFault.TheVariants.{Mem}

-- the signature; the running processes by their numbers; what the store has at keys, nothing where a key was cleared; which
-- terms are held, or were; the facts by their numbers; the names that processes made; what the adversary knows
pub record Running : Type 0 where
  pub sig : Sig
  pub threads : List (Option Proc)
  pub store : List (Tree × Option Tree)
  pub held : List (Tree × Bool)
  pub facts : Pile
  pub made : List ℕ
  pub known : List Entry

-- what stands at a key, and what there is where none stands
abbrev pub value_at : {V : Type 0} → V → List (Tree × V) → Tree → V
value_at v [] k = v
value_at v (e ∷ es) k = if same_tree e.0 k then e.1 else value_at v es k

-- the configuration: the adversary's names and what was sent are among the entries
abbrev pub configuration : Running → Config
configuration r = record {
  made = r.made;
  own = names_given r.known;
  store = value_at None r.store;
  facts = r.facts;
  threads = r.threads;
  frame = outputs_given r.known;
  held = value_at false r.held;
}

-- the line is possible, with some inner actions, and leads from one to the other
pub record IsDone (r z : Running) (step : PStep) (label : List Fact) : Type 0 where
  pub inner : List InnerAction
  pub line : IsProcessLine r.sig HasFewNodes (configuration r) (terms_of r.known) step inner label (configuration z) (terms_of z.known)
  pub sig : z.sig ≡ r.sig

-- it is refused for this cause
abbrev pub IsDenied : Running → PStep → PFault → Type 0
IsDenied r step fault = IsRefused r.sig (configuration r) (terms_of r.known) step fault

-- the line with this number is refused for this cause, which isn't want of memory
pub record IsDeniedAt (r : Running) (step : PStep) (number n : ℕ) (fault : PFault) : Type 0 where
  pub same : n ≡ number
  pub denied : IsDenied r step fault
  pub cause : ¬ (fault ≡ Mem)

-- the thread's line `found` is possible, and finds this value
pub record WouldFind (r : Running) (t : ℕ) (v : Tree) : Type 0 where
  pub key : Tree
  pub after : Config
  pub line : IsProcessLine r.sig HasFewNodes (configuration r) (terms_of r.known) (line.Found t) (found key v ∷ []) [] after (terms_of r.known)

-- it is refused, and not for want of memory
pub record FindsNothing (r : Running) (t : ℕ) : Type 0 where
  pub fault : PFault
  pub denied : IsDenied r (line.Found t) fault
  pub cause : ¬ (fault ≡ Mem)
