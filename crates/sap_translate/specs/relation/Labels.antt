-- Labels of locks: each lock has another than those above it, and each unlock that of an open lock of its term.
use Rattle.std.specs.Prelude.{◌≡◌, ℕ, false, List, [], ◌∷◌, ◌++◌, map}
use Rattle.sap_terms.specs.Variables.{is_known}
use Rattle.sap_process.specs.Action as action
use Rattle.sap_process.specs.Action.{Action}
use Rattle.sap_process.specs.Proc as whole
use Rattle.sap_process.specs.Proc.{Proc, act}
use Rattle.sap_translate.specs.OpenLocks.{UnlocksAreOpen}
use Rattle.sap_process.specs.Scopes.{lock_var}

-- the names of the variables of the locks with these labels
abbrev pub label_names : List ℕ → List (List ℕ)
label_names ls = map (λ i. (lock_var i).name) ls

-- where the locks above have these labels, the variable of each lock has another name than those above it
abbrev pub LabelsApart : List ℕ → Proc → Type 0
LabelsApart ls whole.nil = Unit {0}
LabelsApart ls (whole.parallel p q) = LabelsApart ls p × LabelsApart ls q
LabelsApart ls (whole.replicated p) = LabelsApart ls p
LabelsApart ls (act (action.lock m i) p) = (is_known (label_names ls) (lock_var i).name ≡ false) × LabelsApart (i ∷ ls) p
LabelsApart ls (act (action.unlock m i) p) = LabelsApart ls p
LabelsApart ls (act (action.new x) p) = LabelsApart ls p
LabelsApart ls (act (action.out m) p) = LabelsApart ls p
LabelsApart ls (act (action.send m n) p) = LabelsApart ls p
LabelsApart ls (act (action.input m) p) = LabelsApart ls p
LabelsApart ls (act (action.receive m n) p) = LabelsApart ls p
LabelsApart ls (act (action.event f) p) = LabelsApart ls p
LabelsApart ls (act (action.insert m n) p) = LabelsApart ls p
LabelsApart ls (act (action.delete m) p) = LabelsApart ls p
LabelsApart ls (act (action.embedded l a r) p) = LabelsApart ls p
LabelsApart ls (whole.test m n p q) = LabelsApart ls p × LabelsApart ls q
LabelsApart ls (whole.lookup m x p q) = LabelsApart ls p × LabelsApart ls q

-- the labels are as the rules need them; an annotated process has such
pub record HasLabels (p : Proc) : Type 0 where
  pub locks : UnlocksAreOpen [] p
  pub labels : LabelsApart [] p

-- the action with this label, where it has one
abbrev pub action_labelled : ℕ → Action → Action
action_labelled k (action.lock m i) = action.lock m k
action_labelled k (action.unlock m i) = action.unlock m k
action_labelled k (action.new x) = action.new x
action_labelled k (action.out m) = action.out m
action_labelled k (action.send m n) = action.send m n
action_labelled k (action.input m) = action.input m
action_labelled k (action.receive m n) = action.receive m n
action_labelled k (action.event f) = action.event f
action_labelled k (action.insert m n) = action.insert m n
action_labelled k (action.delete m) = action.delete m
action_labelled k (action.embedded l a r) = action.embedded l a r

-- the process at this path with the labels that its places have by their paths
abbrev pub labelled : (List ℕ → ℕ) → List ℕ → Proc → Proc
labelled label path whole.nil = whole.nil
labelled label path (whole.parallel p q) = whole.parallel (labelled label (path ++ 1 ∷ []) p) (labelled label (path ++ 2 ∷ []) q)
labelled label path (whole.replicated p) = whole.replicated (labelled label (path ++ 1 ∷ []) p)
labelled label path (act a p) = act (action_labelled (label path) a) (labelled label (path ++ 1 ∷ []) p)
labelled label path (whole.test m n p q) = whole.test m n (labelled label (path ++ 1 ∷ []) p) (labelled label (path ++ 2 ∷ []) q)
labelled label path (whole.lookup m x p q) = whole.lookup m x (labelled label (path ++ 1 ∷ []) p) (labelled label (path ++ 2 ∷ []) q)

-- the second is the first with other labels
pub record IsRelabelled (p q : Proc) : Type 0 where
  pub label : List ℕ → ℕ
  pub is : q ≡ labelled label [] p
