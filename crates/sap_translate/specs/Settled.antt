-- What is settled where a process is annotated: labels are numbers of the machine, and lookups bind plain variables.
use Rattle.std.specs.Prelude.{◌≡◌, ◌<◌, ◌^◌}
use Rattle.sap_terms.specs.declared.var.Sort.TheVariants.{Msg}
use Rattle.sap_process.specs.Action as action
use Rattle.sap_process.specs.Action.{Action}
use Rattle.sap_process.specs.Proc as whole
use Rattle.sap_process.specs.Proc.{Proc, act}

-- the label of the action, if it has one, is a number of the machine
abbrev pub HasSmallLabel : Action → Type 0
HasSmallLabel (action.lock t l) = l < 2 ^ 64
HasSmallLabel (action.unlock t l) = l < 2 ^ 64
HasSmallLabel _ = Unit {0}

-- so is each label of the process
abbrev pub HasSmallLabels : Proc → Type 0
HasSmallLabels whole.nil = Unit {0}
HasSmallLabels (whole.parallel p q) = HasSmallLabels p × HasSmallLabels q
HasSmallLabels (whole.replicated p) = HasSmallLabels p
HasSmallLabels (act a p) = HasSmallLabel a × HasSmallLabels p
HasSmallLabels (whole.test t u p q) = HasSmallLabels p × HasSmallLabels q
HasSmallLabels (whole.lookup t x p q) = HasSmallLabels p × HasSmallLabels q

-- each lookup binds a plain variable
abbrev pub HasPlainLookups : Proc → Type 0
HasPlainLookups whole.nil = Unit {0}
HasPlainLookups (whole.parallel p q) = HasPlainLookups p × HasPlainLookups q
HasPlainLookups (whole.replicated p) = HasPlainLookups p
HasPlainLookups (act a p) = HasPlainLookups p
HasPlainLookups (whole.test t u p q) = HasPlainLookups p × HasPlainLookups q
HasPlainLookups (whole.lookup t x p q) = (x.sort ≡ Msg) × HasPlainLookups p × HasPlainLookups q
