-- What the rules of a process show is what the process shows.
use Rattle.std.specs.Prelude.{◌≡◌, List, map}
use Rattle.sap_terms.specs.Signature.{Sig}
use Rattle.sap_terms.specs.Trace.{Trace}
use Rattle.sap_formula.specs.Form.{RestrictionForm}
use Rattle.sap_formula.specs.Hide.{hide}
use Rattle.sap_formula.specs.HoldsOf.{AreTrueOn}
use Rattle.sap_process.specs.Proc.{Proc}
use Rattle.sap_process.specs.ProcessSteps.{IsProcessTrace}
use Rattle.sap_restrict.specs.Standard.{IsAdmitted}
use Rattle.sap_rule.specs.RuleSteps.{IsFullTrace}
use Rattle.sap_rule.specs.declared.rule.Rule.{Rule}
use Rattle.sap_rule.specs.declared.theory.Theory.{Theory}

-- this is seen of some run of the rules whose full trace is admitted
abbrev pub IsVisibleTrace : Sig → List Rule → Trace → Type 0
IsVisibleTrace g rules tr = (full : Trace) × IsFullTrace g rules full × IsAdmitted g full
    × (hide full ≡ tr)

-- each trace of the process is seen of an admitted run of the rules
abbrev pub ShowsAll : Sig → Proc → List Rule → Type 0
ShowsAll g p rules = (tr : Trace) → IsProcessTrace g p tr → IsVisibleTrace g rules tr

-- and nothing else is
abbrev pub ShowsOnly : Sig → Proc → List Rule → Type 0
ShowsOnly g p rules = (tr : Trace) → IsVisibleTrace g rules tr → IsProcessTrace g p tr

-- the formulas of these restrictions are true on the trace
abbrev pub AreRestrictionsTrue : Sig → List RestrictionForm → Trace → Type 0
AreRestrictionsTrue g rs tr = AreTrueOn g (map (λ (r : RestrictionForm). r.formula) rs) tr

-- this is seen of some run of the theory's rules on whose full trace the theory's restrictions are true
abbrev pub IsShownBy : Theory → Trace → Type 0
IsShownBy t tr = (full : Trace) × IsFullTrace t.signature t.rules full
    × AreRestrictionsTrue t.signature t.restrictions full × (hide full ≡ tr)
