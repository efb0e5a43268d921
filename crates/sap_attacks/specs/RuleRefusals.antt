-- Why a line of a short run of rules is refused: the first test that fails.
use Rattle.std.specs.Prelude.{◌≡◌, ℕ, ◌+◌, false, List, [], ◌∷◌, ◌++◌, Some, None, length, Contains}
use Rattle.sap_terms.specs.AdversaryFacts.{fr_fact, in_fact}
use Rattle.sap_terms.specs.Choice.{Choice}
use Rattle.sap_terms.specs.Deduce.{IsDeducible}
use Rattle.sap_terms.specs.Equations.{equations}
use Rattle.sap_terms.specs.Message.{IsOver}
use Rattle.sap_terms.specs.Normal.{IsNormalForm}
use Rattle.sap_terms.specs.Signature.{Sig}
use Rattle.sap_terms.specs.Trace.{shown}
use Rattle.sap_terms.specs.Tree.{Tree}
use Rattle.sap_terms.specs.View.{tree}
use Rattle.sap_terms.specs.declared.binding.Binding.{Binding}
use Rattle.sap_terms.specs.declared.fact.Fact.{Fact}
use Rattle.sap_terms.specs.declared.term.Term.{Term}
use Rattle.sap_process.specs.Proc.{Proc}
use Rattle.sap_restrict.specs.Answer.{IsOnlyFalse}
use Rattle.sap_restrict.specs.declared.which.Which.{Which}
use Rattle.sap_restrict.specs.declared.which.Which.TheVariants as which
use Rattle.sap_rule.specs.Named.{rule_named}
use Rattle.sap_rule.specs.declared.rule.Rule.{Rule}
use Rattle.sap_steps.specs.Lines.{IsEvaluated}
use Rattle.sap_steps.specs.declared.fault.RFault.TheVariants as line
use Rattle.sap_templates.specs.Templates.{init_rule, rules_of}
use Rattle.sap_attacks.specs.ShortRuleLines.{AreBindings, Fits, IsChosen, IsWithin, LeavesOut}
use Rattle.sap_attacks.specs.ShortRuleStates.{ShortState, is_passing}
use Rattle.sap_attacks.specs.Silent.{IsSilentRule}
use Rattle.sap_attacks.specs.SilentUses.{IsInstance, MayBeLeftOut, init_use, use_of}
use Rattle.sap_attacks.specs.Taking.{TakesEach}
use Rattle.sap_attacks.specs.declared.rule_fill_fault.RuleFillFault.{RuleFillFault}
use Rattle.sap_attacks.specs.declared.rule_fill_fault.RuleFillFault.TheVariants.{Rule as Line, Broken, BadTerm, NotDeduced, MoreThanOne}
use Rattle.sap_attacks.specs.declared.short_rule_step.ShortRuleStep.{ShortRuleStep}
use Rattle.sap_attacks.specs.declared.short_rule_step.ShortRuleStep.TheVariants.{Rule as Using, Know, Name}

-- the fact, which is the one of this number on a left side, can't be taken: a name that was drawn, a message that the adversary can't
-- give, or one that doesn't stand
pub data IsNotTaken (g : Sig) (s : ShortState) (number : ℕ) (f : Fact) : RuleFillFault → Type 0 where
  drawn : (n : ℕ) → f ≡ fr_fact n → Contains s.made n → IsNotTaken g s number f (Line (line.UsedName n))
  not_given : (t : Tree) → f ≡ in_fact t → ¬ IsDeducible g [] s.known t → IsNotTaken g s number f NotDeduced
  missing : is_passing f ≡ false → ¬ Contains s.facts f → IsNotTaken g s number f (Line (line.FactMissing number))

-- those before it are taken, and then the first of the others can't be
pub record IsStuck (g : Sig) (s : ShortState) (left : List Fact) (fault : RuleFillFault) : Type 0 where
  pub before : List Fact
  pub fact : Fact
  pub behind : List Fact
  pub cut : left ≡ before ++ fact ∷ behind
  pub taken : ShortState
  pub takes : TakesEach g s before taken
  pub not_taken : IsNotTaken g taken (length before + 1) fact fault

-- bindings that leave variables out name no choice: nothing that stands fits, or it fits in two ways
pub data IsNotChosen (g : Sig) (p : Proc) (s : ShortState) (r : Rule) (b : List Binding) : RuleFillFault → Type 0 where
  nothing_fits : ((σ : Choice) → ¬ Fits g p s r b σ) → IsNotChosen g p s r b (Line (line.FactMissing 1))
  more_fits : (σ τ : Choice) → Fits g p s r b σ → Fits g p s r b τ → ¬ (use_of r σ ≡ use_of r τ) → IsNotChosen g p s r b MoreThanOne

-- the rule is refused under the choice that its line names
pub data IsRefusedUnder (g : Sig) (W : Tree → Type 0) (p : Proc) (s : ShortState) (r : Rule) (σ : Choice) : RuleFillFault → Type 0 where
  -- a normal form that is evaluated isn't as W says
  too_large : (n : Tree) → IsEvaluated g r σ n → ¬ W n → IsRefusedUnder g W p s r σ (Line line.TermLarge)
  -- all are, and the left side can't be taken; or it is, and what is shown then breaks a restriction
  not_taken : (left acts right : List Fact) {fault : RuleFillFault} → IsWithin g W r σ → ¬ MayBeLeftOut p r
      → IsInstance g r σ left acts right → IsStuck g s left fault → IsRefusedUnder g W p s r σ fault
  breaks : (left acts right : List Fact) (taken : ShortState) (w : Which) → IsWithin g W r σ → ¬ MayBeLeftOut p r
      → IsInstance g r σ left acts right → TakesEach g s left taken → IsOnlyFalse g (taken.shown ++ shown acts) w
      → IsRefusedUnder g W p s r σ (Broken w)
  -- a silent rule: no use of it under this choice is there to be named
  not_used : IsWithin g W r σ → IsSilentRule p r → ¬ Contains s.unnamed (use_of r σ)
      → IsRefusedUnder g W p s r σ (Line (line.FactMissing 1))
  -- the rule that starts the run: it was named
  starts_again : IsWithin g W r σ → r ≡ init_rule → ¬ Contains s.unnamed init_use → IsRefusedUnder g W p s r σ (Broken which.Init)

-- a line for this rule with these bindings is refused: they aren't right; or they are, and name no choice; or they name one, under which
-- it is refused
pub data IsRefusedRule (g : Sig) (W : Tree → Type 0) (p : Proc) (s : ShortState) (r : Rule) (b : List Binding) : RuleFillFault → Type 0 where
  bad_binding : ¬ AreBindings g r b → IsRefusedRule g W p s r b (Line line.BadBinding)
  no_choice : {fault : RuleFillFault} → AreBindings g r b → LeavesOut r b → IsNotChosen g p s r b fault → IsRefusedRule g W p s r b fault
  of_choice : {fault : RuleFillFault} (σ : Choice) → AreBindings g r b → IsChosen g p s r b σ → IsRefusedUnder g W p s r σ fault
      → IsRefusedRule g W p s r b fault

-- the state, the line, and why it is refused there
pub data IsShortRuleRefused (g : Sig) (W : Tree → Type 0) (p : Proc) (s : ShortState) : ShortRuleStep → RuleFillFault → Type 0 where
  no_rule : {name : List ℕ} {b : List Binding} → rule_named (rules_of p) name ≡ None
      → IsShortRuleRefused g W p s (Using name b) (Line line.NoRule)
  rule_refused : {name : List ℕ} {b : List Binding} {fault : RuleFillFault} (r : Rule) → rule_named (rules_of p) name ≡ Some r
      → IsRefusedRule g W p s r b fault → IsShortRuleRefused g W p s (Using name b) fault
  bad_term : {u : Term} → ¬ IsOver g (tree u) → IsShortRuleRefused g W p s (Know u) BadTerm
  not_deduced : {u : Term} (form : Tree) → IsOver g (tree u) → IsNormalForm (equations g) (tree u) form → ¬ IsDeducible g [] s.known form
      → IsShortRuleRefused g W p s (Know u) NotDeduced
  drawn : {n : ℕ} → Contains s.made n → IsShortRuleRefused g W p s (Name n) (Line (line.UsedName n))
