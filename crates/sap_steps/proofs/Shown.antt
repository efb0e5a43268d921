-- What a step shows are facts of messages.
use Rattle.std.proofs.Common.{ℕ, suc, List, [], ◌∷◌, Option, Some, None, refl}
use Rattle.std.specs.Prelude.{All, IfSome}
use Rattle.std.proofs.lemmas.List.Elements.{All-nil, All-cons, All-head, All-tail, All-weaker}
use Rattle.sap_terms.specs.Message.{IsMessage, IsMessageFact, AreMessageFacts}
use Rattle.sap_terms.specs.Piles.{Pile}
use Rattle.sap_terms.specs.Signature.{Sig, HoldsBuiltins}
use Rattle.sap_terms.specs.Tree.{Tree}
use Rattle.sap_terms.specs.declared.fact.Fact.{Fact}
use Rattle.sap_terms.specs.declared.var.Sort.TheVariants.{Msg}
use Rattle.sap_rule.specs.Messages.{StepsKeepMessages}
use Rattle.sap_rule.specs.RuleSteps.{RuleState}
use Rattle.sap_rule.specs.WellMade.{IsWellMade}
use Rattle.sap_runs.specs.declared.rule_step.RStep.{RStep}
use Rattle.sap_steps.specs.Lines.{IsLine, HasFewNodes}
use Rattle.sap_steps.specs.Runs.{LinesAreSteps}
use Rattle.sap_sides.specs.Messages.{IsSmallMessage, IsSmallMessageFact, HoldsSmallMessages}
use Rattle.sap_steps.specs.code.Ready.{IsReady, rules_of}
use Rattle.sap_steps.specs.declared.prepared.Prepared.{Prepared}

fact_message : (g : Sig) (f : Fact) → IsSmallMessageFact g f → IsMessageFact g f
fact_message g f h = All-weaker (IsSmallMessage g) (IsMessage g Msg) (λ t m. m.message) f.args h

-- facts that hold small messages hold messages
stands_messages : (g : Sig) (facts : Pile) → HoldsSmallMessages g facts → All (λ (slot : Option Fact). IfSome slot (IsMessageFact g)) facts
stands_messages g [] h = All-nil (λ (slot : Option Fact). IfSome slot (IsMessageFact g))
stands_messages g (None ∷ xs) h = All-cons (λ (slot : Option Fact). IfSome slot (IsMessageFact g)) None xs tt (stands_messages g xs (λ k f e. h (suc k) f e))
stands_messages g (Some x ∷ xs) h =
    All-cons (λ (slot : Option Fact). IfSome slot (IsMessageFact g)) (Some x) xs (fact_message g x (h 0 x refl)) (stands_messages g xs (λ k f e. h (suc k) f e))

well_rules : (g : Sig) (ps : List Prepared) → All (IsReady g) ps → All (IsWellMade g) (rules_of ps)
well_rules g [] h = All-nil (IsWellMade g)
well_rules g (p ∷ ps) h =
    All-cons (IsWellMade g) p.rule (rules_of ps) (All-head (IsReady g) p ps h).well_made (well_rules g ps (All-tail (IsReady g) p ps h))

pub shown : LinesAreSteps HasFewNodes → StepsKeepMessages → (g : Sig) (ps : List Prepared) (facts : Pile) (known : List Tree) (made : List ℕ) (z : RuleState) (line : RStep) (acts : List Fact) → HoldsBuiltins g → All (IsReady g) ps → HoldsSmallMessages g facts → All (IsMessage g Msg) known → IsLine g (rules_of ps) HasFewNodes (record { facts = facts; known = known; made = made }) line acts z → AreMessageFacts g acts
shown steps keep g ps facts known made z line acts builtins ready held messages is =
    let s : RuleState = record { facts = facts; known = known; made = made } in
    (keep g (rules_of ps) s z acts builtins (well_rules g ps ready) (record { facts = stands_messages g facts held; known = messages }) (steps g (rules_of ps) s z acts line is)).0
