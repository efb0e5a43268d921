-- In runs of well-made rules all terms are messages.
use Rattle.std.specs.Prelude.{ℕ, List, Option, IfSome, All}
use Rattle.sap_terms.specs.Message.{IsMessage, IsMessageFact, AreMessageFacts, IsMessageTrace}
use Rattle.sap_terms.specs.Piles.{Pile, Takes}
use Rattle.sap_terms.specs.Signature.{Sig, HoldsBuiltins}
use Rattle.sap_terms.specs.Trace.{Trace}
use Rattle.sap_terms.specs.declared.fact.Fact.{Fact}
use Rattle.sap_terms.specs.declared.var.Sort.TheVariants.{Msg}
use Rattle.sap_rule.specs.RuleSteps.{RuleState, RuleStep, RuleRun}
use Rattle.sap_rule.specs.WellMade.{IsWellMade}
use Rattle.sap_rule.specs.declared.rule.Rule.{Rule}

-- the arguments of the facts that stand are messages, and what the adversary knows are
pub record HoldsMessages (g : Sig) (s : RuleState) : Type 0 where
  pub facts : All (λ (slot : Option Fact). IfSome slot (IsMessageFact g)) s.facts
  pub known : All (IsMessage g Msg) s.known

-- what can be taken from such a state are facts of messages
abbrev pub TakenAreMessages : Type 0
TakenAreMessages =
    (g : Sig) (s : RuleState) (ks : List ℕ) (fs : List Fact) (rest : Pile) → HoldsMessages g s → Takes s.facts ks fs rest → AreMessageFacts g fs

-- a step of well-made rules from a state that holds messages shows messages and leads to such a state
abbrev pub StepsKeepMessages : Type 0
StepsKeepMessages =
    (g : Sig) (rules : List Rule) (s z : RuleState) (acts : List Fact) → HoldsBuiltins g → All (IsWellMade g) rules → HoldsMessages g s → RuleStep g rules s acts z → AreMessageFacts g acts × HoldsMessages g z

-- so a run of theirs shows messages alone and leads to such a state
abbrev pub RunsReachMessages : Type 0
RunsReachMessages =
    (g : Sig) (rules : List Rule) (s : RuleState) (full : Trace) → HoldsBuiltins g → All (IsWellMade g) rules → RuleRun g rules s full → IsMessageTrace g full × HoldsMessages g s
