-- Runs of well-made rules hold normal facts alone.
use Rattle.std.proofs.Common.{◌≡◌, ℕ, zero, suc, List, [], ◌∷◌, Option, Some, subst}
use Rattle.std.specs.Prelude.{All, IfSome, slice_get}
use Rattle.std.proofs.lemmas.List.Elements.{All-nil, All-cons, All-head, All-tail}
use Rattle.sap_terms.specs.Equations.{equations}
use Rattle.sap_terms.specs.Message.{IsMessage, IsMessageFact}
use Rattle.sap_terms.specs.Normal.{IsNormal}
use Rattle.sap_terms.specs.Signature.{HoldsBuiltins, Sig}
use Rattle.sap_terms.specs.Trace.{Trace}
use Rattle.sap_terms.specs.Tree.{Tree}
use Rattle.sap_terms.specs.declared.fact.Fact.{Fact}
use Rattle.sap_terms.specs.declared.var.Sort.TheVariants.{Msg}
use Rattle.sap_rule.specs.Messages.{HoldsMessages, RunsReachMessages}
use Rattle.sap_rule.specs.RuleSteps.{RuleState, RuleRun}
use Rattle.sap_rule.specs.WellMade.{IsWellMade}
use Rattle.sap_rule.specs.declared.rule.Rule.{Rule}
use Rattle.sap_gen.specs.Carried.{HoldsNormal}

all_at : {X : Type 0} (P : X → Type 0) (xs : List X) (k : ℕ) (x : X) → All P xs → slice_get xs k ≡ Some x → P x
all_at P [] k x a h = cc
all_at P (y ∷ ys) zero x a h = let e : y ≡ x = cc in subst P e (All-head P y ys a)
all_at P (y ∷ ys) (suc k) x a h = all_at P ys k x (All-tail P y ys a) h

normal_args : (g : Sig) (ts : List Tree) → All (IsMessage g Msg) ts → All (IsNormal (equations g)) ts
normal_args g [] h = All-nil (IsNormal (equations g))
normal_args g (t ∷ ts) h =
    All-cons (IsNormal (equations g)) t ts (All-head (IsMessage g Msg) t ts h).normal (normal_args g ts (All-tail (IsMessage g Msg) t ts h))

pub runs_hold_normal : RunsReachMessages → (g : Sig) (rules : List Rule) → HoldsBuiltins g → All (IsWellMade g) rules
    → (s : RuleState) (full : Trace) → RuleRun g rules s full → HoldsNormal (equations g) s
runs_hold_normal reach g rules b made s full run k f at =
    let m : HoldsMessages g s = (reach g rules s full b made run).1 in
    normal_args g f.args (all_at (λ (slot : Option Fact). IfSome slot (IsMessageFact g)) s.facts k (Some f) m.facts at)
