use Rattle.std.proofs.Common.{◌≡◌, length, take, sym, subst, arith, refl}
use Rattle.std.specs.Prelude.{All}
use Rattle.std.proofs.lemmas.List.Elements.{All-push}
use Rattle.sap_terms.proofs.PlainLaws.Lists.{take_got}
use Rattle.sap_rule.specs.WellMade.{IsWellMade}
use Rattle.sap_rule.proofs.Elements.{take_all, all_at}
use Rattle.sap_rule.proofs.theory.Theory.can_run.Goals as goal

pub returns-then-not-branch : goal.returns-then-not-branch
returns-then-not-branch c = (
  λ h. cc,
  λ a.
      let same = c.in_ok-is_well_made.ensures.1 (all_at (IsWellMade c.args.self.now.signature) c.args.self.now.rules c.loop-k.k c.at.result.now a c.at.ensures) in
      cc (same, c.if-not-branch.true),
)

pub loop-k-preserved : goal.loop-k-preserved
loop-k-preserved c =
    let rs = c.args.self.now.rules in
    let P = IsWellMade c.args.self.now.signature in
    subst (All P) (sym (take_got rs c.loop-k.k c.at.result.now c.at.ensures)) (All-push P (take c.loop-k.k rs) c.at.result.now c.loop-k.invariant (c.in_ok-is_well_made.ensures.0 c.if-not-branch.false))

pub returns : goal.returns
returns c =
    let rs = c.args.self.now.rules in
    let at_end : c.loop-k.k ≡ length rs = omega (arith, c.len-k-end.ensures) in
    (λ _. subst (All (IsWellMade c.args.self.now.signature)) (take_all rs c.loop-k.k at_end) c.loop-k.invariant, λ _. refl)
