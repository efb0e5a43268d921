use Rattle.std.proofs.Common.{◌≡◌, length, take, sym, subst, arith, refl}
use Rattle.std.specs.Prelude.{All}
use Rattle.std.proofs.lemmas.List.Elements.{All-push}
use Rattle.sap_terms.specs.Equations.{equations}
use Rattle.sap_terms.specs.declared.limits.TheConstants.{MOST_TERM_NODES}
use Rattle.sap_terms.proofs.PlainLaws.Lists.{take_got}
use Rattle.sap_share.specs.Env.{IsSmallForm}
use Rattle.sap_share.specs.Shared.{Shared}
use Rattle.sap_share.specs.declared.env.Bound.{Bound}
use Rattle.sap_sides.proofs.Lists.{take_all, all_at}
use Rattle.sap_sides.proofs.bindings.are_small_forms.Goals as goal

abbrev Small : Shared → Bound → Type 0
Small s b = IsSmallForm (equations s.sig) MOST_TERM_NODES s.trees b.id

pub loop-i-preserved : goal.loop-i-preserved
loop-i-preserved c =
    let env = c.args.env.now in
    let P = Small c.args.table.now in
    subst (All P) (sym (take_got env c.loop-i.i c.at.result.now c.at.ensures)) (All-push P (take c.loop-i.i env) c.at.result.now c.loop-i.invariant (c.is_small_form.ensures.0 c.if-not-is_small_form.false))

pub returns-then-not-is_small_form : goal.returns-then-not-is_small_form
returns-then-not-is_small_form c = (
  λ h. cc,
  λ a.
      let same = c.is_small_form.ensures.1 (all_at (Small c.args.table.now) c.args.env.now c.loop-i.i c.at.result.now a c.at.ensures) in
      cc (same, c.if-not-is_small_form.true),
)

pub returns : goal.returns
returns c =
    let env = c.args.env.now in
    let at_end : c.loop-i.i ≡ length env = omega (arith, c.len-i-end.ensures) in
    (λ _. subst (All (Small c.args.table.now)) (take_all env c.loop-i.i at_end) c.loop-i.invariant, λ _. refl)
