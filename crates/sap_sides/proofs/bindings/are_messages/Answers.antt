use Rattle.std.proofs.Common.{◌≡◌, length, sym, subst, arith, refl}
use Rattle.std.specs.Prelude.{All}
use Rattle.std.proofs.lemmas.List.Elements.{All-push}
use Rattle.sap_terms.specs.Message.{IsMessage}
use Rattle.sap_terms.specs.Signature.{Sig}
use Rattle.sap_terms.specs.View.{tree}
use Rattle.sap_terms.specs.declared.binding.Binding.{Binding}
use Rattle.sap_terms.proofs.PlainLaws.Lists.{take_got}
use Rattle.sap_sides.proofs.Lists.{take_all, all_at}
use Rattle.std.proofs.Common.{take}
use Rattle.sap_sides.proofs.bindings.are_messages.Goals as goal

abbrev Good : Sig → Binding → Type 0
Good g e = IsMessage g e.var.sort (tree e.term)

pub loop-k-preserved : goal.loop-k-preserved
loop-k-preserved c =
    let b = c.args.b.now in
    let P = Good c.args.sig.now in
    subst (All P) (sym (take_got b c.loop-k.k c.at-e.result.now c.at-e.ensures)) (All-push P (take c.loop-k.k b) c.at-e.result.now c.loop-k.invariant (c.in_ok-is_message.ensures.0 c.if-not-branch.false))

pub returns-then-not-branch : goal.returns-then-not-branch
returns-then-not-branch c = (
  λ h. cc,
  λ a.
      let same = c.in_ok-is_message.ensures.1 (all_at (Good c.args.sig.now) c.args.b.now c.loop-k.k c.at-e.result.now a c.at-e.ensures) in
      cc (same, c.if-not-branch.true),
)

pub returns : goal.returns
returns c =
    let b = c.args.b.now in
    let at_end : c.loop-k.k ≡ length b = omega (arith, c.len-k-end.ensures) in
    (λ _. subst (All (Good c.args.sig.now)) (take_all b c.loop-k.k at_end) c.loop-k.invariant, λ _. refl)
