use Rattle.std.proofs.Common.{◌+◌, length, nat_eq}
use Rattle.std.proofs.lemmas.Bool.Decides.{Decides-eqb}
use Rattle.sap_terms.proofs.PlainLaws.Known.{clash}
use Rattle.sap_expect.proofs.KindTexts.{one_put}
use Rattle.sap_expect.proofs.kind_text.push_others.Goals as goal

pub loop-k-preserved : goal.loop-k-preserved
loop-k-preserved c =
    let d = Decides-eqb (c.loop-k.k + 1) (length c.args.kinds.now) in
    one_put c.args.text.now c.loop-k.text c.push_other.new.text c.args.kinds.now c.loop-k.k _ (nat_eq (c.loop-k.k + 1) (length c.args.kinds.now)) c.loop-k-test.true
    (λ e. d.0 e) (λ e f. clash (nat_eq (c.loop-k.k + 1) (length c.args.kinds.now)) (d.1 f) e) c.loop-k.invariant c.in_ok-push_other.ensures
