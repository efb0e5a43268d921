use Rattle.std.proofs.Common.{◌≡◌, List, length, sym, subst, arith}
use Rattle.sap_terms.specs.Signature.{Sig}
use Rattle.sap_terms.specs.declared.fact.Fact.{Fact}
use Rattle.sap_sides.specs.Messages.{IsSmallMessageFact}
use Rattle.sap_sides.specs.SharedFacts.{AreShared}
use Rattle.sap_sides.proofs.Kept.{share_more, keeps-both}
use Rattle.sap_sides.proofs.Lists.{all_at, take_all}
use Rattle.sap_sides.proofs.shared_fact.share_facts.Goals as goal

pub loop-k-preserved : goal.loop-k-preserved
loop-k-preserved c =
    let h = c.loop-k.invariant in
    record {
      shared = share_more c.loop-k.table c.share_fact.new.table c.args.fs.now c.loop-k.k c.at.result.now c.loop-k.shared.items c.push_fact.new.shared.items c.in-Ok.f h.shared c.in-Ok.ensures.keeps c.in-Ok.ensures.shared c.at.ensures c.in_ok-push_fact-in-Ok.ensures;
      keeps = keeps-both c.args.table.now c.loop-k.table c.share_fact.new.table h.keeps c.in-Ok.ensures.keeps;
    }

pub share_fact-requires : goal.share_fact-requires
share_fact-requires c =
    let message = all_at (IsSmallMessageFact c.args.table.now.sig) c.args.fs.now c.loop-k.k c.at.result.now c.requires c.at.ensures in
    subst (λ (g : Sig). IsSmallMessageFact g c.at.result.now) (sym c.loop-k.invariant.keeps.sig) message

pub returns-in-Err-clause-keeps : goal.returns-in-Err-clause-keeps
returns-in-Err-clause-keeps c = keeps-both c.args.table.now c.loop-k.table c.share_fact.new.table c.loop-k.invariant.keeps c.in-Err.ensures.keeps

pub returns-in_err-push_fact-in-Ok-clause-keeps : goal.returns-in_err-push_fact-in-Ok-clause-keeps
returns-in_err-push_fact-in-Ok-clause-keeps c = keeps-both c.args.table.now c.loop-k.table c.share_fact.new.table c.loop-k.invariant.keeps c.in-Ok.ensures.keeps

pub returns-clause-shared : goal.returns-clause-shared
returns-clause-shared c =
    let at_end : c.loop-k.k ≡ length c.args.fs.now = omega (arith, c.len-k-end.ensures) in
    subst (λ (fs : List Fact). AreShared c.loop-k.table.trees fs c.loop-k.shared.items) (take_all c.args.fs.now c.loop-k.k at_end) c.loop-k.invariant.shared
