use Rattle.std.proofs.Common.{◌≡◌, length, sym, subst, ◌∙◌, arith}
use Rattle.sap_terms.specs.Message.{IsMessage, IsOver}
use Rattle.sap_terms.specs.Signature.{Sig}
use Rattle.sap_terms.specs.View.{tree}
use Rattle.sap_terms.specs.declared.binding.Binding.{Binding}
use Rattle.sap_sides.proofs.Lists.{all_at, take_all}
use Rattle.sap_sides.proofs.Kept.{bind_more, keeps-both}
use Rattle.sap_sides.proofs.bindings.number_bindings.Goals as goal

pub put-requires-clause-ground : goal.put-requires-clause-ground
put-requires-clause-ground c =
    (all_at (λ (e : Binding). IsMessage c.args.table.now.sig e.var.sort (tree e.term)) c.args.b.now c.loop-i.i c.at-e.result.now c.requires c.at-e.ensures).ground

pub put-requires-clause-over : goal.put-requires-clause-over
put-requires-clause-over c =
    let m = all_at (λ (e : Binding). IsMessage c.args.table.now.sig e.var.sort (tree e.term)) c.args.b.now c.loop-i.i c.at-e.result.now c.requires c.at-e.ensures in
    subst (λ (g : Sig). IsOver g (tree c.at-e.result.now.term)) (sym c.loop-i.invariant.keeps.sig) m.over

pub loop-i-preserved : goal.loop-i-preserved
loop-i-preserved c =
    let h = c.loop-i.invariant in
    let m = bind_more c.loop-i.table c.put.new.self c.args.b.now c.loop-i.i c.at-e.result.now c.loop-i.env c.push.new.self (record { var = c.in-Ok-copy.var; id = c.in-Ok.id }) h.are h.bound c.in-Ok.ensures.gives c.in-Ok-copy.ensures c.at-e.ensures c.in-Ok-push.ensures.ok in
    record { are = m.0; bound = m.1; keeps = keeps-both c.args.table.now c.loop-i.table c.put.new.self h.keeps c.in-Ok.ensures.keeps }

pub returns-in-Err-clause-keeps : goal.returns-in-Err-clause-keeps
returns-in-Err-clause-keeps c = keeps-both c.args.table.now c.loop-i.table c.put.new.self c.loop-i.invariant.keeps c.in-Err.ensures.keeps

pub returns-in-Err-copy-clause-keeps : goal.returns-in-Err-copy-clause-keeps
returns-in-Err-copy-clause-keeps c = keeps-both c.args.table.now c.loop-i.table c.put.new.self c.loop-i.invariant.keeps c.in-Ok.ensures.keeps

pub returns-in-Err-push-clause-keeps : goal.returns-in-Err-push-clause-keeps
returns-in-Err-push-clause-keeps c = keeps-both c.args.table.now c.loop-i.table c.put.new.self c.loop-i.invariant.keeps c.in-Ok.ensures.keeps

pub returns-clause-are : goal.returns-clause-are
returns-clause-are c =
    let at_end : c.loop-i.i ≡ length c.args.b.now = omega (arith, c.len-i-end.ensures) in
    c.loop-i.invariant.are ∙ take_all c.args.b.now c.loop-i.i at_end
