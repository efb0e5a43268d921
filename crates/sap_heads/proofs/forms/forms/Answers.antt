use Rattle.sap_terms.specs.View.{tree}
use Rattle.sap_heads.proofs.Formed.{can_at, fault_there, formed_further}
use Rattle.sap_heads.proofs.Numbers.{keeps_twice}
use Rattle.sap_heads.proofs.forms.forms.Goals as goal

pub form-requires-clause-can : goal.form-requires-clause-can
form-requires-clause-can c =
    can_at c.args.table.now c.loop-i.table c.args.env.now c.args.ts.now c.loop-i.i (tree c.at.result.now) c.loop-i.invariant.keeps c.requires.env c.requires.can c.at.ensures.got

pub returns-in-Err-clause-refused : goal.returns-in-Err-clause-refused
returns-in-Err-clause-refused c =
    fault_there c.args.table.now c.loop-i.table c.args.env.now c.args.ts.now c.loop-i.i (tree c.at.result.now) c.in-Err.fault c.loop-i.invariant.keeps c.requires.env c.at.ensures.got c.in-Err.ensures.refused

pub loop-i-preserved : goal.loop-i-preserved
loop-i-preserved c = record {
  formed = formed_further c.args.table.now c.loop-i.table c.args.env.now c.args.ts.now c.loop-i.out c.push.new.self c.loop-i.i (tree c.at.result.now) (tree c.in-Ok.n) c.loop-i.invariant.keeps c.requires.env c.at.ensures.got c.loop-i.invariant.formed c.in-Ok.ensures.ok c.in_ok-push-in-Ok.ensures.ok;
  keeps = keeps_twice c.args.table.now c.loop-i.table c.form.new.table c.loop-i.invariant.keeps c.form.ensures.keeps;
}

pub returns-in-Err-clause-keeps : goal.returns-in-Err-clause-keeps
returns-in-Err-clause-keeps c = keeps_twice c.args.table.now c.loop-i.table c.form.new.table c.loop-i.invariant.keeps c.in-Err.ensures.keeps

pub returns-in_err-push-in-Ok-clause-keeps : goal.returns-in_err-push-in-Ok-clause-keeps
returns-in_err-push-in-Ok-clause-keeps c = keeps_twice c.args.table.now c.loop-i.table c.form.new.table c.loop-i.invariant.keeps c.in-Ok.ensures.keeps
