use Rattle.std.proofs.Common.{◌≡◌, ◌<◌, ◌^◌, arith, sym}
use Rattle.std.proofs.lemmas.Grind.{common_steps}
use Rattle.sap_process.specs.Proc.{proc, node_count}
use Rattle.sap_rule_lines.specs.Least.{names_drawn}
use Rattle.sap_lines.specs.declared.at.At.TheVariants.{Step as StepOf}
use Rattle.sap_forward.proofs.Looped.{all_converted, begun_at, headed, none_converted}
use Rattle.sap_forward.proofs.conversion.to_rules.Goals as goal

pub returns-in_err-take_each-clause-refused : goal.returns-in_err-take_each-clause-refused
returns-in_err-take_each-clause-refused c = λ step fault is.
    let g = c.args.f.now.signature in
    let q = proc c.args.f.now.process in
    let small : node_count c.requires.process < 2 ^ 64 = let h = c.requires.small in omega arith in
    let config : c.deref_mut.result.now ≡ c.in_ok-config.config.value = cc in
    let desk : c.deref_mut-2.result.now ≡ c.in_ok-desk.desk.value = cc in
    let lines = headed c.args.run.now c.in_ok-lines.ensures (λ none. absurd (let is = c.len.ensures in let k = c.if-len-eq0.false in omega arith)) in
    let begins = c.conversions_go_on.ensures.begins g c.requires.process q c.requires.ready small c.requires.annotation (names_drawn c.args.run.now) c.in_ok-config.config.value c.in_ok-desk.desk.value c.in_ok-config.ensures.sig c.in_ok-config.ensures.known c.in_ok-config.ensures.configuration c.in_ok-desk.ensures in
    let same : c.in_err-take_each.field-0.0 ≡ StepOf step fault = grind (arith, common_steps, is, c.from_residual-in_err-take_each.ensures) in
    c.in_err-take_each.ensures.refused step fault (grind (arith, common_steps, same)) g q (c.conversions_go_on.ensures.lines g c.requires.process q c.requires.builtins c.requires.ready small c.requires.annotation)
    (begun_at (sym config) (sym desk) (sym lines) begins)

pub returns-clause-ok : goal.returns-clause-ok
returns-clause-ok c =
    let g = c.args.f.now.signature in
    let q = proc c.args.f.now.process in
    let small : node_count c.requires.process < 2 ^ 64 = let h = c.requires.small in omega arith in
    let config : c.deref_mut.result.now ≡ c.in_ok-config.config.value = cc in
    let desk : c.deref_mut-2.result.now ≡ c.in_ok-desk.desk.value = cc in
    let lines = headed c.args.run.now c.in_ok-lines.ensures (λ none. absurd (let is = c.len.ensures in let k = c.if-len-eq0.false in omega arith)) in
    let begins = c.conversions_go_on.ensures.begins g c.requires.process q c.requires.ready small c.requires.annotation (names_drawn c.args.run.now) c.in_ok-config.config.value c.in_ok-desk.desk.value c.in_ok-config.ensures.sig c.in_ok-config.ensures.known c.in_ok-config.ensures.configuration c.in_ok-desk.ensures in
    let taken = c.in_ok-take_each.ensures.ok g q (c.conversions_go_on.ensures.lines g c.requires.process q c.requires.builtins c.requires.ready small c.requires.annotation) (begun_at (sym config) (sym desk) (sym lines) begins) in
    all_converted (c.conversions_go_on.ensures.ends g c.requires.process q c.requires.builtins c.requires.ready small c.requires.annotation) c.args.run.now c.in_ok-lines.ensures (λ none. absurd (let is = c.len.ensures in let k = c.if-len-eq0.false in omega arith)) taken

pub returns-then-len-eq0-clause-ok : goal.returns-then-len-eq0-clause-ok
returns-then-len-eq0-clause-ok c =
    none_converted (c.conversions_go_on.ensures.none c.args.f.now.signature (proc c.args.f.now.process)) c.args.run.now c.in_ok-lines.lines c.in_ok-lines.ensures (let is = c.len.ensures in let k = c.if-len-eq0.true in omega arith)
