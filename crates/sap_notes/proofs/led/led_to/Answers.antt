use Rattle.std.proofs.Common.{◌-◌, ◌∙◌}
use Rattle.sap_macro.specs.Sources.{definition_of, definitions, written}
use Rattle.sap_notes.proofs.Entries.{as_many, there}
use Rattle.sap_notes.proofs.Leading.{all_gone, none_gone, one_gone}
use Rattle.sap_notes.proofs.led.led_to.Goals as goal

pub loop-k-init : goal.loop-k-init
loop-k-init c =
    none_gone (definitions c.args.defs.now) (written c.args.main.now) c.len-k.result c.new-names.result c.add_calls.new.names c.new-names.ensures c.in_ok-add_calls.ensures
    (c.len-k.ensures ∙ as_many c.args.defs.now)

pub loop-k-preserved : goal.loop-k-preserved
loop-k-preserved c =
    one_gone (definitions c.args.defs.now) (written c.args.main.now) c.loop-k.k (definition_of c.at.result.now) c.loop-k.names c.requires c.loop-k-test.true
    (there c.args.defs.now (c.loop-k.k - 1) c.at.result.now c.at.ensures) c.loop-k.invariant c.add_body.new.names c.in_ok-add_body.ensures

pub returns : goal.returns
returns c = all_gone (definitions c.args.defs.now) (written c.args.main.now) c.loop-k.k c.loop-k.names c.loop-k-test.false c.loop-k.invariant
