use Rattle.std.proofs.Common.{◌≡◌, [], arith}
use Rattle.std.proofs.lemmas.Grind.{common_steps}
use Rattle.sap_grammar.proofs.ItemTurns.{turn_declared, all_declared}
use Rattle.sap_grammar.proofs.declared.read_declarations.Goals as goal

pub loop-rest-preserved : goal.loop-rest-preserved
loop-rest-preserved c =
    let turned = turn_declared c.args.bytes.now c.args.tokens.now c.loop-rest.rest.now c.split_item.result.0.now c.split_item.result.1.now c.split_item.ensures.item
    c.loop-rest.declared.signature c.add_item.new.self.signature c.loop-rest.declared.clash c.add_item.new.self.clash
    c.loop-rest.invariant.signature c.loop-rest.invariant.clash c.in-Ok.ensures.signature c.in-Ok.ensures.clash in
    record { signature = turned.0; clash = turned.1 }

pub returns : goal.returns
returns c =
    let none : c.loop-rest.rest.now ≡ [] = grind (arith, common_steps) in
    let whole = all_declared c.args.bytes.now c.args.tokens.now c.loop-rest.rest.now c.loop-rest.declared.signature c.loop-rest.declared.clash none c.loop-rest.invariant.signature c.loop-rest.invariant.clash in
    record { signature = whole.0; clash = whole.1 }
