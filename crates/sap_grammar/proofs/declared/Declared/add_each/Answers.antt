use Rattle.std.proofs.Common.{◌≡◌, ◌++◌, [], ◌∷◌, arith}
use Rattle.std.specs.Vec.Iter.{into_iter_items}
use Rattle.std.proofs.lemmas.Grind.{common_steps}
use Rattle.sap_grammar.proofs.ItemTurns.{declared_push}
use Rattle.sap_grammar.proofs.declared.Declared.add_each.Goals as goal

pub loop-one-preserved : goal.loop-one-preserved
loop-one-preserved c =
    let goes_on : c.loop-one.yielded ++ (c.in-Some.one ∷ []) ++ into_iter_items c.next.new.self ≡ c.args.list.items = grind (arith, common_steps) in
    let pushed = declared_push c.args.self.now.signature c.loop-one.self.signature c.add.new.self.signature c.args.self.now.clash c.loop-one.self.clash c.add.new.self.clash c.loop-one.yielded c.in-Some.one
    c.loop-one.invariant.3 c.in_ok-add.ensures.signature c.loop-one.invariant.4 c.in_ok-add.ensures.clash in
    (tt, tt, goes_on, pushed.0, pushed.1)
