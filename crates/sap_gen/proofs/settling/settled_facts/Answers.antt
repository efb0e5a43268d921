use Rattle.std.proofs.Common.{◌<◌, ap, subst, sym, ◌∙◌, vec_len}
use Rattle.sap_translate.specs.relation.Totals.{total}
use Rattle.sap_gen.specs.code.Walks.{IsUnderWay, ahead_of, cost}
use Rattle.sap_gen.proofs.Walking.{cheaper, emptied, ends, next_last, onward, popped}
use Rattle.sap_gen.proofs.settling.settled_facts.Goals as goal

pub look_at-requires : goal.look_at-requires
look_at-requires c =
    let way = popped c.args.rules.now c.args.takers.now c.requires.0 c.args.facts.now c.loop-f.settled c.loop-f.ahead.items c.pop.new.self.items c.in-Some.f c.in-Some.ensures.items (c.loop-f.invariant c.requires.0 c.requires.1) in
    (c.requires.0, way.can.told.0)

pub loop-f-smaller : goal.loop-f-smaller
loop-f-smaller c =
    let way = popped c.args.rules.now c.args.takers.now c.requires.0 c.args.facts.now c.loop-f.settled c.loop-f.ahead.items c.pop.new.self.items c.in-Some.f c.in-Some.ensures.items (c.loop-f.invariant c.requires.0 c.requires.1) in
    let less = cheaper c.args.rules.now c.args.takers.now c.requires.0 c.in-Some.f.now (ahead_of c.pop.new.self.items) (ahead_of c.look_at.new.ahead.items) c.loop-f.settled c.look_at.new.settled c.in_ok-look_at.ensures way.can.told.0 in
    let same = ap ahead_of c.in-Some.ensures.items ∙ next_last c.pop.new.self.items c.in-Some.f in
    subst (λ z. total (cost c.args.rules.now c.args.takers.now) (ahead_of c.look_at.new.ahead.items) < total (cost c.args.rules.now c.args.takers.now) z) (sym same) less

pub loop-f-preserved : goal.loop-f-preserved
loop-f-preserved c p can =
    let way = popped c.args.rules.now c.args.takers.now p c.args.facts.now c.loop-f.settled c.loop-f.ahead.items c.pop.new.self.items c.in-Some.f c.in-Some.ensures.items (c.loop-f.invariant p can) in
    onward c.args.rules.now c.args.takers.now p c.in-Some.f.now (ahead_of c.pop.new.self.items) (ahead_of c.look_at.new.ahead.items) c.loop-f.settled c.look_at.new.settled c.args.facts.now c.in_ok-look_at.ensures way

pub returns : goal.returns
returns c p can =
    let none = emptied c.loop-f.ahead.items c.pop.new.self.items (vec_len c.loop-f.ahead) c.in_default.ensures.cases.0 c.in_default.ensures.rest c.in_default.ensures.items in
    ends c.args.rules.now c.args.takers.now p c.args.facts.now c.loop-f.settled (subst (λ z. IsUnderWay c.args.rules.now c.args.takers.now c.args.facts.now (ahead_of z) c.loop-f.settled p) none (c.loop-f.invariant p can))
