use Rattle.std.proofs.Common.{◌≡◌, ◌++◌, [], ◌∷◌, length, rules, sym, ap, subst, ◌∙◌, append_assoc}
use Rattle.std.specs.Vec.Iter.{into_iter_items}
use Rattle.std.proofs.lemmas.List.Elements.{All-tail}
use Rattle.sap_sides.specs.SharedFacts.{AreFactsBelow}
use Rattle.sap_share.specs.Shared.{AreBelow}
use Rattle.sap_sides.specs.declared.shared_fact.SharedFact.{SharedFact}
use Rattle.sap_steps.proofs.Piled.{adds_seen}
use Rattle.sap_steps.proofs.taking.add_each.Goals as goal

pub loop-f-preserved : goal.loop-f-preserved
loop-f-preserved c =
    let h = c.loop-f.invariant in
    let f = c.in-Some.f in
    let ts = c.args.facts.now.trees in
    let rest = into_iter_items c.next.new.self in
    let steps : into_iter_items c.loop-f.f-iterator ≡ f ∷ rest = c.in-Some.ensures.steps.0 in record {
      next = (tt, tt, append_assoc c.loop-f.yielded (f ∷ []) rest ∙ ap (λ xs. c.loop-f.yielded ++ xs) (sym steps) ∙ h.next.2);
      sig = search rules;
      trees = search rules;
      slots = adds_seen c.args.facts.now.slots c.loop-f.facts.slots c.add.new.self.slots ts c.loop-f.yielded f h.slots (rw h.trees at c.add.ensures.slots);
      room = search rules;
      below = All-tail (λ (s : SharedFact). AreBelow (length ts) s.args) f rest (subst (AreFactsBelow (length ts)) steps h.below);
    }
