use Rattle.std.proofs.Common.{◌≡◌, ◌++◌}
use Rattle.std.specs.Prelude.{map}
use Rattle.std.specs.Vec.Iter.{into_iter_items}
use Rattle.sap_grammar.specs.Signatures.{signature_from, clash_from}
use Rattle.sap_grammar.specs.ItemReading.{kept}
use Rattle.sap_grammar.specs.code.DeclarationView.{declaration}
use Rattle.sap_grammar.proofs.declared.Declared.add_each.Given as goal

abbrev pub invariant-loop-one : goal.invariant-loop-one
invariant-loop-one l =
    (goal.iterator-loop-one).can_next l.one-iterator × (goal.iterator-loop-one).is_finite l.one-iterator × (l.yielded ++ into_iter_items l.one-iterator ≡ l.fn.list.items)
    × (l.self.signature ≡ signature_from l.initial.self.signature (map declaration l.yielded))
    × (l.self.clash ≡ kept l.initial.self.clash (clash_from l.initial.self.signature (map declaration l.yielded)))
