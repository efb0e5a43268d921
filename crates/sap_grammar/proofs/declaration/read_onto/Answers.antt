use Rattle.std.proofs.Common.{◌≡◌, ◌<◌, [], ◌∷◌, ◌++◌, length, Some, None, arith}
use Rattle.std.specs.Prelude.{map}
use Rattle.std.proofs.lemmas.Grind.{common_steps}
use Rattle.sap_grammar.specs.Words.{words_of}
use Rattle.sap_grammar.specs.Declarations.{Declaration}
use Rattle.sap_grammar.specs.ItemReading.{declaration_at}
use Rattle.sap_grammar.specs.code.DeclarationView.{declaration}
use Rattle.sap_grammar.proofs.Declarations.{declaration_nothing, shorter_still, turn_stop, turn_last, turn_bad, turn_go}
use Rattle.sap_grammar.proofs.declaration.read_onto.Goals as goal

pub returns-in-None : goal.returns-in-None
returns-in-None c =
    let none : declaration_at c.args.of_builtins (words_of c.args.bytes.now c.loop-rest.rest.now) ≡ None = rw c.in-None.is at c.in_ok-read_next.ensures in
    turn_stop _ _ _ _ _ _ c.loop-rest.invariant.1 c.loop-rest.invariant.2 none

pub returns-then-is_empty : goal.returns-then-is_empty
returns-then-is_empty c =
    let r : (d : Declaration) × (declaration_at c.args.of_builtins (words_of c.args.bytes.now c.loop-rest.rest.now) ≡ Some (d, words_of c.args.bytes.now c.in-Some.next.now))
    × (map declaration c.read_next.new.list.items ≡ map declaration c.loop-rest.list.items ++ d ∷ []) = rw c.in-Some.is at c.in_ok-read_next.ensures in
    let none : c.in-Some.next.now ≡ [] = grind (arith, common_steps) in
    turn_last _ _ _ _ _ _ c.loop-rest.invariant.1 c.loop-rest.invariant.2 _ _ r.1 _ r.2 none

pub returns-then-not-starts : goal.returns-then-not-starts
returns-then-not-starts c =
    let r : (d : Declaration) × (declaration_at c.args.of_builtins (words_of c.args.bytes.now c.loop-rest.rest.now) ≡ Some (d, words_of c.args.bytes.now c.in-Some.next.now))
    × (map declaration c.read_next.new.list.items ≡ map declaration c.loop-rest.list.items ++ d ∷ []) = rw c.in-Some.is at c.in_ok-read_next.ensures in
    let some : 0 < length c.in-Some.next.now = grind (arith, common_steps) in
    turn_bad _ _ _ _ _ _ c.loop-rest.invariant.1 c.loop-rest.invariant.2 _ _ r.1 some (cc)

pub loop-rest-smaller : goal.loop-rest-smaller
loop-rest-smaller c =
    let r : (d : Declaration) × (declaration_at c.args.of_builtins (words_of c.args.bytes.now c.loop-rest.rest.now) ≡ Some (d, words_of c.args.bytes.now c.in-Some.next.now))
    × (map declaration c.read_next.new.list.items ≡ map declaration c.loop-rest.list.items ++ d ∷ []) = rw c.in-Some.is at c.in_ok-read_next.ensures in
    shorter_still _ _ _ _ _ _ r.1 c.beyond-rest.ensures

pub loop-rest-preserved : goal.loop-rest-preserved
loop-rest-preserved c =
    let r : (d : Declaration) × (declaration_at c.args.of_builtins (words_of c.args.bytes.now c.loop-rest.rest.now) ≡ Some (d, words_of c.args.bytes.now c.in-Some.next.now))
    × (map declaration c.read_next.new.list.items ≡ map declaration c.loop-rest.list.items ++ d ∷ []) = rw c.in-Some.is at c.in_ok-read_next.ensures in
    let some : 0 < length c.in-Some.next.now = grind (arith, common_steps) in
    turn_go _ _ _ _ _ _ c.loop-rest.invariant.1 c.loop-rest.invariant.2 _ _ r.1 _ _ r.2 c.beyond-rest.ensures some (cc)

pub returns : goal.returns
returns c =
    let none : c.loop-rest.rest.now ≡ [] = grind (arith, common_steps) in
    let stops : declaration_at c.args.of_builtins (words_of c.args.bytes.now c.loop-rest.rest.now) ≡ None = rw none (declaration_nothing c.args.of_builtins) in
    turn_stop _ _ _ _ _ _ c.loop-rest.invariant.1 c.loop-rest.invariant.2 stops
