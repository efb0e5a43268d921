use Rattle.std.proofs.Common.{◌<◌, List, [], ◌∷◌, map, refl, subst, arith}
use Rattle.sap_beyond.specs.Numbered.{IsFirstDeep, IsNumbered}
use Rattle.sap_macro.specs.Located.{nil_at, without_numbers}
use Rattle.sap_origin.specs.Definitions.{LocatedDefinition, plain_definition}
use Rattle.sap_read.specs.LocatedItems.{LocatedMain}
use Rattle.sap_read_places.specs.LimitExamples.{beside, copies, copies_of, doublings, of_copies, thirty_three, thirty_two}
use Rattle.sap_read_places.specs.UseExamples.{told_before}
use Rattle.sap_read_places.proofs.LimitsByHand.{inside, level_301, ones, reached}
use Rattle.sap_read_places.proofs.ManyPlaces.{at_last, last_place, last_reached, to_last}
use Rattle.sap_read_places.proofs.limit_laws.limits_by_hand.Goals as goal

pub returns-clause-level : goal.returns-clause-level
returns-clause-level c = λ z ts placed.
    record {
      tokens = ts;
      definitions = of_copies 150;
      main = copies_of 150;
      placed = placed;
      path = ones 300;
      deep = level_301;
      at =
          record {
            tokens = ts;
            definitions = of_copies 150;
            main = copies_of 150;
            placed = placed;
            standing = inside;
            place = copies 50 (nil_at 1);
            reaches = reached;
            word_is = refl;
            uses_are = refl;
          };
    }

pub returns-clause-nothing_else : goal.returns-clause-nothing_else
returns-clause-nothing_else c = λ z ts placed t a. c.limit_places.ensures.one_level z t (told_before ts 205 (2 ∷ [])) a (returns-clause-level c z ts placed)

pub returns-clause-not_yet : goal.returns-clause-not_yet
returns-clause-not_yet c = λ z ts placed t a.
    let ds = c.one_placed_file.ensures.definitions z a.tokens ts a.definitions (of_copies 99) a.main (copies_of 99) a.placed placed in
    let main = c.one_placed_file.ensures.main z a.tokens ts a.definitions (of_copies 99) a.main (copies_of 99) a.placed placed in
    let deep : IsFirstDeep (map plain_definition (of_copies 99)) (without_numbers (copies_of 99).process) 300 a.path =
    subst (λ (m : LocatedMain). IsFirstDeep (map plain_definition (of_copies 99)) (without_numbers m.process) 300 a.path) main
    (subst (λ (es : List LocatedDefinition). IsFirstDeep (map plain_definition es) (without_numbers a.main.process) 300 a.path) ds a.deep) in
    let less : 300 < 300 = c.one_first_deep.ensures.only (map plain_definition (of_copies 99)) (without_numbers (copies_of 99).process) 300 a.path [] deep in
    omega (arith, less)

pub returns-clause-place : goal.returns-clause-place
returns-clause-place c = λ z ts placed.
    record {
      tokens = ts;
      definitions = doublings 23;
      main = beside 7 thirty_three;
      placed = placed;
      path = to_last;
      numbered = last_place;
      at =
          record {
            tokens = ts;
            definitions = doublings 23;
            main = beside 7 thirty_three;
            placed = placed;
            standing = at_last;
            place = nil_at 1;
            reaches = last_reached;
            word_is = refl;
            uses_are = refl;
          };
    }

pub returns-clause-no_other : goal.returns-clause-no_other
returns-clause-no_other c = λ z ts placed t a.
    c.limit_places.ensures.one_place z t (told_before ts 79 (73 ∷ 67 ∷ 61 ∷ 6 ∷ [])) a (returns-clause-place c z ts placed)

pub returns-clause-no_place : goal.returns-clause-no_place
returns-clause-no_place c = λ z ts placed t a.
    let ds = c.one_placed_file.ensures.definitions z a.tokens ts a.definitions (doublings 22) a.main (beside 6 thirty_two) a.placed placed in
    let main = c.one_placed_file.ensures.main z a.tokens ts a.definitions (doublings 22) a.main (beside 6 thirty_two) a.placed placed in
    let numbered : IsNumbered (map plain_definition (doublings 22)) (without_numbers (beside 6 thirty_two).process) 4000 a.path =
    subst (λ (m : LocatedMain). IsNumbered (map plain_definition (doublings 22)) (without_numbers m.process) 4000 a.path) main
    (subst (λ (es : List LocatedDefinition). IsNumbered (map plain_definition es) (without_numbers a.main.process) 4000 a.path) ds a.numbered) in
    let less : 4000 < 4000 = c.one_numbered.ensures.only (map plain_definition (doublings 22)) (without_numbers (beside 6 thirty_two).process) 4000 a.path [] numbered in
    omega (arith, less)
