use Rattle.std.proofs.Common.{◌≡◌, ℕ, List, [], ◌∷◌, true, false, ap, refl}
use Rattle.std.specs.Prelude.{codes}
use Rattle.std.specs.Str.{bytes_eq}
use Rattle.sap_use_words.specs.Examples.{body_doubles, directly_first, through_plain, two_wrong, using_through, wrong_in_body}
use Rattle.sap_use_words.specs.ExpandedUses.{large_use}
use Rattle.sap_use_words.specs.WrittenUses.{other_use}
use Rattle.sap_read_places.specs.UseExamples.{told_before}
use Rattle.sap_read_places.proofs.UsePlaces.{as_large, as_other, of_large, of_other, one_name}
use Rattle.sap_read_places.proofs.use_laws.use_places_by_hand.Goals as goal

no_name : codes "A" ≡ codes "B" → ⊥
no_name e = let clash : true ≡ false = ap (λ (x : List ℕ). bytes_eq (codes "A") x) e in absurd (cc (clash))

pub returns-clause-other : goal.returns-clause-other
returns-clause-other c = λ z ts placed.
    as_other record {
      tokens = ts;
      definitions = wrong_in_body;
      main = record { process = two_wrong; behind = 1 };
      placed = placed;
      found = _;
      first = refl;
      told = record { name_is = refl; word_is = refl; uses_are = refl };
    }

pub returns-clause-large : goal.returns-clause-large
returns-clause-large c = λ z ts placed.
    as_large record {
      tokens = ts;
      definitions = body_doubles 39 89;
      main = record { process = directly_first 39 89; behind = 1 };
      placed = placed;
      found = _;
      first = refl;
      told = record { name_is = refl; word_is = refl; uses_are = refl };
    }

pub returns-clause-through : goal.returns-clause-through
returns-clause-through c = λ z ts placed.
    as_large record {
      tokens = ts;
      definitions = through_plain;
      main = record { process = using_through; behind = 1 };
      placed = placed;
      found = _;
      first = refl;
      told = record { name_is = refl; word_is = refl; uses_are = refl };
    }

pub returns-clause-no_other : goal.returns-clause-no_other
returns-clause-no_other c = λ z ts placed t a.
    no_name
    (one_name c.one_placed_file.ensures.tokens c.one_placed_file.ensures.definitions c.one_placed_file.ensures.main other_use z (codes "A") (codes "B") (told_before ts 17 []) t
    (record {
      tokens = ts;
      definitions = wrong_in_body;
      main = record { process = two_wrong; behind = 1 };
      placed = placed;
      found = _;
      first = refl;
      told = record { name_is = refl; word_is = refl; uses_are = refl };
    }) (of_other a))

pub returns-clause-no_large : goal.returns-clause-no_large
returns-clause-no_large c = λ z ts placed t a.
    no_name
    (one_name c.one_placed_file.ensures.tokens c.one_placed_file.ensures.definitions c.one_placed_file.ensures.main large_use z (codes "A") (codes "B") (told_before ts 280 (185 ∷ [])) t
    (record {
      tokens = ts;
      definitions = body_doubles 39 89;
      main = record { process = directly_first 39 89; behind = 1 };
      placed = placed;
      found = _;
      first = refl;
      told = record { name_is = refl; word_is = refl; uses_are = refl };
    }) (of_large a))
