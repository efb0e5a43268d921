use Rattle.std.proofs.Common.{◌≡◌, refl, ap, arith}
use Rattle.sap_origin.specs.Examples.{both, small}
use Rattle.sap_origin.specs.Reached.{reaches_here, reaches_left, reaches_right, reaches_use}
use Rattle.sap_stretches.specs.declared.stretch.Stretch.{Stretch}
use Rattle.sap_read_places.proofs.laws.paths_by_hand.Goals as goal

pub returns-clause-paths : goal.returns-clause-paths
returns-clause-paths c = λ path w. (refl, refl, refl)

pub returns-clause-left : goal.returns-clause-left
returns-clause-left c = (refl, refl, λ e. let from : 6 ≡ 4 = ap (λ (s : Stretch). s.from) e in absurd (omega (arith, from)))

pub returns-clause-along : goal.returns-clause-along
returns-clause-along c = λ z ts placed. (
  record {
    tokens = ts;
    definitions = both;
    main = record { process = small; behind = 1 };
    placed = placed;
    standing = _;
    place = _;
    reaches = reaches_left (reaches_use refl tt (reaches_use refl tt (reaches_here tt)));
    word_is = refl;
    uses_are = refl;
  },
  record {
    tokens = ts;
    definitions = both;
    main = record { process = small; behind = 1 };
    placed = placed;
    standing = _;
    place = _;
    reaches = reaches_right (reaches_here tt);
    word_is = refl;
    uses_are = refl;
  },
)
