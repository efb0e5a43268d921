use Rattle.std.proofs.Common.{drop}
use Rattle.std.specs.Prelude.{map}
use Rattle.sap_expect.specs.Kinds.{kind_of}
use Rattle.sap_expect.specs.code.Going.{CanGo, Each, wide_words}
use Rattle.sap_expect.specs.code.WantedView.{stacked}
use Rattle.sap_expect.proofs.KindRows.{Left}
use Rattle.sap_expect.proofs.may_stand.none_goes_on.Given as goal

abbrev pub invariant-loop-k : goal.invariant-loop-k
invariant-loop-k l = Left (λ ws. Each (CanGo l.walk.levels (stacked l.walk.stack.items)) ws → ⊥) (map (λ k. wide_words (kind_of k)) l.kinds) (map (λ k. wide_words (kind_of k)) (drop l.k l.kinds))
