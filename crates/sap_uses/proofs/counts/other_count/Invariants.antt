use Rattle.std.proofs.Common.{◌≡◌, drop}
use Rattle.std.specs.Option.{unwrap_or}
use Rattle.sap_terms.specs.NameMap.{value_at}
use Rattle.sap_macro.specs.MacroCauses.{all_uses, first_other}
use Rattle.sap_macro.specs.Sources.{definitions, written}
use Rattle.sap_uses.proofs.counts.other_count.Given as goal

abbrev pub invariant-loop-k : goal.invariant-loop-k
invariant-loop-k l =
    first_other (λ f. unwrap_or (value_at l.counts f) 0) (all_uses (definitions l.defs) (written l.main))
    ≡ first_other (λ f. unwrap_or (value_at l.counts f) 0) (all_uses (drop l.k (definitions l.defs)) (written l.main))
