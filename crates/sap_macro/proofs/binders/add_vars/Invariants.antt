use Rattle.std.proofs.Common.{◌≡◌, take, is_some}
use Rattle.sap_terms.specs.NameMap.{value_at}
use Rattle.sap_macro.specs.code.Heads.{other_names}
use Rattle.sap_macro.specs.code.Names.{with_names}
use Rattle.sap_macro.proofs.binders.add_vars.Given as goal

abbrev pub invariant-loop-k : goal.invariant-loop-k
invariant-loop-k l = l.own ≡ with_names l.initial.own (other_names (λ x. is_some (value_at l.terms x)) (take l.k l.vars))
