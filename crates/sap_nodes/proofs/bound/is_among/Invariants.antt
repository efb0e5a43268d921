use Rattle.std.proofs.Common.{◌≡◌, drop}
use Rattle.sap_terms.specs.Variables.{is_known}
use Rattle.sap_process.specs.Sites.{var_names}
use Rattle.sap_nodes.proofs.bound.is_among.Given as goal

abbrev pub invariant-loop-v : goal.invariant-loop-v
invariant-loop-v l = is_known (var_names (drop l.v-index l.v-items)) l.name ≡ is_known (var_names l.scope) l.name
