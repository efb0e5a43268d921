use Rattle.std.proofs.Common.{take}
use Rattle.sap_process.specs.Sites.{var_names}
use Rattle.sap_heads.specs.code.Known.{KnowAlike}
use Rattle.sap_heads.proofs.bindings.names_in.Given as goal

abbrev pub invariant-loop-v : goal.invariant-loop-v
invariant-loop-v l = KnowAlike l.names (var_names (take l.v-index l.v-items))
