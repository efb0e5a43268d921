-- Small processes, to try by hand which node binds a name.
use Rattle.std.specs.Prelude.{ℕ, codes, List}
use Rattle.sap_terms.specs.Equations.{app2, pair_name}
use Rattle.sap_process.specs.Action.{new, receive}
use Rattle.sap_process.specs.Proc.{Proc, nil, act, lookup}
use Rattle.sap_nodes.specs.NodeExamples.{c, var_of, x}
use Rattle.sap_terms.specs.declared.var.Sort.TheVariants.{Fresh, Msg}
use Rattle.sap_terms.specs.declared.var.Var.{Var}

abbrev pub name_x : List ℕ
name_x = codes "x"

abbrev pub fresh_x : Var
fresh_x = var_of (codes "x") Fresh

-- in(c, <x, x>): of its nodes c, pair, x, x the first two don't bind the name x
abbrev pub twice_in_pattern : Proc
twice_in_pattern = act (receive c (app2 pair_name x x)) nil

-- new x; new x
abbrev pub new_twice : Proc
new_twice = act (new fresh_x) (act (new fresh_x) nil)

-- lookup c as x in new x else new x
abbrev pub in_both_branches : Proc
in_both_branches = lookup c (var_of (codes "x") Msg) (act (new fresh_x) nil) (act (new fresh_x) nil)
