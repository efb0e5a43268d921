use Rattle.std.proofs.Common.{◌≡◌, drop}
use Rattle.sap_share.specs.Env.{given}
use Rattle.sap_calc.proofs.under.given_term.Given as goal

abbrev pub invariant-loop-k : goal.invariant-loop-k
invariant-loop-k l = given l.table.trees l.env l.v ≡ given l.table.trees (drop l.k l.env) l.v
