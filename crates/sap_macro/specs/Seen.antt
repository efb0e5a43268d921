-- Processes as flaws of scope see them.
use Rattle.std.specs.Prelude.{false}
use Rattle.sap_process.specs.Action.{event}
use Rattle.sap_process.specs.Proc as whole
use Rattle.sap_process.specs.Proc.{Proc}
use Rattle.sap_macro.specs.UpToNames.{fact}
use Rattle.sap_macro.specs.Written.{Written, nil, call, parallel, replicated, act, test, lookup}

-- a use is a place that uses the names of its arguments, binds none, and has nothing that counts below
abbrev pub seen : Written → Proc
seen nil = whole.nil
seen (call f ts) = whole.act (event (fact f false ts)) whole.nil
seen (parallel p q) = whole.parallel (seen p) (seen q)
seen (replicated p) = whole.replicated (seen p)
seen (act a p) = whole.act a (seen p)
seen (test t u p q) = whole.test t u (seen p) (seen q)
seen (lookup t x p q) = whole.lookup t x (seen p) (seen q)
