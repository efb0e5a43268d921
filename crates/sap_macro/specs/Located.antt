-- Processes as they are written, where each place knows the word that tells it.
use Rattle.std.specs.Prelude.{ℕ, List}
use Rattle.sap_terms.specs.Tree.{Tree}
use Rattle.sap_terms.specs.declared.var.Var.{Var}
use Rattle.sap_process.specs.Action.{Action}
use Rattle.sap_macro.specs.Written.{Written, nil, call, parallel, replicated, act, test, lookup}

-- the forms of what is written, each with a number first: how many words of the item are left from the word that tells the place
pub data Located : Type 0 where
  nil_at : ℕ → Located
  call_at : ℕ → List ℕ → List Tree → Located
  parallel_at : ℕ → Located → Located → Located
  replicated_at : ℕ → Located → Located
  act_at : ℕ → Action → Located → Located
  test_at : ℕ → Tree → Tree → Located → Located → Located
  lookup_at : ℕ → Tree → Var → Located → Located → Located

-- what is written, without the numbers
abbrev pub without_numbers : Located → Written
without_numbers (nil_at k) = nil
without_numbers (call_at k f ts) = call f ts
without_numbers (parallel_at k p q) = parallel (without_numbers p) (without_numbers q)
without_numbers (replicated_at k p) = replicated (without_numbers p)
without_numbers (act_at k x p) = act x (without_numbers p)
without_numbers (test_at k t u p q) = test t u (without_numbers p) (without_numbers q)
without_numbers (lookup_at k t x p q) = lookup t x (without_numbers p) (without_numbers q)
