-- How much is left to do, for the recursion of the test.
use Rattle.std.specs.Prelude.{ℕ, ◌+◌, ◌*◌, length}
use Rattle.sap_search.specs.Plan.{Plan, always, shows, equals, at_once, before, inverse, and_then, or_else, if_then, alike, search}

-- a search weighs its body and the way past its guards
abbrev pub plan_size : Plan → ℕ
plan_size (always b) = 1
plan_size (shows n a) = 1
plan_size (equals s t l r) = 1
plan_size (at_once i j) = 1
plan_size (before i j) = 1
plan_size (inverse p) = plan_size p + 1
plan_size (and_then p q) = plan_size p + plan_size q + 2
plan_size (or_else p q) = plan_size p + plan_size q + 2
plan_size (if_then p q) = plan_size p + plan_size q + 2
plan_size (alike p q) = plan_size p + plan_size q + 2
plan_size (search d gs p) = plan_size p + 4 * length gs + 8
