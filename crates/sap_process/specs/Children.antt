-- The processes that stand directly below a process, as the code tells them.
use Rattle.std.specs.Prelude.{◌<◌, ℕ, Option, Some, None}
use Rattle.sap_process.specs.Proc.{Proc, proc, node_count}
use Rattle.sap_process.specs.declared.process.Children.{Children}
use Rattle.sap_process.specs.declared.process.Children.TheVariants.{Nothing, One, Two}

-- the first and the second of these
abbrev pub first_of_children : Children → Option Proc
first_of_children Nothing = None
first_of_children (One p) = Some (proc p.now)
first_of_children (Two p q) = Some (proc p.now)

abbrev pub second_of_children : Children → Option Proc
second_of_children Nothing = None
second_of_children (One p) = None
second_of_children (Two p q) = Some (proc q.now)

-- each has fewer places than so many
abbrev pub HaveFewerPlaces : ℕ → Children → Type 0
HaveFewerPlaces n Nothing = Unit {0}
HaveFewerPlaces n (One p) = node_count (proc p.now) < n
HaveFewerPlaces n (Two p q) = (node_count (proc p.now) < n) × (node_count (proc q.now) < n)
