-- The guard as a machine: whether it lets a deed pass, and what it keeps then.
use Rattle.std.specs.Prelude.{◌≡◌, Bool, true, false, Option, Some, None, is_none, if◌then◌else◌}
use Rattle.std.specs.Prelude.{Result, Ok, Err}
use Rattle.sap_restrict.specs.Stands.{Machine}
use Rattle.sap_restrict.specs.code.Deeds.{Deed, deletes, differs, equals, finds, happens, inserts, knows, locks, misses, starts, takes, unlocks}
use Rattle.sap_restrict.specs.declared.guard.Admit.{Admit}
use Rattle.sap_restrict.specs.declared.guard.Admit.TheVariants.{Kept, Broken}
use Rattle.sap_restrict.specs.declared.which.Which.{Which}
use Rattle.sap_restrict.specs.declared.which.Which.TheVariants.{Eq, In, InEv, Init, Lock, NotEq, NotIn}
use Rattle.sap_term_map.specs.Values.{with_at}
use Rattle.sap_terms.specs.Same.{same_tree}
use Rattle.sap_terms.specs.Tree.{Tree}
use Rattle.sap_terms.specs.declared.mem.Mem.{Mem}

-- it is this term
abbrev pub is_the : Option Tree → Tree → Bool
is_the None x = false
is_the (Some v) x = same_tree v x

-- nothing was seen
abbrev pub fresh_machine : Machine
fresh_machine = record { started = false; stored = λ _. None; held = λ _. None; usable = None }

-- what is kept after a deed
abbrev pub after : Machine → Deed → Machine
after m starts = record m { started = true }
after m happens = record m { usable = None }
after m (knows x) = record m { usable = Some x }
after m (takes x) = record m { usable = None }
after m (deletes x) = record m { stored = with_at m.stored x None }
after m (inserts x v) = record m { stored = with_at m.stored x (Some v) }
after m (locks l x) = record m { held = with_at m.held x (Some l) }
after m (unlocks l x) = if is_the (m.held x) l then record m { held = with_at m.held x None } else m
after m _ = m

-- which restriction the deed breaks
abbrev pub broken : Machine → Deed → Option Which
broken m starts = if m.started then Some Init else None
broken m (takes x) = if is_the m.usable x then None else Some InEv
broken m (misses x) = if is_none (m.stored x) then None else Some NotIn
broken m (equals x y) = if same_tree x y then None else Some Eq
broken m (differs x y) = if same_tree x y then Some NotEq else None
broken m (finds x v) = if is_the (m.stored x) v then None else Some In
broken m (locks l x) = if is_none (m.held x) then None else Some Lock
broken m _ = None

-- the answer on a deed, where the machine was at m before and is at n after
abbrev pub Does : Deed → Result Admit Mem → Machine → Machine → Type 0
Does d (Ok Kept) m n = (broken m d ≡ None) × (n ≡ after m d)
Does d (Ok (Broken w)) m n = (broken m d ≡ Some w) × (n ≡ m)
Does d (Err e) m n = n ≡ m
