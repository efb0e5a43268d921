-- What a shared list holds.
use Rattle.std.specs.Prelude.{List, [], Option, None, Some, Vec}
use Rattle.std.specs.declared.alloc.Global.{Global}
use Rattle.std.specs.declared.rc.Rc.{Rc}

-- the items of a list that is shared, none where there is no list
abbrev pub held : {X : Type 0} → Option (Rc (Vec X Global) Global) → List X
held None = []
held (Some r) = r.value.items
