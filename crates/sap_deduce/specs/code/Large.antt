-- What is left to refuse where symbol, arity and numbers are right.
use Rattle.std.specs.Prelude.{⊤}
use Rattle.sap_deduce.specs.declared.deny.Deny.{Deny}
use Rattle.sap_deduce.specs.declared.deny.Deny.TheVariants.{Mem, NotPublic, Arity, NoEntry, TermLarge}

-- no more is wrong than that the normal form is too large, which is so
abbrev pub IsLargeOn : Type 0 → Deny → Type 0
IsLargeOn large Mem = ⊤
IsLargeOn large TermLarge = large
IsLargeOn large (NotPublic n) = ⊥
IsLargeOn large (Arity n) = ⊥
IsLargeOn large (NoEntry n) = ⊥
