-- Why a symbol on entries is refused, as a fault of a step.
use Rattle.sap_deduce.specs.declared.deny.Deny.{Deny}
use Rattle.sap_deduce.specs.declared.deny.Deny.TheVariants.{Mem as NoMemory, NotPublic as IsNotPublic, Arity as OtherArity, NoEntry as IsNoEntry, TermLarge as IsLarge}
use Rattle.sap_lines.specs.declared.fault.PFault.{PFault}
use Rattle.sap_lines.specs.declared.fault.PFault.TheVariants.{Mem, NotPublic, Arity, NoEntry, TermLarge}

-- the fault of the same cause
abbrev pub denied_fault : Deny → PFault
denied_fault NoMemory = Mem
denied_fault (IsNotPublic f) = NotPublic f
denied_fault (OtherArity f) = Arity f
denied_fault (IsNoEntry k) = NoEntry k
denied_fault IsLarge = TermLarge
