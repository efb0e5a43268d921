-- A symbol on entries has one answer: it is possible, in one way, or refused, for one cause.
use Rattle.std.specs.Prelude.{◌≡◌, ◌⊎◌, ℕ, List}
use Rattle.sap_deduce.specs.Entries.{Entries, Applies, IsCause}
use Rattle.sap_deduce.specs.declared.deny.Deny.{Deny}
use Rattle.sap_deduce.specs.declared.deny.Deny.TheVariants.{Mem}

-- where it is possible, the entries behind it are the same
abbrev pub ApplicationsHaveOneOutcome : Type 0
ApplicationsHaveOneOutcome = (k y z : Entries) (f ks : List ℕ) → Applies k y f ks → Applies k z f ks → (y.sig ≡ z.sig) × (y.entries ≡ z.entries)

-- one that is possible is refused for want of memory alone
abbrev pub ApplicationsHaveOneAnswer : Type 0
ApplicationsHaveOneAnswer = (k z : Entries) (f ks : List ℕ) (e : Deny) → Applies k z f ks → IsCause k f ks e → e ≡ Mem

-- two causes for which it is refused are one, but for want of memory
abbrev pub CausesAreOne : Type 0
CausesAreOne = (k : Entries) (f ks : List ℕ) (d e : Deny) → IsCause k f ks d → IsCause k f ks e → (d ≡ Mem) ⊎ ((e ≡ Mem) ⊎ (d ≡ e))

-- it is possible, or refused for another cause than want of memory
abbrev pub ApplicationsHaveSomeAnswer : Type 0
ApplicationsHaveSomeAnswer = (k : Entries) (f ks : List ℕ) → ((z : Entries) × Applies k z f ks) ⊎ ((e : Deny) × IsCause k f ks e × (¬ (e ≡ Mem)))
