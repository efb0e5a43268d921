-- A process over what stands directly below it.
use Rattle.std.proofs.Common.{◌≡◌, Box, Global, None, Some, refl}
use Rattle.sap_terms.specs.Choice.{Choice}
use Rattle.sap_terms.specs.declared.var.Var.{Var}
use Rattle.sap_process.specs.Instance.{process_instance}
use Rattle.sap_process.specs.Places.{first_child, second_child}
use Rattle.sap_process.specs.Proc.{Proc, proc}
use Rattle.sap_process.specs.code.Headed.{headed}
use Rattle.sap_process.specs.declared.process.Process.{Process}
use Rattle.sap_process.specs.declared.process.Process.TheVariants.{Nil, Par', Rep', New', Out', Send', In', Recv', If', Event', Insert', Delete', Lookup', Lock', Unlock', Embedded'}
use Rattle.sap_process.specs.declared.process.Process.TheViews as view

-- the instance of a process that goes on as one, but of `new`: its head over the instance of what follows
pub over_next : (σ : Choice) (p : Process) (q : Proc) → first_child (proc p) ≡ Some q → second_child (proc p) ≡ None
    → ((x : Var) (b : Box Process Global) → p ≡ view.New x b → ⊥)
    → headed σ (λ x. x) (proc p) (process_instance σ q) ≡ process_instance σ (proc p)
over_next σ Nil q e s n = absurd (cc)
over_next σ (Par' a p b r) q e s n = absurd (cc)
over_next σ (If' t u a p b r) q e s n = absurd (cc)
over_next σ (Lookup' t x a p b r) q e s n = absurd (cc)
over_next σ (New' x a p) q e s n = absurd (n x _ refl)
over_next σ (Rep' a p) q e s n = cc
over_next σ (Out' t a p) q e s n = cc
over_next σ (Send' t u a p) q e s n = cc
over_next σ (In' t a p) q e s n = cc
over_next σ (Recv' t u a p) q e s n = cc
over_next σ (Event' f a p) q e s n = cc
over_next σ (Insert' t u a p) q e s n = cc
over_next σ (Delete' t a p) q e s n = cc
over_next σ (Lock' t k a p) q e s n = cc
over_next σ (Unlock' t k a p) q e s n = cc
over_next σ (Embedded' l d r a p) q e s n = cc
