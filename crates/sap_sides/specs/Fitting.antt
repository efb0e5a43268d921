-- Facts that fit others around destructors, and the choices that make them do so.
use Rattle.std.specs.Prelude.{◌≡◌, List, ◌++◌}
use Rattle.std.specs.List.{AllZip, flat_map}
use Rattle.sap_terms.specs.Choice.{Choice, IsSorted}
use Rattle.sap_terms.specs.Signature.{Sig}
use Rattle.sap_terms.specs.Tree.{Tree, trees_of}
use Rattle.sap_terms.specs.declared.binding.Binding.{Binding}
use Rattle.sap_terms.specs.declared.fact.Fact.{Fact}
use Rattle.sap_terms.specs.declared.var.Var.{Var}
use Rattle.sap_rewrite.specs.Around.{FitAll, all_outer_vars}
use Rattle.sap_rewrite.specs.Match.{Extends, Agrees, HaveOneSort, bound_vars}

-- the facts' variables outside the subterms that a destructor heads
abbrev pub facts_outer_vars : Sig → List Fact → List Var
facts_outer_vars g fs = flat_map (λ (f : Fact). all_outer_vars g (trees_of f.args)) fs

-- around the destructors the choice turns the fact into the other
pub record FactFits (g : Sig) (σ : Choice) (f h : Fact) : Type 0 where
  pub name : h.name ≡ f.name
  pub persistent : h.persistent ≡ f.persistent
  pub args : FitAll g σ (trees_of f.args) (trees_of h.args)

-- the choices that turn these arguments into those around destructors
abbrev pub ArgsFit : Sig → List Tree → List Tree → Choice → Type 0
ArgsFit g ps ts σ = FitAll g σ (trees_of ps) (trees_of ts)

-- this fact into that
abbrev pub FactFit : Sig → Fact → Fact → Choice → Type 0
FactFit g f h σ = FactFits g σ f h

-- these facts into those
abbrev pub FactsFit : Sig → List Fact → List Fact → Choice → Type 0
FactsFit g fs hs σ = AllZip (FactFits g σ) fs hs

-- c is b and then terms for these variables; what agrees with c is as F says; what is sorted, agrees with b and is as F says
-- agrees with c, if no name has two sorts
pub record IsOnlyChoice (F : Choice → Type 0) (vs : List Var) (b c : List Binding) : Type 0 where
  pub extends : Extends b vs c
  pub is : HaveOneSort (bound_vars b ++ vs) → (σ : Choice) → Agrees c σ → F σ
  pub only : HaveOneSort (bound_vars b ++ vs) → (σ : Choice) → IsSorted σ → Agrees b σ → F σ
      → Agrees c σ

-- nothing that is sorted and agrees with b is as F says, if no name has two sorts
abbrev pub HasNoChoice : (Choice → Type 0) → List Var → List Binding → Type 0
HasNoChoice F vs b = HaveOneSort (bound_vars b ++ vs) → (σ : Choice) → IsSorted σ → Agrees b σ → F σ
    → ⊥
