-- Patterns, whose instances are normal.
use Rattle.std.specs.Prelude.{◌≡◌, ◌↔◌}
use Rattle.sap_terms.specs.declared.var.Var.{Var}
use Rattle.sap_terms.specs.Tree.{Tree, variable, public, fresh, apply}
use Rattle.sap_terms.specs.Ground.{IsGround}
use Rattle.sap_terms.specs.Choice.{Choice, instance}
use Rattle.sap_terms.specs.Equations.{Equations, IsDestructor}
use Rattle.sap_terms.specs.Equal.{IsTheoryEqual}
use Rattle.sap_terms.specs.Normal.{IsNormal, EachSubterm}

-- a destructor heads the tree
abbrev pub HeadsDestructor : Equations → Tree → Type 0
HeadsDestructor e (variable v) = ⊥
HeadsDestructor e (public n) = ⊥
HeadsDestructor e (fresh k) = ⊥
HeadsDestructor e (apply f ts) = IsDestructor e f

-- where a destructor heads a subterm, that is ground and normal
abbrev pub IsPattern : Equations → Tree → Type 0
IsPattern e p = EachSubterm (λ t. HeadsDestructor e t → IsGround t × IsNormal e t) p

-- each variable stands for a normal term
abbrev pub IsNormalChoice : Equations → Choice → Type 0
IsNormalChoice e σ = (v : Var) → IsNormal e (σ v)

-- under a normal substitution the instance of a pattern is theory-equal to a normal term exactly where it is that term
abbrev pub MatchingIsModulo : Type 0
MatchingIsModulo =
    (e : Equations) (σ : Choice) (p t : Tree) → IsNormalChoice e σ → IsPattern e p → IsNormal e t → IsTheoryEqual e (instance σ p) t ↔ (instance σ p ≡ t)
