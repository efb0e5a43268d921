-- Instances of patterns under normal substitutions.
use Rattle.std.proofs.Common.{◌≡◌, ℕ, List, sym, refl, ap, subst, ◌∙◌, inl, inr}
use Rattle.std.specs.Prelude.{◌⊎◌}
use Rattle.sap_terms.specs.Destructors.{HasDestructor, AnyHasDestructor}
use Rattle.sap_terms.specs.Laws.{DestructorsHeadLeftSides}
use Rattle.sap_terms.specs.Signature.{Sig}
use Rattle.sap_terms.specs.declared.var.Var.{Var}
use Rattle.sap_terms.specs.Tree.{Tree, variable, public, fresh, apply, Trees, none, more}
use Rattle.sap_terms.specs.Ground.{IsGround, AreGround}
use Rattle.sap_terms.specs.Choice.{Choice, instance, instances}
use Rattle.sap_terms.specs.Equations.{Equations, equations, IsInstance, IsDestructor}
use Rattle.sap_terms.specs.Equal.{IsTheoryEqual, same}
use Rattle.sap_terms.specs.Normal.{IsNormal, AreNormal, IsNoLeftSide, EachSubtermWithin}
use Rattle.sap_rewrite.specs.Pattern.{HeadsDestructor, IsPattern, IsNormalChoice}
use Rattle.sap_rewrite.proofs.NormalForms.{leaf-normal, nf-fixed}
use Rattle.sap_rewrite.proofs.Respects.{nf-equal}

mutual
  instance-ground : (σ : Choice) (t : Tree) → IsGround t → instance σ t ≡ t
  instance-ground σ (variable v) g = absurd g
  instance-ground σ (public n) g = refl
  instance-ground σ (fresh k) g = refl
  instance-ground σ (apply f ts) g = ap (apply f) (instances-ground σ ts g)

  instances-ground : (σ : Choice) (ts : Trees) → AreGround ts → instances σ ts ≡ ts
  instances-ground σ none g = refl
  instances-ground σ (more t ts) g = λ i. more (instance-ground σ t g.0 i) (instances-ground σ ts g.1 i)

abbrev ArePatterns : Equations → Trees → Type 0
ArePatterns e ps = EachSubtermWithin (λ t. HeadsDestructor e t → IsGround t × IsNormal e t) ps

-- an instance whose head is a destructor is the ground normal subterm itself
no_left_side : (e : Equations) (σ : Choice) (f : List ℕ) (ts : Trees) → (IsDestructor e f → IsGround (apply f ts) × IsNormal e (apply f ts)) → IsNoLeftSide e (apply f (instances σ ts))
no_left_side e σ f ts h b i =
    let q = h (record { args = instances σ ts; right = b; is_left = i }) in
    q.1.0 b (subst (λ t. IsInstance e t b) (instance-ground σ (apply f ts) q.0) i)

mutual
  -- the instance of a pattern under a normal choice is normal
  pattern-normal : (e : Equations) (σ : Choice) (p : Tree) → IsNormalChoice e σ → IsPattern e p → IsNormal e (instance σ p)
  pattern-normal e σ (variable v) n h = n v
  pattern-normal e σ (public m) n h = leaf-normal e (public m) refl
  pattern-normal e σ (fresh k) n h = leaf-normal e (fresh k) refl
  pattern-normal e σ (apply f ts) n h = (no_left_side e σ f ts h.0, patterns-normal e σ ts n h.1)

  patterns-normal : (e : Equations) (σ : Choice) (ps : Trees) → IsNormalChoice e σ → ArePatterns e ps → AreNormal e (instances σ ps)
  patterns-normal e σ none n h = tt
  patterns-normal e σ (more p ps) n h = (pattern-normal e σ p n h.0, patterns-normal e σ ps n h.1)

pub equal_from_same : (e : Equations) (t u : Tree) → t ≡ u → IsTheoryEqual e t u
equal_from_same e t u h = subst (λ v. IsTheoryEqual e t v) h same

pub modulo_iff : (e : Equations) (σ : Choice) (p t : Tree) → IsNormalChoice e σ → IsPattern e p → IsNormal e t → (IsTheoryEqual e (instance σ p) t → instance σ p ≡ t) × (instance σ p ≡ t → IsTheoryEqual e (instance σ p) t)
modulo_iff e σ p t n h m =
    (λ q. sym (nf-fixed e (instance σ p) (pattern-normal e σ p n h)) ∙ nf-equal e q ∙ nf-fixed e t m, λ q. equal_from_same e (instance σ p) t q)

mutual
  -- a ground normal term is a pattern, whatever stands in it
  closed-pattern : (e : Equations) (t : Tree) → IsGround t → IsNormal e t → IsPattern e t
  closed-pattern e (variable v) g n = absurd g
  closed-pattern e (public m) g n = λ h. absurd h
  closed-pattern e (fresh k) g n = λ h. absurd h
  closed-pattern e (apply f ts) g n = (λ h. (g, n), closed-patterns e ts g n.1)

  closed-patterns : (e : Equations) (ts : Trees) → AreGround ts → AreNormal e ts → ArePatterns e ts
  closed-patterns e none g n = tt
  closed-patterns e (more t ts) g n = (closed-pattern e t g.0 n.0, closed-patterns e ts g.1 n.1)

module _ (heads : DestructorsHeadLeftSides) (g : Sig) (σ : Choice) (given : (v : Var) → (σ v ≡ variable v) ⊎ (IsGround (σ v) × IsNormal (equations g) (σ v))) where
  mutual
    pub pattern-stays : (p : Tree) → (HasDestructor g p → ⊥) → IsPattern (equations g) (instance σ p)
    pattern-stays (variable v) h = elim (given v) [
      | inl e ↦ let P : Tree → Type 0 = λ t. IsPattern (equations g) t in subst P (sym e) (λ d. absurd d)
      | inr c ↦ closed-pattern (equations g) (σ v) c.0 c.1
    ]
    pattern-stays (public n) h = λ d. absurd d
    pattern-stays (fresh k) h = λ d. absurd d
    pattern-stays (apply f ts) h = (λ d. absurd (h (inl ((heads g f).1 d))), patterns-stay ts (λ d. h (inr d)))

    patterns-stay : (ts : Trees) → (AnyHasDestructor g ts → ⊥) → ArePatterns (equations g) (instances σ ts)
    patterns-stay none h = tt
    patterns-stay (more t ts) h = (pattern-stays t (λ d. h (inl d)), patterns-stay ts (λ d. h (inr d)))
