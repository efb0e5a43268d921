-- Matching around the destructors is matching modulo the equations, and what it gives are messages.
use Rattle.std.proofs.Common.{◌≡◌, ℕ, Bool, true, false, List, [], Option, Some, None, unwrap_or, inl, inr, refl, sym, ap, subst, ◌∙◌, arith, IsTrue}
use Rattle.std.specs.Prelude.{Contains, if◌then◌else◌}
use Rattle.std.proofs.lemmas.List.Elements.{Contains-push_cases, Contains-append_cases}
use Rattle.sap_terms.specs.declared.var.Var.{Var}
use Rattle.sap_terms.specs.declared.var.Sort.TheVariants.{Msg}
use Rattle.sap_terms.specs.Choice.{Choice, fits_sort, instance, instances}
use Rattle.sap_terms.specs.Equal.{IsTheoryEqual}
use Rattle.sap_terms.specs.Ground.{IsGround, AreGround}
use Rattle.sap_terms.specs.Message.{IsMessage, IsOver, AreOver}
use Rattle.sap_terms.specs.Normal.{IsNormal, AreNormal}
use Rattle.sap_terms.specs.Signature.{Sig, is_destructor_of}
use Rattle.sap_terms.specs.Equations.{equations, IsInstance, first, second, symmetric, asymmetric, signing, revealing, revealed}
use Rattle.sap_terms.specs.Tree.{Tree, variable, public, fresh, apply, Trees, none, more}
use Rattle.sap_rewrite.specs.Around.{outer_vars, all_outer_vars, FitsAround, FitAll, HoldsUnder, HoldAll}
use Rattle.sap_rewrite.specs.Pattern.{IsNormalChoice}
use Rattle.sap_rewrite.specs.code.Reduce.{contracted, reduced, nf, nfs}
use Rattle.sap_rewrite.proofs.NormalForms.{nf-reached, nf-fixed}
use Rattle.sap_rewrite.proofs.Patterns.{equal_from_same}
use Rattle.sap_rewrite.proofs.Reach.{AreTheoryEqual, done, join_all, at_head, at_tail, within}
use Rattle.sap_rewrite.proofs.Respects.{nf-equal}
use Rattle.sap_rewrite.proofs.Sound.{contracted-sound}

-- a destructor heads the tree
abbrev is_headed : Sig → Tree → Bool
is_headed g (variable v) = false
is_headed g (public n) = false
is_headed g (fresh k) = false
is_headed g (apply f ts) = is_destructor_of g f

left_headed : (g : Sig) {t r : Tree} → IsInstance (equations g) t r → is_headed g t ≡ true
left_headed g first = refl
left_headed g second = refl
left_headed g (symmetric h) = rw h refl
left_headed g (asymmetric h) = rw h refl
left_headed g (signing h) = rw h refl
left_headed g (revealing h) = rw h refl
left_headed g (revealed h) = rw h refl

-- a symbol that is no destructor stays
reduced-kept : (g : Sig) (f : List ℕ) (ts : Trees) → is_destructor_of g f ≡ false → reduced (equations g) f ts ≡ apply f ts
reduced-kept g f ts h = at (contracted (equations g) f ts) refl where
  at : (o : Option Tree) → contracted (equations g) f ts ≡ o → unwrap_or o (apply f ts) ≡ apply f ts
  at None i = refl
  at (Some r) i = let head = left_headed g (contracted-sound (equations g) f ts r i) in cc

same_args : (f : List ℕ) (ts us : Trees) (t : Tree) → apply f ts ≡ t → t ≡ apply f us → ts ≡ us
same_args f ts us t h i = cc

mutual
  unfolding nf nfs

  forth : (g : Sig) (σ : Choice) (p t : Tree) → IsNormalChoice (equations g) σ → nf (equations g) (instance σ p) ≡ t → FitsAround g σ p t × HoldsUnder g σ p t
  forth g σ (variable v) t n h = (sym (nf-fixed (equations g) (σ v) (n v)) ∙ h, tt)
  forth g σ (public m) t n h = (h, tt)
  forth g σ (fresh k) t n h = (h, tt)
  forth g σ (apply f ps) t n h =
      let ts = nfs (equations g) (instances σ ps) in
      elim (is_destructor_of g f) as (λ r. is_destructor_of g f ≡ r → FitsAround g σ (apply f ps) t × HoldsUnder g σ (apply f ps) t) [
        | true ↦ λ e. (inl e, (λ _. subst (λ u. IsTheoryEqual (equations g) (instance σ (apply f ps)) u) h (nf-reached (equations g) (instance σ (apply f ps))), λ no. cc))
        | false ↦ λ e.
            let is : apply f ts ≡ t = sym (reduced-kept g f ts e) ∙ h in
            let q = forth_all g σ ps ts n refl in
            (inr (ts, sym is, q.0), (λ yes. cc, λ _ us i. subst (λ vs. HoldAll g σ ps vs) (same_args f ts us t is i) q.1))
      ] refl

  forth_all : (g : Sig) (σ : Choice) (ps ts : Trees) → IsNormalChoice (equations g) σ → nfs (equations g) (instances σ ps) ≡ ts → FitAll g σ ps ts × HoldAll g σ ps ts
  forth_all g σ none none n h = (tt, tt)
  forth_all g σ (more p ps) (more t ts) n h =
      let x = forth g σ p t n (cc) in
      let y = forth_all g σ ps ts n (cc) in
      ((x.0, y.0), (x.1, y.1))
  forth_all g σ none (more t ts) n h = cc
  forth_all g σ (more p ps) none n h = cc

mutual
  back_again : (g : Sig) (σ : Choice) (p t : Tree) → FitsAround g σ p t → HoldsUnder g σ p t → IsTheoryEqual (equations g) (instance σ p) t
  back_again g σ (variable v) t f h = equal_from_same (equations g) (σ v) t f
  back_again g σ (public m) t f h = equal_from_same (equations g) (public m) t f
  back_again g σ (fresh k) t f h = equal_from_same (equations g) (fresh k) t f
  back_again g σ (apply c ps) t (inl f) h = h.0 f
  back_again g σ (apply c ps) t (inr f) h =
      elim (is_destructor_of g c) as (λ r. is_destructor_of g c ≡ r → IsTheoryEqual (equations g) (instance σ (apply c ps)) t) [
        | true ↦ λ e. h.0 e
        | false ↦ λ e. subst (λ u. IsTheoryEqual (equations g) (instance σ (apply c ps)) u) (sym f.1) (within (back_all g σ ps f.0 f.2 (h.1 e f.0 f.1)))
      ] refl

  back_all : (g : Sig) (σ : Choice) (ps ts : Trees) → FitAll g σ ps ts → HoldAll g σ ps ts → AreTheoryEqual (equations g) (instances σ ps) ts
  back_all g σ none none f h = done
  back_all g σ (more p ps) (more t ts) f h = join_all (at_head (back_again g σ p t f.0 h.0)) (at_tail (back_all g σ ps ts f.1 h.1))
  back_all g σ none (more t ts) f h = absurd f
  back_all g σ (more p ps) none f h = absurd f

pub around_iff : (g : Sig) (σ : Choice) (p t : Tree) → IsNormalChoice (equations g) σ → IsNormal (equations g) t → (IsTheoryEqual (equations g) (instance σ p) t → FitsAround g σ p t × HoldsUnder g σ p t) × (FitsAround g σ p t × HoldsUnder g σ p t → IsTheoryEqual (equations g) (instance σ p) t)
around_iff g σ p t n m =
    (λ q. forth g σ p t n (nf-equal (equations g) q ∙ nf-fixed (equations g) t m), λ q. back_again g σ p t q.0 q.1)

pub nothing_in : {X : Type 0} (x : X) → Contains [] x → ⊥
nothing_in x h = let no = h.1 in omega arith

-- a term like those that messages are made of
abbrev pub IsPlain : Sig → Tree → Type 0
IsPlain g t = IsGround t × IsOver g t × IsNormal (equations g) t

mutual
  given : (g : Sig) (σ : Choice) (p t : Tree) → FitsAround g σ p t → IsPlain g t → (v : Var) → Contains (outer_vars g p) v → IsPlain g (σ v)
  given g σ (variable w) t f h v m =
      elim (Contains-push_cases [] w v m) as (λ _. IsPlain g (σ v)) [ inl never ↦ absurd (nothing_in v never) | inr e ↦ subst (λ u. IsPlain g u) (sym f ∙ ap σ e) h ]
  given g σ (public n) t f h v m = absurd (nothing_in v m)
  given g σ (fresh k) t f h v m = absurd (nothing_in v m)
  given g σ (apply c ps) t f h v m =
      elim (is_destructor_of g c) as (λ r. is_destructor_of g c ≡ r → Contains (if r then [] else all_outer_vars g ps) v → IsPlain g (σ v)) [
        | true ↦ λ e m. absurd (nothing_in v m)
        | false ↦ λ e m. elim f as (λ _. IsPlain g (σ v)) [
          | inl skip ↦ cc
          | inr q ↦ let i = subst (λ u. IsPlain g u) q.1 h in given_all g σ ps q.0 q.2 i.0 i.1.1 i.2.1 v m
        ]
      ] refl m

  given_all : (g : Sig) (σ : Choice) (ps ts : Trees) → FitAll g σ ps ts → AreGround ts → AreOver g ts → AreNormal (equations g) ts → (v : Var) → Contains (all_outer_vars g ps) v → IsPlain g (σ v)
  given_all g σ none none f a b c v m = absurd (nothing_in v m)
  given_all g σ (more p ps) (more t ts) f a b c v m =
      elim (Contains-append_cases (outer_vars g p) (all_outer_vars g ps) v m) as (λ _. IsPlain g (σ v)) [
        | inl here ↦ given g σ p t f.0 (a.0, b.0, c.0) v here
        | inr later ↦ given_all g σ ps ts f.1 a.1 b.1 c.1 v later
      ]
  given_all g σ none (more t ts) f a b c v m = absurd f
  given_all g σ (more p ps) none f a b c v m = absurd f

-- what a fitting choice gives an outer variable is a message where the tree is one and the sort allows it
pub given_message : (g : Sig) (σ : Choice) (p t : Tree) → FitsAround g σ p t → IsMessage g Msg t → (v : Var) → Contains (outer_vars g p) v → IsTrue (fits_sort v.sort (σ v)) → IsMessage g v.sort (σ v)
given_message g σ p t f h v m s =
    let q = given g σ p t f (h.ground, h.over, h.normal) v m in
    record { ground = q.0; over = q.1; normal = q.2; sorted = s }
