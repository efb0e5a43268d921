-- No pattern of a well-formed process has a destructor.
use Rattle.std.proofs.Common.{◌≡◌, ℕ, zero, suc, List, [], ◌∷◌, ◌++◌, Some, subst}
use Rattle.std.specs.Prelude.{Contains}
use Rattle.sap_terms.specs.Destructors.{HasDestructor}
use Rattle.sap_terms.specs.Signature.{Sig}
use Rattle.sap_terms.specs.Tree.{Tree}
use Rattle.sap_terms.specs.declared.var.Var.{Var}
use Rattle.sap_process.specs.Flaws.{IsWellFormed}
use Rattle.sap_process.specs.Heads.{patterns}
use Rattle.sap_process.specs.Places.{place}
use Rattle.sap_process.specs.Proc as whole
use Rattle.sap_process.specs.Proc.{Proc, act}
use Rattle.sap_process.specs.Scopes.{scope_behind}
use Rattle.sap_process.specs.Sites.{Site, above_of, bound_by, message_var, sites_from}
use Rattle.sap_process.specs.declared.flaw.Flaw.TheVariants.{PatternDestructor}
use Rattle.sap_translate.specs.Members.{Member}
use Rattle.sap_templates.specs.Places.{ScopedPlace, root, scoped_place_at}
use Rattle.sap_templates.specs.Templates.{first_of, second_of}
use Rattle.sap_translate.proofs.Shared.Lookups.{member_left, member_right}
use Rattle.sap_translate.proofs.Terms.Clean.{member_place}

module _ (P : Proc → Type 0) where
  -- the head has the property, and so have those of the parts
  abbrev Everywhere : Proc → Type 0
  Everywhere whole.nil = P whole.nil
  Everywhere (whole.parallel p q) = P (whole.parallel p q) × Everywhere p × Everywhere q
  Everywhere (whole.replicated p) = P (whole.replicated p) × Everywhere p
  Everywhere (act a p) = P (act a p) × Everywhere p
  Everywhere (whole.test t u p q) = P (whole.test t u p q) × Everywhere p × Everywhere q
  Everywhere (whole.lookup t x p q) = P (whole.lookup t x p q) × Everywhere p × Everywhere q

  spread : (path : List ℕ) (v : List Var) (k : ℕ) (p : Proc) → ((s : Site) → Member s (sites_from path v k p) → P s.body) → Everywhere p
  spread path v k whole.nil h = h (place path (above_of v k) whole.nil) Member.here
  spread path v k (whole.parallel p q) h = (
    h (place path (above_of v k) (whole.parallel p q)) Member.here,
    spread (path ++ 1 ∷ []) v k p (λ s m. h s (Member.later (member_left (sites_from (path ++ 2 ∷ []) v k q) m))),
    spread (path ++ 2 ∷ []) v k q (λ s m. h s (Member.later (member_right (sites_from (path ++ 1 ∷ []) v k p) m))),
  )
  spread path v k (whole.replicated p) h = (
    h (place path (above_of v k) (whole.replicated p)) Member.here,
    spread (path ++ 1 ∷ []) v k p (λ s m. h s (Member.later m)),
  )
  spread path v k (act a p) h = (
    h (place path (above_of v k) (act a p)) Member.here,
    spread (path ++ 1 ∷ []) (v ++ bound_by v a) _ p (λ s m. h s (Member.later m)),
  )
  spread path v k (whole.test t u p q) h = (
    h (place path (above_of v k) (whole.test t u p q)) Member.here,
    spread (path ++ 1 ∷ []) v k p (λ s m. h s (Member.later (member_left (sites_from (path ++ 2 ∷ []) v k q) m))),
    spread (path ++ 2 ∷ []) v k q (λ s m. h s (Member.later (member_right (sites_from (path ++ 1 ∷ []) v k p) m))),
  )
  spread path v k (whole.lookup t x p q) h = (
    h (place path (above_of v k) (whole.lookup t x p q)) Member.here,
    spread (path ++ 1 ∷ []) (v ++ message_var x ∷ []) k p (λ s m. h s (Member.later (member_left (sites_from (path ++ 2 ∷ []) v k q) m))),
    spread (path ++ 2 ∷ []) v k q (λ s m. h s (Member.later (member_right (sites_from (path ++ 1 ∷ []) (v ++ message_var x ∷ []) k p) m))),
  )

  here : (p : Proc) → Everywhere p → P p
  here whole.nil h = h
  here (whole.parallel p q) h = h.0
  here (whole.replicated p) h = h.0
  here (act a p) h = h.0
  here (whole.test t u p q) h = h.0
  here (whole.lookup t x p q) h = h.0

  found : (at : List ℕ) (v : List Var) (p : Proc) → Everywhere p → (path : List ℕ) (b : ScopedPlace) → scoped_place_at (Some (place at v p)) path ≡ Some b → P b.body
  found at v p h [] b e = subst (λ (z : ScopedPlace). P z.body) (let z : place at v p ≡ b = cc in z) (here p h)
  found at v p h (zero ∷ path) b e = absurd (cc)
  found at v whole.nil h (suc zero ∷ path) b e = absurd (cc)
  found at v (whole.parallel p q) h (suc zero ∷ path) b e = found (first_of at) v p h.1 path b e
  found at v (whole.replicated p) h (suc zero ∷ path) b e = found (first_of at) v p h.1 path b e
  found at v (act a p) h (suc zero ∷ path) b e = found (first_of at) (scope_behind v a) p h.1 path b e
  found at v (whole.test m n p q) h (suc zero ∷ path) b e = found (first_of at) v p h.1 path b e
  found at v (whole.lookup m x p q) h (suc zero ∷ path) b e = found (first_of at) (v ++ message_var x ∷ []) p h.1 path b e
  found at v whole.nil h (suc (suc zero) ∷ path) b e = absurd (cc)
  found at v (whole.parallel p q) h (suc (suc zero) ∷ path) b e = found (second_of at) v q h.2 path b e
  found at v (whole.replicated p) h (suc (suc zero) ∷ path) b e = absurd (cc)
  found at v (act a p) h (suc (suc zero) ∷ path) b e = absurd (cc)
  found at v (whole.test m n p q) h (suc (suc zero) ∷ path) b e = found (second_of at) v q h.2 path b e
  found at v (whole.lookup m x p q) h (suc (suc zero) ∷ path) b e = found (second_of at) v q h.2 path b e
  found at v p h (suc (suc (suc d)) ∷ path) b e = absurd (cc)

abbrev HasPlainPatterns : Sig → Proc → Type 0
HasPlainPatterns g p = (t : Tree) → Contains (patterns p) t → HasDestructor g t → ⊥

plain_site : (g : Sig) (p : Proc) → IsWellFormed g p → (s : Site) → Member s (sites_from [] [] 0 p) → HasPlainPatterns g s.body
plain_site g p fine s m t stands destructor =
    let h = member_place m in
    fine PatternDestructor h.0 (record { site = s; stands = h.1; flaw = record { term = t; stands = stands; destructor = destructor } })

pub plain_patterns : (g : Sig) (p : Proc) → IsWellFormed g p → (path : List ℕ) (b : ScopedPlace) → scoped_place_at (root p) path ≡ Some b → (t : Tree) → Contains (patterns b.body) t → HasDestructor g t → ⊥
plain_patterns g p fine path b e = found (HasPlainPatterns g) [] [] p (spread (HasPlainPatterns g) [] [] 0 p (plain_site g p fine)) path b e
