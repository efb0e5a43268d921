-- Down along a path to a place and what is in scope there.
use Rattle.std.proofs.Common.{◌≡◌, ℕ, zero, suc, List, [], ◌∷◌, ◌++◌, Option, Some, None, refl, sym, subst, ◌∙◌}
use Rattle.std.proofs.lemmas.Option.{get_or_from_slice_get, slice_get_within}
use Rattle.std.specs.Prelude.{Contains, option_map, slice_get}
use Rattle.sap_terms.specs.declared.limits.TheConstants.{MOST_SCOPE_NAMES}
use Rattle.sap_terms.specs.declared.var.Var.{Var}
use Rattle.sap_process.specs.Places.{child, place, place_at, place_from, places}
use Rattle.sap_process.specs.Proc.{Proc, nil, parallel, replicated, act, test, lookup}
use Rattle.sap_process.specs.Sites.{Above, Site, above_of, scope_below, sites_in}
use Rattle.sap_nodes.specs.code.Full.{head_bound}
use Rattle.sap_nodes.specs.code.Sites.{IsSite, ComesDown}
use Rattle.sap_nodes.proofs.LastNames.{known_head}

-- what is in scope below doesn't hang on how many locks are set
same_scope : (known : List Var) (j k : ℕ) (p : Proc) (e : ℕ) → (scope_below (above_of known j) p e).scope ≡ (scope_below (above_of known k) p e).scope
same_scope known j k nil e = refl
same_scope known j k (parallel p q) e = refl
same_scope known j k (replicated p) e = refl
same_scope known j k (act a p) e = refl
same_scope known j k (test t u p q) e = refl
same_scope known j k (lookup t x p q) zero = refl
same_scope known j k (lookup t x p q) (suc zero) = refl
same_scope known j k (lookup t x p q) (suc (suc n)) = refl

-- it is what the code keeps
kept : (known : List Var) (locks : ℕ) (p : Proc) (e : ℕ) → (head_bound MOST_SCOPE_NAMES known p e).known ≡ (scope_below (above_of known locks) p e).scope
kept known locks p e = known_head known 0 p e ∙ same_scope known 0 locks p e

-- here
pub come_here : (known : List Var) (p : Proc) → ComesDown known p [] known (Some p)
come_here known p = λ pre locks. (refl, refl)

-- a step down
pub come_further : (known after : List Var) (p q : Proc) (e : ℕ) (rest : List ℕ) (o : Option Proc) → child p e ≡ Some q
    → ComesDown (head_bound MOST_SCOPE_NAMES known p e).known q rest after o → ComesDown known p (e ∷ rest) after o
come_further known after p q e rest o there below = λ pre locks.
    let u = scope_below (above_of known locks) p e in
    let at : (v : List Var) → v ≡ u.scope → IsSite (place_from scope_below (Some (place (pre ++ e ∷ []) (above_of v u.locks) q)) rest) after o
    → IsSite (place_from scope_below (Some (place (pre ++ e ∷ []) u q)) rest) after o
    = λ v same h. subst (λ (w : List Var). IsSite (place_from scope_below (Some (place (pre ++ e ∷ []) (above_of w u.locks) q)) rest) after o) same h in
    subst (λ (r : Option Proc). IsSite (place_from scope_below (option_map (place (pre ++ e ∷ []) u) r) rest) after o) (sym there)
    (at (head_bound MOST_SCOPE_NAMES known p e).known (kept known locks p e) (below (pre ++ e ∷ []) u.locks))

-- nowhere
nowhere_from : (path : List ℕ) (after : List Var) → IsSite (place_from scope_below None path) after None
nowhere_from [] after = tt
nowhere_from (e ∷ path) after = tt

pub come_nowhere : (known after : List Var) (p : Proc) (e : ℕ) (rest : List ℕ) → child p e ≡ None → ComesDown known p (e ∷ rest) after None
come_nowhere known after p e rest none = λ pre locks.
    subst (λ (r : Option Proc). IsSite (place_from scope_below (option_map (place (pre ++ e ∷ []) (scope_below (above_of known locks) p e)) r) rest) after None) (sym none) (nowhere_from rest after)

-- ---- the place at the path is in the list of places

-- its law
abbrev PathLaw : Type 0
PathLaw = (p : Proc) (s : Above) (x : Site) → Contains (places scope_below s p) x → place_at scope_below s p x.path ≡ Some x

site_there : PathLaw → (scope : List Var) (p : Proc) (path : List ℕ) (k : ℕ) (s : Site) → slice_get (sites_in scope p) k ≡ Some s → s.path ≡ path → place_at scope_below (above_of scope 0) p path ≡ Some s
site_there law scope p path k s there is = subst (λ (v : List ℕ). place_at scope_below (above_of scope 0) p v ≡ Some s) is (law p (above_of scope 0) s (k, slice_get_within (sites_in scope p) k s there, get_or_from_slice_get (sites_in scope p) k s s there))

pub site_nowhere : PathLaw → (scope after : List Var) (p : Proc) (path : List ℕ) → ComesDown scope p path after None → (k : ℕ) (s : Site) → slice_get (sites_in scope p) k ≡ Some s → s.path ≡ path → ⊥
site_nowhere law scope after p path down k s there is =
    subst (λ (x : Option Site). IsSite x after None) (site_there law scope p path k s there is) (down [] 0)

pub site_is : PathLaw → (scope after : List Var) (p q : Proc) (path : List ℕ) → ComesDown scope p path after (Some q) → (k : ℕ) (s : Site) → slice_get (sites_in scope p) k ≡ Some s → s.path ≡ path
    → (s.above.scope ≡ after) × (s.body ≡ q)
site_is law scope after p q path down k s there is =
    subst (λ (x : Option Site). IsSite x after (Some q)) (site_there law scope p path k s there is) (down [] 0)
