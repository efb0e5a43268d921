-- Places of ready processes are sound, and so are those below sound ones.
use Rattle.std.proofs.Common.{◌≡◌, ◌<◌, inl, ℕ, zero, suc, List, [], ◌∷◌, ◌++◌, length, Some, refl, ap, arith}
use Rattle.std.specs.Prelude.{Contains, slice_get, slice_index_or}
use Rattle.std.proofs.lemmas.List.Elements.{Contains-append_left, Contains-append_right}
use Rattle.sap_terms.specs.Signature.{Sig}
use Rattle.sap_terms.specs.Tree.{Tree}
use Rattle.sap_terms.specs.declared.var.Var.{Var}
use Rattle.sap_process.specs.Action.{Action}
use Rattle.sap_process.specs.Flaws.{unbound}
use Rattle.sap_process.specs.Instance.{action_instance}
use Rattle.sap_process.specs.Ready.{IsReady}
use Rattle.sap_process.specs.Sorted.{with_sorts, by_binder, binding_fresh}
use Rattle.sap_terms.specs.Choice.{instance}
use Rattle.sap_process.specs.declared.flaw.Flaw.TheVariants.{BadFunction, PatternDestructor, Unbound, Rebound, SortClash}
use Rattle.sap_process.specs.Places.{place, places_from}
use Rattle.sap_process.specs.Proc.{Proc, nil, parallel, replicated, act, test, lookup}
use Rattle.sap_process.specs.Sites.{Above, above_of, scope_below, sites, bound_by, message_var}
use Rattle.sap_calc.specs.code.Sound.{IsSound, IsSoundFrom}

-- what is in a list has an index
found : {X : Type 0} (xs : List X) (x : X) → Contains xs x → (k : ℕ) × (slice_get xs k ≡ Some x)
found {X} xs x h = (h.0, at xs h.0 h.1 h.2) where
  at : (xs : List X) (k : ℕ) → k < length xs → slice_index_or xs k x ≡ x → slice_get xs k ≡ Some x
  at [] k lt e = absurd (omega arith)
  at (y ∷ ys) zero lt e = ap Some e
  at (y ∷ ys) (suc k) lt e = let less : k < length ys = omega arith in at ys k less e

empty : (vs : List Var) → (¬ ¬ (vs ≡ [])) → vs ≡ []
empty [] h = refl
empty (v ∷ vs) h = absurd (h (λ e. cc))

-- each place of a ready process is sound
pub sound_root : (g : Sig) (p : Proc) → IsReady g p → IsSoundFrom g (above_of [] 0) p
sound_root g p ready = record {
  path = [];
  sound = λ s h.
      let at = found (sites p) s h in
      record {
        over = λ bad. ready.well_formed BadFunction at.0 (record { site = s; stands = at.1; flaw = inl bad });
        bound = empty (unbound s.above.scope s.body) (λ some. ready.well_formed Unbound at.0 (record { site = s; stands = at.1; flaw = some }));
        plain = λ bad. ready.well_formed PatternDestructor at.0 (record { site = s; stands = at.1; flaw = bad });
        new_names = λ bad. ready.well_formed Rebound at.0 (record { site = s; stands = at.1; flaw = bad });
        sorts = λ bad. ready.well_formed SortClash at.0 (record { site = s; stands = at.1; flaw = bad });
      };
  sorted = ready.sorted;
}

tail : {X : Type 0} (x : X) (xs : List X) (y : X) → Contains xs y → Contains (x ∷ xs) y
tail x xs y h = Contains-append_right (x ∷ []) xs y h

-- the place itself is sound
head : {X : Type 0} (x : X) (xs : List X) → Contains (x ∷ xs) x
head x xs = (0, omega arith, refl)

pub sound_head : (g : Sig) (u : Above) (p : Proc) → (s : IsSoundFrom g u p) → IsSound g (place s.path u p)
sound_head g u nil s = s.sound (place s.path u nil) (head (place s.path u nil) [])
sound_head g u (parallel p q) s = s.sound (place s.path u (parallel p q)) (head (place s.path u (parallel p q)) (places_from scope_below (s.path ++ 1 ∷ []) u p ++ places_from scope_below (s.path ++ 2 ∷ []) u q))
sound_head g u (replicated p) s = s.sound (place s.path u (replicated p)) (head (place s.path u (replicated p)) (places_from scope_below (s.path ++ 1 ∷ []) u p))
sound_head g u (act a p) s = s.sound (place s.path u (act a p)) (head (place s.path u (act a p)) (places_from scope_below (s.path ++ 1 ∷ []) (scope_below u (act a p) 1) p))
sound_head g u (test t v p q) s = s.sound (place s.path u (test t v p q)) (head (place s.path u (test t v p q)) (places_from scope_below (s.path ++ 1 ∷ []) u p ++ places_from scope_below (s.path ++ 2 ∷ []) u q))
sound_head g u (lookup t x p q) s = s.sound (place s.path u (lookup t x p q)) (head (place s.path u (lookup t x p q)) (places_from scope_below (s.path ++ 1 ∷ []) (scope_below u (lookup t x p q) 1) p ++ places_from scope_below (s.path ++ 2 ∷ []) u q))

-- and those below it
pub sound_left : (g : Sig) (u : Above) (p q : Proc) → IsSoundFrom g u (parallel p q) → IsSoundFrom g u p
sound_left g u p q s =
    let e : parallel (with_sorts u.scope p) (with_sorts u.scope q) ≡ parallel p q = s.sorted in
    let kept : with_sorts u.scope p ≡ p = cc in
    record { path = s.path ++ 1 ∷ []; sound = λ x h. s.sound x (tail _ _ x (Contains-append_left _ _ x h)); sorted = kept }

pub sound_right : (g : Sig) (u : Above) (p q : Proc) → IsSoundFrom g u (parallel p q) → IsSoundFrom g u q
sound_right g u p q s =
    let e : parallel (with_sorts u.scope p) (with_sorts u.scope q) ≡ parallel p q = s.sorted in
    let kept : with_sorts u.scope q ≡ q = cc in
    record { path = s.path ++ 2 ∷ []; sound = λ x h. s.sound x (tail _ _ x (Contains-append_right _ _ x h)); sorted = kept }

pub sound_copy : (g : Sig) (u : Above) (p : Proc) → IsSoundFrom g u (replicated p) → IsSoundFrom g u p
sound_copy g u p s =
    let e : replicated (with_sorts u.scope p) ≡ replicated p = s.sorted in
    let kept : with_sorts u.scope p ≡ p = cc in
    record { path = s.path ++ 1 ∷ []; sound = λ x h. s.sound x (tail _ _ x h); sorted = kept }

pub sound_behind : (g : Sig) (u : Above) (a : Action) (p : Proc) → IsSoundFrom g u (act a p) → IsSoundFrom g (scope_below u (act a p) 1) p
sound_behind g u a p s =
    let e : act (binding_fresh (action_instance (by_binder (u.scope ++ bound_by u.scope a)) a)) (with_sorts (u.scope ++ bound_by u.scope a) p) ≡ act a p = s.sorted in
    let kept : with_sorts (u.scope ++ bound_by u.scope a) p ≡ p = cc in
    record { path = s.path ++ 1 ∷ []; sound = λ x h. s.sound x (tail _ _ x h); sorted = kept }

pub sound_then : (g : Sig) (u : Above) (t v : Tree) (p q : Proc) → IsSoundFrom g u (test t v p q) → IsSoundFrom g u p
sound_then g u t v p q s =
    let e : test (instance (by_binder u.scope) t) (instance (by_binder u.scope) v) (with_sorts u.scope p) (with_sorts u.scope q) ≡ test t v p q = s.sorted in
    let kept : with_sorts u.scope p ≡ p = cc in
    record { path = s.path ++ 1 ∷ []; sound = λ x h. s.sound x (tail _ _ x (Contains-append_left _ _ x h)); sorted = kept }

pub sound_else : (g : Sig) (u : Above) (t v : Tree) (p q : Proc) → IsSoundFrom g u (test t v p q) → IsSoundFrom g u q
sound_else g u t v p q s =
    let e : test (instance (by_binder u.scope) t) (instance (by_binder u.scope) v) (with_sorts u.scope p) (with_sorts u.scope q) ≡ test t v p q = s.sorted in
    let kept : with_sorts u.scope q ≡ q = cc in
    record { path = s.path ++ 2 ∷ []; sound = λ x h. s.sound x (tail _ _ x (Contains-append_right _ _ x h)); sorted = kept }

pub sound_found : (g : Sig) (u : Above) (t : Tree) (v : Var) (p q : Proc) → IsSoundFrom g u (lookup t v p q) → IsSoundFrom g (scope_below u (lookup t v p q) 1) p
sound_found g u t v p q s =
    let e : lookup (instance (by_binder u.scope) t) (message_var v) (with_sorts (u.scope ++ message_var v ∷ []) p) (with_sorts u.scope q) ≡ lookup t v p q = s.sorted in
    let kept : with_sorts (u.scope ++ message_var v ∷ []) p ≡ p = cc in
    record { path = s.path ++ 1 ∷ []; sound = λ x h. s.sound x (tail _ _ x (Contains-append_left _ _ x h)); sorted = kept }

pub sound_missing : (g : Sig) (u : Above) (t : Tree) (v : Var) (p q : Proc) → IsSoundFrom g u (lookup t v p q) → IsSoundFrom g u q
sound_missing g u t v p q s =
    let e : lookup (instance (by_binder u.scope) t) (message_var v) (with_sorts (u.scope ++ message_var v ∷ []) p) (with_sorts u.scope q) ≡ lookup t v p q = s.sorted in
    let kept : with_sorts u.scope q ≡ q = cc in
    record { path = s.path ++ 2 ∷ []; sound = λ x h. s.sound x (tail _ _ x (Contains-append_right _ _ x h)); sorted = kept }
