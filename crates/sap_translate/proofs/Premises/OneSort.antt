-- At each place of a sound process no name is in scope with two sorts.
use Rattle.std.proofs.Common.{◌≡◌, List, [], ◌∷◌, ◌++◌, Some, Bool, true, false, ◌||◌, map, refl, sym, ap, subst, ◌∙◌}
use Rattle.std.specs.Str.{bytes_eq}
use Rattle.sap_terms.specs.Signature.{Sig}
use Rattle.sap_terms.specs.Variables.{is_known, new_vars, tree_vars, facts_vars}
use Rattle.sap_terms.specs.declared.var.Var.{Var}
use Rattle.sap_process.specs.Scopes.{lock_var, scope_behind}
use Rattle.sap_process.specs.Flaws.{binder_of}
use Rattle.sap_process.specs.Action as action
use Rattle.sap_process.specs.Action.{Action}
use Rattle.sap_process.specs.Proc.{Proc}
use Rattle.sap_process.specs.Sites.{var_names, fresh_var}
use Rattle.sap_translate.specs.Members.{Member}
use Rattle.sap_translate.specs.Scoped.{IsFree}
use Rattle.sap_translate.specs.Sound.{IsSoundAction}
use Rattle.sap_translate.proofs.Shared.Lookups.{member_cases, in_left, in_right, only_member, member_right}
use Rattle.sap_translate.proofs.Shared.Facts.{same_name_self}
use Rattle.sap_translate.proofs.Premises.Sorting.{sorted, sorted_is, sorted_new, has_binder, HasBinder}
use Rattle.sap_translate.proofs.Terms.Substitution.{new_free}

-- no name stands with two sorts
abbrev pub OneSort : List Var → Type 0
OneSort v = (x y : Var) → Member x v → Member y v → x.name ≡ y.name → x ≡ y

or_true : (a b : Bool) → b ≡ true → (a || b) ≡ true
or_true true b h = refl
or_true false b h = h

known_there : (v : List Var) (y : Var) → Member y v → is_known (var_names v) y.name ≡ true
known_there [] y m = elim m [ ]
known_there (z ∷ v) y m = at y m (known_there v y)
  where
    at : (x : Var) → Member x (z ∷ v) → (Member x v → is_known (var_names v) x.name ≡ true) → is_known (var_names (z ∷ v)) x.name ≡ true
    at x Member.here rest = ap (λ b. b || is_known (var_names v) x.name) (same_name_self x.name)
    at x (Member.later k) rest = or_true (bytes_eq z.name x.name) (is_known (var_names v) x.name) (rest k)

-- a free name is none of these
pub free_apart : (v : List Var) (x y : Var) → IsFree x v → Member y v → y.name ≡ x.name → ⊥
free_apart v x y free m e =
    let z : true ≡ false = sym (known_there v y m) ∙ ap (is_known (var_names v)) e ∙ free in
    cc

one_sort_both : (v ws : List Var) → OneSort v → OneSort ws → ((x : Var) → Member x ws → IsFree x v) → OneSort (v ++ ws)
one_sort_both v ws h k free x y m n e = elim (member_cases v ws m) [
  | in_left a ↦ elim (member_cases v ws n) [
    | in_left b ↦ h x y a b e
    | in_right b ↦ absurd (free_apart v y x (free y b) a e)
  ]
  | in_right a ↦ elim (member_cases v ws n) [
    | in_left b ↦ absurd (free_apart v x y (free x a) b (sym e))
    | in_right b ↦ k x y a b e
  ]
]

pub one_sort_more : (v : List Var) (x : Var) → IsFree x v → OneSort v → OneSort (v ++ x ∷ [])
one_sort_more v x free h = one_sort_both v (x ∷ []) h (λ a b m n e. only_member m ∙ sym (only_member n)) (λ a m. subst (λ z. IsFree z v) (sym (only_member m)) free)

fixed : (f : Var → Var) (xs : List Var) → map f xs ≡ xs → (x : Var) → Member x xs → f x ≡ x
fixed f [] h x m = elim m [ ]
fixed f (y ∷ xs) h x m = at x m (let one : f y ≡ y = cc in one) (fixed f xs (let rest : map f xs ≡ xs = cc in rest) x)
  where
    at : (z : Var) → Member z (y ∷ xs) → f y ≡ y → (Member z xs → f z ≡ z) → f z ≡ z
    at z Member.here one rest = one
    at z (Member.later k) one rest = rest k

new_ones : (v ws : List Var) → OneSort (new_vars (var_names v) ws)
new_ones v ws x y m n e =
    let ns : List Var = new_vars (var_names v) ws in
    let w : List Var = v ++ ns in
    let a : HasBinder w x.name = has_binder w x.name (known_there w x (member_right v m)) in
    let b : HasBinder w y.name = has_binder w y.name (known_there w y (member_right v n)) in
    let x_is : x ≡ a.binder = sym (fixed (sorted w) ns (sorted_new v ws) x m) ∙ sorted_is w x a in
    let y_is : y ≡ b.binder = sym (fixed (sorted w) ns (sorted_new v ws) y n) ∙ sorted_is w y b in
    let same : Some a.binder ≡ Some b.binder = sym a.found ∙ ap (λ k. binder_of w k) e ∙ b.found in
    x_is ∙ (let one : a.binder ≡ b.binder = cc in one) ∙ sym y_is

pub one_sort_new : (v ws : List Var) → OneSort v → OneSort (v ++ new_vars (var_names v) ws)
one_sort_new v ws h = one_sort_both v (new_vars (var_names v) ws) h (new_ones v ws) (new_free (var_names v) ws)

pub one_sort_behind : (g : Sig) (v : List Var) (a : Action) (p : Proc) → IsSoundAction g v a p → OneSort v → OneSort (scope_behind v a)
one_sort_behind g v (action.new x) p s h = one_sort_more v (fresh_var x) s h
one_sort_behind g v (action.out m) p s h = h
one_sort_behind g v (action.send m n) p s h = h
one_sort_behind g v (action.input m) p s h = one_sort_new v (tree_vars m) h
one_sort_behind g v (action.receive m n) p s h = one_sort_new v (tree_vars n) h
one_sort_behind g v (action.event f) p s h = h
one_sort_behind g v (action.insert m n) p s h = h
one_sort_behind g v (action.delete m) p s h = h
one_sort_behind g v (action.lock m i) p s h = one_sort_more v (lock_var i) s.1 h
one_sort_behind g v (action.unlock m i) p s h = h
one_sort_behind g v (action.embedded l e r) p s h = one_sort_new v (facts_vars (l ++ (e ++ r))) h
