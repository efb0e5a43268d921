-- What is told of a name's binder, and that there is one where a flaw speaks of the name.
use Rattle.std.proofs.Common.{◌≡◌, ℕ, ◌-◌, ◌^◌, List, [], ◌∷◌, ◌++◌, Bool, true, false, Option, Some, None, inl, inr, arith, refl, sym, ap, subst, ◌∙◌}
use Rattle.std.specs.Prelude.{◌⊎◌, ◌||◌, if◌then◌else◌, min, slice_get}
use Rattle.std.specs.Str.{bytes_eq}
use Rattle.sap_terms.specs.Signature.{Sig}
use Rattle.sap_terms.specs.Variables.{is_known}
use Rattle.sap_terms.specs.declared.var.Var.{Var}
use Rattle.sap_terms.proofs.PlainLaws.Known.{clash}
use Rattle.sap_process.specs.Flaws.{binder_of, scope_at}
use Rattle.sap_process.specs.Proc.{Proc, nil, parallel, replicated, act, test, lookup}
use Rattle.sap_process.specs.Sites.{Above, Site, above_of, message_var, scope_below, sites_in, var_names}
use Rattle.sap_process.specs.declared.flaw.Flaw.{Flaw}
use Rattle.sap_process.specs.declared.flaw.Flaw.TheVariants.{Rebound, SortClash}
use Rattle.sap_nodes.specs.FlawNodes.{IsNodeOf, IsOtherSignNode, IsReboundNode}
use Rattle.sap_nodes.specs.FullScope.{IsNamed}
use Rattle.sap_nodes.specs.HeadNodes.{Node, binder, variable, public, fresh, symbol, fact, head_nodes}
use Rattle.sap_other_nodes.specs.OtherBinders.{HasName, IsBinderOf, IsBinderTold, IsBoundOn, IsOfBinding, on_the_way, outer}
use Rattle.sap_other_nodes.specs.code.Binders.{IsBinderFound, name_at, named_by, process_down}
use Rattle.sap_other_nodes.specs.code.Seeks.{name_of}
use Rattle.sap_other_nodes.specs.declared.other_binder.Binder.{Binder}
use Rattle.sap_other_nodes.specs.declared.other_binder.Binder.TheVariants.{On, Outer}
use Rattle.sap_other_nodes.specs.declared.other_binder.OtherNode.{OtherNode}
use Rattle.sap_other_nodes.proofs.BinderWays.{PathLaw, body_there, one_bound, site_there, way_known}

some_one : {A : Type 0} (x y : A) → ◌≡◌ {A = Option A} (Some x) (Some y) → x ≡ y
some_one x y e = cc

some_none : {A : Type 0} {B : Type 0} (x : A) → ◌≡◌ {A = Option A} (Some x) None → B
some_none x e = absurd (cc (e))

-- ---- names of nodes

is_named : (m : Node) (n : List ℕ) → name_of m ≡ Some n → IsNamed n m
is_named (binder v) n e = some_one v.name n e
is_named (variable v) n e = some_one v.name n e
is_named (public k) n e = cc (e)
is_named (fresh k) n e = cc (e)
is_named (symbol a f k) n e = cc (e)
is_named (fact a f) n e = cc (e)

its_name : (m : Node) (n : List ℕ) → IsNamed n m → name_of m ≡ Some n
its_name (binder v) n h = ap (λ (x : List ℕ). Some x) h
its_name (variable v) n h = ap (λ (x : List ℕ). Some x) h
its_name (public k) n h = absurd h
its_name (fresh k) n h = absurd h
its_name (symbol a f k) n h = absurd h
its_name (fact a f) n h = absurd h

name_there : (p : Proc) (k : ℕ) (n : List ℕ) → HasName p k n → name_at p k ≡ Some n
name_there p k n h = ap named_by h.stands ∙ its_name h.node n h.named

pub has_name : (p : Proc) (k : ℕ) (n : List ℕ) → name_at p k ≡ Some n → HasName p k n
has_name p k n e = by (slice_get (head_nodes p) k) refl e where
  by : (o : Option Node) → slice_get (head_nodes p) k ≡ o → named_by o ≡ Some n → HasName p k n
  by None s h = cc (h)
  by (Some m) s h = record { node = m; stands = s; named = is_named m n h }

pub one_name_at : (p : Proc) (k : ℕ) (m n : List ℕ) → HasName p k m → HasName p k n → m ≡ n
one_name_at p k m n a b = some_one m n (sym (name_there p k m a) ∙ name_there p k n b)

-- ---- what is told

module _ (scope : List Var) (p : Proc) (s : Site) (k : ℕ) (n : List ℕ) (has : HasName s.body k n) where
  -- none of this name
  none_told : is_known (var_names scope) n ≡ false → ((d j : ℕ) → IsBoundOn p (s.path ++ 1 ∷ []) n d j → ⊥) → (b : Binder) → IsBinderOf scope p s k b → ⊥
  none_told unknown none _ (outer {n = m} has_it known) =
      clash (is_known (var_names scope) m) known (subst (λ x. is_known (var_names scope) x ≡ false) (one_name_at s.body k n m has has_it) unknown)
  none_told unknown none _ (on_the_way {n = m} {f = f} {j = j} has_it out bound at) =
      none f.depth j (subst (λ x. IsBoundOn p (s.path ++ 1 ∷ []) x f.depth j) (sym (one_name_at s.body k n m has has_it)) bound)

  pub told_so : (o : Option Binder) → IsBinderFound scope p s.path n o → IsBinderTold scope p s k o
  told_so None h = none_told h.0 h.1
  told_so (Some Outer) h = outer has h
  told_so (Some (On f)) h = on_the_way has h.0 h.2 h.3

  pub some_binder : is_known (var_names scope) n ≡ true ⊎ ((d : ℕ) × (j : ℕ) × IsBoundOn p (s.path ++ 1 ∷ []) n d j) → (b : Binder) × IsBinderOf scope p s k b
  some_binder (inl known) = (Outer, outer has known)
  some_binder (inr h) = by (is_known (var_names scope) n) refl where
    by : (b : Bool) → is_known (var_names scope) n ≡ b → (b : Binder) × IsBinderOf scope p s k b
    by true e = (Outer, outer has e)
    by false e = (On (record { depth = h.0; node = min h.1 (2 ^ 64 - 1) }), on_the_way has e h.2 refl)

pub told_at : PathLaw → (scope : List Var) (p q : Proc) (path : List ℕ) (k : ℕ) (n : List ℕ) → process_down (Some p) path ≡ Some q → name_at q k ≡ Some n → (o : Option Binder)
    → IsBinderFound scope p path n o → (i : ℕ) (s : Site) → slice_get (sites_in scope p) i ≡ Some s → s.path ≡ path → IsBinderTold scope p s k o
told_at law scope p q path k n at name o h i s there is =
    let body : s.body ≡ q = some_one s.body q (sym (body_there law scope p i s there) ∙ ap (process_down (Some p)) is ∙ at) in
    let has : HasName s.body k n = has_name s.body k n (ap (λ (y : Proc). name_at y k) body ∙ name) in
    told_so scope p s k n has o (subst (λ v. IsBinderFound scope p v n o) (sym is) h)

pub told_nameless : PathLaw → (scope : List Var) (p q : Proc) (path : List ℕ) (k : ℕ) → process_down (Some p) path ≡ Some q → name_at q k ≡ None
    → (i : ℕ) (s : Site) → slice_get (sites_in scope p) i ≡ Some s → s.path ≡ path → (b : Binder) → IsBinderOf scope p s k b → ⊥
told_nameless law scope p q path k at name i s there is b h =
    let body : s.body ≡ q = some_one s.body q (sym (body_there law scope p i s there) ∙ ap (process_down (Some p)) is ∙ at) in
    by body b h
  where
    no_name : (m : List ℕ) → s.body ≡ q → HasName s.body k m → ⊥
    no_name m body has = some_none m (sym (name_there s.body k m has) ∙ ap (λ (y : Proc). name_at y k) body ∙ name)

    by : s.body ≡ q → (b : Binder) → IsBinderOf scope p s k b → ⊥
    by body _ (outer {n = m} has known) = no_name m body has
    by body _ (on_the_way {n = m} has out bound at) = no_name m body has

pub told_nowhere : PathLaw → (scope : List Var) (p : Proc) (path : List ℕ) → process_down (Some p) path ≡ None → (i : ℕ) (s : Site) → slice_get (sites_in scope p) i ≡ Some s → s.path ≡ path → ⊥
told_nowhere law scope p path at i s there is = some_none s.body (sym (body_there law scope p i s there) ∙ ap (process_down (Some p)) is ∙ at)

-- the number that is told is the node's own, where it isn't the greatest
pub exact_node : (n j : ℕ) → (n ≡ 2 ^ 64 - 1 → ⊥) → n ≡ min j (2 ^ 64 - 1) → j ≡ n
exact_node n j small e = omega (arith, small, e)

-- ---- laws

pub one_binder_of : (scope : List Var) (p : Proc) (s : Site) (k : ℕ) (b c : Binder) → IsBinderOf scope p s k b → IsBinderOf scope p s k c → b ≡ c
one_binder_of scope p s k _ _ (outer has known) (outer had too) = refl
one_binder_of scope p s k _ _ (outer {n = n} has known) (on_the_way {n = m} had out bound at) =
    clash (is_known (var_names scope) m) (subst (λ x. is_known (var_names scope) x ≡ true) (one_name_at s.body k n m has had) known) out
one_binder_of scope p s k _ _ (on_the_way {n = n} has out bound at) (outer {n = m} had known) =
    clash (is_known (var_names scope) n) (subst (λ x. is_known (var_names scope) x ≡ true) (one_name_at s.body k m n had has) known) out
one_binder_of scope p s k _ _ (on_the_way {n = n} {f = f} {j = j} has out bound at) (on_the_way {n = m} {f = g} {j = l} had gone too is) =
    let one = one_bound (s.path ++ 1 ∷ []) p m f.depth g.depth j l (subst (λ x. IsBoundOn p (s.path ++ 1 ∷ []) x f.depth j) (one_name_at s.body k n m has had) bound) too in
    ap (λ (x : OtherNode). On x) (same_node f g one.0 (at ∙ ap (λ i. min i (2 ^ 64 - 1)) one.1 ∙ sym is))
  where
    same_node : (f g : OtherNode) → f.depth ≡ g.depth → f.node ≡ g.node → f ≡ g
    same_node f g d e = λ i. record { depth = d i; node = e i }

-- a name in scope through the head of a place is in scope at the root, or bound on the way
pub in_scope_so : PathLaw → (scope : List Var) (p : Proc) (i : ℕ) (s : Site) (n : List ℕ) → slice_get (sites_in scope p) i ≡ Some s → is_known (var_names (scope_below s.above s.body 1).scope) n ≡ true
    → is_known (var_names scope) n ≡ true ⊎ ((d : ℕ) × (j : ℕ) × IsBoundOn p (s.path ++ 1 ∷ []) n d j)
in_scope_so law scope p i s n there known = by (is_known (var_names scope) n) refl where
  by : (b : Bool) → is_known (var_names scope) n ≡ b → is_known (var_names scope) n ≡ true ⊎ ((d : ℕ) × (j : ℕ) × IsBoundOn p (s.path ++ 1 ∷ []) n d j)
  by true e = inl e
  by false e = inr (way_known s.path [] (above_of scope 0) p n s (site_there law scope p i s there) e known)

-- what is known stays so
known_more : (us vs : List Var) (n : List ℕ) → is_known (var_names us) n ≡ true → is_known (var_names (us ++ vs)) n ≡ true
known_more [] vs n h = cc (h)
known_more (u ∷ us) vs n h = by (bytes_eq u.name n) (known_more us vs n) h where
  by : (b : Bool) → (is_known (var_names us) n ≡ true → is_known (var_names (us ++ vs)) n ≡ true) → (b || is_known (var_names us) n) ≡ true
      → (b || is_known (var_names (us ++ vs)) n) ≡ true
  by true ih k = refl
  by false ih k = ih k

known_below : (a : Above) (p : Proc) (n : List ℕ) → is_known (var_names a.scope) n ≡ true → is_known (var_names (scope_below a p 1).scope) n ≡ true
known_below a nil n h = h
known_below a (parallel p q) n h = h
known_below a (replicated p) n h = h
known_below a (act x p) n h = known_more a.scope _ n h
known_below a (test t u p q) n h = h
known_below a (lookup t x p q) n h = known_more a.scope (message_var x ∷ []) n h

found_known : (vs : List Var) (n : List ℕ) (v : Var) → binder_of vs n ≡ Some v → is_known (var_names vs) n ≡ true
found_known [] n v e = cc (e)
found_known (w ∷ ws) n v e = by (bytes_eq w.name n) (found_known ws n v) e where
  by : (b : Bool) → (binder_of ws n ≡ Some v → is_known (var_names ws) n ≡ true) → (if b then Some w else binder_of ws n) ≡ Some v → (b || is_known (var_names ws) n) ≡ true
  by true ih h = refl
  by false ih h = ih h

known_at : (a : Above) (p : Proc) (n : List ℕ) → is_known (var_names (scope_at a.scope p)) n ≡ true → is_known (var_names (scope_below a p 1).scope) n ≡ true
known_at a nil n h = h
known_at a (parallel p q) n h = h
known_at a (replicated p) n h = h
known_at a (act x p) n h = h
known_at a (test t u p q) n h = h
known_at a (lookup t x p q) n h = known_more a.scope (message_var x ∷ []) n h

abbrev Spoken : Site → Node → Type 0
Spoken s m = (n : List ℕ) × IsNamed n m × (is_known (var_names (scope_below s.above s.body 1).scope) n ≡ true)

rebound_name : (s : Site) (m : Node) → IsReboundNode s m → Spoken s m
rebound_name s (binder v) h = (v.name, refl, known_below s.above s.body v.name h)
rebound_name s (variable v) h = absurd h
rebound_name s (public k) h = absurd h
rebound_name s (fresh k) h = absurd h
rebound_name s (symbol a f k) h = absurd h
rebound_name s (fact a f) h = absurd h

signed_name : (s : Site) (m : Node) → IsOtherSignNode s m → Spoken s m
signed_name s (variable v) h = (v.name, refl, known_at s.above s.body v.name (found_known (scope_at s.above.scope s.body) v.name h.bound h.binder))
signed_name s (binder v) h = absurd h
signed_name s (public k) h = absurd h
signed_name s (fresh k) h = absurd h
signed_name s (symbol a f k) h = absurd h
signed_name s (fact a f) h = absurd h

pub flaw_binder : PathLaw → (g : Sig) (before : List Site) (scope : List Var) (p : Proc) (i : ℕ) (s : Site) (w : Flaw) (k : ℕ) → slice_get (sites_in scope p) i ≡ Some s → IsOfBinding w
    → IsNodeOf g before s w k → (b : Binder) × IsBinderOf scope p s k b
flaw_binder law g before scope p i s Rebound k there of h =
    let r = rebound_name s h.here.node h.here.flaw in
    some_binder scope p s k r.0 (record { node = h.here.node; stands = h.here.stands; named = r.1 }) (in_scope_so law scope p i s r.0 there r.2)
flaw_binder law g before scope p i s SortClash k there of h =
    let r = signed_name s h.here.node h.here.flaw in
    some_binder scope p s k r.0 (record { node = h.here.node; stands = h.here.stands; named = r.1 }) (in_scope_so law scope p i s r.0 there r.2)
flaw_binder law g before scope p i s _ k there of h = absurd of
