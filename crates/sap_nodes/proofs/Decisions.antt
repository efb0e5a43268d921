-- Whether a node has a flaw is decided.
use Rattle.std.proofs.Common.{◌≡◌, ℕ, List, [], ◌∷◌, ◌++◌, Bool, true, false, Option, Some, None, inl, inr, refl, sym, ap, subst, ◌∙◌, length}
use Rattle.std.specs.Prelude.{◌⊎◌, Contains, codes, nat_eq, slice_get, take}
use Rattle.std.specs.List.{flat_map, starts_with}
use Rattle.std.specs.Str.{bytes_eq}
use Rattle.std.proofs.lemmas.Bool.Decides.{Decides-eqb}
use Rattle.sap_terms.specs.Reserved.{is_reserved}
use Rattle.sap_terms.specs.Signature.{Sig, arity_of, is_destructor_of}
use Rattle.sap_terms.specs.Variables.{is_known}
use Rattle.sap_terms.specs.declared.fact.Fact.{Fact}
use Rattle.sap_terms.specs.declared.var.Sort.{Sort}
use Rattle.sap_terms.specs.declared.var.Sort.TheVariants.{Msg, Fresh, Pub}
use Rattle.sap_terms.specs.declared.var.Var.{Var}
use Rattle.sap_terms.proofs.PlainLaws.Items.{first_item, later_item, cons_cases}
use Rattle.sap_terms.proofs.PlainLaws.Known.{one_name, own_name}
use Rattle.sap_process.specs.Flaws.{HasOtherArity, HasOtherForm, unbound, scope_at, binder_of}
use Rattle.sap_process.specs.Heads.{stored_facts, shown_facts}
use Rattle.sap_process.specs.Sites.{Site, var_names}
use Rattle.sap_process.specs.declared.flaw.Flaw.{Flaw}
use Rattle.sap_process.specs.declared.flaw.Flaw.TheVariants.{BadFunction, ReservedVar, ReservedFact, FactClash, PatternDestructor, Unbound, Rebound, SortClash, ScopeFull}
use Rattle.sap_nodes.specs.HeadNodes.{Node, binder, variable, public, fresh, symbol, fact, head_nodes}
use Rattle.sap_nodes.specs.FlawNodes.{IsBadNode, IsReservedVarNode, IsReservedFactNode, Differs, stored_of, shown_of, IsClashingNode, IsDestructorNode, IsUnboundNode, IsReboundNode, HasOtherSign, IsOtherSignNode, IsFlawedNode, IsFlawedAt}
use Rattle.sap_nodes.specs.declared.part.Part.TheVariants.{Pattern, Shown, Given}
use Rattle.sap_nodes.proofs.HeadMembers.{none_of}

-- it is so, or isn't
abbrev pub Decided : Type 0 → Type 0
Decided P = P ⊎ (P → ⊥)

never : Decided ⊥
never = inr (λ h. h)

opposite : (P : Type 0) → Decided P → Decided (¬ P)
opposite P (inl h) = inr (λ refuted. refuted h)
opposite P (inr refuted) = inl refuted

both : (P Q : Type 0) → Decided P → Decided Q → Decided (P × Q)
both P Q (inl p) (inl q) = inl (p, q)
both P Q (inl p) (inr refuted) = inr (λ h. refuted h.1)
both P Q (inr refuted) d = inr (λ h. refuted h.0)

either : (P Q : Type 0) → Decided P → Decided Q → Decided (P ⊎ Q)
either P Q (inl p) d = inl (inl p)
either P Q (inr refuted) (inl q) = inl (inr q)
either P Q (inr refuted) (inr nor) = inr by where
  by : P ⊎ Q → ⊥
  by (inl p) = refuted p
  by (inr q) = nor q

true_or_not : (b : Bool) → Decided (b ≡ true)
true_or_not true = inl refl
true_or_not false = inr (λ h. cc)

-- by a test that tells it
by_test : (P : Type 0) (b : Bool) → (b ≡ true → P) → (P → b ≡ true) → Decided P
by_test P b sound complete = by (true_or_not b) where
  by : Decided (b ≡ true) → Decided P
  by (inl e) = inl (sound e)
  by (inr refuted) = inr (λ h. refuted (complete h))

numbers : (m n : ℕ) → Decided (m ≡ n)
numbers m n = by_test (m ≡ n) (nat_eq m n) (Decides-eqb m n).0 (Decides-eqb m n).1

names : (m n : List ℕ) → Decided (m ≡ n)
names m n = by_test (m ≡ n) (bytes_eq m n) (one_name m n) (λ e. subst (λ k. bytes_eq m k ≡ true) e (own_name m))

pub arities : (o : Option ℕ) (n : ℕ) → Decided (o ≡ Some n)
arities None n = inr (λ h. cc)
arities (Some m) n = by (numbers m n) where
  by : Decided (m ≡ n) → Decided (Some m ≡ Some n)
  by (inl e) = inl (ap Some e)
  by (inr refuted) = inr (λ h. refuted cc)

sorts : (s t : Sort) → Decided (s ≡ t)
sorts Msg Msg = inl refl
sorts Fresh Fresh = inl refl
sorts Pub Pub = inl refl
sorts _ _ = inr (λ h. cc)

bools : (a b : Bool) → Decided (a ≡ b)
bools true true = inl refl
bools false false = inl refl
bools _ _ = inr (λ h. cc)

vars : (v w : Var) → Decided (v ≡ w)
vars v w = by (names v.name w.name) (sorts v.sort w.sort) where
  by : Decided (v.name ≡ w.name) → Decided (v.sort ≡ w.sort) → Decided (v ≡ w)
  by (inl e) (inl d) = inl (λ i. record { name = e i; sort = d i })
  by (inl e) (inr refuted) = inr (λ h. refuted (ap (λ (z : Var). z.sort) h))
  by (inr refuted) d = inr (λ h. refuted (ap (λ (z : Var). z.name) h))

-- one of these is such
any_such : {X : Type 0} (P : X → Type 0) → ((x : X) → Decided (P x)) → (xs : List X) → Decided ((x : X) × Contains xs x × P x)
any_such P d [] = inr (λ h. none_of h.0 h.1)
any_such {X} P d (x ∷ xs) = by (d x) (any_such P d xs) where
  here : (P x → ⊥) → (((y : X) × Contains xs y × P y) → ⊥) → ((y : X) × Contains (x ∷ xs) y × P y) → ⊥
  here refuted nothing h =
      elim (cons_cases x xs h.0 h.1) as (λ _. ⊥) [ inl e ↦ refuted (subst P (sym e) h.2) | inr k ↦ nothing (h.0, k, h.2) ]

  by : Decided (P x) → Decided ((y : X) × Contains xs y × P y) → Decided ((y : X) × Contains (x ∷ xs) y × P y)
  by (inl h) later = inl (x, first_item x xs, h)
  by (inr refuted) (inl h) = inl (h.0, later_item x xs h.0 h.1, h.2)
  by (inr refuted) (inr nothing) = inr (here refuted nothing)

-- the variable is one of these
contained : (vs : List Var) (v : Var) → Decided (Contains vs v)
contained vs v = by (any_such (λ w. w ≡ v) (λ w. vars w v) vs) where
  by : Decided ((w : Var) × Contains vs w × (w ≡ v)) → Decided (Contains vs v)
  by (inl h) = inl (subst (Contains vs) h.2 h.1)
  by (inr refuted) = inr (λ c. refuted (v, c, refl))

differing : (differ : Fact → Fact → Type 0) → ((x y : Fact) → Decided (differ x y)) → (earlier : List Fact) (f : Fact) → Decided (Differs differ earlier f)
differing differ d earlier f =
    by (any_such (λ (x : Fact). (x.name ≡ f.name) × differ x f) (λ (x : Fact). both (x.name ≡ f.name) (differ x f) (names x.name f.name) (d x f)) earlier)
  where
    by : Decided ((x : Fact) × Contains earlier x × ((x.name ≡ f.name) × differ x f)) → Decided (Differs differ earlier f)
    by (inl h) = inl (record { other = h.0; stands = h.1; name = h.2.0; differs = h.2.1 })
    by (inr refuted) = inr (λ r. refuted (r.other, r.stands, (r.name, r.differs)))

other_arity : (x y : Fact) → Decided (HasOtherArity x y)
other_arity x y = opposite (length x.args ≡ length y.args) (numbers (length x.args) (length y.args))

other_form : (x y : Fact) → Decided (HasOtherForm x y)
other_form x y = either (HasOtherArity x y) (¬ (x.persistent ≡ y.persistent)) (other_arity x y) (opposite (x.persistent ≡ y.persistent) (bools x.persistent y.persistent))

some_one : (x y : Var) → Some x ≡ Some y → x ≡ y
some_one x y e = cc

some_none : (x : Var) → None ≡ Some x → ⊥
some_none x e = cc

other_sign : (scope : List Var) (v : Var) → Decided (HasOtherSign scope v)
other_sign scope v = by (sorts v.sort Msg) (binder_of scope v.name) refl where
  known : ¬ (v.sort ≡ Msg) → (b : Var) → binder_of scope v.name ≡ Some b → Decided (b.sort ≡ v.sort) → Decided (HasOtherSign scope v)
  known signed b e (inl same) = inr (λ h. h.other (sym (ap (λ (z : Var). z.sort) (some_one b h.bound (sym e ∙ h.binder))) ∙ same))
  known signed b e (inr refuted) = inl (record { signed = signed; bound = b; binder = e; other = refuted })

  by : Decided (v.sort ≡ Msg) → (o : Option Var) → binder_of scope v.name ≡ o → Decided (HasOtherSign scope v)
  by (inl plain) o e = inr (λ h. h.signed plain)
  by (inr signed) None e = inr (λ h. some_none h.bound (sym e ∙ h.binder))
  by (inr signed) (Some b) e = known signed b e (sorts b.sort v.sort)

-- of nodes

bad : (g : Sig) (n : Node) → Decided (IsBadNode g n)
bad g (symbol a f k) = opposite (arity_of g f ≡ Some k) (arities (arity_of g f) k)
bad g (binder v) = both (v.sort ≡ Msg) (arity_of g v.name ≡ Some 0) (sorts v.sort Msg) (arities (arity_of g v.name) 0)
bad g (variable v) = never
bad g (public n) = never
bad g (fresh k) = never
bad g (fact a f) = never

reserved_var : (n : Node) → Decided (IsReservedVarNode n)
reserved_var (variable v) = true_or_not (starts_with nat_eq v.name (codes "sapic_"))
reserved_var (binder v) = true_or_not (starts_with nat_eq v.name (codes "sapic_"))
reserved_var (symbol a f k) = never
reserved_var (public n) = never
reserved_var (fresh k) = never
reserved_var (fact a f) = never

reserved_fact : (n : Node) → Decided (IsReservedFactNode n)
reserved_fact (fact a f) = true_or_not (is_reserved f.name)
reserved_fact (variable v) = never
reserved_fact (binder v) = never
reserved_fact (symbol a f k) = never
reserved_fact (public n) = never
reserved_fact (fresh k) = never

clashing : (before : List Site) (front : List Node) (n : Node) → Decided (IsClashingNode before front n)
clashing before front (fact Shown f) =
    differing HasOtherArity other_arity (flat_map (λ (b : Site). shown_facts b.body) before ++ flat_map shown_of front) f
clashing before front (fact Pattern f) =
    differing HasOtherForm other_form (flat_map (λ (b : Site). stored_facts b.body) before ++ flat_map stored_of front) f
clashing before front (fact Given f) =
    differing HasOtherForm other_form (flat_map (λ (b : Site). stored_facts b.body) before ++ flat_map stored_of front) f
clashing before front (variable v) = never
clashing before front (binder v) = never
clashing before front (symbol a f k) = never
clashing before front (public n) = never
clashing before front (fresh k) = never

destructor : (g : Sig) (n : Node) → Decided (IsDestructorNode g n)
destructor g (symbol Pattern f k) = true_or_not (is_destructor_of g f)
destructor g (symbol Shown f k) = never
destructor g (symbol Given f k) = never
destructor g (fact a f) = never
destructor g (variable v) = never
destructor g (binder v) = never
destructor g (public n) = never
destructor g (fresh k) = never

not_bound : (s : Site) (n : Node) → Decided (IsUnboundNode s n)
not_bound s (variable v) = contained (unbound s.above.scope s.body) v
not_bound s (symbol a f k) = never
not_bound s (fact a f) = never
not_bound s (binder v) = never
not_bound s (public n) = never
not_bound s (fresh k) = never

rebound : (s : Site) (n : Node) → Decided (IsReboundNode s n)
rebound s (binder v) = true_or_not (is_known (var_names s.above.scope) v.name)
rebound s (variable v) = never
rebound s (symbol a f k) = never
rebound s (fact a f) = never
rebound s (public n) = never
rebound s (fresh k) = never

other_signed : (s : Site) (n : Node) → Decided (IsOtherSignNode s n)
other_signed s (variable v) = other_sign (scope_at s.above.scope s.body) v
other_signed s (binder v) = never
other_signed s (symbol a f k) = never
other_signed s (fact a f) = never
other_signed s (public n) = never
other_signed s (fresh k) = never

flawed : (g : Sig) (before : List Site) (s : Site) (w : Flaw) (front : List Node) (n : Node) → Decided (IsFlawedNode g before s w front n)
flawed g before s BadFunction front n = bad g n
flawed g before s ReservedVar front n = reserved_var n
flawed g before s ReservedFact front n = reserved_fact n
flawed g before s FactClash front n = clashing before front n
flawed g before s PatternDestructor front n = destructor g n
flawed g before s Unbound front n = not_bound s n
flawed g before s Rebound front n = rebound s n
flawed g before s SortClash front n = other_signed s n
flawed g before s ScopeFull front n = never

one_of_these : (x y : Node) → Some x ≡ Some y → x ≡ y
one_of_these x y e = cc

none_of_these : (x : Node) → None ≡ Some x → ⊥
none_of_these x e = cc

-- node k has the flaw or doesn't
pub flawed_at : (g : Sig) (before : List Site) (s : Site) (w : Flaw) (k : ℕ) → Decided (IsFlawedAt g before s w k)
flawed_at g before s w k = by (slice_get (head_nodes s.body) k) refl where
  there : (n : Node) → slice_get (head_nodes s.body) k ≡ Some n → Decided (IsFlawedNode g before s w (take k (head_nodes s.body)) n)
      → Decided (IsFlawedAt g before s w k)
  there n e (inl h) = inl (record { node = n; stands = e; flaw = h })
  there n e (inr refuted) = inr (λ h. refuted (subst (IsFlawedNode g before s w (take k (head_nodes s.body))) (one_of_these h.node n (sym h.stands ∙ e)) h.flaw))

  by : (o : Option Node) → slice_get (head_nodes s.body) k ≡ o → Decided (IsFlawedAt g before s w k)
  by None e = inr (λ h. none_of_these h.node (sym e ∙ h.stands))
  by (Some n) e = there n e (flawed g before s w (take k (head_nodes s.body)) n)
