-- A process without flaws has none at its head, nor at the heads of its parts.
use Rattle.sap_translate.specs.Members.{Member}
use Rattle.std.proofs.Common.{◌≡◌, ℕ, suc, inl, subst, None, Option, nat_eq, length, List, [], ◌∷◌, ◌++◌, Some, refl, Bool, true, false, ◌||◌, slice_get}
use Rattle.std.specs.List.{list_any}
use Rattle.sap_terms.specs.Signature.{Sig, arity_of}
use Rattle.sap_terms.specs.Message.{IsOver, AreOver}
use Rattle.sap_terms.specs.TermTests.{has_arity, is_over, are_over}
use Rattle.sap_terms.specs.Tree.{Tree, variable, public, fresh, apply, Trees, none, more, list_of, trees_of}
use Rattle.sap_terms.specs.Variables.{is_known}
use Rattle.sap_terms.proofs.PlainLaws.Tests.{and_true}
use Rattle.std.specs.Option.{option_map_or}
use Rattle.sap_translate.specs.relation.Names.{is_reserved_var, is_reserved_fact, has_items, rebinds}
use Rattle.sap_translate.proofs.Shared.Facts.{eq_self}
use Rattle.sap_translate.proofs.Terms.Derive.{contains}
use Rattle.sap_terms.specs.declared.var.Var.{Var}
use Rattle.sap_process.specs.Flaws.{IsWellFormed, unbound}
use Rattle.sap_process.specs.Heads.{head_terms, head_vars, binder, stored_facts, shown_facts}
use Rattle.sap_process.specs.Proc as whole
use Rattle.sap_process.specs.Proc.{Proc, act}
use Rattle.sap_process.specs.Sites.{var_names, Site, above_of, sites, sites_from, bound_by, message_var}
use Rattle.sap_process.specs.Places.{place}
use Rattle.sap_process.specs.declared.flaw.Flaw.TheVariants.{BadFunction, ReservedVar, ReservedFact, Unbound, Rebound}
use Rattle.sap_translate.proofs.Shared.Lookups.{member_left, member_right}

-- the head has none of the flaws that the rules turn on
pub record IsClean (g : Sig) (v : List Var) (p : Proc) : Type 0 where
  pub over : are_over g (trees_of (head_terms p)) ≡ true
  pub names : list_any is_reserved_var (head_vars p) ≡ false
  pub facts : list_any is_reserved_fact (stored_facts p ++ shown_facts p) ≡ false
  pub bound : has_items (unbound v p) ≡ false
  pub once : rebinds v p ≡ false

-- nor have those of its parts
abbrev pub AllClean : Sig → List Var → Proc → Type 0
AllClean g v whole.nil = IsClean g v whole.nil
AllClean g v (whole.parallel p q) = IsClean g v (whole.parallel p q) × AllClean g v p × AllClean g v q
AllClean g v (whole.replicated p) = IsClean g v (whole.replicated p) × AllClean g v p
AllClean g v (act a p) = IsClean g v (act a p) × AllClean g (v ++ bound_by v a) p
AllClean g v (whole.test t u p q) = IsClean g v (whole.test t u p q) × AllClean g v p × AllClean g v q
AllClean g v (whole.lookup t x p q) = IsClean g v (whole.lookup t x p q) × AllClean g (v ++ message_var x ∷ []) p × AllClean g v q

was_false : (b : Bool) → (b ≡ true → ⊥) → b ≡ false
was_false true h = absurd (h refl)
was_false false h = refl

was_true : (b : Bool) → (b ≡ false → ⊥) → b ≡ true
was_true true h = refl
was_true false h = absurd (h refl)

both_false : (a b : Bool) → a ≡ false → b ≡ false → (a || b) ≡ false
both_false true b h k = absurd (let z : true ≡ false = h in cc)
both_false false b h k = k

arity_test : (o : Option ℕ) (n : ℕ) → o ≡ Some n → has_arity o n ≡ true
arity_test None n h = cc
arity_test (Some k) n h = let e : k ≡ n = cc in subst (λ (m : ℕ). nat_eq k m ≡ true) e (eq_self k)

-- a test that fails of each item fails of all
none_any : {A : Type 0} (f : A → Bool) (xs : List A) → ((x : A) → Member x xs → f x ≡ true → ⊥) → list_any f xs ≡ false
none_any f [] h = refl
none_any f (x ∷ xs) h = both_false (f x) (list_any f xs) (was_false (f x) (h x Member.here)) (none_any f xs (λ y m. h y (Member.later m)))

mutual
  over_test : (g : Sig) (t : Tree) → IsOver g t → is_over g t ≡ true
  over_test g (variable v) h = refl
  over_test g (public n) h = refl
  over_test g (fresh k) h = refl
  over_test g (apply f ts) h = and_true _ _ (arity_test (arity_of g f) (length (list_of ts)) h.0) (each_over_test g ts h.1)

  each_over_test : (g : Sig) (ts : Trees) → AreOver g ts → are_over g ts ≡ true
  each_over_test g none h = refl
  each_over_test g (more t ts) h = and_true _ _ (over_test g t h.0) (each_over_test g ts h.1)

all_over : (g : Sig) (ts : List Tree) → ((t : Tree) → Member t ts → is_over g t ≡ false → ⊥) → are_over g (trees_of ts) ≡ true
all_over g [] h = refl
all_over g (t ∷ ts) h = and_true _ _ (was_true (is_over g t) (h t Member.here)) (all_over g ts (λ u m. h u (Member.later m)))

no_items : {A : Type 0} (xs : List A) → ((¬ (xs ≡ [])) → ⊥) → has_items xs ≡ false
no_items [] h = refl
no_items (x ∷ xs) h = absurd (h (λ e. cc))

unmet : (f : Var → Bool) (o : Option Var) → ((x : Var) → o ≡ Some x → f x ≡ true → ⊥) → option_map_or f o false ≡ false
unmet f None h = refl
unmet f (Some x) h = was_false (f x) (h x refl)

clean_at : (g : Sig) (p : Proc) → IsWellFormed g p → (k : ℕ) (s : Site) → slice_get (sites p) k ≡ Some s → IsClean g s.above.scope s.body
clean_at g p fine k s e = record {
  over = all_over g (head_terms s.body) (λ t m no. fine BadFunction k (record { site = s; stands = e; flaw = inl (record { term = t; stands = contains m; bad = λ o. let yes : is_over g t ≡ true = over_test g t o in cc }) }));
  names = none_any is_reserved_var (head_vars s.body) (λ x m h. fine ReservedVar k (record { site = s; stands = e; flaw = record { var = x; stands = contains m; reserved = h } }));
  facts = none_any is_reserved_fact (stored_facts s.body ++ shown_facts s.body) (λ f m h. fine ReservedFact k (record { site = s; stands = e; flaw = record { fact = f; stands = contains m; reserved = h } }));
  bound = no_items (unbound s.above.scope s.body) (λ h. fine Unbound k (record { site = s; stands = e; flaw = h }));
  once = unmet (λ (x : Var). is_known (var_names s.above.scope) x.name) (binder s.body) (λ x is h. fine Rebound k (record { site = s; stands = e; flaw = record { var = x; stands = is; in_scope = h } }));
}

-- where a member of a list stands
pub member_place : {A : Type 0} {x : A} {xs : List A} → Member x xs → (k : ℕ) × (slice_get xs k ≡ Some x)
member_place Member.here = (0, refl)
member_place (Member.later m) = let h = member_place m in (suc h.0, h.1)

-- what holds of each place holds of the heads of all parts
spread : (g : Sig) (path : List ℕ) (v : List Var) (k : ℕ) (p : Proc) → ((s : Site) → Member s (sites_from path v k p) → IsClean g s.above.scope s.body) → AllClean g v p
spread g path v k whole.nil h = h (place path (above_of v k) (whole.nil)) Member.here
spread g path v k (whole.parallel p q) h = (
  h (place path (above_of v k) (whole.parallel p q)) Member.here,
  spread g (path ++ 1 ∷ []) v k p (λ s m. h s (Member.later (member_left (sites_from (path ++ 2 ∷ []) v k q) m))),
  spread g (path ++ 2 ∷ []) v k q (λ s m. h s (Member.later (member_right (sites_from (path ++ 1 ∷ []) v k p) m))),
)
spread g path v k (whole.replicated p) h = (
  h (place path (above_of v k) (whole.replicated p)) Member.here,
  spread g (path ++ 1 ∷ []) v k p (λ s m. h s (Member.later m)),
)
spread g path v k (act a p) h = (
  h (place path (above_of v k) (act a p)) Member.here,
  spread g (path ++ 1 ∷ []) (v ++ bound_by v a) _ p (λ s m. h s (Member.later m)),
)
spread g path v k (whole.test t u p q) h = (
  h (place path (above_of v k) (whole.test t u p q)) Member.here,
  spread g (path ++ 1 ∷ []) v k p (λ s m. h s (Member.later (member_left (sites_from (path ++ 2 ∷ []) v k q) m))),
  spread g (path ++ 2 ∷ []) v k q (λ s m. h s (Member.later (member_right (sites_from (path ++ 1 ∷ []) v k p) m))),
)
spread g path v k (whole.lookup t x p q) h = (
  h (place path (above_of v k) (whole.lookup t x p q)) Member.here,
  spread g (path ++ 1 ∷ []) (v ++ message_var x ∷ []) k p (λ s m. h s (Member.later (member_left (sites_from (path ++ 2 ∷ []) v k q) m))),
  spread g (path ++ 2 ∷ []) v k q (λ s m. h s (Member.later (member_right (sites_from (path ++ 1 ∷ []) (v ++ message_var x ∷ []) k p) m))),
)

pub all_clean : (g : Sig) (p : Proc) → IsWellFormed g p → AllClean g [] p
all_clean g p fine = spread g [] [] 0 p (λ s m. let h = member_place m in clean_at g p fine h.0 s h.1)
