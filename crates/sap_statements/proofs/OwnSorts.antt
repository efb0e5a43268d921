-- In a formula without a fault each sign is that of its binder, so that plain variables alone get another sort; and its symbols are
-- held.
use Rattle.std.proofs.Common.{◌≡◌, ℕ, Bool, List, [], ◌∷◌, ◌++◌, map, Option, Some, None, inl, inr, refl, ap, subst, ◌∙◌}
use Rattle.std.specs.Prelude.{◌⊎◌, slice_index_or}
use Rattle.std.specs.List.{AllByRecursion}
use Rattle.std.proofs.lemmas.List.Elements.{recursion_from_All}
use Rattle.std.proofs.lemmas.Option.{slice_get-get_or}
use Rattle.sap_terms.specs.declared.var.Sort.{Sort}
use Rattle.sap_terms.specs.declared.var.Sort.TheVariants.{Msg, Fresh, Pub}
use Rattle.sap_terms.specs.declared.var.Var.{Var}
use Rattle.sap_terms.specs.Choice.{instance, instances}
use Rattle.sap_terms.specs.Message.{IsOver, AreOver}
use Rattle.sap_terms.specs.Signature.{Sig}
use Rattle.sap_terms.specs.Tree.{Tree, variable, public, fresh, apply, Trees, none, more, trees_of}
use Rattle.sap_formula.specs.Form.{Form, truth, falsity, action, equal, same_time, earlier, negation, both, either, implies, equivalent, every, exists}
use Rattle.sap_formula.specs.Checked.{enter, find_binder, premise, IsCheckedTerm, AreCheckedTerms, IsChecked}
use Rattle.sap_formula.specs.Faults.{IsBound, HasFault, HasNoFault}
use Rattle.sap_formula.specs.Laws.{Allowed, CheckLaw}
use Rattle.sap_formula.specs.Parts.{Part, bound, term_parts, terms_parts, form_parts}
use Rattle.sap_formula.specs.Sorted.{sorted_as, by_binder, with_sorts}
use Rattle.sap_formula.specs.declared.binder.Binder.{Binder}
use Rattle.sap_formula.specs.declared.binder.Binder.TheVariants.{Message, Time}
use Rattle.sap_formula.specs.declared.fault.FormulaFlaw.TheVariants.{UnboundVar}
use Rattle.sap_statements.specs.Printable.{IsFormOver}
use Rattle.sap_statements.specs.Sorted.{sort_under, by_plain_binder, plainly_sorted}
use Rattle.sap_statements.proofs.Sorting.{form_over_before}

module _ {X : Type 0} (P : X → Type 0) where
  left : (xs ys : List X) → AllByRecursion P (xs ++ ys) → AllByRecursion P xs
  left [] ys h = tt
  left (x ∷ xs) ys h = (h.0, left xs ys h.1)

  right : (xs ys : List X) → AllByRecursion P (xs ++ ys) → AllByRecursion P ys
  right [] ys h = h
  right (x ∷ xs) ys h = right xs ys h.1

module _ (g : Sig) (r : Bool) where
  abbrev IsSound : Part → Type 0
  IsSound p = HasFault g r UnboundVar p → ⊥

  -- a sign other than its binder's is a fault
  clash : (scope : List Binder) (v b : Var) → ((IsBound scope v → ⊥) → ⊥) → find_binder scope v.name ≡ Some (Message b) → (v.sort ≡ Msg → ⊥) → (v.sort ≡ b.sort → ⊥) → ⊥
  clash scope v b h e signed other = h (λ k. by k k.sign)
    where
      by : (k : IsBound scope v) → (v.sort ≡ Msg) ⊎ (v.sort ≡ k.binder.sort) → ⊥
      by k (inl p) = signed p
      by k (inr s) = let there = k.innermost in let same : k.binder ≡ b = cc (there, e) in other (s ∙ ap (λ (u : Var). u.sort) same)

  own_sort : (scope : List Binder) (v : Var) → ((IsBound scope v → ⊥) → ⊥) → sorted_as (find_binder scope v.name) v ≡ record { name = v.name; sort = sort_under v.sort (find_binder scope v.name) }
  own_sort scope v h = by (find_binder scope v.name) refl
    where
      kept : (s : Sort) → v.sort ≡ s → v ≡ record { name = v.name; sort = sort_under s None }
      kept Msg e = λ i. record { name = v.name; sort = e i }
      kept Fresh e = λ i. record { name = v.name; sort = e i }
      kept Pub e = λ i. record { name = v.name; sort = e i }

      kept_time : (n : List ℕ) (s : Sort) → v.sort ≡ s → v ≡ record { name = v.name; sort = sort_under s (Some (Time n)) }
      kept_time n Msg e = λ i. record { name = v.name; sort = e i }
      kept_time n Fresh e = λ i. record { name = v.name; sort = e i }
      kept_time n Pub e = λ i. record { name = v.name; sort = e i }

      of_binder : (b : Var) → find_binder scope v.name ≡ Some (Message b) → (s t : Sort) → v.sort ≡ s → b.sort ≡ t → b.sort ≡ sort_under s (Some (Message b))
      of_binder b e Msg t p q = refl
      of_binder b e Fresh Msg p q = absurd (clash scope v b h e (λ m. cc (m, p)) (λ m. cc (m, p, q)))
      of_binder b e Fresh Fresh p q = q
      of_binder b e Fresh Pub p q = absurd (clash scope v b h e (λ m. cc (m, p)) (λ m. cc (m, p, q)))
      of_binder b e Pub Msg p q = absurd (clash scope v b h e (λ m. cc (m, p)) (λ m. cc (m, p, q)))
      of_binder b e Pub Fresh p q = absurd (clash scope v b h e (λ m. cc (m, p)) (λ m. cc (m, p, q)))
      of_binder b e Pub Pub p q = q

      by : (o : Option Binder) → find_binder scope v.name ≡ o → sorted_as o v ≡ record { name = v.name; sort = sort_under v.sort o }
      by None e = kept v.sort refl
      by (Some (Time n)) e = kept_time n v.sort refl
      by (Some (Message b)) e = λ i. record { name = v.name; sort = of_binder b e v.sort b.sort refl refl i }

  mutual
    term_sorts : (scope : List Binder) (t : Tree) → AllByRecursion IsSound (term_parts scope t) → instance (by_binder scope) t ≡ instance (by_plain_binder scope) t
    term_sorts scope (variable v) h = ap variable (own_sort scope v h.0)
    term_sorts scope (public n) h = refl
    term_sorts scope (fresh k) h = refl
    term_sorts scope (apply f ts) h = ap (apply f) (terms_sorts scope ts h.1)

    terms_sorts : (scope : List Binder) (ts : Trees) → AllByRecursion IsSound (terms_parts scope ts) → instances (by_binder scope) ts ≡ instances (by_plain_binder scope) ts
    terms_sorts scope none h = refl
    terms_sorts scope (more t ts) h =
        let one = term_sorts scope t (left IsSound (term_parts scope t) (terms_parts scope ts) h) in
        let rest = terms_sorts scope ts (right IsSound (term_parts scope t) (terms_parts scope ts) h) in
        λ i. more (one i) (rest i)

  args_sorts : (scope : List Binder) (ts : List Tree) → AllByRecursion IsSound (terms_parts scope (trees_of ts)) → map (instance (by_binder scope)) ts ≡ map (instance (by_plain_binder scope)) ts
  args_sorts scope [] h = refl
  args_sorts scope (t ∷ ts) h =
      let one = term_sorts scope t (left IsSound (term_parts scope t) (terms_parts scope (trees_of ts)) h) in
      let rest = args_sorts scope ts (right IsSound (term_parts scope t) (terms_parts scope (trees_of ts)) h) in
      λ i. one i ∷ rest i

  parts_sorts : (f : Form) (scope : List Binder) → AllByRecursion IsSound (form_parts scope f) → with_sorts scope f ≡ plainly_sorted scope f
  parts_sorts truth scope h = refl
  parts_sorts falsity scope h = refl
  parts_sorts (action f i) scope h =
      ap (λ (ts : List Tree). action (record { name = f.name; persistent = f.persistent; args = ts }) i) (args_sorts scope f.args (left IsSound (terms_parts scope (trees_of f.args)) _ h.1))
  parts_sorts (equal t u) scope h =
      let one = term_sorts scope t (left IsSound (term_parts scope t) (term_parts scope u) h) in
      let two = term_sorts scope u (right IsSound (term_parts scope t) (term_parts scope u) h) in
      λ i. equal (one i) (two i)
  parts_sorts (same_time i j) scope h = refl
  parts_sorts (earlier i j) scope h = refl
  parts_sorts (negation f) scope h = ap negation (parts_sorts f scope h)
  parts_sorts (both f k) scope h =
      let one = parts_sorts f scope (left IsSound (form_parts scope f) (form_parts scope k) h) in
      let two = parts_sorts k scope (right IsSound (form_parts scope f) (form_parts scope k) h) in
      λ i. both (one i) (two i)
  parts_sorts (either f k) scope h =
      let one = parts_sorts f scope (left IsSound (form_parts scope f) (form_parts scope k) h) in
      let two = parts_sorts k scope (right IsSound (form_parts scope f) (form_parts scope k) h) in
      λ i. either (one i) (two i)
  parts_sorts (implies f k) scope h =
      let one = parts_sorts f scope (left IsSound (form_parts scope f) (form_parts scope k) h) in
      let two = parts_sorts k scope (right IsSound (form_parts scope f) (form_parts scope k) h) in
      λ i. implies (one i) (two i)
  parts_sorts (equivalent f k) scope h =
      let one = parts_sorts f scope (left IsSound (form_parts scope f) (form_parts scope k) h) in
      let two = parts_sorts k scope (right IsSound (form_parts scope f) (form_parts scope k) h) in
      λ i. equivalent (one i) (two i)
  parts_sorts (every bs f) scope h = ap (every bs) (parts_sorts f (enter bs scope) (right IsSound (map (bound (premise f)) bs) (form_parts (enter bs scope) f) h))
  parts_sorts (exists bs f) scope h = ap (exists bs) (parts_sorts f (enter bs scope) (right IsSound (map (bound f) bs) (form_parts (enter bs scope) f) h))

  pub own_sorts : (f : Form) → HasNoFault g r f → with_sorts [] f ≡ plainly_sorted [] f
  own_sorts f free = parts_sorts f [] (recursion_from_All IsSound (form_parts [] f) (λ k d lt bad. free UnboundVar k (record {
    part = slice_index_or (form_parts [] f) k d;
    stands = slice_get-get_or (form_parts [] f) k d lt;
    fault = bad;
  })))

-- A checked formula is over the signature.
module _ (g : Sig) where
  mutual
    term_over : (scope : List Binder) (t : Tree) → IsCheckedTerm g scope t → IsOver g t
    term_over scope (variable v) h = tt
    term_over scope (public n) h = tt
    term_over scope (fresh k) h = tt
    term_over scope (apply f ts) h = (h.0, terms_over scope ts h.2)

    terms_over : (scope : List Binder) (ts : Trees) → AreCheckedTerms g scope ts → AreOver g ts
    terms_over scope none h = tt
    terms_over scope (more t ts) h = (term_over scope t h.0, terms_over scope ts h.1)

  checked_over : (V : List ℕ → Type 0) (f : Form) (scope : List Binder) → IsChecked g V scope f → IsFormOver g f
  checked_over V truth scope h = tt
  checked_over V falsity scope h = tt
  checked_over V (action f i) scope h = terms_over scope (trees_of f.args) h.1
  checked_over V (equal t u) scope h = (term_over scope t h.0, term_over scope u h.1)
  checked_over V (same_time i j) scope h = tt
  checked_over V (earlier i j) scope h = tt
  checked_over V (negation f) scope h = checked_over V f scope h
  checked_over V (both f k) scope h = (checked_over V f scope h.0, checked_over V k scope h.1)
  checked_over V (either f k) scope h = (checked_over V f scope h.0, checked_over V k scope h.1)
  checked_over V (implies f k) scope h = (checked_over V f scope h.0, checked_over V k scope h.1)
  checked_over V (equivalent f k) scope h = (checked_over V f scope h.0, checked_over V k scope h.1)
  checked_over V (every bs f) scope h = checked_over V f (enter bs scope) h.1
  checked_over V (exists bs f) scope h = checked_over V f (enter bs scope) h.1

-- so is a formula without a fault, with the sorts of its binders
pub sorted_over : CheckLaw → (g : Sig) (r : Bool) (f : Form) → HasNoFault g r f → IsFormOver g (with_sorts [] f)
sorted_over checks g r f free = checked_over g (Allowed r) (with_sorts [] f) [] (checks g r f free)

-- and as it is written
pub faultless_over : CheckLaw → (g : Sig) (r : Bool) (f : Form) → HasNoFault g r f → IsFormOver g f
faultless_over checks g r f free = form_over_before g [] f (subst (IsFormOver g) (own_sorts g r f free) (sorted_over checks g r f free))
