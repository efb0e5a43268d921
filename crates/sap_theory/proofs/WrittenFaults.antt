-- A formula has no fault exactly where it has none once its plain variables have the sorts of their binders.
use Rattle.std.proofs.Common.{◌≡◌, ℕ, zero, suc, Bool, List, [], ◌∷◌, ◌++◌, length, Option, Some, inl, inr, refl, sym, ap, subst, ◌∙◌}
use Rattle.std.specs.Prelude.{◌⊎◌, map, slice_get}
use Rattle.sap_terms.specs.Choice.{instance, instances}
use Rattle.sap_terms.specs.Signature.{Sig}
use Rattle.sap_terms.specs.Tree.{Tree, variable, public, fresh, apply, Trees, none, more, list_of, trees_of}
use Rattle.sap_terms.specs.declared.var.Sort.{Sort}
use Rattle.sap_terms.specs.declared.var.Sort.TheVariants.{Msg, Fresh, Pub}
use Rattle.sap_terms.specs.declared.var.Var.{Var}
use Rattle.sap_formula.specs.Checked.{StandsInAtom, StandsIn, StandsInAny, binder_name, enter, find_binder, premise}
use Rattle.sap_formula.specs.Faults.{HasFault, HasNoFault, IsBound}
use Rattle.sap_formula.specs.Form.{Form, truth, falsity, action, equal, same_time, earlier, negation, both, either, implies, equivalent, every, exists}
use Rattle.sap_formula.specs.Parts.{Part, symbol, fact_name, message, time, bound, term_parts, terms_parts, form_parts}
use Rattle.sap_formula.specs.declared.binder.Binder.{Binder}
use Rattle.sap_formula.specs.declared.binder.Binder.TheVariants.{Message}
use Rattle.sap_formula.specs.declared.fault.FormulaFlaw.{FormulaFlaw}
use Rattle.sap_formula.specs.declared.fault.FormulaFlaw.TheVariants.{BadFunction, Destructor, Reserved, UnboundVar, Unguarded}
use Rattle.sap_statements.specs.Sorted.{sort_under, by_plain_binder, plainly_sorted}

-- A variable of this name stands where it stood.
mutual
  tree_stands : (scope : List Binder) (n : List ℕ) (t : Tree) → StandsIn n (instance (by_plain_binder scope) t) → StandsIn n t
  tree_stands scope n (variable v) h = h
  tree_stands scope n (public m) h = h
  tree_stands scope n (fresh k) h = h
  tree_stands scope n (apply f ts) h = trees_stand scope n ts h

  trees_stand : (scope : List Binder) (n : List ℕ) (ts : Trees) → StandsInAny n (instances (by_plain_binder scope) ts) → StandsInAny n ts
  trees_stand scope n none h = h
  trees_stand scope n (more t ts) (inl h) = inl (tree_stands scope n t h)
  trees_stand scope n (more t ts) (inr h) = inr (trees_stand scope n ts h)

args_stand : (scope : List Binder) (n : List ℕ) (ts : List Tree) → StandsInAny n (trees_of (map (instance (by_plain_binder scope)) ts)) → StandsInAny n (trees_of ts)
args_stand scope n [] h = h
args_stand scope n (t ∷ ts) (inl h) = inl (tree_stands scope n t h)
args_stand scope n (t ∷ ts) (inr h) = inr (args_stand scope n ts h)

stands : (scope : List Binder) (n : List ℕ) (f : Form) → StandsInAtom n (plainly_sorted scope f) → StandsInAtom n f
stands scope n (both f k) (inl h) = inl (stands scope n f h)
stands scope n (both f k) (inr h) = inr (stands scope n k h)
stands scope n (action f i) (inl h) = inl h
stands scope n (action f i) (inr h) = inr (args_stand scope n f.args h)
stands scope n truth h = h
stands scope n falsity h = h
stands scope n (equal s t) h = h
stands scope n (same_time i j) h = h
stands scope n (earlier i j) h = h
stands scope n (negation f) h = h
stands scope n (either f k) h = h
stands scope n (implies f k) h = h
stands scope n (equivalent f k) h = h
stands scope n (every bs f) h = h
stands scope n (exists bs f) h = h

premise_stands : (scope : List Binder) (n : List ℕ) (f : Form) → StandsInAtom n (premise (plainly_sorted scope f)) → StandsInAtom n (premise f)
premise_stands scope n (implies f k) h = stands scope n f h
premise_stands scope n truth h = h
premise_stands scope n falsity h = h
premise_stands scope n (action f i) h = h
premise_stands scope n (equal s t) h = h
premise_stands scope n (same_time i j) h = h
premise_stands scope n (earlier i j) h = h
premise_stands scope n (negation f) h = h
premise_stands scope n (both f k) h = h
premise_stands scope n (either f k) h = h
premise_stands scope n (equivalent f k) h = h
premise_stands scope n (every bs f) h = h
premise_stands scope n (exists bs f) h = h

-- And it stands where it will stand.
mutual
  tree_stood : (scope : List Binder) (n : List ℕ) (t : Tree) → StandsIn n t → StandsIn n (instance (by_plain_binder scope) t)
  tree_stood scope n (variable v) h = h
  tree_stood scope n (public m) h = h
  tree_stood scope n (fresh k) h = h
  tree_stood scope n (apply f ts) h = trees_stood scope n ts h

  trees_stood : (scope : List Binder) (n : List ℕ) (ts : Trees) → StandsInAny n ts → StandsInAny n (instances (by_plain_binder scope) ts)
  trees_stood scope n none h = h
  trees_stood scope n (more t ts) (inl h) = inl (tree_stood scope n t h)
  trees_stood scope n (more t ts) (inr h) = inr (trees_stood scope n ts h)

args_stood : (scope : List Binder) (n : List ℕ) (ts : List Tree) → StandsInAny n (trees_of ts) → StandsInAny n (trees_of (map (instance (by_plain_binder scope)) ts))
args_stood scope n [] h = h
args_stood scope n (t ∷ ts) (inl h) = inl (tree_stood scope n t h)
args_stood scope n (t ∷ ts) (inr h) = inr (args_stood scope n ts h)

stood : (scope : List Binder) (n : List ℕ) (f : Form) → StandsInAtom n f → StandsInAtom n (plainly_sorted scope f)
stood scope n (both f k) (inl h) = inl (stood scope n f h)
stood scope n (both f k) (inr h) = inr (stood scope n k h)
stood scope n (action f i) (inl h) = inl h
stood scope n (action f i) (inr h) = inr (args_stood scope n f.args h)
stood scope n truth h = h
stood scope n falsity h = h
stood scope n (equal s t) h = h
stood scope n (same_time i j) h = h
stood scope n (earlier i j) h = h
stood scope n (negation f) h = h
stood scope n (either f k) h = h
stood scope n (implies f k) h = h
stood scope n (equivalent f k) h = h
stood scope n (every bs f) h = h
stood scope n (exists bs f) h = h

premise_stood : (scope : List Binder) (n : List ℕ) (f : Form) → StandsInAtom n (premise f) → StandsInAtom n (premise (plainly_sorted scope f))
premise_stood scope n (implies f k) h = stood scope n f h
premise_stood scope n truth h = h
premise_stood scope n falsity h = h
premise_stood scope n (action f i) h = h
premise_stood scope n (equal s t) h = h
premise_stood scope n (same_time i j) h = h
premise_stood scope n (earlier i j) h = h
premise_stood scope n (negation f) h = h
premise_stood scope n (both f k) h = h
premise_stood scope n (either f k) h = h
premise_stood scope n (equivalent f k) h = h
premise_stood scope n (every bs f) h = h
premise_stood scope n (exists bs f) h = h

-- A bound variable with the sort of its binder stays bound.
stays_bound : (scope : List Binder) (v : Var) → IsBound scope v → IsBound scope (record { name = v.name; sort = sort_under v.sort (find_binder scope v.name) })
stays_bound scope v is = by v.sort (find_binder scope v.name) is.innermost is.sign
  where
    by : (s : Sort) (o : Option Binder) → o ≡ Some (Message is.binder) → (s ≡ Msg) ⊎ (s ≡ is.binder.sort) → IsBound scope (record { name = v.name; sort = sort_under s o })
    by Msg o e h = record { binder = is.binder; innermost = is.innermost; sign = inr (ap (λ (u : Option Binder). sort_under Msg u) e) }
    by Fresh o e h = record { binder = is.binder; innermost = is.innermost; sign = h }
    by Pub o e h = record { binder = is.binder; innermost = is.innermost; sign = h }

-- A variable with the sort of its binder is bound no sooner.
was_bound : (scope : List Binder) (v : Var) → IsBound scope (record { name = v.name; sort = sort_under v.sort (find_binder scope v.name) }) → IsBound scope v
was_bound scope v is = by v.sort refl
  where
    plain : v.sort ≡ Msg → IsBound scope v
    plain e = record { binder = is.binder; innermost = is.innermost; sign = inl e }

    signed : sort_under v.sort (find_binder scope v.name) ≡ v.sort → IsBound scope v
    signed e = record { binder = is.binder; innermost = is.innermost; sign = subst (λ (s : Sort). (s ≡ Msg) ⊎ (s ≡ is.binder.sort)) e is.sign }

    by : (s : Sort) → v.sort ≡ s → IsBound scope v
    by Msg e = plain e
    by Fresh e = signed (ap (λ (s : Sort). sort_under s (find_binder scope v.name)) e ∙ sym e)
    by Pub e = signed (ap (λ (s : Sort). sort_under s (find_binder scope v.name)) e ∙ sym e)

same_length : (scope : List Binder) (ts : Trees) → length (list_of ts) ≡ length (list_of (instances (by_plain_binder scope) ts))
same_length scope none = refl
same_length scope (more t ts) = ap suc (same_length scope ts)

module _ (g : Sig) (r : Bool) where
  -- each fault of the one part is one of the other
  abbrev Alike : Part → Part → Type 0
  Alike p q = (w : FormulaFlaw) → (HasFault g r w p → HasFault g r w q) × (HasFault g r w q → HasFault g r w p)

  abbrev AllAlike : List Part → List Part → Type 0
  AllAlike [] [] = Unit {0}
  AllAlike [] (q ∷ qs) = ⊥
  AllAlike (p ∷ ps) [] = ⊥
  AllAlike (p ∷ ps) (q ∷ qs) = Alike p q × AllAlike ps qs

  same_part : (p : Part) → Alike p p
  same_part p w = ((λ h. h), (λ h. h))

  message_alike : (scope : List Binder) (v : Var) → Alike (message scope v) (message scope (record { name = v.name; sort = sort_under v.sort (find_binder scope v.name) }))
  message_alike scope v UnboundVar = ((λ h is. h (was_bound scope v is)), (λ h is. h (stays_bound scope v is)))
  message_alike scope v BadFunction = ((λ h. h), (λ h. h))
  message_alike scope v Destructor = ((λ h. h), (λ h. h))
  message_alike scope v Reserved = ((λ h. h), (λ h. h))
  message_alike scope v Unguarded = ((λ h. h), (λ h. h))

  bound_alike : (f k : Form) (b : Binder) → (StandsInAtom (binder_name b) k → StandsInAtom (binder_name b) f) → (StandsInAtom (binder_name b) f → StandsInAtom (binder_name b) k) → Alike (bound f b) (bound k b)
  bound_alike f k b back forth Unguarded = ((λ h s. h (back s)), (λ h s. h (forth s)))
  bound_alike f k b back forth BadFunction = ((λ h. h), (λ h. h))
  bound_alike f k b back forth Destructor = ((λ h. h), (λ h. h))
  bound_alike f k b back forth Reserved = ((λ h. h), (λ h. h))
  bound_alike f k b back forth UnboundVar = ((λ h. h), (λ h. h))

  bounds_alike : (f k : Form) (bs : List Binder) → ((n : List ℕ) → StandsInAtom n k → StandsInAtom n f) → ((n : List ℕ) → StandsInAtom n f → StandsInAtom n k) → AllAlike (map (bound f) bs) (map (bound k) bs)
  bounds_alike f k [] back forth = tt
  bounds_alike f k (b ∷ bs) back forth = (bound_alike f k b (back (binder_name b)) (forth (binder_name b)), bounds_alike f k bs back forth)

  joined : (ps qs us vs : List Part) → AllAlike ps qs → AllAlike us vs → AllAlike (ps ++ us) (qs ++ vs)
  joined [] [] us vs h k = k
  joined [] (q ∷ qs) us vs h k = absurd h
  joined (p ∷ ps) [] us vs h k = absurd h
  joined (p ∷ ps) (q ∷ qs) us vs h k = (h.0, joined ps qs us vs h.1 k)

  mutual
    tree_alike : (scope : List Binder) (t : Tree) → AllAlike (term_parts scope t) (term_parts scope (instance (by_plain_binder scope) t))
    tree_alike scope (variable v) = (message_alike scope v, tt)
    tree_alike scope (public n) = tt
    tree_alike scope (fresh k) = tt
    tree_alike scope (apply f ts) =
        (subst (λ (n : ℕ). Alike (symbol f (length (list_of ts))) (symbol f n)) (same_length scope ts) (same_part (symbol f (length (list_of ts)))), trees_alike scope ts)

    trees_alike : (scope : List Binder) (ts : Trees) → AllAlike (terms_parts scope ts) (terms_parts scope (instances (by_plain_binder scope) ts))
    trees_alike scope none = tt
    trees_alike scope (more t ts) = joined (term_parts scope t) _ (terms_parts scope ts) _ (tree_alike scope t) (trees_alike scope ts)

  args_alike : (scope : List Binder) (ts : List Tree) → AllAlike (terms_parts scope (trees_of ts)) (terms_parts scope (trees_of (map (instance (by_plain_binder scope)) ts)))
  args_alike scope [] = tt
  args_alike scope (t ∷ ts) = joined (term_parts scope t) _ (terms_parts scope (trees_of ts)) _ (tree_alike scope t) (args_alike scope ts)

  form_alike : (scope : List Binder) (f : Form) → AllAlike (form_parts scope f) (form_parts scope (plainly_sorted scope f))
  form_alike scope truth = tt
  form_alike scope falsity = tt
  form_alike scope (action f i) =
      (same_part (fact_name f.name), joined (terms_parts scope (trees_of f.args)) _ (time scope i ∷ []) _ (args_alike scope f.args) (same_part (time scope i), tt))
  form_alike scope (equal s t) = joined (term_parts scope s) _ (term_parts scope t) _ (tree_alike scope s) (tree_alike scope t)
  form_alike scope (same_time i j) = (same_part (time scope i), (same_part (time scope j), tt))
  form_alike scope (earlier i j) = (same_part (time scope i), (same_part (time scope j), tt))
  form_alike scope (negation f) = form_alike scope f
  form_alike scope (both f k) = joined (form_parts scope f) _ (form_parts scope k) _ (form_alike scope f) (form_alike scope k)
  form_alike scope (either f k) = joined (form_parts scope f) _ (form_parts scope k) _ (form_alike scope f) (form_alike scope k)
  form_alike scope (implies f k) = joined (form_parts scope f) _ (form_parts scope k) _ (form_alike scope f) (form_alike scope k)
  form_alike scope (equivalent f k) = joined (form_parts scope f) _ (form_parts scope k) _ (form_alike scope f) (form_alike scope k)
  form_alike scope (every bs f) =
      joined (map (bound (premise f)) bs) _ (form_parts (enter bs scope) f) _
      (bounds_alike (premise f) (premise (plainly_sorted (enter bs scope) f)) bs (λ n. premise_stands (enter bs scope) n f) (λ n. premise_stood (enter bs scope) n f)) (form_alike (enter bs scope) f)
  form_alike scope (exists bs f) =
      joined (map (bound f) bs) _ (form_parts (enter bs scope) f) _
      (bounds_alike f (plainly_sorted (enter bs scope) f) bs (λ n. stands (enter bs scope) n f) (λ n. stood (enter bs scope) n f)) (form_alike (enter bs scope) f)

  swapped : (ps qs : List Part) → AllAlike ps qs → AllAlike qs ps
  swapped [] [] h = tt
  swapped [] (q ∷ qs) h = absurd h
  swapped (p ∷ ps) [] h = absurd h
  swapped (p ∷ ps) (q ∷ qs) h = ((λ w. ((h.0 w).1, (h.0 w).0)), swapped ps qs h.1)

  -- the part at the same place
  part_there : (ps qs : List Part) → AllAlike ps qs → (k : ℕ) (p : Part) → slice_get ps k ≡ Some p → (q : Part) × (slice_get qs k ≡ Some q) × Alike p q
  part_there [] [] h k p e = absurd (cc (e))
  part_there [] (q ∷ qs) h k p e = absurd h
  part_there (u ∷ ps) [] h k p e = absurd h
  part_there (u ∷ ps) (q ∷ qs) h zero p e = (q, refl, subst (λ (x : Part). Alike x q) (same u p e) h.0)
    where
      same : (x y : Part) → Some x ≡ Some y → x ≡ y
      same x y e = cc
  part_there (u ∷ ps) (q ∷ qs) h (suc k) p e = part_there ps qs h.1 k p e

  free_there : (f k : Form) → AllAlike (form_parts [] f) (form_parts [] k) → HasNoFault g r k → HasNoFault g r f
  free_there f k alike free w n at =
      let there = part_there (form_parts [] f) (form_parts [] k) alike n at.part at.stands in
      free w n (record { part = there.0; stands = there.1; fault = (there.2 w).0 at.fault })

  pub faultless_as_written : (f : Form) → HasNoFault g r (plainly_sorted [] f) → HasNoFault g r f
  faultless_as_written f = free_there f (plainly_sorted [] f) (form_alike [] f)

  pub faultless_as_sorted : (f : Form) → HasNoFault g r f → HasNoFault g r (plainly_sorted [] f)
  faultless_as_sorted f = free_there (plainly_sorted [] f) f (swapped (form_parts [] f) (form_parts [] (plainly_sorted [] f)) (form_alike [] f))
