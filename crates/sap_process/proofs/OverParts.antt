-- Instances of processes over a signature are over it.
use Rattle.std.proofs.Common.{◌≡◌, ℕ, suc, List, [], ◌∷◌, ◌++◌, Bool, true, false, Some, cond, map, slice_get, refl, sym, ap, subst, ◌∙◌, inl, inr}
use Rattle.std.specs.Prelude.{Contains}
use Rattle.std.specs.Str.{bytes_eq}
use Rattle.std.proofs.lemmas.Bool.{cases_Bool}
use Rattle.std.proofs.lemmas.List.Elements.{Contains-append_left, Contains-append_right}
use Rattle.sap_terms.specs.Choice.{Choice, instance, instances}
use Rattle.sap_terms.specs.Message.{IsOver, AreOver}
use Rattle.sap_terms.specs.Signature.{Sig}
use Rattle.sap_terms.specs.Tree.{Tree, variable, public, fresh, apply, Trees, none, more}
use Rattle.sap_terms.specs.declared.var.Var.{Var}
use Rattle.sap_process.specs.Action as action
use Rattle.sap_process.specs.Action.{Action}
use Rattle.sap_process.specs.Flaws.{IsWellFormed}
use Rattle.sap_process.specs.code.GroundParts.{AllOver, IsOverProcess}
use Rattle.sap_process.specs.Heads.{facts_terms, action_terms, head_terms}
use Rattle.sap_process.specs.Instance.{action_instance, without, behind, process_instance}
use Rattle.sap_process.specs.Proc as whole
use Rattle.sap_process.specs.Proc.{Proc, act}
use Rattle.sap_process.specs.Places.{place}
use Rattle.sap_process.specs.Sites.{Site, above_of, sites, sites_from, message_var, bound_by}
use Rattle.sap_terms.specs.TermTests.{is_over}
use Rattle.sap_process.specs.declared.flaw.Flaw.TheVariants.{BadFunction}
use Rattle.sap_process.proofs.Flawed.{over-sound, over-complete}
use Rattle.sap_process.proofs.Members.{member-head, member-tail, member-none, member-cases}
use Rattle.sap_process.proofs.SortedVars.{list_length}
use Rattle.sap_process.proofs.StillWell.{terms_instance, sides_instance}

-- what stands for each variable is over the signature
abbrev pub PutsOver : Sig → Choice → Type 0
PutsOver g σ = (v : Var) → IsOver g (σ v)

mutual
  pub tree_over : (g : Sig) (σ : Choice) (t : Tree) → PutsOver g σ → IsOver g t → IsOver g (instance σ t)
  tree_over g σ (variable v) h o = h v
  tree_over g σ (public n) h o = tt
  tree_over g σ (fresh k) h o = tt
  tree_over g σ (apply f ts) h o = (o.0 ∙ ap Some (sym (list_length σ ts)), trees_over g σ ts h o.1)

  trees_over : (g : Sig) (σ : Choice) (ts : Trees) → PutsOver g σ → AreOver g ts → AreOver g (instances σ ts)
  trees_over g σ none h o = tt
  trees_over g σ (more t ts) h o = (tree_over g σ t h o.0, trees_over g σ ts h o.1)

pub list_over : (g : Sig) (σ : Choice) (ts : List Tree) → PutsOver g σ → AllOver g ts → AllOver g (map (instance σ) ts)
list_over g σ [] h o = tt
list_over g σ (t ∷ ts) h o = (tree_over g σ t h o.0, list_over g σ ts h o.1)

pub over_left : (g : Sig) (xs ys : List Tree) → AllOver g (xs ++ ys) → AllOver g xs
over_left g [] ys o = tt
over_left g (x ∷ xs) ys o = (o.0, over_left g xs ys o.1)

pub over_right : (g : Sig) (xs ys : List Tree) → AllOver g (xs ++ ys) → AllOver g ys
over_right g [] ys o = o
over_right g (x ∷ xs) ys o = over_right g xs ys o.1

-- the terms of an action's instance
action_terms_put : (σ : Choice) (a : Action) → action_terms (action_instance σ a) ≡ map (instance σ) (action_terms a)
action_terms_put σ (action.new x) = refl
action_terms_put σ (action.out t) = refl
action_terms_put σ (action.send t u) = refl
action_terms_put σ (action.input t) = refl
action_terms_put σ (action.receive t u) = refl
action_terms_put σ (action.event f) = refl
action_terms_put σ (action.insert t u) = refl
action_terms_put σ (action.delete t) = refl
action_terms_put σ (action.lock t i) = refl
action_terms_put σ (action.unlock t i) = refl
action_terms_put σ (action.embedded l e r) = ap facts_terms (sides_instance σ l e r) ∙ terms_instance σ (l ++ (e ++ r))

action_over : (g : Sig) (σ : Choice) (a : Action) → PutsOver g σ → AllOver g (action_terms a) → AllOver g (action_terms (action_instance σ a))
action_over g σ a h o = subst (AllOver g) (sym (action_terms_put σ a)) (list_over g σ (action_terms a) h o)

hidden_over : (g : Sig) (σ : Choice) (x : Var) → PutsOver g σ → PutsOver g (without σ x)
hidden_over g σ x h v = go (bytes_eq x.name v.name)
  where
    go : (b : Bool) → IsOver g (cond b (variable v) (σ v))
    go true = tt
    go false = h v

behind_over : (g : Sig) (σ : Choice) (a : Action) → PutsOver g σ → PutsOver g (behind σ a)
behind_over g σ (action.new x) h = hidden_over g σ x h
behind_over g σ (action.out t) h = h
behind_over g σ (action.send t u) h = h
behind_over g σ (action.input t) h = h
behind_over g σ (action.receive t u) h = h
behind_over g σ (action.event f) h = h
behind_over g σ (action.insert t u) h = h
behind_over g σ (action.delete t) h = h
behind_over g σ (action.lock t i) h = h
behind_over g σ (action.unlock t i) h = h
behind_over g σ (action.embedded l e r) h = h

pub process_over : (g : Sig) (p : Proc) (σ : Choice) → PutsOver g σ → IsOverProcess g p → IsOverProcess g (process_instance σ p)
process_over g whole.nil σ h o = tt
process_over g (whole.parallel p q) σ h o = (process_over g p σ h o.0, process_over g q σ h o.1)
process_over g (whole.replicated p) σ h o = process_over g p σ h o
process_over g (act a p) σ h o = (action_over g σ a h o.0, process_over g p (behind σ a) (behind_over g σ a h) o.1)
process_over g (whole.test t u p q) σ h o = (list_over g σ (t ∷ u ∷ []) h o.0, process_over g p σ h o.1, process_over g q σ h o.2)
process_over g (whole.lookup t x p q) σ h o = (list_over g σ (t ∷ []) h o.0, process_over g p (without σ x) (hidden_over g σ x h) o.1, process_over g q σ h o.2)

-- a process without flaws is over the signature

over_known : (g : Sig) (t : Tree) → (¬ IsOver g t → ⊥) → IsOver g t
over_known g t h = elim (cases_Bool (is_over g t)) [
  | inl passed ↦ over-sound g t passed
  | inr failed ↦ absurd (h (λ o. let passed : is_over g t ≡ true = over-complete g t o in cc))
]

all_known : (g : Sig) (ts : List Tree) → ((t : Tree) → Contains ts t → IsOver g t) → AllOver g ts
all_known g [] h = tt
all_known g (t ∷ ts) h = (h t (member-head t ts), all_known g ts (λ u m. h u (member-tail t ts u m)))

abbrev HeadOver : Sig → Site → Type 0
HeadOver g s = AllOver g (head_terms s.body)

abbrev EachOver : Sig → List Site → Type 0
EachOver g xs = (s : Site) → Contains xs s → HeadOver g s

first_over : (g : Sig) (x : Site) (xs ys : List Site) → EachOver g (x ∷ (xs ++ ys)) → EachOver g xs
first_over g x xs ys h u m = h u (member-tail x (xs ++ ys) u (Contains-append_left xs ys u m))

second_over : (g : Sig) (x : Site) (xs ys : List Site) → EachOver g (x ∷ (xs ++ ys)) → EachOver g ys
second_over g x xs ys h u m = h u (member-tail x (xs ++ ys) u (Contains-append_right xs ys u m))

next_over : (g : Sig) (x : Site) (xs : List Site) → EachOver g (x ∷ xs) → EachOver g xs
next_over g x xs h u m = h u (member-tail x xs u m)

abbrev at : List ℕ → List Var → ℕ → Proc → Site
at path v k p = place path (above_of v k) p

of_sites : (g : Sig) (p : Proc) (path : List ℕ) (v : List Var) (k : ℕ) → EachOver g (sites_from path v k p) → IsOverProcess g p
of_sites g whole.nil path v k h = tt
of_sites g (whole.parallel p q) path v k h =
    let x = at path v k (whole.parallel p q) in
    let xs = sites_from (path ++ 1 ∷ []) v k p in
    let ys = sites_from (path ++ 2 ∷ []) v k q in
    (of_sites g p (path ++ 1 ∷ []) v k (first_over g x xs ys h), of_sites g q (path ++ 2 ∷ []) v k (second_over g x xs ys h))
of_sites g (whole.replicated p) path v k h =
    of_sites g p (path ++ 1 ∷ []) v k (next_over g (at path v k (whole.replicated p)) (sites_from (path ++ 1 ∷ []) v k p) h)
of_sites g (act a p) path v k h = (
  h (at path v k (act a p)) (member-head _ _),
  of_sites g p (path ++ 1 ∷ []) (v ++ bound_by v a) _ (next_over g (at path v k (act a p)) (sites_from (path ++ 1 ∷ []) (v ++ bound_by v a) _ p) h),
)
of_sites g (whole.test t u p q) path v k h =
    let x = at path v k (whole.test t u p q) in
    let xs = sites_from (path ++ 1 ∷ []) v k p in
    let ys = sites_from (path ++ 2 ∷ []) v k q in
    (h x (member-head x (xs ++ ys)), of_sites g p (path ++ 1 ∷ []) v k (first_over g x xs ys h), of_sites g q (path ++ 2 ∷ []) v k (second_over g x xs ys h))
of_sites g (whole.lookup t y p q) path v k h =
    let x = at path v k (whole.lookup t y p q) in
    let xs = sites_from (path ++ 1 ∷ []) (v ++ message_var y ∷ []) k p in
    let ys = sites_from (path ++ 2 ∷ []) v k q in
    (h x (member-head x (xs ++ ys)), of_sites g p (path ++ 1 ∷ []) (v ++ message_var y ∷ []) k (first_over g x xs ys h), of_sites g q (path ++ 2 ∷ []) v k (second_over g x xs ys h))

pub where_stands : (xs : List Site) (x : Site) → Contains xs x → (k : ℕ) × (slice_get xs k ≡ Some x)
where_stands [] x m = absurd (member-none x m)
where_stands (y ∷ xs) x m = elim (member-cases y xs x m) [
  | inl e ↦ (0, ap Some e)
  | inr k ↦ (let r = where_stands xs x k in (suc r.0, r.1))
]

pub well_over : (g : Sig) (p : Proc) → IsWellFormed g p → IsOverProcess g p
well_over g p fine = of_sites g p [] [] 0 (λ s m.
    let r = where_stands (sites p) s m in
    all_known g (head_terms s.body) (λ t n. over_known g t (λ bad.
    fine BadFunction r.0 (record { site = s; stands = r.1; flaw = inl (record { term = t; stands = n; bad = bad }) }))))
