-- Flaws of a process don't turn on labels.
use Rattle.std.proofs.Common.{◌≡◌, ℕ, ◌+◌, ◌<◌, true, inl, inr, List, [], ◌∷◌, ◌++◌, Option, Some, length, map, take, refl, sym, ap, subst, ◌∙◌}
use Rattle.std.specs.List.{flat_map}
use Rattle.std.specs.Prelude.{Contains, slice_get}
use Rattle.std.proofs.lemmas.List.{map-append, take-map}
use Rattle.sap_terms.specs.Signature.{Sig}
use Rattle.sap_terms.specs.Tree.{Tree}
use Rattle.sap_terms.specs.Variables.{is_known}
use Rattle.sap_terms.specs.declared.limits.TheConstants.{MOST_SCOPE_NAMES}
use Rattle.sap_terms.specs.declared.fact.Fact.{Fact}
use Rattle.sap_terms.specs.declared.var.Var.{Var}
use Rattle.sap_process.specs.Action.{Action, lock, unlock}
use Rattle.sap_process.specs.Flaws.{IsWellFormed, IsFlawedIn, HasFlaw, AppliesBadly, BindsConstant, HasClash, HasOtherForm, HasOtherArity, unbound, scope_at, binder_of}
use Rattle.sap_process.specs.Heads.{terms_vars, head_terms, binder, bound_as, listed, patterns, stored_facts, shown_facts, locks_set}
use Rattle.sap_process.specs.Places.{place}
use Rattle.sap_process.specs.Proc.{Proc, nil, parallel, replicated, act, test, lookup}
use Rattle.sap_process.specs.Sites.{Site, Above, above_of, bound_by, message_var, sites_in, sites_from, var_names}
use Rattle.sap_process.specs.declared.flaw.Flaw.{Flaw}
use Rattle.sap_process.specs.declared.flaw.Flaw.TheVariants.{BadFunction, ReservedVar, ReservedFact, FactClash, PatternDestructor, Unbound, Rebound, SortClash, ScopeFull}
use Rattle.sap_locks.specs.Annotation.{unlabelled, unlabelled_action}
use Rattle.sap_locks.proofs.Bare.{bare_set, got_map, get_map}

-- what flaws look at in the process at a place
record Head : Type 0 where
  terms : List Tree
  binds : Option Var
  binds_as : Option Var
  patterns : List Tree
  stored : List Fact
  shown : List Fact
  loose : List Var → List Var
  scope : List Var → List Var

abbrev head : Proc → Head
head p = record {
  terms = head_terms p;
  binds = binder p;
  binds_as = bound_as p;
  patterns = patterns p;
  stored = stored_facts p;
  shown = shown_facts p;
  loose = λ v. unbound v p;
  scope = λ v. scope_at v p;
}

-- no label is among it
head_bare : (p : Proc) → head (unlabelled p) ≡ head p
head_bare (act (lock t l) p) = refl
head_bare (act (unlock t l) p) = refl
head_bare (act a p) = refl
head_bare nil = refl
head_bare (parallel p q) = refl
head_bare (replicated p) = refl
head_bare (test t u p q) = refl
head_bare (lookup t x p q) = refl

pub bare_bound : (v : List Var) (a : Action) → bound_by v (unlabelled_action a) ≡ bound_by v a
bare_bound v (lock t l) = refl
bare_bound v (unlock t l) = refl
bare_bound v a = refl

-- the place without labels
abbrev bare_site : Site → Site
bare_site s = place s.path s.above (unlabelled s.body)

both : (s : Site) (xs ys zs us : List Site) → xs ≡ map bare_site zs → ys ≡ map bare_site us → bare_site s ∷ (xs ++ ys) ≡ map bare_site (s ∷ (zs ++ us))
both s xs ys zs us e f = (λ i. bare_site s ∷ (e i ++ f i)) ∙ ap (λ vs. bare_site s ∷ vs) (sym (map-append bare_site zs us))

bare_places : (p : Proc) (path : List ℕ) (v : List Var) (k : ℕ) → sites_from path v k (unlabelled p) ≡ map bare_site (sites_from path v k p)
bare_places nil path v k = refl
bare_places (parallel p q) path v k = both (place path (above_of v k) (parallel p q)) _ _ (sites_from (path ++ 1 ∷ []) v k p) (sites_from (path ++ 2 ∷ []) v k q) (bare_places p (path ++ 1 ∷ []) v k) (bare_places q (path ++ 2 ∷ []) v k)
bare_places (replicated p) path v k = ap (λ zs. bare_site (place path (above_of v k) (replicated p)) ∷ zs) (bare_places p (path ++ 1 ∷ []) v k)
bare_places (act a p) path v k =
    ap (λ zs. bare_site (place path (above_of v k) (act a p)) ∷ zs)
    ((λ i. sites_from (path ++ 1 ∷ []) (v ++ bare_bound v a i) (k + bare_set a i) (unlabelled p)) ∙ bare_places p (path ++ 1 ∷ []) (v ++ bound_by v a) (k + locks_set a))
bare_places (test t u p q) path v k = both (place path (above_of v k) (test t u p q)) _ _ (sites_from (path ++ 1 ∷ []) v k p) (sites_from (path ++ 2 ∷ []) v k q) (bare_places p (path ++ 1 ∷ []) v k) (bare_places q (path ++ 2 ∷ []) v k)
bare_places (lookup t x p q) path v k = both (place path (above_of v k) (lookup t x p q)) _ _ (sites_from (path ++ 1 ∷ []) (v ++ message_var x ∷ []) k p) (sites_from (path ++ 2 ∷ []) v k q) (bare_places p (path ++ 1 ∷ []) (v ++ message_var x ∷ []) k) (bare_places q (path ++ 2 ∷ []) v k)

-- the facts of places are those of the places without labels
bare_stored : (ss : List Site) → flat_map (λ (b : Site). stored_facts b.body) (map bare_site ss) ≡ flat_map (λ (b : Site). stored_facts b.body) ss
bare_stored [] = refl
bare_stored (s ∷ ss) = λ i. (head_bare s.body i).stored ++ bare_stored ss i

bare_shown : (ss : List Site) → flat_map (λ (b : Site). shown_facts b.body) (map bare_site ss) ≡ flat_map (λ (b : Site). shown_facts b.body) ss
bare_shown [] = refl
bare_shown (s ∷ ss) = λ i. (head_bare s.body i).shown ++ bare_shown ss i

-- two places of alike heads, behind others whose facts are alike
record AreAlike (bs cs : List Site) (s z : Site) : Type 0 where
  heads : head s.body ≡ head z.body
  above : s.above ≡ z.above
  stored : flat_map (λ (b : Site). stored_facts b.body) bs ≡ flat_map (λ (b : Site). stored_facts b.body) cs
  shown : flat_map (λ (b : Site). shown_facts b.body) bs ≡ flat_map (λ (b : Site). shown_facts b.body) cs

applies_badly : (g : Sig) (s z : Site) → head s.body ≡ head z.body → AppliesBadly g s → AppliesBadly g z
applies_badly g s z e h = record { term = h.term; stands = subst (λ (d : Head). Contains d.terms h.term) e h.stands; bad = h.bad }

binds_constant : (g : Sig) (s z : Site) → head s.body ≡ head z.body → BindsConstant g s → BindsConstant g z
binds_constant g s z e h = record { var = h.var; stands = subst (λ (d : Head). d.binds_as ≡ Some h.var) e h.stands; plain = h.plain; constant = h.constant }

clash_alike : (differ : Fact → Fact → Type 0) (met more facts others : List Fact) → met ≡ more → facts ≡ others → HasClash differ met facts → HasClash differ more others
clash_alike differ met more facts others e f h = subst (λ fs. HasClash differ fs others) e (subst (HasClash differ met) f h)

alike_flaw : (g : Sig) (bs cs : List Site) (s z : Site) → AreAlike bs cs s z → (w : Flaw) → HasFlaw g bs s w → HasFlaw g cs z w
alike_flaw g bs cs s z a BadFunction h = elim h [ inl k ↦ inl (applies_badly g s z a.heads k) | inr k ↦ inr (binds_constant g s z a.heads k) ]
alike_flaw g bs cs s z a ReservedVar h =
    record { var = h.var; stands = subst (λ (d : Head). Contains (listed d.binds ++ terms_vars d.terms) h.var) a.heads h.stands; reserved = h.reserved }
alike_flaw g bs cs s z a ReservedFact h =
    record { fact = h.fact; stands = subst (λ (d : Head). Contains (d.stored ++ d.shown) h.fact) a.heads h.stands; reserved = h.reserved }
alike_flaw g bs cs s z a FactClash h = elim h [
  | inl k ↦ inl (clash_alike HasOtherForm _ _ (stored_facts s.body) (stored_facts z.body) a.stored (ap (λ (d : Head). d.stored) a.heads) k)
  | inr k ↦ inr (clash_alike HasOtherArity _ _ (shown_facts s.body) (shown_facts z.body) a.shown (ap (λ (d : Head). d.shown) a.heads) k)
]
alike_flaw g bs cs s z a PatternDestructor h =
    record { term = h.term; stands = subst (λ (d : Head). Contains d.patterns h.term) a.heads h.stands; destructor = h.destructor }
alike_flaw g bs cs s z a Unbound h = λ e. h ((λ i. (a.heads i).loose (a.above i).scope) ∙ e)
alike_flaw g bs cs s z a Rebound h =
    record { var = h.var; stands = subst (λ (d : Head). d.binds ≡ Some h.var) a.heads h.stands; in_scope = subst (λ (u : Above). is_known (var_names u.scope) h.var.name ≡ true) a.above h.in_scope }
alike_flaw g bs cs s z a SortClash h = record {
  var = h.var;
  stands = subst (λ (d : Head). Contains (terms_vars d.terms) h.var) a.heads h.stands;
  signed = h.signed;
  bound = h.bound;
  binder = sym (λ i. binder_of ((a.heads i).scope (a.above i).scope) h.var.name) ∙ h.binder;
  other = h.other;
}
alike_flaw g bs cs s z a ScopeFull h = subst (λ (u : Above). MOST_SCOPE_NAMES < length u.scope + u.locks) a.above h

-- a process that is another but for labels has its flaws
same_flaws : (g : Sig) (v : List Var) (p q : Proc) (w : Flaw) (k : ℕ) → unlabelled p ≡ unlabelled q → IsFlawedIn g v p w k → IsFlawedIn g v q w k
same_flaws g v p q w k same h =
    let ss = sites_in v p in
    let zs = sites_in v q in
    let bare : map bare_site ss ≡ map bare_site zs = sym (bare_places p [] v 0) ∙ ap (sites_in v) same ∙ bare_places q [] v 0 in
    let r = got_map bare_site zs k (bare_site h.site) (subst (λ us. slice_get us k ≡ Some (bare_site h.site)) bare (get_map bare_site ss k h.site h.stands)) in
    let before : map bare_site (take k ss) ≡ map bare_site (take k zs) = sym (take-map bare_site k ss) ∙ ap (take k) bare ∙ take-map bare_site k zs in
    record {
      site = r.0;
      stands = r.1;
      flaw = alike_flaw g (take k ss) (take k zs) h.site r.0 (record {
        heads = sym (head_bare h.site.body) ∙ ap (λ (u : Site). head u.body) (sym r.2) ∙ head_bare r.0.body;
        above = ap (λ (u : Site). u.above) (sym r.2);
        stored = sym (bare_stored (take k ss)) ∙ ap (flat_map (λ (b : Site). stored_facts b.body)) before ∙ bare_stored (take k zs);
        shown = sym (bare_shown (take k ss)) ∙ ap (flat_map (λ (b : Site). shown_facts b.body)) before ∙ bare_shown (take k zs);
      }) w h.flaw;
    }

pub well_formed_same : (g : Sig) (p q : Proc) → unlabelled p ≡ unlabelled q → IsWellFormed g p → IsWellFormed g q
well_formed_same g p q same fine w k h = fine w k (same_flaws g [] q p w k (sym same) h)
