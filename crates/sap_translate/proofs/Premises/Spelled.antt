-- The rules of a process over the signature are over it, and so is a well-formed process.
use Rattle.sap_place.specs.StateFacts.{tag}
use Rattle.sap_translate.specs.Members.{Member}
use Rattle.std.proofs.Common.{◌≡◌, ℕ, inl, inr, List, [], ◌∷◌, ◌++◌, refl, sym, ap, ◌∙◌, Bool, true, false, ◌&&◌, map, subst}
use Rattle.sap_terms.specs.AdversaryFacts.{in_fact}
use Rattle.sap_terms.specs.Choice.{instance}
use Rattle.sap_terms.specs.Modulo.{instance_facts}
use Rattle.sap_terms.specs.Reserved.{is_reserved}
use Rattle.sap_terms.specs.Signature.{Sig}
use Rattle.sap_terms.specs.Tree.{Tree, trees_of, variable}
use Rattle.sap_terms.specs.Equations.{app2, pair_name}
use Rattle.sap_terms.specs.Variables.{facts_vars, new_vars}
use Rattle.sap_terms.specs.declared.fact.Fact.{Fact}
use Rattle.sap_terms.specs.declared.var.Var.{Var}
use Rattle.sap_terms.proofs.PlainLaws.Tests.{and_left, and_right}
use Rattle.sap_process.specs.Action as action
use Rattle.sap_process.specs.Action.{Action}
use Rattle.sap_process.specs.Flaws.{IsWellFormed}
use Rattle.sap_process.specs.Heads.{facts_terms}
use Rattle.sap_process.specs.Proc as whole
use Rattle.sap_process.specs.Proc.{Proc, act}
use Rattle.sap_process.specs.Sites.{var_names, message_var}
use Rattle.sap_process.specs.Sorted.{by_binder, with_sorts}
use Rattle.sap_terms.specs.TermTests.{is_over, are_over}
use Rattle.sap_translate.specs.relation.Names.{is_reserved_fact, vars}
use Rattle.sap_rule.specs.declared.rule.Rule.{Rule}
use Rattle.sap_translate.specs.relation.Labels.{IsRelabelled, labelled}
use Rattle.sap_translate.specs.Scoped.{AreUnreserved}
use Rattle.sap_translate.specs.relation.Spelled.{TermsOver, FactsOver, IsActionOver, IsProcessOver, ActsOver, IsOutcomeOver, RulesOver}
use Rattle.sap_templates.specs.Templates.{embedded_acts, first_of, second_of, action_rules, place_rules, rules_of}
use Rattle.sap_process.specs.Scopes.{scope_behind}
use Rattle.sap_translate.proofs.Terms.Clean.{AllClean, all_clean}
use Rattle.sap_translate.proofs.Shared.Lookups.{member_right}
use Rattle.sap_translate.proofs.Premises.Sorting.{over_sound, over_sorted}
use Rattle.sap_translate.proofs.Premises.Sound.{none_in, users_of, users_sorted, clean_labelled, sorts_labelled}

-- the rules

pub vars_over : (g : Sig) (v : List Var) → TermsOver g (vars v)
vars_over g [] = tt
vars_over g (x ∷ v) = (tt, vars_over g v)

pub sent_over : (g : Sig) (v : List Var) → TermsOver g (vars v ++ variable tag ∷ [])
sent_over g [] = (tt, tt)
sent_over g (x ∷ v) = (tt, sent_over g v)

facts_over_both : (g : Sig) (fs hs : List Fact) → FactsOver g fs → FactsOver g hs → FactsOver g (fs ++ hs)
facts_over_both g [] hs a b = b
facts_over_both g (f ∷ fs) hs a b = (a.0, facts_over_both g fs hs a.1 b)

both_over : (g : Sig) (rs qs : List Rule) → RulesOver g rs → RulesOver g qs → RulesOver g (rs ++ qs)
both_over g [] qs a b = b
both_over g (r ∷ rs) qs a b = (a.0, both_over g rs qs a.1 b)

pub rule_over : (g : Sig) (rs : List Rule) (r : Rule) → RulesOver g rs → Member r rs → IsOutcomeOver g r
rule_over g [] r h m = elim m [ ]
rule_over g (q ∷ rs) r h m = first_over g q r rs h m (λ k. rule_over g rs r h.1 k)
  where
    first_over : (g : Sig) (q r : Rule) (rs : List Rule) → RulesOver g (q ∷ rs) → Member r (q ∷ rs) → (Member r rs → IsOutcomeOver g r) → IsOutcomeOver g r
    first_over g q r rs h Member.here rest = h.0
    first_over g q r rs h (Member.later k) rest = rest k

unreserved : (name : List ℕ) (b : Bool) → is_reserved name ≡ false → is_reserved name ≡ true → b ≡ false
unreserved name b h e = absurd (let z : false ≡ true = sym h ∙ e in cc)

users_over : (g : Sig) (left fs : List Fact) → AreUnreserved fs → FactsOver g fs → ActsOver g left fs
users_over g left [] h o = tt
users_over g left (f ∷ fs) h o = ((unreserved f.name f.persistent (h f Member.here), inl o.0), users_over g left fs (λ x m. h x (Member.later m)) o.1)

said_over : (g : Sig) (left fs : List Fact) → AreUnreserved fs → FactsOver g fs → ActsOver g left (embedded_acts fs)
said_over g left [] h o = tt
said_over g left (f ∷ fs) h o = ((λ e. refl, inl tt), users_over g left (f ∷ fs) h o)

action_over : (g : Sig) (path : List ℕ) (v : List Var) (a : Action) → IsActionOver g a → RulesOver g (action_rules path v a)
action_over g path v (action.new x) h = (record { acts = tt; right = (vars_over g _, tt) }, tt)
action_over g path v (action.out m) h = (record { acts = tt; right = ((h, tt), (vars_over g v, tt)) }, tt)
action_over g path v (action.send m n) h = (
  record { acts = ((λ e. refl, inl (h.0, tt)), tt); right = ((h.1, tt), (vars_over g v, tt)) },
  (
    record { acts = tt; right = ((tt, (h.0, (h.1, tt))), (sent_over g v, tt)) },
    (record { acts = tt; right = (vars_over g v, tt) }, tt),
  ),
)
action_over g path v (action.input m) h = (record { acts = ((λ e. refl, inr (in_fact m, Member.later Member.here, refl)), tt); right = (vars_over g _, tt) }, tt)
action_over g path v (action.receive m n) h = (
  record { acts = ((λ e. refl, inr (in_fact (app2 pair_name m n), Member.later Member.here, refl)), tt); right = (vars_over g _, tt) },
  (record { acts = tt; right = ((tt, tt), (vars_over g _, tt)) }, tt),
)
action_over g path v (action.event f) h = (record { acts = ((λ e. refl, inl tt), ((unreserved f.name f.persistent h.0, inl h.1), tt)); right = (vars_over g v, tt) }, tt)
action_over g path v (action.insert m n) h = (record { acts = ((λ e. refl, inl (h.0, (h.1, tt))), tt); right = (vars_over g v, tt) }, tt)
action_over g path v (action.delete m) h = (record { acts = ((λ e. refl, inl (h, tt)), tt); right = (vars_over g v, tt) }, tt)
action_over g path v (action.lock m i) h = (record { acts = ((λ e. refl, inl (tt, (h, tt))), tt); right = (vars_over g _, tt) }, tt)
action_over g path v (action.unlock m i) h = (record { acts = ((λ e. refl, inl (tt, (h, tt))), tt); right = (vars_over g v, tt) }, tt)
action_over g path v (action.embedded l a r) h = (record { acts = said_over g _ a h.0 h.1; right = (vars_over g _, h.2) }, tt)

places_over : (g : Sig) (path : List ℕ) (v : List Var) (p : Proc) → IsProcessOver g p → RulesOver g (place_rules path v p)
places_over g path v whole.nil h = (record { acts = tt; right = tt }, tt)
places_over g path v (whole.parallel p q) h = (
  record { acts = tt; right = (vars_over g v, (vars_over g v, tt)) },
  both_over g (place_rules (first_of path) v p) (place_rules (second_of path) v q) (places_over g (first_of path) v p h.0) (places_over g (second_of path) v q h.1),
)
places_over g path v (whole.replicated p) h = (
  record { acts = tt; right = (vars_over g v, tt) },
  (record { acts = tt; right = (vars_over g v, tt) }, places_over g (first_of path) v p h),
)
places_over g path v (act a p) h = both_over g (action_rules path v a) (place_rules (first_of path) (scope_behind v a) p) (action_over g path v a h.0) (places_over g (first_of path) (scope_behind v a) p h.1)
places_over g path v (whole.test m n p q) h = (
  record { acts = ((λ e. refl, inl (h.0, (h.1, tt))), tt); right = (vars_over g v, tt) },
  (
    record { acts = ((λ e. refl, inl (h.0, (h.1, tt))), tt); right = (vars_over g v, tt) },
    both_over g (place_rules (first_of path) v p) (place_rules (second_of path) v q) (places_over g (first_of path) v p h.2) (places_over g (second_of path) v q h.3),
  ),
)
places_over g path v (whole.lookup m x p q) h = (
  record { acts = ((λ e. refl, inl (h.0, (tt, tt))), tt); right = (vars_over g _, tt) },
  (
    record { acts = ((λ e. refl, inl (h.0, tt)), tt); right = (vars_over g v, tt) },
    both_over g (place_rules (first_of path) (v ++ message_var x ∷ []) p) (place_rules (second_of path) v q) (places_over g (first_of path) (v ++ message_var x ∷ []) p h.1) (places_over g (second_of path) v q h.2),
  ),
)

pub rules_over : (g : Sig) (p : Proc) → IsProcessOver g p → RulesOver g (rules_of p)
rules_over g p h = (record { acts = ((λ e. refl, inl tt), tt); right = (tt, tt) }, places_over g [] [] p h)

-- a process without flaws

pub over_each : (g : Sig) (w : List Var) (ts : List Tree) → are_over g (trees_of ts) ≡ true → TermsOver g (map (instance (by_binder w)) ts)
over_each g w [] h = tt
over_each g w (t ∷ ts) h = (over_sorted g w t (over_sound g t (and_left _ _ h)), over_each g w ts (and_right (is_over g t) _ h))

pub over_left : (g : Sig) (ts us : List Tree) → are_over g (trees_of (ts ++ us)) ≡ true → are_over g (trees_of ts) ≡ true
over_left g [] us h = refl
over_left g (t ∷ ts) us h = ap (λ b. b && are_over g (trees_of ts)) (and_left _ _ h) ∙ over_left g ts us (and_right (is_over g t) _ h)

pub over_right : (g : Sig) (ts us : List Tree) → are_over g (trees_of (ts ++ us)) ≡ true → are_over g (trees_of us) ≡ true
over_right g [] us h = h
over_right g (t ∷ ts) us h = over_right g ts us (and_right (is_over g t) _ h)

over_facts : (g : Sig) (w : List Var) (fs : List Fact) → are_over g (trees_of (facts_terms fs)) ≡ true → FactsOver g (instance_facts (by_binder w) fs)
over_facts g w [] h = tt
over_facts g w (f ∷ fs) h = (over_each g w f.args (over_left g f.args (facts_terms fs) h), over_facts g w fs (over_right g f.args (facts_terms fs) h))

-- the arguments of facts one after another
terms_joined : (fs hs : List Fact) → facts_terms (fs ++ hs) ≡ facts_terms fs ++ facts_terms hs
terms_joined [] hs = refl
terms_joined (f ∷ fs) hs = ap (λ ts. f.args ++ ts) (terms_joined fs hs) ∙ sym (appended f.args (facts_terms fs) (facts_terms hs))
  where
    appended : (xs ys zs : List Tree) → (xs ++ ys) ++ zs ≡ xs ++ (ys ++ zs)
    appended [] ys zs = refl
    appended (x ∷ xs) ys zs = ap (λ ts. x ∷ ts) (appended xs ys zs)

facts_right : (g : Sig) (fs hs : List Fact) → are_over g (trees_of (facts_terms (fs ++ hs))) ≡ true → are_over g (trees_of (facts_terms hs)) ≡ true
facts_right g fs hs h = over_right g (facts_terms fs) (facts_terms hs) (subst (λ ts. are_over g (trees_of ts) ≡ true) (terms_joined fs hs) h)

facts_left : (g : Sig) (fs hs : List Fact) → are_over g (trees_of (facts_terms (fs ++ hs))) ≡ true → are_over g (trees_of (facts_terms fs)) ≡ true
facts_left g fs hs h = over_left g (facts_terms fs) (facts_terms hs) (subst (λ ts. are_over g (trees_of ts) ≡ true) (terms_joined fs hs) h)

proc_over : (g : Sig) (v : List Var) (p : Proc) → AllClean g v p → IsProcessOver g (with_sorts v p)
proc_over g v whole.nil h = tt
proc_over g v (whole.parallel p q) h = (proc_over g v p h.1, proc_over g v q h.2)
proc_over g v (whole.replicated p) h = proc_over g v p h.1
proc_over g v (whole.test t u p q) h =
    let both = over_each g v (t ∷ u ∷ []) h.0.over in
    (both.0, both.1.0, proc_over g v p h.1, proc_over g v q h.2)
proc_over g v (whole.lookup t x p q) h =
    let one = over_each g v (t ∷ []) h.0.over in
    (one.0, proc_over g (v ++ message_var x ∷ []) p h.1, proc_over g v q h.2)
proc_over g v (act (action.new x) p) h = (tt, proc_over g _ p h.1)
proc_over g v (act (action.out t) p) h = ((over_each g (v ++ []) (t ∷ []) h.0.over).0, proc_over g (v ++ []) p h.1)
proc_over g v (act (action.send t u) p) h =
    let both = over_each g (v ++ []) (t ∷ u ∷ []) h.0.over in
    ((both.0, both.1.0), proc_over g (v ++ []) p h.1)
proc_over g v (act (action.input t) p) h = (tt, proc_over g _ p h.1)
proc_over g v (act (action.receive t u) p) h = (tt, proc_over g _ p h.1)
proc_over g v (act (action.event f) p) h = ((none_in is_reserved_fact (f ∷ []) f h.0.facts Member.here, over_each g (v ++ []) f.args h.0.over), proc_over g (v ++ []) p h.1)
proc_over g v (act (action.insert t u) p) h =
    let both = over_each g (v ++ []) (t ∷ u ∷ []) h.0.over in
    ((both.0, both.1.0), proc_over g (v ++ []) p h.1)
proc_over g v (act (action.delete t) p) h = ((over_each g (v ++ []) (t ∷ []) h.0.over).0, proc_over g (v ++ []) p h.1)
proc_over g v (act (action.lock t i) p) h = ((over_each g (v ++ []) (t ∷ []) h.0.over).0, proc_over g (v ++ []) p h.1)
proc_over g v (act (action.unlock t i) p) h = ((over_each g (v ++ []) (t ∷ []) h.0.over).0, proc_over g (v ++ []) p h.1)
proc_over g v (act (action.embedded l e r) p) h =
    let u = v ++ new_vars (var_names v) (facts_vars (l ++ (e ++ r))) in
    let users = users_of ((l ++ r) ++ e) h.0.facts in
    let rest = facts_right g l (e ++ r) h.0.over in (
      (users_sorted u e (λ f k. users f (member_right (l ++ r) k)), over_facts g u e (facts_left g e r rest), over_facts g u r (facts_right g e r rest)),
      proc_over g u p h.1,
    )

-- a well-formed process with its sorts and labels is over the signature
pub well_formed_over : (g : Sig) (p q : Proc) → IsWellFormed g p → IsRelabelled (with_sorts [] p) q → IsProcessOver g q
well_formed_over g p q fine l =
    let same : with_sorts [] (labelled l.label [] p) ≡ q = sorts_labelled l.label [] [] p ∙ sym l.is in
    subst (IsProcessOver g) same (proc_over g [] (labelled l.label [] p) (clean_labelled g l.label [] [] p (all_clean g p fine)))
