-- A restriction whose forms the process lacks is true on the full traces of its rules.
use Rattle.sap_translate.proofs.Premises.LowerLaws.{Laws}
use Rattle.sap_translate.specs.Members.{Member}
use Rattle.sap_translate.specs.relation.Shown.{ShowsAt}
use Rattle.std.proofs.Common.{◌≡◌, ℕ, ◌⊎◌, inl, inr, List, [], ◌∷◌, ◌++◌, refl, sym, ap, ◌∙◌, Bool, true, false, ◌||◌, subst, map, Contains}
use Rattle.std.specs.List.{list_any}
use Rattle.std.specs.Prelude.{codes}
use Rattle.std.specs.Str.{bytes_eq}
use Rattle.sap_terms.specs.Choice.{Choice}
use Rattle.sap_terms.specs.Modulo.{instance_fact, instance_facts}
use Rattle.sap_terms.specs.Reserved.{is_reserved}
use Rattle.sap_terms.specs.Signature.{Sig}
use Rattle.sap_terms.specs.Equations.{Equations, equations}
use Rattle.sap_terms.specs.Trace.{Trace}
use Rattle.sap_terms.specs.declared.fact.Fact.{Fact}
use Rattle.sap_terms.specs.declared.var.Var.{Var}
use Rattle.sap_process.specs.Action as action
use Rattle.sap_process.specs.Proc as whole
use Rattle.sap_process.specs.Proc.{Proc, act}
use Rattle.sap_process.specs.Sites.{message_var}
use Rattle.sap_rule.specs.RuleSteps.{RuleState, RuleStep, RuleRun}
use Rattle.sap_rule.specs.declared.rule.Rule.{Rule}
use Rattle.sap_formula.specs.Truth.{EachIn, IsTrueOn}
use Rattle.sap_restrict.specs.Needed.{has, is_input, is_lock, is_lookup, is_test, needed, needs}
use Rattle.sap_restrict.specs.Quiet.{premise_name}
use Rattle.sap_restrict.specs.Restrictions.{named, needed_restrictions}
use Rattle.sap_restrict.specs.Shown.{NoneShows}
use Rattle.sap_restrict.specs.Standard.{IsAdmitted, standard}
use Rattle.sap_translate.specs.Faithful.{AreRestrictionsTrue}
use Rattle.sap_translate.proofs.Restricted.Truth.{shown_to}
use Rattle.sap_restrict.specs.declared.which.Which.{Which}
use Rattle.sap_restrict.specs.declared.which.Which.TheVariants.{Eq, In, InEv, Init, Lock, NotEq, NotIn}
use Rattle.sap_translate.specs.Scoped.{AreUnreserved}
use Rattle.sap_translate.specs.relation.Spelled.{IsActionOver, IsProcessOver}
use Rattle.sap_templates.specs.Templates.{embedded_acts, first_of, second_of, own_rules, place_rules, rules_of}
use Rattle.sap_process.specs.Scopes.{scope_behind}
use Rattle.sap_translate.proofs.Terms.Derive.{member}
use Rattle.sap_translate.proofs.Shared.Facts.{not_reserved}
use Rattle.sap_translate.proofs.Terms.Forms.{nf_fact, nf_facts, forms_are_facts}
use Rattle.sap_translate.proofs.Shared.Inputs.{old, new, has_where}
use Rattle.sap_translate.proofs.Shared.Lookups.{only_member}
use Rattle.sap_translate.proofs.Premises.Sound.{none_in}

-- booleans
or_left : (a b : Bool) → (a || b) ≡ false → a ≡ false
or_left true b h = h
or_left false b h = refl

or_right : (a b : Bool) → (a || b) ≡ false → b ≡ false
or_right true b h = absurd (let z : true ≡ false = h in cc)
or_right false b h = h

or_both : (a b : Bool) → a ≡ false → b ≡ false → (a || b) ≡ false
or_both true b h k = absurd (let z : true ≡ false = h in cc)
or_both false b h k = k

-- some rule shows a fact of the name
abbrev shows : List ℕ → List Rule → Bool
shows n [] = false
shows n (r ∷ rs) = list_any (λ (f : Fact). bytes_eq f.name n) r.acts || shows n rs

shows_both : (n : List ℕ) (rs qs : List Rule) → shows n rs ≡ false → shows n qs ≡ false → shows n (rs ++ qs) ≡ false
shows_both n [] qs h k = k
shows_both n (r ∷ rs) qs h k =
    or_both (list_any (λ (f : Fact). bytes_eq f.name n) r.acts) (shows n (rs ++ qs)) (or_left _ _ h) (shows_both n rs qs (or_right (list_any (λ (f : Fact). bytes_eq f.name n) r.acts) (shows n rs) h) k)

silent_member : (n : List ℕ) (rules : List Rule) (r : Rule) (f : Fact) → shows n rules ≡ false → Member r rules → Member f r.acts → bytes_eq f.name n ≡ false
silent_member n [] r f h m l = elim m [ ]
silent_member n (q ∷ rules) r f h m l = silent_first n q r rules m (λ k. none_in (λ (x : Fact). bytes_eq x.name n) r.acts f (subst (λ (z : Rule). list_any (λ (x : Fact). bytes_eq x.name n) z.acts ≡ false) (sym k) (or_left _ _ h)) l) (λ k. silent_member n rules r f (or_right (list_any (λ (x : Fact). bytes_eq x.name n) q.acts) (shows n rules) h) k l)
  where
    silent_first : (n : List ℕ) (q r : Rule) (rules : List Rule) → Member r (q ∷ rules) → (r ≡ q → bytes_eq f.name n ≡ false) → (Member r rules → bytes_eq f.name n ≡ false) → bytes_eq f.name n ≡ false
    silent_first n q r rules Member.here one rest = one refl
    silent_first n q r rules (Member.later k) one rest = rest k

users_silent : (n : List ℕ) (fs : List Fact) → is_reserved n ≡ true → AreUnreserved fs → list_any (λ (f : Fact). bytes_eq f.name n) fs ≡ false
users_silent n [] r h = refl
users_silent n (f ∷ fs) r h = or_both (bytes_eq f.name n) (list_any (λ (x : Fact). bytes_eq x.name n) fs) (not_reserved f.name n (h f Member.here) r) (users_silent n fs r (λ x m. h x (Member.later m)))

said_silent : (n : List ℕ) (fs : List Fact) → is_reserved n ≡ true → bytes_eq (codes "Event") n ≡ false → AreUnreserved fs → list_any (λ (f : Fact). bytes_eq f.name n) (embedded_acts fs) ≡ false
said_silent n [] r e h = refl
said_silent n (f ∷ fs) r e h = or_both (bytes_eq (codes "Event") n) (list_any (λ (x : Fact). bytes_eq x.name n) (f ∷ fs)) e (users_silent n (f ∷ fs) r h)

-- what holds of the head
abbrev HeadOver : Sig → Proc → Type 0
HeadOver g (act a p) = IsActionOver g a
HeadOver g _ = Unit {0}

module _ (g : Sig) (n : List ℕ) (P : Proc → Bool) (heads : (path : List ℕ) (v : List Var) (p : Proc) → P p ≡ false → HeadOver g p → shows n (own_rules path v p) ≡ false) where
  places_silent : (path : List ℕ) (v : List Var) (p : Proc) → has P p ≡ false → IsProcessOver g p → shows n (place_rules path v p) ≡ false
  places_silent path v whole.nil h o = heads path v whole.nil h tt
  places_silent path v (whole.parallel p q) h o =
      let both = or_right (P (whole.parallel p q)) (has P p || has P q) h in
      shows_both n (own_rules path v (whole.parallel p q)) (place_rules (first_of path) v p ++ place_rules (second_of path) v q) (heads path v (whole.parallel p q) (or_left _ _ h) tt)
      (shows_both n (place_rules (first_of path) v p) (place_rules (second_of path) v q) (places_silent (first_of path) v p (or_left _ _ both) o.0) (places_silent (second_of path) v q (or_right (has P p) (has P q) both) o.1))
  places_silent path v (whole.replicated p) h o = shows_both n (own_rules path v (whole.replicated p)) (place_rules (first_of path) v p) (heads path v (whole.replicated p) (or_left _ _ h) tt) (places_silent (first_of path) v p (or_right (P (whole.replicated p)) (has P p) h) o)
  places_silent path v (act a p) h o = shows_both n (own_rules path v (act a p)) (place_rules (first_of path) (scope_behind v a) p) (heads path v (act a p) (or_left _ _ h) o.0) (places_silent (first_of path) (scope_behind v a) p (or_right (P (act a p)) (has P p) h) o.1)
  places_silent path v (whole.test t u p q) h o =
      let both = or_right (P (whole.test t u p q)) (has P p || has P q) h in
      shows_both n (own_rules path v (whole.test t u p q)) (place_rules (first_of path) v p ++ place_rules (second_of path) v q) (heads path v (whole.test t u p q) (or_left _ _ h) tt)
      (shows_both n (place_rules (first_of path) v p) (place_rules (second_of path) v q) (places_silent (first_of path) v p (or_left _ _ both) o.2) (places_silent (second_of path) v q (or_right (has P p) (has P q) both) o.3))
  places_silent path v (whole.lookup t x p q) h o =
      let both = or_right (P (whole.lookup t x p q)) (has P p || has P q) h in
      shows_both n (own_rules path v (whole.lookup t x p q)) (place_rules (first_of path) (v ++ message_var x ∷ []) p ++ place_rules (second_of path) v q) (heads path v (whole.lookup t x p q) (or_left _ _ h) tt)
      (shows_both n (place_rules (first_of path) (v ++ message_var x ∷ []) p) (place_rules (second_of path) v q) (places_silent (first_of path) (v ++ message_var x ∷ []) p (or_left _ _ both) o.1) (places_silent (second_of path) v q (or_right (has P p) (has P q) both) o.2))

-- the heads of each name
eq_heads : (g : Sig) (path : List ℕ) (v : List Var) (p : Proc) → is_test p ≡ false → HeadOver g p → shows (codes "Eq") (own_rules path v p) ≡ false
eq_heads g path v whole.nil h o = refl
eq_heads g path v (whole.parallel p q) h o = refl
eq_heads g path v (whole.replicated p) h o = refl
eq_heads g path v (whole.test t u p q) h o = absurd (cc)
eq_heads g path v (whole.lookup t x p q) h o = refl
eq_heads g path v (act (action.new x) p) h o = refl
eq_heads g path v (act (action.out t) p) h o = refl
eq_heads g path v (act (action.send t u) p) h o = refl
eq_heads g path v (act (action.input t) p) h o = refl
eq_heads g path v (act (action.receive t u) p) h o = refl
eq_heads g path v (act (action.event f) p) h o = ap (λ b. (b || false) || false) (not_reserved f.name (codes "Eq") o.0 refl)
eq_heads g path v (act (action.insert t u) p) h o = refl
eq_heads g path v (act (action.delete t) p) h o = refl
eq_heads g path v (act (action.lock t i) p) h o = refl
eq_heads g path v (act (action.unlock t i) p) h o = refl
eq_heads g path v (act (action.embedded l a r) p) h o = or_both (list_any (λ (f : Fact). bytes_eq f.name (codes "Eq")) (embedded_acts a)) false (said_silent (codes "Eq") a refl refl o.0) refl

noteq_heads : (g : Sig) (path : List ℕ) (v : List Var) (p : Proc) → is_test p ≡ false → HeadOver g p → shows (codes "NotEq") (own_rules path v p) ≡ false
noteq_heads g path v whole.nil h o = refl
noteq_heads g path v (whole.parallel p q) h o = refl
noteq_heads g path v (whole.replicated p) h o = refl
noteq_heads g path v (whole.test t u p q) h o = absurd (cc)
noteq_heads g path v (whole.lookup t x p q) h o = refl
noteq_heads g path v (act (action.new x) p) h o = refl
noteq_heads g path v (act (action.out t) p) h o = refl
noteq_heads g path v (act (action.send t u) p) h o = refl
noteq_heads g path v (act (action.input t) p) h o = refl
noteq_heads g path v (act (action.receive t u) p) h o = refl
noteq_heads g path v (act (action.event f) p) h o = ap (λ b. (b || false) || false) (not_reserved f.name (codes "NotEq") o.0 refl)
noteq_heads g path v (act (action.insert t u) p) h o = refl
noteq_heads g path v (act (action.delete t) p) h o = refl
noteq_heads g path v (act (action.lock t i) p) h o = refl
noteq_heads g path v (act (action.unlock t i) p) h o = refl
noteq_heads g path v (act (action.embedded l a r) p) h o = or_both (list_any (λ (f : Fact). bytes_eq f.name (codes "NotEq")) (embedded_acts a)) false (said_silent (codes "NotEq") a refl refl o.0) refl

isin_heads : (g : Sig) (path : List ℕ) (v : List Var) (p : Proc) → is_lookup p ≡ false → HeadOver g p → shows (codes "IsIn") (own_rules path v p) ≡ false
isin_heads g path v whole.nil h o = refl
isin_heads g path v (whole.parallel p q) h o = refl
isin_heads g path v (whole.replicated p) h o = refl
isin_heads g path v (whole.test t u p q) h o = refl
isin_heads g path v (whole.lookup t x p q) h o = absurd (cc)
isin_heads g path v (act (action.new x) p) h o = refl
isin_heads g path v (act (action.out t) p) h o = refl
isin_heads g path v (act (action.send t u) p) h o = refl
isin_heads g path v (act (action.input t) p) h o = refl
isin_heads g path v (act (action.receive t u) p) h o = refl
isin_heads g path v (act (action.event f) p) h o = ap (λ b. (b || false) || false) (not_reserved f.name (codes "IsIn") o.0 refl)
isin_heads g path v (act (action.insert t u) p) h o = refl
isin_heads g path v (act (action.delete t) p) h o = refl
isin_heads g path v (act (action.lock t i) p) h o = refl
isin_heads g path v (act (action.unlock t i) p) h o = refl
isin_heads g path v (act (action.embedded l a r) p) h o = or_both (list_any (λ (f : Fact). bytes_eq f.name (codes "IsIn")) (embedded_acts a)) false (said_silent (codes "IsIn") a refl refl o.0) refl

notset_heads : (g : Sig) (path : List ℕ) (v : List Var) (p : Proc) → is_lookup p ≡ false → HeadOver g p → shows (codes "IsNotSet") (own_rules path v p) ≡ false
notset_heads g path v whole.nil h o = refl
notset_heads g path v (whole.parallel p q) h o = refl
notset_heads g path v (whole.replicated p) h o = refl
notset_heads g path v (whole.test t u p q) h o = refl
notset_heads g path v (whole.lookup t x p q) h o = absurd (cc)
notset_heads g path v (act (action.new x) p) h o = refl
notset_heads g path v (act (action.out t) p) h o = refl
notset_heads g path v (act (action.send t u) p) h o = refl
notset_heads g path v (act (action.input t) p) h o = refl
notset_heads g path v (act (action.receive t u) p) h o = refl
notset_heads g path v (act (action.event f) p) h o = ap (λ b. (b || false) || false) (not_reserved f.name (codes "IsNotSet") o.0 refl)
notset_heads g path v (act (action.insert t u) p) h o = refl
notset_heads g path v (act (action.delete t) p) h o = refl
notset_heads g path v (act (action.lock t i) p) h o = refl
notset_heads g path v (act (action.unlock t i) p) h o = refl
notset_heads g path v (act (action.embedded l a r) p) h o = or_both (list_any (λ (f : Fact). bytes_eq f.name (codes "IsNotSet")) (embedded_acts a)) false (said_silent (codes "IsNotSet") a refl refl o.0) refl

lock_heads : (g : Sig) (path : List ℕ) (v : List Var) (p : Proc) → is_lock p ≡ false → HeadOver g p → shows (codes "Lock") (own_rules path v p) ≡ false
lock_heads g path v whole.nil h o = refl
lock_heads g path v (whole.parallel p q) h o = refl
lock_heads g path v (whole.replicated p) h o = refl
lock_heads g path v (whole.test t u p q) h o = refl
lock_heads g path v (whole.lookup t x p q) h o = refl
lock_heads g path v (act (action.new x) p) h o = refl
lock_heads g path v (act (action.out t) p) h o = refl
lock_heads g path v (act (action.send t u) p) h o = refl
lock_heads g path v (act (action.input t) p) h o = refl
lock_heads g path v (act (action.receive t u) p) h o = refl
lock_heads g path v (act (action.event f) p) h o = ap (λ b. (b || false) || false) (not_reserved f.name (codes "Lock") o.0 refl)
lock_heads g path v (act (action.insert t u) p) h o = refl
lock_heads g path v (act (action.delete t) p) h o = refl
lock_heads g path v (act (action.lock t i) p) h o = absurd (cc)
lock_heads g path v (act (action.unlock t i) p) h o = refl
lock_heads g path v (act (action.embedded l a r) p) h o = or_both (list_any (λ (f : Fact). bytes_eq f.name (codes "Lock")) (embedded_acts a)) false (said_silent (codes "Lock") a refl refl o.0) refl

input_heads : (g : Sig) (path : List ℕ) (v : List Var) (p : Proc) → is_input p ≡ false → HeadOver g p → shows (codes "InEvent") (own_rules path v p) ≡ false
input_heads g path v whole.nil h o = refl
input_heads g path v (whole.parallel p q) h o = refl
input_heads g path v (whole.replicated p) h o = refl
input_heads g path v (whole.test t u p q) h o = refl
input_heads g path v (whole.lookup t x p q) h o = refl
input_heads g path v (act (action.new x) p) h o = refl
input_heads g path v (act (action.out t) p) h o = refl
input_heads g path v (act (action.send t u) p) h o = absurd (cc)
input_heads g path v (act (action.input t) p) h o = absurd (cc)
input_heads g path v (act (action.receive t u) p) h o = absurd (cc)
input_heads g path v (act (action.event f) p) h o = ap (λ b. (b || false) || false) (not_reserved f.name (codes "InEvent") o.0 refl)
input_heads g path v (act (action.insert t u) p) h o = refl
input_heads g path v (act (action.delete t) p) h o = refl
input_heads g path v (act (action.lock t i) p) h o = refl
input_heads g path v (act (action.unlock t i) p) h o = refl
input_heads g path v (act (action.embedded l a r) p) h o = or_both (list_any (λ (f : Fact). bytes_eq f.name (codes "InEvent")) (embedded_acts a)) false (said_silent (codes "InEvent") a refl refl o.0) refl

-- where the facts of a full trace come from
abbrev FromRules : List Rule → Fact → Type 0
FromRules rules f = (f.name ≡ codes "K") ⊎ ((r : Rule) × Member r rules × (h : Fact) × Member h r.acts × (f.name ≡ h.name))

shown_by : (laws : Laws) → (e : Equations) (σ : Choice) (fs : List Fact) (f : Fact) → Member f ((nf_facts laws) e (instance_facts σ fs)) → (h : Fact) × Member h fs × (f.name ≡ h.name)
shown_by laws e σ [] f m = elim m [ ]
shown_by laws e σ (h ∷ fs) f m = shown_first ((nf_fact laws) e (instance_fact σ h)) ((nf_facts laws) e (instance_facts σ fs)) m (λ k. (h, Member.here, ap (λ (z : Fact). z.name) k)) (λ k. let r = (shown_by laws) e σ fs f k in (r.0, Member.later r.1, r.2))
  where
    shown_first : {C : Type 0} (x : Fact) (xs : List Fact) → Member f (x ∷ xs) → (f ≡ x → C) → (Member f xs → C) → C
    shown_first x xs Member.here one rest = one refl
    shown_first x xs (Member.later k) one rest = rest k

from_step : (laws : Laws) → {g : Sig} {rules : List Rule} {s z : RuleState} {acts : List Fact} → RuleStep g rules s acts z → (f : Fact) → Member f acts → FromRules rules f
from_step laws (RuleStep.makes_name n u) f m = elim m [ ]
from_step laws (RuleStep.learns k x takes) f m = elim m [ ]
from_step laws (RuleStep.owns k n takes) f m = elim m [ ]
from_step laws (RuleStep.knows_public a) f m = elim m [ ]
from_step laws (RuleStep.applies h ts x p a all n) f m = elim m [ ]
from_step laws (RuleStep.gives x l) f m = inl (ap (λ (z : Fact). z.name) (only_member m))
from_step laws {g} {rules} (RuleStep.uses r ks σ left acts right l takes fits) f m =
    let h = (shown_by laws) (equations g) σ r.acts f (subst (λ fs. Member f fs) ((forms_are_facts laws) (equations g) (instance_facts σ r.acts) acts fits.shows) m) in
    inr (r, member r rules l, h.0, h.1, h.2)

from_rules : (laws : Laws) → {g : Sig} {rules : List Rule} {s : RuleState} {full : Trace} → RuleRun g rules s full → (k : ℕ) (f : Fact) → ShowsAt full k f → FromRules rules f
from_rules laws RuleRun.starts k f m = absurd (let z = m.1 in cc)
from_rules laws (RuleRun.further {full = full} {acts = acts} run step) k f m = elim (has_where full acts k f m) [
  | old before a ↦ (from_rules laws) run k f a
  | new same a ↦ (from_step laws) step f a
]

-- no place has a fact of the name
abbrev NoFact : List ℕ → Trace → Type 0
NoFact n tr = (k : ℕ) (f : Fact) → ShowsAt tr k f → f.name ≡ n → ⊥

no_fact : (laws : Laws) → {g : Sig} {rules : List Rule} {s : RuleState} {full : Trace} (n : List ℕ) → bytes_eq n n ≡ true → bytes_eq (codes "K") n ≡ false → shows n rules ≡ false → RuleRun g rules s full → NoFact n full
no_fact laws {rules = rules} n same k_apart silent run k f m e = elim ((from_rules laws) run k f m) [
  | inl a ↦ let z : true ≡ false = sym same ∙ ap (λ x. bytes_eq x n) (sym e ∙ a) ∙ k_apart in cc
  | inr w ↦ let z : true ≡ false = sym same ∙ ap (λ x. bytes_eq x n) (sym e ∙ w.4) ∙ silent_member n rules w.0 w.2 silent w.1 w.3 in cc
]

module _ (laws : Laws) (g : Sig) (p : Proc) (s : RuleState) (full : Trace) (over : IsProcessOver g p) (run : RuleRun g (rules_of p) s full) where
  lacks : (n : List ℕ) (P : Proc → Bool) → bytes_eq n n ≡ true → bytes_eq (codes "K") n ≡ false → bytes_eq (codes "Init") n ≡ false → ((path : List ℕ) (v : List Var) (p : Proc) → P p ≡ false → HeadOver g p → shows n (own_rules path v p) ≡ false) → has P p ≡ false → NoneShows n full
  lacks n P same k_apart init_apart heads h =
      let none = (no_fact laws) n same k_apart (or_both (bytes_eq (codes "Init") n || false) (shows n (place_rules [] [] p)) (or_both (bytes_eq (codes "Init") n) false init_apart refl) (places_silent g n P heads [] [] p h over)) run in
      λ k f m e. none k f (shown_to full k f m) e

  -- what the process doesn't need speaks of a fact that no place shows
  quiet : (w : Which) → needs w p ≡ false → NoneShows (premise_name w) full
  quiet Init h = absurd (let z : true ≡ false = h in cc)
  quiet Eq h = lacks (codes "Eq") is_test refl refl refl (eq_heads g) h
  quiet NotEq h = lacks (codes "NotEq") is_test refl refl refl (noteq_heads g) h
  quiet In h = lacks (codes "IsIn") is_lookup refl refl refl (isin_heads g) h
  quiet NotIn h = lacks (codes "IsNotSet") is_lookup refl refl refl (notset_heads g) h
  quiet Lock h = lacks (codes "Lock") is_lock refl refl refl (lock_heads g) h
  quiet InEv h = lacks (codes "InEvent") is_input refl refl refl (input_heads g) h

  covered : (w : Which) → Contains (needed p) w ⊎ NoneShows (premise_name w) full
  covered w = elim (laws.needs w p) [ inl a ↦ inl a | inr h ↦ inr (quiet w h) ]

  -- as formulas under their names
  each_named : (ws : List Which) → EachIn (λ w. IsTrueOn g (standard w) full) ws → AreRestrictionsTrue g (map named ws) full
  each_named [] h = tt
  each_named (w ∷ ws) h = (h.0, each_named ws h.1)

  named_each : (ws : List Which) → AreRestrictionsTrue g (map named ws) full → EachIn (λ w. IsTrueOn g (standard w) full) ws
  named_each [] h = tt
  named_each (w ∷ ws) h = (h.0, named_each ws h.1)

  -- the needed restrictions are true exactly where all seven are
  pub needed_to : AreRestrictionsTrue g (needed_restrictions p) full → IsAdmitted g full
  needed_to h = (laws.needed (needed p) g full covered).1 (named_each (needed p) h)

  pub needed_from : IsAdmitted g full → AreRestrictionsTrue g (needed_restrictions p) full
  needed_from h = each_named (needed p) ((laws.needed (needed p) g full covered).0 h)
