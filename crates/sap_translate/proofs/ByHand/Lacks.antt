-- Traces that small processes and their rules lack.
use Rattle.std.proofs.Common.{◌≡◌, ◌⊎◌, inl, inr, ℕ, zero, suc, List, [], ◌∷◌, Some, None, true, false, refl, sym, ap, subst, slice_set}
use Rattle.std.specs.Prelude.{codes, Contains}
use Rattle.std.specs.Str.{bytes_eq}
use Rattle.sap_terms.specs.AdversaryFacts.{k_fact}
use Rattle.sap_terms.specs.Choice.{Choice}
use Rattle.sap_terms.specs.Signature.{Sig, HoldsBuiltins}
use Rattle.sap_terms.specs.Trace.{Trace, shown}
use Rattle.sap_terms.specs.Tree.{fresh}
use Rattle.sap_terms.specs.Variables.{tree_vars}
use Rattle.sap_terms.specs.declared.fact.Fact.{Fact}
use Rattle.sap_process.specs.Action as action
use Rattle.sap_process.specs.Action.{Action}
use Rattle.sap_process.specs.Configuration.{Config, initial}
use Rattle.sap_process.specs.Instance.{action_instance, behind, process_instance, without}
use Rattle.sap_process.specs.Proc as whole
use Rattle.sap_process.specs.Proc.{Proc, act}
use Rattle.sap_process.specs.ProcessSteps.{ProcessStep, ProcessRun, IsProcessTrace, chosen}
use Rattle.sap_translate.specs.Examples.{copied_twice, locked_test, plain_fact, no_fact, twins}
use Rattle.sap_translate.specs.Faithful.{IsVisibleTrace}
use Rattle.sap_translate.specs.Members.{Member}
use Rattle.sap_templates.specs.Templates.{rules_of}
use Rattle.sap_translate.proofs.ByHand.Channels.{test_sound, test_over}
use Rattle.sap_translate.proofs.ByHand.Moves.{only_item, no_item}
use Rattle.sap_translate.proofs.ByHand.Pairs.{pattern_sound}
use Rattle.sap_translate.proofs.ByHand.Parts.{sound_by_parts, rules_show_only}
use Rattle.sap_translate.proofs.Shared.Lookups.{Every, every-set, every_push, member_cases, in_left, in_right, only_member}
use Rattle.sap_translate.proofs.Premises.LowerLaws.{Laws}
use Rattle.sap_translate.proofs.Terms.Derive.{member}

-- the name of each event is of these, and no rule is embedded
abbrev ShowsHere : (List ℕ → Type 0) → Action → Type 0
ShowsHere S (action.event f) = S f.name
ShowsHere S (action.embedded l a r) = ⊥
ShowsHere S _ = Unit {0}

abbrev Shows : (List ℕ → Type 0) → Proc → Type 0
Shows S whole.nil = Unit {0}
Shows S (whole.parallel p q) = Shows S p × Shows S q
Shows S (whole.replicated p) = Shows S p
Shows S (act a p) = ShowsHere S a × Shows S p
Shows S (whole.test m n p q) = Shows S p × Shows S q
Shows S (whole.lookup m x p q) = Shows S p × Shows S q

here_instance : (S : List ℕ → Type 0) (σ : Choice) (a : Action) → ShowsHere S a → ShowsHere S (action_instance σ a)
here_instance S σ (action.new x) h = tt
here_instance S σ (action.out m) h = tt
here_instance S σ (action.send m n) h = tt
here_instance S σ (action.input m) h = tt
here_instance S σ (action.receive m n) h = tt
here_instance S σ (action.event f) h = h
here_instance S σ (action.insert m n) h = tt
here_instance S σ (action.delete m) h = tt
here_instance S σ (action.lock m i) h = tt
here_instance S σ (action.unlock m i) h = tt
here_instance S σ (action.embedded l a r) h = h

shows_instance : (S : List ℕ → Type 0) (σ : Choice) (p : Proc) → Shows S p → Shows S (process_instance σ p)
shows_instance S σ whole.nil h = tt
shows_instance S σ (whole.parallel p q) h = (shows_instance S σ p h.0, shows_instance S σ q h.1)
shows_instance S σ (whole.replicated p) h = shows_instance S σ p h
shows_instance S σ (act a p) h = (here_instance S σ a h.0, shows_instance S (behind σ a) p h.1)
shows_instance S σ (whole.test m n p q) h = (shows_instance S σ p h.0, shows_instance S σ q h.1)
shows_instance S σ (whole.lookup m x p q) h = (shows_instance S (without σ x) p h.0, shows_instance S σ q h.1)

-- what is shown is of these, or what the adversary knows
abbrev Tells : (List ℕ → Type 0) → List Fact → Type 0
Tells S fs = (f : Fact) → Member f fs → S f.name ⊎ (f.name ≡ codes "K")

tells_nothing : (S : List ℕ → Type 0) → Tells S []
tells_nothing S f m = elim m [ ]

tells_one : (S : List ℕ → Type 0) (h : Fact) → S h.name ⊎ (h.name ≡ codes "K") → Tells S (h ∷ [])
tells_one S h is f m = subst (λ z. S z.name ⊎ (z.name ≡ codes "K")) (sym (only_member m)) is

module _ (S : List ℕ → Type 0) where
  goes_on : (c : Config) (t : ℕ) (p : Proc) → Every (Shows S) c.threads → Shows S p → Every (Shows S) (slice_set c.threads t (Some p))
  goes_on c t p all h = every-set (Shows S) c.threads t (Some p) all (only_item (Shows S) p h)

  step_tells : (g : Sig) (c d : Config) (label : List Fact) → Every (Shows S) c.threads → ProcessStep g c label d → Every (Shows S) d.threads × Tells S label
  step_tells g c _ _ all (ProcessStep.ends t r) = (every-set (Shows S) c.threads t None all (no_item (Shows S)), tells_nothing S)
  step_tells g c _ _ all (ProcessStep.splits {p = p} {q = q} t r) = (every_push (Shows S) (slice_set c.threads t (Some p)) q (goes_on c t p all (all t _ r).0) (all t _ r).1, tells_nothing S)
  step_tells g c _ _ all (ProcessStep.copies {p = p} t r) = (every_push (Shows S) c.threads p all (all t _ r), tells_nothing S)
  step_tells g c _ _ all (ProcessStep.makes_name {x = x} {p = p} t n r u) = (goes_on c t _ all (shows_instance S (chosen (λ v. fresh n) (x ∷ [])) p (all t _ r).1), tells_nothing S)
  step_tells g c _ _ all (ProcessStep.outputs t r f) = (goes_on c t _ all (all t _ r).1, tells_nothing S)
  step_tells g c _ _ all (ProcessStep.outputs_on t r f k u) = (goes_on c t _ all (all t _ r).1, tells_one S (k_fact _) (inr refl))
  step_tells g c _ _ all (ProcessStep.inputs {n = n} {p = p} t σ r k f) = (goes_on c t _ all (shows_instance S (chosen σ (tree_vars n)) p (all t _ r).1), tells_one S (k_fact _) (inr refl))
  step_tells g c _ _ all (ProcessStep.inputs_on {n = n} {p = p} t σ r k m e) = (goes_on c t _ all (shows_instance S (chosen σ (tree_vars n)) p (all t _ r).1), tells_one S (k_fact _) (inr refl))
  step_tells g c _ _ all (ProcessStep.meets {r = m} {p = p} {q = q} s t σ r z e f) = (
    every-set (Shows S) (slice_set c.threads s (Some p)) t _ (goes_on c s p all (all s _ r).1) (only_item (Shows S) _ (shows_instance S (chosen σ (tree_vars m)) q (all t _ z).1)),
    tells_nothing S,
  )
  step_tells g c _ _ all (ProcessStep.agrees t r e) = (goes_on c t _ all (all t _ r).0, tells_nothing S)
  step_tells g c _ _ all (ProcessStep.differs t r e) = (goes_on c t _ all (all t _ r).1, tells_nothing S)
  step_tells g c _ _ all (ProcessStep.shows {h = h} t r form) = (goes_on c t _ all (all t _ r).1, tells_one S h (inl (subst S (sym form.name) (all t _ r).0)))
  step_tells g c _ _ all (ProcessStep.inserts t r k f) = (goes_on c t _ all (all t _ r).1, tells_nothing S)
  step_tells g c _ _ all (ProcessStep.deletes t r k) = (goes_on c t _ all (all t _ r).1, tells_nothing S)
  step_tells g c _ _ all (ProcessStep.finds {v = v} {x = x} {p = p} t r k s) = (goes_on c t _ all (shows_instance S (chosen (λ w. v) (x ∷ [])) p (all t _ r).0), tells_nothing S)
  step_tells g c _ _ all (ProcessStep.misses t r k s) = (goes_on c t _ all (all t _ r).1, tells_nothing S)
  step_tells g c _ _ all (ProcessStep.locks t r k f) = (goes_on c t _ all (all t _ r).1, tells_nothing S)
  step_tells g c _ _ all (ProcessStep.unlocks t r k) = (goes_on c t _ all (all t _ r).1, tells_nothing S)
  step_tells g c _ _ all (ProcessStep.embeds t ks σ left acts right r m e k s a) = absurd ((all t _ r).0)
  step_tells g c _ _ all (ProcessStep.adversary_makes n u) = (all, tells_nothing S)
  step_tells g c _ _ all (ProcessStep.knows x k) = (all, tells_one S (k_fact _) (inr refl))

  shown_tells : (label : List Fact) → Tells S label → (fs : List Fact) → Member fs (shown label) → Tells S fs
  shown_tells [] h fs m = elim m [ ]
  shown_tells (f ∷ label) h fs m = subst (Tells S) (sym (only_member m)) h

run_tells : {g : Sig} {p : Proc} {c : Config} {tr : Trace} (S : List ℕ → Type 0) → Shows S p → ProcessRun g (initial p) c tr → Every (Shows S) c.threads × ((fs : List Fact) → Member fs tr → Tells S fs)
run_tells {p = p} S h ProcessRun.starts = (first, λ fs m. elim m [ ]) where
  first : Every (Shows S) (Some p ∷ [])
  first zero a e = only_item (Shows S) p h a (let z : Some p ≡ Some a = cc in z)
  first (suc t) a e = absurd (cc)
run_tells {g = g} S h (ProcessRun.further {c = c} {d = d} {tr = tr} {label = label} run step) =
    let before = run_tells S h run in
    let now = step_tells S g c d label before.0 step in
    (now.0, λ fs m. elim (member_cases tr (shown label) m) [ in_left a ↦ before.1 fs a | in_right b ↦ shown_tells S label now.1 fs b ])

abbrev IsA : List ℕ → Type 0
IsA n = n ≡ codes "A"

not_no : (no_fact.name ≡ codes "A") ⊎ (no_fact.name ≡ codes "K") → ⊥
not_no (inl e) = let z : false ≡ true = ap (λ n. bytes_eq n (codes "A")) e in cc
not_no (inr e) = let z : false ≡ true = ap (λ n. bytes_eq n (codes "K")) e in cc

pub never_no : (g : Sig) → IsProcessTrace g copied_twice ((no_fact ∷ []) ∷ []) → ⊥
never_no g is = not_no ((run_tells {p = copied_twice} IsA (refl, tt) is.1).1 (no_fact ∷ []) Member.here no_fact Member.here)

pub never_no_rules : (laws : Laws) → (g : Sig) → HoldsBuiltins g → IsVisibleTrace g (rules_of copied_twice) ((no_fact ∷ []) ∷ []) → ⊥
never_no_rules laws g hold w = never_no g ((rules_show_only laws) g copied_twice hold (sound_by_parts g copied_twice ((refl, tt), tt) tt) ((refl, tt), tt) _ w)

pub never_later : (g : Sig) → IsProcessTrace g copied_twice ((plain_fact ∷ []) ∷ (no_fact ∷ []) ∷ []) → ⊥
never_later g is = not_no ((run_tells {p = copied_twice} IsA (refl, tt) is.1).1 (no_fact ∷ []) (Member.later Member.here) no_fact Member.here)

pub never_later_rules : (laws : Laws) → (g : Sig) → HoldsBuiltins g → IsVisibleTrace g (rules_of copied_twice) ((plain_fact ∷ []) ∷ (no_fact ∷ []) ∷ []) → ⊥
never_later_rules laws g hold w = never_later g ((rules_show_only laws) g copied_twice hold (sound_by_parts g copied_twice ((refl, tt), tt) tt) ((refl, tt), tt) _ w)

-- without an event nothing is shown but what the adversary knows
abbrev Nothing : List ℕ → Type 0
Nothing n = ⊥

left_only : {A : Type 0} → ⊥ ⊎ A → A
left_only (inl e) = absurd e
left_only (inr a) = a

known_alone : (g : Sig) (p : Proc) → Shows Nothing p → (tr : Trace) (fs : List Fact) (f : Fact) → IsProcessTrace g p tr → Contains tr fs → Contains fs f → f.name ≡ codes "K"
known_alone g p h tr fs f is m n = left_only ((run_tells {p = p} Nothing h is.1).1 fs (member fs tr m) f (member f fs n))

pub twins_known_alone : (g : Sig) (tr : Trace) (fs : List Fact) (f : Fact) → IsProcessTrace g twins tr → Contains tr fs → Contains fs f → f.name ≡ codes "K"
twins_known_alone g = known_alone g twins (tt, tt)

pub locks_known_alone : (g : Sig) (tr : Trace) (fs : List Fact) (f : Fact) → IsProcessTrace g locked_test tr → Contains tr fs → Contains fs f → f.name ≡ codes "K"
locks_known_alone g = known_alone g locked_test (tt, (tt, ((tt, tt), tt)))

pub twins_known_alone_rules : (laws : Laws) → (g : Sig) (tr : Trace) (fs : List Fact) (f : Fact) → HoldsBuiltins g → IsVisibleTrace g (rules_of twins) tr → Contains tr fs → Contains fs f → f.name ≡ codes "K"
twins_known_alone_rules laws g tr fs f hold w = twins_known_alone g tr fs f ((rules_show_only laws) g twins hold (pattern_sound g) (tt, tt) tr w)

pub locks_known_alone_rules : (laws : Laws) → (g : Sig) (tr : Trace) (fs : List Fact) (f : Fact) → HoldsBuiltins g → IsVisibleTrace g (rules_of locked_test) tr → Contains tr fs → Contains fs f → f.name ≡ codes "K"
locks_known_alone_rules laws g tr fs f hold w = locks_known_alone g tr fs f ((rules_show_only laws) g locked_test hold (test_sound g) (test_over g) tr w)
