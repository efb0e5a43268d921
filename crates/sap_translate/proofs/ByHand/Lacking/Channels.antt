-- Once the one receiver has shown its event, no other sender comes further: nobody acknowledges it.
use Rattle.std.proofs.Common.{◌≡◌, ◌⊎◌, inl, inr, ℕ, zero, suc, List, [], ◌∷◌, ◌++◌, Some, None, refl, sym, ap, subst, ◌∙◌, slice_get, slice_set}
use Rattle.std.specs.Prelude.{codes}
use Rattle.sap_terms.specs.AdversaryFacts.{k_fact}
use Rattle.sap_terms.specs.Signature.{Sig, HoldsBuiltins}
use Rattle.sap_terms.specs.Tree.{Tree, fresh}
use Rattle.sap_terms.specs.Variables.{tree_vars}
use Rattle.sap_terms.specs.declared.fact.Fact.{Fact}
use Rattle.sap_process.specs.Action as action
use Rattle.sap_process.specs.Configuration.{Config, initial}
use Rattle.sap_process.specs.Proc as whole
use Rattle.sap_process.specs.Proc.{Proc, act}
use Rattle.sap_process.specs.ProcessSteps.{ProcessStep, IsProcessTrace, with_term, with_choice}
use Rattle.sap_translate.specs.Examples.{g_fact, first_fact, second_fact, two_senders}
use Rattle.sap_translate.specs.Faithful.{IsVisibleTrace}
use Rattle.sap_templates.specs.Templates.{rules_of}
use Rattle.sap_translate.proofs.Premises.LowerLaws.{Laws}
use Rattle.sap_translate.proofs.ByHand.Parts.{rules_show_only}
use Rattle.sap_translate.proofs.ByHand.Channels.{senders_sound, senders_over}
use Rattle.sap_translate.proofs.ByHand.Moves.{Moves, past_first, head_name, apart, unlike, not_the_one, is_the_one, AtMostOne, OneAt, stays_other, stays_one, comes_other, comes_one, none_left, only_item, no_item}
use Rattle.sap_translate.proofs.Shared.Lookups.{Every, every-set, every_push}

-- no receiver, and nothing but the first event before a sender
abbrev Stuck : Proc → Type 0
Stuck whole.nil = Unit {0}
Stuck (whole.parallel p q) = Stuck p × Stuck q
Stuck (whole.replicated p) = ⊥
Stuck (act (action.new x) p) = ⊥
Stuck (act (action.out m) p) = ⊥
Stuck (act (action.send m n) p) = Unit {0}
Stuck (act (action.input m) p) = ⊥
Stuck (act (action.receive m n) p) = ⊥
Stuck (act (action.event f) p) = (f.name ≡ codes "E1") × Stuck p
Stuck (act (action.insert m n) p) = ⊥
Stuck (act (action.delete m) p) = ⊥
Stuck (act (action.lock m i) p) = ⊥
Stuck (act (action.unlock m i) p) = ⊥
Stuck (act (action.embedded l a r) p) = ⊥
Stuck (whole.test m n p q) = ⊥
Stuck (whole.lookup m x p q) = ⊥

-- the senders and what is left of them, before the first event of the second
abbrev Sends : Proc → Type 0
Sends whole.nil = Unit {0}
Sends (whole.parallel p q) = Sends p × Sends q
Sends (whole.replicated p) = ⊥
Sends (act (action.new x) p) = ⊥
Sends (act (action.out m) p) = ⊥
Sends (act (action.send m n) p) = p ≡ whole.nil
Sends (act (action.input m) p) = ⊥
Sends (act (action.receive m n) p) = ⊥
Sends (act (action.event f) p) = (f.name ≡ codes "E1") × Stuck p
Sends (act (action.insert m n) p) = ⊥
Sends (act (action.delete m) p) = ⊥
Sends (act (action.lock m i) p) = ⊥
Sends (act (action.unlock m i) p) = ⊥
Sends (act (action.embedded l a r) p) = ⊥
Sends (whole.test m n p q) = ⊥
Sends (whole.lookup m x p q) = ⊥

-- the receiver, what it is made from, and what is left of it
abbrev Receives : Proc → Type 0
Receives whole.nil = ⊥
Receives (whole.parallel p q) = (Sends p × Receives q) ⊎ (Receives p × Sends q)
Receives (whole.replicated p) = ⊥
Receives (act (action.new x) p) = act (action.new x) p ≡ two_senders
Receives (act (action.out m) p) = ⊥
Receives (act (action.send m n) p) = ⊥
Receives (act (action.input m) p) = ⊥
Receives (act (action.receive m n) p) = p ≡ act (action.event g_fact) whole.nil
Receives (act (action.event f) p) = (f.name ≡ codes "G") × (p ≡ whole.nil)
Receives (act (action.insert m n) p) = ⊥
Receives (act (action.delete m) p) = ⊥
Receives (act (action.lock m i) p) = ⊥
Receives (act (action.unlock m i) p) = ⊥
Receives (act (action.embedded l a r) p) = ⊥
Receives (whole.test m n p q) = ⊥
Receives (whole.lookup m x p q) = ⊥

sends_stuck : (p : Proc) → Sends p → Stuck p
sends_stuck whole.nil h = tt
sends_stuck (whole.parallel p q) h = (sends_stuck p h.0, sends_stuck q h.1)
sends_stuck (act (action.send m n) p) h = tt
sends_stuck (act (action.event f) p) h = h
sends_stuck (whole.replicated p) h = h
sends_stuck (act (action.new x) p) h = h
sends_stuck (act (action.out m) p) h = h
sends_stuck (act (action.input m) p) h = h
sends_stuck (act (action.receive m n) p) h = h
sends_stuck (act (action.insert m n) p) h = h
sends_stuck (act (action.delete m) p) h = h
sends_stuck (act (action.lock m i) p) h = h
sends_stuck (act (action.unlock m i) p) h = h
sends_stuck (act (action.embedded l a r) p) h = h
sends_stuck (whole.test m n p q) h = h
sends_stuck (whole.lookup m x p q) h = h

abbrev Before : Config → Type 0
Before c = AtMostOne Receives Sends c.threads

abbrev After : Config → Type 0
After c = Every Stuck c.threads

-- what is made of the process with a new name
abbrev named : ℕ → Proc → Proc
named n (act (action.new x) p) = with_term x (fresh n) p
named n p = p

receives_named : (n : ℕ) → Receives (named n two_senders)
receives_named n = inl (refl, inr (refl, (refl, tt)))

split_receiver : (c : Config) (p q : Proc) (k t : ℕ) → OneAt Receives Sends c.threads k → t ≡ k → (Sends p × Receives q) ⊎ (Receives p × Sends q)
    → AtMostOne Receives Sends (slice_set c.threads t (Some p) ++ Some q ∷ [])
split_receiver c p q k t one at (inl h) =
    comes_one Receives Sends (slice_set c.threads t (Some p)) q (none_left Receives Sends c.threads k one t (Some p) at (only_item Sends p h.0)) h.1
split_receiver c p q k t one at (inr h) =
    (k, comes_other Receives Sends (slice_set c.threads t (Some p)) k (stays_one Receives Sends c.threads k one t (Some p) at (only_item Receives p h.0)) q h.1)

split_one : (c : Config) (p q : Proc) (k t : ℕ) → OneAt Receives Sends c.threads k → ((t ≡ k) × ((Sends p × Receives q) ⊎ (Receives p × Sends q))) ⊎ (Sends p × Sends q)
    → AtMostOne Receives Sends (slice_set c.threads t (Some p) ++ Some q ∷ [])
split_one c p q k t one (inl h) = split_receiver c p q k t one h.0 h.1
split_one c p q k t one (inr h) =
    (k, comes_other Receives Sends (slice_set c.threads t (Some p)) k (stays_other Receives Sends c.threads k one t (Some p) (only_item Sends p h.0)) q h.1)

-- the receiver's event is shown, and no receiver is left
shown_by : (c : Config) (f h : Fact) (p : Proc) (k t : ℕ) → OneAt Receives Sends c.threads k → ((t ≡ k) × ((f.name ≡ codes "G") × (p ≡ whole.nil))) ⊎ ((f.name ≡ codes "E1") × Stuck p)
    → h.name ≡ f.name → h ∷ [] ≡ g_fact ∷ [] → Every Stuck (slice_set c.threads t (Some p))
shown_by c f h p k t one (inl is) name e =
    let ends : Sends p = subst Sends (sym is.1.1) tt in
    λ j a r. sends_stuck a (none_left Receives Sends c.threads k one t (Some p) is.0 (only_item Sends p ends) j a r)
shown_by c f h p k t one (inr is) name e = apart (codes "E1") (codes "G") refl refl (sym is.0 ∙ (sym name ∙ ap head_name e))

before_moves : (g : Sig) → Moves g Before (g_fact ∷ []) After
before_moves g c _ _ is (ProcessStep.ends t r) = (is.0, stays_other Receives Sends c.threads is.0 is.1 t None (no_item Sends))
before_moves g c _ _ is (ProcessStep.splits {p = p} {q = q} t r) = split_one c p q is.0 t is.1 (is.1 t _ r)
before_moves g _ _ _ is (ProcessStep.copies t r) = absurd (not_the_one (is.1 t _ r))
before_moves g c _ _ is (ProcessStep.makes_name {x = x} {p = p} t n r u) =
    let here = is_the_one (is.1 t _ r) in
    let new : Receives (with_term x (fresh n) p) = subst Receives (sym (ap (named n) here.1)) (receives_named n) in
    (is.0, stays_one Receives Sends c.threads is.0 is.1 t (Some (with_term x (fresh n) p)) here.0 (only_item Receives _ new))
before_moves g _ _ _ is (ProcessStep.outputs t r f) = absurd (not_the_one (is.1 t _ r))
before_moves g _ _ _ is (ProcessStep.outputs_on {k = k} t r f i u) = unlike (k_fact k ∷ []) (g_fact ∷ []) refl refl
before_moves g _ _ _ is (ProcessStep.inputs {x = x} t σ r k f) = unlike (k_fact x ∷ []) (g_fact ∷ []) refl refl
before_moves g _ _ _ is (ProcessStep.inputs_on {x = x} t σ r k m e) = unlike (k_fact x ∷ []) (g_fact ∷ []) refl refl
before_moves g c _ _ is (ProcessStep.meets {r = m} {p = p} {q = q} s t σ r z e f) =
    let sent = not_the_one (is.1 s _ r) in
    let got = is_the_one (is.1 t _ z) in
    let left : Sends p = subst Sends (sym sent) tt in
    let next : Receives (with_choice σ (tree_vars m) q) = subst (λ w. Receives (with_choice σ (tree_vars m) w)) (sym got.1) (refl, refl) in
    (is.0, stays_one Receives Sends (slice_set c.threads s (Some p)) is.0 (stays_other Receives Sends c.threads is.0 is.1 s (Some p) (only_item Sends p left)) t (Some (with_choice σ (tree_vars m) q)) got.0 (only_item Receives _ next))
before_moves g _ _ _ is (ProcessStep.agrees t r e) = absurd (not_the_one (is.1 t _ r))
before_moves g _ _ _ is (ProcessStep.differs t r e) = absurd (not_the_one (is.1 t _ r))
before_moves g c _ _ is (ProcessStep.shows {f = f} {h = h} {p = p} t r form) = shown_by c f h p is.0 t is.1 (is.1 t _ r) form.name
before_moves g _ _ _ is (ProcessStep.inserts t r k f) = absurd (not_the_one (is.1 t _ r))
before_moves g _ _ _ is (ProcessStep.deletes t r k) = absurd (not_the_one (is.1 t _ r))
before_moves g _ _ _ is (ProcessStep.finds t r k s) = absurd (not_the_one (is.1 t _ r))
before_moves g _ _ _ is (ProcessStep.misses t r k s) = absurd (not_the_one (is.1 t _ r))
before_moves g _ _ _ is (ProcessStep.locks t r k f) = absurd (not_the_one (is.1 t _ r))
before_moves g _ _ _ is (ProcessStep.unlocks t r k) = absurd (not_the_one (is.1 t _ r))
before_moves g _ _ _ is (ProcessStep.embeds t ks σ left acts right r m e k s a) = absurd (not_the_one (is.1 t _ r))
before_moves g _ _ _ is (ProcessStep.adversary_makes n u) = is
before_moves g _ _ _ is (ProcessStep.knows x k) = unlike (k_fact x ∷ []) (g_fact ∷ []) refl refl

-- nobody but the second sender has shown anything
abbrev Told : List Fact → Config → Type 0
Told l d = Every Stuck d.threads × (head_name l ≡ codes "E1")

after_moves : (g : Sig) (l : List Fact) → ((t : Tree) → k_fact t ∷ [] ≡ l → ⊥) → Moves g After l (Told l)
after_moves g l other c _ _ all (ProcessStep.ends t r) = every-set Stuck c.threads t None all (no_item Stuck)
after_moves g l other c _ _ all (ProcessStep.splits {p = p} {q = q} t r) = every_push Stuck (slice_set c.threads t (Some p)) q (every-set Stuck c.threads t (Some p) all (only_item Stuck p (all t _ r).0)) (all t _ r).1
after_moves g l other _ _ _ all (ProcessStep.copies t r) = absurd (all t _ r)
after_moves g l other _ _ _ all (ProcessStep.makes_name t n r u) = absurd (all t _ r)
after_moves g l other _ _ _ all (ProcessStep.outputs t r f) = absurd (all t _ r)
after_moves g l other _ _ _ all (ProcessStep.outputs_on {k = k} t r f i u) = λ e. absurd (other k e)
after_moves g l other _ _ _ all (ProcessStep.inputs t σ r k f) = absurd (all t _ r)
after_moves g l other _ _ _ all (ProcessStep.inputs_on t σ r k m e) = absurd (all t _ r)
after_moves g l other _ _ _ all (ProcessStep.meets s t σ r z e f) = absurd (all t _ z)
after_moves g l other _ _ _ all (ProcessStep.agrees t r e) = absurd (all t _ r)
after_moves g l other _ _ _ all (ProcessStep.differs t r e) = absurd (all t _ r)
after_moves g l other c _ _ all (ProcessStep.shows {h = h} {p = p} t r form) =
    λ e. (every-set Stuck c.threads t (Some p) all (only_item Stuck p (all t _ r).1), sym (ap head_name e) ∙ (form.name ∙ (all t _ r).0))
after_moves g l other _ _ _ all (ProcessStep.inserts t r k f) = absurd (all t _ r)
after_moves g l other _ _ _ all (ProcessStep.deletes t r k) = absurd (all t _ r)
after_moves g l other _ _ _ all (ProcessStep.finds t r k s) = absurd (all t _ r)
after_moves g l other _ _ _ all (ProcessStep.misses t r k s) = absurd (all t _ r)
after_moves g l other _ _ _ all (ProcessStep.locks t r k f) = absurd (all t _ r)
after_moves g l other _ _ _ all (ProcessStep.unlocks t r k) = absurd (all t _ r)
after_moves g l other _ _ _ all (ProcessStep.embeds t ks σ left acts right r m e k s a) = absurd (all t _ r)
after_moves g l other _ _ _ all (ProcessStep.adversary_makes n u) = all
after_moves g l other _ _ _ all (ProcessStep.knows x k) = λ e. absurd (other x e)

first : Before (initial two_senders)
first = (0, λ j a e. at j a e)
  where
    at : (j : ℕ) (a : Proc) → slice_get (Some two_senders ∷ []) j ≡ Some (Some a) → ((j ≡ 0) × Receives a) ⊎ Sends a
    at zero a e = inl (refl, subst Receives (let z : two_senders ≡ a = cc in z) refl)
    at (suc j) a e = absurd (cc)

pub never_both : (g : Sig) → IsProcessTrace g two_senders ((g_fact ∷ []) ∷ (first_fact ∷ []) ∷ (second_fact ∷ []) ∷ []) → ⊥
never_both g is =
    let got = past_first (before_moves g) first is.1 ((first_fact ∷ []) ∷ (second_fact ∷ []) ∷ []) refl in
    let told = past_first (after_moves g (first_fact ∷ []) (λ t. unlike (k_fact t ∷ []) (first_fact ∷ []) refl refl)) got.is got.rest ((second_fact ∷ []) ∷ []) refl in
    let last = past_first (after_moves g (second_fact ∷ []) (λ t. unlike (k_fact t ∷ []) (second_fact ∷ []) refl refl)) told.is.0 told.rest [] refl in
    apart (codes "E2") (codes "E1") refl refl last.is.1

pub never_both_rules : (laws : Laws) → (g : Sig) → HoldsBuiltins g → IsVisibleTrace g (rules_of two_senders) ((g_fact ∷ []) ∷ (first_fact ∷ []) ∷ (second_fact ∷ []) ∷ []) → ⊥
never_both_rules laws g hold w = never_both g ((rules_show_only laws) g two_senders hold (senders_sound g) (senders_over g) _ w)
