-- An input shows what it takes: two inputs don't go by one time of the adversary.
use Rattle.std.proofs.Common.{◌≡◌, zero, suc, List, [], ◌∷◌, Some, None, refl, sym, ap, subst, slice_set}
use Rattle.std.specs.Prelude.{codes}
use Rattle.sap_terms.specs.AdversaryFacts.{k_fact}
use Rattle.sap_terms.specs.Choice.{Choice}
use Rattle.sap_terms.specs.Signature.{Sig, HoldsBuiltins}
use Rattle.sap_terms.specs.Tree.{Tree}
use Rattle.sap_terms.specs.Variables.{tree_vars}
use Rattle.sap_terms.specs.declared.fact.Fact.{Fact}
use Rattle.sap_process.specs.Action as action
use Rattle.sap_process.specs.Configuration.{Config, initial}
use Rattle.sap_process.specs.Proc as whole
use Rattle.sap_process.specs.Proc.{Proc, act}
use Rattle.sap_process.specs.ProcessSteps.{ProcessStep, IsProcessTrace, with_choice}
use Rattle.sap_translate.specs.Examples.{a_fact, b_fact, two_inputs}
use Rattle.sap_translate.specs.Faithful.{IsVisibleTrace}
use Rattle.sap_templates.specs.Templates.{rules_of}
use Rattle.sap_translate.proofs.Premises.LowerLaws.{Laws}
use Rattle.sap_translate.proofs.ByHand.Traces.{inputs_sound, inputs_over}
use Rattle.sap_translate.proofs.ByHand.Parts.{rules_show_only}
use Rattle.sap_translate.proofs.ByHand.Moves.{Moves, past_first, head_name, apart, unlike, not_the_one, is_the_one, AtMostOne, none_yet, becomes_one, stays_other, comes_other, none_left, only_item, no_item}
use Rattle.sap_translate.proofs.Shared.Lookups.{Every, every-set, every_push}

-- the process waits for an input, behind which it shows one event
abbrev Waits : Proc → Type 0
Waits whole.nil = Unit {0}
Waits (whole.parallel p q) = Waits p × Waits q
Waits (whole.replicated p) = ⊥
Waits (act (action.new x) p) = ⊥
Waits (act (action.out m) p) = ⊥
Waits (act (action.send m n) p) = ⊥
Waits (act (action.input m) p) = (f : Fact) × (p ≡ act (action.event f) whole.nil)
Waits (act (action.receive m n) p) = ⊥
Waits (act (action.event f) p) = ⊥
Waits (act (action.insert m n) p) = ⊥
Waits (act (action.delete m) p) = ⊥
Waits (act (action.lock m i) p) = ⊥
Waits (act (action.unlock m i) p) = ⊥
Waits (act (action.embedded l a r) p) = ⊥
Waits (whole.test m n p q) = ⊥
Waits (whole.lookup m x p q) = ⊥

-- it took its input
abbrev Served : Proc → Type 0
Served (act (action.event f) p) = p ≡ whole.nil
Served _ = ⊥

abbrev NobodyServed : Config → Type 0
NobodyServed c = Every Waits c.threads

abbrev OneServed : Config → Type 0
OneServed c = AtMostOne Served Waits c.threads

served_input : {f : Fact} (σ : Choice) (m : Tree) (p : Proc) → p ≡ act (action.event f) whole.nil → Served (with_choice σ (tree_vars m) p)
served_input σ m p e = subst (λ w. Served (with_choice σ (tree_vars m) w)) (sym e) refl

abbrev Taken : List Fact → Config → Type 0
Taken l d = OneServed d × (head_name l ≡ codes "K")

nobody_moves : (g : Sig) (l : List Fact) → Moves g NobodyServed l (Taken l)
nobody_moves g l c _ _ all (ProcessStep.ends t r) = every-set Waits c.threads t None all (no_item Waits)
nobody_moves g l c _ _ all (ProcessStep.splits {p = p} {q = q} t r) = every_push Waits (slice_set c.threads t (Some p)) q (every-set Waits c.threads t (Some p) all (only_item Waits p (all t _ r).0)) (all t _ r).1
nobody_moves g l _ _ _ all (ProcessStep.copies t r) = absurd (all t _ r)
nobody_moves g l _ _ _ all (ProcessStep.makes_name t n r u) = absurd (all t _ r)
nobody_moves g l _ _ _ all (ProcessStep.outputs t r f) = absurd (all t _ r)
nobody_moves g l _ _ _ all (ProcessStep.outputs_on t r f k u) = absurd (all t _ r)
nobody_moves g l c _ _ all (ProcessStep.inputs {n = n} {p = p} t σ r k f) =
    λ e. (becomes_one Served Waits c.threads t (Some (with_choice σ (tree_vars n) p)) all (only_item Served _ (served_input σ n p (all t _ r).1)), sym (ap head_name e))
nobody_moves g l _ _ _ all (ProcessStep.inputs_on t σ r k m e) = absurd (all t _ r)
nobody_moves g l _ _ _ all (ProcessStep.meets s t σ r z e f) = absurd (all s _ r)
nobody_moves g l _ _ _ all (ProcessStep.agrees t r e) = absurd (all t _ r)
nobody_moves g l _ _ _ all (ProcessStep.differs t r e) = absurd (all t _ r)
nobody_moves g l _ _ _ all (ProcessStep.shows t r form) = absurd (all t _ r)
nobody_moves g l _ _ _ all (ProcessStep.inserts t r k f) = absurd (all t _ r)
nobody_moves g l _ _ _ all (ProcessStep.deletes t r k) = absurd (all t _ r)
nobody_moves g l _ _ _ all (ProcessStep.finds t r k s) = absurd (all t _ r)
nobody_moves g l _ _ _ all (ProcessStep.misses t r k s) = absurd (all t _ r)
nobody_moves g l _ _ _ all (ProcessStep.locks t r k f) = absurd (all t _ r)
nobody_moves g l _ _ _ all (ProcessStep.unlocks t r k) = absurd (all t _ r)
nobody_moves g l _ _ _ all (ProcessStep.embeds t ks σ left acts right r m e k s a) = absurd (all t _ r)
nobody_moves g l _ _ _ all (ProcessStep.adversary_makes n u) = all
nobody_moves g l c _ _ all (ProcessStep.knows x k) = λ e. (none_yet Served Waits c.threads all, sym (ap head_name e))

one_moves : (g : Sig) (s : Tree) → Moves g OneServed (a_fact s ∷ []) NobodyServed
one_moves g s c _ _ is (ProcessStep.ends t r) = (is.0, stays_other Served Waits c.threads is.0 is.1 t None (no_item Waits))
one_moves g s c _ _ is (ProcessStep.splits {p = p} {q = q} t r) =
    let both = not_the_one (is.1 t _ r) in
    (is.0, comes_other Served Waits (slice_set c.threads t (Some p)) is.0 (stays_other Served Waits c.threads is.0 is.1 t (Some p) (only_item Waits p both.0)) q both.1)
one_moves g s _ _ _ is (ProcessStep.copies t r) = absurd (not_the_one (is.1 t _ r))
one_moves g s _ _ _ is (ProcessStep.makes_name t n r u) = absurd (not_the_one (is.1 t _ r))
one_moves g s _ _ _ is (ProcessStep.outputs t r f) = absurd (not_the_one (is.1 t _ r))
one_moves g s _ _ _ is (ProcessStep.outputs_on t r f k u) = absurd (not_the_one (is.1 t _ r))
one_moves g s _ _ _ is (ProcessStep.inputs {x = x} t σ r k f) = unlike (k_fact x ∷ []) (a_fact s ∷ []) refl refl
one_moves g s _ _ _ is (ProcessStep.inputs_on t σ r k m e) = absurd (not_the_one (is.1 t _ r))
one_moves g s _ _ _ is (ProcessStep.meets u t σ r z e f) = absurd (not_the_one (is.1 u _ r))
one_moves g s _ _ _ is (ProcessStep.agrees t r e) = absurd (not_the_one (is.1 t _ r))
one_moves g s _ _ _ is (ProcessStep.differs t r e) = absurd (not_the_one (is.1 t _ r))
one_moves g s c _ _ is (ProcessStep.shows {p = p} t r form) =
    let here = is_the_one (is.1 t _ r) in
    λ e. none_left Served Waits c.threads is.0 is.1 t (Some p) here.0 (only_item Waits p (subst Waits (sym here.1) tt))
one_moves g s _ _ _ is (ProcessStep.inserts t r k f) = absurd (not_the_one (is.1 t _ r))
one_moves g s _ _ _ is (ProcessStep.deletes t r k) = absurd (not_the_one (is.1 t _ r))
one_moves g s _ _ _ is (ProcessStep.finds t r k v) = absurd (not_the_one (is.1 t _ r))
one_moves g s _ _ _ is (ProcessStep.misses t r k v) = absurd (not_the_one (is.1 t _ r))
one_moves g s _ _ _ is (ProcessStep.locks t r k f) = absurd (not_the_one (is.1 t _ r))
one_moves g s _ _ _ is (ProcessStep.unlocks t r k) = absurd (not_the_one (is.1 t _ r))
one_moves g s _ _ _ is (ProcessStep.embeds t ks σ left acts right r m e k v a) = absurd (not_the_one (is.1 t _ r))
one_moves g s _ _ _ is (ProcessStep.adversary_makes n u) = is
one_moves g s _ _ _ is (ProcessStep.knows x k) = unlike (k_fact x ∷ []) (a_fact s ∷ []) refl refl

start : NobodyServed (initial two_inputs)
start zero a e = only_item Waits two_inputs ((_, refl), (_, refl)) a (let z : Some two_inputs ≡ Some a = cc in z)
start (suc t) a e = absurd (cc)

pub never_served_once : (g : Sig) (s t u : Tree) → IsProcessTrace g two_inputs ((k_fact s ∷ []) ∷ (a_fact t ∷ []) ∷ (b_fact u ∷ []) ∷ []) → ⊥
never_served_once g s t u is =
    let taken = past_first (nobody_moves g (k_fact s ∷ [])) start is.1 ((a_fact t ∷ []) ∷ (b_fact u ∷ []) ∷ []) refl in
    let told = past_first (one_moves g t) taken.is.0 taken.rest ((b_fact u ∷ []) ∷ []) refl in
    let last = past_first (nobody_moves g (b_fact u ∷ [])) told.is told.rest [] refl in
    apart (codes "B") (codes "K") refl refl last.is.1

pub never_served_once_rules : (laws : Laws) → (g : Sig) (s t u : Tree) → HoldsBuiltins g → IsVisibleTrace g (rules_of two_inputs) ((k_fact s ∷ []) ∷ (a_fact t ∷ []) ∷ (b_fact u ∷ []) ∷ []) → ⊥
never_served_once_rules laws g s t u hold w = never_served_once g s t u ((rules_show_only laws) g two_inputs hold (inputs_sound g) (inputs_over g) _ w)
