-- An input of <x,x> goes by no <'a','b'>: behind that nothing is shown.
use Rattle.std.proofs.Common.{◌≡◌, zero, suc, List, [], ◌∷◌, Some, None, refl, sym, ap, subst}
use Rattle.std.specs.Prelude.{codes, slice_index_or}
use Rattle.sap_terms.specs.AdversaryFacts.{k_fact}
use Rattle.sap_terms.specs.Choice.{Choice}
use Rattle.sap_terms.specs.Equations.{app2, pair_name}
use Rattle.sap_terms.specs.Signature.{Sig, HoldsBuiltins}
use Rattle.sap_terms.specs.Tree.{Tree}
use Rattle.sap_terms.specs.declared.fact.Fact.{Fact}
use Rattle.sap_process.specs.Action as action
use Rattle.sap_process.specs.Configuration.{Config, initial}
use Rattle.sap_process.specs.Proc as whole
use Rattle.sap_process.specs.Proc.{Proc, act}
use Rattle.sap_process.specs.ProcessSteps.{Fits, ProcessStep, IsProcessTrace}
use Rattle.sap_translate.specs.Examples.{term_a, term_b, a_fact, twin_pattern, twins_told}
use Rattle.sap_translate.specs.Faithful.{IsVisibleTrace}
use Rattle.sap_templates.specs.Templates.{rules_of}
use Rattle.sap_translate.proofs.ByHand.Parts.{rules_show_only}
use Rattle.sap_translate.proofs.ByHand.Moves.{Moves, past_first, head_name, apart, unlike, only_item, no_item}
use Rattle.sap_translate.proofs.ByHand.Pairs.{no_match, twins_sound, twins_over}
use Rattle.sap_translate.proofs.Shared.Lookups.{Every, every-set}
use Rattle.sap_translate.proofs.Premises.LowerLaws.{Laws}

-- the process waits for a pair of equal terms
abbrev Waits : Proc → Type 0
Waits whole.nil = Unit {0}
Waits (act (action.input m) p) = m ≡ twin_pattern
Waits _ = ⊥

abbrev AllWait : Config → Type 0
AllWait c = Every Waits c.threads

abbrev Known : List Fact → Config → Type 0
Known l d = AllWait d × (head_name l ≡ codes "K")

all_wait : (g : Sig) (l : List Fact) → ((σ : Choice) (t : Tree) → Fits g σ twin_pattern t → k_fact t ∷ [] ≡ l → ⊥) → Moves g AllWait l (Known l)
all_wait g l other c _ _ all (ProcessStep.ends t r) = every-set Waits c.threads t None all (no_item Waits)
all_wait g l other _ _ _ all (ProcessStep.splits t r) = absurd (all t _ r)
all_wait g l other _ _ _ all (ProcessStep.copies t r) = absurd (all t _ r)
all_wait g l other _ _ _ all (ProcessStep.makes_name t n r u) = absurd (all t _ r)
all_wait g l other _ _ _ all (ProcessStep.outputs t r f) = absurd (all t _ r)
all_wait g l other _ _ _ all (ProcessStep.outputs_on t r f k u) = absurd (all t _ r)
all_wait g l other _ _ _ all (ProcessStep.inputs {x = x} t σ r k f) = λ e. absurd (other σ x (subst (λ m. Fits g σ m x) (all t _ r) f) e)
all_wait g l other _ _ _ all (ProcessStep.inputs_on t σ r k m e) = absurd (all t _ r)
all_wait g l other _ _ _ all (ProcessStep.meets s t σ r z e f) = absurd (all s _ r)
all_wait g l other _ _ _ all (ProcessStep.agrees t r e) = absurd (all t _ r)
all_wait g l other _ _ _ all (ProcessStep.differs t r e) = absurd (all t _ r)
all_wait g l other _ _ _ all (ProcessStep.shows t r form) = absurd (all t _ r)
all_wait g l other _ _ _ all (ProcessStep.inserts t r k f) = absurd (all t _ r)
all_wait g l other _ _ _ all (ProcessStep.deletes t r k) = absurd (all t _ r)
all_wait g l other _ _ _ all (ProcessStep.finds t r k s) = absurd (all t _ r)
all_wait g l other _ _ _ all (ProcessStep.misses t r k s) = absurd (all t _ r)
all_wait g l other _ _ _ all (ProcessStep.locks t r k f) = absurd (all t _ r)
all_wait g l other _ _ _ all (ProcessStep.unlocks t r k) = absurd (all t _ r)
all_wait g l other _ _ _ all (ProcessStep.embeds t ks σ left acts right r m e k s a) = absurd (all t _ r)
all_wait g l other _ _ _ all (ProcessStep.adversary_makes n u) = all
all_wait g l other _ _ _ all (ProcessStep.knows x k) = λ e. (all, sym (ap head_name e))

start : AllWait (initial twins_told)
start zero a e = only_item Waits twins_told refl a (let z : Some twins_told ≡ Some a = cc in z)
start (suc t) a e = absurd (cc)

-- what the adversary is shown to know
abbrev known : List Fact → Tree
known [] = term_a
known (f ∷ fs) = slice_index_or f.args 0 term_a

pub never_unequal : (laws : Laws) → (g : Sig) (t : Tree) → IsProcessTrace g twins_told ((k_fact (app2 pair_name term_a term_b) ∷ []) ∷ (a_fact t ∷ []) ∷ []) → ⊥
never_unequal laws g t is =
    let other = λ (σ : Choice) (u : Tree) (fits : Fits g σ twin_pattern u) (e : k_fact u ∷ [] ≡ k_fact (app2 pair_name term_a term_b) ∷ []). (no_match laws) g σ (subst (Fits g σ twin_pattern) (ap known e) fits) in
    let taken = past_first (all_wait g (k_fact (app2 pair_name term_a term_b) ∷ []) other) start is.1 ((a_fact t ∷ []) ∷ []) refl in
    let last = past_first (all_wait g (a_fact t ∷ []) (λ σ u fits. unlike (k_fact u ∷ []) (a_fact t ∷ []) refl refl)) taken.is.0 taken.rest [] refl in
    apart (codes "A") (codes "K") refl refl last.is.1

pub never_unequal_rules : (laws : Laws) → (g : Sig) (t : Tree) → HoldsBuiltins g → IsVisibleTrace g (rules_of twins_told) ((k_fact (app2 pair_name term_a term_b) ∷ []) ∷ (a_fact t ∷ []) ∷ []) → ⊥
never_unequal_rules laws g t hold w = (never_unequal laws) g t ((rules_show_only laws) g twins_told hold (twins_sound g) (twins_over g) _ w)
