-- The judge that makes a formula ready decides truth.
use Rattle.std.proofs.Common.{◌≡◌, ℕ, ◌<◌, List, [], ◌∷◌, Bool, length, Some, refl, sym, ap, subst, ◌∙◌}
use Rattle.std.specs.Bool.{Decides}
use Rattle.std.proofs.lemmas.Bool.Decides.{Decides-and, Decides-eqb, Decides-ltb, Decides-not, Decides-or}
use Rattle.std.specs.Prelude.{nat_eq, nat_lt}
use Rattle.sap_judge.proofs.Atoms.{action_decided, equal_decided, time_is}
use Rattle.sap_judge.proofs.Entering.{Here, every_decided, exists_decided}
use Rattle.sap_judge.proofs.FoldLaws.{folded_is}
use Rattle.sap_judge.proofs.Leading.{IsGuardTrue}
use Rattle.sap_judge.proofs.Patterns.{IsCheckedAction}
use Rattle.sap_judge.proofs.Members.{each_append, each_left, each_right}
use Rattle.sap_judge.proofs.Plain.{FormulaLaws}
use Rattle.sap_judge.proofs.SlimPlans.{ready_slim}
use Rattle.sap_judge.proofs.Tests.{decides_iff, decides_implies}
use Rattle.sap_formula.specs.Checked.{BindsOnce, IsChecked, enter, find_binder, premise}
use Rattle.sap_formula.specs.Form.{Form, action, both, earlier, either, equal, equivalent, every, exists, falsity, implies, negation, same_time, truth}
use Rattle.sap_formula.specs.Slim.{slim}
use Rattle.sap_formula.specs.Truth.{EachIn, IsTrueUnder, Times}
use Rattle.sap_judge.specs.code.Answer.{PlanLaw}
use Rattle.sap_match.specs.Atoms.{Held}
use Rattle.sap_judge.specs.Guards.{guards}
use Rattle.sap_judge.specs.code.Ready.{Layers, left_of_imp, place_of, ready, seen_by, slot_in, under_and}
use Rattle.sap_search.specs.Planned.{planned}
use Rattle.sap_match.specs.Matched.{time_at}
use Rattle.sap_formula.specs.declared.binder.Binder.{Binder}
use Rattle.sap_formula.specs.declared.binder.Binder.TheVariants.{Time}
use Rattle.sap_judge.specs.declared.extent.Extent.{Extent}
use Rattle.sap_judge.specs.declared.extent.Extent.TheVariants.{Whole, Body, Rest}
use Rattle.sap_terms.specs.Choice.{Choice}
use Rattle.sap_terms.specs.Equations.{equations}
use Rattle.sap_terms.specs.Message.{IsMessage, IsMessageTrace}
use Rattle.sap_terms.specs.Signature.{Sig}
use Rattle.sap_terms.specs.Trace.{Trace}
use Rattle.sap_terms.specs.Tree.{variable}
use Rattle.sap_terms.specs.declared.fact.Fact.{Fact}

-- the guards of a checked formula are checked

pub guards_checked : (g : Sig) (V : List ℕ → Type 0) (scope : List Binder) (f : Form) → IsChecked g V scope f → EachIn (IsCheckedAction g scope) (guards f)
guards_checked g V scope (both f h) c = each_append (IsCheckedAction g scope) (guards f) (guards h) (guards_checked g V scope f c.0) (guards_checked g V scope h c.1)
guards_checked g V scope (action f i) c = (record { terms = c.1; timed = c.2 }, tt)
guards_checked g V scope truth c = tt
guards_checked g V scope falsity c = tt
guards_checked g V scope (equal _ _) c = tt
guards_checked g V scope (same_time _ _) c = tt
guards_checked g V scope (earlier _ _) c = tt
guards_checked g V scope (negation _) c = tt
guards_checked g V scope (either _ _) c = tt
guards_checked g V scope (implies _ _) c = tt
guards_checked g V scope (equivalent _ _) c = tt
guards_checked g V scope (every _ _) c = tt
guards_checked g V scope (exists _ _) c = tt

pub premise_checked : (g : Sig) (V : List ℕ → Type 0) (scope : List Binder) (f : Form) → IsChecked g V scope f → IsChecked g V scope (premise f)
premise_checked g V scope (implies f h) c = c.0
premise_checked g V scope (both _ _) c = tt
premise_checked g V scope (action _ _) c = tt
premise_checked g V scope truth c = tt
premise_checked g V scope falsity c = tt
premise_checked g V scope (equal _ _) c = tt
premise_checked g V scope (same_time _ _) c = tt
premise_checked g V scope (earlier _ _) c = tt
premise_checked g V scope (negation _) c = tt
premise_checked g V scope (either _ _) c = tt
premise_checked g V scope (equivalent _ _) c = tt
premise_checked g V scope (every _ _) c = tt
premise_checked g V scope (exists _ _) c = tt

-- truth, where quantifiers range over messages and the times of the trace
abbrev pub IsTrue : Sig → Trace → Form → Choice → Times → Type 0
IsTrue g tr f σ τ = IsTrueUnder (equations g) tr (IsMessage g) (λ k. k < length tr) f σ τ

-- and the guards of a true one are true
pub guards_true : (g : Sig) (tr : Trace) (f : Form) (σ : Choice) (τ : Times) → IsTrue g tr f σ τ → EachIn (IsGuardTrue g tr σ τ) (guards f)
guards_true g tr (both f h) σ τ t = each_append (IsGuardTrue g tr σ τ) (guards f) (guards h) (guards_true g tr f σ τ t.0) (guards_true g tr h σ τ t.1)
guards_true g tr (action f i) σ τ t = (t, tt)
guards_true g tr truth σ τ t = tt
guards_true g tr falsity σ τ t = tt
guards_true g tr (equal _ _) σ τ t = tt
guards_true g tr (same_time _ _) σ τ t = tt
guards_true g tr (earlier _ _) σ τ t = tt
guards_true g tr (negation _) σ τ t = tt
guards_true g tr (either _ _) σ τ t = tt
guards_true g tr (implies _ _) σ τ t = tt
guards_true g tr (equivalent _ _) σ τ t = tt
guards_true g tr (every _ _) σ τ t = tt
guards_true g tr (exists _ _) σ τ t = tt

-- a formula is true where it follows from the guards of its premise
pub assume_premise : (g : Sig) (tr : Trace) (f : Form) (σ : Choice) (τ : Times) → (EachIn (IsGuardTrue g tr σ τ) (guards (premise f)) → IsTrue g tr f σ τ) → IsTrue g tr f σ τ
assume_premise g tr (implies f h) σ τ k = λ l. k (guards_true g tr f σ τ l) l
assume_premise g tr (both _ _) σ τ k = k tt
assume_premise g tr (action _ _) σ τ k = k tt
assume_premise g tr truth σ τ k = k tt
assume_premise g tr falsity σ τ k = k tt
assume_premise g tr (equal _ _) σ τ k = k tt
assume_premise g tr (same_time _ _) σ τ k = k tt
assume_premise g tr (earlier _ _) σ τ k = k tt
assume_premise g tr (negation _) σ τ k = k tt
assume_premise g tr (either _ _) σ τ k = k tt
assume_premise g tr (equivalent _ _) σ τ k = k tt
assume_premise g tr (every _ _) σ τ k = k tt
assume_premise g tr (exists _ _) σ τ k = k tt

-- what is known of a formula of which no more than the extent is tested
abbrev pub Given : Sig → Trace → Extent → Form → Choice → Times → Type 0
Given g tr Whole f σ τ = Unit {0}
Given g tr Body f σ τ = EachIn (IsGuardTrue g tr σ τ) (guards (premise f))
Given g tr Rest f σ τ = EachIn (IsGuardTrue g tr σ τ) (guards f)

module _ (g : Sig) (tr : Trace) (f h : Form) (σ : Choice) (τ : Times) where
  pub given_first : (e : Extent) → Given g tr e (both f h) σ τ → Given g tr (under_and e) f σ τ
  given_first Whole k = tt
  given_first Body k = tt
  given_first Rest k = each_left (IsGuardTrue g tr σ τ) (guards f) (guards h) k

  pub given_second : (e : Extent) → Given g tr e (both f h) σ τ → Given g tr (under_and e) h σ τ
  given_second Whole k = tt
  given_second Body k = tt
  given_second Rest k = each_right (IsGuardTrue g tr σ τ) (guards f) (guards h) k

  pub given_premise : (e : Extent) → Given g tr e (implies f h) σ τ → Given g tr (left_of_imp e) f σ τ
  given_premise Whole k = tt
  given_premise Body k = k
  given_premise Rest k = tt

module _ (w : FormulaLaws) (g : Sig) (V : List ℕ → Type 0) (tr : Trace) (m : IsMessageTrace g tr) where
  action_planned : (f : Fact) (i : List ℕ) (e : Extent) (scope : List Binder) (layers : Layers) (held : List Held) (σ : Choice) (τ : Times) → IsChecked g V scope (action f i) → Here g tr scope layers held σ τ → Given g tr e (action f i) σ τ → Decides (planned tr (ready tr e layers (action f i)) held) (IsTrue g tr (action f i) σ τ)
  action_planned f i Whole scope layers held σ τ c here k = action_decided w g tr m scope layers held σ τ here f i c.1 c.2
  action_planned f i Body scope layers held σ τ c here k = action_decided w g tr m scope layers held σ τ here f i c.1 c.2
  action_planned f i Rest scope layers held σ τ c here k = (λ h. k.0, λ h. refl)

  times_planned : (P : ℕ → ℕ → Bool) (Q : ℕ → ℕ → Type 0) → ((j k : ℕ) → Decides (P j k) (Q j k)) → (i j : List ℕ) (scope : List Binder) (layers : Layers) (held : List Held) (σ : Choice) (τ : Times) → find_binder scope i ≡ Some (Time i) → find_binder scope j ≡ Some (Time j) → Here g tr scope layers held σ τ → Decides (P (time_at (slot_in layers i) held) (time_at (slot_in layers j) held)) (Q (τ i) (τ j))
  times_planned P Q d i j scope layers held σ τ a b here =
      subst (λ k. Decides (P k (time_at (slot_in layers j) held)) (Q (τ i) (τ j))) (sym (time_is w g tr m scope layers held σ τ here i a)) (subst (λ k. Decides (P (τ i) k) (Q (τ i) (τ j))) (sym (time_is w g tr m scope layers held σ τ here j b)) (d (τ i) (τ j)))

  pub planned_decides : (f : Form) (e : Extent) (scope : List Binder) (layers : Layers) (held : List Held) (σ : Choice) (τ : Times) → IsChecked g V scope f → BindsOnce f → Here g tr scope layers held σ τ → Given g tr e f σ τ → Decides (planned tr (ready tr e layers f) held) (IsTrue g tr f σ τ)
  planned_decides truth e scope layers held σ τ c o here k = (λ h. tt, λ h. refl)
  planned_decides falsity e scope layers held σ τ c o here k = (λ h. absurd (cc), λ h. absurd h)
  planned_decides (action f i) e scope layers held σ τ c o here k = action_planned f i e scope layers held σ τ c here k
  planned_decides (equal s t) e scope layers held σ τ c o here k = equal_decided w g tr m scope layers held σ τ here s t c.0 c.1
  planned_decides (same_time i j) e scope layers held σ τ c o here k = times_planned nat_eq (λ x y. x ≡ y) Decides-eqb i j scope layers held σ τ c.0 c.1 here
  planned_decides (earlier i j) e scope layers held σ τ c o here k = times_planned nat_lt (λ x y. x < y) Decides-ltb i j scope layers held σ τ c.0 c.1 here
  planned_decides (negation f) e scope layers held σ τ c o here k = Decides-not _ (planned_decides f Whole scope layers held σ τ c o here tt)
  planned_decides (both f h) e scope layers held σ τ c o here k =
      Decides-and _ _ (planned_decides f (under_and e) scope layers held σ τ c.0 o.0 here (given_first g tr f h σ τ e k)) (planned_decides h (under_and e) scope layers held σ τ c.1 o.1 here (given_second g tr f h σ τ e k))
  planned_decides (either f h) e scope layers held σ τ c o here k = Decides-or _ _ (planned_decides f Whole scope layers held σ τ c.0 o.0 here tt) (planned_decides h Whole scope layers held σ τ c.1 o.1 here tt)
  planned_decides (implies f h) e scope layers held σ τ c o here k =
      decides_implies _ _ _ _ (planned_decides f (left_of_imp e) scope layers held σ τ c.0 o.0 here (given_premise g tr f h σ τ e k)) (planned_decides h Whole scope layers held σ τ c.1 o.1 here tt)
  planned_decides (equivalent f h) e scope layers held σ τ c o here k = decides_iff _ _ _ _ (planned_decides f Whole scope layers held σ τ c.0 o.0 here tt) (planned_decides h Whole scope layers held σ τ c.1 o.1 here tt)
  planned_decides (every bs f) e scope layers held σ τ c o here k =
      let layers' = seen_by (place_of bs layers) [] (guards (premise f)) ∷ layers in
      every_decided w g tr m scope layers held σ τ here bs o.0 (premise f) c.0 (guards_checked g V (enter bs scope) (premise f) (premise_checked g V (enter bs scope) f c.1)) (planned tr (ready tr Body layers' f)) (IsTrue g tr f)
      (λ out σ' τ' there t. planned_decides f Body (enter bs scope) layers' out σ' τ' c.1 o.1 there t)
      (assume_premise g tr f)
  planned_decides (exists bs f) e scope layers held σ τ c o here k =
      let layers' = seen_by (place_of bs layers) [] (guards f) ∷ layers in
      exists_decided w g tr m scope layers held σ τ here bs o.0 f c.0 (guards_checked g V (enter bs scope) f c.1) (planned tr (ready tr Rest layers' f)) (IsTrue g tr f)
      (λ out σ' τ' there t. planned_decides f Rest (enter bs scope) layers' out σ' τ' c.1 o.1 there t)
      (guards_true g tr f)

-- before anything is bound
pub here_first : FormulaLaws → (g : Sig) (tr : Trace) → Here g tr [] [] [] (λ v. variable v) (λ n. 0)
here_first w g tr = record {
  counted = refl;
  filled = λ b k i e. absurd (cc);
  slotted = λ b i. absurd (cc);
  agrees = λ b k i e. absurd (cc);
  normal = λ v. w.leaves.of_variable (equations g) v;
  fitting = λ v i. absurd (cc);
}

-- the judge decides truth of a checked closed formula on a trace of messages
pub plan_law : FormulaLaws → PlanLaw
plan_law w g f tr m c =
    let p = w.binders g f tr c in
    let s = folded_is tr (ready tr Whole [] f) [] ∙ ap (λ z. planned tr z []) (ready_slim tr f Whole []) in
    let q = planned_decides w g (λ n. Unit {0}) tr m (slim f) Whole [] [] [] (λ v. variable v) (λ n. 0) (w.closed g f c) (w.once f) (here_first w g tr) tt in
    (λ h. p.1 (q.0 (sym s ∙ h)), λ h. s ∙ q.1 (p.0 h))
