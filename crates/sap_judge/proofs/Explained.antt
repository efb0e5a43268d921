-- Form by form: the claim on a formula made ready is shown by the reason for the formula's truth value.
use Rattle.std.proofs.Common.{◌≡◌, ℕ, ◌<◌, List, [], ◌∷◌, Bool, true, false, not, Option, Some, None, length, refl, sym, ap, subst, ◌∙◌, inl, inr, ◌⊎◌, ⊎_elim, if◌then◌else◌}
use Rattle.std.specs.Bool.{Decides}
use Rattle.sap_formula.specs.Checked.{BindsOnce, IsChecked, enter, premise}
use Rattle.sap_formula.specs.Form.{Form, action, both, earlier, either, equal, equivalent, every, exists, falsity, implies, negation, same_time, truth}
use Rattle.sap_formula.specs.Slim.{lasts, slim}
use Rattle.sap_formula.specs.Truth.{EachIn, IsTrueOn, Times}
use Rattle.sap_formula.specs.declared.binder.Binder.{Binder}
use Rattle.sap_judge.proofs.Entering.{Here, reached_for}
use Rattle.sap_judge.proofs.Explaining.{Exp, exp_each, exp_first, exp_test, exp_turn, lasts_once, quantifier_exp, stable}
use Rattle.sap_judge.proofs.Filling.{Fill, every_at, every_filled, exists_filled, filled_exists}
use Rattle.sap_judge.proofs.FoldLaws.{folded_is}
use Rattle.sap_judge.proofs.Leading.{IsGuardTrue}
use Rattle.sap_judge.proofs.Plain.{FormulaLaws}
use Rattle.sap_judge.proofs.Planning.{Given, IsTrue, assume_premise, given_first, given_premise, given_second, guards_checked, guards_true, here_first, planned_decides, premise_checked}
use Rattle.sap_judge.specs.Guards.{guards}
use Rattle.sap_judge.specs.Reasons.{Is, IsReason, IsReasonUnder, Reason, choosing as choosing_reason, none}
use Rattle.sap_judge.specs.code.Claiming.{choosing_over, claim_of, claim_test, slots_of}
use Rattle.sap_judge.specs.code.Folded.{are_idle, folded}
use Rattle.sap_judge.specs.code.Quantifying.{guards_over}
use Rattle.sap_judge.specs.code.Ready.{Layers, guards_of, left_of_imp, place_of, ready, seen_by, under_and}
use Rattle.sap_judge.specs.declared.extent.Extent.{Extent}
use Rattle.sap_judge.specs.declared.extent.Extent.TheVariants.{Whole, Body, Rest}
use Rattle.sap_match.specs.Atoms.{Held}
use Rattle.sap_search.specs.Claims.{Chosen, Claim, choosing, tested}
use Rattle.sap_search.specs.Explained.{explained}
use Rattle.sap_search.specs.Plan.{always}
use Rattle.sap_search.specs.Planned.{planned}
use Rattle.sap_terms.specs.Choice.{Choice}
use Rattle.sap_terms.specs.Equations.{equations}
use Rattle.sap_terms.specs.Message.{IsMessage, IsMessageTrace}
use Rattle.sap_terms.specs.Signature.{Sig}
use Rattle.sap_terms.specs.Trace.{Trace}
use Rattle.sap_terms.specs.Tree.{variable}

module _ (w : FormulaLaws) (g : Sig) (V : List ℕ → Type 0) (tr : Trace) (m : IsMessageTrace g tr) where
  -- the reason for this truth value
  abbrev pub Why : Form → Bool → Choice → Times → Reason
  Why f b σ τ = IsReasonUnder (equations g) tr (IsMessage g) (λ k. k < length tr) f b σ τ

  -- what is tested alone
  tested_exp : (f : Form) (e : Extent) (b : Bool) (scope : List Binder) (layers : Layers) (held : List Held) (σ : Choice) (τ : Times) → IsChecked g V scope f → BindsOnce f → Here g tr scope layers held σ τ → Given g tr e f σ τ → Exp (Is b (IsTrue g tr f σ τ)) none (explained tr (claim_test tr e layers b f) held)
  tested_exp f e b scope layers held σ τ c o here k =
      exp_test (planned tr (folded (ready tr e layers f)) held) b (IsTrue g tr f σ τ) (subst (λ t. Decides t (IsTrue g tr f σ τ)) (sym (folded_is tr (ready tr e layers f) held)) (planned_decides w g V tr m f e scope layers held σ τ c o here k))

  -- the search of a quantifier, all binders told
  over_is : (d : Bool) (layers : Layers) (bs : List Binder) (f : Form) (c : Claim) (held : List Held) (A : Type 0) (R : Reason) → lasts bs ≡ bs → Exp A R (explained tr (if are_idle (guards_of tr (place_of bs layers) [] (guards_over d f)) then tested true (always false) else choosing (guards_of tr (place_of bs layers) [] (guards_over d f)) (slots_of (seen_by (place_of bs layers) [] (guards_over d f) ∷ layers) bs) c) held) → Exp A R (explained tr (choosing_over tr d layers bs f c) held)
  over_is d layers bs f c held A R e x = subst (λ l. Exp A R (explained tr (if are_idle (guards_of tr (place_of bs layers) [] (guards_over d f)) then tested true (always false) else choosing (guards_of tr (place_of bs layers) [] (guards_over d f)) (slots_of (seen_by (place_of bs layers) [] (guards_over d f) ∷ layers) l) c) held)) (sym e) x

  pub explains : (f : Form) (e : Extent) (b : Bool) (scope : List Binder) (layers : Layers) (held : List Held) (σ : Choice) (τ : Times) → IsChecked g V scope f → BindsOnce f → Here g tr scope layers held σ τ → Given g tr e f σ τ → Exp (Is b (IsTrue g tr f σ τ)) (Why f b σ τ) (explained tr (claim_of tr e layers b f) held)
  explains truth e b scope layers held σ τ c o here k = tested_exp truth e b scope layers held σ τ c o here k
  explains falsity e b scope layers held σ τ c o here k = tested_exp falsity e b scope layers held σ τ c o here k
  explains (action f i) e b scope layers held σ τ c o here k = tested_exp (action f i) e b scope layers held σ τ c o here k
  explains (equal s t) e b scope layers held σ τ c o here k = tested_exp (equal s t) e b scope layers held σ τ c o here k
  explains (same_time i j) e b scope layers held σ τ c o here k = tested_exp (same_time i j) e b scope layers held σ τ c o here k
  explains (earlier i j) e b scope layers held σ τ c o here k = tested_exp (earlier i j) e b scope layers held σ τ c o here k
  explains (equivalent f h) e b scope layers held σ τ c o here k = tested_exp (equivalent f h) e b scope layers held σ τ c o here k
  explains (negation f) e true scope layers held σ τ c o here k = explains f Whole false scope layers held σ τ c o here tt
  explains (negation f) e false scope layers held σ τ c o here k =
      exp_turn (IsTrue g tr f σ τ) ((IsTrue g tr f σ τ → ⊥) → ⊥) (Why f true σ τ) (explained tr (claim_of tr Whole layers true f) held) (λ x n. n x) (λ n h. h n) (explains f Whole true scope layers held σ τ c o here tt)
  explains (both f h) e true scope layers held σ τ c o here k =
      exp_each (IsTrue g tr f σ τ) (IsTrue g tr h σ τ) (IsTrue g tr (both f h) σ τ) (Why f true σ τ) (Why h true σ τ) (explained tr (claim_of tr (under_and e) layers true f) held) (explained tr (claim_of tr (under_and e) layers true h) held) (λ x y. (x, y)) (λ n z. n z.0) (λ n z. n z.1) (explains f (under_and e) true scope layers held σ τ c.0 o.0 here (given_first g tr f h σ τ e k)) (explains h (under_and e) true scope layers held σ τ c.1 o.1 here (given_second g tr f h σ τ e k))
  explains (both f h) e false scope layers held σ τ c o here k =
      exp_first (IsTrue g tr f σ τ → ⊥) (IsTrue g tr h σ τ → ⊥) (IsTrue g tr (both f h) σ τ → ⊥) (Why f false σ τ) (Why h false σ τ) (explained tr (claim_of tr (under_and e) layers false f) held) (explained tr (claim_of tr (under_and e) layers false h) held) (λ x z. x z.0) (λ x z. x z.1) (λ n p z. n (λ x. p (λ y. z (x, y)))) (explains f (under_and e) false scope layers held σ τ c.0 o.0 here (given_first g tr f h σ τ e k)) (explains h (under_and e) false scope layers held σ τ c.1 o.1 here (given_second g tr f h σ τ e k))
  explains (either f h) e true scope layers held σ τ c o here k =
      exp_first (IsTrue g tr f σ τ) (IsTrue g tr h σ τ) (IsTrue g tr (either f h) σ τ) (Why f true σ τ) (Why h true σ τ) (explained tr (claim_of tr Whole layers true f) held) (explained tr (claim_of tr Whole layers true h) held) (λ x. inl x) (λ x. inr x) (λ n p z. ⊎_elim n p z) (explains f Whole true scope layers held σ τ c.0 o.0 here tt) (explains h Whole true scope layers held σ τ c.1 o.1 here tt)
  explains (either f h) e false scope layers held σ τ c o here k =
      exp_each (IsTrue g tr f σ τ → ⊥) (IsTrue g tr h σ τ → ⊥) (IsTrue g tr (either f h) σ τ → ⊥) (Why f false σ τ) (Why h false σ τ) (explained tr (claim_of tr Whole layers false f) held) (explained tr (claim_of tr Whole layers false h) held) (λ x y z. ⊎_elim x y z) (λ n z. n (λ x. z (inl x))) (λ n z. n (λ x. z (inr x))) (explains f Whole false scope layers held σ τ c.0 o.0 here tt) (explains h Whole false scope layers held σ τ c.1 o.1 here tt)
  explains (implies f h) e true scope layers held σ τ c o here k =
      exp_first (IsTrue g tr f σ τ → ⊥) (IsTrue g tr h σ τ) (IsTrue g tr (implies f h) σ τ) (Why f false σ τ) (Why h true σ τ) (explained tr (claim_of tr (left_of_imp e) layers false f) held) (explained tr (claim_of tr Whole layers true h) held) (λ n x. absurd (n x)) (λ y x. y) (λ n p z. n (λ x. p (z x))) (explains f (left_of_imp e) false scope layers held σ τ c.0 o.0 here (given_premise g tr f h σ τ e k)) (explains h Whole true scope layers held σ τ c.1 o.1 here tt)
  explains (implies f h) e false scope layers held σ τ c o here k =
      exp_each (IsTrue g tr f σ τ) (IsTrue g tr h σ τ → ⊥) (IsTrue g tr (implies f h) σ τ → ⊥) (Why f true σ τ) (Why h false σ τ) (explained tr (claim_of tr (left_of_imp e) layers true f) held) (explained tr (claim_of tr Whole layers false h) held) (λ x n z. n (z x)) (λ n z. z (λ x. absurd (n x))) (λ n z. n (λ y. z (λ x. y))) (explains f (left_of_imp e) true scope layers held σ τ c.0 o.0 here (given_premise g tr f h σ τ e k)) (explains h Whole false scope layers held σ τ c.1 o.1 here tt)
  explains (every bs f) e true scope layers held σ τ c o here k = tested_exp (every bs f) e true scope layers held σ τ c o here k
  explains (exists bs f) e false scope layers held σ τ c o here k = tested_exp (exists bs f) e false scope layers held σ τ c o here k
  explains (every bs f) e false scope layers held σ τ c o here k =
      let layers' = seen_by (place_of bs layers) [] (guards (premise f)) ∷ layers in
      let checked = guards_checked g V (enter bs scope) (premise f) (premise_checked g V (enter bs scope) f c.1) in
      let inner = claim_of tr Body layers' false f in
      over_is true layers bs f inner held (IsTrue g tr (every bs f) σ τ → ⊥) (Why (every bs f) false σ τ) (lasts_once bs o.0)
      (quantifier_exp w g tr m scope layers held σ τ here bs o.0 (premise f) c.0 checked inner (λ σ' τ'. IsTrue g tr f σ' τ' → ⊥) (λ σ' τ'. Why f false σ' τ')
      (λ out σ' τ' there t. explains f Body false (enter bs scope) layers' out σ' τ' c.1 o.1 there t)
      (IsTrue g tr (every bs f) σ τ → ⊥)
      (λ σ' τ' fill x all. x (every_at (IsMessage g) (λ k. k < length tr) bs (IsTrue g tr f) σ τ σ' τ' fill all))
      (λ n z. z (every_filled (IsMessage g) (λ k. k < length tr) bs (IsTrue g tr f) σ τ (λ σ' τ' fill. assume_premise g tr f σ' τ' (λ t.
      let r = reached_for w g tr m scope layers held σ τ here bs o.0 (premise f) c.0 checked (planned tr (ready tr Body layers' f)) (IsTrue g tr f) (λ out σ' τ' there t. planned_decides w g V tr m f Body (enter bs scope) layers' out σ' τ' c.1 o.1 there t) σ' τ' fill t in
      stable (planned tr (ready tr Body layers' f) r.0) (IsTrue g tr f σ' τ') r.2 (n σ' τ' fill t))))))
  explains (exists bs f) e true scope layers held σ τ c o here k =
      let layers' = seen_by (place_of bs layers) [] (guards f) ∷ layers in
      let inner = claim_of tr Rest layers' true f in
      over_is false layers bs f inner held (IsTrue g tr (exists bs f) σ τ) (Why (exists bs f) true σ τ) (lasts_once bs o.0)
      (quantifier_exp w g tr m scope layers held σ τ here bs o.0 f c.0 (guards_checked g V (enter bs scope) f c.1) inner (IsTrue g tr f) (λ σ' τ'. Why f true σ' τ')
      (λ out σ' τ' there t. explains f Rest true (enter bs scope) layers' out σ' τ' c.1 o.1 there t)
      (IsTrue g tr (exists bs f) σ τ)
      (λ σ' τ' fill x. filled_exists (IsMessage g) (λ k. k < length tr) bs (IsTrue g tr f) σ τ σ' τ' fill x)
      (λ n z. let u = exists_filled (IsMessage g) (λ k. k < length tr) bs (IsTrue g tr f) σ τ z in n u.0 u.1 u.2 (guards_true g tr f u.0 u.1 u.3) u.3))
