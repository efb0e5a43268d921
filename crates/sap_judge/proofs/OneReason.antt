-- A formula that is true, or isn't, has a reason, and one only; what it tells suits the binders.
use Rattle.std.proofs.Common.{◌≡◌, ℕ, ◌<◌, List, [], ◌∷◌, ◌++◌, Bool, true, false, not, Option, Some, None, length, map, refl, sym, ap, subst, ◌∙◌, inl, inr, ◌⊎◌, ⊎_elim}
use Rattle.std.specs.Prelude.{slice_get}
use Rattle.sap_formula.specs.Checked.{AreGuarded, BindsOnce, IsApart, IsChecked, NoTwice, binder_name, enter, find_binder, premise}
use Rattle.sap_formula.specs.Form.{Form, action, both, earlier, either, equal, equivalent, every, exists, falsity, implies, negation, same_time, truth}
use Rattle.sap_formula.specs.Slim.{slim}
use Rattle.sap_formula.specs.Truth.{EachIn, IsTrueOn, Times, bind, stamp}
use Rattle.sap_formula.specs.declared.binder.Binder.{Binder}
use Rattle.sap_formula.specs.declared.binder.Binder.TheVariants.{Message, Time}
use Rattle.sap_judge.proofs.Entering.{Here}
use Rattle.sap_judge.proofs.Explained.{explains}
use Rattle.sap_judge.proofs.Explaining.{Exp, told_here, values_led}
use Rattle.sap_judge.proofs.Filling.{Fill, exists_filled, terms_kept, times_kept}
use Rattle.sap_judge.proofs.Led.{ArePicked, picked_true}
use Rattle.sap_judge.proofs.Members.{each_append, each_both, each_in, each_left, each_right}
use Rattle.sap_judge.proofs.Patterns.{IsCheckedAction}
use Rattle.sap_judge.proofs.Picking.{AreIn, led, picks_in}
use Rattle.sap_judge.proofs.Plain.{FormulaLaws}
use Rattle.sap_judge.proofs.Planning.{IsTrue, guards_checked, here_first, premise_checked}
use Rattle.sap_judge.proofs.Tests.{IsIn}
use Rattle.sap_judge.specs.Guards.{Action, guards}
use Rattle.sap_judge.specs.Laws.{OneReasonLaw, ReasonsSuit, SomeReasonLaw}
use Rattle.sap_judge.specs.Reasons.{Is, IsFirst, IsReason, IsReasonUnder, Reason, Shown, Suits, choosing, first_of, joined, none, picks, told, value}
use Rattle.sap_judge.specs.code.Claiming.{claim_of}
use Rattle.sap_judge.specs.code.Ready.{Layers, guards_of, place_of, seen_by, slot_in}
use Rattle.sap_judge.specs.declared.extent.Extent.TheVariants.{Whole}
use Rattle.sap_match.specs.Atoms.{Held, Sight, held_term, held_time}
use Rattle.sap_search.specs.Claims.{Chosen}
use Rattle.sap_search.specs.Explained.{explained, got}
use Rattle.sap_terms.proofs.PlainLaws.Tests.{same_name}
use Rattle.sap_terms.specs.Choice.{Choice}
use Rattle.sap_terms.specs.Equations.{equations}
use Rattle.sap_terms.specs.Message.{IsMessage, IsMessageTrace}
use Rattle.sap_terms.specs.Signature.{Sig}
use Rattle.sap_terms.specs.Trace.{Trace}
use Rattle.sap_terms.specs.Tree.{Tree, variable}
use Rattle.sap_terms.specs.declared.var.Sort.{Sort}
use Rattle.sap_terms.specs.declared.var.Var.{Var}

-- a list has the property for one choice at most
abbrev AtMostOne : Reason → Type 0
AtMostOne A = (cs ds : List Chosen) → A cs → A ds → cs ≡ ds

one_none : AtMostOne none
one_none cs ds p q = p ∙ sym q

one_joined : (A B : Reason) → AtMostOne A → AtMostOne B → AtMostOne (joined A B)
one_joined A B a b cs ds p q = p.4 ∙ (λ i. a p.0 q.0 p.2 q.2 i ++ b p.1 q.1 p.3 q.3 i) ∙ sym q.4

one_first_of : (P : Type 0) (A B : Reason) → AtMostOne A → AtMostOne B → AtMostOne (first_of P A B)
one_first_of P A B a b cs ds p q =
    ⊎_elim (λ x. ⊎_elim (λ y. a cs ds x.1 y.1) (λ y. absurd (y.0 x.0)) q) (λ x. ⊎_elim (λ y. absurd (x.0 y.0)) (λ y. b cs ds x.1 y.1) q) p

-- the first of a list is one
one_first : {X : Type 0} (P : X → Type 0) (xs : List X) (before : List X) (x : X) (after : List X) → xs ≡ before ++ x ∷ after → EachIn (λ y. P y → ⊥) before → P x → (before' : List X) (x' : X) (after' : List X) → xs ≡ before' ++ x' ∷ after' → EachIn (λ y. P y → ⊥) before' → P x' → x ≡ x'
one_first P [] [] x after e n p before' x' after' e' n' p' = absurd (cc)
one_first P [] (b ∷ before) x after e n p before' x' after' e' n' p' = absurd (cc)
one_first P (y ∷ ys) [] x after e n p [] x' after' e' n' p' = cc
one_first P (y ∷ ys) [] x after e n p (b ∷ before') x' after' e' n' p' = let same : x ≡ b = cc in absurd (n'.0 (subst P same p))
one_first P (y ∷ ys) (b ∷ before) x after e n p [] x' after' e' n' p' = let same : x' ≡ b = cc in absurd (n.0 (subst P same p'))
one_first P (y ∷ ys) (b ∷ before) x after e n p (b' ∷ before') x' after' e' n' p' =
    let d : ys ≡ before ++ x ∷ after = cc in
    let d' : ys ≡ before' ++ x' ∷ after' = cc in
    one_first P ys before x after d n.1 p before' x' after' d' n'.1 p'

-- values of binders that are bound once are what they are told to be

own_term : (D : Sort → Tree → Type 0) (P : ℕ → Type 0) (v : Var) (bs : List Binder) (t : Tree) (σ : Choice) (τ : Times) (σ' : Choice) (τ' : Times) → IsApart bs v.name → Fill D P bs (bind v t σ) τ σ' τ' → σ' v ≡ t
own_term D P v bs t σ τ σ' τ' a f = terms_kept D P bs (bind v t σ) τ σ' τ' f v a ∙ rw (same_name v.name) refl

own_time : (D : Sort → Tree → Type 0) (P : ℕ → Type 0) (n : List ℕ) (bs : List Binder) (k : ℕ) (σ : Choice) (τ : Times) (σ' : Choice) (τ' : Times) → IsApart bs n → Fill D P bs σ (stamp n k τ) σ' τ' → τ' n ≡ k
own_time D P n bs k σ τ σ' τ' a f = times_kept D P bs σ (stamp n k τ) σ' τ' f n a ∙ rw (same_name n) refl

-- so equal values are one choice
fill_one : (D : Sort → Tree → Type 0) (P : ℕ → Type 0) (bs : List Binder) → NoTwice bs → (σ : Choice) (τ : Times) (σ1 : Choice) (τ1 : Times) (σ2 : Choice) (τ2 : Times) → Fill D P bs σ τ σ1 τ1 → Fill D P bs σ τ σ2 τ2 → EachIn (λ b. value σ1 τ1 b ≡ value σ2 τ2 b) bs → (σ1 ≡ σ2) × (τ1 ≡ τ2)
fill_one D P [] o σ τ σ1 τ1 σ2 τ2 f h e = (sym f.0 ∙ h.0, sym f.1 ∙ h.1)
fill_one D P (Message v ∷ bs) o σ τ σ1 τ1 σ2 τ2 (t, d, f) (u, c, h) e =
    let first : σ1 v ≡ σ2 v = let x = e.0 in cc in
    let same : t ≡ u = sym (own_term D P v bs t σ τ σ1 τ1 o.0 f) ∙ first ∙ own_term D P v bs u σ τ σ2 τ2 o.0 h in
    fill_one D P bs o.1 (bind v u σ) τ σ1 τ1 σ2 τ2 (subst (λ z. Fill D P bs (bind v z σ) τ σ1 τ1) same f) h e.1
fill_one D P (Time n ∷ bs) o σ τ σ1 τ1 σ2 τ2 (j, d, f) (k, c, h) e =
    let first : τ1 n ≡ τ2 n = let x = e.0 in cc in
    let same : j ≡ k = sym (own_time D P n bs j σ τ σ1 τ1 o.0 f) ∙ first ∙ own_time D P n bs k σ τ σ2 τ2 o.0 h in
    fill_one D P bs o.1 σ (stamp n k τ) σ1 τ1 σ2 τ2 (subst (λ z. Fill D P bs σ (stamp n z τ) σ1 τ1) same f) h e.1

-- and they suit them
fill_suits : (g : Sig) (tr : Trace) (bs : List Binder) → NoTwice bs → (σ : Choice) (τ : Times) (σ' : Choice) (τ' : Times) → Fill (IsMessage g) (λ k. k < length tr) bs σ τ σ' τ' → EachIn (λ b. Suits g tr b (value σ' τ' b)) bs
fill_suits g tr [] o σ τ σ' τ' f = tt
fill_suits g tr (Message v ∷ bs) o σ τ σ' τ' (t, d, f) =
    (subst (λ u. IsMessage g v.sort u) (sym (own_term (IsMessage g) (λ k. k < length tr) v bs t σ τ σ' τ' o.0 f)) d, fill_suits g tr bs o.1 (bind v t σ) τ σ' τ' f)
fill_suits g tr (Time n ∷ bs) o σ τ σ' τ' (k, p, f) =
    (subst (λ j. j < length tr) (sym (own_time (IsMessage g) (λ k. k < length tr) n bs k σ τ σ' τ' o.0 f)) p, fill_suits g tr bs o.1 σ (stamp n k τ) σ' τ' f)

-- two choices under which the guards pick the same facts are one
module _ (w : FormulaLaws) (g : Sig) (tr : Trace) (m : IsMessageTrace g tr) (scope : List Binder) (layers : Layers) (held : List Held) (σ : Choice) (τ : Times) (here : Here g tr scope layers held σ τ) (bs : List Binder) (once : NoTwice bs) (q : Form) (guarded : AreGuarded bs q) (checked : EachIn (IsCheckedAction g (enter bs scope)) (guards q)) where
  abbrev Fills : Choice → Times → Type 0
  Fills σ' τ' = Fill (IsMessage g) (λ k. k < length tr) bs σ τ σ' τ'

  abbrev within : Layers
  within = seen_by (place_of bs layers) [] (guards q) ∷ layers

  one_choice : (ss : List Sight) → AreIn tr (guards q) ss → (σ1 : Choice) (τ1 : Times) (σ2 : Choice) (τ2 : Times) → Fills σ1 τ1 → Fills σ2 τ2 → ArePicked g σ1 τ1 (guards q) ss → ArePicked g σ2 τ2 (guards q) ss → (σ1 ≡ σ2) × (τ1 ≡ τ2)
  one_choice ss i σ1 τ1 σ2 τ2 f h p q' =
      let a = values_led w g tr m scope layers held σ τ here bs once q guarded checked ss i σ1 τ1 f p in
      let b = values_led w g tr m scope layers held σ τ here bs once q guarded checked ss i σ2 τ2 h q' in
      let out : a.0 ≡ b.0 = let x = a.1 in let y = b.1 in cc in
      let told_a = told_here w g tr m scope layers held σ τ here bs once q guarded checked a.0 σ1 τ1 a.2 in
      let told_b = told_here w g tr m scope layers held σ τ here bs once q guarded checked b.0 σ2 τ2 b.2 in
      fill_one (IsMessage g) (λ k. k < length tr) bs once σ τ σ1 τ1 σ2 τ2 f h (each_both (λ b. got (slot_in within (binder_name b)) a.0 ≡ Some (value σ1 τ1 b)) (λ c. got (slot_in within (binder_name c)) b.0 ≡ Some (value σ2 τ2 c)) (λ b. value σ1 τ1 b ≡ value σ2 τ2 b) bs (λ c x y. let z : got (slot_in within (binder_name c)) a.0 ≡ Some (value σ2 τ2 c) = ap (got (slot_in within (binder_name c))) out ∙ y in cc) told_a told_b)

  one_choosing : (B : Choice → Times → Type 0) (R : Choice → Times → Reason) → ((out : List Held) (σ' : Choice) (τ' : Times) → Here g tr (enter bs scope) within out σ' τ' → AtMostOne (R σ' τ')) → AtMostOne (choosing (equations g) tr (IsMessage g) (λ k. k < length tr) bs (guards q) B R σ τ)
  one_choosing B R r cs ds (ss, first, shown) (ss', first', shown') =
      let same = one_first (Shown (equations g) (IsMessage g) (λ k. k < length tr) bs (guards q) B σ τ) (picks tr (guards q)) first.0 ss first.1 first.2 first.3 first.4 first'.0 ss' first'.1 first'.2 first'.3 first'.4 in
      let all = subst (EachIn (AreIn tr (guards q))) first.2 (picks_in tr (guards q)) in
      let i = (each_right (AreIn tr (guards q)) first.0 (ss ∷ first.1) all).0 in
      let G = λ (out : List Chosen) (zs : List Sight) (σ' : Choice) (τ' : Times). ArePicked g σ' τ' (guards q) zs × (B σ' τ' × told bs σ' τ' (R σ' τ') out) in
      let u = exists_filled (IsMessage g) (λ k. k < length tr) bs (G cs ss) σ τ shown in
      let v = exists_filled (IsMessage g) (λ k. k < length tr) bs (G ds ss') σ τ shown' in
      let p = subst (ArePicked g v.0 v.1 (guards q)) (sym same) v.3.0 in
      let one = one_choice ss i u.0 u.1 v.0 v.1 u.2 v.2 u.3.0 p in
      let known = values_led w g tr m scope layers held σ τ here bs once q guarded checked ss i u.0 u.1 u.2 u.3.0 in
      let x = u.3.1.1 in
      let y = subst (λ (z : Choice). told bs z u.1 (R z u.1) ds) (sym one.0) (subst (λ (z : Times). told bs v.0 z (R v.0 z) ds) (sym one.1) v.3.1.1) in
      let rest = r known.0 u.0 u.1 known.2 x.0 y.0 x.1 y.1 in
      x.2 ∙ ap (λ l. map (λ b. record { binder = b; value = value u.0 u.1 b }) bs ++ l) rest ∙ sym y.2

module _ (w : FormulaLaws) (g : Sig) (V : List ℕ → Type 0) (tr : Trace) (m : IsMessageTrace g tr) where
  abbrev Why : Form → Bool → Choice → Times → Reason
  Why f b σ τ = IsReasonUnder (equations g) tr (IsMessage g) (λ k. k < length tr) f b σ τ

  one : (f : Form) (b : Bool) (scope : List Binder) (layers : Layers) (held : List Held) (σ : Choice) (τ : Times) → IsChecked g V scope f → BindsOnce f → Here g tr scope layers held σ τ → AtMostOne (Why f b σ τ)
  one truth b scope layers held σ τ c o here = one_none
  one falsity b scope layers held σ τ c o here = one_none
  one (action f i) b scope layers held σ τ c o here = one_none
  one (equal s t) b scope layers held σ τ c o here = one_none
  one (same_time i j) b scope layers held σ τ c o here = one_none
  one (earlier i j) b scope layers held σ τ c o here = one_none
  one (negation f) b scope layers held σ τ c o here = one f (not b) scope layers held σ τ c o here
  one (both f h) true scope layers held σ τ c o here = one_joined (Why f true σ τ) (Why h true σ τ) (one f true scope layers held σ τ c.0 o.0 here) (one h true scope layers held σ τ c.1 o.1 here)
  one (both f h) false scope layers held σ τ c o here = one_first_of (Is false (IsTrue g tr f σ τ)) (Why f false σ τ) (Why h false σ τ) (one f false scope layers held σ τ c.0 o.0 here) (one h false scope layers held σ τ c.1 o.1 here)
  one (either f h) true scope layers held σ τ c o here = one_first_of (Is true (IsTrue g tr f σ τ)) (Why f true σ τ) (Why h true σ τ) (one f true scope layers held σ τ c.0 o.0 here) (one h true scope layers held σ τ c.1 o.1 here)
  one (either f h) false scope layers held σ τ c o here = one_joined (Why f false σ τ) (Why h false σ τ) (one f false scope layers held σ τ c.0 o.0 here) (one h false scope layers held σ τ c.1 o.1 here)
  one (implies f h) true scope layers held σ τ c o here = one_first_of (Is false (IsTrue g tr f σ τ)) (Why f false σ τ) (Why h true σ τ) (one f false scope layers held σ τ c.0 o.0 here) (one h true scope layers held σ τ c.1 o.1 here)
  one (implies f h) false scope layers held σ τ c o here = one_joined (Why f true σ τ) (Why h false σ τ) (one f true scope layers held σ τ c.0 o.0 here) (one h false scope layers held σ τ c.1 o.1 here)
  one (equivalent f h) b scope layers held σ τ c o here = one_none
  one (every bs f) true scope layers held σ τ c o here = one_none
  one (exists bs f) false scope layers held σ τ c o here = one_none
  one (every bs f) false scope layers held σ τ c o here =
      one_choosing w g tr m scope layers held σ τ here bs o.0 (premise f) c.0 (guards_checked g V (enter bs scope) (premise f) (premise_checked g V (enter bs scope) f c.1)) (λ σ' τ'. IsTrue g tr f σ' τ' → ⊥) (λ σ' τ'. Why f false σ' τ')
      (λ out σ' τ' there. one f false (enter bs scope) (seen_by (place_of bs layers) [] (guards (premise f)) ∷ layers) out σ' τ' c.1 o.1 there)
  one (exists bs f) true scope layers held σ τ c o here =
      one_choosing w g tr m scope layers held σ τ here bs o.0 f c.0 (guards_checked g V (enter bs scope) f c.1) (IsTrue g tr f) (λ σ' τ'. Why f true σ' τ')
      (λ out σ' τ' there. one f true (enter bs scope) (seen_by (place_of bs layers) [] (guards f) ∷ layers) out σ' τ' c.1 o.1 there)

pub one_reason : FormulaLaws → OneReasonLaw
one_reason w g f tr b m c = one w g (λ n. Unit {0}) tr m (slim f) b [] [] [] (λ v. variable v) (λ n. 0) (w.closed g f c) (w.once f) (here_first w g tr)

-- a formula keeps its truth value without hidden binders
pub same_value : (A C : Type 0) (b : Bool) → (A → C) → (C → A) → Is b A → Is b C
same_value A C true f h x = f x
same_value A C false f h n = λ y. n (h y)

pub some_reason : FormulaLaws → SomeReasonLaw
some_reason w g f tr b m c h = by (explained tr (claim_of tr Whole [] b (slim f)) []) (explains w g (λ n. Unit {0}) tr m (slim f) Whole b [] [] [] (λ v. variable v) (λ n. 0) (w.closed g f c) (w.once f) (here_first w g tr) tt) where
  true_here : Is b (IsTrueOn g (slim f) tr)
  true_here = same_value (IsTrueOn g f tr) (IsTrueOn g (slim f) tr) b (w.binders g f tr c).0 (w.binders g f tr c).1 h

  by : (o : Option (List Chosen)) → Exp (Is b (IsTrueOn g (slim f) tr)) (IsReason g f tr b) o → (cs : List Chosen) × IsReason g f tr b cs
  by None x = absurd (x true_here)
  by (Some cs) x = (cs, x.1)

-- what is told suits

module _ (g : Sig) (tr : Trace) where
  abbrev Fit : List Chosen → Type 0
  Fit cs = EachIn (λ c. Suits g tr c.binder c.value) cs

  abbrev Fitting : Reason → Type 0
  Fitting R = (cs : List Chosen) → R cs → Fit cs

  fit_none : Fitting none
  fit_none cs e = subst Fit (sym e) tt

  fit_joined : (A B : Reason) → Fitting A → Fitting B → Fitting (joined A B)
  fit_joined A B a b cs p = subst Fit (sym p.4) (each_append (λ c. Suits g tr c.binder c.value) p.0 p.1 (a p.0 p.2) (b p.1 p.3))

  fit_first_of : (P : Type 0) (A B : Reason) → Fitting A → Fitting B → Fitting (first_of P A B)
  fit_first_of P A B a b cs p = ⊎_elim (λ x. a cs x.1) (λ x. b cs x.1) p

  fit_map : (σ : Choice) (τ : Times) (bs : List Binder) → EachIn (λ b. Suits g tr b (value σ τ b)) bs → Fit (map (λ b. record { binder = b; value = value σ τ b }) bs)
  fit_map σ τ [] e = tt
  fit_map σ τ (b ∷ bs) e = (e.0, fit_map σ τ bs e.1)

  fit_choosing : (bs : List Binder) → NoTwice bs → (acts : List Action) (B : Choice → Times → Type 0) (R : Choice → Times → Reason) → ((σ' : Choice) (τ' : Times) → Fitting (R σ' τ')) → (σ : Choice) (τ : Times) → Fitting (choosing (equations g) tr (IsMessage g) (λ k. k < length tr) bs acts B R σ τ)
  fit_choosing bs o acts B R r σ τ cs (ss, first, shown) =
      let u = exists_filled (IsMessage g) (λ k. k < length tr) bs (λ σ' τ'. ArePicked g σ' τ' acts ss × (B σ' τ' × told bs σ' τ' (R σ' τ') cs)) σ τ shown in
      let x = u.3.1.1 in
      subst Fit (sym x.2) (each_append (λ c. Suits g tr c.binder c.value) (map (λ b. record { binder = b; value = value u.0 u.1 b }) bs) x.0 (fit_map u.0 u.1 bs (fill_suits g tr bs o σ τ u.0 u.1 u.2)) (r u.0 u.1 x.0 x.1))

  abbrev Why' : Form → Bool → Choice → Times → Reason
  Why' f b σ τ = IsReasonUnder (equations g) tr (IsMessage g) (λ k. k < length tr) f b σ τ

  fits : (f : Form) (b : Bool) (σ : Choice) (τ : Times) → BindsOnce f → Fitting (Why' f b σ τ)
  fits truth b σ τ o = fit_none
  fits falsity b σ τ o = fit_none
  fits (action f i) b σ τ o = fit_none
  fits (equal s t) b σ τ o = fit_none
  fits (same_time i j) b σ τ o = fit_none
  fits (earlier i j) b σ τ o = fit_none
  fits (negation f) b σ τ o = fits f (not b) σ τ o
  fits (both f h) true σ τ o = fit_joined (Why' f true σ τ) (Why' h true σ τ) (fits f true σ τ o.0) (fits h true σ τ o.1)
  fits (both f h) false σ τ o = fit_first_of (Is false (IsTrue g tr f σ τ)) (Why' f false σ τ) (Why' h false σ τ) (fits f false σ τ o.0) (fits h false σ τ o.1)
  fits (either f h) true σ τ o = fit_first_of (Is true (IsTrue g tr f σ τ)) (Why' f true σ τ) (Why' h true σ τ) (fits f true σ τ o.0) (fits h true σ τ o.1)
  fits (either f h) false σ τ o = fit_joined (Why' f false σ τ) (Why' h false σ τ) (fits f false σ τ o.0) (fits h false σ τ o.1)
  fits (implies f h) true σ τ o = fit_first_of (Is false (IsTrue g tr f σ τ)) (Why' f false σ τ) (Why' h true σ τ) (fits f false σ τ o.0) (fits h true σ τ o.1)
  fits (implies f h) false σ τ o = fit_joined (Why' f true σ τ) (Why' h false σ τ) (fits f true σ τ o.0) (fits h false σ τ o.1)
  fits (equivalent f h) b σ τ o = fit_none
  fits (every bs f) true σ τ o = fit_none
  fits (exists bs f) false σ τ o = fit_none
  fits (every bs f) false σ τ o = fit_choosing bs o.0 (guards (premise f)) (λ σ' τ'. IsTrue g tr f σ' τ' → ⊥) (λ σ' τ'. Why' f false σ' τ') (λ σ' τ'. fits f false σ' τ' o.1) σ τ
  fits (exists bs f) true σ τ o = fit_choosing bs o.0 (guards f) (IsTrue g tr f) (λ σ' τ'. Why' f true σ' τ') (λ σ' τ'. fits f true σ' τ' o.1) σ τ

pub reasons_suit : FormulaLaws → ReasonsSuit
reasons_suit w g f tr b cs h = fits g tr (slim f) b (λ v. variable v) (λ n. 0) (w.once f) cs h
