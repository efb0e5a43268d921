-- The choices that show a claim on a formula are the reason for its truth value, and where nothing shows it the formula hasn't this value.
use Rattle.std.proofs.Common.{◌≡◌, ℕ, ◌<◌, List, [], ◌∷◌, ◌++◌, Bool, true, false, not, ◌||◌, Option, Some, None, length, map, refl, sym, ap, subst, ◌∙◌, inl, inr, ◌⊎◌, ⊎_elim, append_assoc, if◌then◌else◌}
use Rattle.std.proofs.lemmas.List.{append-nil}
use Rattle.std.specs.Prelude.{slice_get}
use Rattle.std.specs.Bool.{Decides}
use Rattle.std.specs.List.{AllZip}
use Rattle.sap_formula.specs.Checked.{AreGuarded, BindsOnce, IsApart, IsChecked, NoTwice, binder_name, enter, find_binder, premise}
use Rattle.sap_formula.specs.Form.{Form, action, both, earlier, either, equal, equivalent, every, exists, falsity, implies, negation, same_time, truth}
use Rattle.sap_formula.specs.Slim.{binds, lasts}
use Rattle.sap_formula.specs.Truth.{EachIn, Exists, Every, Times}
use Rattle.sap_formula.specs.declared.binder.Binder.{Binder}
use Rattle.sap_judge.proofs.Entering.{Filled, Here, Holds, body_here, each_held, enter_agrees, enter_start, held_agree, later, reached_for}
use Rattle.sap_judge.proofs.Filling.{Fill, every_at, every_filled, exists_filled, fill_fitting, fill_normal, filled_exists, made, other}
use Rattle.sap_judge.proofs.FoldLaws.{folded_is}
use Rattle.sap_judge.proofs.Leading.{IsGuardTrue, Leads, Reached, leads_reached}
use Rattle.sap_judge.proofs.Led.{ArePicked, guards_pick, led_found, led_leads, led_picked, picked_true}
use Rattle.sap_judge.proofs.Members.{each_both, each_in, each_left, each_map, each_right}
use Rattle.sap_judge.proofs.Patterns.{IsCheckedAction}
use Rattle.sap_judge.proofs.Picking.{AreIn, Split, first_missed, first_split, idle_led, in_picks, led, led_flat, picks_in}
use Rattle.sap_judge.proofs.Plain.{FormulaLaws}
use Rattle.sap_judge.proofs.Planning.{Given, IsTrue, assume_premise, given_first, given_premise, given_second, guards_checked, guards_true, planned_decides, premise_checked}
use Rattle.sap_judge.proofs.Reading.{Agrees, Start}
use Rattle.sap_judge.specs.Guards.{Action, guards}
use Rattle.sap_judge.specs.Reasons.{Is, IsFirst, IsReasonUnder, Reason, Shown, choosing as choosing_reason, first_of, joined, none, picks, told as is_told, value}
use Rattle.sap_judge.specs.code.Claiming.{choosing_over, claim_of, slots_of}
use Rattle.sap_judge.specs.code.Folded.{are_idle, folded}
use Rattle.sap_judge.specs.code.Quantifying.{guards_over}
use Rattle.sap_judge.specs.code.Ready.{Layers, guards_of, left_of_imp, place_of, ready, seen_by, slot_at, slot_in, under_and}
use Rattle.sap_judge.specs.declared.extent.Extent.{Extent}
use Rattle.sap_judge.specs.declared.extent.Extent.TheVariants.{Whole, Body, Rest}
use Rattle.sap_match.specs.Atoms.{Held, Sight}
use Rattle.sap_match.specs.Matched.{onward}
use Rattle.sap_search.specs.Claims.{Chosen, Claim, Slotted, choosing, tested}
use Rattle.sap_search.specs.Explained.{explained, first_led, first_some, got, in_front, or_next, told, with_value}
use Rattle.sap_search.specs.Plan.{Guard, Plan, always}
use Rattle.sap_search.specs.Planned.{planned}
use Rattle.sap_terms.specs.Choice.{Choice}
use Rattle.sap_terms.specs.Equations.{equations}
use Rattle.sap_terms.specs.Message.{IsMessage, IsMessageTrace}
use Rattle.sap_terms.specs.Signature.{Sig, same_bool}
use Rattle.sap_terms.specs.Trace.{Trace}

-- choices that are found are the reason of what is so, and where none are found it isn't so
abbrev pub Exp : Type 0 → Reason → Option (List Chosen) → Type 0
Exp A R None = A → ⊥
Exp A R (Some cs) = A × R cs

pub exp_turn : (A C : Type 0) (R : Reason) (o : Option (List Chosen)) → (A → C) → ((A → ⊥) → C → ⊥) → Exp A R o → Exp C R o
exp_turn A C R None f h x = h x
exp_turn A C R (Some cs) f h x = (f x.0, x.1)

pub exp_each : (A B C : Type 0) (R S : Reason) (o p : Option (List Chosen)) → (A → B → C) → ((A → ⊥) → C → ⊥) → ((B → ⊥) → C → ⊥) → Exp A R o → Exp B S p → Exp C (joined R S) (onward o (λ cs. in_front cs p))
exp_each A B C R S None p f h k x y = h x
exp_each A B C R S (Some cs) None f h k x y = k y
exp_each A B C R S (Some cs) (Some ds) f h k x y = (f x.0 y.0, (cs, ds, x.1, y.1, refl))

pub exp_first : (A B C : Type 0) (R S : Reason) (o p : Option (List Chosen)) → (A → C) → (B → C) → ((A → ⊥) → (B → ⊥) → C → ⊥) → Exp A R o → Exp B S p → Exp C (first_of A R S) (or_next o p)
exp_first A B C R S None None f h k x y = k x y
exp_first A B C R S None (Some ds) f h k x y = (h y.0, inr (x, y.1))
exp_first A B C R S (Some cs) p f h k x y = (f x.0, inl (x.0, x.1))

-- a test
pub exp_test : (t b : Bool) (A : Type 0) → Decides t A → Exp (Is b A) none (if same_bool t b then Some [] else None)
exp_test true true A d = (d.0 refl, refl)
exp_test true false A d = λ h. h (d.0 refl)
exp_test false true A d = λ x. let e = d.1 x in absurd (cc)
exp_test false false A d = (λ x. let e = d.1 x in absurd (cc), refl)

-- what can't be untrue and is decided is true
pub stable : (t : Bool) (A : Type 0) → Decides t A → ((A → ⊥) → ⊥) → A
stable true A d n = d.0 refl
stable false A d n = absurd (n (λ x. let e = d.1 x in absurd (cc)))

-- binders that are bound once are all told
lasts_apart : (bs : List Binder) (n : List ℕ) → IsApart bs n → binds bs n ≡ false
lasts_apart [] n a = refl
lasts_apart (b ∷ bs) n a = ap (λ z. z || binds bs n) (other (binder_name b) n a.0) ∙ lasts_apart bs n a.1

pub lasts_once : (bs : List Binder) → NoTwice bs → lasts bs ≡ bs
lasts_once [] o = refl
lasts_once (b ∷ bs) o = ap (λ (r : Bool). if r then lasts bs else b ∷ lasts bs) (lasts_apart bs (binder_name b) o.0) ∙ ap (λ l. b ∷ l) (lasts_once bs o.1)

told_end : (ts : List Slotted) (t : Slotted) (held : List Held) → told (ts ++ t ∷ []) held ≡ with_value t.binder (got t.slot held) ++ told ts held
told_end [] t held = sym (append-nil (with_value t.binder (got t.slot held)))
told_end (s ∷ ts) t held = ap (λ l. l ++ with_value s.binder (got s.slot held)) (told_end ts t held) ∙ append_assoc (with_value t.binder (got t.slot held)) (told ts held) (with_value s.binder (got s.slot held))

told_is : (layers : Layers) (held : List Held) (σ : Choice) (τ : Times) (bs : List Binder) → EachIn (λ b. got (slot_in layers (binder_name b)) held ≡ Some (value σ τ b)) bs → told (slots_of layers bs) held ≡ map (λ b. record { binder = b; value = value σ τ b }) bs
told_is layers held σ τ [] e = refl
told_is layers held σ τ (b ∷ bs) e = told_end (slots_of layers bs) (record { binder = b; slot = slot_in layers (binder_name b) }) held ∙ (λ i. with_value b (e.0 i) ++ told_is layers held σ τ bs e.1 i)

-- where a list is found in front of others
in_front_some : (cs : List Chosen) (o : Option (List Chosen)) (out : List Chosen) → in_front cs o ≡ Some out → (ds : List Chosen) × (o ≡ Some ds) × (out ≡ cs ++ ds)
in_front_some cs None out h = absurd (cc)
in_front_some cs (Some ds) out h = (ds, refl, let e : cs ++ ds ≡ out = cc in sym e)

in_front_none : (cs : List Chosen) (o : Option (List Chosen)) → in_front cs o ≡ None → o ≡ None
in_front_none cs None h = refl
in_front_none cs (Some ds) h = absurd (cc)

onward_some : {X Y : Type 0} (o : Option X) (f : X → Option Y) (y : Y) → onward o f ≡ Some y → (x : X) × (o ≡ Some x) × (f x ≡ Some y)
onward_some None f y h = absurd (cc)
onward_some (Some x) f y h = (x, refl, h)

module _ (w : FormulaLaws) (g : Sig) (tr : Trace) (m : IsMessageTrace g tr) (scope : List Binder) (layers : Layers) (held : List Held) (σ : Choice) (τ : Times) (here : Here g tr scope layers held σ τ) (bs : List Binder) (once : NoTwice bs) (q : Form) (guarded : AreGuarded bs q) (checked : EachIn (IsCheckedAction g (enter bs scope)) (guards q)) where
  abbrev pub within : Layers
  within = later w g tr m scope layers held σ τ here bs once q guarded ∷ layers

  abbrev pub gs : List Guard
  gs = guards_of tr (place_of bs layers) [] (guards q)

  abbrev pub start : Start g tr (enter bs scope) (place_of bs layers) [] held
  start = enter_start w g tr m scope layers held σ τ here bs once

  abbrev pub Fills : Choice → Times → Type 0
  Fills σ' τ' = Fill (IsMessage g) (λ k. k < length tr) bs σ τ σ' τ'

  abbrev pub Agreeing : List Held → Choice → Times → Type 0
  Agreeing out σ' τ' = Agrees (enter bs scope) (slot_at (place_of bs layers) (seen_by (place_of bs layers) [] (guards q))) out σ' τ'

  -- what is known where facts are picked
  reach : (out : List Held) → Leads gs held out → Reached g tr (enter bs scope) (place_of bs layers) (seen_by (place_of bs layers) [] (guards q)) held (λ σ τ. EachIn (IsGuardTrue g tr σ τ) (guards q)) out
  reach out l = leads_reached w g tr m (enter bs scope) (place_of bs layers) (guards q) checked [] held out start l

  there : (out : List Held) → Leads gs held out → (σ' : Choice) (τ' : Times) → Fills σ' τ' → Agreeing out σ' τ' → Here g tr (enter bs scope) within out σ' τ'
  there out l σ' τ' fill a = body_here w g tr m scope layers held σ τ here bs once q guarded out (λ σ τ. EachIn (IsGuardTrue g tr σ τ) (guards q)) (reach out l) σ' τ' fill a

  -- values that make the guards pick these facts agree with what is held then
  pub values_led : (ss : List Sight) → AreIn tr (guards q) ss → (σ' : Choice) (τ' : Times) → Fills σ' τ' → ArePicked g σ' τ' (guards q) ss → (out : List Held) × (led gs ss held ≡ Some out) × Here g tr (enter bs scope) within out σ' τ'
  values_led ss i σ' τ' fill t =
      let P = λ (k : ℕ). k < length tr in
      let r = led_found w g tr m (enter bs scope) (place_of bs layers) σ' τ' (fill_normal g P bs σ τ σ' τ' here.normal fill) (fill_fitting g P bs scope σ τ σ' τ' here.fitting fill) (guards q) checked [] ss held start (enter_agrees w g tr m scope layers held σ τ here bs once σ' τ' fill) i t in
      (r.0, r.1, there r.0 (led_leads tr (place_of bs layers) (guards q) [] ss held r.0 i r.1) σ' τ' fill r.2)

  -- and there are such values where something is held
  record Valued (ss : List Sight) (out : List Held) : Type 0 where
    terms : Choice
    times : Times
    fill : Fills terms times
    picked : ArePicked g terms times (guards q) ss
    known : Here g tr (enter bs scope) within out terms times

  led_values : (ss : List Sight) (out : List Held) → AreIn tr (guards q) ss → led gs ss held ≡ Some out → Valued ss out
  led_values ss out i e =
      let l = led_leads tr (place_of bs layers) (guards q) [] ss held out i e in
      let C = λ (σ : Choice) (τ : Times). EachIn (IsGuardTrue g tr σ τ) (guards q) in
      let r = reach out l in
      let v = made g tr (Holds w g tr m scope layers held σ τ here bs once q guarded out C r) bs σ τ once (each_held w g tr m scope layers held σ τ here bs once q guarded out C r) in
      let a = held_agree w g tr m scope layers held σ τ here bs once q guarded out C r v.0 v.1 v.2 v.3 in
      record {
        terms = v.0;
        times = v.1;
        fill = v.2;
        picked = led_picked w g tr m (enter bs scope) (place_of bs layers) (guards q) checked [] ss held out start i e v.0 v.1 a;
        known = there out l v.0 v.1 v.2 a;
      }

  -- each binder's slot holds its value
  pub told_here : (out : List Held) (σ' : Choice) (τ' : Times) → Here g tr (enter bs scope) within out σ' τ' → EachIn (λ b. got (slot_in within (binder_name b)) out ≡ Some (value σ' τ' b)) bs
  told_here out σ' τ' known = each_map (λ b. find_binder (enter bs scope) (binder_name b) ≡ Some b) (λ b. got (slot_in within (binder_name b)) out ≡ Some (value σ' τ' b)) bs (λ b i. let k = known.slotted b i in ap (λ z. got z out) k.1 ∙ known.agrees b k.0 i k.1) (w.own bs scope once)

  module _ (c : Claim) (B : Choice → Times → Type 0) (R : Choice → Times → Reason) (body : (out : List Held) (σ' : Choice) (τ' : Times) → Here g tr (enter bs scope) within out σ' τ' → EachIn (IsGuardTrue g tr σ' τ') (guards q) → Exp (B σ' τ') (R σ' τ') (explained tr c out)) where
    -- what is found under what is held
    abbrev pub leaf : List Held → Option (List Chosen)
    leaf h = in_front (told (slots_of within bs) h) (explained tr c h)

    abbrev pub found_by : List Sight → Option (List Chosen)
    found_by ss = onward (led gs ss held) leaf

    abbrev pub IsShown : List Sight → Type 0
    IsShown ss = Shown (equations g) (IsMessage g) (λ k. k < length tr) bs (guards q) B σ τ ss

    -- where nothing is found under what guards pick nothing is shown by it
    missed : (ss : List Sight) → AreIn tr (guards q) ss → found_by ss ≡ None → (σ' : Choice) (τ' : Times) → Fills σ' τ' → ArePicked g σ' τ' (guards q) ss → B σ' τ' → ⊥
    missed ss i e σ' τ' fill t x =
        let r = values_led ss i σ' τ' fill t in
        let no : explained tr c r.0 ≡ None = in_front_none (told (slots_of within bs) r.0) (explained tr c r.0) (sym (ap (λ o. onward o leaf) r.1) ∙ e) in
        subst (Exp (B σ' τ') (R σ' τ')) no (body r.0 σ' τ' r.2 (picked_true g tr σ' τ' (guards q) ss i t)) x

    not_shown : (ss : List Sight) → AreIn tr (guards q) ss → found_by ss ≡ None → IsShown ss → ⊥
    not_shown ss i e h =
        let u = exists_filled (IsMessage g) (λ k. k < length tr) bs (λ σ' τ'. ArePicked g σ' τ' (guards q) ss × B σ' τ') σ τ h in
        missed ss i e u.0 u.1 u.2 u.3.0 u.3.1

    -- what is found first is the reason
    pub found_first : (cs : List Chosen) → first_led gs held leaf ≡ Some cs → ((σ' : Choice) × (τ' : Times) × Fills σ' τ' × B σ' τ') × choosing_reason (equations g) tr (IsMessage g) (λ k. k < length tr) bs (guards q) B R σ τ cs
    found_first cs e = at (first_split found_by (picks tr (guards q)) cs (sym (led_flat tr (place_of bs layers) leaf (guards q) [] held) ∙ e)) where
      at : Split found_by (picks tr (guards q)) cs → ((σ' : Choice) × (τ' : Times) × Fills σ' τ' × B σ' τ') × choosing_reason (equations g) tr (IsMessage g) (λ k. k < length tr) bs (guards q) B R σ τ cs
      at s =
          let all = subst (EachIn (AreIn tr (guards q))) s.is (picks_in tr (guards q)) in
          let i = (each_right (AreIn tr (guards q)) s.before (s.at ∷ s.after) all).0 in
          let o = onward_some (led gs s.at held) leaf cs s.found in
          let f = in_front_some (told (slots_of within bs) o.0) (explained tr c o.0) cs o.2 in
          let v = led_values s.at o.0 i o.1 in
          let x = subst (Exp (B v.terms v.times) (R v.terms v.times)) f.1 (body o.0 v.terms v.times v.known (picked_true g tr v.terms v.times (guards q) s.at i v.picked)) in
          let t = told_is within o.0 v.terms v.times bs (told_here o.0 v.terms v.times v.known) in
          let before = each_both (AreIn tr (guards q)) (λ ss. found_by ss ≡ None) (λ ss. IsShown ss → ⊥) s.before (λ ss j n. not_shown ss j n) (each_left (AreIn tr (guards q)) s.before (s.at ∷ s.after) all) s.missed in
          let shown = filled_exists (IsMessage g) (λ k. k < length tr) bs (λ σ' τ'. ArePicked g σ' τ' (guards q) s.at × B σ' τ') σ τ v.terms v.times v.fill (v.picked, x.0) in
          let reason = filled_exists (IsMessage g) (λ k. k < length tr) bs (λ σ' τ'. ArePicked g σ' τ' (guards q) s.at × (B σ' τ' × is_told bs σ' τ' (R σ' τ') cs)) σ τ v.terms v.times v.fill (v.picked, (x.0, (f.0, x.1, f.2 ∙ ap (λ l. l ++ f.0) t))) in
          ((v.terms, v.times, v.fill, x.0), (s.at, (s.before, s.after, s.is, before, shown), reason))

    -- and where nothing is found no values show it
    pub found_none : first_led gs held leaf ≡ None → (σ' : Choice) (τ' : Times) → Fills σ' τ' → EachIn (IsGuardTrue g tr σ' τ') (guards q) → B σ' τ' → ⊥
    found_none e σ' τ' fill t x =
        let n = first_missed found_by (picks tr (guards q)) (sym (led_flat tr (place_of bs layers) leaf (guards q) [] held) ∙ e) in
        let p = guards_pick g tr σ' τ' (guards q) t in
        missed p.0 p.1 (each_in (λ ss. found_by ss ≡ None) (picks tr (guards q)) p.0 n (in_picks tr (guards q) p.0 p.1)) σ' τ' fill p.2 x

    -- so of a search for a choice, whichever value it is to have
    pub quantifier_exp : (A : Type 0) → ((σ' : Choice) (τ' : Times) → Fills σ' τ' → B σ' τ' → A) → (((σ' : Choice) (τ' : Times) → Fills σ' τ' → EachIn (IsGuardTrue g tr σ' τ') (guards q) → B σ' τ' → ⊥) → A → ⊥) → Exp A (choosing_reason (equations g) tr (IsMessage g) (λ k. k < length tr) bs (guards q) B R σ τ) (explained tr (if are_idle gs then tested true (always false) else choosing gs (slots_of within bs) c) held)
    quantifier_exp A f h = idle (are_idle gs) refl where
      by : (o : Option (List Chosen)) → first_led gs held leaf ≡ o → Exp A (choosing_reason (equations g) tr (IsMessage g) (λ k. k < length tr) bs (guards q) B R σ τ) o
      by None e = h (found_none e)
      by (Some cs) e = let r = found_first cs e in (f r.0.0 r.0.1 r.0.2 r.0.3, r.1)

      idle : (b : Bool) → are_idle gs ≡ b → Exp A (choosing_reason (equations g) tr (IsMessage g) (λ k. k < length tr) bs (guards q) B R σ τ) (explained tr (if b then tested true (always false) else choosing gs (slots_of within bs) c) held)
      idle true e = by None (idle_led gs held leaf e)
      idle false e = by (first_led gs held leaf) refl
