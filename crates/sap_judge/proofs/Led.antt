-- What is held where guards pick these facts, and under which values they pick them.
use Rattle.std.proofs.Common.{◌≡◌, ℕ, ◌<◌, List, [], ◌∷◌, Option, Some, None, length, refl, sym, ap, subst, ◌∙◌, inl, inr}
use Rattle.std.specs.List.{AllZip}
use Rattle.std.proofs.lemmas.Slice.Eq.{bytes_eq-Decides}
use Rattle.sap_formula.specs.Messages.{HasMessages, IsNormalEnv}
use Rattle.sap_formula.specs.Truth.{AnyIn, EachIn, Shows, Times, facts_at}
use Rattle.sap_formula.specs.declared.binder.Binder.{Binder}
use Rattle.sap_judge.proofs.Decided.{args-equal}
use Rattle.sap_judge.proofs.FactsOf.{facts_below, in_sights, of_sights}
use Rattle.sap_judge.proofs.Leading.{IsGuardTrue, Leads, agrees_mid, fact_good}
use Rattle.sap_judge.proofs.Members.{any_found, any_here}
use Rattle.sap_judge.proofs.Patterns.{Fits, IsCheckedAction, guarded_gives}
use Rattle.sap_judge.proofs.Picking.{AreIn, led}
use Rattle.sap_judge.proofs.Plain.{FormulaLaws}
use Rattle.sap_judge.proofs.Reading.{Agrees, Ends, Gives, IsFitting, Start}
use Rattle.sap_judge.proofs.Tests.{IsIn}
use Rattle.sap_judge.specs.Guards.{Action, sights}
use Rattle.sap_judge.specs.Reasons.{IsPicked}
use Rattle.sap_judge.specs.code.Ready.{Place, atom_of, guards_of, seen_behind, seen_by, slot_at}
use Rattle.sap_match.specs.Atoms.{Held, Sight}
use Rattle.sap_match.specs.Matched.{guarded, onward}
use Rattle.sap_search.specs.Plan.{Guard}
use Rattle.sap_terms.specs.Choice.{Choice}
use Rattle.sap_terms.specs.Equations.{equations}
use Rattle.sap_terms.specs.Message.{IsMessageTrace}
use Rattle.sap_terms.specs.Signature.{Sig}
use Rattle.sap_terms.specs.Trace.{Trace}
use Rattle.sap_terms.specs.declared.fact.Fact.{Fact}

-- each guard picks its fact under these values
abbrev pub ArePicked : Sig → Choice → Times → List Action → List Sight → Type 0
ArePicked g σ τ acts ss = AllZip (IsPicked (equations g) σ τ) acts ss

-- what is known of a fact that is picked
picked_time : (g : Sig) (σ : Choice) (τ : Times) (a : Action) (s : Sight) → IsPicked (equations g) σ τ a s → τ a.time ≡ s.time
picked_time g σ τ a s (t, h) = t

picked_shows : (g : Sig) (σ : Choice) (τ : Times) (a : Action) (s : Sight) → IsPicked (equations g) σ τ a s → Shows (equations g) σ a.pattern s.fact
picked_shows g σ τ a s (t, h) = h

-- what is held where the first of the guards picks a fact and then the others theirs
led_some : (ds : List Guard) (ss : List Sight) (o : Option (List Held)) (out : List Held) → onward o (λ mid. led ds ss mid) ≡ Some out → (mid : List Held) × (o ≡ Some mid) × (led ds ss mid ≡ Some out)
led_some ds ss None out h = absurd (cc)
led_some ds ss (Some mid) out h = (mid, refl, h)

-- then something is reached
pub led_leads : (tr : Trace) (p : Place) (acts : List Action) (seen : List (List ℕ)) (ss : List Sight) (held out : List Held) → AreIn tr acts ss → led (guards_of tr p seen acts) ss held ≡ Some out → Leads (guards_of tr p seen acts) held out
led_leads tr p [] seen [] held out i h = cc
led_leads tr p [] seen (s ∷ ss) held out i h = absurd i
led_leads tr p (a ∷ acts) seen [] held out i h = absurd i
led_leads tr p (a ∷ acts) seen (s ∷ ss) held out i h =
    let r = led_some (guards_of tr p (seen_behind p seen a) acts) ss (guarded (atom_of p seen a) s.fact s.time held) out h in
    (s, i.0, r.0, r.1, led_leads tr p acts (seen_behind p seen a) ss r.0 out i.1 r.2)

module _ (w : FormulaLaws) (g : Sig) (tr : Trace) (m : IsMessageTrace g tr) (scope : List Binder) (p : Place) where
  -- what one guard gives with a fact of its name
  one_gives : (a : Action) → IsCheckedAction g scope a → (s : Sight) → IsIn (sights a.pattern.name tr) s → (seen : List (List ℕ)) (held : List Held) → Start g tr scope p seen held → Gives g tr scope p seen (seen_behind p seen a) held (Fits a s.fact s.time) (guarded (atom_of p seen a) s.fact s.time held)
  one_gives a c s i seen held start =
      let at = of_sights a.pattern.name tr s i in
      guarded_gives g tr scope p a c s.fact (fact_good w g tr m scope p s.time s.fact at.1) s.time at.0 seen held start

  -- under values that agree with what is reached the guards pick these facts
  pub led_picked : (acts : List Action) → EachIn (IsCheckedAction g scope) acts → (seen : List (List ℕ)) (ss : List Sight) (held out : List Held) → Start g tr scope p seen held → AreIn tr acts ss → led (guards_of tr p seen acts) ss held ≡ Some out → (σ : Choice) (τ : Times) → Agrees scope (slot_at p (seen_by p seen acts)) out σ τ → ArePicked g σ τ acts ss
  led_picked [] c seen [] held out start i h σ τ b = tt
  led_picked [] c seen (s ∷ ss) held out start i h σ τ b = absurd i
  led_picked (a ∷ acts) c seen [] held out start i h σ τ b = absurd i
  led_picked (a ∷ acts) c seen (s ∷ ss) held out start i h σ τ b =
      let r = led_some (guards_of tr p (seen_behind p seen a) acts) ss (guarded (atom_of p seen a) s.fact s.time held) out h in
      let first : Ends g tr scope p seen (seen_behind p seen a) held (Fits a s.fact s.time) r.0 = subst (λ o. Gives g tr scope p seen (seen_behind p seen a) held (Fits a s.fact s.time) o) r.1 (one_gives a c.0 s i.0 seen held start) in
      let l = led_leads tr p acts (seen_behind p seen a) ss r.0 out i.1 r.2 in
      let f = (first.back σ τ (agrees_mid w g tr m scope p acts c.1 (seen_behind p seen a) r.0 out first.start l σ τ b)).1 in
      ((f.1, ((of_sights a.pattern.name tr s i.0).2, args-equal (equations g) σ a.pattern.args s.fact.args f.0)), led_picked acts c.1 (seen_behind p seen a) ss r.0 out first.start i.1 r.2 σ τ b)

  -- under values under which they pick these facts something is reached that agrees with them
  module _ (σ : Choice) (τ : Times) (n : IsNormalEnv (equations g) σ) (fit : IsFitting scope σ) where
    -- what is reached agrees with these values
    abbrev pub IsLed : List Action → List (List ℕ) → List Sight → List Held → Type 0
    IsLed acts seen ss held = (out : List Held) × (led (guards_of tr p seen acts) ss held ≡ Some out) × Agrees scope (slot_at p (seen_by p seen acts)) out σ τ

    led_step : (a : Action) (acts : List Action) (seen : List (List ℕ)) (s : Sight) (ss : List Sight) (held : List Held) → Agrees scope (slot_at p seen) held σ τ → Fits a s.fact s.time σ τ → (o : Option (List Held)) → guarded (atom_of p seen a) s.fact s.time held ≡ o → Gives g tr scope p seen (seen_behind p seen a) held (Fits a s.fact s.time) o → ((mid : List Held) → Start g tr scope p (seen_behind p seen a) mid → Agrees scope (slot_at p (seen_behind p seen a)) mid σ τ → IsLed acts (seen_behind p seen a) ss mid) → IsLed (a ∷ acts) seen (s ∷ ss) held
    led_step a acts seen s ss held b fits None e r f = absurd (r σ τ fit b fits)
    led_step a acts seen s ss held b fits (Some mid) e r f =
        let q = f mid r.start (r.forth σ τ b fits) in
        (q.0, ap (λ o. onward o (λ mid. led (guards_of tr p (seen_behind p seen a) acts) ss mid)) e ∙ q.1, q.2)

    pub led_found : (acts : List Action) → EachIn (IsCheckedAction g scope) acts → (seen : List (List ℕ)) (ss : List Sight) (held : List Held) → Start g tr scope p seen held → Agrees scope (slot_at p seen) held σ τ → AreIn tr acts ss → ArePicked g σ τ acts ss → IsLed acts seen ss held
    led_found [] c seen [] held start b i t = (held, refl, b)
    led_found [] c seen (s ∷ ss) held start b i t = absurd i
    led_found (a ∷ acts) c seen [] held start b i t = absurd i
    led_found (a ∷ acts) c seen (s ∷ ss) held start b i t =
        let at = of_sights a.pattern.name tr s i.0 in
        let fits : Fits a s.fact s.time σ τ = (w.args g scope σ a.pattern.args s.fact.args c.0.terms n (fact_good w g tr m scope p s.time s.fact at.1).2 (picked_shows g σ τ a s t.0).1, picked_time g σ τ a s t.0) in
        led_step a acts seen s ss held b fits (guarded (atom_of p seen a) s.fact s.time held) refl (one_gives a c.0 s i.0 seen held start) (λ mid s d. led_found acts c.1 (seen_behind p seen a) ss mid s d i.1 t.1)

-- guards that are true pick facts of the trace
pub guards_pick : (g : Sig) (tr : Trace) (σ : Choice) (τ : Times) (acts : List Action) → EachIn (IsGuardTrue g tr σ τ) acts → (ss : List Sight) × AreIn tr acts ss × ArePicked g σ τ acts ss
guards_pick g tr σ τ [] t = ([], tt, tt)
guards_pick g tr σ τ (a ∷ acts) t =
    let x = any_found (Shows (equations g) σ a.pattern) (facts_at tr (τ a.time)) t.0 in
    let r = guards_pick g tr σ τ acts t.1 in
    let i : IsIn (sights a.pattern.name tr) (record { time = τ a.time; fact = x.0 }) = in_sights a.pattern.name tr (τ a.time) x.0 x.1 ((bytes_eq-Decides a.pattern.name x.0.name).1 x.2.0) in
    (record { time = τ a.time; fact = x.0 } ∷ r.0, (i, r.1), ((refl, x.2), r.2))

-- and those that pick facts are true
pub picked_true : (g : Sig) (tr : Trace) (σ : Choice) (τ : Times) (acts : List Action) (ss : List Sight) → AreIn tr acts ss → ArePicked g σ τ acts ss → EachIn (IsGuardTrue g tr σ τ) acts
picked_true g tr σ τ [] [] i t = tt
picked_true g tr σ τ [] (s ∷ ss) i t = tt
picked_true g tr σ τ (a ∷ acts) [] i t = absurd i
picked_true g tr σ τ (a ∷ acts) (s ∷ ss) i t =
    let at = of_sights a.pattern.name tr s i.0 in
    let there = any_here (Shows (equations g) σ a.pattern) (facts_at tr s.time) s.fact at.1 (picked_shows g σ τ a s t.0) in
    (subst (λ k. AnyIn (Shows (equations g) σ a.pattern) (facts_at tr k)) (sym (picked_time g σ τ a s t.0)) there, picked_true g tr σ τ acts ss i.1 t.1)
