-- What a search through the facts that fit guards reaches.
use Rattle.std.proofs.Common.{◌≡◌, ℕ, List, [], ◌∷◌, ◌++◌, Bool, true, false, Option, Some, None, refl, sym, ap, subst, ◌∙◌, append_assoc}
use Rattle.std.proofs.lemmas.List.{append-nil}
use Rattle.std.specs.Bool.{Decides}
use Rattle.std.proofs.lemmas.Slice.Eq.{bytes_eq-Decides}
use Rattle.sap_judge.proofs.Decided.{args-equal}
use Rattle.sap_judge.proofs.FactsOf.{facts_below, in_sights, of_sights}
use Rattle.sap_formula.specs.Messages.{HasMessages, IsNormalEnv}
use Rattle.sap_judge.proofs.Patterns.{Fits, IsCheckedAction, guarded_gives}
use Rattle.sap_judge.proofs.Members.{any_found, any_here, each_in}
use Rattle.sap_judge.proofs.Plain.{FormulaLaws}
use Rattle.sap_judge.proofs.Reading.{Agrees, Ends, Gives, IsFitting, Start}
use Rattle.sap_judge.proofs.Tests.{IsIn, decides_all, decides_any}
use Rattle.sap_formula.specs.Truth.{AnyIn, EachIn, Shows, Times, facts_at}
use Rattle.sap_judge.specs.Guards.{Action, sights}
use Rattle.sap_judge.specs.code.Ready.{Place, atom_of, guards_of, seen_behind, seen_by, slot_at}
use Rattle.sap_search.specs.Plan.{Guard}
use Rattle.sap_match.specs.Atoms.{Held, Sight}
use Rattle.sap_match.specs.Matched.{guarded}
use Rattle.sap_search.specs.Planned.{searched, with_some}
use Rattle.sap_formula.specs.declared.binder.Binder.{Binder}
use Rattle.sap_terms.specs.Choice.{Choice}
use Rattle.sap_terms.specs.Equations.{equations}
use Rattle.sap_terms.specs.Message.{IsMessageTrace}
use Rattle.sap_terms.specs.Signature.{Sig}
use Rattle.sap_terms.specs.Trace.{Trace}
use Rattle.sap_terms.specs.declared.fact.Fact.{Fact}

-- some choice of a fact for each guard fits, and then the slots hold this
abbrev pub Leads : List Guard → List Held → List Held → Type 0
Leads [] held out = held ≡ out
Leads (d ∷ ds) held out = (s : Sight) × IsIn d.facts s × (mid : List Held) × (guarded d.atom s.fact s.time held ≡ Some mid) × Leads ds mid out

-- a choice is reached that passes, and each that is reached passes
abbrev IsReached : List Guard → (List Held → Bool) → List Held → Type 0
IsReached ds leaf held = (out : List Held) × Leads ds held out × (leaf out ≡ true)

abbrev AreReached : List Guard → (List Held → Bool) → List Held → Type 0
AreReached ds leaf held = (out : List Held) → Leads ds held out → leaf out ≡ true

module _ (d : Guard) (ds : List Guard) (leaf : List Held → Bool) (held : List Held) where
  any_step : ((mid : List Held) → Decides (searched false ds mid leaf) (IsReached ds leaf mid)) → Decides (searched false (d ∷ ds) held leaf) (IsReached (d ∷ ds) leaf held)
  any_step f = (
    λ h. let r = (decides_any (λ s. with_some (guarded d.atom s.fact s.time held) false (λ h. searched false ds h leaf)) d.facts).0 h in reached r.0 r.1 (guarded d.atom r.0.fact r.0.time held) refl r.2,
    back,
  ) where
    reached : (s : Sight) → IsIn d.facts s → (o : Option (List Held)) → guarded d.atom s.fact s.time held ≡ o → with_some o false (λ h. searched false ds h leaf) ≡ true → IsReached (d ∷ ds) leaf held
    reached s i None e h = absurd (cc)
    reached s i (Some mid) e h = let r = (f mid).0 h in (r.0, (s, i, mid, e, r.1), r.2)

    back : IsReached (d ∷ ds) leaf held → searched false (d ∷ ds) held leaf ≡ true
    back (out, (s, i, mid, e, l), t) =
        (decides_any (λ s. with_some (guarded d.atom s.fact s.time held) false (λ h. searched false ds h leaf)) d.facts).1 (s, i, ap (λ o. with_some o false (λ h. searched false ds h leaf)) e ∙ (f mid).1 (out, l, t))

  all_step : ((mid : List Held) → Decides (searched true ds mid leaf) (AreReached ds leaf mid)) → Decides (searched true (d ∷ ds) held leaf) (AreReached (d ∷ ds) leaf held)
  all_step f = (
    there,
    λ h. (decides_all (λ s. with_some (guarded d.atom s.fact s.time held) true (λ h. searched true ds h leaf)) d.facts).1 (λ s i. each h s i (guarded d.atom s.fact s.time held) refl),
  ) where
    there : searched true (d ∷ ds) held leaf ≡ true → AreReached (d ∷ ds) leaf held
    there h out (s, i, mid, e, l) =
        let r = (decides_all (λ s. with_some (guarded d.atom s.fact s.time held) true (λ h. searched true ds h leaf)) d.facts).0 h s i in
        (f mid).0 (sym (ap (λ o. with_some o true (λ h. searched true ds h leaf)) e) ∙ r) out l

    each : AreReached (d ∷ ds) leaf held → (s : Sight) → IsIn d.facts s → (o : Option (List Held)) → guarded d.atom s.fact s.time held ≡ o → with_some o true (λ h. searched true ds h leaf) ≡ true
    each h s i None e = refl
    each h s i (Some mid) e = (f mid).1 (λ out l. h out (s, i, mid, e, l))

pub search_any : (ds : List Guard) (leaf : List Held → Bool) (held : List Held) → Decides (searched false ds held leaf) ((out : List Held) × Leads ds held out × (leaf out ≡ true))
search_any [] leaf held = (λ h. (held, refl, h), λ r. ap leaf r.1 ∙ r.2)
search_any (d ∷ ds) leaf held = any_step d ds leaf held (λ mid. search_any ds leaf mid)

pub search_all : (ds : List Guard) (leaf : List Held → Bool) (held : List Held) → Decides (searched true ds held leaf) ((out : List Held) → Leads ds held out → leaf out ≡ true)
search_all [] leaf held = (λ h out e. ap leaf (sym e) ∙ h, λ f. f held refl)
search_all (d ∷ ds) leaf held = all_step d ds leaf held (λ mid. search_all ds leaf mid)

-- the guard holds
abbrev pub IsGuardTrue : Sig → Trace → Choice → Times → Action → Type 0
IsGuardTrue g tr σ τ a = AnyIn (Shows (equations g) σ a.pattern) (facts_at tr (τ a.time))

-- what is known of the slots that a search reaches
pub record Reached (g : Sig) (tr : Trace) (scope : List Binder) (p : Place) (later : List (List ℕ)) (held : List Held) (C : Choice → Times → Type 0) (out : List Held) : Type 0 where
  pub new : List Held
  pub is : out ≡ held ++ new
  pub start : Start g tr scope p later out
  pub back : (σ : Choice) (τ : Times) → Agrees scope (slot_at p later) out σ τ → C σ τ

module _ (w : FormulaLaws) (g : Sig) (tr : Trace) (m : IsMessageTrace g tr) (scope : List Binder) (p : Place) where
  pub fact_good : (k : ℕ) (x : Fact) → IsIn (facts_at tr k) x → HasMessages g x
  fact_good k x i = each_in (HasMessages g) (facts_at tr k) x (w.facts g tr m k) i

  fits_true : (a : Action) (s : Sight) → IsIn (sights a.pattern.name tr) s → (σ : Choice) (τ : Times) → Fits a s.fact s.time σ τ → IsGuardTrue g tr σ τ a
  fits_true a s i σ τ f =
      let r = of_sights a.pattern.name tr s i in
      let there = any_here (Shows (equations g) σ a.pattern) (facts_at tr s.time) s.fact r.1 (r.2, args-equal (equations g) σ a.pattern.args s.fact.args f.0) in
      subst (λ k. AnyIn (Shows (equations g) σ a.pattern) (facts_at tr k)) (sym f.1) there

  -- values that agree with what is reached agree with what was there
  pub agrees_mid : (xs : List Action) → EachIn (IsCheckedAction g scope) xs → (seen : List (List ℕ)) (held out : List Held) → Start g tr scope p seen held → Leads (guards_of tr p seen xs) held out → (σ : Choice) (τ : Times) → Agrees scope (slot_at p (seen_by p seen xs)) out σ τ → Agrees scope (slot_at p seen) held σ τ
  agrees_mid [] c seen held out start e σ τ b = subst (λ z. Agrees scope (slot_at p seen) z σ τ) (sym e) b
  agrees_mid (a ∷ xs) c seen held out start (s, i, mid, e, l) σ τ b =
      let at = of_sights a.pattern.name tr s i in
      let gives = guarded_gives g tr scope p a c.0 s.fact (fact_good s.time s.fact at.1) s.time at.0 seen held start in
      let first : Ends g tr scope p seen (seen_behind p seen a) held (Fits a s.fact s.time) mid = subst (λ o. Gives g tr scope p seen (seen_behind p seen a) held (Fits a s.fact s.time) o) e gives in
      (first.back σ τ (agrees_mid xs c.1 (seen_behind p seen a) mid out first.start l σ τ b)).0

  -- under values that agree with what is reached the guards hold
  pub leads_reached : (xs : List Action) → EachIn (IsCheckedAction g scope) xs → (seen : List (List ℕ)) (held out : List Held) → Start g tr scope p seen held → Leads (guards_of tr p seen xs) held out → Reached g tr scope p (seen_by p seen xs) held (λ σ τ. EachIn (IsGuardTrue g tr σ τ) xs) out
  leads_reached [] c seen held out start e = record {
    new = [];
    is = sym e ∙ sym (append-nil held);
    start = subst (Start g tr scope p seen) e start;
    back = λ σ τ a. tt;
  }
  leads_reached (a ∷ xs) c seen held out start (s, i, mid, e, l) =
      let at = of_sights a.pattern.name tr s i in
      let gives = guarded_gives g tr scope p a c.0 s.fact (fact_good s.time s.fact at.1) s.time at.0 seen held start in
      let first : Ends g tr scope p seen (seen_behind p seen a) held (Fits a s.fact s.time) mid = subst (λ o. Gives g tr scope p seen (seen_behind p seen a) held (Fits a s.fact s.time) o) e gives in
      let later = leads_reached xs c.1 (seen_behind p seen a) mid out first.start l in
      record {
        new = first.new ++ later.new;
        is = later.is ∙ ap (λ z. z ++ later.new) first.is ∙ append_assoc held first.new later.new;
        start = later.start;
        back = λ σ τ b. (fits_true a s i σ τ (first.back σ τ (agrees_mid xs c.1 (seen_behind p seen a) mid out first.start l σ τ b)).1, later.back σ τ b);
      }

  -- under values that make the guards true something is reached that agrees with them
  module _ (σ : Choice) (τ : Times) (n : IsNormalEnv (equations g) σ) (fit : IsFitting scope σ) where
    -- some choice is reached that agrees with these values
    abbrev IsFound : List Action → List (List ℕ) → List Held → Type 0
    IsFound xs seen held = (out : List Held) × Leads (guards_of tr p seen xs) held out × Agrees scope (slot_at p (seen_by p seen xs)) out σ τ

    found_step : (a : Action) (xs : List Action) → IsCheckedAction g scope a → (seen : List (List ℕ)) (held : List Held) → Start g tr scope p seen held → Agrees scope (slot_at p seen) held σ τ → IsGuardTrue g tr σ τ a → ((mid : List Held) → Start g tr scope p (seen_behind p seen a) mid → Agrees scope (slot_at p (seen_behind p seen a)) mid σ τ → IsFound xs (seen_behind p seen a) mid) → IsFound (a ∷ xs) seen held
    found_step a xs c seen held start b t f = at (any_found (Shows (equations g) σ a.pattern) (facts_at tr (τ a.time)) t) where
      at : ((x : Fact) × IsIn (facts_at tr (τ a.time)) x × Shows (equations g) σ a.pattern x) → IsFound (a ∷ xs) seen held
      at (x, i, s) = in_case (guarded (atom_of p seen a) x (τ a.time) held) refl (guarded_gives g tr scope p a c x (fact_good (τ a.time) x i) (τ a.time) (facts_below (Shows (equations g) σ a.pattern) tr (τ a.time) t) seen held start) where
        fits : Fits a x (τ a.time) σ τ
        fits = (w.args g scope σ a.pattern.args x.args c.terms n (fact_good (τ a.time) x i).2 s.1, refl)

        sight : IsIn (sights a.pattern.name tr) (record { time = τ a.time; fact = x })
        sight = in_sights a.pattern.name tr (τ a.time) x i ((bytes_eq-Decides a.pattern.name x.name).1 s.0)

        in_case : (o : Option (List Held)) → guarded (atom_of p seen a) x (τ a.time) held ≡ o → Gives g tr scope p seen (seen_behind p seen a) held (Fits a x (τ a.time)) o → IsFound (a ∷ xs) seen held
        in_case None e r = absurd (r σ τ fit b fits)
        in_case (Some mid) e r =
            let q = f mid r.start (r.forth σ τ b fits) in
            (q.0, (record { time = τ a.time; fact = x }, sight, mid, e, q.1), q.2)

    pub leads_found : (xs : List Action) → EachIn (IsCheckedAction g scope) xs → (seen : List (List ℕ)) (held : List Held) → Start g tr scope p seen held → Agrees scope (slot_at p seen) held σ τ → EachIn (IsGuardTrue g tr σ τ) xs → (out : List Held) × Leads (guards_of tr p seen xs) held out × Agrees scope (slot_at p (seen_by p seen xs)) out σ τ
    leads_found [] c seen held start b t = (held, refl, b)
    leads_found (a ∷ xs) c seen held start b t = found_step a xs c.0 seen held start b t.0 (λ mid s d. leads_found xs c.1 (seen_behind p seen a) mid s d t.1)
