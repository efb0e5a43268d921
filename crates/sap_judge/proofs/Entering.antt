-- A quantifier's search decides its truth where the test of its body decides the body's.
use Rattle.std.proofs.Common.{◌≡◌, ℕ, ◌<◌, List, [], ◌∷◌, Bool, true, false, ◌||◌, length, Option, Some, None, refl, sym, ap, subst, ◌∙◌, if◌then◌else◌, arith}
use Rattle.std.specs.Prelude.{slice_get, map}
use Rattle.std.specs.Bool.{Decides}
use Rattle.std.specs.List.{list_any}
use Rattle.std.specs.Str.{bytes_eq}
use Rattle.std.proofs.lemmas.Slice.Eq.{bytes_eq-Decides}
use Rattle.sap_judge.proofs.Filling.{Fill, HasOne, every_at, every_filled, exists_filled, fill_fitting, fill_normal, filled_exists, made, value_kept}
use Rattle.sap_judge.proofs.Members.{each_both}
use Rattle.sap_judge.proofs.Leading.{IsGuardTrue, Leads, Reached, leads_found, leads_reached, search_all, search_any}
use Rattle.sap_judge.proofs.Patterns.{IsCheckedAction}
use Rattle.sap_judge.proofs.Plain.{FormulaLaws}
use Rattle.sap_formula.specs.Messages.{IsNormalEnv}
use Rattle.sap_judge.specs.Reasons.{value}
use Rattle.sap_judge.proofs.Reading.{Agrees, AreFilled, IsFitting, Start, get_kept}
use Rattle.sap_judge.proofs.Layers.{bound_apart, bound_stands, by_slotted, by_stay, same_slots}
use Rattle.sap_formula.specs.Checked.{AreGuarded, IsApart, NoTwice, StandsInAtom, binder_name, enter, find_binder}
use Rattle.sap_formula.specs.Form.{Form}
use Rattle.sap_formula.specs.Truth.{EachIn, Every, Exists, Times}
use Rattle.sap_match.specs.Atoms.{Held, held_term, held_time}
use Rattle.sap_judge.specs.Guards.{guards}
use Rattle.sap_judge.specs.code.Ready.{Layers, guards_of, place_of, seen_by, slot_at, slot_count, slot_in}
use Rattle.sap_search.specs.Planned.{searched}
use Rattle.sap_formula.specs.declared.binder.Binder.{Binder}
use Rattle.sap_formula.specs.declared.binder.Binder.TheVariants.{Message, Time}
use Rattle.sap_terms.specs.Choice.{Choice}
use Rattle.sap_terms.specs.Equations.{equations}
use Rattle.sap_terms.specs.Message.{IsMessage, IsMessageTrace}
use Rattle.sap_terms.specs.Signature.{Sig}
use Rattle.sap_terms.specs.Trace.{Trace}

-- what is known where a formula is tested
pub record Here (g : Sig) (tr : Trace) (scope : List Binder) (layers : Layers) (held : List Held) (σ : Choice) (τ : Times) : Type 0 where
  pub counted : length held ≡ slot_count layers
  pub filled : AreFilled g tr scope (slot_in layers) held
  pub slotted : (b : Binder) → find_binder scope (binder_name b) ≡ Some b → (k : ℕ) × (slot_in layers (binder_name b) ≡ Some k)
  pub agrees : Agrees scope (slot_in layers) held σ τ
  pub normal : IsNormalEnv (equations g) σ
  pub fitting : IsFitting scope σ

-- what each binder of a list has, and which is found under its name
each_named : (Q : Binder → Type 0) (look : List ℕ → Option Binder) (bs : List Binder) (c : Binder) → EachIn (λ b. look (binder_name b) ≡ Some b) bs → EachIn Q bs → list_any (bytes_eq (binder_name c)) (map binder_name bs) ≡ true → look (binder_name c) ≡ Some c → Q c
each_named Q look [] c i q h e = absurd (cc)
each_named Q look (b ∷ bs) c i q h e = at (bytes_eq (binder_name c) (binder_name b)) refl h (λ x. each_named Q look bs c i.1 q.1 x e) where
  at : (r : Bool) → bytes_eq (binder_name c) (binder_name b) ≡ r → (r || list_any (bytes_eq (binder_name c)) (map binder_name bs)) ≡ true → (list_any (bytes_eq (binder_name c)) (map binder_name bs) ≡ true → Q c) → Q c
  at true d h f =
      let n = (bytes_eq-Decides (binder_name c) (binder_name b)).0 d in
      let there : look (binder_name b) ≡ Some c = subst (λ m. look m ≡ Some c) n e in
      let j = i.0 in
      let is : b ≡ c = cc in
      subst Q is q.0
  at false d h f = f h

-- before the guards only names that the quantifier doesn't bind have slots, those from outside
module _ (bs : List Binder) (layers : Layers) (n : List ℕ) (k : ℕ) where
  outside : slot_at (place_of bs layers) [] n ≡ Some k → IsApart bs n × (slot_in layers n ≡ Some k)
  outside h = at (list_any (bytes_eq n) (map binder_name bs)) refl h where
    at : (b : Bool) → list_any (bytes_eq n) (map binder_name bs) ≡ b → (if b then None else slot_in layers n) ≡ Some k → IsApart bs n × (slot_in layers n ≡ Some k)
    at true e h = absurd (cc)
    at false e h = (bound_apart bs n e, h)

  from_outside : list_any (bytes_eq n) (map binder_name bs) ≡ false → slot_in layers n ≡ Some k → slot_at (place_of bs layers) [] n ≡ Some k
  from_outside e h = ap (λ (b : Bool). if b then None else slot_in layers n) e ∙ h

module _ (w : FormulaLaws) (g : Sig) (tr : Trace) (m : IsMessageTrace g tr) (scope : List Binder) (layers : Layers) (held : List Held) (σ : Choice) (τ : Times) (here : Here g tr scope layers held σ τ) (bs : List Binder) (once : NoTwice bs) where
  -- before the guards
  pub enter_start : Start g tr (enter bs scope) (place_of bs layers) [] held
  enter_start = record {
    counted = omega (arith, here.counted);
    filled = λ c k i e.
        let r = outside bs layers (binder_name c) k e in
        here.filled c k (sym (w.other bs scope (binder_name c) r.0) ∙ i) r.1;
  }

  -- values of its binders
  abbrev pub Filled : Choice → Times → Type 0
  Filled σ' τ' = Fill (IsMessage g) (λ k. k < length tr) bs σ τ σ' τ'

  same_value : (σ' : Choice) (τ' : Times) → Filled σ' τ' → (c : Binder) → IsApart bs (binder_name c) → value σ τ c ≡ value σ' τ' c
  same_value σ' τ' fill c a = value_kept (IsMessage g) (λ k. k < length tr) bs σ τ σ' τ' fill c a

  pub enter_agrees : (σ' : Choice) (τ' : Times) → Filled σ' τ' → Agrees (enter bs scope) (slot_at (place_of bs layers) []) held σ' τ'
  enter_agrees σ' τ' fill c k i e =
      let r = outside bs layers (binder_name c) k e in
      here.agrees c k (sym (w.other bs scope (binder_name c) r.0) ∙ i) r.1 ∙ ap (λ z. Some z) (same_value σ' τ' fill c r.0)

  module _ (q : Form) (guarded : AreGuarded bs q) where
    -- the names that have slots behind the guards
    abbrev pub later : List (List ℕ)
    later = seen_by (place_of bs layers) [] (guards q)

    -- the look-up behind the guards is that of the body
    look_same : (n : List ℕ) → slot_at (place_of bs layers) later n ≡ slot_in (later ∷ layers) n
    look_same n = same_slots bs layers later n (λ e. by_slotted (place_of bs layers) q [] n (bound_stands bs q n guarded e))

    module _ (out : List Held) (C : Choice → Times → Type 0) (reached : Reached g tr (enter bs scope) (place_of bs layers) later held C out) where
      -- a binder from outside keeps its slot and its value
      old_slot : (c : Binder) → list_any (bytes_eq (binder_name c)) (map binder_name bs) ≡ false → find_binder (enter bs scope) (binder_name c) ≡ Some c → (k : ℕ) × (slot_at (place_of bs layers) later (binder_name c) ≡ Some k) × (slice_get out k ≡ Some (value σ τ c))
      old_slot c e i =
          let found : find_binder scope (binder_name c) ≡ Some c = sym (w.other bs scope (binder_name c) (bound_apart bs (binder_name c) e)) ∙ i in
          let s = here.slotted c found in
          let at = by_stay (place_of bs layers) [] (guards q) (binder_name c) s.0 (from_outside bs layers (binder_name c) s.0 e s.1) in
          let x = get_kept held reached.new s.0 (value σ τ c) (here.agrees c s.0 found s.1) in
          (s.0, at, subst (λ z. slice_get z s.0 ≡ Some (value σ τ c)) (sym reached.is) x)

      -- each binder has a slot in the body
      body_slotted : (b : Binder) → find_binder (enter bs scope) (binder_name b) ≡ Some b → (k : ℕ) × (slot_in (later ∷ layers) (binder_name b) ≡ Some k)
      body_slotted b i = in_case (list_any (bytes_eq (binder_name b)) (map binder_name bs)) refl where
        in_case : (r : Bool) → list_any (bytes_eq (binder_name b)) (map binder_name bs) ≡ r → (k : ℕ) × (slot_in (later ∷ layers) (binder_name b) ≡ Some k)
        in_case true e =
            let s = by_slotted (place_of bs layers) q [] (binder_name b) (bound_stands bs q (binder_name b) guarded e) in
            (s.0, sym (look_same (binder_name b)) ∙ s.1)
        in_case false e = let s = old_slot b e i in (s.0, sym (look_same (binder_name b)) ∙ s.1)

      -- what is known in the body
      pub body_here : (σ' : Choice) (τ' : Times) → Filled σ' τ' → Agrees (enter bs scope) (slot_at (place_of bs layers) later) out σ' τ' → Here g tr (enter bs scope) (later ∷ layers) out σ' τ'
      body_here σ' τ' fill a = record {
        counted = reached.start.counted;
        filled = λ b k i e. reached.start.filled b k i (look_same (binder_name b) ∙ e);
        slotted = body_slotted;
        agrees = λ b k i e. a b k i (look_same (binder_name b) ∙ e);
        normal = fill_normal g (λ k. k < length tr) bs σ τ σ' τ' here.normal fill;
        fitting = fill_fitting g (λ k. k < length tr) bs scope σ τ σ' τ' here.fitting fill;
      }

      -- the slot of the binder holds this
      abbrev pub Holds : Binder → Held → Type 0
      Holds b h = (k : ℕ) → slot_at (place_of bs layers) later (binder_name b) ≡ Some k → slice_get out k ≡ Some h

      -- each binder of the quantifier has a slot that holds what suits it
      pub each_held : EachIn (HasOne g tr Holds) bs
      each_held =
          each_both (λ b. find_binder (enter bs scope) (binder_name b) ≡ Some b) (λ b. StandsInAtom (binder_name b) q) (HasOne g tr Holds) bs (λ b i s.
          let t = by_slotted (place_of bs layers) q [] (binder_name b) s in
          let r = reached.start.filled b t.0 i t.1 in
          (r.0, r.2, λ k e. let t1 = t.1 in let same : t.0 ≡ k = cc in subst (λ j. slice_get out j ≡ Some r.0) same r.1)) (w.own bs scope once) guarded

      -- and values that are those agree with all slots
      pub held_agree : (σ' : Choice) (τ' : Times) → Filled σ' τ' → EachIn (λ b. Holds b (value σ' τ' b)) bs → Agrees (enter bs scope) (slot_at (place_of bs layers) later) out σ' τ'
      held_agree σ' τ' fill h c k i e = in_case (list_any (bytes_eq (binder_name c)) (map binder_name bs)) refl where
        in_case : (r : Bool) → list_any (bytes_eq (binder_name c)) (map binder_name bs) ≡ r → slice_get out k ≡ Some (value σ' τ' c)
        in_case true d = each_named (λ b. Holds b (value σ' τ' b)) (find_binder (enter bs scope)) bs c (w.own bs scope once) h d i k e
        in_case false d =
            let s = old_slot c d i in
            let s1 = s.1 in
            let same : s.0 ≡ k = cc in
            subst (λ j. slice_get out j ≡ Some (value σ τ c)) same s.2 ∙ ap (λ z. Some z) (same_value σ' τ' fill c (bound_apart bs (binder_name c) d))

    module _ (checked : EachIn (IsCheckedAction g (enter bs scope)) (guards q)) (leaf : List Held → Bool) (B : Choice → Times → Type 0) (decides : (out : List Held) (σ' : Choice) (τ' : Times) → Here g tr (enter bs scope) (later ∷ layers) out σ' τ' → EachIn (IsGuardTrue g tr σ' τ') (guards q) → Decides (leaf out) (B σ' τ')) where
      -- what is known where something is reached
      pub reach : (out : List Held) → Leads (guards_of tr (place_of bs layers) [] (guards q)) held out → Reached g tr (enter bs scope) (place_of bs layers) later held (λ σ τ. EachIn (IsGuardTrue g tr σ τ) (guards q)) out
      reach out l = leads_reached w g tr m (enter bs scope) (place_of bs layers) (guards q) checked [] held out enter_start l

      -- where something is reached the body is decided for some values
      record Met (out : List Held) : Type 0 where
        terms : Choice
        times : Times
        fill : Filled terms times
        body : Decides (leaf out) (B terms times)

      met : (out : List Held) → Leads (guards_of tr (place_of bs layers) [] (guards q)) held out → Met out
      met out l =
          let C = λ (σ : Choice) (τ : Times). EachIn (IsGuardTrue g tr σ τ) (guards q) in
          let r = reach out l in
          let v = made g tr (Holds out C r) bs σ τ once (each_held out C r) in
          let a = held_agree out C r v.0 v.1 v.2 v.3 in
          record { terms = v.0; times = v.1; fill = v.2; body = decides out v.0 v.1 (body_here out C r v.0 v.1 v.2 a) (r.back v.0 v.1 a) }

      -- and for values that make the guards true something is reached where the body is decided for them
      pub reached_for : (σ' : Choice) (τ' : Times) → Filled σ' τ' → EachIn (IsGuardTrue g tr σ' τ') (guards q) → (out : List Held) × Leads (guards_of tr (place_of bs layers) [] (guards q)) held out × Decides (leaf out) (B σ' τ')
      reached_for σ' τ' fill t =
          let C = λ (σ : Choice) (τ : Times). EachIn (IsGuardTrue g tr σ τ) (guards q) in
          let P = λ (k : ℕ). k < length tr in
          let f = leads_found w g tr m (enter bs scope) (place_of bs layers) σ' τ' (fill_normal g P bs σ τ σ' τ' here.normal fill) (fill_fitting g P bs scope σ τ σ' τ' here.fitting fill) (guards q) checked [] held enter_start (enter_agrees σ' τ' fill) t in
          (f.0, f.1, decides f.0 σ' τ' (body_here f.0 C (reach f.0 f.1) σ' τ' fill f.2) t)

      pub exists_decided : ((σ' : Choice) (τ' : Times) → B σ' τ' → EachIn (IsGuardTrue g tr σ' τ') (guards q)) → Decides (searched false (guards_of tr (place_of bs layers) [] (guards q)) held leaf) (Exists (IsMessage g) (λ k. k < length tr) bs B σ τ)
      exists_decided holds = (
        λ h.
            let r = (search_any (guards_of tr (place_of bs layers) [] (guards q)) leaf held).0 h in
            let x = met r.0 r.1 in
            filled_exists (IsMessage g) (λ k. k < length tr) bs B σ τ x.terms x.times x.fill (x.body.0 r.2),
        λ h.
            let u = exists_filled (IsMessage g) (λ k. k < length tr) bs B σ τ h in
            let x = reached_for u.0 u.1 u.2 (holds u.0 u.1 u.3) in
            (search_any (guards_of tr (place_of bs layers) [] (guards q)) leaf held).1 (x.0, x.1, x.2.1 u.3),
      )

      pub every_decided : ((σ' : Choice) (τ' : Times) → (EachIn (IsGuardTrue g tr σ' τ') (guards q) → B σ' τ') → B σ' τ') → Decides (searched true (guards_of tr (place_of bs layers) [] (guards q)) held leaf) (Every (IsMessage g) (λ k. k < length tr) bs B σ τ)
      every_decided assume = (
        λ h. every_filled (IsMessage g) (λ k. k < length tr) bs B σ τ (λ σ' τ' f. assume σ' τ' (λ t. let x = reached_for σ' τ' f t in x.2.0 ((search_all (guards_of tr (place_of bs layers) [] (guards q)) leaf held).0 h x.0 x.1))),
        λ h. (search_all (guards_of tr (place_of bs layers) [] (guards q)) leaf held).1 (λ out l. let x = met out l in x.body.1 (every_at (IsMessage g) (λ k. k < length tr) bs B σ τ x.terms x.times x.fill h)),
      )
