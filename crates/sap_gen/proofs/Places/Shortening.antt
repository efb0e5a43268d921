-- The rules of a process, and the short ones, meet the conditions; there are such short rules, and no others.
use Rattle.std.proofs.Common.{◌≡◌, ℕ, List, [], ◌∷◌, ◌++◌, Option, Some, None, refl, sym, ap, subst, ◌∙◌, arith, ◌⊎◌, inl, inr}
use Rattle.std.proofs.lemmas.Option.{same_Some}
use Rattle.std.specs.Prelude.{Contains}
use Rattle.sap_terms.specs.FactNames.{fr_name, in_name, out_name}
use Rattle.sap_terms.specs.Signature.{Sig}
use Rattle.sap_terms.specs.declared.fact.Fact.{Fact}
use Rattle.sap_terms.specs.declared.var.Var.{Var}
use Rattle.sap_terms.proofs.PlainLaws.Items.{cons_cases, first_item, later_item}
use Rattle.sap_process.specs.Action.{out}
use Rattle.sap_process.specs.Places.{place}
use Rattle.sap_process.specs.Proc.{Proc, nil, parallel, replicated, act}
use Rattle.sap_rule.specs.declared.rule.Rule.{Rule}
use Rattle.sap_translate.specs.PlaceRules.{IsOfPlace}
use Rattle.sap_templates.specs.Places.{ScopedPlace, root, scoped_place_at}
use Rattle.sap_translate.specs.Sound.{SoundPlaces}
use Rattle.sap_templates.specs.Templates.{state, own_rules, init_rule, rules_of, nil_rule, out_rule, parallel_rule, rep_start_rule, rep_copy_rule}
use Rattle.sap_translate.specs.relation.Names.{state_name}
use Rattle.sap_translate.proofs.Shared.Names.{state_name_same}
use Rattle.sap_gen.specs.Moves.{IsPlain, ArePlain, IsAsTaken, AreAsTaken, IsShortened, IsShortening}
use Rattle.sap_gen.specs.Settled.{IsSettled, nothing_left, stays, goes_on}
use Rattle.sap_gen.specs.Short.{AreShort, no_rules, drops, keeps}
use Rattle.sap_gen.specs.Silent.{silent_rule, IsSilentRule}
use Rattle.sap_gen.specs.code.SettledPlaces.{kept_by, kept_rule, kept_rules, settled_facts, settled_or, short_rules}
use Rattle.sap_gen.proofs.OneOutcome.{one_outcome}
use Rattle.sap_gen.proofs.Places.Finding.{moves_of, moves_named, other_name, own_found, walk_none, walk_some}
use Rattle.sap_gen.proofs.Places.Fitting.{IsFitting, init_fitting, place_fitting}
use Rattle.sap_gen.proofs.Places.Settling.{settled_join, silent_left}

no_item : {X : Type 0} (x : X) → Contains [] x → ⊥
no_item x c = absurd (omega (arith, c.1))

-- a silent rule is one of its place
own_silent : (path : List ℕ) (v : List Var) (b : Proc) (q : Rule) → silent_rule path v b ≡ Some q → Contains (own_rules path v b) q
own_silent path v nil q e = subst (Contains (own_rules path v nil)) (same_Some (nil_rule path v) q e) (first_item (nil_rule path v) [])
own_silent path v (parallel a b) q e = subst (Contains (own_rules path v (parallel a b))) (same_Some (parallel_rule path v) q e) (first_item (parallel_rule path v) [])
own_silent path v (replicated a) q e = subst (Contains (own_rules path v (replicated a))) (same_Some (rep_start_rule path v) q e) (first_item (rep_start_rule path v) (rep_copy_rule path v ∷ []))
own_silent path v (act (out t) a) q e = subst (Contains (own_rules path v (act (out t) a))) (same_Some (out_rule path v t) q e) (first_item (out_rule path v t) [])
own_silent path v _ q e = cc

pub silent_placed : (p : Proc) (q : Rule) → IsSilentRule p q → IsOfPlace p q
silent_placed p q x = record { path = x.path; scope = x.scope; body = x.body; stands = x.stands; own = own_silent x.path x.scope x.body q x.is }

-- one silent rule takes a fact
one_silent : (p : Proc) (q r : Rule) (f : Fact) → IsSilentRule p q → IsSilentRule p r → q.left ≡ f ∷ [] → r.left ≡ f ∷ [] → q ≡ r
one_silent p q r f x y a b =
    let lists : (state x.path x.scope ∷ []) ≡ (state y.path y.scope ∷ []) = sym (silent_left x.path x.scope x.body q x.is) ∙ a ∙ sym b ∙ silent_left y.path y.scope y.body r y.is in
    let one : state x.path x.scope ≡ state y.path y.scope = cc in
    let paths : x.path ≡ y.path = state_name_same x.path y.path (ap (λ (h : Fact). h.name) one) in
    let places : Some (place x.path x.scope x.body) ≡ Some (place y.path y.scope y.body) = sym x.stands ∙ ap (λ z. scoped_place_at (root p) z) paths ∙ y.stands in
    let same : place x.path x.scope x.body ≡ place y.path y.scope y.body = same_Some (place x.path x.scope x.body) (place y.path y.scope y.body) places in
    let rules : silent_rule x.path x.scope x.body ≡ silent_rule y.path y.scope y.body = ap (λ (a : ScopedPlace). silent_rule a.path a.above a.body) same in
    same_Some q r (sym x.is ∙ rules ∙ y.is)

-- short rules are one list
pub short_one : (p : Proc) (rs ss zs : List Rule) → AreShort p rs ss → AreShort p rs zs → ss ≡ zs
short_one p _ _ zs no_rules b = at zs b where
  at : (zs : List Rule) → AreShort p [] zs → [] ≡ zs
  at _ no_rules = refl
short_one p _ _ zs (drops {r} {rs} {ss} x h) b = at (r ∷ rs) zs refl b (λ ws t. short_one p rs ss ws h t) where
  at : (ys zs : List Rule) → ys ≡ r ∷ rs → AreShort p ys zs → ((ws : List Rule) → AreShort p rs ws → ss ≡ ws) → ss ≡ zs
  at _ _ e no_rules next = cc
  at _ _ e (drops {r = q} {rs = qs} {ss = ws} y k) next = let tail : qs ≡ rs = cc in next ws (subst (λ z. AreShort p z ws) tail k)
  at _ _ e (keeps {r = q} n s k) next = let head : r ≡ q = cc in absurd (n (subst (IsSilentRule p) head x))
short_one p _ _ zs (keeps {r} {rs} {ss} {right} n s h) b = at (r ∷ rs) zs refl b (λ ws t. short_one p rs ss ws h t) where
  at : (ys zs : List Rule) → ys ≡ r ∷ rs → AreShort p ys zs → ((ws : List Rule) → AreShort p rs ws → ss ≡ ws) → (record r { right = right } ∷ ss) ≡ zs
  at _ _ e no_rules next = cc
  at _ _ e (drops {r = q} y k) next = let head : q ≡ r = cc in absurd (n (subst (IsSilentRule p) head y))
  at _ _ e (keeps {r = q} {rs = qs} {ss = ws} {right = other} m t k) next =
      let head : q ≡ r = cc in
      let tail : qs ≡ rs = cc in
      let rights : right ≡ other = one_outcome (IsSilentRule p) (one_silent p) r.right right other s (subst (λ (z : Rule). IsSettled (IsSilentRule p) z.right other) head t) in
      let rest : ss ≡ ws = next ws (subst (λ z. AreShort p z ws) tail k) in
      λ i. record (sym head i) { right = rights i } ∷ rest i

module _ (g : Sig) (p : Proc) (sound : SoundPlaces g p) where
  -- what is plain is taken by no silent rule
  plain_untaken : (f : Fact) → IsPlain (moves_of g p sound) f → (q : Rule) → IsSilentRule p q → q.left ≡ f ∷ [] → ⊥
  plain_untaken f n q x e =
      let o = own_found g p sound x.path x.scope x.body q x.stands x.is in
      let lists : (state x.path x.scope ∷ []) ≡ (f ∷ []) = sym (silent_left x.path x.scope x.body q x.is) ∙ e in
      let one : state x.path x.scope ≡ f = cc in
      let some : moves_of g p sound f.name ≡ Some o.own = ap (λ (h : Fact). moves_of g p sound h.name) (sym one) ∙ o.is in
      let clash : Some o.own ≡ None = sym some ∙ n in
      cc

  -- a rule that takes plain facts isn't silent
  plain_unsilent : (r : Rule) → ArePlain (moves_of g p sound) r.left → IsSilentRule p r → ⊥
  plain_unsilent r n x = at r.left n (silent_left x.path x.scope x.body r x.is) where
    at : (fs : List Fact) → ArePlain (moves_of g p sound) fs → fs ≡ state x.path x.scope ∷ [] → ⊥
    at [] n e = cc
    at (f ∷ fs) n e =
        let head : f ≡ state x.path x.scope = cc in
        plain_untaken (state x.path x.scope) (subst (IsPlain (moves_of g p sound)) head n.0) r x (silent_left x.path x.scope x.body r x.is)

  -- facts as they stand on right sides settle to what the walk gives
  pub facts_settle : (fs : List Fact) → AreAsTaken (moves_of g p sound) fs → IsSettled (IsSilentRule p) fs (settled_facts p fs)
  facts_settle [] a = nothing_left
  facts_settle (f ∷ fs) a = at a.0 (facts_settle fs a.1) where
    at : IsAsTaken (moves_of g p sound) f → IsSettled (IsSilentRule p) fs (settled_facts p fs) → IsSettled (IsSilentRule p) (f ∷ fs) (settled_facts p (f ∷ fs))
    at (inl n) rest =
        subst (λ (o : Option (List Fact)). IsSettled (IsSilentRule p) (f ∷ fs) (settled_or o f ++ settled_facts p fs)) (sym (walk_none g p sound f.name n)) (stays f (plain_untaken f n) rest)
    at (inr m) rest =
        subst (λ (o : Option (List Fact)). IsSettled (IsSilentRule p) (f ∷ fs) (settled_or o f ++ settled_facts p fs)) (sym (walk_some g p sound f.name m.0 m.1))
        (goes_on f m.0.rule (moves_named g p sound f.name m.0 m.1).0 (m.0.shape.left ∙ ap (λ h. h ∷ []) (sym m.2)) (settled_join m.0.settles rest))

  -- so the walk gives short rules of fitting ones
  pub rules_short : (rs : List Rule) → ((r : Rule) → Contains rs r → IsFitting g p sound r) → AreShort p rs (kept_rules p rs)
  rules_short [] fit = no_rules
  rules_short (r ∷ rs) fit = at (fit r (first_item r rs)) (rules_short rs (λ q c. fit q (later_item r rs q c))) where
    at : IsFitting g p sound r → AreShort p rs (kept_rules p rs) → AreShort p (r ∷ rs) (kept_rules p (r ∷ rs))
    at f rest = by f.left where
      kept : IsSettled (IsSilentRule p) r.right (settled_facts p r.right)
      kept = facts_settle r.right f.right

      plain_kept : (fs : List Fact) → ArePlain (moves_of g p sound) fs → kept_by p r fs ≡ kept_rule p r None
      plain_kept [] n = refl
      plain_kept (h ∷ hs) n = ap (kept_rule p r) (walk_none g p sound h.name n.0)

      by : IsSilentRule p r ⊎ ArePlain (moves_of g p sound) r.left → AreShort p (r ∷ rs) (kept_rules p (r ∷ rs))
      by (inl x) =
          let o = own_found g p sound x.path x.scope x.body r x.stands x.is in
          let gone : kept_by p r r.left ≡ [] =
          ap (kept_by p r) (silent_left x.path x.scope x.body r x.is) ∙ ap (kept_rule p r) (walk_some g p sound (state_name x.path) o.own o.is) in
          subst (λ (zs : List Rule). AreShort p (r ∷ rs) (zs ++ kept_rules p rs)) (sym gone) (drops x rest)
      by (inr n) = subst (λ (zs : List Rule). AreShort p (r ∷ rs) (zs ++ kept_rules p rs)) (sym (plain_kept r.left n)) (keeps (plain_unsilent r n) kept rest)

  -- each rule is silent, or shortened to one of the short rules
  shortened : {rs ss : List Rule} → AreShort p rs ss → (r : Rule) → Contains rs r → IsSilentRule p r ⊎ ((s : Rule) × Contains ss s × IsShortened (IsSilentRule p) r s)
  shortened no_rules r c = absurd (no_item r c)
  shortened (drops {r = q} {rs} {ss} x h) r c = at (cons_cases q rs r c) (λ m. shortened h r m) where
    at : (q ≡ r) ⊎ Contains rs r → (Contains rs r → IsSilentRule p r ⊎ ((s : Rule) × Contains ss s × IsShortened (IsSilentRule p) r s))
        → IsSilentRule p r ⊎ ((s : Rule) × Contains ss s × IsShortened (IsSilentRule p) r s)
    at (inl e) next = inl (subst (IsSilentRule p) e x)
    at (inr m) next = next m
  shortened (keeps {r = q} {rs} {ss} {right} n s h) r c = at (cons_cases q rs r c) (λ m. shortened h r m) where
    short : Rule
    short = record q { right = right }

    later_too : IsSilentRule p r ⊎ ((s : Rule) × Contains ss s × IsShortened (IsSilentRule p) r s) → IsSilentRule p r ⊎ ((s : Rule) × Contains (short ∷ ss) s × IsShortened (IsSilentRule p) r s)
    later_too (inl x) = inl x
    later_too (inr m) = inr (m.0, later_item short ss m.0 m.1, m.2)

    at : (q ≡ r) ⊎ Contains rs r → (Contains rs r → IsSilentRule p r ⊎ ((s : Rule) × Contains ss s × IsShortened (IsSilentRule p) r s))
        → IsSilentRule p r ⊎ ((s : Rule) × Contains (short ∷ ss) s × IsShortened (IsSilentRule p) r s)
    at (inl e) next =
        subst (λ z. IsSilentRule p z ⊎ ((s : Rule) × Contains (short ∷ ss) s × IsShortened (IsSilentRule p) z s)) e
        (inr (short, first_item short ss, record { name = refl; left = refl; acts = refl; right = s }))
    at (inr m) next = later_too (next m)

  -- and each short rule is one of the rules, shortened
  unshortened : {rs ss : List Rule} → AreShort p rs ss → (s : Rule) → Contains ss s → (r : Rule) × Contains rs r × IsShortened (IsSilentRule p) r s
  unshortened no_rules s c = absurd (no_item s c)
  unshortened (drops {r = q} {rs} {ss} x h) s c = let m = unshortened h s c in (m.0, later_item q rs m.0 m.1, m.2)
  unshortened (keeps {r = q} {rs} {ss} {right} n k h) s c = at (cons_cases (record q { right = right }) ss s c) (λ m. unshortened h s m) where
    at : (record q { right = right } ≡ s) ⊎ Contains ss s → (Contains ss s → (r : Rule) × Contains rs r × IsShortened (IsSilentRule p) r s)
        → (r : Rule) × Contains (q ∷ rs) r × IsShortened (IsSilentRule p) r s
    at (inl e) next = subst (λ z. (r : Rule) × Contains (q ∷ rs) r × IsShortened (IsSilentRule p) r z) e (q, first_item q rs, record { name = refl; left = refl; acts = refl; right = k })
    at (inr m) next = let t = next m in (t.0, later_item q rs t.0 t.1, t.2)

  module _ (origin : (r : Rule) → Contains (rules_of p) r → (r ≡ init_rule) ⊎ IsOfPlace p r) (placed : (r : Rule) → IsOfPlace p r → Contains (rules_of p) r) where
    pub fitting : (r : Rule) → Contains (rules_of p) r → IsFitting g p sound r
    fitting r c = at (origin r c) where
      at : (r ≡ init_rule) ⊎ IsOfPlace p r → IsFitting g p sound r
      at (inl e) = subst (IsFitting g p sound) (sym e) (init_fitting g p sound)
      at (inr o) = place_fitting g p sound r o

    -- the short rules of the process
    pub process_short : AreShort p (rules_of p) (short_rules p)
    process_short = rules_short (rules_of p) fitting

    -- meet the conditions
    pub shortening : (shorts : List Rule) → AreShort p (rules_of p) shorts → IsShortening (IsSilentRule p) (moves_of g p sound) (rules_of p) shorts
    shortening shorts h = record {
      found = λ q x.
          let o = own_found g p sound x.path x.scope x.body q x.stands x.is in
          (o.own, o.rule, ap (λ (f : Fact). moves_of g p sound f.name) o.state_is ∙ o.is);
      named = moves_named g p sound;
      among = λ q x. placed q (silent_placed p q x);
      each = λ r c. each_of r (fitting r c) (shortened h r c);
      all_right = λ r c. (fitting r c).right;
      back = λ s c. unshortened h s c;
      in_plain = other_name g p sound in_name (λ z. refl);
      out_plain = other_name g p sound out_name (λ z. refl);
      fr_plain = other_name g p sound fr_name (λ z. refl);
    } where
      each_of : (r : Rule) → IsFitting g p sound r → IsSilentRule p r ⊎ ((s : Rule) × Contains shorts s × IsShortened (IsSilentRule p) r s)
          → IsSilentRule p r ⊎ (ArePlain (moves_of g p sound) r.left × ((s : Rule) × Contains shorts s × IsShortened (IsSilentRule p) r s))
      each_of r f (inl x) = inl x
      each_of r f (inr m) = by f.left where
        by : IsSilentRule p r ⊎ ArePlain (moves_of g p sound) r.left
            → IsSilentRule p r ⊎ (ArePlain (moves_of g p sound) r.left × ((s : Rule) × Contains shorts s × IsShortened (IsSilentRule p) r s))
        by (inl x) = inl x
        by (inr n) = inr (n, m)
