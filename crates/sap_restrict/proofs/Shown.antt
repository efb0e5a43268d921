-- Action atoms as facts of a time.
use Rattle.std.specs.List.{AllZip}
use Rattle.std.proofs.Common.{◌≡◌, ℕ, zero, suc, ◌<◌, List, [], ◌∷◌, length, map, refl, sym, subst, ◌∙◌, arith}
use Rattle.std.proofs.lemmas.List.Elements.{All-contains, All-head, All-nil, All-tail}
use Rattle.sap_formula.specs.Truth.{AnyIn, EachIn, Shows, facts_at}
use Rattle.sap_restrict.proofs.Elements.{any_of, each_one, none_in, some_one}
use Rattle.sap_restrict.specs.Shown.{HasAlike, HasFact}
use Rattle.sap_rewrite.specs.Laws.{NormalTermsDecide}
use Rattle.sap_terms.specs.Choice.{Choice, instance}
use Rattle.sap_terms.specs.Equal.{IsTheoryEqual, same as no_step}
use Rattle.sap_terms.specs.Equations.{Equations, equations}
use Rattle.sap_terms.specs.Message.{AreMessageFacts, IsMessage, IsMessageFact, IsMessageTrace}
use Rattle.sap_terms.specs.Signature.{Sig}
use Rattle.sap_terms.specs.Trace.{Trace}
use Rattle.sap_terms.specs.Tree.{Tree, variable}
use Rattle.sap_terms.specs.declared.fact.Fact.{Fact}
use Rattle.sap_terms.specs.declared.var.Sort.TheVariants.{Msg}

abbrev pub AreMessages : Sig → List Tree → Type 0
AreMessages g ts = EachIn (IsMessage g Msg) ts

-- no variable is bound
abbrev pub unbound : Choice
unbound = λ v. variable v

-- a time that shows a fact is a time of the trace
pub time_of : (tr : Trace) (k : ℕ) (f : Fact) → HasFact tr k f → k < length tr
time_of [] k f s = absurd (none_in f s)
time_of (p ∷ tr) zero f s = omega arith
time_of (p ∷ tr) (suc k) f s = omega (arith, time_of tr k f s)

pub is_time : (tr : Trace) (k : ℕ) (f : Fact) → HasAlike tr k f → k < length tr
is_time tr k f s = time_of tr k s.0 s.1

are_equal : (e : Equations) (σ : Choice) (ss ts us : List Tree) → map (instance σ) ss ≡ ts → us ≡ ts → AllZip (λ s t. IsTheoryEqual e (instance σ s) t) ss us
are_equal e σ [] ts [] p q = tt
are_equal e σ [] ts (u ∷ us) p q = let r : map (instance σ) [] ≡ u ∷ us = p ∙ sym q in absurd (cc)
are_equal e σ (s ∷ ss) ts [] p q = let r : map (instance σ) (s ∷ ss) ≡ [] = p ∙ sym q in absurd (cc)
are_equal e σ (s ∷ ss) ts (u ∷ us) p q =
    let r : map (instance σ) (s ∷ ss) ≡ u ∷ us = p ∙ sym q in
    let a : instance σ s ≡ u = cc in
    let b : map (instance σ) ss ≡ us = cc in
    (subst (λ v. IsTheoryEqual e (instance σ s) v) a no_step, are_equal e σ ss us us b refl)

-- an action atom is true where the time has its instance
pub if_shows : (e : Equations) (tr : Trace) (σ : Choice) (f h : Fact) (k : ℕ) → f.name ≡ h.name → map (instance σ) f.args ≡ h.args → HasAlike tr k h → AnyIn (Shows e σ f) (facts_at tr k)
if_shows e tr σ f h k n a s = any_of (Shows e σ f) (facts_at tr k) s.0 s.1 (n ∙ sym s.2, are_equal e σ f.args h.args s.0.args a s.3)

module _ (decide : NormalTermsDecide) (g : Sig) where
  are_same : (σ : Choice) (ss ts us : List Tree) → map (instance σ) ss ≡ ts → AreMessages g ts → AreMessages g us → AllZip (λ s t. IsTheoryEqual (equations g) (instance σ s) t) ss us → us ≡ ts
  are_same σ [] ts [] e a b h = e
  are_same σ [] ts (u ∷ us) e a b h = absurd h
  are_same σ (s ∷ ss) ts [] e a b h = absurd h
  are_same σ (s ∷ ss) [] (u ∷ us) e a b h = absurd (cc)
  are_same σ (s ∷ ss) (t ∷ ts) (u ∷ us) e a b h =
      let p : instance σ s ≡ t = cc in
      let q : map (instance σ) ss ≡ ts = cc in
      let r : t ≡ u = (decide (equations g) t u a.0.normal b.0.normal).0 (subst (λ v. IsTheoryEqual (equations g) v u) p h.0) in
      let w = are_same σ ss ts us q a.1 b.1 h.1 in
      λ i. sym r i ∷ w i

  messages_at : (tr : Trace) (k : ℕ) → IsMessageTrace g tr → AreMessageFacts g (facts_at tr k)
  messages_at [] k m = All-nil (IsMessageFact g)
  messages_at (p ∷ tr) zero m = All-head (AreMessageFacts g) p tr m
  messages_at (p ∷ tr) (suc k) m = messages_at tr k (All-tail (AreMessageFacts g) p tr m)

  -- what a trace of messages shows is about messages
  pub shown_messages : (tr : Trace) → IsMessageTrace g tr → (k : ℕ) (f : Fact) → HasAlike tr k f → AreMessages g f.args
  shown_messages tr m k f s =
      let a = each_one (IsMessage g Msg) s.0.args (All-contains (IsMessageFact g) (facts_at tr k) s.0 (messages_at tr k m) s.1) in
      subst (AreMessages g) s.3 a

  -- and where an action atom is true, the time has its instance
  pub shows_if : (tr : Trace) → IsMessageTrace g tr → (σ : Choice) (f h : Fact) (k : ℕ) → f.name ≡ h.name → map (instance σ) f.args ≡ h.args → AreMessages g h.args → AnyIn (Shows (equations g) σ f) (facts_at tr k) → HasAlike tr k h
  shows_if tr m σ f h k n a ms s =
      let r = some_one (Shows (equations g) σ f) (facts_at tr k) s in
      let us = shown_messages tr m k r.0 (r.0, r.1, refl, refl) in
      (r.0, r.1, sym r.2.0 ∙ n, are_same σ f.args h.args r.0.args a ms us r.2.1)
