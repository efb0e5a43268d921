-- A formula made ready says the same without what is true or false for sure.
use Rattle.std.proofs.Common.{◌≡◌, ℕ, ◌+◌, ◌≤◌, List, [], ◌∷◌, Bool, true, false, not, ◌&&◌, ◌||◌, Option, Some, None, drop, length, map, slice_get, refl, sym, ap, ◌∙◌, if◌then◌else◌}
use Rattle.std.proofs.Math.ListN.{drop_of_length-le}
use Rattle.std.proofs.lemmas.List.{nil_from_length}
use Rattle.sap_search.specs.View.{guard}
use Rattle.sap_match.specs.View.{sight}
use Rattle.sap_search.specs.declared.plan.GuardPlan.{GuardPlan}
use Rattle.sap_match.specs.declared.sighted.Sighted.{Sighted}
use Rattle.sap_terms.proofs.PlainLaws.Lists.{drop_got}
use Rattle.std.specs.List.{list_any, list_all}
use Rattle.sap_judge.specs.code.Folded.{and_by, are_idle, constant, folded, iff_by, imp_by, is_bare, not_by, not_of, or_by, search_by, search_of}
use Rattle.sap_search.specs.Plan.{Guard, Plan, alike, always, and_then, at_once, before, equals, if_then, inverse, or_else, search, shows}
use Rattle.sap_match.specs.Atoms.{Held, Sight}
use Rattle.sap_search.specs.Planned.{any_or_all, planned, searched, with_some}
use Rattle.sap_match.specs.Matched.{guarded}
use Rattle.sap_terms.specs.Signature.{same_bool}
use Rattle.sap_terms.specs.Trace.{Trace}

-- a constant has its truth value
value : (tr : Trace) (hs : List Held) (p : Plan) (b : Bool) → constant p ≡ Some b → planned tr p hs ≡ b
value tr hs (always a) b e = cc
value tr hs (shows _ _) b e = absurd (cc)
value tr hs (equals _ _ _ _) b e = absurd (cc)
value tr hs (at_once _ _) b e = absurd (cc)
value tr hs (before _ _) b e = absurd (cc)
value tr hs (inverse _) b e = absurd (cc)
value tr hs (and_then _ _) b e = absurd (cc)
value tr hs (or_else _ _) b e = absurd (cc)
value tr hs (if_then _ _) b e = absurd (cc)
value tr hs (alike _ _) b e = absurd (cc)
value tr hs (search _ _ _) b e = absurd (cc)

and_true : (a : Bool) → (a && true) ≡ a
and_true true = refl
and_true false = refl

and_false : (a : Bool) → (a && false) ≡ false
and_false true = refl
and_false false = refl

or_true : (a : Bool) → (a || true) ≡ true
or_true true = refl
or_true false = refl

or_false : (a : Bool) → (a || false) ≡ a
or_false true = refl
or_false false = refl

same_true : (a : Bool) → same_bool a true ≡ a
same_true true = refl
same_true false = refl

same_false : (a : Bool) → same_bool a false ≡ not a
same_false true = refl
same_false false = refl

true_same : (a : Bool) → same_bool true a ≡ a
true_same true = refl
true_same false = refl

false_same : (a : Bool) → same_bool false a ≡ not a
false_same true = refl
false_same false = refl

module _ (tr : Trace) (hs : List Held) where
  is : Plan → Bool
  is p = planned tr p hs

  not_is : (p : Plan) → planned tr (not_of p) hs ≡ not (planned tr p hs)
  not_is p = at (constant p) refl where
    at : (o : Option Bool) → constant p ≡ o → planned tr (not_by o p) hs ≡ not (planned tr p hs)
    at (Some b) e = ap not (sym (value tr hs p b e))
    at None e = refl

  and_is : (p q : Plan) → planned tr (and_by (constant p) (constant q) p q) hs ≡ (planned tr p hs && planned tr q hs)
  and_is p q = at (constant p) (constant q) refl refl where
    at : (o r : Option Bool) → constant p ≡ o → constant q ≡ r → planned tr (and_by o r p q) hs ≡ (planned tr p hs && planned tr q hs)
    at (Some true) r e d = sym (ap (λ b. b && planned tr q hs) (value tr hs p true e))
    at (Some false) r e d = value tr hs p false e ∙ sym (ap (λ b. b && planned tr q hs) (value tr hs p false e))
    at None (Some true) e d = sym (ap (λ b. planned tr p hs && b) (value tr hs q true d) ∙ and_true (planned tr p hs))
    at None (Some false) e d = value tr hs q false d ∙ sym (ap (λ b. planned tr p hs && b) (value tr hs q false d) ∙ and_false (planned tr p hs))
    at None None e d = refl

  or_is : (p q : Plan) → planned tr (or_by (constant p) (constant q) p q) hs ≡ (planned tr p hs || planned tr q hs)
  or_is p q = at (constant p) (constant q) refl refl where
    at : (o r : Option Bool) → constant p ≡ o → constant q ≡ r → planned tr (or_by o r p q) hs ≡ (planned tr p hs || planned tr q hs)
    at (Some true) r e d = value tr hs p true e ∙ sym (ap (λ b. b || planned tr q hs) (value tr hs p true e))
    at (Some false) r e d = sym (ap (λ b. b || planned tr q hs) (value tr hs p false e))
    at None (Some true) e d = value tr hs q true d ∙ sym (ap (λ b. planned tr p hs || b) (value tr hs q true d) ∙ or_true (planned tr p hs))
    at None (Some false) e d = sym (ap (λ b. planned tr p hs || b) (value tr hs q false d) ∙ or_false (planned tr p hs))
    at None None e d = refl

  imp_is : (p q : Plan) → planned tr (imp_by (constant p) (constant q) p q) hs ≡ (not (planned tr p hs) || planned tr q hs)
  imp_is p q = at (constant p) (constant q) refl refl where
    at : (o r : Option Bool) → constant p ≡ o → constant q ≡ r → planned tr (imp_by o r p q) hs ≡ (not (planned tr p hs) || planned tr q hs)
    at (Some true) r e d = sym (ap (λ b. not b || planned tr q hs) (value tr hs p true e))
    at (Some false) r e d = sym (ap (λ b. not b || planned tr q hs) (value tr hs p false e))
    at None (Some true) e d = value tr hs q true d ∙ sym (ap (λ b. not (planned tr p hs) || b) (value tr hs q true d) ∙ or_true (not (planned tr p hs)))
    at None (Some false) e d = not_is p ∙ sym (ap (λ b. not (planned tr p hs) || b) (value tr hs q false d) ∙ or_false (not (planned tr p hs)))
    at None None e d = refl

  iff_is : (p q : Plan) → planned tr (iff_by (constant p) (constant q) p q) hs ≡ same_bool (planned tr p hs) (planned tr q hs)
  iff_is p q = at (constant p) (constant q) refl refl where
    at : (o r : Option Bool) → constant p ≡ o → constant q ≡ r → planned tr (iff_by o r p q) hs ≡ same_bool (planned tr p hs) (planned tr q hs)
    at (Some true) r e d = sym (ap (λ b. same_bool b (planned tr q hs)) (value tr hs p true e) ∙ true_same (planned tr q hs))
    at (Some false) r e d = not_is q ∙ sym (ap (λ b. same_bool b (planned tr q hs)) (value tr hs p false e) ∙ false_same (planned tr q hs))
    at None (Some true) e d = sym (ap (λ b. same_bool (planned tr p hs) b) (value tr hs q true d) ∙ same_true (planned tr p hs))
    at None (Some false) e d = not_is p ∙ sym (ap (λ b. same_bool (planned tr p hs) b) (value tr hs q false d) ∙ same_false (planned tr p hs))
    at None None e d = refl

none_leads : {X : Type 0} (d : Bool) (p : X → Bool) → any_or_all d p [] ≡ d
none_leads true p = refl
none_leads false p = refl

-- where each leads to the answer
all_lead : {X : Type 0} (d : Bool) (p : X → Bool) (xs : List X) → ((x : X) → p x ≡ d) → any_or_all d p xs ≡ d
all_lead true p [] h = refl
all_lead true p (x ∷ xs) h = ap (λ b. b && list_all p xs) (h x) ∙ all_lead true p xs h
all_lead false p [] h = refl
all_lead false p (x ∷ xs) h = ap (λ b. b || list_any p xs) (h x) ∙ all_lead false p xs h

some_leads : (d : Bool) (o : Option (List Held)) (f : List Held → Bool) → ((hs : List Held) → f hs ≡ d) → with_some o d f ≡ d
some_leads d None f h = refl
some_leads d (Some hs) f h = h hs

-- a search whose body is its answer
leaf_leads : (d : Bool) (gs : List Guard) (hs : List Held) (leaf : List Held → Bool) → ((ks : List Held) → leaf ks ≡ d) → searched d gs hs leaf ≡ d
leaf_leads d [] hs leaf h = h hs
leaf_leads d (g ∷ gs) hs leaf h =
    all_lead d (λ s. with_some (guarded g.atom s.fact s.time hs) d (λ k. searched d gs k leaf)) g.facts (λ s. some_leads d (guarded g.atom s.fact s.time hs) (λ k. searched d gs k leaf) (λ k. leaf_leads d gs k leaf h))

-- a search with a guard that has no fact
idle_leads : (d : Bool) (gs : List Guard) (hs : List Held) (leaf : List Held → Bool) → are_idle gs ≡ true → searched d gs hs leaf ≡ d
idle_leads d [] hs leaf h = absurd (cc)
idle_leads d (g ∷ gs) hs leaf h = at g.facts h (λ k e. idle_leads d gs k leaf e) where
  at : (ss : List Sight) → (is_bare ss || are_idle gs) ≡ true → ((k : List Held) → are_idle gs ≡ true → searched d gs k leaf ≡ d) → any_or_all d (λ s. with_some (guarded g.atom s.fact s.time hs) d (λ k. searched d gs k leaf)) ss ≡ d
  at [] e f = none_leads d (λ s. with_some (guarded g.atom s.fact s.time hs) d (λ k. searched d gs k leaf))
  at (s ∷ ss) e f = all_lead d (λ s. with_some (guarded g.atom s.fact s.time hs) d (λ k. searched d gs k leaf)) (s ∷ ss) (λ s. some_leads d (guarded g.atom s.fact s.time hs) (λ k. searched d gs k leaf) (λ k. f k e))

same_one : (b d : Bool) → same_bool b d ≡ true → b ≡ d
same_one true true e = refl
same_one true false e = absurd (cc)
same_one false true e = absurd (cc)
same_one false false e = refl

search_is : (tr : Trace) (hs : List Held) (d : Bool) (gs : List Guard) (p : Plan) → planned tr (search_of d gs p) hs ≡ searched d gs hs (planned tr p)
search_is tr hs d gs p = idle (are_idle gs) refl where
  same : (b r : Bool) → constant p ≡ Some b → same_bool b d ≡ r → planned tr (if r then always d else search d gs p) hs ≡ searched d gs hs (planned tr p)
  same b true e k = sym (leaf_leads d gs hs (planned tr p) (λ ks. value tr ks p b e ∙ same_one b d k))
  same b false e k = refl

  known : (o : Option Bool) → constant p ≡ o → planned tr (search_by o d gs p) hs ≡ searched d gs hs (planned tr p)
  known None e = refl
  known (Some b) e = same b (same_bool b d) e refl

  idle : (b : Bool) → are_idle gs ≡ b → planned tr (if b then always d else search_by (constant p) d gs p) hs ≡ searched d gs hs (planned tr p)
  idle true e = sym (idle_leads d gs hs (planned tr p) e)
  idle false e = known (constant p) refl

pub folded_is : (tr : Trace) (p : Plan) (hs : List Held) → planned tr (folded p) hs ≡ planned tr p hs
folded_is tr (always b) hs = refl
folded_is tr (shows n a) hs = refl
folded_is tr (equals s t l r) hs = refl
folded_is tr (at_once i j) hs = refl
folded_is tr (before i j) hs = refl
folded_is tr (inverse p) hs = not_is tr hs (folded p) ∙ ap not (folded_is tr p hs)
folded_is tr (and_then p q) hs = and_is tr hs (folded p) (folded q) ∙ (λ i. folded_is tr p hs i && folded_is tr q hs i)
folded_is tr (or_else p q) hs = or_is tr hs (folded p) (folded q) ∙ (λ i. folded_is tr p hs i || folded_is tr q hs i)
folded_is tr (if_then p q) hs = imp_is tr hs (folded p) (folded q) ∙ (λ i. not (folded_is tr p hs i) || folded_is tr q hs i)
folded_is tr (alike p q) hs = iff_is tr hs (folded p) (folded q) ∙ (λ i. same_bool (folded_is tr p hs i) (folded_is tr q hs i))
folded_is tr (search d gs p) hs = search_is tr hs d gs (folded p) ∙ (λ i. searched d gs hs (λ ks. folded_is tr p ks i))

-- some guard has no fact
pub idle_start : (gs : List GuardPlan) → are_idle (map guard (drop 0 gs)) ≡ are_idle (map guard gs)
idle_start [] = refl
idle_start (g ∷ gs) = refl

pub idle_here : (gs : List GuardPlan) (k : ℕ) (g : GuardPlan) → slice_get gs k ≡ Some g → length g.facts.now ≡ 0 → are_idle (map guard (drop k gs)) ≡ true
idle_here gs k g h l = ap (λ l. are_idle (map guard l)) (drop_got gs k g h) ∙ ap (λ ss. is_bare (map sight ss) || are_idle (map guard (drop (k + 1) gs))) (nil_from_length g.facts.now l)

busy_here : (ss : List Sighted) → (length ss ≡ 0 → ⊥) → is_bare (map sight ss) ≡ false
busy_here [] h = absurd (h refl)
busy_here (s ∷ ss) h = refl

pub idle_more : (gs : List GuardPlan) (k : ℕ) (g : GuardPlan) → slice_get gs k ≡ Some g → (length g.facts.now ≡ 0 → ⊥) → are_idle (map guard (drop k gs)) ≡ are_idle (map guard (drop (k + 1) gs))
idle_more gs k g h l = ap (λ l. are_idle (map guard l)) (drop_got gs k g h) ∙ ap (λ b. b || are_idle (map guard (drop (k + 1) gs))) (busy_here g.facts.now l)

pub idle_end : (gs : List GuardPlan) (k : ℕ) → length gs ≤ k → are_idle (map guard (drop k gs)) ≡ false
idle_end gs k h = ap (λ l. are_idle (map guard l)) (drop_of_length-le gs h)

pub ruleset idle_laws = (idle_start, idle_here, idle_more, idle_end)
