-- A walk through places, one list of them behind another.
use Rattle.std.proofs.Common.{◌≡◌, ◌+◌, ◌-◌, ◌⊎◌, ◌↔◌, inl, inr, ℕ, Bool, List, [], ◌∷◌, ◌++◌, length, take, refl, sym, ap, ◌∙◌, subst, arith}
use Rattle.std.proofs.lemmas.List.{length-append}
use Rattle.std.proofs.lemmas.List.Elements.{Contains-append_cases, Contains-append_left, Contains-append_right}
use Rattle.std.proofs.Math.Seq.{take-append_seam}
use Rattle.std.specs.Prelude.{Contains}
use Rattle.sap_terms.proofs.PlainLaws.Items.{contains_got, item_cases, none_contained}
use Rattle.sap_terms.proofs.PlainLaws.Lists.{front_self}
use Rattle.sap_terms.specs.declared.var.Var.{Var}
use Rattle.sap_process.specs.Flaws.{scope_at}
use Rattle.sap_process.specs.Places.{place, places_below, places_from}
use Rattle.sap_process.specs.Proc.{Proc, nil, parallel, replicated, act, test, lookup}
use Rattle.sap_process.specs.Sites.{Above, Site, above_of, bound_by, scope_below, sites_from}
use Rattle.sap_captures.specs.Patterns.{IsNodeOfKind}
use Rattle.sap_captures.specs.code.Flags.{IsGrown}
use Rattle.sap_captures.specs.code.Marks.{HasIndexIn}
use Rattle.sap_captures.specs.code.Walked.{IsIndexAmong, IsIndexOf, IsMet, IsWalked}
use Rattle.sap_captures.specs.declared.desk.Desk.{Desk}
use Rattle.sap_captures.specs.declared.kind.Kind.{Kind}
use Rattle.sap_captures.specs.declared.walk.Walk.{Walk}
use Rattle.sap_captures.proofs.Growing.{grown_both, grown_none, grown_same}

module _ (d : Desk) (kind : Kind) where
  -- ---- one place

  -- the nodes that were noted are those of the kind
  pub of_nodes : (s : Site) (ks : List ℕ) (fs gs : List Bool) → ((k : ℕ) → Contains ks k ↔ IsNodeOfKind kind s k) → IsGrown (λ i. HasIndexIn d kind s.path ks i) fs gs
      → IsGrown (IsIndexOf d kind s) fs gs
  of_nodes s ks fs gs nodes a =
      grown_same (λ i. HasIndexIn d kind s.path ks i) (IsIndexOf d kind s) fs gs a
      (λ i x. record { node = x.0; is = (nodes x.0).0 x.1; index = x.2 }) (λ i x. (x.node, (nodes x.node).1 x.is, x.index))

  of_one : (s : Site) (i : ℕ) → IsIndexAmong d kind (s ∷ []) i → IsIndexOf d kind s i
  of_one s i x = subst (λ (t : Site). IsIndexOf d kind t i) (sym (item_cases s x.site x.among)) x.of

  -- ---- lists of places

  pub walked_none : (a : Walk) → IsWalked d kind a [] a
  walked_none a = record { trail = refl; scope = refl; flags = grown_none (IsIndexAmong d kind []) a.flags (λ i x. none_contained x.among) }

  among_left : (xs ys : List Site) (i : ℕ) → IsIndexAmong d kind xs i → IsIndexAmong d kind (xs ++ ys) i
  among_left xs ys i x = record { site = x.site; among = Contains-append_left xs ys x.site x.among; of = x.of }

  among_right : (xs ys : List Site) (i : ℕ) → IsIndexAmong d kind ys i → IsIndexAmong d kind (xs ++ ys) i
  among_right xs ys i x = record { site = x.site; among = Contains-append_right xs ys x.site x.among; of = x.of }

  among_cases : (xs ys : List Site) (i : ℕ) → IsIndexAmong d kind (xs ++ ys) i → IsIndexAmong d kind xs i ⊎ IsIndexAmong d kind ys i
  among_cases xs ys i x = by (Contains-append_cases xs ys x.site x.among) where
    by : Contains xs x.site ⊎ Contains ys x.site → IsIndexAmong d kind xs i ⊎ IsIndexAmong d kind ys i
    by (inl c) = inl (record { site = x.site; among = c; of = x.of })
    by (inr c) = inr (record { site = x.site; among = c; of = x.of })

  pub both_grown : (xs ys : List Site) (fs gs hs : List Bool) → IsGrown (IsIndexAmong d kind xs) fs gs → IsGrown (IsIndexAmong d kind ys) gs hs → IsGrown (IsIndexAmong d kind (xs ++ ys)) fs hs
  both_grown xs ys fs gs hs a b =
      grown_both (IsIndexAmong d kind xs) (IsIndexAmong d kind ys) (IsIndexAmong d kind (xs ++ ys)) fs gs hs a b (among_left xs ys) (among_right xs ys) (among_cases xs ys)

  -- a walk through places, and then through others, which turn on where it stands
  pub walked_both : (xs : List Site) (ys : List ℕ → List Var → List Site) (a b c : Walk) → IsWalked d kind a xs b → IsWalked d kind b (ys b.trail b.binding.scope) c
      → IsWalked d kind a (xs ++ ys a.trail a.binding.scope) c
  walked_both xs ys a b c first second =
      let same : ys b.trail b.binding.scope ≡ ys a.trail a.binding.scope = λ i. ys (first.trail i) (first.scope i) in
      record {
        trail = second.trail ∙ first.trail;
        scope = second.scope ∙ first.scope;
        flags = both_grown xs (ys a.trail a.binding.scope) a.flags b.flags c.flags first.flags
            (subst (λ (ss : List Site). IsGrown (IsIndexAmong d kind ss) b.flags c.flags) same second.flags);
      }

  -- a place, and then those below it, with what its head binds in scope; behind them that is let go
  module _ (s : Site) (ys : List ℕ → List Site) (a b c e : Walk) (met : IsMet d kind a s b) (below : IsWalked d kind b (ys b.trail) c) where
    one_grown : IsGrown (IsIndexAmong d kind (s ∷ [])) a.flags b.flags
    one_grown =
        grown_same (IsIndexOf d kind s) (IsIndexAmong d kind (s ∷ [])) a.flags b.flags met.flags
        (λ i x. record { site = s; among = contains_got (s ∷ []) s 0 refl; of = x }) (of_one s)

    pub walked_from : e.trail ≡ c.trail → e.flags ≡ c.flags → e.binding.scope ≡ a.binding.scope → IsWalked d kind a (s ∷ ys a.trail) e
    walked_from trail flags scope = record {
      trail = trail ∙ below.trail ∙ met.trail;
      scope = scope;
      flags = subst (λ (fs : List Bool). IsGrown (IsIndexAmong d kind (s ∷ ys a.trail)) a.flags fs) (sym flags)
          (both_grown (s ∷ []) (ys a.trail) a.flags b.flags c.flags one_grown
          (subst (λ (t : List ℕ). IsGrown (IsIndexAmong d kind (ys t)) b.flags c.flags) met.trail below.flags));
    }

  -- what was put into scope, or on the trail, for a walk is let go behind it
  pub walked_within : (ss : List Site) (a b c e : Walk) → b.flags ≡ a.flags → IsWalked d kind b ss c → e.flags ≡ c.flags → e.trail ≡ a.trail → e.binding.scope ≡ a.binding.scope
      → IsWalked d kind a ss e
  walked_within ss a b c e before walked behind trail scope = record {
    trail = trail;
    scope = scope;
    flags = subst (λ (fs : List Bool). IsGrown (IsIndexAmong d kind ss) a.flags fs) (sym behind)
        (subst (λ (fs : List Bool). IsGrown (IsIndexAmong d kind ss) fs c.flags) before walked.flags);
  }

-- what was put last is let go
pub let_go : {X : Type 0} (xs ys zs : List X) → zs ≡ xs ++ ys → take (length xs) zs ≡ xs
let_go xs ys zs e = ap (take (length xs)) e ∙ take-append_seam xs ys

pub last_gone : {X : Type 0} (xs zs : List X) (x : X) → zs ≡ xs ++ x ∷ [] → take (length zs - 1) zs ≡ xs
last_gone xs zs x e =
    let n : length zs ≡ length (xs ++ x ∷ []) = ap (λ ws. length ws) e in
    let m : length (xs ++ x ∷ []) ≡ length xs + 1 = length-append xs (x ∷ []) in
    ap (λ (k : ℕ). take k zs) (omega (arith, n, m)) ∙ let_go xs (x ∷ []) zs e

-- what is in scope behind a head begins with what was in front of it
pub scope_front : (scope : List Var) (p : Proc) → take (length scope) (scope_at scope p) ≡ scope
scope_front scope nil = front_self scope
scope_front scope (parallel p q) = front_self scope
scope_front scope (replicated p) = front_self scope
scope_front scope (act a p) = take-append_seam scope (bound_by scope a)
scope_front scope (test t u p q) = front_self scope
scope_front scope (lookup t x p q) = front_self scope

-- the places from one on are it and those below it
from_below : (path : List ℕ) (u : Above) (p : Proc) → places_from scope_below path u p ≡ place path u p ∷ places_below scope_below path u p
from_below path u nil = refl
from_below path u (parallel p q) = refl
from_below path u (replicated p) = refl
from_below path u (act a p) = refl
from_below path u (test t v p q) = refl
from_below path u (lookup t x p q) = refl

module _ (d : Desk) (kind : Kind) where
  pub met_and_below : (locks : ℕ) (p : Proc) (a b c e : Walk) → IsMet d kind a (place a.trail (above_of a.binding.scope locks) p) b
      → IsWalked d kind b (places_below scope_below b.trail (above_of a.binding.scope locks) p) c → e.trail ≡ c.trail → e.flags ≡ c.flags
      → e.binding.scope ≡ take (length a.binding.scope) c.binding.scope → IsWalked d kind a (sites_from a.trail a.binding.scope locks p) e
  met_and_below locks p a b c e met below trail flags scope =
      subst (λ (ss : List Site). IsWalked d kind a ss e) (sym (from_below a.trail (above_of a.binding.scope locks) p))
      (walked_from d kind (place a.trail (above_of a.binding.scope locks) p) (λ (path : List ℕ). places_below scope_below path (above_of a.binding.scope locks) p) a b c e met below trail flags
      (scope ∙ ap (take (length a.binding.scope)) (below.scope ∙ met.scope) ∙ scope_front a.binding.scope p))

  pub with_binder : (vs : List Var) (ys : List Var → List Site) (a b c e : Walk) → b.trail ≡ a.trail → b.flags ≡ a.flags → b.binding.scope ≡ a.binding.scope ++ vs
      → IsWalked d kind b (ys b.binding.scope) c → e.trail ≡ c.trail → e.flags ≡ c.flags → e.binding.scope ≡ take (length a.binding.scope) c.binding.scope
      → IsWalked d kind a (ys (a.binding.scope ++ vs)) e
  with_binder vs ys a b c e trail flags bound walked after behind scope =
      let here : IsWalked d kind b (ys (a.binding.scope ++ vs)) c = subst (λ (ws : List Var). IsWalked d kind b (ys ws) c) bound walked in
      walked_within d kind (ys (a.binding.scope ++ vs)) a b c e flags here behind (after ∙ walked.trail ∙ trail)
      (scope ∙ let_go a.binding.scope vs c.binding.scope (walked.scope ∙ bound))

  pub with_digit : (k : ℕ) (ys : List ℕ → List Site) (a b c e : Walk) → b.trail ≡ a.trail ++ k ∷ [] → b.flags ≡ a.flags → b.binding.scope ≡ a.binding.scope
      → IsWalked d kind b (ys b.trail) c → e.trail ≡ take (length c.trail - 1) c.trail → e.flags ≡ c.flags → e.binding.scope ≡ c.binding.scope
      → IsWalked d kind a (ys (a.trail ++ k ∷ [])) e
  with_digit k ys a b c e trail flags scope walked after behind same =
      let here : IsWalked d kind b (ys (a.trail ++ k ∷ [])) c = subst (λ (path : List ℕ). IsWalked d kind b (ys path) c) trail walked in
      walked_within d kind (ys (a.trail ++ k ∷ [])) a b c e flags here behind (after ∙ last_gone a.trail c.trail k (walked.trail ∙ trail)) (same ∙ walked.scope ∙ scope)
