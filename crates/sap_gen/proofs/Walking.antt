-- One turn of the walk through right sides.
use Rattle.std.proofs.Common.{append_assoc, ◌≡◌, ◌<◌, ◌+◌, ◌-◌, ◌++◌, drop, take, ℕ, List, [], ◌∷◌, Option, Some, None, MatchOption, map, refl, reverse, slice_get, sym, ap, subst, ◌∙◌, arith}
use denote.Ref.{Bor}
use Rattle.std.proofs.lemmas.List.{append-nil, map_push, reverse-append}
use Rattle.std.proofs.lemmas.Option.{same_Some}
use Rattle.sap_terms.proofs.PlainLaws.Lists.{drop_got}
use Rattle.sap_terms.specs.NameMap.{value_at}
use Rattle.sap_terms.specs.declared.fact.Fact.{Fact}
use Rattle.sap_formula.specs.Truth.{EachIn}
use Rattle.sap_process.specs.Proc.{Proc}
use Rattle.sap_rule.specs.declared.rule.Rule.{Rule}
use Rattle.sap_translate.specs.relation.Totals.{total}
use Rattle.sap_translate.proofs.Shared.Totals.{total-append}
use Rattle.sap_gen.specs.Settled.{IsSettled, nothing_left, stays, goes_on}
use Rattle.sap_gen.specs.Silent.{IsSilentRule}
use Rattle.sap_gen.specs.code.Walks.{IsLookedAt, IsTakenBy, IsToldRight, IsUnderWay, Takers, ahead_of, cost, cost_at, name_bytes}

-- what is kept last is ahead of all others
pub next_last : (fs : List (Bor Fact)) (f : Bor Fact) → ahead_of (fs ++ f ∷ []) ≡ f.now ∷ ahead_of fs
next_last fs f = ap reverse (map_push (λ (f : Bor Fact). f.now) fs f) ∙ reverse-append (map (λ (f : Bor Fact). f.now) fs) (f.now ∷ [])

each_both : (P : Fact → Type 0) (fs hs : List Fact) → EachIn P fs → EachIn P hs → EachIn P (fs ++ hs)
each_both P [] hs a b = b
each_both P (f ∷ fs) hs a b = (a.0, each_both P fs hs a.1 b)

module _ (rules : List Rule) (takers : Takers) (p : Proc) where
  -- where nothing is ahead, all have settled
  pub ends : (facts settled : List Fact) → IsUnderWay rules takers facts [] settled p → IsSettled (IsSilentRule p) facts settled
  ends facts settled w = subst (IsSettled (IsSilentRule p) facts) (append-nil settled) (w.leads [] nothing_left)

  module _ (f : Fact) (ahead more settled longer : List Fact) where
    -- once the first fact that is ahead was looked at, the walk is further on
    pub onward : (facts : List Fact) → IsLookedAt rules takers f ahead more settled longer → IsUnderWay rules takers facts (f ∷ ahead) settled p
        → IsUnderWay rules takers facts more longer p
    onward facts looked way = go (value_at takers f.name) looked way.can.told.0 where
      go : (o : Option ℕ)
          → MatchOption o ((more ≡ ahead) × (longer ≡ settled ++ f ∷ [])) (λ k. (q : Rule) × (slice_get rules k ≡ Some q) × (more ≡ q.right ++ ahead) × (longer ≡ settled))
          → MatchOption o ((q : Rule) → IsSilentRule p q → q.left ≡ f ∷ [] → ⊥) (λ k. IsTakenBy p rules takers f k)
          → IsUnderWay rules takers facts more longer p
      go None at told = record {
        can = record { tell = way.can.tell; told = subst (EachIn (IsToldRight p rules takers)) (sym at.0) way.can.told.1 };
        leads = λ rest s.
            let whole = way.leads (f ∷ rest) (stays f told (subst (λ z. IsSettled (IsSilentRule p) z rest) at.0 s)) in
            let same : settled ++ f ∷ rest ≡ longer ++ rest = sym (append_assoc settled (f ∷ []) rest) ∙ ap (λ z. z ++ rest) (sym at.1) in
            subst (IsSettled (IsSilentRule p) facts) same whole;
      }
      go (Some k) at told =
          let q = at.0 in
          let one : told.rule ≡ q = same_Some told.rule q (sym told.at ∙ at.1) in
          let ahead_is : more ≡ told.rule.right ++ ahead = at.2 ∙ ap (λ (r : Rule). r.right ++ ahead) (sym one) in
          record {
            can = record {
              tell = way.can.tell;
              told = subst (EachIn (IsToldRight p rules takers)) (sym ahead_is) (each_both (IsToldRight p rules takers) told.rule.right ahead (way.can.tell k told.rule told.at) way.can.told.1);
            };
            leads = λ rest s.
                let whole = way.leads rest (goes_on f told.rule told.silent told.takes (subst (λ z. IsSettled (IsSilentRule p) z rest) ahead_is s)) in
                subst (λ z. IsSettled (IsSilentRule p) facts (z ++ rest)) (sym at.3) whole;
          }

    -- and what is ahead costs less than before
    pub cheaper : IsLookedAt rules takers f ahead more settled longer → IsToldRight p rules takers f
        → total (cost rules takers) more < total (cost rules takers) (f ∷ ahead)
    cheaper looked told = go (value_at takers f.name) refl looked told where
      go : (o : Option ℕ) → value_at takers f.name ≡ o
          → MatchOption o ((more ≡ ahead) × (longer ≡ settled ++ f ∷ [])) (λ k. (q : Rule) × (slice_get rules k ≡ Some q) × (more ≡ q.right ++ ahead) × (longer ≡ settled))
          → MatchOption o ((q : Rule) → IsSilentRule p q → q.left ≡ f ∷ [] → ⊥) (λ k. IsTakenBy p rules takers f k)
          → total (cost rules takers) more < total (cost rules takers) (f ∷ ahead)
      go None e at told =
          let one : cost rules takers f ≡ 1 = ap (λ o. cost_at (name_bytes rules) o f.name) e in
          let same = ap (total (cost rules takers)) at.0 in
          omega arith
      go (Some k) e at told =
          let q = at.0 in
          let one : told.rule ≡ q = same_Some told.rule q (sym told.at ∙ at.1) in
          let same : total (cost rules takers) more ≡ total (cost rules takers) (told.rule.right ++ ahead) = ap (total (cost rules takers)) (at.2 ∙ ap (λ (r : Rule). r.right ++ ahead) (sym one)) in
          let both = total-append (cost rules takers) told.rule.right ahead in
          let less = told.cheaper in
          omega arith

-- where the last fact that is kept is taken out, it is the first of those that are ahead
pub popped : (rules : List Rule) (takers : Takers) (p : Proc) (facts settled : List Fact) (before rest : List (Bor Fact)) (f : Bor Fact) → before ≡ rest ++ f ∷ []
    → IsUnderWay rules takers facts (ahead_of before) settled p → IsUnderWay rules takers facts (f.now ∷ ahead_of rest) settled p
popped rules takers p facts settled before rest f e way = subst (λ z. IsUnderWay rules takers facts z settled p) (ap ahead_of e ∙ next_last rest f) way

-- facts are put ahead one by one, from the last on
pub put_next : (facts start : List Fact) (k : ℕ) (items : List (Bor Fact)) (f : Bor Fact) → 0 < k → slice_get facts (k - 1) ≡ Some f.now
    → ahead_of items ≡ drop k facts ++ start → ahead_of (items ++ f ∷ []) ≡ drop (k - 1) facts ++ start
put_next facts start k items f some at e =
    let back : k - 1 + 1 ≡ k = omega arith in
    let rest : drop (k - 1) facts ≡ f.now ∷ drop k facts = drop_got facts (k - 1) f.now at ∙ ap (λ n. f.now ∷ drop n facts) back in
    next_last items f ∙ ap (λ z. f.now ∷ z) e ∙ ap (λ z. z ++ start) (sym rest)

-- a list from which nothing could be popped is empty
pub emptied : (old new : List (Bor Fact)) (n : ℕ) → n ≡ 0 → new ≡ take (n - 1) old → old ≡ new ++ [] → old ≡ []
emptied old new n none rest items = items ∙ append-nil new ∙ rest ∙ ap (λ m. take (m - 1) old) none
