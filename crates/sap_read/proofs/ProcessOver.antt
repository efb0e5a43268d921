-- The signature holds the symbols of a well-formed process, and none of its binders is a constant.
use Rattle.std.proofs.Common.{◌≡◌, ℕ, Bool, true, false, List, [], ◌∷◌, ◌++◌, length, Option, Some, None, inl, inr, refl, ap}
use Rattle.std.specs.Prelude.{◌⊎◌, nat_eq, slice_index_or}
use Rattle.std.proofs.lemmas.Bool.Decides.{Decides-eqb}
use Rattle.std.proofs.lemmas.List.Elements.{Contains-get_or, recursion_from_All, All-from_recursion}
use Rattle.std.proofs.lemmas.Option.{slice_get-get_or}
use Rattle.std.specs.List.{AllByRecursion}
use Rattle.sap_terms.specs.declared.fact.Fact.{Fact}
use Rattle.sap_terms.specs.declared.var.Sort.{Sort}
use Rattle.sap_terms.specs.declared.var.Sort.TheVariants.{Msg, Fresh, Pub}
use Rattle.sap_terms.specs.declared.var.Var.{Var}
use Rattle.sap_terms.specs.Message.{IsOver, AreOver, IsFactOver}
use Rattle.sap_terms.specs.Signature.{Sig, arity_of}
use Rattle.sap_terms.specs.Tree.{Tree, variable, public, fresh, apply, Trees, none, more, trees_of, list_of}
use Rattle.sap_grammar.specs.TermGrammar.{IsConstant}
use Rattle.sap_grammar.specs.Printable.{IsTidyVariable}
use Rattle.sap_process.specs.Action.{Action, new, out, send, input, receive, event, insert, delete, lock, unlock, embedded}
use Rattle.sap_process.specs.Proc.{Proc, nil, parallel, replicated, act, test, lookup}
use Rattle.sap_process.specs.Places.{places_from}
use Rattle.sap_process.specs.Heads.{facts_terms, head_terms, bound_as}
use Rattle.sap_process.specs.Sites.{Site, Above, sites, scope_below, above_of}
use Rattle.sap_process.specs.Flaws.{IsWellFormed, AppliesBadly, BindsConstant}
use Rattle.sap_process.specs.declared.flaw.Flaw.TheVariants.{BadFunction}
use Rattle.sap_draft.specs.Printable.{IsActionOver}
use Rattle.sap_read.proofs.EachOf.{left, right}

-- the signature holds each symbol of the process with its arity, and what `new` and `lookup` bind is no constant
abbrev pub IsProcessOver : Sig → Proc → Type 0
IsProcessOver g nil = Unit {0}
IsProcessOver g (parallel p q) = IsProcessOver g p × IsProcessOver g q
IsProcessOver g (replicated p) = IsProcessOver g p
IsProcessOver g (act a p) = IsActionOver g a × IsProcessOver g p
IsProcessOver g (test t u p q) = IsOver g t × IsOver g u × IsProcessOver g p × IsProcessOver g q
IsProcessOver g (lookup t x p q) = IsOver g t × (IsConstant g x.name → ⊥) × IsProcessOver g p × IsProcessOver g q

-- A term of which it can't be false that it is over the signature is so.

arity_stable : (o : Option ℕ) (n : ℕ) → ((o ≡ Some n → ⊥) → ⊥) → o ≡ Some n
arity_stable None n h = absurd (h (λ e. cc (e)))
arity_stable (Some k) n h = by (nat_eq k n) refl
  where
    by : (c : Bool) → nat_eq k n ≡ c → Some k ≡ Some n
    by true e = ap Some ((Decides-eqb k n).0 e)
    by false e = absurd (h (λ s. let same : k ≡ n = cc (s) in let yes : nat_eq k n ≡ true = (Decides-eqb k n).1 same in cc (e, yes)))

mutual
  over_stable : (g : Sig) (t : Tree) → ((IsOver g t → ⊥) → ⊥) → IsOver g t
  over_stable g (variable v) h = tt
  over_stable g (public n) h = tt
  over_stable g (fresh k) h = tt
  over_stable g (apply f ts) h = (arity_stable (arity_of g f) (length (list_of ts)) (λ no. h (λ o. no o.0)), all_stable g ts (λ no. h (λ o. no o.1)))

  all_stable : (g : Sig) (ts : Trees) → ((AreOver g ts → ⊥) → ⊥) → AreOver g ts
  all_stable g none h = tt
  all_stable g (more t ts) h = (over_stable g t (λ no. h (λ o. no o.0)), all_stable g ts (λ no. h (λ o. no o.1)))

module _ (g : Sig) where
  args_over : (ts : List Tree) → AllByRecursion (IsOver g) ts → AreOver g (trees_of ts)
  args_over [] h = tt
  args_over (t ∷ ts) h = (h.0, args_over ts h.1)

  facts_over : (fs : List Fact) → AllByRecursion (IsOver g) (facts_terms fs) → AllByRecursion (IsFactOver g) fs
  facts_over [] h = tt
  facts_over (f ∷ fs) h = (args_over f.args (left (IsOver g) f.args (facts_terms fs) h), facts_over fs (right (IsOver g) f.args (facts_terms fs) h))

  -- no fault of symbols is at the head
  record IsGoodHead (p : Proc) : Type 0 where
    over : AllByRecursion (IsOver g) (head_terms p)
    bound : (v : Var) → bound_as p ≡ Some v → v.sort ≡ Msg → IsConstant g v.name → ⊥

  bound_by_new : (a : Proc) (x : Var) → IsGoodHead a → bound_as a ≡ Some x → IsTidyVariable g x.sort x.name
  bound_by_new a x h e = by x.sort refl
    where
      by : (s : Sort) → x.sort ≡ s → IsTidyVariable g s x.name
      by Msg plain = h.bound x e plain
      by Fresh plain = tt
      by Pub plain = tt

  action_over : (a : Action) (p : Proc) → IsGoodHead (act a p) → IsActionOver g a
  action_over (new x) p h = bound_by_new (act (new x) p) x h refl
  action_over (out t) p h = h.over.0
  action_over (send t u) p h = (h.over.0, h.over.1.0)
  action_over (input t) p h = h.over.0
  action_over (receive t u) p h = (h.over.0, h.over.1.0)
  action_over (event f) p h = args_over f.args h.over
  action_over (insert t u) p h = (h.over.0, h.over.1.0)
  action_over (delete t) p h = h.over.0
  action_over (lock t n) p h = h.over.0
  action_over (unlock t n) p h = h.over.0
  action_over (embedded l e r) p h =
      let all = facts_over (l ++ (e ++ r)) h.over in
      let behind = right (IsFactOver g) l (e ++ r) all in (
        All-from_recursion (IsFactOver g) l (left (IsFactOver g) l (e ++ r) all),
        All-from_recursion (IsFactOver g) e (left (IsFactOver g) e r behind),
        All-from_recursion (IsFactOver g) r (right (IsFactOver g) e r behind),
      )

  abbrev IsGoodSite : Site → Type 0
  IsGoodSite s = IsGoodHead s.body

  abbrev AreGood : List Site → Type 0
  AreGood ss = AllByRecursion IsGoodSite ss

  places_over : (p : Proc) (path : List ℕ) (s : Above) → AreGood (places_from scope_below path s p) → IsProcessOver g p
  places_over nil path s h = tt
  places_over (parallel p q) path s h =
      let r = parallel p q in
      let one = places_from scope_below (path ++ 1 ∷ []) (scope_below s r 1) p in
      let two = places_from scope_below (path ++ 2 ∷ []) (scope_below s r 2) q in
      (places_over p (path ++ 1 ∷ []) (scope_below s r 1) (left IsGoodSite one two h.1), places_over q (path ++ 2 ∷ []) (scope_below s r 2) (right IsGoodSite one two h.1))
  places_over (replicated p) path s h = places_over p (path ++ 1 ∷ []) (scope_below s (replicated p) 1) h.1
  places_over (act a p) path s h = (action_over a p h.0, places_over p (path ++ 1 ∷ []) (scope_below s (act a p) 1) h.1)
  places_over (test t u p q) path s h =
      let r = test t u p q in
      let one = places_from scope_below (path ++ 1 ∷ []) (scope_below s r 1) p in
      let two = places_from scope_below (path ++ 2 ∷ []) (scope_below s r 2) q in (
        h.0.over.0,
        h.0.over.1.0,
        places_over p (path ++ 1 ∷ []) (scope_below s r 1) (left IsGoodSite one two h.1),
        places_over q (path ++ 2 ∷ []) (scope_below s r 2) (right IsGoodSite one two h.1),
      )
  places_over (lookup t x p q) path s h =
      let r = lookup t x p q in
      let one = places_from scope_below (path ++ 1 ∷ []) (scope_below s r 1) p in
      let two = places_from scope_below (path ++ 2 ∷ []) (scope_below s r 2) q in (
        h.0.over.0,
        h.0.bound (record { name = x.name; sort = Msg }) refl refl,
        places_over p (path ++ 1 ∷ []) (scope_below s r 1) (left IsGoodSite one two h.1),
        places_over q (path ++ 2 ∷ []) (scope_below s r 2) (right IsGoodSite one two h.1),
      )

  good_head : (s : Site) → (AppliesBadly g s ⊎ BindsConstant g s → ⊥) → IsGoodHead s.body
  good_head s h = record {
    over = recursion_from_All (IsOver g) (head_terms s.body) (λ k d lt.
        over_stable g (slice_index_or (head_terms s.body) k d) (λ bad. h (inl (record {
          term = slice_index_or (head_terms s.body) k d;
          stands = Contains-get_or (head_terms s.body) k d lt;
          bad = bad;
        }))));
    bound = λ v e plain c. h (inr (record { var = v; stands = e; plain = plain; constant = c }));
  }

  pub well_formed_over : (p : Proc) → IsWellFormed g p → IsProcessOver g p
  well_formed_over p w = places_over p [] (above_of [] 0) (recursion_from_All IsGoodSite (sites p) (λ k d lt.
      good_head (slice_index_or (sites p) k d) (λ bad. w BadFunction k (record {
        site = slice_index_or (sites p) k d;
        stands = slice_get-get_or (sites p) k d lt;
        flaw = bad;
      }))))
