-- The takers grow by one rule.
use Rattle.std.proofs.Common.{◌≡◌, ◌<◌, ◌+◌, ℕ, Bool, true, false, List, Option, Some, None, MatchOption, if◌then◌else◌, bytes_eq, refl, slice_get, sym, ap, ◌∙◌, ◌⊎◌, inl, inr, arith}
use Rattle.std.proofs.lemmas.Bool.{cases_lt}
use Rattle.std.proofs.lemmas.Option.{same_Some}
use Rattle.std.proofs.lemmas.Slice.Eq.{bytes_eq-Decides}
use Rattle.sap_terms.specs.NameMap.{Puts, value_at}
use Rattle.sap_rule.specs.declared.rule.Rule.{Rule}
use Rattle.sap_gen.specs.code.Takers.{AreTakers, Notes, taken_name}
use Rattle.sap_gen.specs.code.Walks.{Takers}

-- one of k + 1 rules is one of the first k, or the last
last_or : (j k : ℕ) → j < k + 1 → (j < k) ⊎ (j ≡ k)
last_or j k l = elim (cases_lt j k) [ inl m ↦ inl m | inr m ↦ inr (omega arith) ]

module _ (rules : List Rule) (k : ℕ) (old new : Takers) (r : Rule) (at : slice_get rules k ≡ Some r) (known : AreTakers rules k old) where
  -- what the rule at index k takes, whatever it is called there
  this_one : (j : ℕ) (q : Rule) (n : List ℕ) → j ≡ k → slice_get rules j ≡ Some q → taken_name q ≡ Some n → taken_name r ≡ Some n
  this_one j q n e there t = ap taken_name (same_Some r q (sym at ∙ ap (slice_get rules) (sym e) ∙ there)) ∙ t

  noted_none : new ≡ old → taken_name r ≡ None → AreTakers rules (k + 1) new
  noted_none same none = record {
    sound = λ n j e. known.sound n j (ap (λ (m : Takers). value_at m n) (sym same) ∙ e);
    complete = λ j q n l there t e. go j q n there t (ap (λ (m : Takers). value_at m n) (sym same) ∙ e) (last_or j k l);
  } where
    go : (j : ℕ) (q : Rule) (n : List ℕ) → slice_get rules j ≡ Some q → taken_name q ≡ Some n → value_at old n ≡ None → (j < k) ⊎ (j ≡ k) → ⊥
    go j q n there t e (inl l) = known.complete j q n l there t e
    go j q n there t e (inr same) = let clash : Some n ≡ None = sym (this_one j q n same there t) ∙ none in cc

  noted_some : (m : List ℕ) → Puts old new m (Some k) → taken_name r ≡ Some m → AreTakers rules (k + 1) new
  noted_some m puts some = record {
    sound = λ n j e. sound_at n j (bytes_eq m n) refl (sym (puts n) ∙ e);
    complete = λ j q n l there t e. complete_at j q n l there t (bytes_eq m n) refl (sym (puts n) ∙ e);
  } where
    sound_at : (n : List ℕ) (j : ℕ) (b : Bool) → bytes_eq m n ≡ b → (if b then Some k else value_at old n) ≡ Some j
        → (q : Rule) × (slice_get rules j ≡ Some q) × (taken_name q ≡ Some n)
    sound_at n j true same e =
        let name : m ≡ n = (bytes_eq-Decides m n).0 same in
        let index : k ≡ j = same_Some k j e in
        (r, ap (slice_get rules) (sym index) ∙ at, some ∙ ap (λ z. Some z) name)
    sound_at n j false other e = known.sound n j e

    complete_at : (j : ℕ) (q : Rule) (n : List ℕ) → j < k + 1 → slice_get rules j ≡ Some q → taken_name q ≡ Some n → (b : Bool) → bytes_eq m n ≡ b → (if b then Some k else value_at old n) ≡ None → ⊥
    complete_at j q n l there t true same e = cc
    complete_at j q n l there t false other e = go (last_or j k l) where
      go : (j < k) ⊎ (j ≡ k) → ⊥
      go (inl before) = known.complete j q n before there t e
      go (inr this) =
          let name : m ≡ n = same_Some m n (sym some ∙ this_one j q n this there t) in
          let yes = (bytes_eq-Decides m n).1 name in
          cc

  pub noted : Notes old new r k → AreTakers rules (k + 1) new
  noted notes = go (taken_name r) refl notes where
    go : (o : Option (List ℕ)) → taken_name r ≡ o → MatchOption o (new ≡ old) (λ n. Puts old new n (Some k)) → AreTakers rules (k + 1) new
    go None e h = noted_none h e
    go (Some n) e h = noted_some n h e
