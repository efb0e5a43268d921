-- What serves an input, in a trace with one time more.
use Rattle.std.proofs.Common.{◌≡◌, ◌⊎◌, inl, inr, ℕ, zero, suc, ◌<◌, ◌≤◌, length, List, [], ◌∷◌, ◌++◌, refl, sym, ap, subst, arith}
use Rattle.std.specs.Prelude.{Contains}
use Rattle.std.proofs.lemmas.List.Elements.{Contains-push_cases}
use Rattle.sap_terms.specs.AdversaryFacts.{k_fact}
use Rattle.sap_terms.specs.Trace.{Trace}
use Rattle.sap_terms.specs.Tree.{Tree}
use Rattle.sap_terms.specs.declared.fact.Fact.{Fact}
use Rattle.sap_restrict.specs.ReservedFacts.{event_fact, input_fact}
use Rattle.sap_restrict.specs.Sentences.{EachServed, IsServed}
use Rattle.sap_restrict.specs.Shown.{HasFact}
use Rattle.sap_attacks.specs.Taking.{IsPending}
use Rattle.sap_attacks.specs.Pending.{PendingDecides, GivenMessagesServe}

none_in : {X : Type 0} (x : X) → Contains [] x → ⊥
none_in x c = let l = c.1 in omega arith

only_in : {X : Type 0} (y x : X) → Contains (y ∷ []) x → y ≡ x
only_in y x c = elim (Contains-push_cases [] y x c) [ inl n ↦ absurd (none_in x n) | inr e ↦ e ]

first_in : {X : Type 0} (x : X) → Contains (x ∷ []) x
first_in x = (zero, omega arith, refl)

-- the lengths of names tell facts apart
long : Fact → ℕ
long f = length f.name

at_end : (tr : Trace) (p : List Fact) (k : ℕ) (f : Fact) → HasFact (tr ++ p ∷ []) k f → ((k < length tr) × HasFact tr k f) ⊎ ((k ≡ length tr) × Contains p f)
at_end [] p zero f c = inr (refl, c)
at_end [] p (suc k) f c = absurd (none_in f c)
at_end (q ∷ tr) p zero f c = inl (omega arith, c)
at_end (q ∷ tr) p (suc k) f c = elim (at_end tr p k f c) [ inl a ↦ (let l = a.0 in inl (omega (arith, l), a.1)) | inr b ↦ inr (ap suc b.0, b.1) ]

still : (tr : Trace) (p : List Fact) (k : ℕ) (f : Fact) → HasFact tr k f → HasFact (tr ++ p ∷ []) k f
still [] p k f c = absurd (none_in f c)
still (q ∷ tr) p zero f c = c
still (q ∷ tr) p (suc k) f c = still tr p k f c

now : (tr : Trace) (p : List Fact) (f : Fact) → Contains p f → HasFact (tr ++ p ∷ []) (length tr) f
now [] p f c = c
now (q ∷ tr) p f c = now tr p f c

early : (tr : Trace) (k : ℕ) (f : Fact) → HasFact tr k f → k < length tr
early [] k f c = absurd (none_in f c)
early (q ∷ tr) zero f c = omega arith
early (q ∷ tr) (suc k) f c = let l = early tr k f c in omega (arith, l)

length_more : (tr : Trace) (p : List Fact) → length (tr ++ p ∷ []) ≡ suc (length tr)
length_more [] p = refl
length_more (q ∷ tr) p = ap suc (length_more tr p)

-- what was served before one more time
lower : (tr : Trace) (p : List Fact) (x : Tree) (i j : ℕ) → i ≤ length tr → IsServed (HasFact (tr ++ p ∷ [])) i x j → IsServed (HasFact tr) i x j
lower tr p x i j l s = record {
  known = elim (at_end tr p j (k_fact x) s.known) [ inl a ↦ a.1 | inr b ↦ (let e = b.0 in let o = s.before in absurd (omega (arith, e, o, l))) ];
  before = s.before;
  last = λ y k c. s.last y k (still tr p k (k_fact y) c);
  events = λ k c. s.events k (still tr p k event_fact c);
  inputs = λ y k c. s.inputs y k (still tr p k (input_fact y) c);
}

-- is served behind it too, if it was before, or if neither a K nor an event comes
raise : (tr : Trace) (p : List Fact) (x : Tree) (i j : ℕ) → i ≤ length tr → ((i < length tr) ⊎ (((y : Tree) → Contains p (k_fact y) → ⊥) × (Contains p event_fact → ⊥)))
    → IsServed (HasFact tr) i x j → IsServed (HasFact (tr ++ p ∷ [])) i x j
raise tr p x i j l o s = record {
  known = still tr p j (k_fact x) s.known;
  before = s.before;
  last = λ y k c. elim (at_end tr p k (k_fact y) c) [ inl a ↦ s.last y k a.1 | inr b ↦ late_k y k b.0 b.1 o ];
  events = λ k c. elim (at_end tr p k event_fact c) [ inl a ↦ s.events k a.1 | inr b ↦ late_e k b.0 b.1 o ];
  inputs = λ y k c. elim (at_end tr p k (input_fact y) c) [ inl a ↦ s.inputs y k a.1 | inr b ↦ (let e = b.0 in inr (omega (arith, e, l))) ];
} where
  late_k : (y : Tree) (k : ℕ) → k ≡ length tr → Contains p (k_fact y) → (i < length tr) ⊎ (((y : Tree) → Contains p (k_fact y) → ⊥) × (Contains p event_fact → ⊥)) → (k ≤ j) ⊎ (i < k)
  late_k y k e c (inl q) = inr (omega (arith, e, q))
  late_k y k e c (inr q) = absurd (q.0 y c)

  late_e : (k : ℕ) → k ≡ length tr → Contains p event_fact → (i < length tr) ⊎ (((y : Tree) → Contains p (k_fact y) → ⊥) × (Contains p event_fact → ⊥)) → (k < j) ⊎ (i < k)
  late_e k e c (inl q) = inr (omega (arith, e, q))
  late_e k e c (inr q) = absurd (q.1 c)

k_no_input : (t y : Tree) → Contains (k_fact t ∷ []) (input_fact y) → ⊥
k_no_input t y c = let e : 1 ≡ 7 = ap (λ (f : Fact). length f.name) (only_in (k_fact t) (input_fact y) c) in omega (arith, e)

k_no_event : (t : Tree) → Contains (k_fact t ∷ []) event_fact → ⊥
k_no_event t c = let e : 1 ≡ 5 = ap (λ (f : Fact). length f.name) (only_in (k_fact t) event_fact c) in omega (arith, e)

input_no_k : (t y : Tree) → Contains (input_fact t ∷ []) (k_fact y) → ⊥
input_no_k t y c = let e : 7 ≡ 1 = ap (λ (f : Fact). length f.name) (only_in (input_fact t) (k_fact y) c) in omega (arith, e)

input_no_event : (t : Tree) → Contains (input_fact t ∷ []) event_fact → ⊥
input_no_event t c = let e : 7 ≡ 5 = ap (λ (f : Fact). length f.name) (only_in (input_fact t) event_fact c) in omega (arith, e)

abbrev first_arg : List Tree → Tree → Tree
first_arg [] d = d
first_arg (t ∷ ts) d = t

same_input : (t x : Tree) → Contains (input_fact t ∷ []) (input_fact x) → t ≡ x
same_input t x c = ap (λ (f : Fact). first_arg f.args t) (only_in (input_fact t) (input_fact x) c)

to : (tr : Trace) (t : Tree) → EachServed (HasFact tr) → IsPending tr t → EachServed (HasFact (tr ++ (input_fact t ∷ []) ∷ []))
to tr t each pending x i c = go (at_end tr (input_fact t ∷ []) i (input_fact x) c) where
  quiet : ((y : Tree) → Contains (input_fact t ∷ []) (k_fact y) → ⊥) × (Contains (input_fact t ∷ []) event_fact → ⊥)
  quiet = (input_no_k t, input_no_event t)

  go : ((i < length tr) × HasFact tr i (input_fact x)) ⊎ ((i ≡ length tr) × Contains (input_fact t ∷ []) (input_fact x)) → (j : ℕ) × IsServed (HasFact (tr ++ (input_fact t ∷ []) ∷ [])) i x j
  go (inl a) = let s = each x i a.1 in let l = a.0 in (s.0, raise tr (input_fact t ∷ []) x i s.0 (omega (arith, l)) (inl l) s.1)
  go (inr b) =
      let s = raise tr (input_fact t ∷ []) t (length tr) pending.0 (omega arith) (inr quiet) pending.1 in (
        pending.0,
        subst (λ n. IsServed (HasFact (tr ++ (input_fact t ∷ []) ∷ [])) n x pending.0) (sym b.0)
            (subst (λ u. IsServed (HasFact (tr ++ (input_fact t ∷ []) ∷ [])) (length tr) u pending.0) (same_input t x b.1) s),
      )

from : (tr : Trace) (t : Tree) → EachServed (HasFact (tr ++ (input_fact t ∷ []) ∷ [])) → EachServed (HasFact tr) × IsPending tr t
from tr t each = (each_before, pending) where
  each_before : EachServed (HasFact tr)
  each_before x i c =
      let l = early tr i (input_fact x) c in
      let s = each x i (still tr (input_fact t ∷ []) i (input_fact x) c) in
      (s.0, lower tr (input_fact t ∷ []) x i s.0 (omega (arith, l)) s.1)

  pending : IsPending tr t
  pending =
      let s = each t (length tr) (now tr (input_fact t ∷ []) (input_fact t) (first_in (input_fact t))) in
      (s.0, lower tr (input_fact t ∷ []) t (length tr) s.0 (omega arith) s.1)

pub pending-decides : PendingDecides
pending-decides tr t = (λ h. to tr t h.0 h.1, λ h. from tr t h)

pub given-messages-serve : GivenMessagesServe
given-messages-serve tr t each = (pending, each_too) where
  each_too : EachServed (HasFact (tr ++ (k_fact t ∷ []) ∷ []))
  each_too x i c = go (at_end tr (k_fact t ∷ []) i (input_fact x) c) where
    go : ((i < length tr) × HasFact tr i (input_fact x)) ⊎ ((i ≡ length tr) × Contains (k_fact t ∷ []) (input_fact x)) → (j : ℕ) × IsServed (HasFact (tr ++ (k_fact t ∷ []) ∷ [])) i x j
    go (inl a) = let s = each x i a.1 in let l = a.0 in (s.0, raise tr (k_fact t ∷ []) x i s.0 (omega (arith, l)) (inl l) s.1)
    go (inr b) = absurd (k_no_input t x b.1)

  before_end : (k : ℕ) → k < length (tr ++ (k_fact t ∷ []) ∷ []) → k ≤ length tr
  before_end k l = let e = length_more tr (k_fact t ∷ []) in omega (arith, l, e)

  pending : IsPending (tr ++ (k_fact t ∷ []) ∷ []) t
  pending = (
    length tr,
    record {
      known = now tr (k_fact t ∷ []) (k_fact t) (first_in (k_fact t));
      before = (let e = length_more tr (k_fact t ∷ []) in omega (arith, e));
      last = λ y k c. inl (before_end k (early (tr ++ (k_fact t ∷ []) ∷ []) k (k_fact y) c));
      events = λ k c. elim (at_end tr (k_fact t ∷ []) k event_fact c) [ inl a ↦ inl a.0 | inr b ↦ absurd (k_no_event t b.1) ];
      inputs = λ y k c. elim (at_end tr (k_fact t ∷ []) k (input_fact y) c) [ inl a ↦ inl a.0 | inr b ↦ absurd (k_no_input t y b.1) ];
    },
  )
