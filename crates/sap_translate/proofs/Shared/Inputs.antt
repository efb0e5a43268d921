-- Which K event serves an input, after one more place.
use Rattle.sap_restrict.specs.ReservedFacts.{event_fact, input_fact}
use Rattle.sap_translate.specs.Members.{Member}
use Rattle.sap_translate.specs.relation.Shown.{ShowsAt}
use Rattle.sap_restrict.specs.Sentences.{IsServed, EachServed}
use Rattle.sap_translate.proofs.Shared.Lookups.{get-append_left, get_last, get_within, only_member}
use Rattle.sap_translate.specs.relation.Related.{Free}
use Rattle.sap_terms.specs.AdversaryFacts.{k_fact}
use Rattle.sap_terms.specs.Trace.{Trace}
use Rattle.sap_terms.specs.Tree.{Tree}
use Rattle.sap_terms.specs.declared.fact.Fact.{Fact}
use Rattle.std.proofs.Common.{◌≡◌, ℕ, zero, suc, ◌<◌, ◌≤◌, ◌⊎◌, inl, inr, List, [], ◌∷◌, ◌++◌, Some, refl, sym, ap, arith, slice_get, length, subst}

pub has_more : (full : Trace) (p : List Fact) (k : ℕ) (f : Fact) → ShowsAt full k f → ShowsAt (full ++ p ∷ []) k f
has_more full p k f h = (h.0, get-append_left full (p ∷ []) k h.0 h.1, h.2)

pub has_last : (full : Trace) (p : List Fact) (f : Fact) → Member f p → ShowsAt (full ++ p ∷ []) (length full) f
has_last full p f m = (p, get_last full p, m)

pub has_within : (full : Trace) (k : ℕ) (f : Fact) → ShowsAt full k f → k < length full
has_within full k f h = get_within full k h.0 h.1

pub data Where (full : Trace) (p : List Fact) (k : ℕ) (f : Fact) : Type 0 where
  old : k < length full → ShowsAt full k f → Where full p k f
  new : k ≡ length full → Member f p → Where full p k f

where_get : (full : Trace) (p : List Fact) (k : ℕ) (place : List Fact) → slice_get (full ++ p ∷ []) k ≡ Some place → (slice_get full k ≡ Some place) ⊎ ((k ≡ length full) × (p ≡ place))
where_get [] p zero place e = inr (refl, cc)
where_get [] p (suc k) place e = absurd (cc)
where_get (x ∷ full) p zero place e = inl e
where_get (x ∷ full) p (suc k) place e = elim (where_get full p k place e) [ inl a ↦ inl a | inr b ↦ inr (ap suc b.0, b.1) ]

pub has_where : (full : Trace) (p : List Fact) (k : ℕ) (f : Fact) → ShowsAt (full ++ p ∷ []) k f → Where full p k f
has_where full p k f h = elim (where_get full p k h.0 h.1) [
  | inl a ↦ old (get_within full k h.0 a) (h.0, a, h.2)
  | inr b ↦ new b.0 (subst (λ q. Member f q) (sym b.1) h.2)
]

-- facts with different names
apart : (f g : Fact) → f ≡ g → (f.name ≡ g.name → ⊥) → ⊥
apart f g e h = h (ap (λ (x : Fact). x.name) e)

not_k_input : (x y : Tree) → Member (k_fact y) (input_fact x ∷ []) → ⊥
not_k_input x y m = apart (k_fact y) (input_fact x) (only_member m) (λ e. cc)

not_event_input : (x : Tree) → Member event_fact (input_fact x ∷ []) → ⊥
not_event_input x m = apart event_fact (input_fact x) (only_member m) (λ e. cc)

not_event_k : (x : Tree) → Member event_fact (k_fact x ∷ []) → ⊥
not_event_k x m = apart event_fact (k_fact x) (only_member m) (λ e. cc)

not_input_k : (x y : Tree) → Member (input_fact y) (k_fact x ∷ []) → ⊥
not_input_k x y m = apart (input_fact y) (k_fact x) (only_member m) (λ e. cc)

same_argument : (name : List ℕ) (x y : Tree) (f g : Fact) → f.args ≡ x ∷ [] → g.args ≡ y ∷ [] → f ≡ g → x ≡ y
same_argument name x y f g a b e = let h : f.args ≡ g.args = ap (λ (z : Fact). z.args) e in cc

same_k : (x y : Tree) → Member (k_fact y) (k_fact x ∷ []) → y ≡ x
same_k x y m = same_argument [] y x (k_fact y) (k_fact x) refl refl (only_member m)

same_input : (x y : Tree) → Member (input_fact y) (input_fact x ∷ []) → y ≡ x
same_input x y m = same_argument [] y x (input_fact y) (input_fact x) refl refl (only_member m)

-- an input that is served takes the free K event
pub served_free : (full : Trace) (x : Tree) → EachServed (ShowsAt (full ++ (input_fact x ∷ []) ∷ [])) → Free full x
served_free full x h =
    let g = h x (length full) (has_last full (input_fact x ∷ []) (input_fact x) Member.here) in
    let j = g.0 in
    let s = g.1 in
    record {
      place = j;
      known = elim (has_where full (input_fact x ∷ []) j (k_fact x) s.known) [ old lt a ↦ a | new e m ↦ absurd (not_k_input x x m) ];
      last = λ y k a. let lt = has_within full k (k_fact y) a in elim (s.last y k (has_more full (input_fact x ∷ []) k (k_fact y) a)) [ inl b ↦ b | inr b ↦ absurd (omega arith) ];
      events = λ k a. let lt = has_within full k event_fact a in elim (s.events k (has_more full (input_fact x ∷ []) k event_fact a)) [ inl b ↦ b | inr b ↦ absurd (omega arith) ];
      inputs = λ y k a. let lt = has_within full k (input_fact y) a in elim (s.inputs y k (has_more full (input_fact x ∷ []) k (input_fact y) a)) [ inl b ↦ b | inr b ↦ absurd (omega arith) ];
    }

lift : (full : Trace) (p : List Fact) (i j : ℕ) (x : Tree) → i < length full → IsServed (ShowsAt full) i x j → IsServed (ShowsAt (full ++ p ∷ [])) i x j
lift full p i j x lt s = record {
  known = has_more full p j (k_fact x) s.known;
  before = s.before;
  last = λ y k a. elim (has_where full p k (k_fact y) a) [ old b c ↦ s.last y k c | new b c ↦ inr (omega arith) ];
  events = λ k a. elim (has_where full p k event_fact a) [ old b c ↦ s.events k c | new b c ↦ inr (omega arith) ];
  inputs = λ y k a. elim (has_where full p k (input_fact y) a) [ old b c ↦ s.inputs y k c | new b c ↦ inr (omega arith) ];
}

pub served_quiet : (full : Trace) (p : List Fact) → EachServed (ShowsAt full) → ((y : Tree) → Member (input_fact y) p → ⊥) → EachServed (ShowsAt (full ++ p ∷ []))
served_quiet full p h quiet x i a = elim (has_where full p i (input_fact x) a) [
  | old lt b ↦ (let g = h x i b in (g.0, lift full p i g.0 x lt g.1))
  | new e m ↦ absurd (quiet x m)
]

pub served_before : (full : Trace) (p : List Fact) → EachServed (ShowsAt (full ++ p ∷ [])) → EachServed (ShowsAt full)
served_before full p h x i a =
    let lt = has_within full i (input_fact x) a in
    let g = h x i (has_more full p i (input_fact x) a) in
    let j = g.0 in
    let s = g.1 in
    let bj = s.before in (
      j,
      record {
        known = elim (has_where full p j (k_fact x) s.known) [ old b c ↦ c | new e m ↦ absurd (omega arith) ];
        before = s.before;
        last = λ y k b. s.last y k (has_more full p k (k_fact y) b);
        events = λ k b. s.events k (has_more full p k event_fact b);
        inputs = λ y k b. s.inputs y k (has_more full p k (input_fact y) b);
      },
    )

pub free_served : (full : Trace) (x : Tree) → EachServed (ShowsAt full) → Free full x → EachServed (ShowsAt (full ++ (input_fact x ∷ []) ∷ []))
free_served full x h f y i a = elim (has_where full (input_fact x ∷ []) i (input_fact y) a) [
  | old lt b ↦ (let g = h y i b in (g.0, lift full (input_fact x ∷ []) i g.0 y lt g.1))
  | new e m ↦ (let same : y ≡ x = same_input x y m in
      let within = has_within full f.place (k_fact x) f.known in (
        f.place,
        record {
          known = subst (λ z. ShowsAt (full ++ (input_fact x ∷ []) ∷ []) f.place (k_fact z)) (sym same) (has_more full (input_fact x ∷ []) f.place (k_fact x) f.known);
          before = omega arith;
          last = λ z k b. elim (has_where full (input_fact x ∷ []) k (k_fact z) b) [ old lt c ↦ inl (f.last z k c) | new g c ↦ absurd (not_k_input x z c) ];
          events = λ k b. elim (has_where full (input_fact x ∷ []) k event_fact b) [ old lt c ↦ inl (f.events k c) | new g c ↦ absurd (not_event_input x c) ];
          inputs = λ z k b. elim (has_where full (input_fact x ∷ []) k (input_fact z) b) [ old lt c ↦ inl (f.inputs z k c) | new g c ↦ inr (omega arith) ];
        },
      ))
]

-- what is free after one more place

pub free_quiet : (full : Trace) (p : List Fact) (x : Tree) → ((y : Tree) → Member (k_fact y) p → ⊥) → Free (full ++ p ∷ []) x → Free full x
free_quiet full p x quiet f = record {
  place = f.place;
  known = elim (has_where full p f.place (k_fact x) f.known) [ old b c ↦ c | new e m ↦ absurd (quiet x m) ];
  last = λ y k a. f.last y k (has_more full p k (k_fact y) a);
  events = λ k a. f.events k (has_more full p k event_fact a);
  inputs = λ y k a. f.inputs y k (has_more full p k (input_fact y) a);
}

pub free_know : (full : Trace) (x y : Tree) → Free (full ++ (k_fact x ∷ []) ∷ []) y → y ≡ x
free_know full x y f =
    let le = f.last x (length full) (has_last full (k_fact x ∷ []) (k_fact x) Member.here) in
    elim (has_where full (k_fact x ∷ []) f.place (k_fact y) f.known) [ old b c ↦ absurd (omega arith) | new e m ↦ same_k x y m ]

pub know_free : (full : Trace) (x : Tree) → Free (full ++ (k_fact x ∷ []) ∷ []) x
know_free full x = record {
  place = length full;
  known = has_last full (k_fact x ∷ []) (k_fact x) Member.here;
  last = λ y k a. elim (has_where full (k_fact x ∷ []) k (k_fact y) a) [ old b c ↦ omega arith | new e m ↦ omega arith ];
  events = λ k a. elim (has_where full (k_fact x ∷ []) k event_fact a) [ old b c ↦ b | new e m ↦ absurd (not_event_k x m) ];
  inputs = λ y k a. elim (has_where full (k_fact x ∷ []) k (input_fact y) a) [ old b c ↦ b | new e m ↦ absurd (not_input_k x y m) ];
}

last_within : (full : Trace) (p : List Fact) (k : ℕ) (f : Fact) → ShowsAt (full ++ p ∷ []) k f → k ≤ length full
last_within full p k f h = elim (has_where full p k f h) [ old b c ↦ omega arith | new e m ↦ omega arith ]

pub event_frees_none : (full : Trace) (p : List Fact) (x : Tree) → Member event_fact p → Free (full ++ p ∷ []) x → ⊥
event_frees_none full p x m f =
    let lt = f.events (length full) (has_last full p event_fact m) in
    let le = last_within full p f.place (k_fact x) f.known in
    omega arith

pub input_frees_none : (full : Trace) (x y : Tree) → Free (full ++ (input_fact y ∷ []) ∷ []) x → ⊥
input_frees_none full x y f =
    let lt = f.inputs y (length full) (has_last full (input_fact y ∷ []) (input_fact y) Member.here) in
    let le = last_within full (input_fact y ∷ []) f.place (k_fact x) f.known in
    omega arith

not_nil : {A : Type 0} (b : List A) (q : A) → ◌≡◌ {A = List A} [] (b ++ q ∷ []) → ⊥
not_nil [] q e = cc
not_nil (z ∷ b) q e = cc

pub last_same : {A : Type 0} (a b : List A) (p q : A) → a ++ p ∷ [] ≡ b ++ q ∷ [] → p ≡ q
last_same [] [] p q e = cc
last_same [] (y ∷ b) p q e = absurd (not_nil b q (let h : [] ≡ b ++ q ∷ [] = cc in h))
last_same (x ∷ a) [] p q e = absurd (not_nil a p (let h : [] ≡ a ++ p ∷ [] = cc in h))
last_same (x ∷ a) (y ∷ b) p q e = last_same a b p q (cc)

pub init_same : {A : Type 0} (a b : List A) (p q : A) → a ++ p ∷ [] ≡ b ++ q ∷ [] → a ≡ b
init_same [] [] p q e = refl
init_same [] (y ∷ b) p q e = absurd (not_nil b q (let h : [] ≡ b ++ q ∷ [] = cc in h))
init_same (x ∷ a) [] p q e = absurd (not_nil a p (let h : [] ≡ a ++ p ∷ [] = cc in h))
init_same (x ∷ a) (y ∷ b) p q e = let head : x ≡ y = cc in let rest : a ≡ b = init_same a b p q (cc) in cc

pub same_k_fact : (x y : Tree) → k_fact x ≡ k_fact y → x ≡ y
same_k_fact x y e = same_argument [] x y (k_fact x) (k_fact y) refl refl e
