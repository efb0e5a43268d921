-- Lists by their indices, and facts that are cited.
use Rattle.std.proofs.Common.{◌≡◌, ◌<◌, ◌+◌, ℕ, zero, suc, List, [], ◌∷◌, ◌++◌, Option, Some, None, length, take, get_or, arith, refl, sym, ap, subst, ◌∙◌}
use Rattle.std.specs.Prelude.{All, IsSome, slice_get}
use Rattle.std.specs.List.{cons_option}
use Rattle.std.proofs.Math.Seq.{take-length}
use Rattle.std.proofs.lemmas.List.{take_more}
use Rattle.std.proofs.lemmas.List.Elements.{All-head, All-tail, All-nil, All-cons, filter_map-append}
use Rattle.std.proofs.lemmas.Option.{same_Some}
use Rattle.sap_facts.specs.Cited.{cited_at}
use Rattle.sap_facts.specs.Facts.{fact_at}
use Rattle.sap_terms.specs.declared.fact.Fact.{Fact}

pub take_all : {X : Type 0} (xs : List X) (k : ℕ) → k ≡ length xs → take k xs ≡ xs
take_all xs k h = ap (λ n. take n xs) h ∙ take-length xs

pub all_at : {X : Type 0} (P : X → Type 0) (xs : List X) (k : ℕ) (x : X) → All P xs → slice_get xs k ≡ Some x → P x
all_at P [] k x a h = cc
all_at P (y ∷ ys) zero x a h = let e : y ≡ x = cc in subst P e (All-head P y ys a)
all_at P (y ∷ ys) (suc k) x a h = all_at P ys k x (All-tail P y ys a) h

-- the facts at live numbers
there : (o : Option Fact) (f : Fact) (fs : List Fact) (k : ℕ) → IsSome o → slice_get fs k ≡ Some f → slice_get (cons_option o fs) (suc k) ≡ Some f
there None f fs k s h = cc
there (Some x) f fs k s h = h

pub cited_get : (slots : List (Option Fact)) (ns : List ℕ) (k n : ℕ) (f : Fact) → All (λ n. IsSome (fact_at slots n)) ns → slice_get ns k ≡ Some n → fact_at slots n ≡ Some f → slice_get (cited_at slots ns) k ≡ Some f
cited_get slots [] k n f a h i = cc
cited_get slots (m ∷ ms) zero n f a h i =
    let e : m ≡ n = cc in
    let is : fact_at slots m ≡ Some f = ap (fact_at slots) e ∙ i in
    ap (λ o. slice_get (cons_option o (cited_at slots ms)) 0) is
cited_get slots (m ∷ ms) (suc k) n f a h i =
    let rest = cited_get slots ms k n f (All-tail (λ n. IsSome (fact_at slots n)) m ms a) h i in
    there (fact_at slots m) f (cited_at slots ms) k (All-head (λ n. IsSome (fact_at slots n)) m ms a) rest

longer : (o : Option Fact) (fs : List Fact) → IsSome o → length (cons_option o fs) ≡ suc (length fs)
longer None fs s = cc
longer (Some x) fs s = refl

pub cited_length : (slots : List (Option Fact)) (ns : List ℕ) → All (λ n. IsSome (fact_at slots n)) ns → length (cited_at slots ns) ≡ length ns
cited_length slots [] a = refl
cited_length slots (m ∷ ms) a =
    longer (fact_at slots m) (cited_at slots ms) (All-head (λ n. IsSome (fact_at slots n)) m ms a) ∙ ap suc (cited_length slots ms (All-tail (λ n. IsSome (fact_at slots n)) m ms a))

-- the facts at live numbers are as all facts that stand are
pub cited_all : (P : Fact → Type 0) (slots : List (Option Fact)) (ns : List ℕ) → ((k : ℕ) (f : Fact) → fact_at slots k ≡ Some f → P f) → All P (cited_at slots ns)
cited_all P slots [] h = All-nil P
cited_all P slots (m ∷ ms) h = elim (fact_at slots m) as (λ o. fact_at slots m ≡ o → All P (cons_option o (cited_at slots ms))) [
  | None ↦ λ e. cited_all P slots ms h
  | Some f ↦ λ e. All-cons P f (cited_at slots ms) (h m f e) (cited_all P slots ms h)
] refl

-- the facts of the first numbers, and that of one more
pub cited_more : (slots : List (Option Fact)) (ks : List ℕ) (i : ℕ) (fs new : List Fact) → i < length ks → fs ≡ cited_at slots (take i ks) → new ≡ fs ++ cited_at slots (get_or ks i 0 ∷ []) → new ≡ cited_at slots (take (i + 1) ks)
cited_more slots ks i fs new within h is =
    is ∙ ap (λ xs. xs ++ cited_at slots (get_or ks i 0 ∷ [])) h ∙ sym (ap (cited_at slots) (take_more ks i 0 within) ∙ filter_map-append (fact_at slots) (take i ks) (get_or ks i 0 ∷ []))

-- a list of one item is that item
pub one_item : {X : Type 0} (xs : List X) (x : X) → length xs ≡ 1 → slice_get xs 0 ≡ Some x → xs ≡ x ∷ []
one_item [] x l e = cc
one_item (y ∷ []) x l e = let is : y ≡ x = same_Some y x e in λ i. is i ∷ []
one_item (y ∷ z ∷ zs) x l e = let no : ⊥ = omega (arith, l) in absurd no
