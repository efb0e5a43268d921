-- Lists that are alike.
use Rattle.std.proofs.Common.{◌≡◌, ℕ, ◌<◌, Bool, true, false, cond, List, [], ◌∷◌, ◌++◌, ◌⊎◌, inl, inr, refl, sym, ap, subst, ◌∙◌, arith}
use Rattle.std.specs.Prelude.{Contains}
use Rattle.std.specs.List.{sum_by}
use Rattle.std.proofs.lemmas.List.Elements.{Contains-append_right}
use Rattle.std.proofs.lemmas.List.Sums.{sum_by-cons, sum_by-append}
use Rattle.sap_terms.specs.declared.fact.Fact.{Fact}
use Rattle.sap_attacks.specs.Alike.{AreAlike}
use Rattle.sap_attacks.specs.Settling.{Use}
use Rattle.sap_attacks.proofs.SameFacts.{is_fact, is_fact-self, is_fact-sound, is_use, is_use-self, is_use-sound}
use Rattle.sap_terms.proofs.PlainLaws.Items.{none_contained, cons_cases, first_item}

module _ {A : Type 0} where
  pub alike-refl : (xs : List A) → AreAlike xs xs
  alike-refl xs w = refl

  pub alike-sym : (xs ys : List A) → AreAlike xs ys → AreAlike ys xs
  alike-sym xs ys a w = sym (a w)

  pub alike-trans : (xs ys zs : List A) → AreAlike xs ys → AreAlike ys zs → AreAlike xs zs
  alike-trans xs ys zs a b w = a w ∙ b w

  pub alike-same : (xs ys : List A) → xs ≡ ys → AreAlike xs ys
  alike-same xs ys e w = ap (sum_by w) e

  pub alike-cons : (x : A) (xs ys : List A) → AreAlike xs ys → AreAlike (x ∷ xs) (x ∷ ys)
  alike-cons x xs ys a w = omega (arith, a w, sum_by-cons w x xs, sum_by-cons w x ys)

  pub alike-append : (xs ys us vs : List A) → AreAlike xs ys → AreAlike us vs → AreAlike (xs ++ us) (ys ++ vs)
  alike-append xs ys us vs a b w = omega (arith, a w, b w, sum_by-append w xs us, sum_by-append w ys vs)

  -- what is alike is so without a first element that both have
  pub alike-uncons : (x : A) (xs ys : List A) → AreAlike (x ∷ xs) (x ∷ ys) → AreAlike xs ys
  alike-uncons x xs ys a w = omega (arith, a w, sum_by-cons w x xs, sum_by-cons w x ys)

  pub alike-unfront : (zs xs ys : List A) → AreAlike (zs ++ xs) (zs ++ ys) → AreAlike xs ys
  alike-unfront zs xs ys a w = omega (arith, a w, sum_by-append w zs xs, sum_by-append w zs ys)

  -- nothing is alike to nothing alone
  pub alike-none : (ys : List A) → AreAlike [] ys → ys ≡ []
  alike-none [] a = refl
  alike-none (y ∷ ys) a = absurd (let e = a (λ z. 1) in omega (arith, e, sum_by-cons (λ z. 1) y ys))

  -- an element between others is one in front of them
  pub alike-middle : (x : A) (xs ys : List A) → AreAlike (x ∷ (xs ++ ys)) (xs ++ x ∷ ys)
  alike-middle x xs ys w = omega (arith, sum_by-cons w x (xs ++ ys), sum_by-append w xs ys, sum_by-append w xs (x ∷ ys), sum_by-cons w x ys)

-- a list is this element between others, which are alike to these
pub record Cut {A : Type 0} (x : A) (xs ys : List A) : Type 0 where
  pub before : List A
  pub behind : List A
  pub is : ys ≡ before ++ x ∷ behind
  pub others : AreAlike xs (before ++ behind)

-- where an element stands
pub record Stands {A : Type 0} (x : A) (ys : List A) : Type 0 where
  pub before : List A
  pub behind : List A
  pub is : ys ≡ before ++ x ∷ behind

-- an element that a list has stands somewhere
pub standing : {A : Type 0} (xs : List A) (x : A) → Contains xs x → Stands x xs
standing [] x c = absurd (none_contained c)
standing (y ∷ ys) x c = go (cons_cases y ys x c) (standing ys x) where
  go : (y ≡ x) ⊎ Contains ys x → (Contains ys x → Stands x ys) → Stands x (y ∷ ys)
  go (inl e) more = record { before = []; behind = ys; is = ap (λ z. z ∷ ys) e }
  go (inr c) more = let s = more c in record { before = y ∷ s.before; behind = s.behind; is = ap (λ zs. y ∷ zs) s.is }

pub stands_in : {A : Type 0} (before behind : List A) (x : A) → Contains (before ++ x ∷ behind) x
stands_in before behind x = Contains-append_right before (x ∷ behind) x (first_item x behind)

-- elements that a test tells apart
module _ {A : Type 0} (same : A → A → Bool) (self : (x : A) → same x x ≡ true) (sound : (x y : A) → same x y ≡ true → x ≡ y) where
  abbrev weight : A → A → ℕ
  weight x f = cond (same x f) 1 0

  find : (x : A) (ys : List A) → 0 < sum_by (weight x) ys → Stands x ys
  find x [] l = absurd (omega (arith, l))
  find x (y ∷ ys) l = go (same x y) refl (find x ys) where
    go : (b : Bool) → same x y ≡ b → (0 < sum_by (weight x) ys → Stands x ys) → Stands x (y ∷ ys)
    go true e more = record { before = []; behind = ys; is = ap (λ f. f ∷ ys) (sym (sound x y e)) }
    go false e more =
        let v : Bool → ℕ = λ b. cond b 1 0 in
        let none : v (same x y) ≡ v false = ap v e in
        let s = more (let c = sum_by-cons (weight x) y ys in omega (arith, l, none, c)) in
        record { before = y ∷ s.before; behind = s.behind; is = ap (λ fs. y ∷ fs) s.is }

  -- what is alike to a list has its first element, and the others
  pub take_out : (x : A) (xs ys : List A) → AreAlike (x ∷ xs) ys → Cut x xs ys
  take_out x xs ys a =
      let v : Bool → ℕ = λ b. cond b 1 0 in
      let one : v (same x x) ≡ v true = ap v (self x) in
      let c = sum_by-cons (weight x) x xs in
      let s = find x ys (let t = a (weight x) in omega (arith, t, c, one)) in
      record {
        before = s.before;
        behind = s.behind;
        is = s.is;
        others = alike-uncons x xs (s.before ++ s.behind)
            (λ w. a w ∙ ap (sum_by w) s.is ∙ sym (alike-middle x s.before s.behind w));
      }

  -- and each of its elements
  pub alike_has : (xs ys : List A) (x : A) → AreAlike xs ys → Contains xs x → Contains ys x
  alike_has xs ys x a c =
      let s = standing xs x c in
      let t = take_out x (s.before ++ s.behind) ys (λ w. alike-middle x s.before s.behind w ∙ sym (ap (sum_by w) s.is) ∙ a w) in
      subst (λ zs. Contains zs x) (sym t.is) (stands_in t.before t.behind x)

pub fact_out : (x : Fact) (xs ys : List Fact) → AreAlike (x ∷ xs) ys → Cut x xs ys
fact_out = take_out is_fact is_fact-self is_fact-sound

pub facts_have : (xs ys : List Fact) (x : Fact) → AreAlike xs ys → Contains xs x → Contains ys x
facts_have = alike_has is_fact is_fact-self is_fact-sound

pub uses_have : (xs ys : List Use) (x : Use) → AreAlike xs ys → Contains xs x → Contains ys x
uses_have = alike_has is_use is_use-self is_use-sound
