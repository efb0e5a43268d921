-- Things and their data, side by side.
use Rattle.std.proofs.Common.{◌≡◌, ◌<◌, suc, List, [], ◌∷◌, ◌++◌, length, map, refl, sym, ap, ap₂, subst, ◌∙◌, arith}
use Rattle.serde_json.specs.Data.{Data, Items, no_items, item}
use Rattle.serde_json.specs.View.{items_of}
use Rattle.sap_json.specs.Arrays.{AreEach}
use Rattle.sap_json.specs.code.Reading.{list_of}

pub list_back : (ds : List Data) → list_of (items_of ds) ≡ ds
list_back [] = refl
list_back (d ∷ ds) = ap (λ l. d ∷ l) (list_back ds)

pub items_back : (is : Items) → items_of (list_of is) ≡ is
items_back no_items = refl
items_back (item d is) = ap (item d) (items_back is)

pub one_list : (ds es : List Data) → items_of ds ≡ items_of es → ds ≡ es
one_list ds es e = sym (list_back ds) ∙ ap list_of e ∙ list_back es

module _ {A : Type 0} (Is : A → Data → Type 0) where
  pub each_append : (xs : List A) (ds : List Data) (ys : List A) (es : List Data) → AreEach Is xs ds → AreEach Is ys es → AreEach Is (xs ++ ys) (ds ++ es)
  each_append [] [] ys es h k = k
  each_append [] (d ∷ ds) ys es h k = absurd h
  each_append (x ∷ xs) [] ys es h k = absurd h
  each_append (x ∷ xs) (d ∷ ds) ys es h k = (h.0, each_append xs ds ys es h.1 k)

  pub each_length : (xs : List A) (ds : List Data) → AreEach Is xs ds → length xs ≡ length ds
  each_length [] [] h = refl
  each_length [] (d ∷ ds) h = absurd h
  each_length (x ∷ xs) [] h = absurd h
  each_length (x ∷ xs) (d ∷ ds) h = ap suc (each_length xs ds h.1)

  -- what stands in the middle is something's
  pub each_middle : (xs : List A) (good : List Data) (d : Data) (more : List Data) → AreEach Is xs (good ++ d ∷ more) → (x : A) × Is x d
  each_middle [] [] d more h = absurd h
  each_middle (x ∷ xs) [] d more h = (x, h.0)
  each_middle [] (g ∷ good) d more h = absurd h
  each_middle (x ∷ xs) (g ∷ good) d more h = each_middle xs good d more h.1

  -- an item that stands before the place where another list of things ends is something's
  pub each_before : (xs : List A) (front : List Data) (e : Data) (back : List Data) (good : List Data) (d : Data) (more : List Data)
      → front ++ e ∷ back ≡ good ++ d ∷ more → AreEach Is xs front → length good < length front → (x : A) × Is x d
  each_before [] [] e back good d more same h below = absurd (omega (arith, below))
  each_before [] (f ∷ front) e back good d more same h below = absurd h
  each_before (x ∷ xs) [] e back good d more same h below = absurd h
  each_before (x ∷ xs) (f ∷ front) e back [] d more same h below = let is : f ≡ d = cc in (x, subst (Is x) is h.0)
  each_before (x ∷ xs) (f ∷ front) e back (g ∷ good) d more same h below =
      let rest : front ++ e ∷ back ≡ good ++ d ∷ more = cc in each_before xs front e back good d more rest h.1 (omega (arith, below))

  module _ (one : (x y : A) (d : Data) → Is x d → Is y d → x ≡ y) where
    pub one_each : (xs ys : List A) (ds : List Data) → AreEach Is xs ds → AreEach Is ys ds → xs ≡ ys
    one_each [] [] [] h k = refl
    one_each [] (y ∷ ys) [] h k = absurd k
    one_each (x ∷ xs) ys [] h k = absurd h
    one_each [] ys (d ∷ ds) h k = absurd h
    one_each (x ∷ xs) [] (d ∷ ds) h k = absurd k
    one_each (x ∷ xs) (y ∷ ys) (d ∷ ds) h k = ap₂ (λ a l. a ∷ l) (one x y d h.0 k.0) (one_each xs ys ds h.1 k.1)

-- things made of others
module _ {A B : Type 0} (f : A → B) (Is : B → Data → Type 0) where
  pub each_mapped : (xs : List A) (ds : List Data) → AreEach (λ x d. Is (f x) d) xs ds → AreEach Is (map f xs) ds
  each_mapped [] [] h = h
  each_mapped [] (d ∷ ds) h = h
  each_mapped (x ∷ xs) [] h = h
  each_mapped (x ∷ xs) (d ∷ ds) h = (h.0, each_mapped xs ds h.1)

  pub mapped_each : (xs : List A) (ds : List Data) → AreEach Is (map f xs) ds → AreEach (λ x d. Is (f x) d) xs ds
  mapped_each [] [] h = h
  mapped_each [] (d ∷ ds) h = h
  mapped_each (x ∷ xs) [] h = h
  mapped_each (x ∷ xs) (d ∷ ds) h = (h.0, mapped_each xs ds h.1)
