-- Pieces of text, and one more of them.
use Rattle.std.proofs.Common.{◌≡◌, ◌+◌, ℕ, zero, suc, List, [], ◌∷◌, ◌++◌, length, take, drop, map, Some, refl, sym, ap, ◌∙◌, append_assoc, add-one}
use Rattle.std.specs.Prelude.{slice_get, option_map}
use Rattle.std.specs.List.{flat_map}
use Rattle.std.proofs.lemmas.List.{take-map}
use Rattle.std.proofs.lemmas.Option.{slice_get-map}
use Rattle.sap_grammar.specs.Pieces.{joined, separator_before}

-- one more item
pub take-next : {A : Type 0} (xs : List A) (k : ℕ) (x : A) → slice_get xs k ≡ Some x → take (k + 1) xs ≡ take k xs ++ x ∷ []
take-next [] k x h = cc
take-next (y ∷ ys) zero x h = let e : y ≡ x = cc in ap (λ z. z ∷ []) e
take-next (y ∷ ys) (suc k) x h =
    let more = rw (add-one k) at (take-next ys k x h) in
    rw (add-one (suc k)) (ap (λ zs. y ∷ zs) more)

length-take_next : {A : Type 0} (xs : List A) (k : ℕ) (x : A) → slice_get xs k ≡ Some x → length (take k xs) ≡ k
length-take_next [] k x h = cc
length-take_next (y ∷ ys) zero x h = refl
length-take_next (y ∷ ys) (suc k) x h = ap suc (length-take_next ys k x h)

-- one more piece
pub joined-push : (separator piece : List ℕ) (pieces : List (List ℕ))
    → joined separator (pieces ++ piece ∷ []) ≡ (joined separator pieces ++ separator_before (length pieces) separator) ++ piece
joined-push separator piece [] = refl
joined-push separator piece (x ∷ []) = sym (append_assoc x separator piece)
joined-push separator piece (x ∷ y ∷ ys) =
    let rest = joined separator (y ∷ ys) in
    ap (λ z. x ++ (separator ++ z)) (joined-push separator piece (y ∷ ys))
    ∙ (ap (λ z. x ++ z) (sym (append_assoc separator (rest ++ separator) piece) ∙ ap (λ z. z ++ piece) (sym (append_assoc separator rest separator)))
    ∙ (sym (append_assoc x ((separator ++ rest) ++ separator) piece) ∙ ap (λ z. z ++ piece) (sym (append_assoc x (separator ++ rest) separator))))

-- the first pieces behind a text, and then a separator and one more
pub joined-next : (separator text : List ℕ) (pieces : List (List ℕ)) (k : ℕ) (piece : List ℕ) → slice_get pieces k ≡ Some piece
    → ((text ++ joined separator (take k pieces)) ++ separator_before k separator) ++ piece ≡ text ++ joined separator (take (k + 1) pieces)
joined-next separator text pieces k piece h =
    let done = joined separator (take k pieces) in
    rw (take-next pieces k piece h, joined-push separator piece (take k pieces), length-take_next pieces k piece h) (rw (append_assoc text done (separator_before k separator), append_assoc text (done ++ separator_before k separator) piece) refl)

-- the same of the texts of items
pub joined_texts-next : {A : Type 0} (f : A → List ℕ) (separator text : List ℕ) (xs : List A) (k : ℕ) (x : A) → slice_get xs k ≡ Some x
    → ((text ++ joined separator (map f (take k xs))) ++ separator_before k separator) ++ f x ≡ text ++ joined separator (map f (take (k + 1) xs))
joined_texts-next f separator text xs k x h =
    let got = slice_get-map f xs k ∙ ap (option_map f) h in
    ap (λ ps. ((text ++ joined separator ps) ++ separator_before k separator) ++ f x) (sym (take-map f k xs))
    ∙ (joined-next separator text (map f xs) k (f x) got ∙ ap (λ ps. text ++ joined separator ps) (take-map f (k + 1) xs))

-- the text of one more item, before the texts of those behind it
pub flat_map-next : {A : Type 0} (f : A → List ℕ) (text : List ℕ) (xs : List A) (k : ℕ) (x : A) → slice_get xs k ≡ Some x
    → (text ++ f x) ++ flat_map f (drop (k + 1) xs) ≡ text ++ flat_map f (drop k xs)
flat_map-next f text [] k x h = cc
flat_map-next f text (y ∷ ys) zero x h =
    let e : y ≡ x = cc in append_assoc text (f x) (flat_map f ys) ∙ ap (λ z. text ++ (f z ++ flat_map f ys)) (sym e)
flat_map-next f text (y ∷ ys) (suc k) x h = let more = rw (add-one k) at (flat_map-next f text ys k x h) in rw (add-one (suc k)) more
