-- Lines of pieces, as far as they are written.
use Rattle.std.proofs.Common.{◌≡◌, ◌+◌, ℕ, Bool, true, false, not, List, [], ◌∷◌, ◌++◌, take, map, Some, refl, sym, ap, ◌∙◌, append_assoc}
use Rattle.std.specs.Prelude.{slice_get, codes, filter, if◌then◌else◌, ◌&&◌}
use Rattle.std.proofs.lemmas.List.{map-append, append-nil}
use Rattle.std.proofs.lemmas.List.Elements.{filter-append}
use Rattle.sap_grammar.specs.Pieces.{joined}
use Rattle.sap_theory.specs.Pieces.{line_of, lead}
use Rattle.sap_grammar.proofs.ReadingLaws.Pushed.{joined-push, take-next}

-- a line without its end
abbrev pub begun : List ℕ → List (List ℕ) → List ℕ
begun heading [] = []
begun heading (piece ∷ pieces) = heading ++ joined (codes ", ") (piece ∷ pieces)

abbrev pub is_nil : {A : Type 0} → List A → Bool
is_nil [] = true
is_nil (x ∷ xs) = false

-- behind what stood before, the text has these pieces of the line; is_first says that there is none
pub record IsBegun (heading before : List ℕ) (pieces : List (List ℕ)) (text : List ℕ) (is_first : Bool) : Type 0 where
  pub so_far : text ≡ before ++ begun heading pieces
  pub none : is_first ≡ is_nil pieces

-- the end of a line makes it whole
begun-ended : (heading : List ℕ) (pieces : List (List ℕ)) → begun heading pieces ++ (if is_nil pieces then [] else codes "\n") ≡ line_of heading pieces
begun-ended heading [] = refl
begun-ended heading (piece ∷ pieces) = append_assoc heading (joined (codes ", ") (piece ∷ pieces)) (codes "\n")

pub line_ended : (heading before : List ℕ) (pieces : List (List ℕ)) (text : List ℕ) (is_first : Bool) → IsBegun heading before pieces text is_first
    → text ++ (if is_first then [] else codes "\n") ≡ before ++ line_of heading pieces
line_ended heading before pieces text is_first h =
    (λ i. h.so_far i ++ (if h.none i then [] else codes "\n"))
    ∙ (append_assoc before (begun heading pieces) (if is_nil pieces then [] else codes "\n") ∙ ap (λ z. before ++ z) (begun-ended heading pieces))

-- one more piece
begun-push : (heading piece : List ℕ) (pieces : List (List ℕ))
    → begun heading (pieces ++ piece ∷ []) ≡ (begun heading pieces ++ lead (is_nil pieces) heading) ++ piece
begun-push heading piece [] = refl
begun-push heading piece (x ∷ xs) =
    let comma = codes ", " in
    let done = joined comma (x ∷ xs) in
    ap (λ z. heading ++ z) (joined-push comma piece (x ∷ xs))
    ∙ (sym (append_assoc heading (done ++ comma) piece) ∙ ap (λ z. z ++ piece) (sym (append_assoc heading done comma)))

begun-push-after : (heading before piece : List ℕ) (pieces : List (List ℕ))
    → ((before ++ begun heading pieces) ++ lead (is_nil pieces) heading) ++ piece ≡ before ++ begun heading (pieces ++ piece ∷ [])
begun-push-after heading before piece pieces =
    let done = begun heading pieces in
    let next = lead (is_nil pieces) heading in
    ap (λ z. z ++ piece) (append_assoc before done next)
    ∙ (append_assoc before (done ++ next) piece ∙ ap (λ z. before ++ z) (sym (begun-push heading piece pieces)))

is_nil-push : {A : Type 0} (xs : List A) (x : A) → is_nil (xs ++ x ∷ []) ≡ false
is_nil-push [] x = refl
is_nil-push (y ∷ ys) x = refl

-- the texts of those of the first items that pass
abbrev pub passed : {A : Type 0} → (A → Bool) → (A → List ℕ) → List A → ℕ → List (List ℕ)
passed p f xs k = map f (filter p (take k xs))

-- with one more item, that passes
passed-kept : {A : Type 0} (p : A → Bool) (f : A → List ℕ) (xs : List A) (k : ℕ) (x : A) → slice_get xs k ≡ Some x → p x ≡ true
    → passed p f xs (k + 1) ≡ passed p f xs k ++ f x ∷ []
passed-kept p f xs k x h e =
    rw (take-next xs k x h, filter-append p (take k xs) (x ∷ []), e) (map-append f (filter p (take k xs)) (x ∷ []))

-- with one more, that doesn't
passed-left : {A : Type 0} (p : A → Bool) (f : A → List ℕ) (xs : List A) (k : ℕ) (x : A) → slice_get xs k ≡ Some x → p x ≡ false
    → passed p f xs (k + 1) ≡ passed p f xs k
passed-left p f xs k x h e =
    rw (take-next xs k x h, filter-append p (take k xs) (x ∷ []), e, append-nil (filter p (take k xs))) refl

-- the line goes on by an item that passes
further-kept : {A : Type 0} (heading before : List ℕ) (p : A → Bool) (f : A → List ℕ) (xs : List A) (k : ℕ) (x : A) (text : List ℕ) (is_first : Bool)
    → slice_get xs k ≡ Some x → p x ≡ true → IsBegun heading before (passed p f xs k) text is_first
    → IsBegun heading before (passed p f xs (k + 1)) ((text ++ lead is_first heading) ++ f x) false
further-kept heading before p f xs k x text is_first got e h =
    let more = passed-kept p f xs k x got e in
    record {
      so_far = (λ i. (h.so_far i ++ lead (h.none i) heading) ++ f x) ∙ (begun-push-after heading before (f x) (passed p f xs k) ∙ ap (λ z. before ++ begun heading z) (sym more));
      none = sym (ap is_nil more ∙ is_nil-push (passed p f xs k) (f x));
    }

further-left : {A : Type 0} (heading before : List ℕ) (p : A → Bool) (f : A → List ℕ) (xs : List A) (k : ℕ) (x : A) (text : List ℕ) (is_first : Bool)
    → slice_get xs k ≡ Some x → p x ≡ false → IsBegun heading before (passed p f xs k) text is_first
    → IsBegun heading before (passed p f xs (k + 1)) text is_first
further-left heading before p f xs k x text is_first got e h =
    let same = passed-left p f xs k x got e in
    record {
      so_far = h.so_far ∙ ap (λ z. before ++ begun heading z) (sym same);
      none = h.none ∙ ap is_nil (sym same);
    }

-- by any item
further-by : {A : Type 0} (heading before : List ℕ) (p : A → Bool) (f : A → List ℕ) (xs : List A) (k : ℕ) (x : A) (text : List ℕ) (is_first passes : Bool)
    → slice_get xs k ≡ Some x → p x ≡ passes → IsBegun heading before (passed p f xs k) text is_first
    → IsBegun heading before (passed p f xs (k + 1)) (if passes then (text ++ lead is_first heading) ++ f x else text) (not passes && is_first)
further-by heading before p f xs k x text is_first true got e h = further-kept heading before p f xs k x text is_first got e h
further-by heading before p f xs k x text is_first false got e h = further-left heading before p f xs k x text is_first got e h

pub further : {A : Type 0} (heading before : List ℕ) (p : A → Bool) (f : A → List ℕ) (xs : List A) (k : ℕ) (x : A) (text : List ℕ) (is_first : Bool) (new : List ℕ) (next : Bool)
    → slice_get xs k ≡ Some x → IsBegun heading before (passed p f xs k) text is_first
    → new ≡ (if p x then (text ++ lead is_first heading) ++ f x else text) → next ≡ (not (p x) && is_first)
    → IsBegun heading before (passed p f xs (k + 1)) new next
further heading before p f xs k x text is_first new next got h e n =
    let more = further-by heading before p f xs k x text is_first (p x) got refl h in
    record { so_far = e ∙ more.so_far; none = n ∙ more.none }
