-- One text is what is shown of a stretch.
use Rattle.std.proofs.Common.{◌≡◌, ◌<◌, ◌+◌, ◌-◌, ℕ, zero, suc, List, [], ◌∷◌, ◌++◌, sym, ap, ◌∙◌, arith}
use Rattle.std.specs.Prelude.{codes, decimal}
use Rattle.sap_terms.proofs.PlainLaws.Numbers.{same_number}
use Rattle.sap_stretches.specs.declared.position.Position.{Position}
use Rattle.sap_stretches.specs.declared.stretch.Stretch.{Stretch}
use Rattle.sap_stretches.specs.Positions.{IsPlaceText, IsPosition, LineBegins, LineEnds, picture, shown_from, shown_to}

-- a line can't begin twice
not_later : (z : List ℕ) (at m n : ℕ) → LineBegins z at m → LineBegins z at n → m < n → ⊥
not_later z at m zero a b lt = absurd (omega (arith, lt))
not_later z at m (suc n) a b lt =
    let le = b.order in
    a.no_feed n (omega (arith, lt)) (omega (arith, le)) (b.begins n (omega arith))

pub one_begin : (z : List ℕ) (at m n : ℕ) → LineBegins z at m → LineBegins z at n → m ≡ n
one_begin z at m n a b = same_number m n (not_later z at m n a b) (not_later z at n m b a)

-- nor end twice
not_further : (z : List ℕ) (at m n : ℕ) → LineEnds z at m → LineEnds z at n → m < n → ⊥
not_further z at m n a b lt =
    let low = a.order in
    let most = b.inside in
    b.no_feed m low lt (a.ends (omega (arith, lt, most)))

pub one_end : (z : List ℕ) (at m n : ℕ) → LineEnds z at m → LineEnds z at n → m ≡ n
one_end z at m n a b = same_number m n (not_further z at m n a b) (not_further z at n m b a)

same_position : (p q : Position) → p.line ≡ q.line → p.column ≡ q.column → p ≡ q
same_position p q e f = λ i. record { line = e i; column = f i }

pub one_position : (z : List ℕ) (at : ℕ) (p q : Position) → IsPosition z at p → IsPosition z at q → p ≡ q
one_position z at p q a b =
    let same = one_begin z at a.from b.from a.begins b.begins in
    same_position p q (a.line ∙ sym b.line) (a.column ∙ (ap (λ (k : ℕ). (at - k) + 1) same ∙ sym b.column))

-- the text of a position and a line
abbrev pub told : List ℕ → Stretch → Position → ℕ → ℕ → List ℕ
told z s p from to = codes "line " ++ decimal p.line ++ codes ", column " ++ decimal p.column ++ (10 ∷ [])
    ++ picture z s (shown_from from to s.from) (shown_to from to s.from)

pub one_place_text_is : (z : List ℕ) (s : Stretch) (t u : List ℕ) → IsPlaceText z s t → IsPlaceText z s u → t ≡ u
one_place_text_is z s t u a b =
    let p = one_position z s.from a.position b.position a.is_position b.is_position in
    let m = one_begin z s.from a.from b.from a.begins b.begins in
    let n = one_end z s.from a.to b.to a.ends b.ends in
    a.text ∙ ((λ i. told z s (p i) (m i) (n i)) ∙ sym b.text)
