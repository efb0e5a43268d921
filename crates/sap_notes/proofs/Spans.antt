-- Stretches of tokens ascend.
use Rattle.std.proofs.Common.{◌≡◌, ◌≤◌, ◌<◌, ℕ, zero, suc, List, [], ◌∷◌, Option, Some, length, refl, ap, subst, arith}
use Rattle.std.specs.Prelude.{drop, slice_get}
use Rattle.sap_text.specs.Spans.{InOrder}
use Rattle.sap_text.specs.declared.token.Token.{Token}
use Rattle.sap_grammar.specs.Reading.{name_at}
use Rattle.sap_grammar.specs.Words.{words_of}
use Rattle.sap_stretches.specs.Stretches.{stretch_at, stretch_of}

-- a name is one of the tokens
pub named_within : (z : List ℕ) (ts : List Token) (k : ℕ) (x : List ℕ) → name_at (words_of z (drop k ts)) ≡ Some x → k < length ts
named_within z [] zero x e = absurd (cc)
named_within z [] (suc k) x e = absurd (cc)
named_within z (t ∷ ts) zero x e = omega arith
named_within z (t ∷ ts) (suc k) x e = let more = named_within z ts k x e in omega (arith, more)

-- the token at an index
pub token_at : (ts : List Token) (k : ℕ) → k < length ts → (t : Token) × (slice_get ts k ≡ Some t)
token_at [] k lt = absurd (omega (arith, lt))
token_at (t ∷ ts) zero lt = (t, refl)
token_at (t ∷ ts) (suc k) lt = token_at ts k (omega (arith, lt))

-- none begins before this place
not_before : (at end : ℕ) (ts : List Token) (k : ℕ) (t : Token) → InOrder at end ts → slice_get ts k ≡ Some t → at ≤ t.from
not_before at end [] k t o is = absurd (cc)
not_before at end (u ∷ ts) zero t o is =
    let same : u ≡ t = cc in
    subst (λ (v : Token). at ≤ v.from) same o.0
not_before at end (u ∷ ts) (suc k) t o is =
    let first = o.0 in
    let some = o.1 in
    let more = not_before u.to end ts k t o.2 is in
    omega (arith, first, some, more)

earlier : (at end : ℕ) (ts : List Token) (i j : ℕ) (t u : Token) → InOrder at end ts → i < j → slice_get ts i ≡ Some t → slice_get ts j ≡ Some u → t.from < u.from
earlier at end [] i j t u o lt is there = absurd (cc)
earlier at end (v ∷ ts) i zero t u o lt is there = absurd (omega (arith, lt))
earlier at end (v ∷ ts) zero (suc j) t u o lt is there =
    let same : v ≡ t = cc in
    let some = o.1 in
    let more = not_before v.to end ts j u o.2 there in
    subst (λ (w : Token). w.from < u.from) same (omega (arith, some, more))
earlier at end (v ∷ ts) (suc i) (suc j) t u o lt is there = earlier v.to end ts i j t u o.2 (omega (arith, lt)) is there

from_at : (ts : List Token) (k : ℕ) (t : Token) → slice_get ts k ≡ Some t → (stretch_at ts k).from ≡ t.from
from_at ts k t is = ap (λ (o : Option Token). (stretch_of ts o).from) is

pub ascends : (end : ℕ) (ts : List Token) (i j : ℕ) → InOrder 0 end ts → i < j → j < length ts → (stretch_at ts i).from < (stretch_at ts j).from
ascends end ts i j o lt inside =
    let one = token_at ts i (omega (arith, lt, inside)) in
    let two = token_at ts j inside in
    let order = earlier 0 end ts i j one.0 two.0 o lt one.1 two.1 in
    let first = from_at ts i one.0 one.1 in
    let second = from_at ts j two.0 two.1 in
    omega (arith, order, first, second)
