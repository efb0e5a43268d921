-- The tokens' spans are in order.
use Rattle.std.proofs.Common.{◌≡◌, ◌≤◌, ◌<◌, ◌+◌, ℕ, zero, suc, List, [], ◌∷◌, ◌++◌, length, refl, sym, ap, ◌∙◌, subst, arith}
use Rattle.std.specs.Prelude.{Result, Ok, Err, Some, slice_get, IfOk, ⊤, Vec, slice_index_or}
use Rattle.std.specs.declared.alloc.Global.{Global}
use Rattle.sap_text.specs.declared.fault.Lex.{Lex}
use Rattle.sap_text.specs.Told.{Told}
use Rattle.std.specs.List.{All}
use Rattle.std.proofs.lemmas.Grind.{common_steps}
use Rattle.sap_text.specs.declared.token.Token.{Token}
use Rattle.sap_text.specs.Tokens.{Lexed, before, IsLexed, ended, skipped, taken, long, failed}
use Rattle.sap_text.specs.Spans.{InOrder, AreTokens, IsWithin, text_of}
use Rattle.sap_text.proofs.Classes.{token_some}

-- the spans of an answer are in order
abbrev pub AreInOrder : ℕ → ℕ → Lexed → Type 0
AreInOrder at end (Ok ts) = InOrder at end ts
AreInOrder at end (Err f) = ⊤

size : (p b : List ℕ) → length (p ++ b) ≡ length p + length b
size p b = grind (arith, common_steps)

earlier : (at up end : ℕ) (o : Lexed) → at ≤ up → AreInOrder up end o → AreInOrder at end o
earlier at up end (Ok []) le h = omega (arith, le, h)
earlier at up end (Ok (t ∷ ts)) le h = (omega (arith, le, h.0), h.1, h.2)
earlier at up end (Err f) le h = tt

later_end : (at end last : ℕ) (o : Lexed) → end ≡ last → AreInOrder at end o → AreInOrder at last o
later_end at end last o e h = rw (← e) h

with_token : (at end : ℕ) (t : Token) (o : Lexed) → at ≤ t.from → t.from < t.to → AreInOrder t.to end o → AreInOrder at end (before t o)
with_token at end t (Ok ts) le lt h = (le, lt, h)
with_token at end t (Err f) le lt h = tt

pub in_order : {m at line : ℕ} {z : List ℕ} {o : Lexed} → IsLexed m at line z o → AreInOrder at (at + length z) o
in_order ended = omega arith
in_order {at = at} (skipped {p = p} {b = b} {o = o} s r) =
    let n = size p b in
    let e : (at + length p) + length b ≡ at + length (p ++ b) = omega (arith, n) in
    earlier at (at + length p) (at + length (p ++ b)) o (omega arith) (later_end (at + length p) ((at + length p) + length b) (at + length (p ++ b)) o e (in_order r))
in_order {at = at} {line = line} (taken {k = k} {p = p} {b = b} {o = o} s le r) =
    let n = size p b in
    let e : (at + length p) + length b ≡ at + length (p ++ b) = omega (arith, n) in
    let some = token_some s.is in
    with_token at (at + length (p ++ b)) (record { kind = k; from = at; to = at + length p; line = line }) o (omega arith) (omega (arith, some))
    (later_end (at + length p) ((at + length p) + length b) (at + length (p ++ b)) o e (in_order r))
in_order (long s lt) = tt
in_order (failed f) = tt

within : (at end : ℕ) (ts : List Token) (k : ℕ) (t : Token) → InOrder at end ts → slice_get ts k ≡ Some t → (t.from < t.to) × (t.to ≤ end)
within at end [] k t h e = absurd (cc)
within at end (u ∷ ts) zero t h e =
    let same : u ≡ t = cc in
    let low : u.from < u.to = h.1 in
    let high : u.to ≤ end = last u.to end ts h.2 in
    subst (λ (x : Token). (x.from < x.to) × (x.to ≤ end)) same (omega (arith, low), high)
  where
    last : (at end : ℕ) (ts : List Token) → InOrder at end ts → at ≤ end
    last at end [] h = h
    last at end (t ∷ ts) h = omega (arith, h.0, h.1, last t.to end ts h.2)
within at end (u ∷ ts) (suc k) t h e = within u.to end ts k t h.2 e

pub spans_within : (z : List ℕ) (ts : List Token) (k : ℕ) (t : Token) → AreTokens z ts → slice_get ts k ≡ Some t → (t.from < t.to) × (t.to ≤ length z)
spans_within z ts k t are e =
    let h : InOrder 0 (0 + length z) ts = in_order are.1 in
    let both = within 0 (0 + length z) ts k t h e in
    (both.0, omega (arith, both.1))

pub tokens_in_order : (z : List ℕ) (ts : List Token) → AreTokens z ts → InOrder 0 (length z) ts
tokens_in_order z ts are = later_end 0 (0 + length z) (length z) (Ok ts) (omega arith) (in_order are.1)

-- the token at this place
pub token_at : (ts : List Token) (k : ℕ) (d : Token) → k < length ts → slice_get ts k ≡ Some (slice_index_or ts k d)
token_at [] k d lt = absurd (omega (arith, lt))
token_at (u ∷ ts) zero d lt = refl
token_at (u ∷ ts) (suc k) d lt = token_at ts k d (omega (arith, lt))

pub tokens_within : (z : List ℕ) (ts : List Token) → AreTokens z ts → All (IsWithin (length z)) ts
tokens_within z ts are k d lt = spans_within z ts k (slice_index_or ts k d) are (token_at ts k d lt)

pub order_at : (z : List ℕ) (ts : List Token) (k : ℕ) (d : Token) → AreTokens z ts → k < length ts → (slice_index_or ts k d).from ≤ (slice_index_or ts k d).to
order_at z ts k d are lt = omega (arith, (tokens_within z ts are k d lt).0)

pub inside_at : (z : List ℕ) (ts : List Token) (k : ℕ) (d : Token) → AreTokens z ts → k < length ts → (slice_index_or ts k d).to ≤ length z
inside_at z ts k d are lt = (tokens_within z ts are k d lt).1

pub text_at : (z : List ℕ) (ts : List Token) (k : ℕ) (d t : Token) → k < length ts → slice_get ts k ≡ Some t → text_of z (slice_index_or ts k d) ≡ text_of z t
text_at z ts k d t lt e = let same : slice_index_or ts k d ≡ t = some_same (sym (token_at ts k d lt) ∙ e) in ap (text_of z) same
  where
    some_same : {x y : Token} → Some x ≡ Some y → x ≡ y
    some_same f = cc

pub answer_within : (most : ℕ) (z : List ℕ) (r : Result (Vec Token Global) Lex) → Told most z r → IfOk r (λ v. All (IsWithin (length z)) v.items)
answer_within most z (Ok v) told = tokens_within z v.items (most, told)
answer_within most z (Err f) told = tt

pub answer_in_order : (most : ℕ) (z : List ℕ) (r : Result (Vec Token Global) Lex) → Told most z r → IfOk r (λ v. InOrder 0 (length z) v.items)
answer_in_order most z (Ok v) told = tokens_in_order z v.items (most, told)
answer_in_order most z (Err f) told = tt
