-- Where the last of some tokens ends.
use Rattle.std.proofs.Common.{◌≡◌, ◌≤◌, ◌-◌, ℕ, suc, List, [], ◌∷◌, length, refl, ap, subst, arith, Some, None}
use Rattle.std.specs.Prelude.{slice_get}
use Rattle.std.specs.List.{All}
use Rattle.sap_text.specs.Spans.{IsWithin}
use Rattle.sap_text.specs.declared.token.Token.{Token}
use Rattle.sap_stretches.specs.Stretches.{end_of}

pub last_is : (ts : List Token) (t : Token) → Some t ≡ slice_get ts (length ts - 1) → t.to ≡ end_of ts
last_is [] t e = cc
last_is (u ∷ []) t e = let same : t ≡ u = cc in ap (λ (q : Token). q.to) same
last_is (u ∷ v ∷ ts) t e =
    let n : length (u ∷ v ∷ ts) - 1 ≡ suc (length (v ∷ ts) - 1) = omega arith in
    last_is (v ∷ ts) t (subst (λ k. Some t ≡ slice_get (u ∷ v ∷ ts) k) n e)

pub no_last : (ts : List Token) → None ≡ slice_get ts (length ts - 1) → 0 ≡ end_of ts
no_last [] e = refl
no_last (u ∷ []) e = cc
no_last (u ∷ v ∷ ts) e =
    let n : length (u ∷ v ∷ ts) - 1 ≡ suc (length (v ∷ ts) - 1) = omega arith in
    no_last (v ∷ ts) (subst (λ k. None ≡ slice_get (u ∷ v ∷ ts) k) n e)

pub ruleset last_ends = (last_is, no_last)

behind : (size : ℕ) (t : Token) (ts : List Token) → All (IsWithin size) (t ∷ ts) → All (IsWithin size) ts
behind size t ts all k d lt = all (suc k) d (omega (arith, lt))

pub end_within : (size : ℕ) (ts : List Token) → All (IsWithin size) ts → end_of ts ≤ size
end_within size [] all = omega arith
end_within size (t ∷ []) all = (all 0 t (omega arith)).1
end_within size (t ∷ u ∷ ts) all = end_within size (u ∷ ts) (behind size t (u ∷ ts) all)
