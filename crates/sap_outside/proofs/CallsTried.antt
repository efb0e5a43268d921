-- Requests tried by hand.
use Rattle.std.proofs.Common.{◌≡◌, ◌≤◌, ◌+◌, ℕ, suc, List, [], ◌∷◌, ◌++◌, length, Option, Some, None, inl, inr, refl, ap, ◌∙◌, lit≤, arith}
use Rattle.std.specs.FinMap as map
use Rattle.std.specs.List.{concat}
use Rattle.std.proofs.lemmas.List.{length-append, length-replicate}
use Rattle.std.proofs.lemmas.List.Elements.{All-nil, All-cons}
use Rattle.sap_outside.specs.Outside.{Files, piece_bytes}
use Rattle.sap_outside.specs.Requests.{Request, begin, next, for_run}
use Rattle.sap_outside.specs.RunPieces.{held_length, may_come, ArePieces, WasRead, WasGivenUp}
use Rattle.sap_outside.proofs.RunFed.{IsSmall, IsSome, concat_more, no_more_pieces}

-- the one piece of no bytes
pub empty : (name : List ℕ) → WasRead None name [] (Some []) (Some (begin name ∷ next piece_bytes ∷ [])) []
empty name = record {
  joined = lit≤ tt;
  pieces = [] ∷ [];
  are = record {
    before = [];
    last = [];
    parted = refl;
    small = All-cons IsSmall [] [] (lit≤ tt) (All-nil IsSmall);
    some = All-nil IsSome;
    within = lit≤ tt;
    ends = inl refl;
  };
  whole = refl;
  asked = refl;
}

-- the two of one byte
pub one_piece : (name : List ℕ) → WasRead None name [] (Some []) (Some (begin name ∷ next piece_bytes ∷ next piece_bytes ∷ [])) (7 ∷ [])
one_piece name = record {
  joined = lit≤ tt;
  pieces = (7 ∷ []) ∷ [] ∷ [];
  are = record {
    before = (7 ∷ []) ∷ [];
    last = [];
    parted = refl;
    small = All-cons IsSmall (7 ∷ []) ([] ∷ []) (lit≤ tt) (All-cons IsSmall [] [] (lit≤ tt) (All-nil IsSmall));
    some = All-cons IsSome (7 ∷ []) [] (λ e. cc) (All-nil IsSome);
    within = lit≤ tt;
    ends = inl refl;
  };
  whole = refl;
  asked = refl;
}

-- how many requests there are
run_requests : (name : List ℕ) (n : ℕ) → length (for_run name n) ≡ suc n
run_requests name n = ap suc (length-replicate n (next piece_bytes))

-- how many pieces there are, and how many bytes
module _ (pieces : List (List ℕ)) (are : ArePieces pieces) where
  count : length pieces ≡ length are.before + 1
  count =
      let same : length pieces ≡ length (are.before ++ are.last ∷ []) = ap (λ (ps : List (List ℕ)). length ps) are.parted in
      let sum = length-append are.before (are.last ∷ []) in
      omega (arith, same, sum)

  bytes : length (concat pieces) ≡ length (concat are.before) + length are.last
  bytes =
      let parts : concat pieces ≡ concat are.before ++ are.last = ap concat are.parted ∙ concat_more are.before are.last in
      ap (λ (z : List ℕ). length z) parts ∙ length-append (concat are.before) are.last

pub no_second : (holds : Option Files) (name : List ℕ)
    → WasRead holds name [] (Some []) (Some (begin name ∷ next piece_bytes ∷ next piece_bytes ∷ [])) [] → ⊥
no_second holds name h =
    let asked : 3 ≡ length (for_run name (length h.pieces)) = ap (λ (made : List Request). length made) h.asked in
    let few = run_requests name (length h.pieces) in
    let same = count h.pieces h.are in
    let some = no_more_pieces h.are.before h.are.some in
    let sum = bytes h.pieces h.are in
    let none : 0 ≡ length (concat h.pieces) = ap (λ (z : List ℕ). length z) h.whole in
    omega (arith, asked, few, same, some, sum, none)

none_of_none : (ps : List (List ℕ)) → length ps ≡ 0 → length (concat ps) ≡ 0
none_of_none [] e = refl
none_of_none (p ∷ ps) e = absurd (omega (arith, e))

pub no_end : (holds : Option Files) (name : List ℕ) → WasRead holds name [] (Some []) (Some (begin name ∷ next piece_bytes ∷ [])) (7 ∷ []) → ⊥
no_end holds name h =
    let asked : 2 ≡ length (for_run name (length h.pieces)) = ap (λ (made : List Request). length made) h.asked in
    let few = run_requests name (length h.pieces) in
    let same = count h.pieces h.are in
    let before : length (concat h.are.before) ≡ 0 = none_of_none h.are.before (omega (arith, asked, few, same)) in
    let sum = bytes h.pieces h.are in
    let one : 1 ≡ length (concat h.pieces) = ap (λ (z : List ℕ). length z) h.whole in
    elim h.are.ends [
      | inl none ↦ let no_last : length h.are.last ≡ 0 = ap (λ (z : List ℕ). length z) none in omega (arith, before, sum, one, no_last)
      | inr many ↦ omega (arith, many, one)
    ]

pub no_other : (holds : Option Files) (name other z : List ℕ) (more : List Request)
    → WasRead holds name [] (Some []) (Some (begin other ∷ more)) z → name ≡ other
no_other holds name other z more h = at (length h.pieces) h.asked where
  at : (n : ℕ) → ◌≡◌ {A = List Request} (begin other ∷ more) (for_run name n) → name ≡ other
  at n e = cc

-- a name that isn't held
pub given_up : (files : Files) (name : List ℕ) (asked : List Request) → map.get files name ≡ None
    → WasGivenUp (Some files) name [] (Some []) (Some asked) → length asked ≤ 2
given_up files name asked none h =
    let no_bytes : held_length (map.get files name) ≡ 0 = ap held_length none in
    let few : h.nexts ≤ may_come (Some files) name + 1 = h.few in
    let count : length asked ≡ length (for_run name h.nexts) = ap (λ (made : List Request). length made) h.asked in
    let requests = run_requests name h.nexts in
    omega (arith, no_bytes, few, count, requests)
