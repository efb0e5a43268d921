-- A text is put piece by piece.
use Rattle.std.proofs.Common.{◌≡◌, ◌<◌, ◌≤◌, ◌+◌, ◌-◌, ◌*◌, ℕ, zero, suc, min, List, [], ◌∷◌, ◌++◌, length, take, drop, Option, Result, Ok, Err, OnErr, refl, sym, ap, subst, ◌∙◌, arith, lit<}
use Rattle.std.specs.Int.{div_ceil}
use Rattle.std.specs.Io.KnownBytes.{Appends}
use Rattle.std.proofs.KnownBytes.{Appends-nil, Appends-trans}
use Rattle.std.proofs.lemmas.Grind.{div_ceil_times}
use Rattle.std.proofs.lemmas.List.{take-append-drop, take-take, drop-take, take_all}
use Rattle.sap_outside.specs.Outside.{piece_bytes, one_more, more}
use Rattle.sap_outside.specs.Stream.{Stream}
use Rattle.sap_outside.specs.Pieces.{pieces, GainedPart}
use Rattle.sap_outside.specs.code.PutUpTo.{IsPutUpTo}

-- first bytes and then some more
take_more : (n m : ℕ) (xs : List ℕ) → take n xs ++ take m (drop n xs) ≡ take (n + m) xs
take_more n m xs =
    let first : take n (take (n + m) xs) ≡ take n xs = take-take n (n + m) xs (omega arith) in
    let next : drop n (take (n + m) xs) ≡ take m (drop n xs) = drop-take n m xs in
    (λ i. sym first i ++ sym next i) ∙ take-append-drop n (take (n + m) xs)

-- first bytes of first bytes
pub take_twice : (n k : ℕ) (xs : List ℕ) → ((m : ℕ) × (m ≤ k) × (take n (take k xs) ≡ take m xs))
take_twice zero k xs = (0, omega arith, refl)
take_twice (suc n) zero xs = (0, omega arith, refl)
take_twice (suc n) (suc k) [] = (0, omega arith, refl)
take_twice (suc n) (suc k) (x ∷ xs) = let r = take_twice n k xs in (suc r.0, omega (arith, r.1), ap (λ y. x ∷ y) r.2)

-- how many pieces a text has, by its bounds
count_is : (n puts : ℕ) → n ≤ puts * piece_bytes → puts * piece_bytes < n + piece_bytes → puts ≡ div_ceil n piece_bytes
count_is n puts above below = at (div_ceil n piece_bytes) (div_ceil_times n piece_bytes (lit< tt)) where
  at : (q : ℕ) → (n ≤ q * piece_bytes) × (q * piece_bytes < n + piece_bytes) → puts ≡ q
  at q b = omega (arith, b.0, b.1, above, below)

-- nothing was put yet
pub put_nothing : (told : Option (List ℕ)) (asked : Option ℕ) (text : List ℕ) → IsPutUpTo told told asked asked text 0
put_nothing told asked text = record {
  puts = 0;
  within = omega arith;
  above = omega arith;
  below = omega arith;
  whole = λ _. refl;
  gained = Appends-nil told;
  asked = refl;
}

module _ (before now : Option (List ℕ)) (asked_before asked_now : Option ℕ) (text : List ℕ) (at : ℕ) (put : IsPutUpTo before now asked_before asked_now text at) where
  -- one more piece was put
  pub put_more : (after : Option (List ℕ)) (asked_after : Option ℕ) (end : ℕ) → at < length text → end ≡ min (length text) (at + piece_bytes)
      → Appends now after (take (end - at) (drop at text)) → asked_after ≡ one_more asked_now
      → IsPutUpTo before after asked_before asked_after text end
  put_more after asked_after end more_left is appends asked =
      let full : at ≡ put.puts * piece_bytes = put.whole more_left in
      let behind : at + (end - at) ≡ end = omega arith in
      record {
        puts = suc put.puts;
        within = omega arith;
        above = omega arith;
        below = omega arith;
        whole = λ more. omega arith;
        gained =
            subst (λ (y : List ℕ). Appends before after y) (take_more at (end - at) text ∙ ap (λ k. take k text) behind)
            (Appends-trans before now after (take at text) (take (end - at) (drop at text)) put.gained appends);
        asked = asked ∙ ap one_more put.asked;
      }

-- the whole text was put
pub put_whole : (before after : Option (List ℕ)) (asked_before asked_after : Option ℕ) (text : List ℕ) (at : ℕ)
    → IsPutUpTo before after asked_before asked_after text at → length text ≤ at → Appends before after text × (asked_after ≡ more (pieces text) asked_before)
put_whole before after asked_before asked_after text at put done =
    let same : take at text ≡ text = take_all at text done in
    let count : put.puts ≡ pieces text = count_is (length text) put.puts (omega (arith, put.above, put.within, done)) (omega (arith, put.below, put.within, done)) in
    (subst (λ (y : List ℕ). Appends before after y) same put.gained, put.asked ∙ ap (λ n. more n asked_before) count)

-- the put of the next piece was cut short
pub put_part : (s : Stream) (now : Option (List ℕ)) (asked_now : Option ℕ) (text : List ℕ) (at n : ℕ) → IsPutUpTo s.before.written now s.before.asked asked_now text at
    → at < length text → n ≤ piece_bytes → Appends now s.after.written (take n (drop at text)) → s.after.asked ≡ one_more asked_now
    → ((taken : ℕ) × GainedPart s taken text)
put_part s now asked_now text at n put more_left small appends asked =
    let full : at ≡ put.puts * piece_bytes = put.whole more_left in
    let count = div_ceil_times (length text) piece_bytes (lit< tt) in (
      at + n,
      record {
        whole = put.puts;
        next = below (pieces text) count.0;
        behind = omega arith;
        within = omega arith;
        gained = (
          subst (λ (y : List ℕ). Appends s.before.written s.after.written y) (take_more at n text)
              (Appends-trans s.before.written now s.after.written (take at text) (take n (drop at text)) put.gained appends),
          asked ∙ ap one_more put.asked,
        );
      },
    )
  where
    below : (q : ℕ) → length text ≤ q * piece_bytes → put.puts < q
    below q above = let full = put.whole more_left in omega (arith, full, more_left, above)

-- what is so of an error
pub on_err : {T E P : Type 0} (r : Result T E) → P → OnErr r P
on_err (Ok x) p = tt
on_err (Err e) p = p
