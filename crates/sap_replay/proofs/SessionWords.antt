-- The words that are numbers of sessions.
use Rattle.std.proofs.Common.{◌≡◌, ◌≢◌, ◌≤◌, ◌<◌, ◌^◌, ℕ, List, Option, Some, None, Result, Ok, Err, sym, ap, ◌∙◌, arith, decimal}
use Rattle.std.specs.Prelude.{IfOk, MatchOption}
use Rattle.std.specs.Str.Parse.{ParsesUnsigned}
use Rattle.std.proofs.lemmas.Fmt.{parse-decimal}
use Rattle.sap_replay.specs.Sample.{most_sessions}

-- a word that asks for so many sessions is read as that number
pub read_sessions : {E : Type 0} (word : List ℕ) (r : Result ℕ E) (m : ℕ) → ParsesUnsigned 64 10 word r → m ≤ most_sessions → word ≡ decimal m → r ≡ Ok m
read_sessions word r m parses most is =
    let small : m < 2 ^ 64 = omega (arith, most) in parse-decimal 64 m word r small small is parses

-- it asks for no other number, so the one that it is read as is right where the word is that in decimal
pub sessions_spelled : {E : Type 0} (r : Result (Option ℕ) E) (word : List ℕ) (n : ℕ) → 1 ≤ n → n ≤ most_sessions → ((m : ℕ) → m ≤ most_sessions → word ≡ decimal m → n ≡ m)
    → IfOk r (λ found. MatchOption found (word ≢ decimal n) (λ m. (m ≡ n) × (word ≡ decimal n)))
    → IfOk r (λ found. MatchOption found ((m : ℕ) → 1 ≤ m → m ≤ most_sessions → word ≢ decimal m) (λ m. (1 ≤ m) × (m ≤ most_sessions) × (word ≡ decimal m)))
sessions_spelled (Err e) word n some most only h = h
sessions_spelled (Ok None) word n some most only h = λ m more less is. h (is ∙ ap decimal (sym (only m less is)))
sessions_spelled (Ok (Some m)) word n some most only h = (omega (arith, h.0, some), omega (arith, h.0, most), h.1 ∙ ap decimal (sym h.0))
