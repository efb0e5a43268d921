-- Small files that have more levels than there may be, to try by hand what is told of them.
use Rattle.std.specs.Prelude.{ℕ, ◌+◌, suc, zero, codes, List, [], ◌∷◌}
use Rattle.sap_macro.specs.Located.{Located, call_at, nil_at, parallel_at, replicated_at}
use Rattle.sap_origin.specs.Definitions.{LocatedDefinition}
use Rattle.sap_read.specs.LocatedItems.{LocatedMain}

-- so many `!` before this, which is the last word of its item
abbrev pub copies : ℕ → Located → Located
copies zero p = p
copies (suc n) p = replicated_at (suc (suc n)) (copies n p)

-- let P = ! .. ! 0, with 200 `!`, behind whose item are `process`, `:`, so many `!`, `P` and `end`
abbrev pub of_copies : ℕ → List LocatedDefinition
of_copies n = record { name = codes "P"; params = []; body = copies 200 (nil_at 1); behind = n + 4 } ∷ []

-- process: ! .. ! P, with so many
abbrev pub copies_of : ℕ → LocatedMain
copies_of n = record { process = copies n (call_at 1 (codes "P") []); behind = 1 }

-- let x = f | f, behind whose item so many words of the file are
abbrev pub doubled : List ℕ → List ℕ → ℕ → LocatedDefinition
doubled x f n = record { name = x; params = []; body = parallel_at 2 (call_at 3 f []) (call_at 1 f []); behind = n }

-- let A = 0 | 0, let B = A | A, and so on to J, of 3, 7, .. 2,047 places, where the item of the process has so many words, behind which
-- is `end`
abbrev pub doublings : ℕ → List LocatedDefinition
doublings n =
    record { name = codes "A"; params = []; body = parallel_at 2 (nil_at 3) (nil_at 1); behind = n + 55 }
    ∷ doubled (codes "B") (codes "A") (n + 49)
    ∷ doubled (codes "C") (codes "B") (n + 43)
    ∷ doubled (codes "D") (codes "C") (n + 37)
    ∷ doubled (codes "E") (codes "D") (n + 31)
    ∷ doubled (codes "F") (codes "E") (n + 25)
    ∷ doubled (codes "G") (codes "F") (n + 19)
    ∷ doubled (codes "H") (codes "G") (n + 13)
    ∷ doubled (codes "I") (codes "H") (n + 7)
    ∷ doubled (codes "J") (codes "I") (n + 1)
    ∷ []

-- process: J | ( I | ( H | ( G | ( F | p ) ) ) ), where from the first word of p so many are left: 3,968 places and those of p
abbrev pub beside : ℕ → Located → LocatedMain
beside k p =
    record {
      process =
          parallel_at (k + 13) (call_at (k + 14) (codes "J") [])
          (parallel_at (k + 10) (call_at (k + 11) (codes "I") [])
          (parallel_at (k + 7) (call_at (k + 8) (codes "H") []) (parallel_at (k + 4) (call_at (k + 5) (codes "G") []) (parallel_at (k + 1) (call_at (k + 2) (codes "F") []) p))));
      behind = 1;
    }

-- ! D and ! ! D, of 32 places and 33
abbrev pub thirty_two : Located
thirty_two = replicated_at 6 (call_at 5 (codes "D") [])

abbrev pub thirty_three : Located
thirty_three = replicated_at 7 thirty_two
