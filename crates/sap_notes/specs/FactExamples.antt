-- Small formulas, processes and files, and which facts are in them.
use Rattle.std.specs.Prelude.{ℕ, false, codes, List, [], ◌∷◌}
use Rattle.sap_terms.specs.Tree.{public}
use Rattle.sap_terms.specs.declared.fact.Fact.{Fact}
use Rattle.sap_text.specs.declared.token.Token.{Token}
use Rattle.sap_process.specs.Action as action
use Rattle.sap_process.specs.Proc.{Proc, nil, parallel, replicated, act, test, lookup}
use Rattle.sap_formula.specs.Form as form
use Rattle.sap_stretches.specs.StretchExamples.{word}
use Rattle.sap_where.specs.PlaceExamples.{sign}
use Rattle.sap_notes.specs.NoteExamples.{constant, on, x_is}

-- a fact of this name on no terms, and on two
abbrev pub bare : List ℕ → Fact
bare x = record { name = x; persistent = false; args = [] }

abbrev pub paired : List ℕ → Fact
paired x = record { name = x; persistent = false; args = public (codes "a") ∷ public (codes "b") ∷ [] }

-- each form of a formula with a fact or none
abbrev pub spoken : form.Form
spoken =
    form.every [] (form.exists [] (form.implies (form.both (form.action (bare (codes "A")) (codes "i")) form.truth)
    (form.either (form.negation (form.action (paired (codes "B")) (codes "i"))) (form.equivalent
    (form.both (form.same_time (codes "i") (codes "j")) (form.action (bare (codes "A")) (codes "i")))
    (form.both (form.both (form.earlier (codes "i") (codes "j")) form.falsity) (form.equal (constant (codes "c")) (on (codes "f") (constant (codes "d")))))))))

-- each form of a process; of a rule on each side
abbrev pub showing : Proc
showing =
    parallel (replicated (act (action.event (bare (codes "A"))) nil))
    (test (constant (codes "c")) (constant (codes "d")) (act (action.embedded (bare (codes "L") ∷ []) (bare (codes "B") ∷ paired (codes "C") ∷ []) (bare (codes "R") ∷ [])) (act (action.event (paired (codes "D"))) nil))
    (lookup (constant (codes "c")) x_is (act (action.out (constant (codes "c"))) (act (action.event (bare (codes "E"))) nil)) (act (action.input (constant (codes "c"))) (act (action.event (bare (codes "F"))) nil))))

-- a definition of A, which the process uses, one of B, which nothing does, a rule, and a lemma and a restriction
abbrev pub facts_text : List ℕ
facts_text = codes "let A = event E ( ) let B = event E ( ) process : A | [ ] --[ S ( ) ]-> [ T ( ) ] lemma l : \" Ex # i . E ( ) @ i \" restriction r : \" T \""

abbrev pub facts_tokens : List Token
facts_tokens =
    word 0 3 ∷ word 4 5 ∷ sign 6 7 ∷ word 8 13 ∷ word 14 15 ∷ sign 16 17 ∷ sign 18 19 ∷ word 20 23 ∷
    word 24 25 ∷ sign 26 27 ∷ word 28 33 ∷ word 34 35 ∷ sign 36 37 ∷ sign 38 39 ∷ word 40 47 ∷ sign 48 49 ∷
    word 50 51 ∷ sign 52 53 ∷ sign 54 55 ∷ sign 56 57 ∷ sign 58 61 ∷ word 62 63 ∷ sign 64 65 ∷ sign 66 67 ∷
    sign 68 71 ∷ sign 72 73 ∷ word 74 75 ∷ sign 76 77 ∷ sign 78 79 ∷ sign 80 81 ∷ word 82 87 ∷ word 88 89 ∷
    sign 90 91 ∷ sign 92 93 ∷ word 94 96 ∷ sign 97 98 ∷ word 99 100 ∷ sign 101 102 ∷ word 103 104 ∷
    sign 105 106 ∷ sign 107 108 ∷ sign 109 110 ∷ word 111 112 ∷ sign 113 114 ∷ word 115 126 ∷ word 127 128 ∷
    sign 129 130 ∷ sign 131 132 ∷ word 133 134 ∷ sign 135 136 ∷ []

-- nine names
abbrev pub nine : List (List ℕ)
nine = codes "A" ∷ codes "B" ∷ codes "C" ∷ codes "D" ∷ codes "E" ∷ codes "F" ∷ codes "G" ∷ codes "H" ∷ codes "I" ∷ []
