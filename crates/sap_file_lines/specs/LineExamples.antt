-- A small file, to try by hand on which lines its places stand:
--
--  1  theory T begin
--  2  let A(x) =
--  3    out(x)
--  4  let B = A('a')
--  5  let N = (((((0)))))
--  6  process:
--  7      B
--  8    | A('b')
--  9    | ! 0
-- 10    | if 'a' = 'a' then N
-- 11  end
use Rattle.std.specs.Prelude.{ℕ, codes, List, [], ◌∷◌, ◌++◌}
use Rattle.sap_terms.specs.Tree.{Tree, public, variable}
use Rattle.sap_terms.specs.declared.var.Sort.TheVariants.{Msg}
use Rattle.sap_text.specs.declared.token.Token.{Token}
use Rattle.sap_stretches.specs.StretchExamples.{on_line}
use Rattle.sap_process.specs.Action.{out}
use Rattle.sap_macro.specs.Located.{Located, nil_at, call_at, parallel_at, replicated_at, act_at, test_at}
use Rattle.sap_macro.specs.UpToNames.{named}
use Rattle.sap_origin.specs.Definitions.{LocatedDefinition}
use Rattle.sap_file_lines.specs.FileLines.{IsLineAt}

-- its bytes, and its 53 words, each with its line and where it begins and ends
abbrev pub bytes : List ℕ
bytes =
    codes "theory T begin\n"
    ++ (codes "let A(x) =\n"
    ++ (codes "  out(x)\n"
    ++ (codes "let B = A('a')\n"
    ++ (codes "let N = (((((0)))))\n"
    ++ (codes "process:\n"
    ++ (codes "    B\n"
    ++ (codes "  | A('b')\n"
    ++ (codes "  | ! 0\n"
    ++ (codes "  | if 'a' = 'a' then N\n"
    ++ (codes "end\n"))))))))))

abbrev pub words : List Token
words =
    on_line 1 0 6 ∷ on_line 1 7 8 ∷ on_line 1 9 14 ∷
    on_line 2 15 18 ∷ on_line 2 19 20 ∷ on_line 2 20 21 ∷ on_line 2 21 22 ∷ on_line 2 22 23 ∷ on_line 2 24 25 ∷
    on_line 3 28 31 ∷ on_line 3 31 32 ∷ on_line 3 32 33 ∷ on_line 3 33 34 ∷
    on_line 4 35 38 ∷ on_line 4 39 40 ∷ on_line 4 41 42 ∷ on_line 4 43 44 ∷ on_line 4 44 45 ∷ on_line 4 45 48 ∷ on_line 4 48 49 ∷
    on_line 5 50 53 ∷ on_line 5 54 55 ∷ on_line 5 56 57 ∷ on_line 5 58 59 ∷ on_line 5 59 60 ∷ on_line 5 60 61 ∷ on_line 5 61 62 ∷ on_line 5 62 63 ∷ on_line 5 63 64 ∷ on_line 5 64 65 ∷ on_line 5 65 66 ∷ on_line 5 66 67 ∷ on_line 5 67 68 ∷ on_line 5 68 69 ∷
    on_line 6 70 77 ∷ on_line 6 77 78 ∷
    on_line 7 83 84 ∷
    on_line 8 87 88 ∷ on_line 8 89 90 ∷ on_line 8 90 91 ∷ on_line 8 91 94 ∷ on_line 8 94 95 ∷
    on_line 9 98 99 ∷ on_line 9 100 101 ∷ on_line 9 102 103 ∷
    on_line 10 106 107 ∷ on_line 10 108 110 ∷ on_line 10 111 114 ∷ on_line 10 115 116 ∷ on_line 10 117 120 ∷ on_line 10 121 125 ∷ on_line 10 126 127 ∷
    on_line 11 128 131 ∷ []

-- 'a' and 'b', and the names of the definitions
abbrev pub a : Tree
a = public (codes "a")

abbrev pub b : Tree
b = public (codes "b")

abbrev pub a_name : List ℕ
a_name = codes "A"

abbrev pub b_name : List ℕ
b_name = codes "B"

abbrev pub n_name : List ℕ
n_name = codes "N"

-- behind the item of A are 40 words, behind that of B 33, behind that of N 19, and behind the process one; from the `0` of N as many words
-- of its item are left as from the `if` of the process
abbrev pub a_is : LocatedDefinition
a_is = record { name = a_name; params = codes "x" ∷ []; body = act_at 4 (out (variable (named (codes "x") Msg))) (nil_at 4); behind = 40 }

abbrev pub b_is : LocatedDefinition
b_is = record { name = b_name; params = []; body = call_at 4 a_name (a ∷ []); behind = 33 }

abbrev pub n_is : LocatedDefinition
n_is = record { name = n_name; params = []; body = nil_at 6; behind = 19 }

abbrev pub all : List LocatedDefinition
all = a_is ∷ b_is ∷ n_is ∷ []

-- its parts, from the last on: the test, whose `else` is missing, the copies, and the parallels
abbrev pub testing : Located
testing = test_at 6 a a (call_at 1 n_name []) (nil_at 6)

abbrev pub copies : Located
copies = replicated_at 9 (nil_at 8)

abbrev pub third : Located
third = parallel_at 7 copies testing

abbrev pub second : Located
second = parallel_at 10 (call_at 14 a_name (b ∷ [])) third

abbrev pub main : Located
main = parallel_at 15 (call_at 16 b_name []) second

-- along this path one comes to a place on this line; or to none that somebody wrote
abbrev pub HasLine : List ℕ → ℕ → Type 0
HasLine path line = IsLineAt bytes words all main 1 path line

abbrev pub HasNoLine : List ℕ → Type 0
HasNoLine path = (line : ℕ) → HasLine path line → ⊥
