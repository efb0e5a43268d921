-- Small files, to try by hand which use a cause speaks of, and through which uses one comes to it.
use Rattle.std.specs.Prelude.{ℕ, zero, suc, ◌+◌, ◌*◌, codes, List, [], ◌∷◌}
use Rattle.sap_terms.specs.Tree.{Tree}
use Rattle.sap_process.specs.Action.{out}
use Rattle.sap_macro.specs.ExpansionExamples.{a}
use Rattle.sap_macro.specs.Located.{Located, nil_at, call_at, parallel_at, act_at}
use Rattle.sap_macro.specs.NameExamples.{both}
use Rattle.sap_origin.specs.Definitions.{LocatedDefinition}
use Rattle.sap_uses.specs.UseExamples.{x, y}
use Rattle.sap_use_words.specs.ExpandedUses.{Words}

-- words, and those above
abbrev pub at : ℕ → List ℕ → Words
at n ns = record { word = n; above = ns }

-- <'a',..,'a'> with one part more than this number, or 'a': twice the number and one more nodes, and for a tuple two words more than that
abbrev pub row : ℕ → Tree
row zero = a
row (suc k) = both a (row k)

-- let A(x) = out(x), behind which so many words are
abbrev pub one : ℕ → LocatedDefinition
one n = record {
  name = codes "A";
  params = codes "x" ∷ [];
  body = act_at 4 (out x) (nil_at 4);
  behind = n;
}

-- let B(x) = A(x)
abbrev pub handing_on : ℕ → LocatedDefinition
handing_on n = record {
  name = codes "B";
  params = codes "x" ∷ [];
  body = call_at 4 (codes "A") (x ∷ []);
  behind = n;
}

-- let B(x) = A(x,x)
abbrev pub wrongly : ℕ → LocatedDefinition
wrongly n = record {
  name = codes "B";
  params = codes "x" ∷ [];
  body = call_at 6 (codes "A") (x ∷ x ∷ []);
  behind = n;
}

-- let B(x) = A(<x,x>)
abbrev pub doubling : ℕ → LocatedDefinition
doubling n = record {
  name = codes "B";
  params = codes "x" ∷ [];
  body = call_at 8 (codes "A") (both x x ∷ []);
  behind = n;
}

-- let P = A(<y,y>)
abbrev pub plainly : ℕ → LocatedDefinition
plainly n = record {
  name = codes "P";
  params = [];
  body = call_at 8 (codes "A") (both y y ∷ []);
  behind = n;
}

-- let C(x,y) = P
abbrev pub through : ℕ → LocatedDefinition
through n = record {
  name = codes "C";
  params = codes "x" ∷ codes "y" ∷ [];
  body = call_at 1 (codes "P") [];
  behind = n;
}

-- theory T begin let A(x) = out(x) let B(x) = A(x,x) process: A('a','a') | B end
abbrev pub wrong_in_body : List LocatedDefinition
wrong_in_body = one 23 ∷ wrongly 11 ∷ []

abbrev pub two_wrong : Located
two_wrong = parallel_at 2 (call_at 8 (codes "A") (a ∷ a ∷ [])) (call_at 1 (codes "B") [])

-- theory T begin let A(x) = out(x) let B(x) = A(x) process: A('a','a') | B end, where behind B's item are 11 words; with A('a') | B 9; with
-- A('a') | B('a') 12
abbrev pub right_bodies : ℕ → List LocatedDefinition
right_bodies n = one (n + 10) ∷ handing_on n ∷ []

abbrev pub second_wrong : Located
second_wrong = parallel_at 2 (call_at 6 (codes "A") (a ∷ [])) (call_at 1 (codes "B") [])

abbrev pub none_wrong : Located
none_wrong = parallel_at 5 (call_at 9 (codes "A") (a ∷ [])) (call_at 4 (codes "B") (a ∷ []))

-- theory T begin let A(x) = out(x) let B(x) = A(<x,x>) process: A(t) | B(u) end, where t and u are such rows
abbrev pub body_doubles : ℕ → ℕ → List LocatedDefinition
body_doubles j k = one (2 * j + 2 * k + 30) ∷ doubling (2 * j + 2 * k + 16) ∷ []

abbrev pub directly_first : ℕ → ℕ → Located
directly_first j k =
    parallel_at (2 * k + 7) (call_at (2 * j + 2 * k + 13) (codes "A") (row j ∷ []))
    (call_at (2 * k + 6) (codes "B") (row k ∷ []))

-- the same with process: B(u) | A(t)
abbrev pub directly_second : ℕ → ℕ → Located
directly_second j k =
    parallel_at (2 * j + 7) (call_at (2 * j + 2 * k + 13) (codes "B") (row k ∷ []))
    (call_at (2 * j + 6) (codes "A") (row j ∷ []))

-- theory T begin let A(x) = out(x) let P = A(<y,y>) let C(x,y) = P process: C('a',t) end, where t has 90 parts
abbrev pub through_plain : List LocatedDefinition
through_plain = one 209 ∷ plainly 198 ∷ through 189 ∷ []

abbrev pub using_through : Located
using_through = call_at 186 (codes "C") (a ∷ row 89 ∷ [])

-- theory T begin let A(x) = out(x) let P = A(<y,y>) process: P(t) end, where t has 129 parts
abbrev pub plain_alone : List LocatedDefinition
plain_alone = one 276 ∷ plainly 265 ∷ []

abbrev pub plain_with_argument : Located
plain_with_argument = call_at 262 (codes "P") (row 128 ∷ [])
