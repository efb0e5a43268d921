-- Small formulas with and without faults, to try the check by hand.
use Rattle.std.specs.Prelude.{ℕ, true, false, codes, List, [], ◌∷◌}
use Rattle.sap_terms.specs.Equations.{app1, app2, fst_name, pair_name}
use Rattle.sap_terms.specs.Signature.{Sig, added, no_builtins, pairs_alone, public_symbol}
use Rattle.sap_terms.specs.Tree.{Tree, variable}
use Rattle.sap_terms.specs.declared.signature.Builtin.TheVariants.{Symmetric}
use Rattle.sap_terms.specs.declared.var.Sort.TheVariants.{Msg}
use Rattle.sap_terms.specs.declared.var.Var.{Var}
use Rattle.sap_formula.specs.Examples.{a, b, x, fresh_x, public_x, i, j, fact, first_of_pair, only_a, some_time, two_binders}
use Rattle.sap_formula.specs.Faults.{IsFirstFault}
use Rattle.sap_formula.specs.Form.{Form, truth, falsity, action, equal, same_time, earlier, negation, both, either, implies, equivalent, every, exists}
use Rattle.sap_formula.specs.declared.binder.Binder.TheVariants.{Message, Time}
use Rattle.sap_formula.specs.declared.fault.FormulaFlaw.{FormulaFlaw}

-- A(t)@k
abbrev pub shows : Tree → List ℕ → Form
shows t k = action (fact false (t ∷ [])) k

-- A(t,u)@k
abbrev pub shows_both : Tree → Tree → List ℕ → Form
shows_both t u k = action (fact false (t ∷ u ∷ [])) k

-- N('a')@k, of this name
abbrev pub named : List ℕ → List ℕ → Form
named n k = action (record { name = n; persistent = false; args = a ∷ [] }) k

-- f(t) of a symbol that isn't held
abbrev pub f_of : Tree → Tree
f_of t = app1 (codes "f") t

-- g(t) of another
abbrev pub g_of : Tree → Tree
g_of t = app1 (codes "g") t

-- fst(t)
abbrev pub first_of : Tree → Tree
first_of t = app1 fst_name t

-- y
abbrev pub y : Var
y = record { name = codes "y"; sort = Msg }

-- #x
abbrev pub time_x : List ℕ
time_x = codes "x"

-- over pairs alone and with reserved names of facts excluded, this fault counts in the formula, told with this name
abbrev pub IsTold : FormulaFlaw → Form × List ℕ → Type 0
IsTold w e = IsFirstFault pairs_alone true e.0 w e.1

-- Ex #i. A(f('a'))@i; a pair of one term
abbrev pub bad_functions : List (Form × List ℕ)
bad_functions = (some_time (f_of a), codes "f") ∷ (some_time (app1 pair_name a), codes "pair") ∷ []

-- Ex #i. A(fst('a'))@i; Ex x. A(fst(<'a','b'>))@i, where nothing binds #i and nothing guards x
abbrev pub destructors : List (Form × List ℕ)
destructors = (some_time (first_of a), codes "fst") ∷ (exists (Message x ∷ []) (shows first_of_pair i), codes "fst") ∷ []

-- Ex #i. N('a')@i, where N is a word that is taken or begins as a state fact does
abbrev pub reserved_names : List (Form × List ℕ)
reserved_names =
    (exists (Time i ∷ []) (named (codes "Init") i), codes "Init") ∷ (exists (Time i ∷ []) (named (codes "KU") i), codes "KU") ∷ (exists (Time i ∷ []) (named (codes "State_1") i), codes "State_1") ∷ []

-- no binder: of x, of #i. One of another kind: Ex #i. A(i)@i; Ex x. A(x)@x. A sign that isn't the binder's sort:
-- Ex x #i. A(~x)@i; Ex ~x $x #i. A(~x)@i; Ex ~x #i. A(~x)@i & (Ex $x #j. A(~x)@j). A binder that ended:
-- Ex #j. (Ex #i. A('a')@i) & A('a')@j & A('a')@i
abbrev pub unbound : List (Form × List ℕ)
unbound =
    (some_time (variable x), codes "x")
    ∷ (shows a i, codes "i")
    ∷ (exists (Time i ∷ []) (shows (variable (record { name = i; sort = Msg })) i), codes "i")
    ∷ (exists (Message x ∷ []) (shows (variable x) time_x), codes "x")
    ∷ (exists (Message x ∷ Time i ∷ []) (shows (variable fresh_x) i), codes "x")
    ∷ (exists (Message fresh_x ∷ Message public_x ∷ Time i ∷ []) (shows (variable fresh_x) i), codes "x")
    ∷ (exists (Message fresh_x ∷ Time i ∷ []) (both (shows (variable fresh_x) i) (exists (Message public_x ∷ Time j ∷ []) (shows (variable fresh_x) j))), codes "x")
    ∷ (exists (Time j ∷ []) (both (both (some_time a) (shows a j)) (shows a i)), codes "i")
    ∷ []

-- Ex x #i. A('a')@i; Ex x #i. A('a')@i & x = 'a'; Ex #i #j. A('a')@i & #i < #j; Ex #i. not A('a')@i;
-- Ex #i. A('a')@i | A('b')@i, and with the arrows; Ex #i. (Ex #j. A('a')@i & A('a')@j), and with All inside. With All, where
-- guards stand on the left of an implication alone: All x #i. A(x)@i; All #i. A('a')@i & T; All #i. T ==> A('a')@i
abbrev pub unguarded : List (Form × List ℕ)
unguarded =
    (exists (Message x ∷ Time i ∷ []) (shows a i), codes "x")
    ∷ (exists (Message x ∷ Time i ∷ []) (both (shows a i) (equal (variable x) a)), codes "x")
    ∷ (exists (Time i ∷ Time j ∷ []) (both (shows a i) (earlier i j)), codes "j")
    ∷ (exists (Time i ∷ []) (negation (shows a i)), codes "i")
    ∷ (exists (Time i ∷ []) (either (shows a i) (shows b i)), codes "i")
    ∷ (exists (Time i ∷ []) (implies (shows a i) (shows b i)), codes "i")
    ∷ (exists (Time i ∷ []) (equivalent (shows a i) (shows b i)), codes "i")
    ∷ (exists (Time i ∷ []) (every (Time j ∷ []) (implies (both (shows a i) (shows a j)) truth)), codes "i")
    ∷ (exists (Time i ∷ []) (exists (Time j ∷ []) (both (shows a i) (shows a j))), codes "i")
    ∷ (every (Message x ∷ Time i ∷ []) (shows (variable x) i), codes "x")
    ∷ (every (Time i ∷ []) (both (shows a i) truth), codes "i")
    ∷ (every (Time i ∷ []) (implies truth (shows a i)), codes "i")
    ∷ []

-- t = 'a'
abbrev pub is_a : Tree → Form
is_a t = equal t a

-- f('a') at each place where a formula has parts
abbrev pub places : List Form
places =
    equal a (f_of a)
    ∷ equal (app2 pair_name a (f_of a)) a
    ∷ negation (is_a (f_of a))
    ∷ both truth (is_a (f_of a))
    ∷ either truth (is_a (f_of a))
    ∷ implies truth (is_a (f_of a))
    ∷ equivalent truth (is_a (f_of a))
    ∷ every [] (is_a (f_of a))
    ∷ exists [] (is_a (f_of a))
    ∷ exists (Time i ∷ []) (shows_both a (f_of a) i)
    ∷ []

-- the first of two of a kind is told: A(f(g('a'))); A(g('a'),f('a')); f('a') = g('a'); f('a') = 'a' and g('a') = 'a' under
-- each connective
abbrev pub two_functions : List (Form × List ℕ)
two_functions =
    (some_time (f_of (g_of a)), codes "f")
    ∷ (exists (Time i ∷ []) (shows_both (g_of a) (f_of a) i), codes "g")
    ∷ (equal (f_of a) (g_of a), codes "f")
    ∷ (both (is_a (f_of a)) (is_a (g_of a)), codes "f")
    ∷ (either (is_a (f_of a)) (is_a (g_of a)), codes "f")
    ∷ (implies (is_a (f_of a)) (is_a (g_of a)), codes "f")
    ∷ (equivalent (is_a (f_of a)) (is_a (g_of a)), codes "f")
    ∷ []

-- A(x)@i; #i < #j; #i = #j
abbrev pub two_unbound : List (Form × List ℕ)
two_unbound = (shows (variable x) i, codes "x") ∷ (earlier i j, codes "i") ∷ (same_time i j, codes "i") ∷ []

-- Ex x y #i. A('a')@i; Ex y #i. A('a')@i & (Ex x #j. A('a')@j)
abbrev pub two_unguarded : List (Form × List ℕ)
two_unguarded =
    (exists (Message x ∷ Message y ∷ Time i ∷ []) (shows a i), codes "x") ∷ (exists (Message y ∷ Time i ∷ []) (both (shows a i) (exists (Message x ∷ Time j ∷ []) (shows a j))), codes "y") ∷ []

-- a later kind stands further left: A(fst('a'),f('a'))
abbrev pub function_before : Form
function_before = exists (Time i ∷ []) (shows_both (first_of a) (f_of a) i)

-- Ex #i. Init('a')@i & A(fst('a'))@i
abbrev pub destructor_before : Form
destructor_before = exists (Time i ∷ []) (both (named (codes "Init") i) (shows (first_of a) i))

-- Ex #i. A(x)@i & Init('a')@i
abbrev pub reserved_before : Form
reserved_before = exists (Time i ∷ []) (both (shows (variable x) i) (named (codes "Init") i))

-- Ex x #i. A('a')@i & A(y)@i
abbrev pub unbound_before : Form
unbound_before = exists (Message x ∷ Time i ∷ []) (both (shows a i) (shows (variable y) i))

-- near each fault: Ex #i. A(<'a','b'>)@i; no reserved name; Ex x #i. A(x)@i; signs that are the binder's sort, the
-- last one's of a name; Ex ~x #i. A(~x)@i & (Ex $x #j. A($x)@j); guards inside terms and anywhere among conjuncts;
-- All x #i. A(x)@i ==> F; atoms that guard nothing; every connective
abbrev pub faultless : List Form
faultless =
    only_a
    ∷ two_binders
    ∷ some_time (app2 pair_name a b)
    ∷ exists (Time i ∷ []) (named (codes "K") i)
    ∷ exists (Time i ∷ []) (named (codes "Initial") i)
    ∷ exists (Time i ∷ []) (named (codes "State") i)
    ∷ exists (Message x ∷ Time i ∷ []) (shows (variable x) i)
    ∷ exists (Message fresh_x ∷ Time i ∷ []) (both (shows (variable x) i) (shows (variable fresh_x) i))
    ∷ exists (Message public_x ∷ Message fresh_x ∷ Time i ∷ []) (shows (variable fresh_x) i)
    ∷ exists (Message fresh_x ∷ Time i ∷ []) (both (shows (variable fresh_x) i) (exists (Message public_x ∷ Time j ∷ []) (shows (variable public_x) j)))
    ∷ exists (Message x ∷ Time time_x ∷ []) (shows a time_x)
    ∷ exists (Message x ∷ Time i ∷ Time j ∷ []) (both (earlier i j) (both (shows a i) (shows (app2 pair_name a (variable x)) j)))
    ∷ every (Message x ∷ Time i ∷ []) (implies (shows (variable x) i) falsity)
    ∷ every [] (equal a b)
    ∷ exists (Time i ∷ []) (both (shows a i) (either (negation (same_time i i)) (equivalent (implies (named (codes "B") i) truth) falsity)))
    ∷ []

-- sdec declared with other symbols, without its equation
abbrev pub sdec_declared : Sig
sdec_declared = record { symbols = public_symbol (codes "sdec") 2 ∷ []; builtins = no_builtins }

-- pairs and symmetric encryption
abbrev pub with_symmetric : Sig
with_symmetric = added pairs_alone Symmetric

-- Ex #i. A(sdec('a','b'))@i
abbrev pub decrypted : Form
decrypted = some_time (app2 (codes "sdec") a b)

-- formulas, and what they are with the sorts of binders: under ~x; with a sign that isn't the binder's sort; under ~x and
-- then $x, in one quantifier and in two, and behind the inner one; where #x is the innermost; without a binder; inside
-- terms and of each connective
abbrev pub sorted_ones : List (Form × Form)
sorted_ones =
    (exists (Message fresh_x ∷ Time i ∷ []) (shows (variable x) i), exists (Message fresh_x ∷ Time i ∷ []) (shows (variable fresh_x) i))
    ∷ (exists (Message x ∷ Time i ∷ []) (shows (variable fresh_x) i), exists (Message x ∷ Time i ∷ []) (shows (variable x) i))
    ∷ (exists (Message fresh_x ∷ Message public_x ∷ Time i ∷ []) (shows (variable x) i), exists (Message fresh_x ∷ Message public_x ∷ Time i ∷ []) (shows (variable public_x) i))
    ∷ (every (Message fresh_x ∷ []) (both (every (Message public_x ∷ []) (equal (variable x) a)) (equal a (variable x))), every (Message fresh_x ∷ []) (both (every (Message public_x ∷ []) (equal (variable public_x) a)) (equal a (variable fresh_x))))
    ∷ (exists (Message fresh_x ∷ Time time_x ∷ []) (shows (variable x) time_x), exists (Message fresh_x ∷ Time time_x ∷ []) (shows (variable x) time_x))
    ∷ (exists (Time i ∷ Message y ∷ []) (shows_both (variable fresh_x) (variable x) i), exists (Time i ∷ Message y ∷ []) (shows_both (variable fresh_x) (variable x) i))
    ∷ (
      every (Message fresh_x ∷ Time i ∷ []) (equivalent (negation (implies (action (fact true (app2 pair_name (variable x) (f_of (variable x)) ∷ b ∷ [])) i) truth)) (either (equal (variable x) (variable y)) (both (same_time i j) (earlier i j)))),
      every (Message fresh_x ∷ Time i ∷ []) (equivalent (negation (implies (action (fact true (app2 pair_name (variable fresh_x) (f_of (variable fresh_x)) ∷ b ∷ [])) i) truth)) (either (equal (variable fresh_x) (variable y)) (both (same_time i j) (earlier i j)))),
    )
    ∷ []
