-- Small processes with a flaw and near misses without one, to try flaws, and their order, by hand.
use Rattle.std.specs.Prelude.{ℕ, zero, suc, true, codes, List, [], ◌∷◌}
use Rattle.sap_terms.specs.AdversaryFacts.{linear}
use Rattle.sap_terms.specs.Equations.{app1, app2, app3, fst_name, pair_name, sign_name, verify_name}
use Rattle.sap_terms.specs.Signature.{Sig, pairs_alone, added}
use Rattle.sap_terms.specs.Tree.{Tree, variable, public}
use Rattle.sap_terms.specs.declared.fact.Fact.{Fact}
use Rattle.sap_terms.specs.declared.signature.Builtin.TheVariants.{Signing}
use Rattle.sap_terms.specs.declared.var.Sort.TheVariants.{Msg, Fresh}
use Rattle.sap_terms.specs.declared.var.Var.{Var}
use Rattle.sap_process.specs.Action.{new, out, input, receive, event, lock, unlock, embedded}
use Rattle.sap_process.specs.Flaws.{HasNoScopeFlaw, IsFirstFlaw, IsFirstScopeFlaw, IsWellFormed}
use Rattle.sap_process.specs.Proc.{Proc, nil, parallel, replicated, act, test, lookup}
use Rattle.sap_process.specs.StepExamples.{a, b, c, x, var_x, fresh_x, public_x, pair, first_of_pair, left_fact, right_fact, lasting_fact, shown_fact, adding_public}
use Rattle.sap_process.specs.declared.flaw.Flaw.{Flaw}
use Rattle.sap_process.specs.declared.flaw.Flaw.TheVariants.{BadFunction, ReservedVar, ReservedFact, FactClash, PatternDestructor, Unbound, Rebound, SortClash, ScopeFull}

-- pair/2, fst/1, snd/1, sign/2, verify/3, pk/1 and true/0
abbrev pub pairs_and_signing : Sig
pairs_and_signing = added pairs_alone Signing

-- of each of these processes this flaw counts, at its path
abbrev pub AreFlawed : Flaw → List (Proc × List ℕ) → Type 0
AreFlawed w [] = Unit {0}
AreFlawed w (e ∷ es) = IsFirstFlaw pairs_and_signing e.0 w e.1 × AreFlawed w es

-- none of these has a flaw
abbrev pub AreWellFormed : List Proc → Type 0
AreWellFormed [] = Unit {0}
AreWellFormed (p ∷ ps) = IsWellFormed pairs_and_signing p × AreWellFormed ps

-- out(t), new v, in(t), and then p
abbrev pub giving : Tree → Proc → Proc
giving t p = act (out t) p

abbrev pub naming : Var → Proc → Proc
naming v p = act (new v) p

abbrev pub taking : Tree → Proc → Proc
taking t p = act (input t) p

-- event f, and then p
abbrev pub telling : Fact → Proc → Proc
telling f p = act (event f) p

-- an embedded rule that takes l and adds r, and then p
abbrev pub storing : List Fact → List Fact → Proc → Proc
storing l r p = act (embedded l [] r) p

-- so many times lock 'a', and then p
abbrev pub locking : ℕ → Proc → Proc
locking zero p = p
locking (suc n) p = act (lock a 0) (locking n p)

-- so many times lock 'a' and unlock 'a', and then p
abbrev pub relocking : ℕ → Proc → Proc
relocking zero p = p
relocking (suc n) p = act (lock a 0) (act (unlock a 0) (relocking n p))

-- the path of so many first children
abbrev pub ones : ℕ → List ℕ
ones zero = []
ones (suc n) = 1 ∷ ones n

-- a plain identifier
abbrev pub plain : List ℕ → Var
plain n = record { name = n; sort = Msg }

-- f('a'), where f is no symbol
abbrev pub unknown : Tree
unknown = app1 (codes "f") a

-- fst(x)
abbrev pub first_of_x : Tree
first_of_x = app1 fst_name var_x

-- A('a','b'), L('a','b') and a fact of this name on 'a'
abbrev pub shown_two : Fact
shown_two = linear (codes "A") (a ∷ b ∷ [])

abbrev pub left_two : Fact
left_two = linear (codes "L") (a ∷ b ∷ [])

abbrev pub named : List ℕ → Fact
named n = linear n (a ∷ [])

-- !A('a')
abbrev pub lasting_shown : Fact
lasting_shown = record { name = codes "A"; persistent = true; args = a ∷ [] }

-- ~true, and sapic_x
abbrev pub fresh_true : Var
fresh_true = record { name = codes "true"; sort = Fresh }

abbrev pub reserved_x : Var
reserved_x = plain (codes "sapic_x")

-- each flaw by itself, with the path of its place
abbrev pub flawed_ones : Flaw → List (Proc × List ℕ)
-- a symbol that isn't held, at the root of a term and within; one with another arity; a constant that is bound
flawed_ones BadFunction =
    (giving unknown nil, []) ∷ (test a (pair b unknown) nil nil, []) ∷ (giving (app1 pair_name a) nil, [])
    ∷ (storing [] (right_fact unknown ∷ []) nil, []) ∷ (naming (plain (codes "true")) nil, []) ∷ (lookup a fresh_true nil nil, [])
    ∷ (replicated (giving unknown nil), 1 ∷ []) ∷ (parallel nil (giving unknown nil), 2 ∷ []) ∷ []
-- by `new`, by `lookup`, in a pattern
flawed_ones ReservedVar =
    (naming (plain (codes "sapic_")) nil, []) ∷ (lookup a reserved_x nil nil, []) ∷ (taking (pair a (variable reserved_x)) nil, [])
    ∷ (parallel nil (taking (variable reserved_x) nil), 2 ∷ []) ∷ []
-- shown, taken, added
flawed_ones ReservedFact =
    (telling (named (codes "Init")) nil, []) ∷ (storing (named (codes "State_1") ∷ []) [] nil, []) ∷ (storing [] (named (codes "Fr") ∷ []) nil, [])
    ∷ (act (embedded [] (named (codes "Semi_") ∷ []) []) nil, []) ∷ (telling (named (codes "B")) (telling (named (codes "K")) nil), 1 ∷ []) ∷ []
-- shown facts with other arities; stored ones with other arities, or one of them persistent
flawed_ones FactClash =
    (telling (shown_fact a) (telling shown_two nil), 1 ∷ []) ∷ (act (embedded [] (shown_fact a ∷ shown_two ∷ []) []) nil, [])
    ∷ (storing (left_fact a ∷ []) (left_two ∷ []) nil, []) ∷ (storing (left_fact a ∷ []) (lasting_fact a ∷ []) nil, [])
    ∷ (parallel (storing (left_fact a ∷ []) [] nil) (storing [] (lasting_fact a ∷ []) nil), 2 ∷ []) ∷ []
-- in an input, within a term, in an input on a channel, on an embedded left side, and of a builtin
flawed_ones PatternDestructor =
    (taking first_of_x nil, []) ∷ (taking (pair a first_of_x) nil, []) ∷ (act (receive c first_of_x) nil, [])
    ∷ (storing (left_fact first_of_x ∷ []) [] nil, []) ∷ (taking (app3 verify_name a b var_x) nil, []) ∷ []
-- in the second branch of a lookup; beside what binds it; in a key and on a channel, which are evaluated before; in a rule
flawed_ones Unbound =
    (giving var_x nil, []) ∷ (lookup a x nil (giving var_x nil), 2 ∷ []) ∷ (parallel (taking var_x nil) (giving var_x nil), 2 ∷ [])
    ∷ (lookup var_x x nil nil, []) ∷ (act (receive var_x var_x) nil, []) ∷ (storing [] (right_fact var_x ∷ []) nil, [])
    ∷ (act (embedded [] (shown_fact (variable fresh_x) ∷ []) []) nil, []) ∷ []
-- of what `new`, an input or `lookup` bound, whatever the sign
flawed_ones Rebound =
    (naming x (naming x nil), 1 ∷ []) ∷ (naming x (lookup a x nil nil), 1 ∷ []) ∷ (taking var_x (naming x nil), 1 ∷ [])
    ∷ (lookup a x (naming fresh_x nil) nil, 1 ∷ []) ∷ []
-- `new` binds a fresh name, a pattern by its first occurrence, `lookup` a plain one whatever its sign
flawed_ones SortClash =
    (naming x (giving (variable public_x) nil), 1 ∷ []) ∷ (taking var_x (giving (variable fresh_x) nil), 1 ∷ [])
    ∷ (taking (pair var_x (variable fresh_x)) nil, []) ∷ (lookup a fresh_x (giving (variable fresh_x) nil) nil, 1 ∷ [])
    ∷ (storing (left_fact var_x ∷ []) (right_fact (variable public_x) ∷ []) nil, []) ∷ []
-- a name and 64 locks, in both orders, and where each lock is unlocked at once
flawed_ones ScopeFull =
    (naming x (locking 64 nil), ones 65) ∷ (locking 64 (naming x nil), ones 65) ∷ (naming x (relocking 64 nil), ones 128) ∷ []

-- near misses of each flaw, which have none at all
abbrev pub near_misses : Flaw → List Proc
-- held symbols with their arities; a fresh name `true`; names of symbols with arguments, and of none
near_misses BadFunction =
    giving first_of_pair nil ∷ naming fresh_true nil ∷ naming (plain (codes "pk")) nil ∷ lookup a (plain (codes "pk")) nil nil ∷ naming (plain (codes "f")) nil
    ∷ []
near_misses ReservedVar = naming (plain (codes "sapic")) nil ∷ naming (plain (codes "xsapic_")) nil ∷ lookup a (plain (codes "sapicx_")) nil nil ∷ []
near_misses ReservedFact =
    telling (named (codes "State")) nil ∷ telling (named (codes "Semi")) nil ∷ storing (named (codes "Inits") ∷ []) (named (codes "KUD") ∷ []) nil ∷ []
-- persistence of shown facts doesn't count, and shown facts aren't compared with stored ones
near_misses FactClash =
    telling (shown_fact a) (telling (shown_fact b) nil) ∷ telling (shown_fact a) (telling lasting_shown nil)
    ∷ storing (left_fact a ∷ []) (left_fact b ∷ []) (telling left_two nil) ∷ []
-- a constructor; a destructor on a channel, and on a right side
near_misses PatternDestructor =
    taking (app2 sign_name var_x a) nil ∷ act (receive first_of_pair var_x) nil ∷ storing (left_fact var_x ∷ []) (right_fact first_of_x ∷ []) nil ∷ []
-- bound by `new`, an input, `lookup`, a left side, and `$x` by the rule itself
near_misses Unbound =
    naming x (parallel (giving var_x nil) (replicated (giving var_x nil))) ∷ taking var_x (giving var_x nil) ∷ lookup a x (giving var_x nil) nil
    ∷ storing (left_fact var_x ∷ []) (right_fact var_x ∷ []) (giving var_x nil) ∷ adding_public ∷ []
-- beside one another; in the second branch of a lookup; a pattern takes up what is bound
near_misses Rebound =
    parallel (naming x nil) (naming x nil) ∷ lookup a x nil (naming x nil) ∷ taking var_x (taking var_x nil) ∷ naming x (taking var_x nil) ∷ []
near_misses SortClash =
    naming x (giving (variable fresh_x) nil) ∷ naming public_x (giving (variable fresh_x) nil) ∷ taking (variable public_x) (giving var_x nil)
    ∷ taking (variable fresh_x) (giving (variable fresh_x) nil) ∷ lookup a fresh_x (giving var_x nil) nil ∷ []
-- `0`; an unlock without a lock, which is for annotation to refuse; 64 in all; locks beside one another
near_misses ScopeFull =
    nil ∷ act (unlock (public (codes "s")) 0) nil ∷ locking 64 nil ∷ naming x (locking 63 nil) ∷ naming x (relocking 63 nil) ∷ parallel (locking 64 nil) (locking 64 nil) ∷ []

-- each flaw below the one that counts next, which stands above it or to the left, and so earlier
abbrev pub later_but_first : Flaw → List (Proc × List ℕ)
later_but_first BadFunction = (naming reserved_x (giving unknown nil), 1 ∷ []) ∷ []
later_but_first ReservedVar = (telling (named (codes "Init")) (naming reserved_x nil), 1 ∷ []) ∷ []
later_but_first ReservedFact = (telling (shown_fact a) (telling shown_two (telling (named (codes "Init")) nil)), 1 ∷ 1 ∷ []) ∷ []
later_but_first FactClash = (taking first_of_x (telling (shown_fact a) (telling shown_two nil)), 1 ∷ 1 ∷ []) ∷ []
later_but_first PatternDestructor = (parallel (giving var_x nil) (taking first_of_x nil), 2 ∷ []) ∷ []
later_but_first Unbound = (parallel (naming x (naming x nil)) (giving var_x nil), 2 ∷ []) ∷ []
later_but_first Rebound = (naming x (giving (variable public_x) (naming x nil)), 1 ∷ 1 ∷ []) ∷ []
later_but_first SortClash = (naming x (parallel (locking 64 nil) (giving (variable public_x) nil)), 1 ∷ 2 ∷ []) ∷ []
later_but_first ScopeFull = []

-- one flaw at several places: above counts before below, left before right, and what is below the left before the right
abbrev pub twice_flawed : List (Proc × List ℕ)
twice_flawed =
    (giving var_x (giving var_x nil), []) ∷ (parallel (giving var_x nil) (giving var_x nil), 1 ∷ [])
    ∷ (test a b (replicated (giving var_x nil)) (giving var_x nil), 1 ∷ 1 ∷ []) ∷ []

-- of each of these processes this flaw of scope counts, at its path, where these variables are in scope
abbrev pub AreScopeFlawed : Sig → List Var → Flaw → List (Proc × List ℕ) → Type 0
AreScopeFlawed g scope w [] = Unit {0}
AreScopeFlawed g scope w (e ∷ es) = IsFirstScopeFlaw g scope e.0 w e.1 × AreScopeFlawed g scope w es

-- none of these has one
abbrev pub HaveNoScopeFlaw : Sig → List Var → List Proc → Type 0
HaveNoScopeFlaw g scope [] = Unit {0}
HaveNoScopeFlaw g scope (p ∷ ps) = HasNoScopeFlaw g scope p × HaveNoScopeFlaw g scope ps

-- y
abbrev pub var_y : Tree
var_y = variable (plain (codes "y"))

-- flaws of scope where x is in scope, with the paths of their places
abbrev pub scope_flawed : Flaw → List (Proc × List ℕ)
-- beside x; below a `new` that binds x again, and a sign that clashes; in a second branch; at the first of two places
scope_flawed Unbound =
    (giving (pair var_x var_y) nil, []) ∷ (naming x (giving (variable public_x) (giving var_y nil)), 1 ∷ 1 ∷ [])
    ∷ (lookup var_x (plain (codes "y")) (giving var_y nil) (giving var_y nil), 2 ∷ []) ∷ (parallel (giving var_y nil) (giving var_y nil), 1 ∷ []) ∷ []
-- by `new`, by a look-up, whatever the sign; behind a sign that clashes
scope_flawed Rebound =
    (naming x nil, []) ∷ (naming fresh_x nil, []) ∷ (lookup a x nil nil, []) ∷ (giving (variable fresh_x) (naming x nil), 1 ∷ []) ∷ []
scope_flawed SortClash =
    (giving (variable fresh_x) nil, []) ∷ (taking (variable public_x) nil, []) ∷ (parallel (giving var_x nil) (giving (variable fresh_x) nil), 2 ∷ []) ∷ []
scope_flawed _ = []

-- none: x is taken up; y is bound; other flaws
abbrev pub scope_right : List Proc
scope_right =
    nil ∷ giving var_x (taking var_x nil) ∷ taking (pair var_x var_y) (giving var_y nil) ∷ naming (plain (codes "y")) (giving (pair var_x var_y) nil)
    ∷ giving unknown nil ∷ naming reserved_x nil ∷ telling (named (codes "Init")) nil ∷ telling (shown_fact a) (telling shown_two nil) ∷ taking first_of_x nil
    ∷ locking 64 nil ∷ []
