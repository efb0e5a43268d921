-- What a part is otherwise weighs less than the part.
use Rattle.std.proofs.Common.{rules, ◌≡◌, ◌<◌, ◌+◌, ℕ, Bool, true, List, [], ◌∷◌, ◌++◌, Option, Some, None, refl, subst, arith}
use Rattle.std.specs.Prelude.{nat_lt}
use Rattle.sap_expect.specs.declared.wanted.Limit.{Limit}
use Rattle.sap_expect.specs.declared.wanted.Part.{Part}
use Rattle.sap_expect.specs.declared.wanted.Part.TheVariants.{File, Items, Builtin, MoreBuiltins, Function, Privacy, MoreFunctions, Parameters, MoreParameters, Lemma, Attribute, MoreAttributes, Mode, Process, Bars, Sequence, Arguments, Then, Else, NewName, Message, Facts, MoreFacts, Fact, Arrow, Shown, MoreShown, Term, Application, Terms, MoreTerms, Pair, MoreParts, Equivalence, MoreEquivalence, Ended, Implication, MoreImplication, Disjunction, MoreDisjunction, Conjunction, MoreConjunction, Formula, Truth, Atom, UpperAtom, LowerAtom, Times, Time, Binders, MoreBinders}
use Rattle.sap_expect.specs.declared.wanted.Test.{Test}
use Rattle.sap_expect.specs.FileTable.{Open, Turn, Wanted, all_opened, otherwise, part}
use Rattle.sap_expect.specs.code.Steps.{part_weight, total}

-- what is less than this, if it is there
abbrev is_less : ℕ → ℕ → Option Turn → ℕ → Bool
is_less m n None k = true
is_less m n (Some t) k = nat_lt (total (all_opened m n t.1)) k

is_lighter : (m n : ℕ) (p : Part) → is_less m n (otherwise p) (part_weight p) ≡ true
is_lighter m n File = refl
is_lighter m n Items = refl
is_lighter m n Builtin = refl
is_lighter m n MoreBuiltins = refl
is_lighter m n Function = refl
is_lighter m n Privacy = refl
is_lighter m n MoreFunctions = refl
is_lighter m n Parameters = refl
is_lighter m n MoreParameters = refl
is_lighter m n Lemma = refl
is_lighter m n Attribute = refl
is_lighter m n MoreAttributes = refl
is_lighter m n Mode = refl
is_lighter m n Process = refl
is_lighter m n Bars = refl
is_lighter m n Sequence = refl
is_lighter m n Arguments = refl
is_lighter m n Then = refl
is_lighter m n Else = refl
is_lighter m n NewName = refl
is_lighter m n Message = refl
is_lighter m n Facts = refl
is_lighter m n MoreFacts = refl
is_lighter m n Fact = refl
is_lighter m n Arrow = refl
is_lighter m n Shown = refl
is_lighter m n MoreShown = refl
is_lighter m n Term = refl
is_lighter m n Application = refl
is_lighter m n Terms = refl
is_lighter m n MoreTerms = refl
is_lighter m n Pair = refl
is_lighter m n MoreParts = refl
is_lighter m n Equivalence = refl
is_lighter m n MoreEquivalence = refl
is_lighter m n Ended = refl
is_lighter m n Implication = refl
is_lighter m n MoreImplication = refl
is_lighter m n Disjunction = refl
is_lighter m n MoreDisjunction = refl
is_lighter m n Conjunction = refl
is_lighter m n MoreConjunction = refl
is_lighter m n Formula = refl
is_lighter m n Truth = refl
is_lighter m n Atom = refl
is_lighter m n UpperAtom = refl
is_lighter m n LowerAtom = refl
is_lighter m n Times = refl
is_lighter m n Time = refl
is_lighter m n Binders = refl
is_lighter m n MoreBinders = refl

total-append : (vs us : List Open) → total (vs ++ us) ≡ total vs + total us
total-append [] us = omega arith
total-append (v ∷ vs) us = omega (arith, total-append vs us)

less_of : (m n : ℕ) → nat_lt m n ≡ true → m < n
less_of m n e = search rules

pub lighter : (m n : ℕ) (p : Part) (l : Limit) (i : ℕ) (t : Test) (other : List Wanted) (vs : List Open) → otherwise p ≡ Some (t, other) → total (all_opened m n other ++ vs) < total ((part p l, i) ∷ vs)
lighter m n p l i t other vs e =
    let lt : total (all_opened m n other) < part_weight p = less_of (total (all_opened m n other)) (part_weight p) (subst (λ (o : Option Turn). is_less m n o (part_weight p) ≡ true) e (is_lighter m n p)) in
    omega (arith, lt, total-append (all_opened m n other) vs)
