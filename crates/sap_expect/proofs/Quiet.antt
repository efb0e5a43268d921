-- What may be missing has behind it what goes on with nothing before it, so that whatever is wanted can be had.
use Rattle.std.proofs.Common.{◌≡◌, ℕ, Bool, true, false, List, [], ◌∷◌, ◌++◌, Option, Some, None, refl, sym, ap, subst}
use Rattle.std.specs.Prelude.{codes, not, ◌&&◌, ◌||◌, if◌then◌else◌}
use Rattle.std.specs.List.{list_all}
use Rattle.sap_grammar.specs.Words.{Word, is_lower, is_mark, is_upper, mark}
use Rattle.sap_expect.specs.declared.wanted.Part.{Part}
use Rattle.sap_expect.specs.declared.wanted.Part.TheVariants.{Application, Arguments, Arrow, Atom, Attribute, Bars, Binders, Builtin, Conjunction, Disjunction, Else, Ended, Equivalence, Fact, Facts, File, Formula, Function, Implication, Items, Lemma, LowerAtom, Message, Mode, MoreAttributes, MoreBinders, MoreBuiltins, MoreConjunction, MoreDisjunction, MoreEquivalence, MoreFacts, MoreFunctions, MoreImplication, MoreParameters, MoreParts, MoreShown, MoreTerms, NewName, Pair, Parameters, Privacy, Process, Sequence, Shown, Term, Terms, Then, Time, Times, Truth, UpperAtom}
use Rattle.sap_expect.specs.declared.wanted.Test.{Test}
use Rattle.sap_expect.specs.FileTable.{Open, Row, Takes, Turn, Wanted, all_opened, any_name, arity, capital, in_quotes, is_wanted, level, nil, otherwise, part, row_among, rows, sign, small, takes_level, takes_other, takes_row, takes_word, word}

-- with this word nothing goes on that may be missing
abbrev pub is_quiet : Word → Bool
is_quiet w =
    not (is_mark (codes "(") w) && (not (is_mark (codes ";") w) && (not (is_mark (codes "else") w) && (not (is_mark (codes "|") w) && (not (is_mark (codes "||") w)
    && (not (is_mark (codes "&") w) && (not (is_mark (codes "==>") w) && not (is_mark (codes "<=>") w)))))))

-- such a part may be missing
abbrev pub is_empty : Part → Bool
is_empty Bars = true
is_empty Arguments = true
is_empty Then = true
is_empty Else = true
is_empty Application = true
is_empty MoreEquivalence = true
is_empty Ended = true
is_empty MoreImplication = true
is_empty MoreDisjunction = true
is_empty MoreConjunction = true
is_empty Truth = true
is_empty p = false

-- such a part may end with one that is missing, or where levels change
abbrev pub is_open : Part → Bool
is_open Process = true
is_open Bars = true
is_open Sequence = true
is_open Arguments = true
is_open Then = true
is_open Else = true
is_open Fact = true
is_open Term = true
is_open Application = true
is_open Terms = true
is_open Pair = true
is_open MoreParts = true
is_open Equivalence = true
is_open MoreEquivalence = true
is_open Ended = true
is_open Implication = true
is_open MoreImplication = true
is_open Disjunction = true
is_open MoreDisjunction = true
is_open Conjunction = true
is_open MoreConjunction = true
is_open Formula = true
is_open Truth = true
is_open Atom = true
is_open UpperAtom = true
is_open LowerAtom = true
is_open p = false

-- what is wanted, and behind it what goes on quietly or not, can go on quietly
abbrev pub quiet_first : Wanted → Bool → Bool
quiet_first (sign x) q = is_quiet (mark x)
quiet_first (part p l) q = if is_empty p then q else true
quiet_first (level c) q = q
quiet_first v q = true

abbrev pub quiet_before : List Wanted → Bool → Bool
quiet_before [] q = q
quiet_before (v ∷ vs) q = quiet_first v (quiet_before vs q)

-- it can be had before what goes on quietly or not
abbrev pub can_close : Wanted → Bool → Bool
can_close (word x) q = is_lower x || is_upper x
can_close (part p l) q = not (is_open p) || q
can_close (level c) q = q
can_close v q = true

abbrev pub closes_before : List Wanted → Bool → Bool
closes_before [] q = true
closes_before (v ∷ vs) q = can_close v (quiet_before vs q) && closes_before vs q

-- so of what is wanted, with nothing behind it
abbrev pub quiet : List Open → Bool
quiet [] = false
quiet (v ∷ vs) = quiet_first v.0 (quiet vs)

abbrev pub closes : List Open → Bool
closes [] = true
closes (v ∷ vs) = can_close v.0 (quiet vs) && closes vs

pub both_true : (a b : Bool) → (a && b) ≡ true → (a ≡ true) × (b ≡ true)
both_true true b e = (refl, e)
both_true false b e = absurd (cc (e))

pub true_both : {a b : Bool} → a ≡ true → b ≡ true → (a && b) ≡ true
true_both {a = a} {b = b} e f = rw (e, f) refl

-- what is opened is wanted
quiet_opened : (m n : ℕ) (us : List Wanted) (vs : List Open) → quiet (all_opened m n us ++ vs) ≡ quiet_before us (quiet vs)
quiet_opened m n [] vs = refl
quiet_opened m n (u ∷ us) vs = ap (quiet_first u) (quiet_opened m n us vs)

closes_opened : (m n : ℕ) (us : List Wanted) (vs : List Open) → closes_before us (quiet vs) ≡ true → closes vs ≡ true → closes (all_opened m n us ++ vs) ≡ true
closes_opened m n [] vs e f = f
closes_opened m n (u ∷ us) vs e f =
    let h = both_true (can_close u (quiet_before us (quiet vs))) (closes_before us (quiet vs)) e in
    true_both (subst (λ (q : Bool). can_close u q ≡ true) (sym (quiet_opened m n us vs)) h.0) (closes_opened m n us vs h.1 f)

-- where something goes on quietly, no less can be had than where it doesn't
same_if : (a b c : Bool) → (a ≡ true → b ≡ true) → (if c then a else true) ≡ true → (if c then b else true) ≡ true
same_if a b true f e = f e
same_if a b false f e = refl

same_or : (a b c : Bool) → (a ≡ true → b ≡ true) → (c || a) ≡ true → (c || b) ≡ true
same_or a b true f e = refl
same_or a b false f e = f e

quiet_first_more : (v : Wanted) (a b : Bool) → (a ≡ true → b ≡ true) → quiet_first v a ≡ true → quiet_first v b ≡ true
quiet_first_more (sign x) a b f e = e
quiet_first_more (word x) a b f e = e
quiet_first_more any_name a b f e = e
quiet_first_more small a b f e = e
quiet_first_more capital a b f e = e
quiet_first_more in_quotes a b f e = e
quiet_first_more nil a b f e = e
quiet_first_more arity a b f e = e
quiet_first_more (part p l) a b f e = same_if a b (is_empty p) f e
quiet_first_more (level c) a b f e = f e

can_close_more : (v : Wanted) (a b : Bool) → (a ≡ true → b ≡ true) → can_close v a ≡ true → can_close v b ≡ true
can_close_more (sign x) a b f e = e
can_close_more (word x) a b f e = e
can_close_more any_name a b f e = e
can_close_more small a b f e = e
can_close_more capital a b f e = e
can_close_more in_quotes a b f e = e
can_close_more nil a b f e = e
can_close_more arity a b f e = e
can_close_more (part p l) a b f e = same_or a b (not (is_open p)) f e
can_close_more (level c) a b f e = f e

quiet_more : (us : List Wanted) (a b : Bool) → (a ≡ true → b ≡ true) → quiet_before us a ≡ true → quiet_before us b ≡ true
quiet_more [] a b f e = f e
quiet_more (u ∷ us) a b f e = quiet_first_more u (quiet_before us a) (quiet_before us b) (quiet_more us a b f) e

closes_more : (us : List Wanted) (a b : Bool) → (a ≡ true → b ≡ true) → closes_before us a ≡ true → closes_before us b ≡ true
closes_more [] a b f e = refl
closes_more (u ∷ us) a b f e =
    let h = both_true (can_close u (quiet_before us a)) (closes_before us a) e in
    true_both (can_close_more u (quiet_before us a) (quiet_before us b) (quiet_more us a b f) h.0) (closes_more us a b f h.1)

-- each row of a part can be had where the part can
abbrev pub rows_close : Part → Bool
rows_close p = list_all (λ (r : Row). closes_before r.2 (is_open p)) (rows p)

all_rows_close : (p : Part) → rows_close p ≡ true
all_rows_close File = refl
all_rows_close Items = refl
all_rows_close Builtin = refl
all_rows_close MoreBuiltins = refl
all_rows_close Function = refl
all_rows_close Privacy = refl
all_rows_close MoreFunctions = refl
all_rows_close Parameters = refl
all_rows_close MoreParameters = refl
all_rows_close Lemma = refl
all_rows_close Attribute = refl
all_rows_close MoreAttributes = refl
all_rows_close Mode = refl
all_rows_close Process = refl
all_rows_close Bars = refl
all_rows_close Sequence = refl
all_rows_close Arguments = refl
all_rows_close Then = refl
all_rows_close Else = refl
all_rows_close NewName = refl
all_rows_close Message = refl
all_rows_close Facts = refl
all_rows_close MoreFacts = refl
all_rows_close Fact = refl
all_rows_close Arrow = refl
all_rows_close Shown = refl
all_rows_close MoreShown = refl
all_rows_close Term = refl
all_rows_close Application = refl
all_rows_close Terms = refl
all_rows_close MoreTerms = refl
all_rows_close Pair = refl
all_rows_close MoreParts = refl
all_rows_close Equivalence = refl
all_rows_close MoreEquivalence = refl
all_rows_close Ended = refl
all_rows_close Implication = refl
all_rows_close MoreImplication = refl
all_rows_close Disjunction = refl
all_rows_close MoreDisjunction = refl
all_rows_close Conjunction = refl
all_rows_close MoreConjunction = refl
all_rows_close Formula = refl
all_rows_close Truth = refl
all_rows_close Atom = refl
all_rows_close UpperAtom = refl
all_rows_close LowerAtom = refl
all_rows_close Times = refl
all_rows_close Time = refl
all_rows_close Binders = refl
all_rows_close MoreBinders = refl

-- so can what it is otherwise
abbrev pub other_closes : Part → Option Turn → Bool
other_closes p None = true
other_closes p (Some t) = closes_before t.1 (is_open p)

all_others_close : (p : Part) → other_closes p (otherwise p) ≡ true
all_others_close File = refl
all_others_close Items = refl
all_others_close Builtin = refl
all_others_close MoreBuiltins = refl
all_others_close Function = refl
all_others_close Privacy = refl
all_others_close MoreFunctions = refl
all_others_close Parameters = refl
all_others_close MoreParameters = refl
all_others_close Lemma = refl
all_others_close Attribute = refl
all_others_close MoreAttributes = refl
all_others_close Mode = refl
all_others_close Process = refl
all_others_close Bars = refl
all_others_close Sequence = refl
all_others_close Arguments = refl
all_others_close Then = refl
all_others_close Else = refl
all_others_close NewName = refl
all_others_close Message = refl
all_others_close Facts = refl
all_others_close MoreFacts = refl
all_others_close Fact = refl
all_others_close Arrow = refl
all_others_close Shown = refl
all_others_close MoreShown = refl
all_others_close Term = refl
all_others_close Application = refl
all_others_close Terms = refl
all_others_close MoreTerms = refl
all_others_close Pair = refl
all_others_close MoreParts = refl
all_others_close Equivalence = refl
all_others_close MoreEquivalence = refl
all_others_close Ended = refl
all_others_close Implication = refl
all_others_close MoreImplication = refl
all_others_close Disjunction = refl
all_others_close MoreDisjunction = refl
all_others_close Conjunction = refl
all_others_close MoreConjunction = refl
all_others_close Formula = refl
all_others_close Truth = refl
all_others_close Atom = refl
all_others_close UpperAtom = refl
all_others_close LowerAtom = refl
all_others_close Times = refl
all_others_close Time = refl
all_others_close Binders = refl
all_others_close MoreBinders = refl

-- what can be had where a part that is open has before it what goes on quietly
in_place : (p : Part) (us : List Wanted) (q : Bool) → (not (is_open p) || q) ≡ true → closes_before us (is_open p) ≡ true → closes_before us q ≡ true
in_place p us q e h = by (is_open p) e h
  where
    by : (c : Bool) → (not c || q) ≡ true → closes_before us c ≡ true → closes_before us q ≡ true
    by true f g = closes_more us true q (λ x. f) g
    by false f g = closes_more us false q (λ x. absurd (cc (x))) g

abbrev turn_closes : Bool → Option Turn → Bool
turn_closes c None = true
turn_closes c (Some t) = closes_before t.1 c

among_closes : (c : Bool) (rs : List Row) (w : Word) (t : Test) (rest : List Wanted) → list_all (λ (r : Row). closes_before r.2 c) rs ≡ true → row_among rs w ≡ Some (t, rest)
    → closes_before rest c ≡ true
among_closes c [] w t rest h e = absurd (cc (e))
among_closes c (r ∷ rs) w t rest h e =
    let both = both_true (closes_before r.2 c) (list_all (λ (r : Row). closes_before r.2 c) rs) h in
    by (is_wanted r.0 w) both.0 (λ f. among_closes c rs w t rest both.1 f) e
  where
    by : (b : Bool) → closes_before r.2 c ≡ true → (row_among rs w ≡ Some (t, rest) → closes_before rest c ≡ true) → (if b then Some (r.1, r.2) else row_among rs w) ≡ Some (t, rest)
        → closes_before rest c ≡ true
    by true first others f = subst (λ (o : Option Turn). turn_closes c o ≡ true) f first
    by false first others f = others f

other_in : (p : Part) (o : Option Turn) (t : Test) (other : List Wanted) → other_closes p o ≡ true → o ≡ Some (t, other) → closes_before other (is_open p) ≡ true
other_in p None t other h e = absurd (cc (e))
other_in p (Some x) t other h e =
    let these : x.1 ≡ other = cc (e) in
    subst (λ (us : List Wanted). closes_before us (is_open p) ≡ true) these h

-- so it stays, word by word
pub closes_on : {n k : ℕ} {vs next : List Open} {w : Word} → Takes n vs w k next → closes vs ≡ true → closes next ≡ true
closes_on (takes_word {v = v} {vs = vs} e) h = (both_true (can_close v (quiet vs)) (closes vs) h).1
closes_on (takes_row {n = n} {m = m} {p = p} {t = t} {rest = rest} {vs = vs} {w = w} e o) h =
    let both = both_true (not (is_open p) || quiet vs) (closes vs) h in
    closes_opened m n rest vs (in_place p rest (quiet vs) both.0 (among_closes (is_open p) (rows p) w t rest (all_rows_close p) e)) both.1
closes_on (takes_other {n = n} {m = m} {p = p} {t = t} {other = other} {vs = vs} none e o s) h =
    let both = both_true (not (is_open p) || quiet vs) (closes vs) h in
    closes_on s (closes_opened m n other vs (in_place p other (quiet vs) both.0 (other_in p (otherwise p) t other (all_others_close p) e)) both.1)
closes_on (takes_level {vs = vs} s) h = closes_on s (both_true (quiet vs) (closes vs) h).1
