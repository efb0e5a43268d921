-- Where the words alone go on, one limit of levels at most keeps the last of them from standing there.
use Rattle.std.proofs.Common.{◌≡◌, ◌⊎◌, inl, inr, ℕ, Bool, true, false, List, [], ◌∷◌, ◌++◌, Option, Some, None, refl, ◌∙◌, ap, subst}
use Rattle.std.specs.Prelude.{◌||◌, if◌then◌else◌, is_some}
use Rattle.std.specs.List.{list_all}
use Rattle.sap_grammar.specs.Words.{Word}
use Rattle.sap_expect.specs.declared.nested.Nested.{Nested}
use Rattle.sap_expect.specs.declared.nested.Nested.TheVariants.{Term as ATerm, Process as AProcess, Formula as AFormula}
use Rattle.sap_expect.specs.declared.wanted.Change.{Change}
use Rattle.sap_expect.specs.declared.wanted.Limit.{Limit}
use Rattle.sap_expect.specs.declared.wanted.Part.{Part}
use Rattle.sap_expect.specs.declared.wanted.Part.TheVariants.{Application, Arguments, Arrow, Atom, Attribute, Bars, Binders, Builtin, Conjunction, Disjunction, Else, Ended, Equivalence, Fact, Facts, File, Formula, Function, Implication, Items, Lemma, LowerAtom, Message, Mode, MoreAttributes, MoreBinders, MoreBuiltins, MoreConjunction, MoreDisjunction, MoreEquivalence, MoreFacts, MoreFunctions, MoreImplication, MoreParameters, MoreParts, MoreShown, MoreTerms, NewName, Pair, Parameters, Privacy, Process, Sequence, Shown, Term, Terms, Then, Time, Times, Truth, UpperAtom}
use Rattle.sap_expect.specs.declared.wanted.Test.{Test}
use Rattle.sap_expect.specs.declared.wanted.Test.TheVariants.{Always, GoesOn, HasLevel, HasRoom, Never}
use Rattle.sap_expect.specs.FileTable.{Open, Row, Takes, TakesBy, Turn, Wanted, all_but, all_opened, changed, every_level, file, holds, is_this, is_wanted, level, may_hold, levels_in, no_level, otherwise, part, passes, row, row_among, rows, takes_level, takes_other, takes_row, takes_word}
use Rattle.sap_expect.specs.FileWords.{IsFileWords}
use Rattle.sap_expect.specs.FirstWrong.{GoOn}
use Rattle.sap_expect.specs.Letters.{AreLettered}
use Rattle.sap_expect.specs.Levels.{AreTakenBy, GoesBy, IsTooDeep, more_taken, none_taken}
use Rattle.sap_expect.proofs.Quiet.{both_true}
use Rattle.sap_expect.proofs.Takes.{one_list}
use Rattle.sap_expect.proofs.Taken.{all_more, file_goes, goes_file, last_taken, may_hold_so, passes_more, taken_more}

-- the test counts no levels
abbrev is_plain : Test → Bool
is_plain Always = true
is_plain Never = true
is_plain t = false

-- each test of levels is one of a part that has them
abbrev rows_plain : Part → Bool
rows_plain p = list_all (λ (r : Row). is_plain r.1 || is_some (levels_in p)) (rows p)

all_rows_plain : (p : Part) → rows_plain p ≡ true
all_rows_plain File = refl
all_rows_plain Items = refl
all_rows_plain Builtin = refl
all_rows_plain MoreBuiltins = refl
all_rows_plain Function = refl
all_rows_plain Privacy = refl
all_rows_plain MoreFunctions = refl
all_rows_plain Parameters = refl
all_rows_plain MoreParameters = refl
all_rows_plain Lemma = refl
all_rows_plain Attribute = refl
all_rows_plain MoreAttributes = refl
all_rows_plain Mode = refl
all_rows_plain Process = refl
all_rows_plain Bars = refl
all_rows_plain Sequence = refl
all_rows_plain Arguments = refl
all_rows_plain Then = refl
all_rows_plain Else = refl
all_rows_plain NewName = refl
all_rows_plain Message = refl
all_rows_plain Facts = refl
all_rows_plain MoreFacts = refl
all_rows_plain Fact = refl
all_rows_plain Arrow = refl
all_rows_plain Shown = refl
all_rows_plain MoreShown = refl
all_rows_plain Term = refl
all_rows_plain Application = refl
all_rows_plain Terms = refl
all_rows_plain MoreTerms = refl
all_rows_plain Pair = refl
all_rows_plain MoreParts = refl
all_rows_plain Equivalence = refl
all_rows_plain MoreEquivalence = refl
all_rows_plain Ended = refl
all_rows_plain Implication = refl
all_rows_plain MoreImplication = refl
all_rows_plain Disjunction = refl
all_rows_plain MoreDisjunction = refl
all_rows_plain Conjunction = refl
all_rows_plain MoreConjunction = refl
all_rows_plain Formula = refl
all_rows_plain Truth = refl
all_rows_plain Atom = refl
all_rows_plain UpperAtom = refl
all_rows_plain LowerAtom = refl
all_rows_plain Times = refl
all_rows_plain Time = refl
all_rows_plain Binders = refl
all_rows_plain MoreBinders = refl

abbrev plain_in : Bool → Option Turn → Type 0
plain_in c None = Unit {0}
plain_in c (Some x) = (is_plain x.0 || c) ≡ true

among_plain : (c : Bool) (rs : List Row) (w : Word) (t : Test) (rest : List Wanted) → list_all (λ (r : Row). is_plain r.1 || c) rs ≡ true → row_among rs w ≡ Some (t, rest) → (is_plain t || c) ≡ true
among_plain c [] w t rest h e = absurd (cc (e))
among_plain c (r ∷ rs) w t rest h e =
    let both = both_true (is_plain r.1 || c) (list_all (λ (r : Row). is_plain r.1 || c) rs) h in
    by (is_wanted r.0 w) both.0 (λ f. among_plain c rs w t rest both.1 f) e
  where
    by : (b : Bool) → (is_plain r.1 || c) ≡ true → (row_among rs w ≡ Some (t, rest) → (is_plain t || c) ≡ true) → (if b then Some (r.1, r.2) else row_among rs w) ≡ Some (t, rest) → (is_plain t || c) ≡ true
    by true first others f = subst (λ (o : Option Turn). plain_in c o) f first
    by false first others f = others f

-- a part that has levels, where a test fails that may hold
none_fails : (t : Test) (m n : ℕ) → is_plain t ≡ true → may_hold t ≡ true → holds t m n ≡ false → ⊥
none_fails Always m n e f g = absurd (cc (g))
none_fails Never m n e f g = absurd (cc (f))
none_fails HasLevel m n e f g = absurd (cc (e))
none_fails HasRoom m n e f g = absurd (cc (e))
none_fails GoesOn m n e f g = absurd (cc (e))

same_this : (c : Nested) → is_this c (Some c) ≡ true
same_this ATerm = refl
same_this AProcess = refl
same_this AFormula = refl

-- it may, where its own levels don't count
spared : (c : Nested) (p : Part) (t : Test) (m n : ℕ) → levels_in p ≡ Some c → may_hold t ≡ true → passes (all_but c) p t m n ≡ true
spared c p t m n e f = by (is_this c (levels_in p)) (ap (is_this c) e ∙ same_this c)
  where
    by : (b : Bool) → b ≡ true → (if b then may_hold t else holds t m n) ≡ true
    by true g = f
    by false g = absurd (cc (g))

-- of what levels the test is that fails
its_levels : (p : Part) (w : Word) (t : Test) (rest : List Wanted) (m n : ℕ) → row p w ≡ Some (t, rest) → may_hold t ≡ true → holds t m n ≡ false → (c : Nested) × (levels_in p ≡ Some c)
its_levels p w t rest m n e f g = by (levels_in p) refl (among_plain (is_some (levels_in p)) (rows p) w t rest (all_rows_plain p) e)
  where
    plain_or : (b : Bool) → (b || false) ≡ true → b ≡ true
    plain_or true h = refl
    plain_or false h = absurd (cc (h))

    by : (o : Option Nested) → levels_in p ≡ o → (is_plain t || is_some o) ≡ true → (c : Nested) × (levels_in p ≡ Some c)
    by None h i = absurd (none_fails t m n (plain_or (is_plain t) i) f g)
    by (Some c) h i = (c, h)

-- what a part is otherwise may be so always, but for arguments
abbrev is_terms : Part → Bool
is_terms Terms = true
is_terms p = false

abbrev other_plain : Option Turn → Bool
other_plain None = true
other_plain (Some t) = is_plain t.0

all_others_plain : (p : Part) → (is_terms p || other_plain (otherwise p)) ≡ true
all_others_plain File = refl
all_others_plain Items = refl
all_others_plain Builtin = refl
all_others_plain MoreBuiltins = refl
all_others_plain Function = refl
all_others_plain Privacy = refl
all_others_plain MoreFunctions = refl
all_others_plain Parameters = refl
all_others_plain MoreParameters = refl
all_others_plain Lemma = refl
all_others_plain Attribute = refl
all_others_plain MoreAttributes = refl
all_others_plain Mode = refl
all_others_plain Process = refl
all_others_plain Bars = refl
all_others_plain Sequence = refl
all_others_plain Arguments = refl
all_others_plain Then = refl
all_others_plain Else = refl
all_others_plain NewName = refl
all_others_plain Message = refl
all_others_plain Facts = refl
all_others_plain MoreFacts = refl
all_others_plain Fact = refl
all_others_plain Arrow = refl
all_others_plain Shown = refl
all_others_plain MoreShown = refl
all_others_plain Term = refl
all_others_plain Application = refl
all_others_plain Terms = refl
all_others_plain MoreTerms = refl
all_others_plain Pair = refl
all_others_plain MoreParts = refl
all_others_plain Equivalence = refl
all_others_plain MoreEquivalence = refl
all_others_plain Ended = refl
all_others_plain Implication = refl
all_others_plain MoreImplication = refl
all_others_plain Disjunction = refl
all_others_plain MoreDisjunction = refl
all_others_plain Conjunction = refl
all_others_plain MoreConjunction = refl
all_others_plain Formula = refl
all_others_plain Truth = refl
all_others_plain Atom = refl
all_others_plain UpperAtom = refl
all_others_plain LowerAtom = refl
all_others_plain Times = refl
all_others_plain Time = refl
all_others_plain Binders = refl
all_others_plain MoreBinders = refl

its_terms : (p : Part) (t : Test) (other : List Wanted) (m n : ℕ) → otherwise p ≡ Some (t, other) → may_hold t ≡ true → holds t m n ≡ false → is_terms p ≡ true
its_terms p t other m n e f g = by (is_terms p) (subst (λ (o : Option Turn). (is_terms p || other_plain o) ≡ true) e (all_others_plain p))
  where
    by : (b : Bool) → (b || is_plain t) ≡ true → b ≡ true
    by true h = refl
    by false h = absurd (none_fails t m n h f g)

-- where a term is wanted, what the words alone take is taken where the levels of terms don't count
term_alone : {n m k : ℕ} {l : Limit} {vs next : List Open} {w : Word} → TakesBy no_level n ((part Term l, m) ∷ vs) w k next → TakesBy (all_but ATerm) n ((part Term l, m) ∷ vs) w k next
term_alone (takes_word e) = absurd (cc (e))
term_alone (takes_row e h) = takes_row e h
term_alone (takes_other e o h t) = absurd (cc (o))

terms_alone : {n m k : ℕ} (p : Part) (l : Limit) (t : Test) (other : List Wanted) {vs next : List Open} {w : Word} → is_terms p ≡ true → row p w ≡ None → otherwise p ≡ Some (t, other) → may_hold t ≡ true
    → TakesBy no_level n (all_opened m n other ++ vs) w k next → TakesBy (all_but ATerm) n ((part p l, m) ∷ vs) w k next
terms_alone {n = n} {m = m} {k = k} Terms l t other {vs = vs} {next = next} {w = w} is e o h r =
    takes_other e refl refl (term_alone (subst (λ (us : List Wanted). TakesBy no_level n (all_opened m n us ++ vs) w k next) (one_list (otherwise Terms) refl o) r))
terms_alone p l t other is e o h r = absurd (cc (is))

-- what the words alone take is taken, or is where the levels of terms, of processes or of formulas don't count
abbrev OneKeeps : ℕ → List Open → Word → ℕ → List Open → Type 0
OneKeeps n vs w k next = Takes n vs w k next ⊎ ((c : Nested) × TakesBy (all_but c) n vs w k next)

row_alone : {n m : ℕ} (p : Part) (l : Limit) (t : Test) (rest : List Wanted) (vs : List Open) (w : Word) → row p w ≡ Some (t, rest) → may_hold t ≡ true
    → OneKeeps n ((part p l, m) ∷ vs) w n (all_opened m n rest ++ vs)
row_alone {n = n} {m = m} p l t rest vs w e h = by (holds t m n) refl
  where
    by : (b : Bool) → holds t m n ≡ b → OneKeeps n ((part p l, m) ∷ vs) w n (all_opened m n rest ++ vs)
    by true f = inl (takes_row e f)
    by false f =
        let c = its_levels p w t rest m n e h f in
        inr (c.0, takes_row e (spared c.0 p t m n c.1 h))

other_alone : {n m k : ℕ} (p : Part) (l : Limit) (t : Test) (other : List Wanted) (vs next : List Open) (w : Word) → row p w ≡ None → otherwise p ≡ Some (t, other) → may_hold t ≡ true
    → TakesBy no_level n (all_opened m n other ++ vs) w k next → OneKeeps n (all_opened m n other ++ vs) w k next → OneKeeps n ((part p l, m) ∷ vs) w k next
other_alone {n = n} {m = m} {k = k} p l t other vs next w e o h r q = by (holds t m n) refl q
  where
    by : (b : Bool) → holds t m n ≡ b → OneKeeps n (all_opened m n other ++ vs) w k next → OneKeeps n ((part p l, m) ∷ vs) w k next
    by true f (inl u) = inl (takes_other e o f u)
    by true f (inr u) = inr (u.0, takes_other e o (passes_more (all_but u.0) p t m n f) u.1)
    by false f u = inr (ATerm, terms_alone p l t other (its_terms p t other m n o h f) e o h r)

level_alone : {n i k : ℕ} {c : Change} {vs next : List Open} {w : Word} → OneKeeps (changed c n i) vs w k next → OneKeeps n ((level c, i) ∷ vs) w k next
level_alone (inl u) = inl (takes_level u)
level_alone (inr u) = inr (u.0, takes_level u.1)

takes_alone : {n k : ℕ} {vs next : List Open} {w : Word} → TakesBy no_level n vs w k next → OneKeeps n vs w k next
takes_alone (takes_word e) = inl (takes_word e)
takes_alone (takes_row {p = p} {l = l} {t = t} {rest = rest} {vs = vs} {w = w} e h) = row_alone p l t rest vs w e h
takes_alone (takes_other {p = p} {l = l} {t = t} {other = other} {vs = vs} {next = next} {w = w} e o h r) = other_alone p l t other vs next w e o h r (takes_alone r)
takes_alone (takes_level r) = level_alone (takes_alone r)

-- words that go on alone, of which all but the last are a file's first words, are a file's first words, or one limit keeps them
pub one_keeps : (ws : List Word) (w : Word) → AreLettered (ws ++ w ∷ []) → GoOn IsFileWords ws → GoesBy no_level (ws ++ w ∷ []) → (GoOn IsFileWords (ws ++ w ∷ []) → ⊥)
    → (c : Nested) × IsTooDeep c (ws ++ w ∷ [])
one_keeps ws w l h g never =
    let s = file_goes ws h in
    by s.0 s.1 s.2 (takes_alone (last_taken ws s.2 g.2))
  where
    by : (n : ℕ) (vs : List Open) → AreTakenBy every_level 0 file ws n vs → OneKeeps n vs w g.0 g.1 → (c : Nested) × IsTooDeep c (ws ++ w ∷ [])
    by n vs s (inl t) = absurd (never (goes_file (ws ++ w ∷ []) l (g.0, g.1, taken_more s t)))
    by n vs s (inr t) = (t.0, record { isnt = never; alone = (g.0, g.1, taken_more (all_more (all_but t.0) s) t.1) })

may_so : (c : Nested) (p : Part) (t : Test) (m n : ℕ) → passes (all_but c) p t m n ≡ true → may_hold t ≡ true
may_so c p t m n e = by (is_this c (levels_in p)) e
  where
    by : (b : Bool) → (if b then may_hold t else holds t m n) ≡ true → may_hold t ≡ true
    by true h = h
    by false h = may_hold_so t m n h

-- and what goes on where some levels don't count goes on by the words alone
pub fewer_count : (c : Nested) {n k : ℕ} {vs next : List Open} {w : Word} → TakesBy (all_but c) n vs w k next → TakesBy no_level n vs w k next
fewer_count c (takes_word e) = takes_word e
fewer_count c (takes_row {n = n} {m = m} {p = p} {t = t} e h) = takes_row e (may_so c p t m n h)
fewer_count c (takes_other {n = n} {m = m} {p = p} {t = t} e o h r) = takes_other e o (may_so c p t m n h) (fewer_count c r)
fewer_count c (takes_level r) = takes_level (fewer_count c r)

pub all_fewer : (c : Nested) {n k : ℕ} {vs next : List Open} {ws : List Word} → AreTakenBy (all_but c) n vs ws k next → AreTakenBy no_level n vs ws k next
all_fewer c none_taken = none_taken
all_fewer c (more_taken t r) = more_taken (fewer_count c t) (all_fewer c r)
