-- Lines that fill `know 'a'`, by hand.
use Rattle.std.proofs.Common.{◌≡◌, ℕ, zero, suc, List, [], ◌∷◌, ◌++◌, map, Some, slice_get, refl, sym, ap, ◌∙◌, subst, arith}
use Rattle.std.specs.Prelude.{codes, All, Contains}
use Rattle.std.proofs.lemmas.List.Elements.{All-nil, All-cons, All-head, All-contains}
use Rattle.sap_terms.specs.AdversaryFacts.{k_fact}
use Rattle.sap_terms.specs.Equations.{equations}
use Rattle.sap_terms.specs.Laws.{LeavesAreNormal}
use Rattle.sap_terms.specs.Normal.{IsNormalForm}
use Rattle.sap_terms.specs.Trace.{Trace}
use Rattle.sap_terms.specs.Tree.{Tree, public, apply}
use Rattle.sap_terms.specs.View.{term, tree}
use Rattle.sap_terms.specs.declared.term.Term.{Term}
use Rattle.sap_terms.proofs.PlainLaws.Items.{item_cases, first_item}
use Rattle.sap_rewrite.specs.Laws.{FormIsOne}
use Rattle.sap_derive.specs.Found.{IsFoundBy, NoneTwice}
use Rattle.sap_derive.specs.Lines.{Give, no_lines, one_more, IsLine, writes, applies}
use Rattle.sap_derive.specs.Near.{IsNear, IsSubterm, whole, within}
use Rattle.sap_derive.specs.declared.derivation.Derivation.{Derivation}
use Rattle.sap_derive.specs.declared.line.Line.{Line}
use Rattle.sap_derive.specs.declared.line.Line.TheVariants as derived
use Rattle.sap_process.specs.Configuration.{Config, initial}
use Rattle.sap_process.specs.Proc as process
use Rattle.sap_process.specs.StepExamples.{a, b}
use Rattle.sap_runs.specs.Limits.{HasFewNodes}
use Rattle.sap_runs.specs.Marks.{Mark}
use Rattle.sap_runs.specs.declared.process_step.PStep.{PStep}
use Rattle.sap_runs.specs.declared.process_step.PStep.TheVariants as line
use Rattle.sap_runs.specs.declared.short_step.SStep.{SStep}
use Rattle.sap_runs.specs.declared.short_step.SStep.TheVariants as short
use Rattle.sap_lines.specs.Lines.{IsProcessLine}
use Rattle.sap_intruder.specs.FilledRuns.{IsFilledRun, knowing, AsksFor, to_take, to_send, to_show, AreFoundFor, none_found, all_found, line_step, IsSparingRun, begins, goes_on}
use Rattle.sap_intruder.specs.ShortExamples.{bare, know_a, know_a_lines, know_a_trace}
use Rattle.sap_intruder.specs.SparingExamples.{idle_lines, repeated_lines, AreSparing, SparingByHand}
use Rattle.sap_intruder.proofs.Entering.{last_given, LastGiven, none_given}
use Rattle.sap_intruder.proofs.OneRun.{last_same, pushed}
use Rattle.sap_intruder.proofs.ShortByHand.{own_form}

-- ---- what is so of lines that fill one step

no_steps : (ss : List SStep) (lines : List PStep) (c : Config) (es : List Tree) (tr : Trace) (marks : List Mark) → IsSparingRun bare process.nil ss lines c es tr marks → ss ≡ []
    → (lines ≡ []) × (es ≡ [])
no_steps _ _ _ _ _ _ begins e = (refl, refl)
no_steps _ _ _ _ _ _ (goes_on {ss = ss} s step found given inner label run are fills is) e = absurd (pushed ss s e)

-- what was found for `know 'a'`, and the line of the step
record FoundForA (lines : List PStep) : Type 0 where
  step : PStep
  goal : Tree
  derivation : Derivation
  given : List Tree
  form : IsNormalForm (equations bare) a goal
  found : IsFoundBy bare [] goal derivation given
  are : lines ≡ map line_step derivation.lines ++ step ∷ []

found_for : (s : SStep) (c : Config) (es : List Tree) (found : List Line) (given : List Tree) (step : PStep) → s ≡ short.Know (term a) → es ≡ [] → AreFoundFor bare c es s found given
    → FoundForA (map line_step found ++ step ∷ [])
found_for _ c es _ _ step e none none_found = absurd (cc (e))
found_for s c es _ _ step e none (all_found {x = x} {d = d} {given = given} asks is) = record {
  step = step;
  goal = x;
  derivation = d;
  given = given;
  form = asked s x e asks;
  found = subst (λ (ts : List Tree). IsFoundBy bare ts x d given) none is;
  are = refl;
} where
  asked : (s : SStep) (x : Tree) → s ≡ short.Know (term a) → AsksFor bare c s x → IsNormalForm (equations bare) a x
  asked _ x e (to_take form) = absurd (cc (e))
  asked _ x e (to_send on) = absurd (cc (e))
  asked _ x e (to_show {u = u} form) = let same : u ≡ term a = cc (e) in subst (λ (v : Term). IsNormalForm (equations bare) (tree v) x) same form

one_step : (ss : List SStep) (lines : List PStep) (c : Config) (es : List Tree) (tr : Trace) (marks : List Mark) → IsSparingRun bare process.nil ss lines c es tr marks → ss ≡ know_a → FoundForA lines
one_step _ _ _ _ _ _ begins e = absurd (cc (e))
one_step _ _ _ _ _ _ (goes_on {ss = ss} {before = before} {c = c} {es = es} {tr = tr} {marks = marks} s step found given inner label run are fills is) e =
    let ends = last_same ss [] s (short.Know (term a)) e in
    let none = no_steps ss before c es tr marks run ends.0 in
    subst (λ (xs : List PStep). FoundForA (xs ++ (map line_step found ++ step ∷ []))) (sym none.0) (found_for s c es found given step ends.1 none.1 are)

-- ---- two lines that write names down

line_named : (l : Line) (n : List ℕ) → line_step l ≡ line.Public n → l ≡ derived.Public n
line_named (derived.Public m) n e = let same : m ≡ n = cc (e) in ap derived.Public same
line_named (derived.Apply f ks) n e = absurd (cc (e))

lines_named : (ls : List Line) (m n : List ℕ) → map line_step ls ≡ line.Public m ∷ line.Public n ∷ [] → ls ≡ derived.Public m ∷ derived.Public n ∷ []
lines_named [] m n e = absurd (cc (e))
lines_named (k ∷ []) m n e = absurd (cc (e))
lines_named (k ∷ l ∷ []) m n e =
    let first : line_step k ≡ line.Public m = cc (e) in
    let second : line_step l ≡ line.Public n = cc (e) in
    let one = line_named k m first in
    let two = line_named l n second in
    λ i. one i ∷ two i ∷ []
lines_named (k ∷ l ∷ j ∷ ls) m n e = absurd (cc (e))

name_given : (ts : List Tree) (l : Line) (n : List ℕ) (u : Tree) → l ≡ derived.Public n → IsLine bare ts l u → u ≡ public n
name_given ts _ n _ e (writes m) = let same : m ≡ n = cc (e) in ap public same
name_given ts _ n _ e (applies f ks us u p arity at form size) = absurd (cc (e))

names_given : (ls : List Line) (us : List Tree) (m n : List ℕ) → Give bare [] ls us → ls ≡ derived.Public m ∷ derived.Public n ∷ [] → us ≡ public m ∷ public n ∷ []
names_given ls us m n h e =
    let second = last_given bare [] us ls (derived.Public m ∷ []) (derived.Public n) h e in
    let first = last_given bare [] second.before (derived.Public m ∷ []) [] (derived.Public m) second.give refl in
    let none = none_given bare [] first.before [] first.give refl in
    let one = name_given ([] ++ first.before) (derived.Public m) m first.term refl first.last in
    let two = name_given ([] ++ second.before) (derived.Public n) n second.term refl second.last in
    let firsts : second.before ≡ public m ∷ [] = first.are ∙ (λ i. none i ++ one i ∷ []) in
    second.are ∙ (λ i. firsts i ++ two i ∷ [])

-- what two such lines give for `know 'a'`
two_given : (lines : List PStep) (m n : List ℕ) (step : PStep) → lines ≡ (line.Public m ∷ line.Public n ∷ []) ++ step ∷ [] → (h : FoundForA lines) → h.given ≡ public m ∷ public n ∷ []
two_given lines m n step e h =
    let ends = last_same (map line_step h.derivation.lines) (line.Public m ∷ line.Public n ∷ []) h.step step (sym h.are ∙ e) in
    names_given h.derivation.lines h.given m n h.found.lines (lines_named h.derivation.lines m n ends.0)

-- 'b' doesn't stand in 'a'
stands_in_a : (t u : Tree) → u ≡ a → IsSubterm t u → t ≡ a
stands_in_a t _ e whole = e
stands_in_a t _ e (within i s) = absurd (cc (e))

-- the first byte of a public name, or 0
abbrev name_byte : Tree → ℕ
name_byte (public (x ∷ xs)) = x
name_byte t = 0

no_name : a ≡ b → ⊥
no_name e = let byte : name_byte a ≡ name_byte b = ap name_byte e in omega (arith, byte)

module _ (leaves : LeavesAreNormal) (one : FormIsOne) where
  not_near : (x : Tree) → IsNormalForm (equations bare) a x → IsNear [] x b → ⊥
  not_near x form near =
      let above : x ≡ near.above = item_cases x near.above near.among in
      let goal : x ≡ a = one (equations bare) a x a form (own_form leaves) in
      no_name (sym (stands_in_a b near.above (sym above ∙ goal) near.stands))

  idle : ¬ AreSparing know_a idle_lines
  idle (c, es, tr, marks, run) =
      let h = one_step know_a idle_lines c es tr marks run refl in
      let given = two_given idle_lines (codes "b") (codes "a") (line.Know 1) refl h in
      let near = subst (All (IsNear [] h.goal)) given h.found.near in
      not_near h.goal h.form (All-head (IsNear [] h.goal) b (a ∷ []) near)

  repeated : ¬ AreSparing know_a repeated_lines
  repeated (c, es, tr, marks, run) =
      let h = one_step know_a repeated_lines c es tr marks run refl in
      let given = two_given repeated_lines (codes "a") (codes "a") (line.Know 1) refl h in
      let once = subst NoneTwice given h.found.once in
      let same : 0 ≡ 1 = once 0 1 a refl refl in
      omega (arith, same)

  once_a : NoneTwice (a ∷ [])
  once_a zero zero t e f = refl
  once_a zero (suc j) t e f = absurd (cc)
  once_a (suc i) j t e f = absurd (cc)

  found_a : IsFoundBy bare [] a (record { lines = derived.Public (codes "a") ∷ []; entry = 0 }) (a ∷ [])
  found_a = record {
    lines = one_more [] [] (derived.Public (codes "a")) a no_lines (writes (codes "a"));
    goal_is = refl;
    near = All-cons (IsNear [] a) a [] (record { above = a; among = first_item a []; stands = whole }) (All-nil (IsNear [] a));
    once = once_a;
    new = λ i j t e f. absurd (cc);
  }

  pub by_hand : SparingByHand
  by_hand = record {
    sparing =
        goes_on (short.Know (term a)) (line.Know 0) (derived.Public (codes "a") ∷ []) (a ∷ []) [] (k_fact a ∷ []) begins
        (all_found {d = record { lines = derived.Public (codes "a") ∷ []; entry = 0 }} (to_show (own_form leaves)) found_a) (knowing (record { term = a; entry = refl; over = tt; form = own_form leaves })) (IsProcessLine.knows 0 a refl);
    filled =
        IsFilledRun.follows (short.Know (term a)) (line.Know 1) [] (k_fact a ∷ [])
        (IsFilledRun.finds (line.Public (codes "a")) (IsFilledRun.finds (line.Public (codes "b")) IsFilledRun.starts tt (IsProcessLine.writes (codes "b"))) tt (IsProcessLine.writes (codes "a")))
        (knowing (record { term = a; entry = refl; over = tt; form = own_form leaves })) (IsProcessLine.knows 1 a refl);
    idle = idle;
    repeated = repeated;
    alone = λ h. let none = (no_steps [] (line.Public (codes "b'\nknow 0\npub 'c") ∷ []) h.0 h.1 h.2 h.3 h.4 refl).0 in absurd (cc (none));
  }
