-- Each legal run of a process has lines opposite.
use Rattle.std.proofs.Common.{◌≡◌, ℕ, zero, suc, ◌+◌, ◌<◌, ◌^◌, List, [], ◌∷◌, ◌++◌, Some, refl, sym, ap, ◌∙◌, subst, arith, slice_get, length, true, ◌||◌}
use Rattle.sap_forward.specs.Answered.{Draws, IsAnswered, StartsLinked, first_rule_tables, first_state}
use Rattle.sap_translate.proofs.Shared.Marked.{marks_join}
use Rattle.sap_forward.proofs.Lines.{legal_join}
use Rattle.sap_forward.specs.Opposite.{HasOppositeRuleRuns, IsOppositeRuleRun}
use Rattle.sap_rule_lines.specs.RuleLines.{init_line}
use Rattle.sap_steps.specs.Runs.{IsLegalRun}
use Rattle.sap_lines.specs.Lines.{IsProcessLine}
use Rattle.sap_lines.specs.Runs.{IsLegalProcessRun}
use Rattle.sap_runs.specs.Limits.{HasFewNodes}
use Rattle.sap_restrict.specs.Shown.{HasFact}
use Rattle.sap_restrict.specs.ReservedFacts.{init_fact}
use Rattle.sap_terms.proofs.PlainLaws.Items.{first_item}
use Rattle.sap_terms.specs.Message.{IsMessage}
use Rattle.sap_terms.specs.declared.var.Sort.TheVariants.{Msg, Pub, Fresh as FreshSort}
use Rattle.sap_terms.specs.declared.var.Sort.{Sort}
use Rattle.sap_terms.specs.Equations.{equations}
use Rattle.sap_terms.specs.Piles.{nothing}
use Rattle.sap_terms.specs.Signature.{Sig, HoldsBuiltins}
use Rattle.sap_terms.specs.Trace.{Trace, shown}
use Rattle.sap_terms.specs.Tree.{Tree}
use Rattle.sap_terms.specs.declared.fact.Fact.{Fact}
use Rattle.sap_process.specs.Configuration.{Config, initial}
use Rattle.sap_process.specs.Proc.{Proc, node_count}
use Rattle.sap_process.specs.Ready.{IsReady}
use Rattle.sap_locks.specs.Annotation.{IsAnnotation}
use Rattle.sap_place.specs.StateFacts.{state_fact}
use Rattle.sap_rule.specs.RuleSteps.{empty_state}
use Rattle.sap_runs.specs.Inner.{InnerAction}
use Rattle.sap_runs.specs.Marks.{Mark, marks_of}
use Rattle.sap_runs.specs.declared.process_step.PStep.{PStep}
use Rattle.sap_runs.specs.declared.process_step.PStep.TheVariants as line
use Rattle.sap_steps.specs.Lines.{IsLine}
use Rattle.sap_translate.specs.LineCounts.{back_count}
use Rattle.sap_templates.specs.Templates as rules
use Rattle.sap_templates.specs.Templates.{rules_of}
use Rattle.sap_translate.specs.relation.Agents.{Agent, running, env_of}
use Rattle.sap_translate.specs.relation.Answers.{gets}
use Rattle.sap_translate.specs.relation.Envs.{filled, no_env, some_term}
use Rattle.sap_forward.specs.Counted.{rule_count, all_copying}
use Rattle.sap_rule_lines.specs.Least.{is_among, names_drawn}
use Rattle.sap_forward.specs.LinesFor.{no_lines}
use Rattle.sap_forward.specs.Linked.{Linked, EnvWithin}
use Rattle.sap_forward.specs.RuleLinesPass.{BringNoName}
use Rattle.sap_forward.specs.code.Begun.{AreCopying, Converted}
use Rattle.sap_forward.proofs.Counting.{counts, copying_join, first_copying, grown, back_grown}
use Rattle.sap_forward.proofs.EachLine.{written_for, for_join}
use Rattle.sap_forward.proofs.Evaluated.{rule_within}
use Rattle.sap_forward.proofs.Passing.{StandSoFar, brought_join, written_passes}
use Rattle.sap_forward.proofs.Given.{drawn_join, among_join, among_self, or_left, or_right}
use Rattle.sap_forward.proofs.Premises.{Laws, RunLaws}
use Rattle.sap_forward.proofs.Tabled.{length_join}

-- a message of a sort
some_message : (laws : Laws) (g : Sig) (x : Sort) → IsMessage g x (some_term x)
some_message laws g Msg = record { ground = tt; over = tt; normal = laws.leaves.of_public_name (equations g) []; sorted = refl }
some_message laws g Pub = record { ground = tt; over = tt; normal = laws.leaves.of_public_name (equations g) []; sorted = refl }
some_message laws g FreshSort = record { ground = tt; over = tt; normal = laws.leaves.of_fresh_name (equations g) 0; sorted = refl }

-- the first line
pub init_is : (laws : Laws) (g : Sig) (W : Tree → Type 0) (q : Proc) → IsLine g (rules_of q) W empty_state init_line (init_fact ∷ []) (gets empty_state (state_fact [] [] ∷ []))
init_is laws g W q = record {
  rule = rules.init_rule;
  named = laws.named q rules.init_rule (first_item rules.init_rule (rules.place_rules [] [] q));
  left = [];
  right = state_fact [] [] ∷ [];
  rest = [];
  takes = nothing;
  fires = record {
    choice = filled no_env;
    binds = record { vars = sym (laws.init g); agrees = tt };
    use_ = record {
      messages = λ v. some_message laws g v.sort;
      takes = tt;
      shows = (record { name = refl; persistent = refl; args = tt }, tt);
      adds = (record { name = refl; persistent = refl; args = tt }, tt);
    };
    within = rule_within g W (filled no_env) rules.init_rule tt (tt, tt) (tt, tt);
  };
  becomes = refl;
}

pub draws_last : (drawn : List ℕ) (step : PStep) → ((n : ℕ) → is_among (names_drawn (step ∷ [])) n ≡ true → is_among drawn n ≡ true) → Draws drawn step
draws_last drawn (line.New t n) h = h n (among_self n)
draws_last drawn (line.Name n) h = h n (among_self n)
draws_last drawn (line.Nil t) h = tt
draws_last drawn (line.Par t) h = tt
draws_last drawn (line.Rep t) h = tt
draws_last drawn (line.Out t) h = tt
draws_last drawn (line.Send t k) h = tt
draws_last drawn (line.In t k) h = tt
draws_last drawn (line.Sync a b) h = tt
draws_last drawn (line.Then t) h = tt
draws_last drawn (line.Else t) h = tt
draws_last drawn (line.Event t) h = tt
draws_last drawn (line.Insert t) h = tt
draws_last drawn (line.Delete t) h = tt
draws_last drawn (line.Found t) h = tt
draws_last drawn (line.Missing t) h = tt
draws_last drawn (line.Lock t) h = tt
draws_last drawn (line.Unlock t) h = tt
draws_last drawn (line.Embedded t ks b) h = tt
draws_last drawn (line.Public a) h = tt
draws_last drawn (line.Apply f ks) h = tt
draws_last drawn (line.Know k) h = tt

module _ (laws : Laws) (g : Sig) (p q : Proc) (ready : IsReady g p) (small : node_count p < 2 ^ 64) (annotated : IsAnnotation p q) (drawn : List ℕ) where
  pub first_linked : Linked g HasFewNodes q drawn first_rule_tables (Some (running [] no_env q) ∷ []) (initial q) [] [] first_state ((init_fact ∷ []) ∷ [])
  first_linked = record {
    rest = laws.starts g p q ready small annotated;
    known = refl;
    tabled = record {
      threads = record { live = first_live; apart = first_apart; given = first_given; all = refl };
      facts = record { live = λ t k f e n. absurd (cc); apart = λ t u k e n. absurd (cc); given = λ t k e. absurd (cc); all = refl };
      apart = λ t u k e n. absurd (cc);
      count = refl;
    };
    made = λ n m. absurd (omega (arith, m.1));
    entries = λ x m. absurd (omega (arith, m.1));
    envs = first_env;
    stored = λ x v e. absurd (cc);
  }
    where
      first_live : (t k : ℕ) (f : Fact) → slice_get (Some (state_fact [] []) ∷ []) t ≡ Some (Some f) → slice_get (0 ∷ []) t ≡ Some k → slice_get (Some (state_fact [] []) ∷ []) k ≡ Some (Some f)
      first_live zero k f e n = let same : 0 ≡ k = cc in subst (λ i. slice_get (Some (state_fact [] []) ∷ []) i ≡ Some (Some f)) same e
      first_live (suc t) k f e n = absurd (cc)

      first_apart : (t u k : ℕ) → slice_get (0 ∷ []) t ≡ Some k → slice_get (0 ∷ []) u ≡ Some k → t ≡ u
      first_apart zero zero k e n = refl
      first_apart zero (suc u) k e n = absurd (cc)
      first_apart (suc t) u k e n = absurd (cc)

      first_given : (t k : ℕ) → slice_get (0 ∷ []) t ≡ Some k → k < 1
      first_given zero k e = let same : 0 ≡ k = cc in omega arith
      first_given (suc t) k e = absurd (cc)

      none_within : EnvWithin g HasFewNodes no_env
      none_within x m = elim m [ ]

      first_env : (t : ℕ) (a : Agent) → slice_get (Some (running [] no_env q) ∷ []) t ≡ Some (Some a) → EnvWithin g HasFewNodes (env_of a)
      first_env zero a e = let same : running [] no_env q ≡ a = cc in subst (λ x. EnvWithin g HasFewNodes (env_of x)) same none_within
      first_env (suc t) a e = absurd (cc)

-- what one more line makes of the lines so far
pub record Grows {g : Sig} {W : Tree → Type 0} {q : Proc} {drawn : List ℕ} {lines : List PStep} {step : PStep} {c d : Config} {es fs : List Tree} {tr tr2 : Trace} {ms ms2 : List Mark} (w : Converted g W q drawn lines c es tr ms) (a : IsAnswered g W q drawn w.agents c w.tables w.state w.full step d fs tr2 ms2) : Type 0 where
  pub after : Converted g W q drawn (lines ++ step ∷ []) d fs tr2 (ms ++ ms2)
  pub rest : after.rest ≡ w.rest ++ a.lines
  pub agents : after.agents ≡ a.later
  pub tables : after.tables ≡ a.behind

-- what is written for a line is asked of where the lines before it lead to
pub grows : {g : Sig} {W : Tree → Type 0} {q : Proc} {drawn : List ℕ} {lines : List PStep} {step : PStep} {c d : Config} {es fs : List Tree} {tr tr2 : Trace} {ms ms2 : List Mark} (w : Converted g W q drawn lines c es tr ms) (a : IsAnswered g W q drawn w.agents c w.tables w.state w.full step d fs tr2 ms2) → StandSoFar q lines c es → Grows w a
grows {g = g} {W = W} {q = q} {drawn = drawn} {lines = lines} {step = step} w a stand = let own = written_for a.written in let count = counts (all_copying [] lines) w.copying a.written in record {
  after = record {
    rest = w.rest ++ a.lines;
    agents = a.later;
    tables = a.behind;
    state = a.state;
    full = w.full ++ a.more;
    legal = legal_join W g (rules_of q) (init_line ∷ w.rest) a.lines w.state a.state w.full a.more w.legal a.legal;
    linked = a.linked;
    marked = marks_join w.full a.more ∙ (λ i. w.marked i ++ a.marked i);
    short = let one = length_join w.rest a.lines in let two = length_join lines (step ∷ []) in let three = w.short in let four = a.short in omega arith;
    given = w.given ++ own.given;
    each = for_join w.each own.are;
    names = ap (λ x. x ++ own.given) w.names ∙ sym own.names;
    copying = subst (λ x. AreCopying x a.later) (sym (copying_join [] lines step)) count.copying;
    counted = grown lines step w.rest a.lines w.counted count.counted;
    back = back_grown lines step w.rest a.lines w.back count.back;
    brought = brought_join q lines step w.rest a.lines w.brought (λ test process passed own. written_passes test (stand test process passed).store a.written own);
  };
  rest = refl;
  agents = refl;
  tables = refl;
}

-- what is converted before the first line
pub record Starts (g : Sig) (q : Proc) (drawn : List ℕ) (c : Config) (es : List Tree) : Type 0 where
  pub so_far : Converted g HasFewNodes q drawn [] c es [] []
  pub rest : so_far.rest ≡ []
  pub agents : so_far.agents ≡ Some (running [] no_env q) ∷ []
  pub tables : so_far.tables ≡ first_rule_tables

pub first_converted : (g : Sig) (q : Proc) → StartsLinked g q → (drawn : List ℕ) → Starts g q drawn (initial q) []
first_converted g q starts drawn = record {
  so_far = record {
    rest = [];
    agents = Some (running [] no_env q) ∷ [];
    tables = first_rule_tables;
    state = first_state;
    full = (init_fact ∷ []) ∷ [];
    legal = IsLegalRun.further init_line (init_fact ∷ []) IsLegalRun.starts starts.line;
    linked = starts.linked drawn;
    marked = refl;
    short = omega arith;
    given = [];
    each = no_lines;
    names = refl;
    copying = first_copying q;
    counted = refl;
    back = refl;
    brought = λ test process passed. tt;
  };
  rest = refl;
  agents = refl;
  tables = refl;
}

module _ (laws : RunLaws) (g : Sig) (p q : Proc) (hold : HoldsBuiltins g) (ready : IsReady g p) (small : node_count p < 2 ^ 64) (annotated : IsAnnotation p q) (drawn : List ℕ) where
  -- the line behind a legal run is answered
  pub answered : {lines : List PStep} {c : Config} {es : List Tree} {tr : Trace} {ms : List Mark} (w : Converted g HasFewNodes q drawn lines c es tr ms) → IsLegalProcessRun g HasFewNodes q lines c es tr ms
      → (step : PStep) (inner : List InnerAction) (label : List Fact) (d : Config) (fs : List Tree) → Draws drawn step → IsProcessLine g HasFewNodes c es step inner label d fs
      → IsAnswered g HasFewNodes q drawn w.agents c w.tables w.state w.full step d fs (tr ++ shown label) (marks_of inner label)
  answered {lines = lines} {c = c} {es = es} {tr = tr} {ms = ms} w run step inner label d fs draws is =
      let can = (laws.runs g q lines c es tr ms run).1 in
      let exact = laws.exactly g q lines c es tr ms hold (laws.ready g p q ready annotated) (laws.excludes g q lines c es tr ms run) in
      laws.lines g p q hold ready small annotated drawn w.tables w.agents c d es fs tr w.state w.full step inner label w.linked can exact draws is

  -- the names in what lines lead to stand in the process or in these lines
  pub stand_so_far : {lines : List PStep} {c : Config} {es : List Tree} {tr : Trace} {ms : List Mark} → IsLegalProcessRun g HasFewNodes q lines c es tr ms → StandSoFar q lines c es
  stand_so_far {lines = lines} {c = c} {es = es} {tr = tr} {ms = ms} run test process passed =
      laws.stand test g q lines c es tr ms hold (laws.ready g p q ready annotated) process passed run

  pub converted : {lines : List PStep} {c : Config} {es : List Tree} {tr : Trace} {ms : List Mark} → IsLegalProcessRun g HasFewNodes q lines c es tr ms → ((n : ℕ) → is_among (names_drawn lines) n ≡ true → is_among drawn n ≡ true) → Converted g HasFewNodes q drawn lines c es tr ms
  converted IsLegalProcessRun.starts h = (first_converted g q (laws.starts g p q ready small annotated) drawn).so_far
  converted (IsLegalProcessRun.further {lines = lines} {c = c} {d = d} {es = es} {fs = fs} {tr = tr} {marks = ms} step inner label run is) h =
      let joined : (n : ℕ) → is_among (names_drawn (lines ++ step ∷ [])) n ≡ (is_among (names_drawn lines) n || is_among (names_drawn (step ∷ [])) n) = λ n. ap (λ x. is_among x n) (drawn_join lines (step ∷ [])) ∙ among_join (names_drawn lines) (names_drawn (step ∷ [])) n in
      let w = converted run (λ n e. h n (joined n ∙ or_left (is_among (names_drawn lines) n) (is_among (names_drawn (step ∷ [])) n) e)) in
      let draws = draws_last drawn step (λ n e. h n (joined n ∙ or_right (is_among (names_drawn lines) n) (is_among (names_drawn (step ∷ [])) n) e)) in
      (grows w (answered w run step inner label d fs draws is) (stand_so_far run)).after

pushed : {A : Type 0} (xs : List A) (x : A) → xs ++ x ∷ [] ≡ [] → ⊥
pushed [] x e = absurd (cc)
pushed (y ∷ xs) x e = absurd (cc)

-- without lines nothing is known or shown
nothing_yet : {g : Sig} {q : Proc} {lines : List PStep} {c : Config} {es : List Tree} {tr : Trace} {ms : List Mark} → IsLegalProcessRun g HasFewNodes q lines c es tr ms → lines ≡ [] → (es ≡ []) × (tr ≡ []) × (ms ≡ [])
nothing_yet IsLegalProcessRun.starts e = (refl, refl, refl)
nothing_yet (IsLegalProcessRun.further {lines = lines} step inner label run is) e = absurd (pushed lines step e)

none_there : (k : ℕ) (f : Fact) → HasFact [] k f → ⊥
none_there zero f m = absurd (omega (arith, m.1))
none_there (suc k) f m = absurd (omega (arith, m.1))

-- no lines stand opposite to none
pub none_opposite : (laws : RunLaws) (g : Sig) (q : Proc) → IsOppositeRuleRun g q [] [] [] [] []
none_opposite laws g q = record {
  state = empty_state;
  full = [];
  legal = IsLegalRun.starts;
  admitted = λ w. laws.quiet w g [] (λ k f m e. none_there k f m);
  shows = refl;
  marked = refl;
  entries = refl;
  turns = refl;
  short = omega arith;
}

-- what is converted behind the last line is opposite to all
pub all_opposite : (laws : RunLaws) (g : Sig) (p q : Proc) → HoldsBuiltins g → IsReady g p → node_count p < 2 ^ 64 → IsAnnotation p q → (step : PStep) (lines : List PStep) (c : Config) (es : List Tree) (tr : Trace) (ms : List Mark)
    (w : Converted g HasFewNodes q (names_drawn (step ∷ lines)) (step ∷ lines) c es tr ms) → IsOppositeRuleRun g q (step ∷ lines) es tr ms (init_line ∷ w.rest)
all_opposite laws g p q hold ready small annotated step lines c es tr ms w =
    let same = laws.shows_the_same g p q hold ready small annotated w.agents c tr w.state w.full w.linked.rest in
    record {
      state = w.state;
      full = w.full;
      legal = w.legal;
      admitted = same.1;
      shows = same.0;
      marked = w.marked;
      entries = w.linked.known;
      turns = record { rest = w.rest; given = w.given; starts = refl; each = w.each; least = (w.tables.next, w.names) };
      short = let s = w.short in omega arith;
    }

module _ {g : Sig} {W : Tree → Type 0} {q : Proc} {drawn : List ℕ} {step : PStep} {lines : List PStep} {c : Config} {es : List Tree} {tr : Trace} {ms : List Mark} (w : Converted g W q drawn (step ∷ lines) c es tr ms) where
  -- so many lines of rules stand opposite to these
  pub all_counted : length (init_line ∷ w.rest) ≡ rule_count (step ∷ lines)
  all_counted = let h = w.counted in let k : length (init_line ∷ w.rest) ≡ length w.rest + 1 = omega arith in k ∙ ap (λ n. n + 1) h

  -- and as many of the process as there are stand opposite to those
  pub all_back : back_count (init_line ∷ w.rest) ≡ length (step ∷ lines)
  all_back = let k : back_count (init_line ∷ w.rest) ≡ back_count w.rest = omega arith in k ∙ w.back

-- the line that starts the rules brings no name
pub all_brought : {g : Sig} {W : Tree → Type 0} {q : Proc} {drawn : List ℕ} {lines : List PStep} {c : Config} {es : List Tree} {tr : Trace} {ms : List Mark} (w : Converted g W q drawn lines c es tr ms) → BringNoName q lines (init_line ∷ w.rest)
all_brought w test process passed = (tt, w.brought test process passed)

pub have_opposites : (laws : RunLaws) (g : Sig) (p q : Proc) → HoldsBuiltins g → IsReady g p → node_count p < 2 ^ 64 → IsAnnotation p q → HasOppositeRuleRuns g q
have_opposites laws g p q hold ready small annotated [] c es tr ms run =
    let none = nothing_yet run refl in
    ([], subst (λ x. IsOppositeRuleRun g q [] x tr ms []) (sym none.0) (subst (λ x. IsOppositeRuleRun g q [] [] x ms []) (sym none.1) (subst (λ x. IsOppositeRuleRun g q [] [] [] x []) (sym none.2) (none_opposite laws g q))), refl, refl)
have_opposites laws g p q hold ready small annotated (step ∷ lines) c es tr ms run =
    let w = converted laws g p q hold ready small annotated (names_drawn (step ∷ lines)) run (λ n e. e) in
    (init_line ∷ w.rest, all_opposite laws g p q hold ready small annotated step lines c es tr ms w, all_counted w, all_back w)
