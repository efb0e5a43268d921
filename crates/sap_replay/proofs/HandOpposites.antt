-- Opposite runs without lines, and of one line by which the adversary writes down a public name.
use Rattle.std.proofs.Common.{◌≡◌, ◌<◌, ◌≤◌, lit≤, lit<, ℕ, zero, suc, List, [], ◌∷◌, ◌++◌, length, Result, Ok, refl, sym, ap, subst, ◌∙◌, arith, length-append}
use Rattle.std.proofs.lemmas.List.{length-map}
use Rattle.std.proofs.lemmas.List.Elements.{All-cons, All-nil, All-contains}
use Rattle.std.specs.Prelude.{◌↔◌, codes, map, Contains}
use Rattle.sap_back.specs.Converted as back
use Rattle.sap_back.specs.LinesFor.{no_lines, more, writes}
use Rattle.sap_process_lines.specs.Tables.{first_process_tables, enters, with_known}
use Rattle.sap_gen.specs.Kept.{file_theory}
use Rattle.sap_lines.specs.Lines as lines_of
use Rattle.sap_lines.specs.Runs as process_runs
use Rattle.sap_lines.specs.Runs.{IsLegalProcessRun}
use Rattle.sap_process.specs.Configuration.{Config, initial}
use Rattle.sap_process.specs.Proc.{Proc}
use Rattle.sap_read.specs.Files.{FileContent, IsRunnable}
use Rattle.sap_restrict.specs.Laws.{QuietLaw}
use Rattle.sap_restrict.specs.Shown.{HasFact}
use Rattle.sap_restrict.specs.Standard.{IsAdmitted}
use Rattle.sap_rule.specs.RuleSteps.{RuleState, empty_state, gains}
use Rattle.sap_rule.specs.declared.rule.Rule.{Rule}
use Rattle.sap_run_lines.specs.Spellable.{IsWritableProcess, IsWritableRule}
use Rattle.sap_run_texts.specs.RunPrinted.{Each, process_run_text, rule_run_text}
use Rattle.sap_run_texts.specs.RunTexts.{IsProcessRunText, IsRuleRunText, lines_text, process_head, rule_head, headed, all_steps, no_lines as no_step_lines}
use Rattle.sap_run_lines.specs.LineText.{words_text}
use Rattle.sap_run_lines.specs.StepLines.{process_words, rule_words}
use Rattle.sap_run_texts.specs.Writable.{AreNumbered, CanBeNamed, RuleCanBeNamed}
use Rattle.sap_run_lines.specs.RunTerms.{IsRunContent}
use Rattle.sap_run_texts.specs.declared.limits.TheConstants.{MOST_PROCESS_STEPS, MOST_RULE_STEPS}
use Rattle.sap_run_texts.specs.declared.run.Run.TheVariants as run
use Rattle.sap_run_texts.specs.declared.run_fault.RunFault.{RunFault}
use Rattle.sap_runs.specs.Inner.{InnerAction}
use Rattle.sap_runs.specs.Limits.{HasFewNodes}
use Rattle.sap_runs.specs.Marks.{Mark}
use Rattle.sap_runs.specs.declared.process_step.PStep.{PStep}
use Rattle.sap_runs.specs.declared.process_step.PStep.TheVariants as line
use Rattle.sap_runs.specs.declared.rule_step.RStep.{RStep}
use Rattle.sap_runs.specs.declared.rule_step.RStep.TheVariants as rule_line
use Rattle.sap_steps.specs.Lines.{IsLine}
use Rattle.sap_steps.specs.Runs as rule_runs
use Rattle.sap_steps.specs.Runs.{IsLegalRun}
use Rattle.sap_terms.specs.Signature.{Sig}
use Rattle.sap_terms.specs.Trace.{Trace}
use Rattle.sap_terms.specs.Tree.{Tree, public}
use Rattle.sap_terms.specs.declared.fact.Fact.{Fact}
use Rattle.sap_replay.specs.Replays.{AreOpposite, IsJudgedText, IsOppositeText, rules_of_process, process_of_rules}
use Rattle.sap_replay.proofs.Ends.{same_ends}

-- the lines by which the adversary writes down a name
abbrev pub named : List ℕ → List PStep
named a = line.Public a ∷ []

abbrev pub named_by_rules : List ℕ → List RStep
named_by_rules a = rule_line.Public a ∷ []

-- opposite runs are judged alike
abbrev pub AlikeLaw : Type 0
AlikeLaw = (f : FileContent) (lines : List PStep) (rule_lines : List RStep) (text : List ℕ) → IsRunnable f → AreOpposite f lines rule_lines
    → IsJudgedText f (run.Process lines) text ↔ IsJudgedText f (run.Rules rule_lines) text

-- a text is one run
abbrev pub OneProcess : Type 0
OneProcess = (z : List ℕ) (o r : Result (List PStep) RunFault) → IsProcessRunText z o → IsProcessRunText z r → o ≡ r

abbrev pub OneOfRules : Type 0
OneOfRules = (z : List ℕ) (o r : Result (List RStep) RunFault) → IsRuleRunText z o → IsRuleRunText z r → o ≡ r

-- the texts of these lines are read
abbrev pub IsReadLine : Type 0
IsReadLine = IsProcessRunText (codes "process-run\npub 'a'\n") (Ok (named (codes "a")))

abbrev pub IsReadRule : Type 0
IsReadRule = IsRuleRunText (codes "rule-run\npub 'a'\n") (Ok (named_by_rules (codes "a")))

a_content : IsRunContent (codes "a")
a_content = record { is = refl; short = lit≤ tt }

pub line_is_read : ((s : PStep) → CanBeNamed s → AreNumbered (process_words s) → IsWritableProcess s)
    → ((ss : List PStep) → Each IsWritableProcess ss → length ss ≤ MOST_PROCESS_STEPS → IsProcessRunText (process_run_text ss) (Ok ss)) → IsReadLine
line_is_read can read = read (named (codes "a")) (can (line.Public (codes "a")) a_content (tt, (tt, tt)), tt) (lit≤ tt)

pub rule_is_read : ((s : RStep) → RuleCanBeNamed s → AreNumbered (rule_words s) → IsWritableRule s)
    → ((ss : List RStep) → Each IsWritableRule ss → length ss ≤ MOST_RULE_STEPS → IsRuleRunText (rule_run_text ss) (Ok ss)) → IsReadRule
rule_is_read can read = read (named_by_rules (codes "a")) (can (rule_line.Public (codes "a")) a_content (tt, (tt, tt)), tt) (lit≤ tt)

no_line_is_read : IsProcessRunText (codes "process-run\n") (Ok [])
no_line_is_read = headed refl (all_steps no_step_lines (lit≤ tt))

no_rule_is_read : IsRuleRunText (codes "rule-run\n") (Ok [])
no_rule_is_read = headed refl (all_steps no_step_lines (lit≤ tt))

-- the names 'a' and 'b' are two
abbrev name_byte : Tree → ℕ
name_byte (public (b ∷ z)) = b
name_byte t = 0

not_a : public (codes "a") ≡ public (codes "b") → ⊥
not_a e = let byte : 97 ≡ 98 = ap name_byte e in omega (arith, byte)

not_b : public (codes "b") ≡ public (codes "a") → ⊥
not_b e = let byte : 98 ≡ 97 = ap name_byte e in omega (arith, byte)

-- what shows nothing is admitted
none_at : (k : ℕ) (f : Fact) → HasFact [] k f → ⊥
none_at zero f m = absurd (omega (arith, m.1))
none_at (suc k) f m = absurd (omega (arith, m.1))

none_at_one : (k : ℕ) (f : Fact) → HasFact ([] ∷ []) k f → ⊥
none_at_one zero f m = absurd (omega (arith, m.1))
none_at_one (suc k) f m = none_at k f m

-- what stands in a list of one is that one
one_there : (x y : Tree) → Contains (x ∷ []) y → y ≡ x
one_there x y has = All-contains (λ (t : Tree). t ≡ x) (x ∷ []) y (All-cons (λ (t : Tree). t ≡ x) x [] refl (All-nil (λ (t : Tree). t ≡ x))) has

nothing_there : (y : Tree) → Contains [] y → ⊥
nothing_there y has = omega (arith, has.1)

-- what is known behind no line, and behind one that writes down a name
no_entries : {g : Sig} {p : Proc} {lines : List PStep} {c : Config} {es : List Tree} {tr : Trace} {ms : List Mark} → IsLegalProcessRun g HasFewNodes p lines c es tr ms → lines ≡ [] → es ≡ []
no_entries process_runs.starts e = refl
no_entries (process_runs.further {lines = lines} step inner label run is) e = absurd (pushed lines step e) where
  pushed : (xs : List PStep) (x : PStep) → xs ++ x ∷ [] ≡ [] → ⊥
  pushed [] x q = cc (q)
  pushed (y ∷ xs) x q = cc (q)

written_entry : {g : Sig} {c d : Config} {es fs : List Tree} {inner : List InnerAction} {label : List Fact} {a : List ℕ} → lines_of.IsProcessLine g HasFewNodes c es (line.Public a) inner label d fs → fs ≡ es ++ public a ∷ []
written_entry (lines_of.writes a) = refl

one_entry : {g : Sig} {p : Proc} {lines : List PStep} {c : Config} {es : List Tree} {tr : Trace} {ms : List Mark} (a : List ℕ) → IsLegalProcessRun g HasFewNodes p lines c es tr ms → lines ≡ named a → es ≡ public a ∷ []
one_entry a process_runs.starts e = absurd (cc (e))
one_entry {g = g} a (process_runs.further {lines = lines} {c = c} {d = d} {es = es} {fs = fs} step inner label run is) e =
    let ends = same_ends lines [] step (line.Public a) e in
    let now : fs ≡ es ++ public a ∷ [] = written_entry (subst (λ (s : PStep). lines_of.IsProcessLine g HasFewNodes c es s inner label d fs) ends.1 is) in
    now ∙ ap (λ (xs : List Tree). xs ++ public a ∷ []) (no_entries run ends.0)

no_state : {g : Sig} {rules : List Rule} {lines : List RStep} {s : RuleState} {full : Trace} → IsLegalRun g rules HasFewNodes lines s full → lines ≡ [] → s ≡ empty_state
no_state rule_runs.starts e = refl
no_state (rule_runs.further {lines = lines} step acts run is) e = absurd (pushed lines step e) where
  pushed : (xs : List RStep) (x : RStep) → xs ++ x ∷ [] ≡ [] → ⊥
  pushed [] x q = cc (q)
  pushed (y ∷ xs) x q = cc (q)

one_known : {g : Sig} {rules : List Rule} {lines : List RStep} {s : RuleState} {full : Trace} (a : List ℕ) → IsLegalRun g rules HasFewNodes lines s full → lines ≡ named_by_rules a → s.known ≡ public a ∷ []
one_known a rule_runs.starts e = absurd (cc (e))
one_known {g = g} {rules = rules} a (rule_runs.further {lines = lines} {s = s} {z = z} step acts run is) e =
    let ends = same_ends lines [] step (rule_line.Public a) e in
    let now : (acts ≡ []) × (z ≡ gains s (public a)) = subst (λ (l : RStep). IsLine g rules HasFewNodes s l acts z) ends.1 is in
    ap (λ (x : RuleState). x.known) now.1 ∙ ap (λ (x : RuleState). x.known ++ public a ∷ []) (no_state run ends.0)

-- a text has more lines than steps
lines_long : (ls : List (List ℕ)) → length ls ≤ length (lines_text ls)
lines_long [] = lit≤ tt
lines_long (l ∷ ls) =
    let rest = lines_long ls in
    let joined = length-append l (10 ∷ lines_text ls) in
    omega (arith, rest, joined)

module _ (quiet : QuietLaw) (f : FileContent) where
  admits : (g : Sig) → IsAdmitted g []
  admits g = λ w. quiet w g [] (λ k h m e. none_at k h m)

  admits_one : (g : Sig) → IsAdmitted g ([] ∷ [])
  admits_one g = λ w. quiet w g ([] ∷ []) (λ k h m e. none_at_one k h m)

  none_opposite : AreOpposite f [] []
  none_opposite = record {
    theory = file_theory f;
    compiled = refl;
    config = initial f.process;
    entries = [];
    trace = [];
    marks_of_both = [];
    legal = process_runs.starts;
    state = empty_state;
    full = [];
    legal_rules = rule_runs.starts;
    admitted = admits _;
    shows = refl;
    marked = refl;
    known = λ t k. k;
  }

  one_opposite : (a : List ℕ) → AreOpposite f (named a) (named_by_rules a)
  one_opposite a = record {
    theory = file_theory f;
    compiled = refl;
    config = initial f.process;
    entries = public a ∷ [];
    trace = [];
    marks_of_both = [];
    legal = process_runs.further {lines = []} (line.Public a) [] [] process_runs.starts (lines_of.writes a);
    state = gains empty_state (public a);
    full = [] ∷ [];
    legal_rules = rule_runs.further {lines = []} (rule_line.Public a) [] rule_runs.starts (refl, refl);
    admitted = admits_one _;
    shows = refl;
    marked = refl;
    known = λ t k. k;
  }

  none_converted : back.IsConvertedToProcess f.signature f.process [] []
  none_converted = record {
    state = empty_state;
    full = [];
    counted = record { legal = rule_runs.starts; admitted = admits f.signature };
    opposite = record { config = initial f.process; entries = []; legal = process_runs.starts; known = λ t k. k; short = lit≤ tt };
    count = refl;
    turns = record { own = []; last = first_process_tables; each = no_lines; is = refl };
  }

  one_converted : (a : List ℕ) → back.IsConvertedToProcess f.signature f.process (named_by_rules a) (named a)
  one_converted a = record {
    state = gains empty_state (public a);
    full = [] ∷ [];
    counted = record { legal = rule_runs.further {lines = []} (rule_line.Public a) [] rule_runs.starts (refl, refl); admitted = admits_one f.signature };
    opposite = record {
      config = initial f.process;
      entries = public a ∷ [];
      legal = process_runs.further {lines = []} (line.Public a) [] [] process_runs.starts (lines_of.writes a);
      known = λ t k. k;
      short = lit≤ tt;
    };
    count = refl;
    turns = record { own = named a; last = with_known (enters first_process_tables 0); each = more (writes a) no_lines; is = refl };
  }

  module _ (alike : AlikeLaw) (runnable : IsRunnable f) where
    pub rules_of_none : IsOppositeText f (run.Process []) (codes "rule-run\n")
    rules_of_none = rules_of_process [] none_opposite (λ text. alike f [] [] text runnable none_opposite) (λ few. no_rule_is_read)

    pub process_of_none : IsOppositeText f (run.Rules []) (codes "process-run\n")
    process_of_none =
        process_of_rules [] none_opposite none_converted
        (λ text. let both = alike f [] [] text runnable none_opposite in (both.1, both.0)) (λ few. no_line_is_read)

    pub rules_of_one : IsReadRule → IsOppositeText f (run.Process (named (codes "a"))) (codes "rule-run\npub 'a'\n")
    rules_of_one read =
        let o = one_opposite (codes "a") in
        rules_of_process (named_by_rules (codes "a")) o (λ text. alike f (named (codes "a")) (named_by_rules (codes "a")) text runnable o) (λ few. read)

    pub process_of_one : IsReadLine → IsOppositeText f (run.Rules (named_by_rules (codes "a"))) (codes "process-run\npub 'a'\n")
    process_of_one read =
        let o = one_opposite (codes "a") in
        process_of_rules (named (codes "a")) o (one_converted (codes "a"))
        (λ text. let both = alike f (named (codes "a")) (named_by_rules (codes "a")) text runnable o in (both.1, both.0)) (λ few. read)

-- the lines of which a text is that of an opposite run
record IsOfRules (f : FileContent) (lines : List PStep) (text : List ℕ) : Type 0 where
  rule_lines : List RStep
  opposite : AreOpposite f lines rule_lines
  read : length rule_lines ≤ MOST_RULE_STEPS → IsRuleRunText (rule_run_text rule_lines) (Ok rule_lines)
  layout : text ≡ rule_run_text rule_lines

record IsOfProcess (f : FileContent) (rule_lines : List RStep) (text : List ℕ) : Type 0 where
  lines : List PStep
  opposite : AreOpposite f lines rule_lines
  converted : back.IsConvertedToProcess f.signature f.process rule_lines lines
  read : length lines ≤ MOST_PROCESS_STEPS → IsProcessRunText (process_run_text lines) (Ok lines)
  layout : text ≡ process_run_text lines

of_rules : (f : FileContent) (lines : List PStep) (text : List ℕ) → IsOppositeText f (run.Process lines) text → IsOfRules f lines text
of_rules f lines _ (rules_of_process rule_lines o alike read) = record { rule_lines = rule_lines; opposite = o; read = read; layout = refl }

of_process : (f : FileContent) (rule_lines : List RStep) (text : List ℕ) → IsOppositeText f (run.Rules rule_lines) text → IsOfProcess f rule_lines text
of_process f rule_lines _ (process_of_rules lines o converted alike read) = record { lines = lines; opposite = o; converted = converted; read = read; layout = refl }

-- a text of so few bytes has as few steps
few_rules : (ss : List RStep) (text : List ℕ) → text ≡ rule_run_text ss → length text ≤ 5000 → length ss ≤ MOST_RULE_STEPS
few_rules ss text e few =
    let long = lines_long (rule_head ∷ map (λ (s : RStep). words_text (rule_words s)) ss) in
    let same : length text ≡ length (rule_run_text ss) = ap (λ (z : List ℕ). length z) e in
    let steps : length (map (λ (s : RStep). words_text (rule_words s)) ss) ≡ length ss = length-map ss (λ (s : RStep). words_text (rule_words s)) in
    omega (arith, long, same, steps, few)

few_lines : (ss : List PStep) (text : List ℕ) → text ≡ process_run_text ss → length text ≤ 5000 → length ss ≤ MOST_PROCESS_STEPS
few_lines ss text e few =
    let long = lines_long (process_head ∷ map (λ (s : PStep). words_text (process_words s)) ss) in
    let same : length text ≡ length (process_run_text ss) = ap (λ (z : List ℕ). length z) e in
    let steps : length (map (λ (s : PStep). words_text (process_words s)) ss) ≡ length ss = length-map ss (λ (s : PStep). words_text (process_words s)) in
    omega (arith, long, same, steps, few)

module _ (f : FileContent) where
  -- the lines that the text is read as are the opposite ones
  these_rules : OneOfRules → (lines : List PStep) (text : List ℕ) (ss : List RStep) → length text ≤ 5000 → IsRuleRunText text (Ok ss) → IsOppositeText f (run.Process lines) text → AreOpposite f lines ss
  these_rules one lines text ss few read t =
      let w = of_rules f lines text t in
      let again : IsRuleRunText text (Ok w.rule_lines) = subst (λ (z : List ℕ). IsRuleRunText z (Ok w.rule_lines)) (sym w.layout) (w.read (few_rules w.rule_lines text w.layout few)) in
      let same : ◌≡◌ {A = Result (List RStep) RunFault} (Ok w.rule_lines) (Ok ss) = one text (Ok w.rule_lines) (Ok ss) again read in
      let is : w.rule_lines ≡ ss = cc (same) in
      subst (λ (xs : List RStep). AreOpposite f lines xs) is w.opposite

  these_lines : OneProcess → (rule_lines : List RStep) (text : List ℕ) (ss : List PStep) → length text ≤ 5000 → IsProcessRunText text (Ok ss) → IsOppositeText f (run.Rules rule_lines) text
      → AreOpposite f ss rule_lines × back.IsConvertedToProcess f.signature f.process rule_lines ss
  these_lines one rule_lines text ss few read t =
      let w = of_process f rule_lines text t in
      let again : IsProcessRunText text (Ok w.lines) = subst (λ (z : List ℕ). IsProcessRunText z (Ok w.lines)) (sym w.layout) (w.read (few_lines w.lines text w.layout few)) in
      let same : ◌≡◌ {A = Result (List PStep) RunFault} (Ok w.lines) (Ok ss) = one text (Ok w.lines) (Ok ss) again read in
      let is : w.lines ≡ ss = cc (same) in
      (subst (λ (xs : List PStep). AreOpposite f xs rule_lines) is w.opposite, subst (λ (xs : List PStep). back.IsConvertedToProcess f.signature f.process rule_lines xs) is w.converted)

  -- what the adversary knows behind the line of rules is among the entries
  known_then : (lines : List PStep) (a : List ℕ) (o : AreOpposite f lines (named_by_rules a)) → Contains o.entries (public a)
  known_then lines a o = o.known (public a) (subst (λ (ts : List Tree). Contains ts (public a)) (sym (one_known a o.legal_rules refl)) (0, lit< tt, refl))

  other_name : (a b : List ℕ) → (public a ≡ public b → ⊥) → AreOpposite f (named b) (named_by_rules a) → ⊥
  other_name a b other o = other (one_there (public b) (public a) (subst (λ (ts : List Tree). Contains ts (public a)) (one_entry b o.legal refl) (known_then (named b) a o)))

  module _ (one : OneOfRules) (read : IsReadRule) where
    pub other_rules : IsOppositeText f (run.Process []) (codes "rule-run\npub 'a'\n") → ⊥
    other_rules t =
        let o = these_rules one [] (codes "rule-run\npub 'a'\n") (named_by_rules (codes "a")) (lit≤ tt) read t in
        nothing_there (public (codes "a")) (subst (λ (ts : List Tree). Contains ts (public (codes "a"))) (no_entries o.legal refl) (known_then [] (codes "a") o))

    pub rules_of_another_name : IsOppositeText f (run.Process (named (codes "b"))) (codes "rule-run\npub 'a'\n") → ⊥
    rules_of_another_name t = other_name (codes "a") (codes "b") not_a (these_rules one (named (codes "b")) (codes "rule-run\npub 'a'\n") (named_by_rules (codes "a")) (lit≤ tt) read t)

  module _ (one : OneProcess) where
    pub other_process : IsReadLine → IsOppositeText f (run.Rules []) (codes "process-run\npub 'a'\n") → ⊥
    other_process read t =
        let w = these_lines one [] (codes "process-run\npub 'a'\n") (named (codes "a")) (lit≤ tt) read t in
        let count : 1 ≡ 0 = w.1.count in
        omega (arith, count)

    pub process_of_another_name : IsReadLine → IsOppositeText f (run.Rules (named_by_rules (codes "b"))) (codes "process-run\npub 'a'\n") → ⊥
    process_of_another_name read t =
        let w = these_lines one (named_by_rules (codes "b")) (codes "process-run\npub 'a'\n") (named (codes "a")) (lit≤ tt) read t in
        other_name (codes "b") (codes "a") not_b w.0

    pub process_of_more : IsOppositeText f (run.Rules (named_by_rules (codes "a"))) (codes "process-run\n") → ⊥
    process_of_more t =
        let w = these_lines one (named_by_rules (codes "a")) (codes "process-run\n") [] (lit≤ tt) no_line_is_read t in
        let count : 0 ≡ 1 = w.1.count in
        omega (arith, count)

-- the heads differ in their first byte
first_byte : List ℕ → ℕ
first_byte [] = 0
first_byte (b ∷ z) = b

pub own_text : (f : FileContent) → IsOppositeText f (run.Process []) (codes "process-run\n") → ⊥
unfolding first_byte
own_text f t = let byte : 112 ≡ 114 = ap first_byte (of_rules f [] (codes "process-run\n") t).layout in omega (arith, byte)

pub own_text_of_rules : (f : FileContent) → IsOppositeText f (run.Rules []) (codes "rule-run\n") → ⊥
unfolding first_byte
own_text_of_rules f t = let byte : 114 ≡ 112 = ap first_byte (of_process f [] (codes "rule-run\n") t).layout in omega (arith, byte)
