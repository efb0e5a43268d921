-- How a conversion begins, goes on and ends.
use Rattle.std.proofs.Common.{◌≡◌, ◌<◌, ◌^◌, ◌++◌, List, [], ◌∷◌, Some, refl, sym, ap, ◌∙◌, subst, length}
use Rattle.sap_terms.specs.Signature.{Sig, HoldsBuiltins}
use Rattle.sap_terms.specs.Trace.{shown}
use Rattle.sap_terms.specs.Tree.{Tree}
use Rattle.sap_rewrite.specs.Laws.{FormIsOne}
use Rattle.sap_deduce.specs.Entries.{terms_of}
use Rattle.sap_process.specs.Configuration.{Config, initial}
use Rattle.sap_process.specs.Proc.{Proc, node_count}
use Rattle.sap_process.specs.Ready.{IsReady}
use Rattle.sap_locks.specs.Annotation.{IsAnnotation}
use Rattle.sap_runs.specs.Limits.{HasFewNodes}
use Rattle.sap_runs.specs.Marks.{marks_of}
use Rattle.sap_runs.specs.declared.process_step.PStep.{PStep}
use Rattle.sap_lines.specs.Answers.{ProcessLinesHaveOneAnswer}
use Rattle.sap_lines.specs.Lines.{IsProcessLine}
use Rattle.sap_lines.specs.Runs.{IsLegalProcessRun}
use Rattle.sap_calc.specs.Running.{configuration}
use Rattle.sap_translate.specs.LineCounts.{back_count}
use Rattle.sap_translate.specs.relation.Agents.{running}
use Rattle.sap_translate.specs.relation.Envs.{no_env}
use Rattle.sap_forward.specs.Answered.{Draws}
use Rattle.sap_forward.specs.Converted.{IsConvertedToRules}
use Rattle.sap_rule_lines.specs.Least.{is_among, names_drawn}
use Rattle.sap_forward.specs.Opposite.{IsOppositeRuleRun}
use Rattle.sap_rule_lines.specs.RuleLines.{init_line}
use Rattle.sap_forward.specs.RuleLinesPass.{BringNoName}
use Rattle.sap_forward.specs.code.Begun.{Begins, GoesOn, EndsConverted}
use Rattle.sap_forward.specs.code.Desk.{Keeps}
use Rattle.sap_forward.proofs.Bound.{binds_found}
use Rattle.sap_forward.proofs.Convert.{Starts, first_converted, answered, grows, none_opposite, all_opposite, all_counted, all_back, all_brought, draws_last, stand_so_far}
use Rattle.sap_forward.proofs.Given.{drawn_join, among_join, or_left, or_right}
use Rattle.sap_forward.proofs.Premises.{RunLaws}

-- a line of a run draws what the run draws
pub draws_among : (before after : List PStep) (step : PStep) → Draws (names_drawn (before ++ step ∷ after)) step
draws_among before after step = draws_last (names_drawn (before ++ step ∷ after)) step (λ n e.
    ap (λ x. is_among x n) (drawn_join before (step ∷ after)) ∙ among_join (names_drawn before) (names_drawn (step ∷ after)) n
    ∙ or_right (is_among (names_drawn before) n) (is_among (names_drawn (step ∷ after)) n)
    (ap (λ x. is_among x n) (drawn_join (step ∷ []) after) ∙ among_join (names_drawn (step ∷ [])) (names_drawn after) n ∙ or_left (is_among (names_drawn (step ∷ [])) n) (is_among (names_drawn after) n) e))

pub begins : (laws : RunLaws) (g : Sig) (p q : Proc) → IsReady g p → node_count p < 2 ^ 64 → IsAnnotation p q → Begins g q
begins laws g p q ready small annotated drawn r d sig known conf keeps =
    let none : terms_of r.known ≡ [] = ap terms_of known in
    let s = subst (λ x. Starts g q drawn x (terms_of r.known)) (sym conf) (subst (λ x. Starts g q drawn (initial q) x) (sym none) (first_converted g q (laws.starts g p q ready small annotated) drawn)) in
    record {
      trace = [];
      marks = [];
      sig = sig;
      legal = subst (λ x. IsLegalProcessRun g HasFewNodes q [] x (terms_of r.known) [] []) (sym conf) (subst (λ x. IsLegalProcessRun g HasFewNodes q [] (initial q) x [] []) (sym none) IsLegalProcessRun.starts);
      so_far = s.so_far;
      stand = ap (λ x. init_line ∷ x) (sym s.rest);
      keeps = subst (λ x. Keeps q drawn x s.so_far.tables d) (sym s.agents) (subst (λ x. Keeps q drawn (Some (running [] no_env q) ∷ []) x d) (sym s.tables) keeps);
    }

module _ (laws : RunLaws) (one_form : FormIsOne) (refusal : ProcessLinesHaveOneAnswer) (g : Sig) (p q : Proc) (hold : HoldsBuiltins g) (ready : IsReady g p) (small : node_count p < 2 ^ 64) (annotated : IsAnnotation p q) where
  pub goes_on : GoesOn g q
  goes_on drawn lines r z d e step before after b draws t =
      let c : Config = configuration r in
      let es : List Tree = terms_of r.known in
      let w = b.so_far in
      let is : IsProcessLine g HasFewNodes c es step t.done.inner t.label (configuration z) (terms_of z.known) = subst (λ x. IsProcessLine x HasFewNodes c es step t.done.inner t.label (configuration z) (terms_of z.known)) b.sig t.done.line in
      let a = answered laws g p q hold ready small annotated drawn w b.legal step t.done.inner t.label (configuration z) (terms_of z.known) draws is in
      let n = grows w a (stand_so_far laws g p q hold ready small annotated drawn b.legal) in
      let exact = laws.exactly g q lines c es b.trace b.marks hold (laws.ready g p q ready annotated) (laws.excludes g q lines c es b.trace b.marks b.legal) in
      let binds = binds_found one_form refusal g q drawn w.agents b.trace w.state w.full r w.tables b.sig exact w.linked.rest step t.done.inner t.label (configuration z) (terms_of z.known) a.lines t.found a.later a.behind is t.finds a.written in
      let put = t.writes g q drawn w.agents a.later c w.tables a.behind a.lines b.keeps a.written binds in
      record {
        trace = b.trace ++ shown t.label;
        marks = b.marks ++ marks_of t.done.inner t.label;
        sig = t.done.sig ∙ b.sig;
        legal = IsLegalProcessRun.further step t.done.inner t.label b.legal is;
        so_far = n.after;
        stand = put.0 ∙ ap (λ x. x ++ a.lines) b.stand ∙ ap (λ x. init_line ∷ x) (sym n.rest);
        keeps = subst (λ x. Keeps q drawn x n.after.tables e) (sym n.agents) (subst (λ x. Keeps q drawn a.later x e) (sym n.tables) put.1);
      }

-- all is converted
pub ends : (laws : RunLaws) (g : Sig) (p q : Proc) → HoldsBuiltins g → IsReady g p → node_count p < 2 ^ 64 → IsAnnotation p q → EndsConverted g q
ends laws g p q hold ready small annotated step lines r d written b =
    let all : List PStep = step ∷ lines in
    let es : List Tree = terms_of r.known in
    record {
      config = configuration r;
      entries = es;
      trace = b.trace;
      marks = b.marks;
      legal = b.legal;
      opposite = subst (λ x. IsOppositeRuleRun g q all es b.trace b.marks x) (sym b.stand) (all_opposite laws g p q hold ready small annotated step lines (configuration r) es b.trace b.marks b.so_far);
      counted = ap length b.stand ∙ all_counted b.so_far;
      back = ap back_count b.stand ∙ all_back b.so_far;
      names = subst (BringNoName q all) (sym b.stand) (all_brought b.so_far);
    }

-- no lines are converted to none
pub none : (laws : RunLaws) (g : Sig) (q : Proc) → IsConvertedToRules g q [] []
none laws g q = record {
  config = initial q;
  entries = [];
  trace = [];
  marks = [];
  legal = IsLegalProcessRun.starts;
  opposite = none_opposite laws g q;
  counted = refl;
  back = refl;
  names = λ test process passed. tt;
}
