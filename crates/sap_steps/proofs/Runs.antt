-- Runs and the lines that write them.
use Rattle.std.proofs.Common.{List, [], ◌∷◌, ◌++◌, Some, refl, ap, sym, ◌∙◌}
use Rattle.sap_terms.specs.Signature.{Sig}
use Rattle.sap_terms.specs.Trace.{Trace}
use Rattle.sap_terms.specs.declared.fact.Fact.{Fact}
use Rattle.sap_rule.specs.Named.{HaveNamesOfTheirOwn}
use Rattle.sap_rule.specs.RuleSteps.{RuleState, RuleRun, RuleStep, starts, further, makes_name, learns, owns, knows_public, applies, gives, uses}
use Rattle.sap_rule.specs.Variables.{open_variables}
use Rattle.sap_rule.specs.declared.rule.Rule.{Rule}
use Rattle.sap_runs.specs.declared.rule_step.RStep.{RStep}
use Rattle.sap_runs.specs.declared.rule_step.RStep.TheVariants.{Fresh, Learn, Own, Public, Apply, Know, Rule as RuleLine}
use Rattle.sap_terms.specs.Tree.{Tree}
use Rattle.sap_steps.specs.Lines.{IsLine, AnySize}
use Rattle.sap_steps.specs.Runs.{IsLegalRun, starts as legal_start, further as legal_further, StepsHaveLines, RunsCanBeWritten, SmallLinesAreLines, SmallRunsAreLegal}
use Rattle.sap_steps.proofs.Named.{Contains-get, get-Contains, rule_named-Contains, Contains-rule_named, numbers_of, Contains-numbers, bindings_of, bound_vars-bindings_of, Agrees-bindings_of}

pub step-line : (g : Sig) (rules : List Rule) (s z : RuleState) (acts : List Fact) → HaveNamesOfTheirOwn rules → RuleStep g rules s acts z → (line : RStep) × IsLine g rules AnySize s line acts z
step-line g rules s z acts own (makes_name n h) = (Fresh n, record { new = h; silent = refl; becomes = refl })
step-line g rules s z acts own (learns {rest = rest} k t takes) = (Learn k, (t, record { rest = rest; takes = takes; silent = refl; becomes = refl }))
step-line g rules s z acts own (owns {rest = rest} k n takes) = (Own k, (n, record { rest = rest; takes = takes; silent = refl; becomes = refl }))
step-line g rules s z acts own (knows_public a) = (Public a, (refl, refl))
step-line g rules s z acts own (applies f ts t is_public arity known form) =
    let numbers = numbers_of s.known ts known in (
      Apply f numbers.0,
      record {
        terms = ts;
        form = t;
        public_symbol = is_public;
        arity = arity ∙ ap Some (sym numbers.2);
        entries = numbers.1;
        is_form = form;
        within = tt;
        silent = refl;
        becomes = refl;
      },
    )
step-line g rules s z acts own (gives t known) = let at = get-Contains s.known t known in (Know at.0, record { term = t; entry = at.1; shows = refl; becomes = refl })
step-line g rules s z acts own (uses {rest = rest} r ks σ left shown right among takes used) = (
  RuleLine r.name ks (bindings_of σ (open_variables g r)),
  record {
    rule = r;
    named = rule_named-Contains rules r own among;
    left = left;
    right = right;
    rest = rest;
    takes = takes;
    fires = record {
      choice = σ;
      binds = record {
        vars = bound_vars-bindings_of σ (open_variables g r);
        agrees = Agrees-bindings_of σ (open_variables g r);
      };
      use_ = used;
      within = λ n h. tt;
    };
    becomes = refl;
  },
)

pub line-step : (W : Tree → Type 0) (g : Sig) (rules : List Rule) (s z : RuleState) (acts : List Fact) (line : RStep) → IsLine g rules W s line acts z → RuleStep g rules s acts z
line-step W g rules s z acts (Fresh n) h = rw (h.silent, h.becomes) (makes_name n h.new)
line-step W g rules s z acts (Learn k) (t, h) = rw (h.silent, h.becomes) (learns k t h.takes)
line-step W g rules s z acts (Own k) (n, h) = rw (h.silent, h.becomes) (owns k n h.takes)
line-step W g rules s z acts (Public a) h = rw (h.0, h.1) (knows_public a)
line-step W g rules s z acts (Apply f ks) h =
    let at = Contains-numbers s.known ks h.terms h.entries in
    rw (h.silent, h.becomes) (applies f h.terms h.form h.public_symbol (h.arity ∙ ap Some at.1) at.0 h.is_form)
line-step W g rules s z acts (Know k) h = rw (h.shows, h.becomes) (gives h.term (Contains-get s.known h.term k h.entry))
line-step W g rules s z acts (RuleLine name ks b) h =
    let at = Contains-rule_named rules h.rule name h.named in
    rw h.becomes (uses h.rule ks h.fires.choice h.left acts h.right (Contains-get rules h.rule at.0 at.1) h.takes h.fires.use_)

run-written : (g : Sig) (rules : List Rule) (s : RuleState) (full : Trace) → HaveNamesOfTheirOwn rules → RuleRun g rules s full → (lines : List RStep) × IsLegalRun g rules AnySize lines s full
run-written g rules s full own starts = ([], legal_start)
run-written g rules z full own (further {s = s} {full = before} {acts = acts} run step) =
    let lines = run-written g rules s before own run in
    let line = step-line g rules s z acts own step in
    (lines.0 ++ line.0 ∷ [], legal_further line.0 acts lines.1 line.1)

pub steps_have_lines : StepsHaveLines
steps_have_lines g rules s z acts own step = step-line g rules s z acts own step

pub runs_can_be_written : RunsCanBeWritten
runs_can_be_written g rules s full own run = run-written g rules s full own run

pub legal-run : (W : Tree → Type 0) (g : Sig) (rules : List Rule) (lines : List RStep) (s : RuleState) (full : Trace) → IsLegalRun g rules W lines s full → RuleRun g rules s full
legal-run W g rules lines s full legal_start = starts
legal-run W g rules lines z full (legal_further {lines = before} {s = s} {full = shown} line acts legal is) =
    further (legal-run W g rules before s shown legal) (line-step W g rules s z acts line is)

-- the limit only excludes
pub small_lines : SmallLinesAreLines
small_lines g rules s z acts (Fresh n) h = h
small_lines g rules s z acts (Learn k) h = h
small_lines g rules s z acts (Own k) h = h
small_lines g rules s z acts (Public a) h = h
small_lines g rules s z acts (Apply f ks) h = record {
  terms = h.terms;
  form = h.form;
  public_symbol = h.public_symbol;
  arity = h.arity;
  entries = h.entries;
  is_form = h.is_form;
  within = tt;
  silent = h.silent;
  becomes = h.becomes;
}
small_lines g rules s z acts (Know k) h = h
small_lines g rules s z acts (RuleLine name ks b) h = record {
  rule = h.rule;
  named = h.named;
  left = h.left;
  right = h.right;
  rest = h.rest;
  takes = h.takes;
  fires = record { choice = h.fires.choice; binds = h.fires.binds; use_ = h.fires.use_; within = λ n e. tt };
  becomes = h.becomes;
}

pub small_runs : SmallRunsAreLegal
small_runs g rules lines s full legal_start = legal_start
small_runs g rules lines z full (legal_further {lines = before} {s = s} {full = shown} line acts legal is) =
    legal_further line acts (small_runs g rules before s shown legal) (small_lines g rules s z acts line is)
