use Rattle.std.proofs.Common.{◌≡◌, List, [], ◌∷◌, ◌++◌, drop, Result, Ok, refl, sym, lit≤, arith, ap, ◌∙◌}
use Rattle.std.specs.Prelude.{ℕ, codes}
use Rattle.sap_intruder.specs.FilledRuns.{IsSparingRun, begins, goes_on}
use Rattle.sap_process.specs.Configuration.{Config, initial}
use Rattle.sap_process.specs.Proc.{Proc}
use Rattle.sap_run_texts.specs.RunPrinted.{process_run_text}
use Rattle.sap_run_texts.specs.ShortTexts.{IsShortRunText}
use Rattle.sap_run_texts.specs.declared.run_fault.RunFault.{RunFault}
use Rattle.sap_runs.specs.Marks.{Mark}
use Rattle.sap_runs.specs.declared.process_step.PStep.{PStep}
use Rattle.sap_runs.specs.declared.short_step.SStep.{SStep}
use Rattle.sap_terms.specs.Signature.{Sig}
use Rattle.sap_terms.specs.Trace.{Trace}
use Rattle.sap_terms.specs.Tree.{Tree}
use Rattle.sap_run_texts.specs.RunTexts.{headed, headless, all_steps, no_lines, IsHeaded}
use Rattle.sap_run_texts.specs.ShortTexts.{short_head}
use Rattle.sap_replay.specs.ShortRuns.{no_run}
use Rattle.sap_tool.proofs.fill_laws.fill_by_hand.Goals as goal

pub returns-clause-fetched : goal.returns-clause-fetched
returns-clause-fetched c = λ name. (lit≤ tt, refl)

pub returns-clause-not_opened : goal.returns-clause-not_opened
returns-clause-not_opened c = λ holds name z more h. cc (h.1)

pub returns-clause-not_twice : goal.returns-clause-not_twice
returns-clause-not_twice c = λ holds name z h. cc (h.1)

pub returns-clause-empty : goal.returns-clause-empty
returns-clause-empty c = λ bytes f accepted. record {
  told = f;
  file = accepted;
  run = [];
  read = record { few = lit≤ tt; read = headed refl (all_steps no_lines (lit≤ tt)) };
  lines = [];
  filled = record { config = initial f.process; entries = []; trace = []; marks = []; run = begins };
  layout = refl;
}

-- a short run without steps is filled by no lines
no_steps : (g : Sig) (p : Proc) (ss : List SStep) (lines : List PStep) (c : Config) (es : List Tree) (tr : Trace) (marks : List Mark) → IsSparingRun g p ss lines c es tr marks → ss ≡ [] → lines ≡ []
no_steps g p _ _ _ _ _ _ begins e = refl
no_steps g p _ _ _ _ _ _ (goes_on {ss = ss} s step found given inner label run are fills is) e = absurd (pushed ss s e)
  where
    pushed : (xs : List SStep) (x : SStep) → xs ++ x ∷ [] ≡ [] → ⊥
    pushed [] x q = absurd (cc)
    pushed (y ∷ xs) x q = absurd (cc)

module _ (one : (z : List ℕ) (o r : Result (List SStep) RunFault) → IsShortRunText z o → IsShortRunText z r → o ≡ r) where
  -- so its text is the head's line
  head_alone : (g : Sig) (p : Proc) (run : List SStep) (lines : List PStep) (c : Config) (es : List Tree) (tr : Trace) (marks : List Mark) → IsShortRunText (codes "short-run\n") (Ok run)
      → IsSparingRun g p run lines c es tr marks → process_run_text lines ≡ codes "process-run\n"
  head_alone g p run lines c es tr marks read fills =
      let same : ◌≡◌ {A = Result (List SStep) RunFault} (Ok run) (Ok []) = one (codes "short-run\n") (Ok run) (Ok []) read (headed refl (all_steps no_lines (lit≤ tt))) in
      let none : run ≡ [] = cc (same) in
      ap process_run_text (no_steps g p run lines c es tr marks fills none)

-- the first byte, or 0
abbrev first_byte : List ℕ → ℕ
first_byte [] = 0
first_byte (b ∷ z) = b

-- behind its 12 bytes the one text has a byte more, and the other has none
other_text : (text : List ℕ) → text ≡ codes "process-run\n" → text ≡ codes "process-run\npub 'b'\nknow 0\npub 'c'\n" → ⊥
other_text text e f =
    let byte : first_byte (drop 12 (codes "process-run\n")) ≡ first_byte (drop 12 (codes "process-run\npub 'b'\nknow 0\npub 'c'\n")) = ap (λ (z : List ℕ). first_byte (drop 12 z)) (sym e ∙ f) in
    omega (arith, byte)

pub returns-clause-another : goal.returns-clause-another
returns-clause-another c = λ bytes t.
    let f = t.filled in
    other_text (process_run_text t.lines) (head_alone c.one_short_run.ensures.one t.told.signature t.told.process t.run t.lines f.config f.entries f.trace f.marks t.read.read f.run) (sym t.layout)

pub returns-clause-no_meaning : goal.returns-clause-no_meaning
returns-clause-no_meaning c = λ bytes t.
    let s = t.short in
    other_text (process_run_text t.lines)
    (head_alone c.one_short_run.ensures.one s.told.signature s.told.process s.run t.lines s.config t.entries s.trace s.marks s.read.read t.sparing) (sym t.layout)

no_head : (body : List ℕ) → IsHeaded short_head body (codes "process-run\n") → ⊥
no_head body e =
    let first : first_byte (codes "process-run\n") ≡ first_byte (short_head ++ (10 ∷ body)) = ap first_byte e in
    omega (arith, first)

pub returns-clause-headless : goal.returns-clause-headless
returns-clause-headless c = λ f. no_run (lit≤ tt) (headless no_head)
