use Rattle.std.proofs.Common.{◌-◌, ◌+◌, List, Some, sym, subst, ap, ◌∙◌, arith}
use Rattle.sap_grammar.specs.Words.{words_of}
use Rattle.sap_grammar.specs.Reading.{Gives, Read}
use Rattle.sap_formula_grammar.specs.FormulaReading.{Levelled}
use Rattle.sap_formula_grammar.specs.code.FormulaView.{levelled, made, operand, sign_of}
use Rattle.sap_formula_grammar.proofs.FormulaSteps.{un_zero, un_negation, un_every, un_exists, un_enclosed, un_alone, imp_zero, imp_none, imp_one, imp_two, turn_none, turn_stops, turn_on, turn_ends, iff_two, second_fits, second_over, within_more, within_one}
use Rattle.sap_grammar.proofs.ReadingLaws.Tokens.{words-drop}
use Rattle.sap_formula_grammar.proofs.formula.grammar.+read.Goals.{read_turns-then-loop-turns-test+else-goes_on, read_turns-else-loop-turns-test}
use Rattle.sap_formula_grammar.proofs.formula.grammar.+read.Goals as goal

pub read_un-returns-then-depth-eq0-clause-gives : goal.read_un-returns-then-depth-eq0-clause-gives
read_un-returns-then-depth-eq0-clause-gives t c = rw c.if-depth-eq0.true (un_zero c.args.sig.now c.args.limits (words_of c.args.bytes.now c.args.tokens.now))

pub read_un-returns-then-starts-clause-gives : goal.read_un-returns-then-starts-clause-gives
read_un-returns-then-starts-clause-gives t c =
    let b = c.args.bytes.now in
    rw (un_negation c.args.sig.now c.args.limits c.args.depth (omega arith) (words_of b c.args.tokens.now) (words_of b c.beyond-next.result.now) (ap (words_of b) c.beyond-next.ensures ∙ words-drop b 1 c.args.tokens.now) (sym c.starts.ensures ∙ c.if-starts.true)) c.read_negation.ensures.gives

pub read_un-returns-then-starts-2-clause-gives : goal.read_un-returns-then-starts-2-clause-gives
read_un-returns-then-starts-2-clause-gives t c =
    let b = c.args.bytes.now in
    rw (un_every c.args.sig.now c.args.limits c.args.depth (omega arith) (words_of b c.args.tokens.now) (words_of b c.beyond-next.result.now) (ap (words_of b) c.beyond-next.ensures ∙ words-drop b 1 c.args.tokens.now) (sym c.starts.ensures ∙ c.if-starts.false) (sym c.starts-else-starts.ensures ∙ c.if-starts-2.true)) c.read_quantified.ensures.gives

pub read_un-returns-then-starts-3-clause-gives : goal.read_un-returns-then-starts-3-clause-gives
read_un-returns-then-starts-3-clause-gives t c =
    let b = c.args.bytes.now in
    rw (un_exists c.args.sig.now c.args.limits c.args.depth (omega arith) (words_of b c.args.tokens.now) (words_of b c.beyond-next.result.now) (ap (words_of b) c.beyond-next.ensures ∙ words-drop b 1 c.args.tokens.now) (sym c.starts.ensures ∙ c.if-starts.false) (sym c.starts-else-starts.ensures ∙ c.if-starts-2.false) (sym c.starts-else-starts-2.ensures ∙ c.if-starts-3.true)) c.read_quantified-then-starts-3.ensures.gives

pub read_un-returns-then-starts-4-clause-gives : goal.read_un-returns-then-starts-4-clause-gives
read_un-returns-then-starts-4-clause-gives t c =
    let b = c.args.bytes.now in
    rw (un_enclosed c.args.sig.now c.args.limits c.args.depth (omega arith) (words_of b c.args.tokens.now) (words_of b c.beyond-next.result.now) (ap (words_of b) c.beyond-next.ensures ∙ words-drop b 1 c.args.tokens.now) (sym c.starts.ensures ∙ c.if-starts.false) (sym c.starts-else-starts.ensures ∙ c.if-starts-2.false) (sym c.starts-else-starts-2.ensures ∙ c.if-starts-3.false) (sym c.starts-else-starts-3.ensures ∙ c.if-starts-4.true)) c.read_enclosed.ensures.gives

pub read_un-returns-else-starts-4-clause-gives : goal.read_un-returns-else-starts-4-clause-gives
read_un-returns-else-starts-4-clause-gives t c =
    rw (un_alone c.args.sig.now c.args.limits c.args.depth (words_of c.args.bytes.now c.args.tokens.now) (omega arith) (sym c.starts.ensures ∙ c.if-starts.false) (sym c.starts-else-starts.ensures ∙ c.if-starts-2.false) (sym c.starts-else-starts-2.ensures ∙ c.if-starts-3.false) (sym c.starts-else-starts-3.ensures ∙ c.if-starts-4.false)) c.read_alone.ensures.gives

pub read_turns-loop-turns-preserved : goal.read_turns-loop-turns-preserved
read_turns-loop-turns-preserved t c =
    let b = c.args.bytes.now in
    let l = c.loop-turns in
    let within = rw c.in-Some.is at c.in_ok-read_second.ensures.within in
    (l.invariant.0 ∙ turn_on (operand c.args.sig.now c.args.limits c.args.depth c.args.connective) c.args.depth (made c.args.connective) (sign_of c.args.connective) l.turns (levelled l.left) (words_of b l.rest.now) (words_of b c.beyond.result.now) (omega arith) (sym c.goes_on.ensures ∙ c.if-goes_on.true) (ap (words_of b) c.beyond.ensures ∙ words-drop b 1 l.rest.now) (levelled c.in-Some.both) (words_of b c.in-Some.next.now) (rw c.in-Some.is at c.in_ok-read_second.ensures.gives), within.0, within.1)

pub read_turns-returns-in-None-clause-gives : goal.read_turns-returns-in-None-clause-gives
read_turns-returns-in-None-clause-gives t c =
    let b = c.args.bytes.now in
    let l = c.loop-turns in
    l.invariant.0 ∙ turn_ends (operand c.args.sig.now c.args.limits c.args.depth c.args.connective) c.args.depth (made c.args.connective) (sign_of c.args.connective) l.turns (levelled l.left) (words_of b l.rest.now) (words_of b c.beyond.result.now) (omega arith) (sym c.goes_on.ensures ∙ c.if-goes_on.true) (ap (words_of b) c.beyond.ensures ∙ words-drop b 1 l.rest.now) (rw c.in-None.is at c.in_ok-read_second.ensures.gives)

pub read_turns-returns-then-goes_on-2-clause-gives : goal.read_turns-returns-then-goes_on-2-clause-gives
read_turns-returns-then-goes_on-2-clause-gives t c =
    let l = c.loop-turns in
    elim c.loop-turns-test.branch [
      | read_turns-then-loop-turns-test+else-goes_on w ↦ absurd (cc (w.goes_on.ensures, w.if-goes_on.false, c.goes_on-2.ensures, c.if-goes_on-2.true))
      | read_turns-else-loop-turns-test w ↦ l.invariant.0 ∙ turn_none (operand c.args.sig.now c.args.limits c.args.depth c.args.connective) c.args.depth (made c.args.connective) (sign_of c.args.connective) l.turns (levelled l.left) (words_of c.args.bytes.now l.rest.now) w.loop-turns-test.false (sym c.goes_on-2.ensures ∙ c.if-goes_on-2.true)
    ]

pub read_turns-returns-else-goes_on-2-clause-gives : goal.read_turns-returns-else-goes_on-2-clause-gives
read_turns-returns-else-goes_on-2-clause-gives t c =
    let l = c.loop-turns in
    l.invariant.0 ∙ turn_stops (operand c.args.sig.now c.args.limits c.args.depth c.args.connective) c.args.depth (made c.args.connective) (sign_of c.args.connective) l.turns (levelled l.left) (words_of c.args.bytes.now l.rest.now) (sym c.goes_on-2.ensures ∙ c.if-goes_on-2.false)

pub read_imp-returns-then-depth-eq0-clause-gives : goal.read_imp-returns-then-depth-eq0-clause-gives
read_imp-returns-then-depth-eq0-clause-gives t c = rw c.if-depth-eq0.true (imp_zero c.args.sig.now c.args.limits (words_of c.args.bytes.now c.args.tokens.now))

pub read_imp-returns-in-None-clause-gives : goal.read_imp-returns-in-None-clause-gives
read_imp-returns-in-None-clause-gives t c =
    imp_none c.args.sig.now c.args.limits c.args.depth (omega arith) (words_of c.args.bytes.now c.args.tokens.now) (rw c.in-None.is at c.in_ok-read_chain.ensures.gives)

pub read_imp-returns-then-goes_on-clause-gives : goal.read_imp-returns-then-goes_on-clause-gives
read_imp-returns-then-goes_on-clause-gives t c =
    let b = c.args.bytes.now in
    rw (imp_two c.args.sig.now c.args.limits c.args.depth (omega arith) (words_of b c.args.tokens.now) (levelled c.in-Some.left) (words_of b c.in-Some.rest.now) (words_of b c.beyond.result.now) (rw c.in-Some.is at c.in_ok-read_chain.ensures.gives) (sym c.goes_on.ensures ∙ c.if-goes_on.true) (ap (words_of b) c.beyond.ensures ∙ words-drop b 1 c.in-Some.rest.now)) c.read_second.ensures.gives

pub read_imp-returns-else-goes_on-clause-gives : goal.read_imp-returns-else-goes_on-clause-gives
read_imp-returns-else-goes_on-clause-gives t c =
    let b = c.args.bytes.now in
    imp_one c.args.sig.now c.args.limits c.args.depth (omega arith) (words_of b c.args.tokens.now) (levelled c.in-Some.left) (words_of b c.in-Some.rest.now) (rw c.in-Some.is at c.in_ok-read_chain.ensures.gives) (sym c.goes_on.ensures ∙ c.if-goes_on.false)

pub read_un-returns-then-starts-clause-within : goal.read_un-returns-then-starts-clause-within
read_un-returns-then-starts-clause-within t c = within_more c.args.depth (c.args.depth - 1 + 1) _ (omega arith) c.read_negation.ensures.within

pub read_un-returns-then-starts-2-clause-within : goal.read_un-returns-then-starts-2-clause-within
read_un-returns-then-starts-2-clause-within t c = within_more c.args.depth (c.args.depth - 1 + 1) _ (omega arith) c.read_quantified.ensures.within

pub read_un-returns-then-starts-3-clause-within : goal.read_un-returns-then-starts-3-clause-within
read_un-returns-then-starts-3-clause-within t c = within_more c.args.depth (c.args.depth - 1 + 1) _ (omega arith) c.read_quantified-then-starts-3.ensures.within

pub read_un-returns-then-starts-4-clause-within : goal.read_un-returns-then-starts-4-clause-within
read_un-returns-then-starts-4-clause-within t c = within_more c.args.depth (c.args.depth - 1 + 1) _ (omega arith) c.read_enclosed.ensures.within

pub read_un-returns-else-starts-4-clause-within : goal.read_un-returns-else-starts-4-clause-within
read_un-returns-else-starts-4-clause-within t c = within_one c.args.depth _ (omega arith) c.read_alone.ensures.within

pub read_operand-returns-in-Imp-clause-within : goal.read_operand-returns-in-Imp-clause-within
read_operand-returns-in-Imp-clause-within t c = within_more c.args.depth (c.args.depth - 1) _ (omega arith) c.read_imp.ensures.within

pub read_iff-returns-then-goes_on-clause-gives : goal.read_iff-returns-then-goes_on-clause-gives
read_iff-returns-then-goes_on-clause-gives t c =
    let b = c.args.bytes.now in
    subst (λ (o : Read Levelled). Gives b levelled c.read_last.result o) (sym (iff_two c.args.sig.now c.args.limits c.args.depth (words_of b c.args.tokens.now) (levelled c.in-Some.left) (words_of b c.in-Some.rest.now) (words_of b c.beyond.result.now) (rw c.in-Some.is at c.in_ok-read_imp.ensures.gives) (sym c.goes_on.ensures ∙ c.if-goes_on.true) (ap (words_of b) c.beyond.ensures ∙ words-drop b 1 c.in-Some.rest.now))) c.read_last.ensures.gives

pub read_second-returns-in_ok-both-in-Some-clause-gives : goal.read_second-returns-in_ok-both-in-Some-clause-gives
read_second-returns-in_ok-both-in-Some-clause-gives t c =
    let b = c.args.bytes.now in
    second_fits (operand c.args.sig.now c.args.limits c.args.depth c.args.connective) c.args.depth (made c.args.connective) (levelled c.args.left) (levelled c.in-Some.right) (words_of b c.args.tokens.now) (words_of b c.in-Some.rest.now) (rw c.in-Some.is at c.in_ok-read_operand.ensures.gives) (sym c.fits.ensures ∙ c.if-fits.true)
    ∙ ap (λ (x : Levelled). Some (x, words_of b c.in-Some.rest.now)) (sym c.in_ok-both-in-Some.ensures)

pub read_second-returns-else-fits-clause-gives : goal.read_second-returns-else-fits-clause-gives
read_second-returns-else-fits-clause-gives t c =
    let b = c.args.bytes.now in
    second_over (operand c.args.sig.now c.args.limits c.args.depth c.args.connective) c.args.depth (made c.args.connective) (levelled c.args.left) (levelled c.in-Some.right) (words_of b c.args.tokens.now) (words_of b c.in-Some.rest.now) (rw c.in-Some.is at c.in_ok-read_operand.ensures.gives) (sym c.fits.ensures ∙ c.if-fits.false)
