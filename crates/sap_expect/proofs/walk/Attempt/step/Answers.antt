use Rattle.std.proofs.Common.{ℕ, [], ◌∷◌, ◌++◌, ◌∙◌, ap, refl, subst, sym}
use Rattle.sap_expect.specs.declared.wanted.Wanted as code
use Rattle.sap_expect.specs.code.Attempts.{on_top}
use Rattle.sap_expect.specs.code.SeenWords.{seen}
use Rattle.sap_expect.specs.FileTable.{changed}
use Rattle.sap_expect.specs.code.Steps.{Taken}
use Rattle.sap_expect.specs.code.WantedView.{counting, stacked}
use Rattle.sap_expect.proofs.OnTop.{none_taken_on}
use Rattle.sap_expect.proofs.Turns.{popped, popped_level}
use Rattle.sap_expect.proofs.walk.Attempt.step.Goals as goal

pub returns-in_ok-self-in-Level-clause-step : goal.returns-in_ok-self-in-Level-clause-step
returns-in_ok-self-in-Level-clause-step c =
    popped_level c.args.self.now.levels c.in_ok-self-in-Level.field-0 (on_top c.args.stack.now c.args.self.now.left c.args.self.now.more.items)
    (on_top c.args.stack.now c.pop.new.self.left c.pop.new.self.more.items) c.in-Level.change c.in-Some.number (seen c.args.word)
    (c.in-Some.ensures.top ∙ ap (λ (v : code.Wanted). on_top c.args.stack.now c.pop.new.self.left c.pop.new.self.more.items ++ (v, c.in-Some.number) ∷ []) c.in-Level.is)
    (c.in_ok-self-in-Level.ensures ∙ ap (λ (n : ℕ). changed c.in-Level.change n c.in-Some.number) c.in-Some.ensures.levels)

pub returns-in_default-clause-step : goal.returns-in_default-clause-step
returns-in_default-clause-step c =
    subst (λ (n : ℕ). Taken (counting c.args.spared) c.args.self.now.levels (stacked (on_top c.args.stack.now c.args.self.now.left c.args.self.now.more.items)) (seen c.args.word)
    n (stacked (on_top c.args.stack.now c.pop.new.self.left c.pop.new.self.more.items)) c.is_wanted.result) (sym c.in-Some.ensures.levels)
    (popped (counting c.args.spared) c.args.self.now.levels (on_top c.args.stack.now c.args.self.now.left c.args.self.now.more.items)
    (on_top c.args.stack.now c.pop.new.self.left c.pop.new.self.more.items) c.in-Some.wanted c.in-Some.number (seen c.args.word) c.is_wanted.result
    c.in-Some.ensures.top c.in_default.not-A c.in_default.not-Level c.is_wanted.ensures)

pub returns-in-None-clause-step : goal.returns-in-None-clause-step
returns-in-None-clause-step c = none_taken_on (on_top c.args.stack.now c.args.self.now.left c.args.self.now.more.items) c.args.self.now.levels (seen c.args.word) (c.in-None.ensures.none refl)
