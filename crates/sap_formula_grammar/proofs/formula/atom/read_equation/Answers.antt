use Rattle.std.proofs.Common.{sym, subst}
use Rattle.sap_terms.specs.View.{tree}
use Rattle.sap_formula.specs.Form.{Form}
use Rattle.sap_formula.specs.View.{form}
use Rattle.sap_grammar.specs.Words.{words_of}
use Rattle.sap_grammar.specs.Reading.{Gives, Read}
use Rattle.sap_formula_grammar.proofs.AtomSteps.{equation_behind}
use Rattle.sap_formula_grammar.proofs.formula.atom.read_equation.Goals as goal

pub returns-in-Some : goal.returns-in-Some
returns-in-Some c =
    let b = c.args.bytes.now in
    let read = rw c.in-Some.is at c.in_ok-read_short_term.ensures in
    subst (λ (o : Read Form). Gives b (λ f. form f.value) c.equal.result o) (sym (equation_behind c.args.sig.now c.args.limits (words_of b c.args.tokens.now) (words_of b c.in-Some.rest.now) (tree c.in-Some.left) read)) (c.equal.ensures b _ c.read_right.ensures)
