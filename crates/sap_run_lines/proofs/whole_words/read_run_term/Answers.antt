use Rattle.std.proofs.Common.{◌≡◌, List, ℕ, Option, sym, subst}
use Rattle.std.specs.Prelude.{Result, Ok, Err, IfOk}
use Rattle.std.specs.Option.{option_map}
use Rattle.sap_terms.specs.View.{tree}
use Rattle.sap_terms.specs.declared.term.Term.{Term}
use Rattle.sap_run_lines.specs.WholeWords.{IsReadAs, IsWholeTerm}
use Rattle.sap_run_lines.specs.code.WholeTaking.{term_alone}
use Rattle.sap_run_lines.proofs.WholeWords.{term_told}
use Rattle.sap_run_lines.proofs.whole_words.read_run_term.Goals as goal

told : {E : Type 0} (z : List ℕ) (r : Result (Option Term) E) → IfOk r (λ o. option_map tree o ≡ term_alone z) → IfOk r (λ o. IsReadAs IsWholeTerm z (option_map tree o))
told z (Ok o) h = subst (IsReadAs IsWholeTerm z) (sym h) (term_told z)
told z (Err e) h = tt

pub returns : goal.returns
returns c = told c.args.bytes.now c.term_alone.result c.term_alone.ensures
