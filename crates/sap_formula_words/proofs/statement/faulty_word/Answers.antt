use Rattle.std.proofs.Common.{sym, ap, ◌∙◌, ◌≡◌, refl, arith}
use Rattle.std.specs.Prelude.{min, ◌-◌, ◌^◌, slice_get}
use Rattle.sap_grammar.proofs.ReadingLaws.Tokens.{length-words}
use Rattle.sap_formula_words.specs.StatementWords.{statement_words}
use Rattle.sap_formula_words.proofs.Faulty.{carried}
use Rattle.sap_formula_words.proofs.StatementWords.{few_parts}
use Rattle.sap_formula_words.proofs.statement.faulty_word.Goals as goal

pub returns-in-Some : goal.returns-in-Some
returns-in-Some c = λ g m v w n r e first.
    let some = carried c.faulty_part.result v refl c.formula.ensures refl refl (λ i. c.faulty_part.ensures v w n e i) first in
    let both = sym c.in-Some.is ∙ some in
    let same : c.in-Some.part ≡ min first.at (2 ^ 64 - 1) = cc (both) in
    let few = few_parts (record { counts = c.nodes_and_words.ensures.nodes; within = c.nodes_and_words.ensures.within; words = c.nodes_and_words.ensures.words; same = c.nodes_and_words.ensures.same }) r c.args.sig.now v w n first (omega (arith, length-words c.args.bytes.now c.args.item.now, c.count-count.ensures)) in
    c.statement_part_word.ensures g m r ∙ ap (λ k. slice_get (statement_words r) k) (same ∙ few)

pub returns-in-None : goal.returns-in-None
returns-in-None c = λ g m v w n r e first.
    absurd (let some = sym c.in-None.is ∙ carried c.faulty_part.result v refl c.formula.ensures refl refl (λ i. c.faulty_part.ensures v w n e i) first in cc (some))
