use Rattle.std.proofs.Common.{ℕ, List, Some, ap, sym, ◌∙◌}
use Rattle.std.specs.Option.{option_copied, unwrap_or}
use Rattle.sap_terms.specs.NameMap.{value_at}
use Rattle.sap_macro.specs.MacroCauses.{first_other, uses}
use Rattle.sap_macro.specs.Sources.{definition_of, definitions, written}
use Rattle.sap_uses.proofs.Counted.{counts_found, counts_pass}
use Rattle.sap_uses.proofs.Entries.{there}
use Rattle.sap_uses.proofs.counts.other_count.Goals as goal

pub returns-in-Some : goal.returns-in-Some
returns-in-Some c =
    let count = λ (f : List ℕ). unwrap_or (value_at c.args.counts.now f) 0 in
    ap Some c.in_ok-name.ensures
    ∙ sym
    (c.loop-k.invariant
    ∙ counts_found count (written c.args.main.now) (definitions c.args.defs.now) c.loop-k.k (definition_of c.at.result.now) c.in-Some.name.now
    (there c.args.defs.now c.loop-k.k c.at.result.now c.at.ensures)
    (ap (λ s. first_other count (uses (written s))) (sym c.deref.ensures) ∙ sym c.other_in-found.ensures ∙ ap option_copied c.in-Some.is))

pub loop-k-preserved : goal.loop-k-preserved
loop-k-preserved c =
    let count = λ (f : List ℕ). unwrap_or (value_at c.args.counts.now f) 0 in
    c.loop-k.invariant
    ∙ counts_pass count (written c.args.main.now) (definitions c.args.defs.now) c.loop-k.k (definition_of c.at.result.now)
    (there c.args.defs.now c.loop-k.k c.at.result.now c.at.ensures)
    (ap (λ s. first_other count (uses (written s))) (sym c.deref.ensures) ∙ sym c.other_in-found.ensures ∙ ap option_copied c.in_default.is)
