use Rattle.std.proofs.Common.{sym, subst}
use Rattle.std.specs.Prelude.{All}
use Rattle.sap_terms.specs.Equations.{equations}
use Rattle.sap_terms.specs.Normal.{IsNormal}
use Rattle.sap_terms.specs.Signature.{Sig}
use Rattle.sap_share.specs.Shared.{trees_at}
use Rattle.sap_deduce.specs.Entries.{Entries, AreEntered}
use Rattle.sap_deduce.proofs.Kept.{numbers_stay}
use Rattle.sap_deduce.proofs.Limits.{args-normal}
use Rattle.sap_deduce.proofs.knowledge.Knowledge.apply.Goals as goal

pub form_number-requires-clause-normal : goal.form_number-requires-clause-normal
form_number-requires-clause-normal c =
    let k = c.args.self.now in
    let ts = trees_at c.args.table.now.trees c.in_ok-ks.ks in
    let entered = subst (λ (e : Entries). AreEntered e.sig e.entries) c.self.view_is c.self.invariant.entered in
    subst (λ (g : Sig). All (IsNormal (equations g)) ts) (sym c.requires.sig) (args-normal c.leaves_are_normal.ensures k.sig k.entries c.args.numbers.now ts entered c.in_ok-ks.ensures.terms)

pub returns-in-Err-clause-numbered : goal.returns-in-Err-clause-numbered
returns-in-Err-clause-numbered c = numbers_stay _ _ _ c.requires c.in-Err.ensures.keeps

pub enter_applied-requires-clause-numbered : goal.enter_applied-requires-clause-numbered
enter_applied-requires-clause-numbered c = numbers_stay _ _ _ c.requires c.in-Ok.ensures.keeps
