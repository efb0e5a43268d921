use Rattle.std.proofs.Common.{◌≡◌, ◌≤◌, Some, slice_get, subst, sym}
use Rattle.sap_terms.specs.Message.{IsMessage}
use Rattle.sap_terms.specs.Signature.{Sig}
use Rattle.sap_terms.specs.Tree.{node_count}
use Rattle.sap_terms.specs.View.{tree}
use Rattle.sap_terms.specs.declared.limits.TheConstants.{MOST_TERM_NODES}
use Rattle.sap_terms.specs.declared.var.Sort.TheVariants.{Msg}
use Rattle.sap_deduce.specs.Entries.{terms_of}
use Rattle.sap_intruder.proofs.Entering.{all_at}
use Rattle.sap_intruder.proofs.filling.Filling.enter_new.Goals as goal

pub enter-requires-clause-message : goal.enter-requires-clause-message
enter-requires-clause-message c =
    let a = c.args.self.now in
    let x = tree c.in-Some.t.now in
    let at : slice_get (terms_of a.config.known) a.count ≡ Some x = sym c.in-Some.ensures in
    subst (λ (g : Sig). IsMessage g Msg x) (sym c.requires.sig)
    (all_at (λ u. IsMessage a.config.sig Msg u) (terms_of a.config.known) a.count x c.each_entry_came.ensures.messages at)

pub enter-requires-clause-within : goal.enter-requires-clause-within
enter-requires-clause-within c =
    let a = c.args.self.now in
    let x = tree c.in-Some.t.now in
    let at : slice_get (terms_of a.config.known) a.count ≡ Some x = sym c.in-Some.ensures in
    all_at (λ u. node_count u ≤ MOST_TERM_NODES) (terms_of a.config.known) a.count x c.each_entry_came.ensures.within at
