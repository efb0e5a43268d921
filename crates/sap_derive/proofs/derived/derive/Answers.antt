use Rattle.std.proofs.Common.{sym, ◌∙◌, subst}
use Rattle.std.specs.Prelude.{All}
use Rattle.sap_terms.specs.Message.{IsMessage}
use Rattle.sap_terms.specs.Signature.{Sig}
use Rattle.sap_terms.specs.View.{tree}
use Rattle.sap_terms.specs.declared.var.Sort.TheVariants.{Msg}
use Rattle.sap_derive.specs.Found.{IsSmallMessage}
use Rattle.sap_derive.proofs.FoundOnce.{some-derived, none-derived}
use Rattle.sap_derive.proofs.derived.derive.Goals as goal

pub enter_all-requires-clause-messages : goal.enter_all-requires-clause-messages
enter_all-requires-clause-messages c = subst (λ (g : Sig). All (IsSmallMessage g) c.args.entries.now) (sym c.in_ok-search.ensures.0) c.requires.entries

pub find-found-requires-clause-message : goal.find-found-requires-clause-message
find-found-requires-clause-message c = subst (λ (g : Sig). IsMessage g Msg (tree c.args.goal.now)) (sym (c.enter_all.ensures.sig ∙ c.in_ok-search.ensures.0)) c.requires.goal.0

pub returns-in-Ok-clause-some : goal.returns-in-Ok-clause-some
returns-in-Ok-clause-some c =
    some-derived c.args.sig.now c.args.entries.now (tree c.args.goal.now) c.enter_all.new.search c.find-found.new.self (c.enter_all.ensures.sig ∙ c.in_ok-search.ensures.0) c.in-Ok.ensures.entries c.find-found.result c.find-found.ensures.some

pub returns-in-Ok-clause-none : goal.returns-in-Ok-clause-none
returns-in-Ok-clause-none c =
    none-derived c.args.sig.now c.args.entries.now (tree c.args.goal.now) c.enter_all.new.search c.find-found.new.self (c.enter_all.ensures.sig ∙ c.in_ok-search.ensures.0) c.in-Ok.ensures.entries c.find-found.result c.find-found.ensures.none
