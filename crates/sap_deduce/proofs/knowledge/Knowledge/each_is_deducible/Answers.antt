use Rattle.sap_deduce.specs.code.Views.{seen}
use Rattle.sap_deduce.proofs.Derivations.{entered-deducible}
use Rattle.sap_deduce.proofs.Known.{entered-messages}
use Rattle.sap_deduce.proofs.Limits.{entries-small}
use Rattle.sap_deduce.proofs.knowledge.Knowledge.each_is_deducible.Goals as goal

pub returns-clause-entered : goal.returns-clause-entered
returns-clause-entered c = rw (← c.self.view_is) c.self.invariant.entered

pub returns-clause-messages : goal.returns-clause-messages
returns-clause-messages c =
    rw (← c.self.view_is) (entered-messages c.names_are_messages.ensures c.forms_are_messages.ensures _ _ c.builtins_are_held.ensures c.self.invariant.entered)

pub returns-clause-within : goal.returns-clause-within
returns-clause-within c = rw (← c.self.view_is) (entries-small _ c.self.invariant.within)

pub returns-clause-deducible : goal.returns-clause-deducible
returns-clause-deducible c =
    let a = c.self.inside in
    rw (← c.self.view_is) (entered-deducible c.leaves_are_normal.ensures (seen a.sig a.entries) c.self.invariant.entered)
