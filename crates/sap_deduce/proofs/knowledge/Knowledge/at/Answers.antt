use Rattle.std.proofs.Common.{◌∙◌, ap, sym, slice_get}
use Rattle.sap_deduce.proofs.Entered.{terms_of-entries}
use Rattle.sap_deduce.proofs.knowledge.Knowledge.at.Goals as goal

pub returns : goal.returns
returns c = rw (← c.self.view_is) (c.term.ensures ∙ ap (λ ts. slice_get ts c.args.k) (sym (terms_of-entries c.self.inside.entries)))
