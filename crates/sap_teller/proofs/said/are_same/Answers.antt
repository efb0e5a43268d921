use Rattle.std.proofs.Common.{sym, ◌∙◌}
use Rattle.sap_teller.proofs.SaidPieces.{apart_lengths}
use Rattle.sap_teller.proofs.said.are_same.Goals as goal

pub returns-then-len : goal.returns-then-len
returns-then-len c = sym (apart_lengths c.args.ts.now c.args.us.now (λ e. c.if-len.true (c.len.ensures ∙ (e ∙ sym c.len-2.ensures))))
