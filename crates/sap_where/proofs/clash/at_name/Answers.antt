use Rattle.std.proofs.Common.{sym, ◌∙◌}
use Rattle.sap_where.proofs.Clashes.{other_clash}
use Rattle.sap_where.proofs.clash.at_name.Goals as goal

pub returns-else-eq : goal.returns-else-eq
returns-else-eq c =
    other_clash c.args.bytes.now c.args.tokens.now c.args.name.now c.args.clash.now.name c.args.clash.now.at c.requires
    (sym (rw c.as_bytes.ensures at c.eq.ensures) ∙ c.if-eq.false)
