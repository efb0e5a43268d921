use Rattle.std.proofs.Common.{◌∙◌}
use Rattle.sap_share.specs.code.Keys.{key_eq, key_decides}
use Rattle.sap_share.proofs.Grown.{IfOk_given}
use Rattle.sap_share.proofs.Keys.{new_is_last}
use Rattle.sap_share.proofs.nodes.put_key.Goals as goal

pub returns-clause-keys : goal.returns-clause-keys
returns-clause-keys c =
    IfOk_given c.insert.result (c.insert.ensures.succeeds c.requires.room) c.insert.ensures.keys ∙ new_is_last key_eq key_decides c.args.keys.now.keys c.args.key c.requires.new
