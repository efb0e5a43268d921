use Rattle.sap_explain.proofs.ExpectedOnce.{open_is}
use Rattle.sap_explain.proofs.expected_told.push_open.Goals as goal

pub position_of-position-requires : goal.position_of-position-requires
position_of-position-requires c = c.stretch_at-stretch.ensures.within _ c.requires

pub bytes_at-requires : goal.bytes_at-requires
bytes_at-requires c = (c.stretch_at-stretch.ensures.order _ c.requires, c.stretch_at-stretch.ensures.ends _ c.requires)

pub returns : goal.returns
returns c =
    let said = c.in_ok-push_bytes-2.ensures.ok in
    let bytes = rw c.bytes_at.ensures at said in
    open_is c.args.bytes.now c.args.tokens.now c.args.k c.stretch_at-stretch.result c.position_of-position.result _ _ _ _ _ c.stretch_at-stretch.ensures.is c.position_of-position.ensures
    c.in_ok-push_bytes.ensures.ok bytes c.push_position.ensures
