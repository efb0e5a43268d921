use Rattle.std.specs.Prelude.{codes, map}
use Rattle.sap_expect.specs.Kinds.{kind_of}
use Rattle.sap_expect.specs.KindText.{kind_text, others_text}
use Rattle.sap_expect.proofs.KindTexts.{three_put}
use Rattle.sap_expect.proofs.kind_text.push_kinds.Goals as goal

pub returns : goal.returns
returns c =
    three_put c.args.text.now c.push_bytes.new.self c.push_kind.new.text c.push_others.new.text (codes "Here may stand: ") (kind_text (kind_of c.args.first))
    (others_text (map kind_of c.args.others.now)) c.in_ok-push_bytes.ensures.ok c.in_ok-push_kind.ensures c.in_ok-push_others.ensures
