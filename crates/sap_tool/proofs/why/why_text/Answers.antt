use Rattle.std.proofs.Common.{arith}
use Rattle.sap_tool.proofs.WhyMeant.{on_ok, long_is}
use Rattle.sap_tool.proofs.why.why_text.Goals as goal

pub returns-then-bytes-gt-MOST_BYTES : goal.returns-then-bytes-gt-MOST_BYTES
returns-then-bytes-gt-MOST_BYTES c =
    on_ok _ _ _ (λ text is. long_is c.args.bytes.now text (omega (arith, c.if-bytes-gt-MOST_BYTES.true)) is) c.too_long.ensures
