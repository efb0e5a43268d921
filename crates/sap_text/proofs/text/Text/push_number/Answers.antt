use Rattle.std.proofs.lemmas.Fmt.{decimal_digit}
use Rattle.sap_text.proofs.text.Text.push_number.Goals as goal

pub returns-then-n-lt10-clause-ok : goal.returns-then-n-lt10-clause-ok
returns-then-n-lt10-clause-ok c = rw (decimal_digit c.args.n c.if-n-lt10.true) c.push_byte.ensures.ok
