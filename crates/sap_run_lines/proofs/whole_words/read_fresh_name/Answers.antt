use Rattle.std.proofs.Common.{sym, subst}
use Rattle.sap_run_lines.specs.WholeWords.{IsReadAs, IsFreshName}
use Rattle.sap_run_lines.proofs.WholeWords.{fresh_told}
use Rattle.sap_run_lines.proofs.whole_words.read_fresh_name.Goals as goal

pub returns : goal.returns
returns c = subst (IsReadAs IsFreshName c.args.bytes.now) (sym c.fresh_alone.ensures) (fresh_told c.args.bytes.now)
