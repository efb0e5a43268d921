use Rattle.std.proofs.Common.{sym, ◌∙◌}
use Rattle.std.specs.Option.{option_copied}
use Rattle.sap_rewrite.specs.code.Walk.{skipped}
use Rattle.sap_rewrite.proofs.WalkLemmas.{match_length}
use Rattle.sap_rewrite.proofs.matching.+extend.Goals as goal

pub extend_all-returns-then-len : goal.extend_all-returns-then-len
extend_all-returns-then-len t c = match_length (skipped (option_copied c.args.sig)) c.args.ps.now c.args.ts.now c.args.b.now (λ e. c.if-len.true (c.len.ensures ∙ e ∙ sym c.len-2.ensures))
