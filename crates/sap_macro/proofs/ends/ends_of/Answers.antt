use Rattle.std.proofs.Common.{◌+◌, ap, ◌∙◌, length, arith}
use Rattle.std.proofs.lemmas.List.{length_push}
use Rattle.sap_macro.specs.Sources.{definitions}
use Rattle.sap_macro.proofs.Endings.{first_all, one_end}
use Rattle.sap_macro.proofs.Entries.{length_of}
use Rattle.sap_macro.proofs.ends.ends_of.Goals as goal

pub loop-preserved : goal.loop-preserved
loop-preserved c = record {
  long = ap length c.in_ok-push.ensures.ok ∙ length_push c.loop.ends c.end_at-end.result ∙ ap (λ n. n + 1) c.loop.invariant.long;
  first = one_end (definitions c.args.defs.now) c.loop.ends c.push.new.self c.end_at-end.result c.in_ok-push.ensures.ok c.loop.invariant.first c.end_at-end.ensures;
}

pub returns : goal.returns
returns c =
    let many = length_of c.args.defs.now in
    let last = c.loop-test.false in
    let long = c.loop.invariant.long in
    let all = c.len-end.ensures in
    first_all (definitions c.args.defs.now) c.loop.ends (omega (arith, many, last, long, all)) c.loop.invariant.first
