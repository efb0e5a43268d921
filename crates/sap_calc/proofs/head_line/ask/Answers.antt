use Rattle.std.proofs.Common.{Bor, sym, ap, ◌∙◌}
use Rattle.std.specs.Option.{option_copied}
use Rattle.std.proofs.lemmas.Option.{MatchOption-at_none, MatchOption-at_some}
use Rattle.sap_terms.specs.declared.term.Term.{Term}
use Rattle.sap_calc.specs.code.HeadLines.{HasOne, HasTwo, nobody, other_form, one_fails, two_fail}
use Rattle.sap_calc.proofs.HeadLines.{standing, standing_tied, one_can, first_can, second_can}
use Rattle.sap_calc.proofs.Moves.{keeps_same}
use Rattle.sap_calc.proofs.Numbered.{live_got}
use Rattle.sap_calc.proofs.head_line.ask.Goals as goal

pub returns-in_default-clause-refused : goal.returns-in_default-clause-refused
returns-in_default-clause-refused c = nobody (sym (ap option_copied c.in_default.is) ∙ c.thread_at.ensures)

pub returns-in_default-clause-keeps : goal.returns-in_default-clause-keeps
returns-in_default-clause-keeps c = keeps_same c.args.table.now

pub at-place-requires : goal.at-place-requires
at-place-requires c = (c.requires.threads c.args.t c.in-Some.th.now (live_got c.args.threads.now.items c.args.t c.in-Some.th.now c.in-Some.ensures)).below

pub returns-in_default-terms_at-clause-refused : goal.returns-in_default-terms_at-clause-refused
returns-in_default-terms_at-clause-refused c = other_form c.in-Some.th.now c.at-place.result.now (record { runs = c.in-Some.ensures; at = c.at-place.ensures }) (c.in_default-terms_at.ensures c.args.t)

pub returns-in_default-terms_at-clause-keeps : goal.returns-in_default-terms_at-clause-keeps
returns-in_default-terms_at-clause-keeps c = keeps_same c.args.table.now

pub value-requires-clause-env : goal.value-requires-clause-env
value-requires-clause-env c = (c.requires.threads c.args.t c.in-Some.th.now (live_got c.args.threads.now.items c.args.t c.in-Some.th.now c.in-Some.ensures)).small

pub value-requires-clause-can : goal.value-requires-clause-can
value-requires-clause-can c =
    let x = c.at-place.result.now in
    let head = MatchOption-at_none (HasOne c.args.line x.form c.in-Some-terms_at.m.now) (λ (n : Bor Term). HasTwo c.args.line x.form c.in-Some-terms_at.m.now n.now) c.in-None.is c.in-Some-terms_at.ensures in
    one_can (standing c.args.table.now c.args.places.now c.args.threads.now.items) c.args.t c.in-Some.th.now x (standing_tied c.args.table.now c.args.places.now c.args.threads.now.items c.requires.places c.requires.threads)
    (record { runs = c.in-Some.ensures; at = c.at-place.ensures }) c.each_is_ground.ensures c.args.line c.in-Some-terms_at.m.now head

pub values-requires-clause-env : goal.values-requires-clause-env
values-requires-clause-env c = (c.requires.threads c.args.t c.in-Some.th.now (live_got c.args.threads.now.items c.args.t c.in-Some.th.now c.in-Some.ensures)).small

pub values-requires-clause-first : goal.values-requires-clause-first
values-requires-clause-first c =
    let x = c.at-place.result.now in
    let head = MatchOption-at_some (HasOne c.args.line x.form c.in-Some-terms_at.m.now) (λ (n : Bor Term). HasTwo c.args.line x.form c.in-Some-terms_at.m.now n.now) c.in-Some-other.n c.in-Some-other.is c.in-Some-terms_at.ensures in
    first_can (standing c.args.table.now c.args.places.now c.args.threads.now.items) c.args.t c.in-Some.th.now x (standing_tied c.args.table.now c.args.places.now c.args.threads.now.items c.requires.places c.requires.threads)
    (record { runs = c.in-Some.ensures; at = c.at-place.ensures }) c.each_is_ground.ensures c.args.line c.in-Some-terms_at.m.now c.in-Some-other.n.now head

pub values-requires-clause-second : goal.values-requires-clause-second
values-requires-clause-second c =
    let x = c.at-place.result.now in
    let head = MatchOption-at_some (HasOne c.args.line x.form c.in-Some-terms_at.m.now) (λ (n : Bor Term). HasTwo c.args.line x.form c.in-Some-terms_at.m.now n.now) c.in-Some-other.n c.in-Some-other.is c.in-Some-terms_at.ensures in
    second_can (standing c.args.table.now c.args.places.now c.args.threads.now.items) c.args.t c.in-Some.th.now x (standing_tied c.args.table.now c.args.places.now c.args.threads.now.items c.requires.places c.requires.threads)
    (record { runs = c.in-Some.ensures; at = c.at-place.ensures }) c.each_is_ground.ensures c.args.line c.in-Some-terms_at.m.now c.in-Some-other.n.now head

pub returns-in-Err-clause-refused : goal.returns-in-Err-clause-refused
returns-in-Err-clause-refused c =
    let x = c.at-place.result.now in
    let head = MatchOption-at_none (HasOne c.args.line x.form c.in-Some-terms_at.m.now) (λ (n : Bor Term). HasTwo c.args.line x.form c.in-Some-terms_at.m.now n.now) c.in-None.is c.in-Some-terms_at.ensures in
    one_fails c.in-Some.th.now x c.in-Some-terms_at.m.now (record { runs = c.in-Some.ensures; at = c.at-place.ensures }) head c.in-Err.ensures.refused

pub returns-in-Err-values-clause-refused : goal.returns-in-Err-values-clause-refused
returns-in-Err-values-clause-refused c =
    let x = c.at-place.result.now in
    let head = MatchOption-at_some (HasOne c.args.line x.form c.in-Some-terms_at.m.now) (λ (n : Bor Term). HasTwo c.args.line x.form c.in-Some-terms_at.m.now n.now) c.in-Some-other.n c.in-Some-other.is c.in-Some-terms_at.ensures in
    two_fail c.in-Some.th.now x c.in-Some-terms_at.m.now c.in-Some-other.n.now (record { runs = c.in-Some.ensures; at = c.at-place.ensures }) head c.in-Err-values.ensures.refused
