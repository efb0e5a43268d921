use Rattle.std.proofs.Common.{◌∙◌, length, ◌++◌, ◌∷◌, []}
use Rattle.sap_terms.specs.View.{tree}
use Rattle.sap_deduce.proofs.Lined.{on_err, lines-kept, within-kept, within_push, lines_of-push, origin-last, more-none, applied-within}
use Rattle.sap_deduce.proofs.lines.Lines.push_applied.Goals as goal

pub returns-in-Err-clause-err : goal.returns-in-Err-clause-err
returns-in-Err-clause-err c =
    let a = c.self.inside in
    lines-kept a.symbols c.place_in.new.names a.used a.used a.entries c.place_in.ensures.more (more-none a.used) c.self.invariant.within ∙ c.self.view_is

pub returns-in-Err-append-clause-err : goal.returns-in-Err-append-clause-err
returns-in-Err-append-clause-err c =
    let a = c.self.inside in
    lines-kept a.symbols c.place_in.new.names a.used c.append.new.used a.entries c.place_in.ensures.more c.append.ensures.more c.self.invariant.within ∙ c.self.view_is

pub returns-in_err-push-clause-err : goal.returns-in_err-push-clause-err
returns-in_err-push-clause-err c =
    let a = c.self.inside in
    on_err c.from_residual.result (rw c.in_err-push.ensures.err (lines-kept a.symbols c.place_in.new.names a.used c.append.new.used a.entries c.place_in.ensures.more c.append.ensures.more c.self.invariant.within ∙ c.self.view_is))

pub invariant_of-self-2 : goal.invariant_of-self-2
invariant_of-self-2 c =
    let a = c.self.inside in
    let kept = within-kept a.symbols c.place_in.new.names a.used c.append.new.used a.entries c.place_in.ensures.more c.append.ensures.more c.self.invariant.within in
    let here = applied-within (length c.place_in.new.names) a.used c.append.new.used c.args.numbers.now c.in-Ok.symbol c.in-Ok-append.from c.len-count.result c.in-Ok.ensures.below c.in-Ok-append.ensures.ok c.in-Ok-append.ensures.from c.len-count.ensures in
    rw c.in_ok-push.ensures.ok (record { within = within_push (length c.place_in.new.names) (length c.append.new.used) a.entries _ kept here; places = c.place_in.ensures.places })

pub returns-clause-ok : goal.returns-clause-ok
returns-clause-ok c =
    let a = c.self.inside in
    let names = c.place_in.new.names in
    let used = c.append.new.used in
    let before = lines-kept a.symbols names a.used used a.entries c.place_in.ensures.more c.append.ensures.more c.self.invariant.within ∙ c.self.view_is in
    let origin = rw (← c.in-Ok-append.ensures.ok) at (origin-last names a.used c.args.numbers.now c.in-Ok.symbol c.in-Ok-append.from c.len-count.result c.args.f.now c.in-Ok.ensures.name c.in-Ok-append.ensures.from c.len-count.ensures) in
    rw c.in_ok-push.ensures.ok (lines_of-push names used a.entries _ ∙ (λ i. before i ++ record { number = c.args.number; term = tree c.args.term; origin = origin i } ∷ []))
