use Rattle.std.proofs.Common.{◌≡◌, ℕ, List, ◌∷◌, ◌++◌, [], subst, sym}
use Rattle.std.specs.Prelude.{Result, Ok, Err, OnOk, OnErr}
use Rattle.sap_derive.specs.code.Listed.{IsListed, StandOnce}
use Rattle.sap_derive.proofs.Options.{from-none}
use Rattle.sap_derive.proofs.Pushed.{once-more, pushed-keeps}
use Rattle.sap_derive.proofs.listing.list.Goals as goal

-- whether the number was put last or not
pushed-or_not : {T E : Type 0} (r : Result T E) (old new : List ℕ) (n : ℕ) → ¬ IsListed old n → OnOk r (new ≡ old ++ n ∷ []) → OnErr r (new ≡ old) → StandOnce old → StandOnce new
pushed-or_not (Ok x) old new n none ok err once = subst StandOnce (sym ok) (once-more old n once none)
pushed-or_not (Err e) old new n none ok err once = subst StandOnce (sym err) once

pub returns-clause-once : goal.returns-clause-once
returns-clause-once c =
    let none : ¬ IsListed c.args.items.now c.args.n = from-none c.place.result (¬ IsListed c.args.items.now c.args.n) c.place.ensures.none (sym c.if-is_some.ensures) in
    pushed-or_not c.push.result c.args.items.now c.push.new.self c.args.n none c.push.ensures.ok c.push.ensures.err

pub returns-clause-places : goal.returns-clause-places
returns-clause-places c = (pushed-keeps c.args.items.now c.push.new.self c.args.n c.push.result c.push.ensures.ok c.push.ensures.err).items

pub returns-clause-kept : goal.returns-clause-kept
returns-clause-kept c m l = (l.0, (pushed-keeps c.args.items.now c.push.new.self c.args.n c.push.result c.push.ensures.ok c.push.ensures.err).items l.0 m l.1)
