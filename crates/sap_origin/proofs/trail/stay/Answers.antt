use Rattle.std.proofs.Common.{ℕ, List, drop, refl, sym, subst}
use Rattle.sap_macro.specs.Located.{Located, call_at}
use Rattle.sap_origin.specs.Reached.{IsEnd, ReachesBy, Standing}
use Rattle.sap_origin.specs.declared.trail.Replaced.TheVariants.{Every, Plain}
use Rattle.sap_origin.proofs.Walked.{left_nowhere, next_digit, no_digit, none_below}
use Rattle.sap_origin.proofs.trail.stay.Goals as goal

pub returns-in-Every : goal.returns-in-Every
returns-in-Every c =
    rw c.in-Every.is
    (λ es ds s left.
    subst (λ (p : Located). (z : Standing) (w : Located) → ReachesBy ds Every s p (drop c.args.here.at c.args.path.now) z w → ⊥) (sym c.requires.is.2)
    (left_nowhere ds s c.requires.is.0 c.args.name.now c.requires.is.1 (drop c.args.here.at c.args.path.now) left))

pub returns-else-here-path : goal.returns-else-here-path
returns-else-here-path c =
    rw c.in-Plain.is
    (λ es ds s left. (subst (λ (p : Located). IsEnd ds Plain p) (sym c.requires.is.2) left, no_digit c.args.path.now c.args.here.at c.if-here-path.false, refl))

pub returns-then-here-path : goal.returns-then-here-path
returns-then-here-path c =
    rw c.in-Plain.is
    (λ es ds s left.
    let at = c.args.here.at in
    let path = c.args.path.now in
    subst (λ (p : Located). (z : Standing) (w : Located) → ReachesBy ds Plain s p (drop at path) z w → ⊥) (sym c.requires.is.2)
    (subst (λ (rest : List ℕ). (z : Standing) (w : Located) → ReachesBy ds Plain s (call_at c.requires.is.0 c.args.name.now c.requires.is.1) rest z w → ⊥) (sym (next_digit path at c.if-here-path.true))
    (λ z w r. none_below ds Plain left r)))
