use Rattle.std.proofs.Common.{◌≡◌, true, subst, sym, arith, Option, IfNone, ℕ}
use Rattle.std.proofs.lemmas.Result.{err_from_is_err_and}
use Rattle.sap_terms.specs.Message.{IsMessage, IsOver}
use Rattle.sap_terms.specs.declared.var.Sort.TheVariants.{Msg}
use Rattle.sap_terms.specs.Equations.{equations}
use Rattle.sap_terms.specs.Signature.{Sig}
use Rattle.sap_terms.specs.View.{tree}
use Rattle.sap_process.specs.Configuration.{CanGive}
use Rattle.sap_calc.specs.Running.{configuration}
use Rattle.sap_intruder.specs.Refusals.{IsNotGiven, bad, not_deduced}
use Rattle.sap_intruder.specs.declared.fill_fault.FillFault.TheVariants as fill
use Rattle.sap_intruder.proofs.Sizes.{forms_small}
use Rattle.sap_intruder.proofs.filling.Filling.give.Goals as goal

pub returns-then-not-is_over-clause-refused : goal.returns-then-not-is_over-clause-refused
returns-then-not-is_over-clause-refused c = bad (λ over.
    let there : IsOver c.args.sig.now (tree c.args.u.now) = subst (λ (g : Sig). IsOver g (tree c.args.u.now)) c.requires.sig over in
    let yes : c.is_over.result ≡ true = c.is_over.ensures.over.1 there in
    let no = c.if-not-is_over.true in
    absurd (cc))

pub find-requires-clause-within : goal.find-requires-clause-within
find-requires-clause-within c =
    let small = forms_small c.equality_is_kept.ensures c.symbols_reduce_once.ensures c.leaves_are_normal.ensures (equations c.args.sig.now) c.normal_forms_are_unique.ensures (tree c.args.u.now) (tree c.in_ok-x.x) c.in_ok-x.ensures in
    let few = c.requires.few in
    omega (arith, small, few)

pub returns-in-None-clause-refused : goal.returns-in-None-clause-refused
returns-in-None-clause-refused c =
    let c0 = configuration c.args.self.now.config in
    let x = tree c.in_ok-x.x in
    let yes : c.is_over.result ≡ true = (let no = c.if-not-is_over.false in cc) in
    let never : ¬ CanGive c.args.self.now.config.sig c0 x = subst (λ (o : Option ℕ). IfNone o (¬ CanGive c.args.self.now.config.sig c0 x)) c.in-None.is c.in_ok-find.ensures.none in
    subst (λ (g : Sig). IsNotGiven g c0 c.args.u.now fill.NotDeduced) (sym c.requires.sig)
    (not_deduced (c.is_over.ensures.over.0 yes) c.in_ok-x.ensures (subst (λ (g : Sig). ¬ CanGive g c0 x) c.requires.sig never))

pub returns-in_err-x-clause-refused : goal.returns-in_err-x-clause-refused
returns-in_err-x-clause-refused c = let p = err_from_is_err_and c.from_residual.result c.from_residual.ensures.1 in rw (p.1, p.2) tt

pub find-requires-clause-message : goal.find-requires-clause-message
find-requires-clause-message c =
    let x = tree c.in_ok-x.x in
    let yes : c.is_over.result ≡ true = (let no = c.if-not-is_over.false in cc) in
    subst (λ (g : Sig). IsMessage g Msg x) (sym c.requires.sig)
    (c.forms_are_messages.ensures c.args.sig.now (tree c.args.u.now) x c.requires.builtins c.requires.ground (c.is_over.ensures.over.0 yes) c.in_ok-x.ensures)
