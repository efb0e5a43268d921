use Rattle.std.proofs.Common.{refl, arith, subst, sym, ◌∙◌}
use Rattle.std.specs.Prelude.{List, Vec}
use Rattle.std.specs.declared.alloc.Global.{Global}
use Rattle.sap_derive.specs.code.Closed.{IsWaitAt}
use Rattle.sap_derive.specs.declared.grounds.Wait.{Wait}
use Rattle.sap_derive.proofs.Settled.{grows-same, grows-then}
use Rattle.sap_derive.proofs.closure.Closure.look_at_all.Goals as goal

pub loop-init : goal.loop-init
loop-init c =
    let s = c.args.self.now in
    let waits = c.as_slice.ensures.value in
    record {
      closure = c.requires.closure;
      grows = grows-same s;
      placed = refl;
      done = refl;
      looked = refl;
      known = c.requires.known;
      within = λ k w a. c.count_at-count.ensures.within k w (subst (λ (ws : List (Vec Wait Global)). IsWaitAt ws c.args.number k w) (sym waits) a);
      all = λ k l.
          let w = c.count_at-count.ensures.all k l in
          (w.0, subst (λ (ws : List (Vec Wait Global)). IsWaitAt ws c.args.number k w.0) waits w.1);
    }

pub loop-preserved : goal.loop-preserved
loop-preserved c =
    let i = c.loop.invariant in
    let e = c.look_next.ensures in
    record {
      closure = e.closure;
      grows = grows-then c.args.self.now c.loop.self c.look_next.new.self i.grows e.grows;
      placed = e.placed ∙ i.placed;
      done = e.done ∙ i.done;
      looked = c.in_ok-look_next.ensures.ok ∙ (let l = i.looked in omega arith);
      known = rw e.done (e.grows.known c.loop.self.done c.args.number i.known);
      within = λ k w a. i.within k w (e.only k w a);
      all = λ k l. let w = i.all k l in (w.0, e.kept c.args.number k w.0 w.1);
    }

pub returns-clause-ok : goal.returns-clause-ok
returns-clause-ok c k w a =
    let i = c.loop.invariant in
    let l = i.within k w a in
    let counted = i.looked in
    omega arith

pub returns-in_err-look_next-clause-grows : goal.returns-in_err-look_next-clause-grows
returns-in_err-look_next-clause-grows c = grows-then c.args.self.now c.loop.self c.look_next.new.self c.loop.invariant.grows c.look_next.ensures.grows
