use Rattle.std.proofs.Common.{◌≡◌, arith, subst}
use Rattle.sap_macro.specs.Sources.{definitions, written}
use Rattle.sap_uses.specs.code.Checked.{IsCauseFrom}
use Rattle.sap_uses.specs.declared.fault.MacroFault.TheVariants.{TooDeep}
use Rattle.sap_uses.proofs.Causes.{levels_hold}
use Rattle.sap_uses.proofs.expanding.check_size.Goals as goal

pub returns-then-size-gt-MOST_PROCESS_LEVELS-clause-refused :
    goal.returns-then-size-gt-MOST_PROCESS_LEVELS-clause-refused
returns-then-size-gt-MOST_PROCESS_LEVELS-clause-refused c = λ g e is other.
    let same : TooDeep ≡ e = cc in
    let few = c.if-size-gt-MOST_PROCESS_PLACES.false in
    let deep = c.if-size-gt-MOST_PROCESS_LEVELS.true in
    subst (IsCauseFrom g (definitions c.args.defs.now) (written c.args.main.now) 3) same
    (levels_hold g (definitions c.args.defs.now) (written c.args.main.now) (λ ids. let nodes = c.in_ok-size.ensures.nodes ids in omega (arith, nodes, few))
    (λ ids. let levels = c.in_ok-size.ensures.levels ids in omega (arith, levels, deep)))
