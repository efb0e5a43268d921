use Rattle.std.proofs.lemmas.Option.{IfSome_then}
use Rattle.std.proofs.lemmas.Result.{IfOk-weaker}
use Rattle.sap_macro.specs.Sources.{definition_of, definitions}
use Rattle.sap_uses.proofs.FirstFlawed.{IfNone_then, flaw_there, none_in_body, none_unwanted}
use Rattle.sap_uses.proofs.flawed.flaw_of.Goals as goal

pub returns-then-not-is_wanted-clause-none : goal.returns-then-not-is_wanted-clause-none
returns-then-not-is_wanted-clause-none c g p reached =
    none_unwanted g (definitions c.args.defs.now) p (definition_of c.args.d.now) c.args.names.now c.is_wanted.result c.is_wanted.ensures reached c.if-not-is_wanted.true

pub returns-clause-found : goal.returns-clause-found
returns-clause-found c g p reached =
    IfOk-weaker c.body_flaw.result _ _
    (λ o h. IfSome_then o h (λ f is.
    flaw_there g (definitions c.args.defs.now) p (definition_of c.args.d.now) c.args.names.now c.is_wanted.result c.is_wanted.ensures reached c.if-not-is_wanted.false f.0 f.1 is))
    (c.body_flaw.ensures.found g)

pub returns-clause-none : goal.returns-clause-none
returns-clause-none c g p reached =
    IfOk-weaker c.body_flaw.result _ _
    (λ o h. IfNone_then o h (λ none. none_in_body g (definitions c.args.defs.now) p (definition_of c.args.d.now) c.args.names.now c.is_wanted.result c.is_wanted.ensures reached none))
    (c.body_flaw.ensures.none g)
