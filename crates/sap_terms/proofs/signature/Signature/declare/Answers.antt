use Rattle.std.proofs.Common.{List, sym, subst}
use Rattle.sap_terms.specs.Signature.{IsMap, HoldsBuiltins}
use Rattle.sap_terms.specs.declared.signature.Symbol.{Symbol}
use Rattle.sap_terms.proofs.SignatureLemmas.{IsMap-push, HoldsBuiltins-push}
use Rattle.sap_terms.proofs.signature.Signature.declare.Goals as goal

pub invariant_of-self-in-None : goal.invariant_of-self-in-None
invariant_of-self-in-None c =
    let x : Symbol = record { name = c.args.name; arity = c.args.arity; private = c.args.private } in
    let on = c.self.inside.builtins in
    subst (λ (ss : List Symbol). IsMap ss × HoldsBuiltins (record { symbols = ss; builtins = on })) (sym c.in_ok-push-in-None.ensures.ok)
    (IsMap-push c.self.inside.symbols x c.self.invariant.0 (sym c.in-None.ensures), HoldsBuiltins-push (record { symbols = c.self.inside.symbols; builtins = on }) x c.self.invariant.1)
