use Rattle.std.proofs.Common.{◌≡◌, sym, ◌∙◌, subst}
use Rattle.std.specs.Prelude.{is_some}
use Rattle.sap_terms.specs.Signature.{Sig, HoldsBuiltins}
use Rattle.sap_derive.specs.code.Listed.{IsListed}
use Rattle.sap_derive.proofs.Completed.{completed}
use Rattle.sap_derive.proofs.Deduced.{deduced}
use Rattle.sap_derive.proofs.Options.{is_some-decides}
use Rattle.sap_derive.proofs.state.State.is_known.Goals as goal

pub returns-clause-deducible : goal.returns-clause-deducible
returns-clause-deducible c =
    let s = c.args.self.now in
    let state = c.requires.state in
    let n = c.args.n in
    let term = state.terms_are c.requires.listed.0 n c.requires.listed.1 in
    let builtins : HoldsBuiltins s.table.sig = subst (λ (g : Sig). HoldsBuiltins g) c.signature.ensures c.builtins_are_held.ensures in
    let decides = is_some-decides c.place.result (IsListed s.closure.known n) (λ k e. (k, e)) c.place.ensures.some c.place.ensures.none in
    let is : c.is_some.result ≡ is_some c.place.result = c.is_some.ensures in (
      λ t. deduced s.table s.entries s.terms s.brought s.given s.closure s.openers state n (decides.0 (sym is ∙ t)) term.normal,
      λ d. is ∙ decides.1 (completed s.table s.entries s.terms s.brought s.given s.closure s.openers state c.normal_forms_are_unique.ensures c.symbols_reduce_once.ensures builtins c.each_has_one_number.ensures c.requires.brought c.requires.given c.requires.closed n c.requires.listed term.below d),
    )

pub returns-clause-known : goal.returns-clause-known
returns-clause-known c t =
    let s = c.args.self.now in
    let n = c.args.n in
    let decides = is_some-decides c.place.result (IsListed s.closure.known n) (λ k e. (k, e)) c.place.ensures.some c.place.ensures.none in
    let is : c.is_some.result ≡ is_some c.place.result = c.is_some.ensures in
    decides.0 (sym is ∙ t)
