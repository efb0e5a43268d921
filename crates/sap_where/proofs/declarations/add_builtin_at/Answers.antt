use Rattle.std.proofs.Common.{◌≡◌, Option, subst, sym}
use Rattle.std.specs.Prelude.{OnOk}
use Rattle.sap_grammar.specs.Words.{words_of}
use Rattle.sap_grammar.specs.Declarations.{Declaration}
use Rattle.sap_where.specs.code.Declaring.{with_given}
use Rattle.sap_where.proofs.Declaring.{builtin_declared}
use Rattle.sap_where.proofs.declarations.add_builtin_at.Goals as goal

pub returns-in-Some-clause-added : goal.returns-in-Some-clause-added
returns-in-Some-clause-added c =
    let read = builtin_declared (words_of c.args.bytes.now c.args.tokens.now) _ c.in-Some.ensures in
    subst (λ (o : Option Declaration). OnOk c.add_builtin.result (c.add_builtin.new.signature ≡ with_given c.args.signature.now o)) (sym read) c.add_builtin.ensures.added
