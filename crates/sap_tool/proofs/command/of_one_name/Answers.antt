use Rattle.std.proofs.Common.{List, [], ◌∷◌, sym, subst}
use Rattle.std.specs.Prelude.{ℕ, MatchOption}
use Rattle.sap_tool.specs.code.Asked.{AsksFor, AsksNothing}
use Rattle.sap_tool.proofs.command.of_one_name.Goals as goal

pub returns-in-help : goal.returns-in-help
returns-in-help c =
    subst (λ (w : List ℕ). MatchOption c.of_help.result (AsksNothing (w ∷ c.args.name.now ∷ [])) (λ command. AsksFor (w ∷ c.args.name.now ∷ []) command))
    (sym c.in-help.is) c.of_help.ensures
