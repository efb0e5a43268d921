-- A small theory whose restrictions speak of a hidden fact, to see by hand on what a theory's restrictions are judged.
use Rattle.std.specs.Prelude.{ℕ, List, [], ◌∷◌, codes}
use Rattle.sap_terms.specs.Signature.{Sig}
use Rattle.sap_formula.specs.Form.{Form, RestrictionForm, action, exists, negation}
use Rattle.sap_formula.specs.declared.binder.Binder.TheVariants.{Time}
use Rattle.sap_restrict.specs.ReservedFacts.{init_fact}
use Rattle.sap_rule.specs.declared.rule.Rule.{Rule}
use Rattle.sap_rule.specs.declared.theory.Theory.{Theory}
use Rattle.sap_translate.specs.Examples.{plain_fact}

-- #i
abbrev pub i : List ℕ
i = codes "i"

-- Ex #i. Init()@i
abbrev pub some_start : Form
some_start = exists (Time i ∷ []) (action init_fact i)

-- some time shows Init()
abbrev pub must_start : RestrictionForm
must_start = record { name = codes "must_start"; formula = some_start }

-- none does
abbrev pub never_starts : RestrictionForm
never_starts = record { name = codes "never_starts"; formula = negation some_start }

-- [] --[ Init(), A() ]-> [], which shows a hidden fact and one that is seen
abbrev pub starting_rule : Rule
starting_rule = record { name = codes "Starting"; left = []; acts = init_fact ∷ plain_fact ∷ []; right = [] }

-- the theory with that rule alone and these restrictions
abbrev pub starting_theory : Sig → List RestrictionForm → Theory
starting_theory g rs = record { name = codes "Starting"; signature = g; rules = starting_rule ∷ []; restrictions = rs; lemmas = [] }
