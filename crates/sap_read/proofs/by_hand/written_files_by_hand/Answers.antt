use Rattle.std.proofs.Common.{◌≡◌, [], ◌∷◌, refl}
use Rattle.std.proofs.lemmas.Bool.{false≢true}
use Rattle.std.specs.Prelude.{codes}
use Rattle.sap_read.specs.FileExamples.{defined_file, doing_nothing, using_p}
use Rattle.sap_read.proofs.FilesByHand.{Longest, defined_is}
use Rattle.sap_read.proofs.by_hand.written_files_by_hand.Goals as goal

pub returns-clause-written : goal.returns-clause-written
returns-clause-written c =
    let longest : Longest = record {
      names = c.longest_tokens.ensures.names;
      numbers = c.longest_tokens.ensures.numbers;
      quoted = c.longest_tokens.ensures.quoted;
      symbols = c.longest_tokens.ensures.symbols;
    } in
    defined_is longest

pub returns-clause-nothing_else : goal.returns-clause-nothing_else
returns-clause-nothing_else c = λ ds p w.
    let longest : Longest = record {
      names = c.longest_tokens.ensures.names;
      numbers = c.longest_tokens.ensures.numbers;
      quoted = c.longest_tokens.ensures.quoted;
      symbols = c.longest_tokens.ensures.symbols;
    } in
    c.files_show_as_they_are_written.ensures.one defined_file ds (doing_nothing ∷ []) p using_p w (defined_is longest)

pub returns-clause-without_parameters : goal.returns-clause-without_parameters
returns-clause-without_parameters c = (refl, (refl, tt))

pub returns-clause-in_scope : goal.returns-clause-in_scope
returns-clause-in_scope c = tt

pub returns-clause-tree : goal.returns-clause-tree
returns-clause-tree c = refl

pub returns-clause-with_parameter : goal.returns-clause-with_parameter
returns-clause-with_parameter c = λ h. let no : codes "x" ∷ [] ≡ [] = h.0 in cc

pub returns-clause-not_in_scope : goal.returns-clause-not_in_scope
returns-clause-not_in_scope c = λ h. false≢true h.0
