use Rattle.std.proofs.Common.{ap, sym, ◌∙◌}
use Rattle.sap_node_words.specs.code.Walk.{found}
use Rattle.sap_node_words.proofs.Walks.{term_found}
use Rattle.sap_node_words.proofs.walk.node_word.Goals as goal

pub returns-in-Ok : goal.returns-in-Ok
returns-in-Ok c = λ g b r. sym (ap found c.in-Ok.ensures) ∙ term_found r c.args.node

pub returns-in-Err : goal.returns-in-Err
returns-in-Err c = λ g b r. sym (ap found c.in-Err.ensures) ∙ term_found r c.args.node
