use Rattle.std.proofs.Common.{[], arith}
use Rattle.sap_terms.proofs.PlainLaws.Items.{contains_got}
use Rattle.sap_process.specs.Sites.{above_of, sites_in}
use Rattle.sap_nodes.proofs.FullLaws.{one_filling, some_filling, filled_place}
use Rattle.sap_nodes.proofs.laws.filled_scopes.Goals as goal

pub returns-clause-one : goal.returns-clause-one
returns-clause-one c = λ scope p path d k o r. one_filling (above_of scope 0) p path d k o r

pub returns-clause-some : goal.returns-clause-some
returns-clause-some c = λ g before scope p k s e few full.
    some_filling s.path [] (above_of scope 0) p s (c.places_are_by_path.ensures.at_path p (above_of scope 0) s (contains_got (sites_in scope p) s k e))
    (omega (arith, few)) full

pub returns-clause-place : goal.returns-clause-place
returns-clause-place c = λ g before scope p k s d o e h.
    filled_place s.path [] (above_of scope 0) p s d o h (c.places_are_by_path.ensures.at_path p (above_of scope 0) s (contains_got (sites_in scope p) s k e))
