use Rattle.sap_place.proofs.FactNames.{state_paths, state_scopes, semi_paths, names_apart}
use Rattle.sap_place.proofs.laws.facts_name_their_places.Goals as goal

pub returns-clause-states : goal.returns-clause-states
returns-clause-states c = state_paths

pub returns-clause-scopes : goal.returns-clause-scopes
returns-clause-scopes c = state_scopes

pub returns-clause-semis : goal.returns-clause-semis
returns-clause-semis c = semi_paths

pub returns-clause-apart : goal.returns-clause-apart
returns-clause-apart c = names_apart
