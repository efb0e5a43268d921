use Rattle.sap_beyond.proofs.Numbered.{deep_only, deep_where, one_deep}
use Rattle.sap_beyond.proofs.laws.one_first_deep.Goals as goal

pub returns-clause-one : goal.returns-clause-one
returns-clause-one c = one_deep

pub returns-clause-some : goal.returns-clause-some
returns-clause-some c = deep_where

pub returns-clause-only : goal.returns-clause-only
returns-clause-only c = deep_only
