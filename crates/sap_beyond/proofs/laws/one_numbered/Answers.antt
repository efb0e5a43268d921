use Rattle.sap_beyond.proofs.Numbered.{numbered_only, numbered_where, one_number}
use Rattle.sap_beyond.proofs.laws.one_numbered.Goals as goal

pub returns-clause-one : goal.returns-clause-one
returns-clause-one c = one_number

pub returns-clause-some : goal.returns-clause-some
returns-clause-some c = numbered_where

pub returns-clause-only : goal.returns-clause-only
returns-clause-only c = numbered_only
