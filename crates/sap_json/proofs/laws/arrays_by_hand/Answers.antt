use Rattle.std.proofs.Common.{refl}
use Rattle.std.specs.Fmt.{digits}
use Rattle.serde_json.proofs.OnLiterals.{serde_json_on_literals}
use Rattle.sap_json.proofs.ByHand.{no_null, no_string, no_list, no_blank}
use Rattle.sap_json.proofs.laws.arrays_by_hand.Goals as goal

pub returns-clause-public : goal.returns-clause-public
returns-clause-public c = refl

pub returns-clause-apply : goal.returns-clause-apply
returns-clause-apply c = refl

pub returns-clause-embedded : goal.returns-clause-embedded
returns-clause-embedded c = refl

pub returns-clause-text : goal.returns-clause-text
unfolding serde_json_on_literals digits
returns-clause-text c = refl

pub returns-clause-no_null : goal.returns-clause-no_null
returns-clause-no_null c = no_null

pub returns-clause-no_string : goal.returns-clause-no_string
returns-clause-no_string c = no_string

pub returns-clause-no_list : goal.returns-clause-no_list
returns-clause-no_list c = no_list

pub returns-clause-no_blank : goal.returns-clause-no_blank
returns-clause-no_blank c = no_blank
