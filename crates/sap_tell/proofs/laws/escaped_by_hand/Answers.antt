use Rattle.std.proofs.Common.{refl}
use Rattle.sap_tell.specs.Escaped.{escaped_byte}
use Rattle.sap_tell.proofs.BytesByHand.{no_mark, no_quotation, no_lone_ampersand, no_open_reference}
use Rattle.sap_tell.proofs.laws.escaped_by_hand.Goals as goal

pub returns-clause-pair : goal.returns-clause-pair
unfolding escaped_byte
returns-clause-pair c = refl

pub returns-clause-others : goal.returns-clause-others
unfolding escaped_byte
returns-clause-others c = refl

pub returns-clause-reference : goal.returns-clause-reference
unfolding escaped_byte
returns-clause-reference c = refl

pub returns-clause-mark : goal.returns-clause-mark
returns-clause-mark c = no_mark

pub returns-clause-quotation : goal.returns-clause-quotation
returns-clause-quotation c = no_quotation

pub returns-clause-alone : goal.returns-clause-alone
returns-clause-alone c = no_lone_ampersand

pub returns-clause-open : goal.returns-clause-open
returns-clause-open c = no_open_reference
