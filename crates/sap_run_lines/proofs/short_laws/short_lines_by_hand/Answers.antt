use Rattle.sap_run_lines.proofs.ShortByHand as hand
use Rattle.sap_run_lines.proofs.short_laws.short_lines_by_hand.Goals as goal

pub returns-clause-input : goal.returns-clause-input
returns-clause-input c = hand.input

pub returns-clause-sending : goal.returns-clause-sending
returns-clause-sending c = hand.sending

pub returns-clause-knowing : goal.returns-clause-knowing
returns-clause-knowing c = hand.knowing

pub returns-clause-output : goal.returns-clause-output
returns-clause-output c = hand.output

pub returns-clause-no_input : goal.returns-clause-no_input
returns-clause-no_input c = hand.no_input

pub returns-clause-no_sending : goal.returns-clause-no_sending
returns-clause-no_sending c = hand.no_sending

pub returns-clause-no_knowing : goal.returns-clause-no_knowing
returns-clause-no_knowing c = hand.no_knowing

pub returns-clause-no_public : goal.returns-clause-no_public
returns-clause-no_public c = hand.no_public

pub returns-clause-no_symbol : goal.returns-clause-no_symbol
returns-clause-no_symbol c = hand.no_symbol

pub returns-clause-no_blank : goal.returns-clause-no_blank
returns-clause-no_blank c = hand.no_blank
