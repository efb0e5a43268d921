use Rattle.sap_grammar.proofs.Cuts.{one_header}
use Rattle.sap_grammar.proofs.Headers.{header_is, header_none}
use Rattle.sap_grammar.proofs.laws.headers_are_read.Goals as goal

pub returns-clause-one : goal.returns-clause-one
returns-clause-one c = one_header

pub returns-clause-found : goal.returns-clause-found
returns-clause-found c = header_is

pub returns-clause-none : goal.returns-clause-none
returns-clause-none c = header_none
