use Rattle.sap_read.proofs.OneParting.{one_cut, one_tokens}
use Rattle.sap_read.proofs.laws.one_parting.Goals as goal

pub returns-clause-tokens : goal.returns-clause-tokens
returns-clause-tokens c = λ z ts us x y cut other p q. one_tokens c.one_answer.ensures p.tokens q.tokens

pub returns-clause-items : goal.returns-clause-items
returns-clause-items c = λ z ts us x y cut other p q. one_cut c.item_laws.ensures c.one_answer.ensures p q
