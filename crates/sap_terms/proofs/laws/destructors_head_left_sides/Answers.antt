use Rattle.sap_terms.proofs.SignatureLemmas.{heads, heads-back}
use Rattle.sap_terms.proofs.laws.destructors_head_left_sides.Goals as goal

pub returns : goal.returns
returns c = λ g f. (heads g f, heads-back g f)
