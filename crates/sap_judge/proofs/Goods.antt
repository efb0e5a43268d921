-- Messages of some sort.
use Rattle.std.proofs.Common.{◌≡◌, true}
use Rattle.sap_formula.specs.Messages.{IsAnyMessage}
use Rattle.sap_terms.specs.Choice.{fits_sort}
use Rattle.sap_terms.specs.Message.{IsMessage}
use Rattle.sap_terms.specs.Signature.{Sig}
use Rattle.sap_terms.specs.Tree.{Tree}
use Rattle.sap_terms.specs.declared.var.Sort.{Sort}

pub message_good : (g : Sig) (s : Sort) (t : Tree) → IsMessage g s t → IsAnyMessage g t
message_good g s t m = (m.ground, m.over, m.normal)

pub good_message : (g : Sig) (s : Sort) (t : Tree) → IsAnyMessage g t → fits_sort s t ≡ true → IsMessage g s t
good_message g s t m e = record { ground = m.0; over = m.1; normal = m.2; sorted = e }
