-- The node of which a flaw speaks is one alone.
use Rattle.std.proofs.Common.{◌≡◌, ℕ, List}
use Rattle.sap_terms.specs.Signature.{Sig}
use Rattle.sap_terms.proofs.PlainLaws.Numbers.{same_number}
use Rattle.sap_process.specs.Sites.{Site}
use Rattle.sap_process.specs.declared.flaw.Flaw.{Flaw}
use Rattle.sap_nodes.specs.FlawNodes.{IsNodeOf}

pub one_node : (g : Sig) (before : List Site) (s : Site) (w : Flaw) (j k : ℕ) → IsNodeOf g before s w j → IsNodeOf g before s w k → j ≡ k
one_node g before s w j k x y = same_number j k (λ l. y.first j l x.here) (λ l. x.first k l y.here)
