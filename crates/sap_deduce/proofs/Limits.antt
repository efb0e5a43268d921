-- The limit on the entries' terms.
use Rattle.std.proofs.Common.{◌≤◌, ℕ, List, slice_index_or}
use Rattle.std.specs.Prelude.{All}
use Rattle.std.proofs.lemmas.List.Elements.{All-map, All-contains}
use Rattle.sap_terms.specs.Tree.{Tree, node_count}
use Rattle.sap_terms.specs.Signature.{Sig}
use Rattle.sap_terms.specs.declared.limits.TheConstants.{MOST_TERM_NODES}
use Rattle.sap_terms.specs.Equations.{equations}
use Rattle.sap_terms.specs.Laws.{LeavesAreNormal}
use Rattle.sap_terms.specs.Normal.{IsNormal}
use Rattle.sap_deduce.specs.Entries.{Entry, terms_of, AreTermsAt, AreEntered}
use Rattle.sap_deduce.proofs.Derivations.{terms_at-contained, entered-normal}

-- a limit on entries is one on their terms
pub entries-small : (es : List Entry) → All (λ (e : Entry). node_count e.term ≤ MOST_TERM_NODES) es → All (λ t. node_count t ≤ MOST_TERM_NODES) (terms_of es)
entries-small es h = All-map (λ t. node_count t ≤ MOST_TERM_NODES) (λ (e : Entry). e.term) es h

-- and on those at some numbers
pub args-small : (es : List Entry) (ks : List ℕ) (ts : List Tree) → All (λ (e : Entry). node_count e.term ≤ MOST_TERM_NODES) es → AreTermsAt es ks ts → All (λ t. node_count t ≤ MOST_TERM_NODES) ts
args-small es ks ts h at k d in_range =
    All-contains (λ t. node_count t ≤ MOST_TERM_NODES) (terms_of es) (slice_index_or ts k d) (entries-small es h)
    (terms_at-contained (terms_of es) ks ts at k d in_range)

-- which are normal
pub args-normal : LeavesAreNormal → (g : Sig) (es : List Entry) (ks : List ℕ) (ts : List Tree) → AreEntered g es → AreTermsAt es ks ts → All (IsNormal (equations g)) ts
args-normal leaves g es ks ts h at k d in_range =
    All-contains (IsNormal (equations g)) (terms_of es) (slice_index_or ts k d) (entered-normal leaves g es h)
    (terms_at-contained (terms_of es) ks ts at k d in_range)
