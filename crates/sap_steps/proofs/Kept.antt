-- The table of a pile while it gains more.
use Rattle.std.proofs.Common.{◌≡◌, [], ◌++◌, refl, sym, ap, ◌∙◌, append_assoc}
use Rattle.std.proofs.lemmas.List.{append-nil}
use Rattle.sap_share.specs.Shared.{Shared, Keeps}

pub keeps_same : (s : Shared) → Keeps s s
keeps_same s = record { sig = refl; added = []; trees = sym (append-nil s.trees) }

pub keeps_further : (s t u : Shared) → Keeps s t → Keeps t u → Keeps s u
keeps_further s t u a b = record {
  sig = b.sig ∙ a.sig;
  added = a.added ++ b.added;
  trees = b.trees ∙ ap (λ xs. xs ++ b.added) a.trees ∙ append_assoc s.trees a.added b.added;
}

pub keeps_moved : (s t u : Shared) → Keeps s t → u.sig ≡ t.sig → u.trees ≡ t.trees → Keeps s u
keeps_moved s t u a sig trees = record { sig = sig ∙ a.sig; added = a.added; trees = trees ∙ a.trees }

pub ruleset table_laws = (keeps_same, keeps_further)
