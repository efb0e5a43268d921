-- What is deducible from terms that are deducible themselves.
use Rattle.std.specs.Prelude.{◌↔◌, ℕ, List, [], All, Contains}
use Rattle.sap_terms.specs.Deduce.{IsDeducible}
use Rattle.sap_terms.specs.Equations.{equations}
use Rattle.sap_terms.specs.Normal.{IsNormal}
use Rattle.sap_terms.specs.Signature.{Sig}
use Rattle.sap_terms.specs.Tree.{Tree, fresh}
use Rattle.sap_deduce.specs.Entries.{Entry, terms_of, names_given, outputs_given, AreEntered}

-- what is deducible from normal terms, each of which is deducible from names and a frame, is
-- deducible from these
abbrev pub DeducedIsDeducible : Type 0
DeducedIsDeducible =
    (g : Sig) (names : List ℕ) (frame ts : List Tree) (t : Tree) → All (IsNormal (equations g)) ts
    → All (IsDeducible g names frame) ts → IsDeducible g [] ts t → IsDeducible g names frame t

-- each of the names and each term of the frame is one of these terms
pub record HasAllOf (names : List ℕ) (frame ts : List Tree) : Type 0 where
  pub has_names : (n : ℕ) → Contains names n → Contains ts (fresh n)
  pub has_frame : All (Contains ts) frame

-- what is deducible from names and a frame is deducible from terms that have them all, without names
abbrev pub DeducibleFromAll : Type 0
DeducibleFromAll =
    (g : Sig) (names : List ℕ) (frame ts : List Tree) (t : Tree) → HasAllOf names frame ts
    → IsDeducible g names frame t → IsDeducible g [] ts t

-- so what is deducible from the names and the outputs given is what is deducible from the entries
abbrev pub EntriesGiveTheSame : Type 0
EntriesGiveTheSame =
    (g : Sig) (es : List Entry) (t : Tree) → AreEntered g es
    → IsDeducible g (names_given es) (outputs_given es) t ↔ IsDeducible g [] (terms_of es) t
