-- What derivations and entries have to do with each other.
use Rattle.std.specs.Prelude.{◌≡◌, ◌<◌, ◌↔◌, ℕ, List, length, slice_get, All, Contains, reverse}
use Rattle.sap_terms.specs.Tree.{Tree}
use Rattle.sap_terms.specs.Signature.{Sig}
use Rattle.sap_terms.specs.Message.{IsMessage}
use Rattle.sap_terms.specs.declared.var.Sort.TheVariants.{Msg}
use Rattle.sap_terms.specs.Deduce.{IsDeducible, IsDerivation}
use Rattle.sap_share.specs.Shared.{Shared, Keeps}
use Rattle.sap_deduce.specs.Entries.{Entry, Entries, terms_of, names_given, outputs_given, AreEntered, AreNumbered}

-- each entry's term is deducible from the names and the outputs that were given
abbrev pub AreDeducible : Entries → Type 0
AreDeducible k = All (IsDeducible k.sig (names_given k.entries) (outputs_given k.entries)) (terms_of k.entries)

-- these terms can come, the last one first, with no other names and outputs given
pub record CanBeEntered (g : Sig) (names : List ℕ) (frame ts : List Tree) : Type 0 where
  pub entries : List Entry
  pub entered : AreEntered g entries
  pub terms : terms_of entries ≡ reverse ts
  pub only_names : All (Contains names) (names_given entries)
  pub only_outputs : All (Contains frame) (outputs_given entries)

-- so it is with each derivation from names and messages
abbrev pub DerivationsCanBeEntered : Type 0
DerivationsCanBeEntered =
    (g : Sig) (names : List ℕ) (frame ts : List Tree) → All (IsMessage g Msg) frame → IsDerivation g names frame ts → CanBeEntered g names frame ts

-- two entries have one number exactly where they have one term
abbrev pub NumbersTellTerms : Entries → Type 0
NumbersTellTerms k =
    (i j : ℕ) → i < length k.entries → j < length k.entries → (slice_get k.numbers i ≡ slice_get k.numbers j) ↔ (slice_get (terms_of k.entries) i ≡ slice_get (terms_of k.entries) j)

-- entries keep their numbers while the table gains more
abbrev pub NumbersStay : Type 0
NumbersStay = (s t : Shared) (k : Entries) → AreNumbered s k → Keeps s t → AreNumbered t k
