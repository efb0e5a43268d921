-- Entries of a knowledge, each with its origin.
use Rattle.std.specs.Prelude.{◌≡◌, ◌<◌, ◌≤◌, ℕ, Bool, true, false, List, [], ◌∷◌, ◌++◌, length, Option, Some, None, map, filter, slice_get, All, ⊤}
use Rattle.std.specs.List.{filter_map}
use Rattle.sap_terms.specs.Tree.{Tree, public, fresh, apply, trees_of, node_count}
use Rattle.sap_terms.specs.Signature.{Sig, IsPublic, arity_of}
use Rattle.sap_terms.specs.Deduce.{IsFirstUnknown}
use Rattle.sap_terms.specs.Equations.{equations}
use Rattle.sap_terms.specs.Normal.{IsNormalForm}
use Rattle.sap_terms.specs.Message.{IsMessage}
use Rattle.sap_terms.specs.declared.limits.TheConstants.{MOST_TERM_NODES}
use Rattle.sap_terms.specs.declared.var.Sort.TheVariants.{Msg}
use Rattle.sap_share.specs.Shared.{Shared, trees_at, AreBelow}
use Rattle.sap_deduce.specs.declared.origin.Origin.{Origin}
use Rattle.sap_deduce.specs.declared.origin.Origin.TheVariants.{Name, Public, Output, Apply}
use Rattle.sap_deduce.specs.declared.deny.Deny.{Deny}
use Rattle.sap_deduce.specs.declared.deny.Deny.TheVariants.{Mem, NotPublic, Arity, NoEntry, TermLarge}

-- a term, and how it came to be known
pub record Entry : Type 0 where
  pub term : Tree
  pub origin : Origin

-- a signature, the entries by their numbers, and the number that each entry's term has in a table
pub record Entries : Type 0 where
  pub sig : Sig
  pub entries : List Entry
  pub numbers : List ℕ

-- the entries' terms
abbrev pub terms_of : List Entry → List Tree
terms_of es = map (λ (e : Entry). e.term) es

-- the name that was given
abbrev pub name_of : Origin → Option ℕ
name_of (Name n) = Some n
name_of Public = None
name_of Output = None
name_of (Apply f ks) = None

-- it was sent
abbrev pub is_output : Origin → Bool
is_output (Name n) = false
is_output Public = false
is_output Output = true
is_output (Apply f ks) = false

-- the names that were given
abbrev pub names_given : List Entry → List ℕ
names_given es = filter_map (λ (e : Entry). name_of e.origin) es

-- the outputs that were given
abbrev pub outputs_given : List Entry → List Tree
outputs_given es = terms_of (filter (λ (e : Entry). is_output e.origin) es)

-- these are the terms of the entries with these numbers, in order
abbrev pub AreTermsAt : List Entry → List ℕ → List Tree → Type 0
AreTermsAt es ks ts = map (slice_get (terms_of es)) ks ≡ map Some ts

-- the term is the normal form of a public symbol on the entries with these numbers
pub record IsApplication (g : Sig) (es : List Entry) (f ks : List ℕ) (t : Tree) : Type 0 where
  pub args : List Tree
  pub public_symbol : IsPublic g f
  pub arity : arity_of g f ≡ Some (length ks)
  pub at_numbers : AreTermsAt es ks args
  pub form : IsNormalForm (equations g) (apply f (trees_of args)) t

-- after these entries the term may come in this way: names, public names, messages that were sent, and symbols on entries
abbrev pub Adds : Sig → List Entry → Origin → Tree → Type 0
Adds g es (Name n) t = t ≡ fresh n
Adds g es Public t = (a : List ℕ) × (t ≡ public a)
Adds g es Output t = IsMessage g Msg t
Adds g es (Apply f ks) t = IsApplication g es f ks t

-- the entries come in these ways, one after another
pub data AreEntered (g : Sig) : List Entry → Type 0 where
  none_yet : AreEntered g []
  one_more : (es : List Entry) (t : Tree) (origin : Origin) → AreEntered g es → Adds g es origin t → AreEntered g (es ++ record { term = t; origin = origin } ∷ [])

-- so they do, and no term is too large
pub record AreEntries (k : Entries) : Type 0 where
  pub entered : AreEntered k.sig k.entries
  pub within : All (λ (e : Entry). node_count e.term ≤ MOST_TERM_NODES) k.entries

-- the table is over the entries' signature, and each entry's number is a number of the table, that of its term
pub record AreNumbered (s : Shared) (k : Entries) : Type 0 where
  pub sig : s.sig ≡ k.sig
  pub below : AreBelow (length s.trees) k.numbers
  pub terms : trees_at s.trees k.numbers ≡ terms_of k.entries

-- why a symbol on these entries is refused; each cause but want of memory is the first in this order
abbrev pub IsCause : Entries → List ℕ → List ℕ → Deny → Type 0
IsCause k f ks Mem = ⊤
IsCause k f ks (NotPublic n) = (n ≡ f) × ¬ IsPublic k.sig f
IsCause k f ks (Arity n) = (n ≡ f) × IsPublic k.sig f × ¬ (arity_of k.sig f ≡ Some (length ks))
IsCause k f ks (NoEntry n) = IsPublic k.sig f × (arity_of k.sig f ≡ Some (length ks)) × IsFirstUnknown (length k.entries) ks n
IsCause k f ks TermLarge = (t : Tree) × IsApplication k.sig k.entries f ks t × (MOST_TERM_NODES < node_count t)

-- the entries have gained the term, which came in this way, and its number; those before are as they were
pub record Gains (old new : Entries) (origin : Origin) (t : Tree) : Type 0 where
  pub sig : new.sig ≡ old.sig
  pub entries : new.entries ≡ old.entries ++ record { term = t; origin = origin } ∷ []
  pub number : ℕ
  pub numbers : new.numbers ≡ old.numbers ++ number ∷ []

-- they have gained the normal form of the symbol on these entries, which isn't too large
pub record Applies (old new : Entries) (f ks : List ℕ) : Type 0 where
  pub term : Tree
  pub application : IsApplication old.sig old.entries f ks term
  pub within : node_count term ≤ MOST_TERM_NODES
  pub gains : Gains old new (Apply f ks) term
