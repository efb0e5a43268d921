-- Signatures: symbols with their arities and privacy, and builtins.
use Rattle.std.specs.Prelude.{◌≡◌, ◌<◌, ℕ, Bool, true, false, not, ◌&&◌, ◌||◌, nat_eq, codes, List, [], ◌∷◌, ◌++◌, length, slice_get, Option, Some, None, MatchOption, if◌then◌else◌, option_map, is_some}
use Rattle.std.specs.Option.{option_map_or}
use Rattle.std.specs.Str.{bytes_eq}
use Rattle.sap_terms.specs.Named.{first_named}
use Rattle.sap_terms.specs.declared.signature.Symbol.{Symbol}
use Rattle.sap_terms.specs.declared.builtins.Builtins.{Builtins}
use Rattle.sap_terms.specs.declared.signature.Builtin.{Builtin}
use Rattle.sap_terms.specs.declared.signature.Builtin.TheVariants.{Hashing, Symmetric, Asymmetric, Signing, RevealingSigning}

-- a finite map from names to symbols, in order of first declaration, and the builtins that were added
pub record Sig : Type 0 where
  pub symbols : List Symbol
  pub builtins : Builtins

-- the builtin is one of these
abbrev pub holds : Builtins → Builtin → Bool
holds bs Hashing = bs.hashing
holds bs Symmetric = bs.symmetric
holds bs Asymmetric = bs.asymmetric
holds bs Signing = bs.signing
holds bs RevealingSigning = bs.revealing

-- the builtin was added
abbrev pub has_builtin : Sig → Builtin → Bool
has_builtin g b = holds g.builtins b

-- the held symbol of this name
abbrev pub find_symbol : List Symbol → List ℕ → Option Symbol
find_symbol ss n = first_named (λ (s : Symbol). s.name) ss n

-- the arity of a held name
abbrev pub arity_of : Sig → List ℕ → Option ℕ
arity_of g n = option_map (λ (s : Symbol). s.arity) (find_symbol g.symbols n)

-- no name stands twice
abbrev pub IsMap : List Symbol → Type 0
IsMap [] = Unit {0}
IsMap (s ∷ ss) = (find_symbol ss s.name ≡ None) × IsMap ss

-- the name is held and isn't private
abbrev pub IsPublic : Sig → List ℕ → Type 0
IsPublic g n = MatchOption (find_symbol g.symbols n) ⊥ (λ (s : Symbol). s.private ≡ false)

-- the name was declared otherwise
abbrev pub Clashes : List Symbol → List ℕ → ℕ → Bool → Type 0
Clashes ss n a p =
    MatchOption (find_symbol ss n) ⊥ (λ (s : Symbol). ¬ ((s.arity ≡ a) × (s.private ≡ p)))

-- the symbol, last, unless its name is held
abbrev pub declared : List Symbol → List ℕ → ℕ → Bool → List Symbol
declared ss n a p = if is_some (find_symbol ss n) then ss
    else ss ++ record { name = n; arity = a; private = p } ∷ []

-- some equation of pairs or of an added builtin has this symbol at the head of its left side
abbrev pub is_destructor_of : Sig → List ℕ → Bool
is_destructor_of g n =
    bytes_eq n (codes "fst") || bytes_eq n (codes "snd")
    || (bytes_eq n (codes "sdec") && g.builtins.symmetric)
    || (bytes_eq n (codes "adec") && g.builtins.asymmetric)
    || (bytes_eq n (codes "verify") && g.builtins.signing)
    || (bytes_eq n (codes "revealVerify") && g.builtins.revealing)
    || (bytes_eq n (codes "getMessage") && g.builtins.revealing)

-- a public symbol of this name and arity
abbrev pub public_symbol : List ℕ → ℕ → Symbol
public_symbol n a = record { name = n; arity = a; private = false }

-- a builtin's symbols, in order
abbrev pub builtin_symbols : Builtin → List Symbol
builtin_symbols Hashing = public_symbol (codes "h") 1 ∷ []
builtin_symbols Symmetric = public_symbol (codes "senc") 2 ∷ public_symbol (codes "sdec") 2 ∷ []
builtin_symbols Asymmetric = public_symbol (codes "aenc") 2 ∷ public_symbol (codes "adec") 2
    ∷ public_symbol (codes "pk") 1 ∷ []
builtin_symbols Signing =
    public_symbol (codes "sign") 2 ∷ public_symbol (codes "verify") 3 ∷ public_symbol (codes "pk") 1
    ∷ public_symbol (codes "true") 0 ∷ []
builtin_symbols RevealingSigning =
    public_symbol (codes "revealSign") 2 ∷ public_symbol (codes "revealVerify") 3
    ∷ public_symbol (codes "getMessage") 1 ∷ public_symbol (codes "pk") 1
    ∷ public_symbol (codes "true") 0 ∷ []

-- these symbols, one after another, each unless its name is held
abbrev pub declared_all : List Symbol → List Symbol → List Symbol
declared_all ss [] = ss
declared_all ss (x ∷ xs) = declared_all (declared ss x.name x.arity x.private) xs

-- both true or both false
abbrev pub same_bool : Bool → Bool → Bool
same_bool true b = b
same_bool false b = not b

-- the symbol's name was declared otherwise
abbrev pub is_held_otherwise : List Symbol → Symbol → Bool
is_held_otherwise ss x =
    option_map_or (λ (s : Symbol). not (nat_eq s.arity x.arity && same_bool s.private x.private))
    (find_symbol ss x.name) false

-- the first of these names that is held otherwise
abbrev pub first_clash : List Symbol → List Symbol → Option (List ℕ)
first_clash ss [] = None
first_clash ss (x ∷ xs) = if is_held_otherwise ss x then Some x.name else first_clash ss xs

-- at index k stands the first of these symbols that is held otherwise
pub record IsFirstClash (ss added : List Symbol) (k : ℕ) : Type 0 where
  pub here : k < length added
  pub name : first_clash ss added ≡ option_map (λ (s : Symbol). s.name) (slice_get added k)

-- these builtins and this one
abbrev pub with_builtin : Builtins → Builtin → Builtins
with_builtin s Hashing = record s { hashing = true }
with_builtin s Symmetric = record s { symmetric = true }
with_builtin s Asymmetric = record s { asymmetric = true }
with_builtin s Signing = record s { signing = true }
with_builtin s RevealingSigning = record s { revealing = true }

-- the signature with a builtin's symbols and its equations
abbrev pub added : Sig → Builtin → Sig
added g b = record {
  symbols = declared_all g.symbols (builtin_symbols b);
  builtins = with_builtin g.builtins b;
}

-- these symbols are held as they are
abbrev pub HoldsSymbols : List Symbol → List Symbol → Type 0
HoldsSymbols ss [] = Unit {0}
HoldsSymbols ss (x ∷ xs) = (find_symbol ss x.name ≡ Some x) × HoldsSymbols ss xs

-- the symbols of each builtin that was added are held
abbrev pub HoldsBuiltins : Sig → Type 0
HoldsBuiltins g = (b : Builtin) → has_builtin g b ≡ true
    → HoldsSymbols g.symbols (builtin_symbols b)

-- none of the builtins
abbrev pub no_builtins : Builtins
no_builtins = record { hashing = false; symmetric = false; asymmetric = false; signing = false; revealing = false }

-- pairs alone: what every signature begins with
abbrev pub pairs_alone : Sig
pairs_alone = record {
  symbols = public_symbol (codes "pair") 2 ∷ public_symbol (codes "fst") 1
      ∷ public_symbol (codes "snd") 1 ∷ [];
  builtins = no_builtins;
}
