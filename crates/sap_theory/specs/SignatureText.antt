-- How a signature is written: its builtins, and the symbols that they don't bring.
use Rattle.std.specs.Prelude.{ℕ, Bool, not, ◌||◌, if◌then◌else◌, codes, decimal, List, [], ◌∷◌, ◌++◌, map, filter}
use Rattle.std.specs.List.{list_any}
use Rattle.std.specs.Str.{bytes_eq}
use Rattle.sap_terms.specs.Signature.{Sig, has_builtin, builtin_symbols, pairs_alone}
use Rattle.sap_terms.specs.declared.signature.Symbol.{Symbol}
use Rattle.sap_terms.specs.declared.signature.Builtin.{Builtin}
use Rattle.sap_terms.specs.declared.signature.Builtin.TheVariants.{Hashing, Symmetric, Asymmetric, Signing, RevealingSigning}
use Rattle.sap_theory.specs.Pieces.{line_of}

-- how a builtin is spelled
abbrev pub spelling : Builtin → List ℕ
spelling Hashing = codes "hashing"
spelling Symmetric = codes "symmetric-encryption"
spelling Asymmetric = codes "asymmetric-encryption"
spelling Signing = codes "signing"
spelling RevealingSigning = codes "revealing-signing"

-- the builtins, in the order in which they are written
abbrev pub all_builtins : List Builtin
all_builtins = Hashing ∷ Symmetric ∷ Asymmetric ∷ Signing ∷ RevealingSigning ∷ []

-- those that were added
abbrev pub builtins_of : Sig → List Builtin
builtins_of g = filter (has_builtin g) all_builtins

-- one of the symbols has this name
abbrev pub is_among : List Symbol → List ℕ → Bool
is_among ss n = list_any (λ (s : Symbol). bytes_eq n s.name) ss

-- the name is one of pairs, or a builtin that was added brings it
abbrev pub is_brought : Sig → List ℕ → Bool
is_brought g n = is_among pairs_alone.symbols n
    || list_any (λ (b : Builtin). is_among (builtin_symbols b) n) (builtins_of g)

-- the symbols that have to be declared
abbrev pub functions_of : Sig → List Symbol
functions_of g = filter (λ (s : Symbol). not (is_brought g s.name)) g.symbols

-- a symbol's name and arity, with a mark where it is private
abbrev pub symbol_text : Symbol → List ℕ
symbol_text s = s.name
    ++ (codes "/" ++ (decimal s.arity ++ (if s.private then codes " [private]" else [])))

-- a blank line and the line of the builtins, where there are some
abbrev pub builtins_text : Sig → List ℕ
builtins_text g = line_of (codes "\nbuiltins: ") (map spelling (builtins_of g))

-- a blank line and the line of the symbols that have to be declared, where there are some
abbrev pub functions_text : Sig → List ℕ
functions_text g = line_of (codes "\nfunctions: ") (map symbol_text (functions_of g))
