-- What a file or a theory declares: builtins and functions, and which words spell them.
use Rattle.std.specs.Prelude.{◌≡◌, ◌≤◌, ℕ, ◌+◌, ◌*◌, ◌-◌, true, false, codes, List, [], ◌∷◌, map}
use Rattle.sap_terms.specs.declared.limits.TheConstants.{MOST_ARITY}
use Rattle.sap_terms.specs.declared.signature.Symbol.{Symbol}
use Rattle.sap_terms.specs.declared.signature.Builtin.{Builtin}
use Rattle.sap_terms.specs.declared.signature.Builtin.TheVariants.{Hashing, Symmetric, Asymmetric, Signing, RevealingSigning}
use Rattle.sap_grammar.specs.Words.{Word, mark, name, number, is_lower}

-- what adds to a signature
pub data Declaration : Type 0 where
  of_builtin : Builtin → Declaration
  of_symbol : Symbol → Declaration

-- the number that these digits write
abbrev pub value_from : ℕ → List ℕ → ℕ
value_from n [] = n
value_from n (d ∷ ds) = value_from (n * 10 + (d - 48)) ds

-- the number that all of them write
abbrev pub value : List ℕ → ℕ
value ds = value_from 0 ds

-- the words from the first of the name of a builtin on, and those behind its last
pub data IsBuiltin : Builtin → List Word → List Word → Type 0 where
  spells_hashing : {a : List Word} → IsBuiltin Hashing (name (codes "hashing") ∷ a) a
  spells_symmetric : {a : List Word}
      → IsBuiltin Symmetric
      (name (codes "symmetric") ∷ mark (codes "-") ∷ name (codes "encryption") ∷ a) a
  spells_asymmetric : {a : List Word}
      → IsBuiltin Asymmetric
      (name (codes "asymmetric") ∷ mark (codes "-") ∷ name (codes "encryption") ∷ a) a
  spells_signing : {a : List Word} → IsBuiltin Signing (name (codes "signing") ∷ a) a
  spells_revealing : {a : List Word}
      → IsBuiltin RevealingSigning
      (name (codes "revealing") ∷ mark (codes "-") ∷ name (codes "signing") ∷ a) a

-- builtins, one or more, with commas between them, and nothing else
pub data AreBuiltins : List Builtin → List Word → Type 0 where
  builtins_last : {b : Builtin} {a : List Word} → IsBuiltin b a [] → AreBuiltins (b ∷ []) a
  builtins_more : {b : Builtin} {bs : List Builtin} {a c : List Word}
      → IsBuiltin b a (mark (codes ",") ∷ c) → AreBuiltins bs c → AreBuiltins (b ∷ bs) a

-- a name that begins with a small letter, and its arity, of at most MOST_ARITY, which may be written with zeros in front
pub data IsSymbol : Symbol → List Word → List Word → Type 0 where
  spells_public : {f n : List ℕ} {a : List Word} → is_lower f ≡ true → value n ≤ MOST_ARITY
      → IsSymbol (record { name = f; arity = value n; private = false })
      (name f ∷ mark (codes "/") ∷ number n ∷ a) a
  spells_private : {f n : List ℕ} {a : List Word} → is_lower f ≡ true → value n ≤ MOST_ARITY
      → IsSymbol (record { name = f; arity = value n; private = true })
      (name f ∷ mark (codes "/") ∷ number n ∷ mark (codes "[") ∷ name (codes "private") ∷ mark (codes "]") ∷ a) a

-- symbols, one or more, with commas between them, and nothing else
pub data AreSymbols : List Symbol → List Word → Type 0 where
  symbols_last : {s : Symbol} {a : List Word} → IsSymbol s a [] → AreSymbols (s ∷ []) a
  symbols_more : {s : Symbol} {ss : List Symbol} {a c : List Word}
      → IsSymbol s a (mark (codes ",") ∷ c) → AreSymbols ss c → AreSymbols (s ∷ ss) a

-- the words are an item of builtins, or one of functions, that declares these
pub data Declares : List Word → List Declaration → Type 0 where
  declares_builtins : {bs : List Builtin} {a : List Word} → AreBuiltins bs a
      → Declares (mark (codes "builtins") ∷ mark (codes ":") ∷ a) (map of_builtin bs)
  declares_functions : {ss : List Symbol} {a : List Word} → AreSymbols ss a
      → Declares (mark (codes "functions") ∷ mark (codes ":") ∷ a) (map of_symbol ss)
