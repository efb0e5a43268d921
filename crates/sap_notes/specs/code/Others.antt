-- Whether a symbol is another than that of a builtin, as the code asks it.
use Rattle.std.specs.Prelude.{ℕ, Bool, false, not, ◌&&◌, ◌||◌, List, Option, Some, None}
use Rattle.sap_terms.specs.Signature.{Sig, arity_of, has_builtin}
use Rattle.sap_terms.specs.declared.signature.Builtin.{Builtin}
use Rattle.sap_terms.specs.declared.signature.Builtin.TheVariants.{Symmetric, Asymmetric, Signing, RevealingSigning}
use Rattle.sap_notes.specs.OtherSymbols.{speaks_of}

-- an equation of some builtin speaks of the symbol
abbrev pub some_speaks : List ℕ → ℕ → Bool
some_speaks x n =
    speaks_of Symmetric x n || speaks_of Asymmetric x n || speaks_of Signing x n
    || speaks_of RevealingSigning x n

-- one of this builtin does, which was added
abbrev pub added_speaks : Sig → List ℕ → ℕ → Builtin → Bool
added_speaks g x n b = has_builtin g b && speaks_of b x n

-- one of a builtin does that was added
abbrev pub some_added_speaks : Sig → List ℕ → ℕ → Bool
some_added_speaks g x n =
    added_speaks g x n Symmetric || added_speaks g x n Asymmetric || added_speaks g x n Signing
    || added_speaks g x n RevealingSigning

abbrev pub is_another_of : Sig → List ℕ → Option ℕ → Bool
is_another_of g x None = false
is_another_of g x (Some n) = some_speaks x n && not (some_added_speaks g x n)

abbrev pub is_another : Sig → List ℕ → Bool
is_another g x = is_another_of g x (arity_of g x)
