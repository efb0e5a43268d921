-- Symbols that a file declares in place of those of a builtin.
use Rattle.std.specs.Prelude.{◌≡◌, ℕ, Bool, true, false, ◌&&◌, ◌||◌, nat_eq, codes, List, Some}
use Rattle.std.specs.Str.{bytes_eq}
use Rattle.sap_terms.specs.Signature.{Sig, arity_of, has_builtin}
use Rattle.sap_terms.specs.declared.signature.Builtin.{Builtin}
use Rattle.sap_terms.specs.declared.signature.Builtin.TheVariants.{Hashing, Symmetric, Asymmetric, Signing, RevealingSigning}

-- the name is this, and it is applied to so many terms
abbrev pub is_symbol : (x f : List ℕ) (n m : ℕ) → Bool
is_symbol x f n m = bytes_eq x f && nat_eq n m

-- an equation of the builtin speaks of the symbol of this name on so many terms; hashing has no equation
abbrev pub speaks_of : Builtin → List ℕ → ℕ → Bool
speaks_of Hashing x n = false
speaks_of Symmetric x n = is_symbol x (codes "senc") n 2 || is_symbol x (codes "sdec") n 2
speaks_of Asymmetric x n =
    is_symbol x (codes "aenc") n 2 || is_symbol x (codes "adec") n 2 || is_symbol x (codes "pk") n 1
speaks_of Signing x n =
    is_symbol x (codes "sign") n 2 || is_symbol x (codes "verify") n 3 || is_symbol x (codes "pk") n 1
    || is_symbol x (codes "true") n 0
speaks_of RevealingSigning x n =
    is_symbol x (codes "revealSign") n 2 || is_symbol x (codes "revealVerify") n 3
    || is_symbol x (codes "getMessage") n 1 || is_symbol x (codes "pk") n 1
    || is_symbol x (codes "true") n 0

-- an equation of a builtin speaks of such a symbol as the signature holds under this name, and no builtin has one that was added: so the
-- signature's is another symbol, of which no equation speaks
pub record IsAnother (g : Sig) (x : List ℕ) : Type 0 where
  pub arity : ℕ
  pub held : arity_of g x ≡ Some arity
  pub builtin : Builtin
  pub spoken : speaks_of builtin x arity ≡ true
  pub none_added : (b : Builtin) → has_builtin g b ≡ true → speaks_of b x arity ≡ false
