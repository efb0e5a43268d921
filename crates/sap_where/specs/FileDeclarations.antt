-- Which words of a file declare builtins and functions, and which declaration clashes.
use Rattle.std.specs.Prelude.{◌≡◌, ◌<◌, ℕ, zero, suc, Bool, true, false, ◌||◌, codes, List, [], ◌∷◌, ◌++◌, length, drop, Option, Some, None, if◌then◌else◌, option_map}
use Rattle.sap_terms.specs.Signature.{pairs_alone}
use Rattle.sap_text.specs.declared.token.Token.{Token}
use Rattle.sap_grammar.specs.Words.{words_of}
use Rattle.sap_grammar.specs.Reading.{Read}
use Rattle.sap_grammar.specs.Declarations.{Declaration}
use Rattle.sap_grammar.specs.ItemReading.{declaration_at}
use Rattle.sap_grammar.specs.Signatures.{clash_from, clash_with, signature_from}
use Rattle.sap_where.specs.Beginnings.{begins_item}
use Rattle.sap_where.specs.TokenWords.{stands}

-- the last item that begins before token number k begins with this word
abbrev pub in_item : List ℕ → List Token → List ℕ → ℕ → Bool
in_item z ts m zero = false
in_item z ts m (suc k) = if begins_item (words_of z (drop k ts)) then stands z ts m k else in_item z ts m k

-- token number k stands behind a colon or a comma
abbrev pub is_next : List ℕ → List Token → ℕ → Bool
is_next z ts zero = false
is_next z ts (suc k) = stands z ts (codes ":") k || stands z ts (codes ",") k

-- what was read, without the words behind it
abbrev pub alone : {A : Type 0} → Read A → Option A
alone r = option_map (λ p. p.0) r

-- what is declared with token number k as its first word: behind the colon or a comma of an item of builtins or of functions
abbrev pub declared_at : List ℕ → List Token → ℕ → Option Declaration
declared_at z ts k =
    if is_next z ts k then
    (if in_item z ts (codes "builtins") k then alone (declaration_at true (words_of z (drop k ts)))
    else if in_item z ts (codes "functions") k then alone (declaration_at false (words_of z (drop k ts)))
    else None)
    else None

-- it, or nothing
abbrev pub listed : Option Declaration → List Declaration
listed None = []
listed (Some d) = d ∷ []

-- what is declared before token number k, in order
abbrev pub declared_before : List ℕ → List Token → ℕ → List Declaration
declared_before z ts zero = []
declared_before z ts (suc k) = declared_before z ts k ++ listed (declared_at z ts k)

-- what is declared with token number k declares this name otherwise than it was declared before; before it nothing clashes
pub record IsClashAt (z : List ℕ) (ts : List Token) (x : List ℕ) (k : ℕ) : Type 0 where
  pub inside : k < length ts
  pub declaration : Declaration
  pub declared : declared_at z ts k ≡ Some declaration
  pub clashes : clash_with (signature_from pairs_alone (declared_before z ts k)) declaration ≡ Some x
  pub none_before : clash_from pairs_alone (declared_before z ts k) ≡ None
