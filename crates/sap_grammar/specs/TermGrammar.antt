-- Which words spell a term under a signature: the term, the words from its first on, the words behind its last.
use Rattle.std.specs.Prelude.{◌≡◌, ℕ, true, codes, List, [], ◌∷◌, Some}
use Rattle.sap_terms.specs.declared.var.Sort.{Sort}
use Rattle.sap_terms.specs.declared.var.Sort.TheVariants.{Msg, Fresh, Pub}
use Rattle.sap_terms.specs.Tree.{Tree, variable, public, apply, none, more, trees_of}
use Rattle.sap_terms.specs.Equations.{pair_name}
use Rattle.sap_terms.specs.Signature.{Sig, arity_of}
use Rattle.sap_grammar.specs.declared.limits.Limits.{Limits}
use Rattle.sap_grammar.specs.Sizes.{IsSmall}
use Rattle.sap_grammar.specs.Words.{Word, mark, name, quoted, is_lower}

-- the variable of this name and sort
abbrev pub sorted : Sort → List ℕ → Tree
sorted s x = variable (record { name = x; sort = s })

-- the signature holds the name with arity 0
abbrev pub IsConstant : Sig → List ℕ → Type 0
IsConstant g x = arity_of g x ≡ Some 0

-- two terms as one
abbrev pub pair : Tree → Tree → Tree
pair t u = apply pair_name (more t (more u none))

mutual
  -- an identifier without sign: a constant where the signature holds it as one, else a variable for any message; a
  -- variable for fresh or public names with its sign; a public name; a symbol on terms in parentheses, held or not; a
  -- tuple of two parts or more
  pub data IsTerm (g : Sig) : Tree → List Word → List Word → Type 0 where
    term_constant : {x : List ℕ} {a : List Word} → IsConstant g x
        → IsTerm g (apply x none) (name x ∷ a) a
    term_message : {x : List ℕ} {a : List Word} → (IsConstant g x → ⊥)
        → IsTerm g (sorted Msg x) (name x ∷ a) a
    term_fresh : {x : List ℕ} {a : List Word}
        → IsTerm g (sorted Fresh x) (mark (codes "~") ∷ name x ∷ a) a
    term_pub : {x : List ℕ} {a : List Word}
        → IsTerm g (sorted Pub x) (mark (codes "$") ∷ name x ∷ a) a
    term_quoted : {s : List ℕ} {a : List Word} → IsTerm g (public s) (quoted s ∷ a) a
    term_symbol : {f : List ℕ} {ts : List Tree} {a b : List Word} → is_lower f ≡ true
        → IsArgs g ts a b
        → IsTerm g (apply f (trees_of ts)) (name f ∷ mark (codes "(") ∷ a) b
    term_tuple : {t u : Tree} {a b c : List Word} → IsTerm g t a (mark (codes ",") ∷ b)
        → IsRest g u b c → IsTerm g (pair t u) (mark (codes "<") ∷ a) c

  -- the parts of a tuple behind a comma, paired to the right, and the tuple's end
  pub data IsRest (g : Sig) : Tree → List Word → List Word → Type 0 where
    rest_last : {t : Tree} {a b : List Word} → IsTerm g t a (mark (codes ">") ∷ b) → IsRest g t a b
    rest_more : {t u : Tree} {a b c : List Word} → IsTerm g t a (mark (codes ",") ∷ b)
        → IsRest g u b c → IsRest g (pair t u) a c

  -- terms, one or more, with commas between them and a closing parenthesis behind
  pub data IsList (g : Sig) : List Tree → List Word → List Word → Type 0 where
    list_last : {t : Tree} {a b : List Word} → IsTerm g t a (mark (codes ")") ∷ b)
        → IsList g (t ∷ []) a b
    list_more : {t : Tree} {ts : List Tree} {a b c : List Word}
        → IsTerm g t a (mark (codes ",") ∷ b) → IsList g ts b c → IsList g (t ∷ ts) a c

  -- terms, none or more, and the closing parenthesis
  pub data IsArgs (g : Sig) : List Tree → List Word → List Word → Type 0 where
    args_none : {a : List Word} → IsArgs g [] (mark (codes ")") ∷ a) a
    args_some : {ts : List Tree} {a b : List Word} → IsList g ts a b → IsArgs g ts a b

-- a term within the limits
pub record IsShort (g : Sig) (m : Limits) (t : Tree) (a b : List Word) : Type 0 where
  pub spelled : IsTerm g t a b
  pub small : IsSmall m t
