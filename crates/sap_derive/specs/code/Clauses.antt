-- How terms are put together and taken apart one step at a time: clauses, each with what it asks for and what it gives.
use Rattle.std.specs.Prelude.{◌≡◌, ◌<◌, ◌⊎◌, ℕ, List, [], ◌∷◌, length, slice_get, All, Some, IsTrue}
use Rattle.sap_terms.specs.Tree.{Tree, Trees, public, apply, trees_of}
use Rattle.sap_terms.specs.Signature.{Sig, IsPublic, arity_of}
use Rattle.sap_terms.specs.Equations.{equations, app1, app2, pair_name, fst_name, snd_name, senc_name, sdec_name, aenc_name, adec_name, pk_name, reveal_sign_name, get_message_name}
use Rattle.sap_terms.specs.Normal.{IsNormalForm}
use Rattle.sap_share.specs.Shared.{tree_at, trees_at, AreBelow}
use Rattle.sap_derive.specs.code.Lines.{premises_of}
use Rattle.sap_derive.specs.Near.{IsAmong}
use Rattle.sap_derive.specs.code.Listed.{IsListed}
use Rattle.sap_derive.specs.declared.clause.Clause.{Clause}
use Rattle.sap_derive.specs.declared.line.Line.{Line}
use Rattle.sap_derive.specs.declared.line.Line.TheVariants.{Public, Apply}

-- the symbol is public, and stands on so many terms
pub record CanApply (g : Sig) (f : List ℕ) (count : ℕ) : Type 0 where
  pub public_symbol : IsPublic g f
  pub arity : arity_of g f ≡ Some count

-- a public name is written down; a public symbol is put on terms
pub data IsMaking (g : Sig) : List Tree → Tree → Type 0 where
  writes : (n : List ℕ) → IsMaking g [] (public n)
  composes : (f : List ℕ) (ts : List Tree) → CanApply g f (length ts) → IsMaking g ts (apply f (trees_of ts))

-- a term is taken apart, with the others: a pair into its parts; what is encrypted, with the key; what is signed openly
pub data IsOpening (g : Sig) : Tree → List Tree → Tree → Type 0 where
  takes_first : (x y : Tree) → CanApply g fst_name 1 → IsOpening g (app2 pair_name x y) [] x
  takes_second : (x y : Tree) → CanApply g snd_name 1 → IsOpening g (app2 pair_name x y) [] y
  decrypts : (m k : Tree) → IsTrue (equations g).symmetric → CanApply g sdec_name 2 → IsOpening g (app2 senc_name m k) (k ∷ []) m
  decrypts_by_secret : (m k : Tree) → IsTrue (equations g).asymmetric → CanApply g adec_name 2 → IsOpening g (app2 aenc_name m (app1 pk_name k)) (k ∷ []) m
  reads_signed : (m k : Tree) → IsTrue (equations g).revealing → CanApply g get_message_name 1 → IsOpening g (app2 reveal_sign_name m k) [] m

-- K has what is made of it among A, and what terms among A are opened to by it
pub record IsClosedOver (g : Sig) (A K : Tree → Type 0) : Type 0 where
  pub made : (ts : List Tree) (t : Tree) → A t → IsMaking g ts t → All K ts → K t
  pub opened : (h : Tree) (rest : List Tree) (t : Tree) → A h → IsOpening g h rest t → All K (h ∷ rest) → K t

-- the line gives the term, where it stands on the terms of these numbers
pub data IsLineOn (g : Sig) (trees : List Tree) : Line → Tree → Type 0 where
  written : (a : List ℕ) → IsLineOn g trees (Public a) (public a)
  applied : (f ks : List ℕ) (t : Tree) → CanApply g f (length ks) → IsNormalForm (equations g) (apply f (trees_of (trees_at trees ks))) t → IsLineOn g trees (Apply f ks) t

-- the clause opens the term of its first number
pub record IsOpeningClause (g : Sig) (trees : List Tree) (clause : Clause) : Type 0 where
  pub whole : ℕ
  pub rest : List ℕ
  pub premises : premises_of clause.line ≡ whole ∷ rest
  pub opening : IsOpening g (tree_at trees whole) (trees_at trees rest) (tree_at trees clause.gives)

-- the clause is over numbers that there are; it makes the term of the number that it gives, or opens one to it; and its line gives it
pub record IsNumbered (g : Sig) (trees : List Tree) (clause : Clause) : Type 0 where
  pub below : AreBelow (length trees) (premises_of clause.line)
  pub gives_below : clause.gives < length trees
  pub kind : IsMaking g (trees_at trees (premises_of clause.line)) (tree_at trees clause.gives) ⊎ IsOpeningClause g trees clause
  pub line : IsLineOn g trees clause.line (tree_at trees clause.gives)

-- so is each of these
abbrev pub AreNumbered : Sig → List Tree → List Clause → Type 0
AreNumbered g trees clauses = (c : ℕ) (clause : Clause) → slice_get clauses c ≡ Some clause → IsNumbered g trees clause

-- one of the clauses asks for these terms, and gives that one
pub record HasClause (trees : List Tree) (clauses : List Clause) (ts : List Tree) (t : Tree) : Type 0 where
  pub index : ℕ
  pub clause : Clause
  pub at : slice_get clauses index ≡ Some clause
  pub asks : trees_at trees (premises_of clause.line) ≡ ts
  pub gives : tree_at trees clause.gives ≡ t

-- the clauses have each way to make the term
abbrev pub HaveMakings : Sig → List Tree → List Clause → Tree → Type 0
HaveMakings g trees clauses t = (ts : List Tree) → IsMaking g ts t → HasClause trees clauses ts t

-- and each way to open it
abbrev pub HaveOpenings : Sig → List Tree → List Clause → Tree → Type 0
HaveOpenings g trees clauses h = (rest : List Tree) (t : Tree) → IsOpening g h rest t → HasClause trees clauses (h ∷ rest) t

-- the parts of the term have numbers in the list
abbrev pub ArePartsListed : List Tree → List ℕ → Tree → Type 0
ArePartsListed trees terms t = (f : List ℕ) (us : Trees) (u : Tree) → t ≡ apply f us → IsAmong u us → (m : ℕ) × IsListed terms m × (tree_at trees m ≡ u)
