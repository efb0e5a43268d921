-- Terms and facts that are spelled as they are printed.
use Rattle.std.specs.Prelude.{◌≡◌, ℕ, true, false, List}
use Rattle.sap_terms.specs.declared.fact.Fact.{Fact}
use Rattle.sap_terms.specs.declared.var.Sort.{Sort}
use Rattle.sap_terms.specs.declared.var.Sort.TheVariants.{Msg, Fresh, Pub}
use Rattle.sap_terms.specs.Tree.{Tree, variable, public, fresh, apply, Trees, none, more, trees_of}
use Rattle.sap_terms.specs.Signature.{Sig}
use Rattle.sap_grammar.specs.Words.{is_lower, is_upper}
use Rattle.sap_grammar.specs.TermGrammar.{IsConstant}
use Rattle.sap_grammar.specs.TermText.{is_pair}
use Rattle.sap_grammar.specs.ByteWords.{IsName, IsContent}

-- a plain variable is no constant
abbrev pub IsTidyVariable : Sig → Sort → List ℕ → Type 0
IsTidyVariable g Msg x = IsConstant g x → ⊥
IsTidyVariable g Fresh x = Unit {0}
IsTidyVariable g Pub x = Unit {0}

abbrev mutual
  -- no fresh names; a plain name is a constant exactly where the signature holds it so; a symbol on arguments begins with a
  -- small letter
  pub IsTidy : Sig → Tree → Type 0
  IsTidy g (variable v) = IsTidyVariable g v.sort v.name
  IsTidy g (public n) = Unit {0}
  IsTidy g (fresh i) = ⊥
  IsTidy g (apply f ts) = IsTidyUse g f ts × AreTidy g ts

  -- a symbol on these arguments
  pub IsTidyUse : Sig → List ℕ → Trees → Type 0
  IsTidyUse g f none = IsConstant g f
  IsTidyUse g f (more t ts) = is_lower f ≡ true

  -- each of these
  pub AreTidy : Sig → Trees → Type 0
  AreTidy g none = Unit {0}
  AreTidy g (more t ts) = IsTidy g t × AreTidy g ts

-- a fact of such terms whose name begins with a capital
abbrev pub IsTidyFact : Sig → Fact → Type 0
IsTidyFact g f = (is_upper f.name ≡ true) × AreTidy g (trees_of f.args)

abbrev mutual
  -- what is written as a name is one, of at most so many bytes; the symbol of a pair isn't written
  pub HasNames : ℕ → Tree → Type 0
  HasNames most (variable v) = IsName most v.name
  HasNames most (public n) = IsContent most n
  HasNames most (fresh i) = ⊥
  HasNames most (apply f ts) = (is_pair f ts ≡ false → IsName most f) × HaveNames most ts

  -- in each of these
  pub HaveNames : ℕ → Trees → Type 0
  HaveNames most none = Unit {0}
  HaveNames most (more t ts) = HasNames most t × HaveNames most ts

-- so it is in a fact
abbrev pub FactHasNames : ℕ → Fact → Type 0
FactHasNames most f = IsName most f.name × HaveNames most (trees_of f.args)

-- words can spell the term, and what is written in it as a name is one
pub record IsPrintableTerm (most : ℕ) (g : Sig) (t : Tree) : Type 0 where
  pub tidy : IsTidy g t
  pub names : HasNames most t

-- so it is with the fact
pub record IsPrintableFact (most : ℕ) (g : Sig) (f : Fact) : Type 0 where
  pub tidy : IsTidyFact g f
  pub names : FactHasNames most f
