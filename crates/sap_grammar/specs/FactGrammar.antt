-- Which words spell a fact under a signature: the fact, the words from its first on, the words behind its last.
use Rattle.std.specs.Prelude.{◌≡◌, ℕ, Bool, true, false, codes, List, [], ◌∷◌}
use Rattle.sap_terms.specs.declared.fact.Fact.{Fact}
use Rattle.sap_terms.specs.Tree.{Tree, trees_of, trees_levels}
use Rattle.sap_terms.specs.Signature.{Sig}
use Rattle.sap_grammar.specs.Words.{Word, mark, name, is_upper}
use Rattle.sap_grammar.specs.TermGrammar.{IsArgs}
use Rattle.sap_grammar.specs.declared.limits.Limits.{Limits}
use Rattle.sap_grammar.specs.Sizes.{AreSmall}

-- the fact of this name on these terms
abbrev pub fact : Bool → List ℕ → List Tree → Fact
fact persistent f ts = record { name = f; persistent = persistent; args = ts }

-- a name that begins with a capital, on terms in parentheses; persistent where `!` stands before it
pub data IsFact (g : Sig) : Fact → List Word → List Word → Type 0 where
  fact_linear : {f : List ℕ} {ts : List Tree} {a b : List Word} → is_upper f ≡ true
      → IsArgs g ts a b
      → IsFact g (fact false f ts) (name f ∷ mark (codes "(") ∷ a) b
  fact_persistent : {f : List ℕ} {ts : List Tree} {a b : List Word} → is_upper f ≡ true
      → IsArgs g ts a b
      → IsFact g (fact true f ts) (mark (codes "!") ∷ name f ∷ mark (codes "(") ∷ a) b

-- how deep the deepest of its terms is
abbrev pub fact_levels : Fact → ℕ
fact_levels f = trees_levels (trees_of f.args)

-- a fact whose terms are within the limits, persistent only where that is allowed
pub record IsShortFact (g : Sig) (m : Limits) (allowed : Bool) (f : Fact)
    (a b : List Word) : Type 0 where
  pub spelled : IsFact g f a b
  pub small : AreSmall m f.args
  pub sign : f.persistent ≡ true → allowed ≡ true

-- such facts, one or more, with commas between them and this mark behind
pub data AreSomeFacts (g : Sig) (m : Limits) (allowed : Bool) (closing : List ℕ)
    : List Fact → List Word → List Word → Type 0 where
  facts_last : {f : Fact} {a b : List Word} → IsShortFact g m allowed f a (mark closing ∷ b)
      → AreSomeFacts g m allowed closing (f ∷ []) a b
  facts_more : {f : Fact} {fs : List Fact} {a b c : List Word}
      → IsShortFact g m allowed f a (mark (codes ",") ∷ b) → AreSomeFacts g m allowed closing fs b c
      → AreSomeFacts g m allowed closing (f ∷ fs) a c

-- such facts, none or more
pub data AreFacts (g : Sig) (m : Limits) (allowed : Bool) (closing : List ℕ)
    : List Fact → List Word → List Word → Type 0 where
  facts_none : {a : List Word} → AreFacts g m allowed closing [] (mark closing ∷ a) a
  facts_some : {fs : List Fact} {a b : List Word} → AreSomeFacts g m allowed closing fs a b
      → AreFacts g m allowed closing fs a b
