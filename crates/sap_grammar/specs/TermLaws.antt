-- What the laws of terms and facts say, as the proofs above need it: the law `term_laws` has it.
use Rattle.std.specs.Prelude.{◌≡◌, ℕ, Bool, false, List, Some, codes}
use Rattle.sap_terms.specs.declared.fact.Fact.{Fact}
use Rattle.sap_terms.specs.Tree.{Tree}
use Rattle.sap_terms.specs.Signature.{Sig}
use Rattle.sap_grammar.specs.declared.limits.Limits.{Limits}
use Rattle.sap_grammar.specs.Words.{Word, starts}
use Rattle.sap_grammar.specs.TermGrammar.{IsShort}
use Rattle.sap_grammar.specs.FactGrammar.{IsShortFact, AreFacts}
use Rattle.sap_grammar.specs.TermReading.{short_term, short_fact, facts}

-- what is read is spelled so, and what is spelled so is read
pub record AreRead : Type 0 where
  pub term_is : (g : Sig) (m : Limits) (t : Tree) (a b : List Word) → short_term g m a ≡ Some (t, b) → IsShort g m t a b
  pub term_read : (g : Sig) (m : Limits) (t : Tree) (a b : List Word) → IsShort g m t a b → starts (codes "(") b ≡ false → short_term g m a ≡ Some (t, b)
  pub fact_is : (g : Sig) (m : Limits) (s : Bool) (f : Fact) (a b : List Word) → short_fact g m s a ≡ Some (f, b) → IsShortFact g m s f a b
  pub fact_read : (g : Sig) (m : Limits) (s : Bool) (f : Fact) (a b : List Word) → IsShortFact g m s f a b → short_fact g m s a ≡ Some (f, b)
  pub facts_are : (g : Sig) (m : Limits) (s : Bool) (w : List ℕ) (fs : List Fact) (a b : List Word) → facts g m s w a ≡ Some (fs, b) → AreFacts g m s w fs a b
  pub facts_read : (g : Sig) (m : Limits) (s : Bool) (w : List ℕ) (fs : List Fact) (a b : List Word) → (w ≡ codes "," → ⊥) → (w ≡ codes "!" → ⊥)
      → AreFacts g m s w fs a b → facts g m s w a ≡ Some (fs, b)

-- the same words spell one under each signature
pub record AreSpelled : Type 0 where
  pub term_too : (g h : Sig) (m : Limits) (t : Tree) (a b : List Word) → IsShort g m t a b → (u : Tree) × IsShort h m u a b
  pub fact_too : (g h : Sig) (m : Limits) (s : Bool) (f : Fact) (a b : List Word) → IsShortFact g m s f a b → (u : Fact) × IsShortFact h m s u a b
  pub facts_too : (g h : Sig) (m : Limits) (s : Bool) (w : List ℕ) (fs : List Fact) (a b : List Word) → AreFacts g m s w fs a b → (us : List Fact) × AreFacts h m s w us a b
