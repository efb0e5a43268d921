-- What some words have to be for heads of each kind, seen from their first on.
use Rattle.std.specs.Prelude.{◌≡◌, ℕ, Bool, true, false, codes, List, [], ◌∷◌, ◌++◌, length, drop, if◌then◌else◌}
use Rattle.sap_terms.specs.declared.fact.Fact.{Fact}
use Rattle.sap_terms.specs.Signature.{Sig}
use Rattle.sap_terms.specs.Tree.{Tree}
use Rattle.sap_grammar.specs.Words.{Word, starts}
use Rattle.sap_grammar.specs.declared.limits.Limits.{Limits}
use Rattle.sap_grammar.specs.TermGrammar.{IsTerm, IsArgs}
use Rattle.sap_grammar.specs.FactGrammar.{IsFact, AreFacts}
use Rattle.sap_node_words.specs.NodeWords.{term_words, args_words}
use Rattle.sap_node_words.specs.FactWords.{fact_words, facts_words}
use Rattle.sap_process.specs.Action.{Action, new, out, send, input, receive, event, insert, delete, lock, unlock, embedded}

-- a term, and its nodes have these numbers
pub record OneTerm (g : Sig) (t : Tree) (a : List Word) (ns : List ℕ) : Type 0 where
  pub behind : List Word
  pub spelled : IsTerm g t a behind
  pub numbers : term_words spelled ≡ ns

-- two terms and a word between them
pub record TwoTerms (g : Sig) (t u : Tree) (a : List Word) (ns : List ℕ) : Type 0 where
  pub word : Word
  pub middle : List Word
  pub behind : List Word
  pub first : IsTerm g t a (word ∷ middle)
  pub apart : starts (codes "(") (word ∷ middle) ≡ false
  pub second : IsTerm g u middle behind
  pub numbers : term_words first ++ term_words second ≡ ns

-- a term, a word behind it, and a name
pub record TermAndName (g : Sig) (t : Tree) (a : List Word) (ns : List ℕ) : Type 0 where
  pub word : Word
  pub middle : List Word
  pub first : IsTerm g t a (word ∷ middle)
  pub apart : starts (codes "(") (word ∷ middle) ≡ false
  pub numbers : term_words first ++ length middle ∷ [] ≡ ns

-- arguments in parentheses
pub record Arguments (g : Sig) (ts : List Tree) (a : List Word) (ns : List ℕ) : Type 0 where
  pub behind : List Word
  pub spelled : IsArgs g ts a behind
  pub numbers : args_words spelled ≡ ns

-- those of a use: none, or some in parentheses
abbrev pub UseOf : Sig → List Tree → List Word → List ℕ → Type 0
UseOf g [] a ns = ns ≡ []
UseOf g (t ∷ ts) a ns = Arguments g (t ∷ ts) (drop 2 a) ns

-- a fact
pub record OneFact (g : Sig) (f : Fact) (a : List Word) (ns : List ℕ) : Type 0 where
  pub behind : List Word
  pub spelled : IsFact g f a behind
  pub numbers : fact_words spelled ≡ ns

-- facts up to a mark, and the words behind it
pub record FactsUpTo (g : Sig) (fs : List Fact) (a b : List Word) (ns : List ℕ) : Type 0 where
  pub limits : Limits
  pub allowed : Bool
  pub closing : List ℕ
  pub spelled : AreFacts g limits allowed closing fs a b
  pub numbers : facts_words spelled ≡ ns

-- the right side of a rule behind its left side and what it shows
pub record RightSide (g : Sig) (r : List Fact) (a : List Word) (ns : List ℕ) : Type 0 where
  pub behind : List Word
  pub facts : FactsUpTo g r a behind ns

-- what a rule shows, and its right side
pub record Shown (g : Sig) (e r : List Fact) (a : List Word) (ns : List ℕ) : Type 0 where
  pub middle : List Word
  pub before : List ℕ
  pub after : List ℕ
  pub shown : FactsUpTo g e a middle before
  pub added : RightSide g r (drop 1 middle) after
  pub numbers : before ++ after ≡ ns

-- behind the left side of a rule, with an arrow that shows nothing or not
abbrev pub ArrowIs : Bool → Sig → List Fact → List Fact → List Word → List ℕ → Type 0
ArrowIs true g e r a ns = RightSide g r (drop 2 a) ns
ArrowIs false g e r a ns = Shown g e r (drop 1 a) ns

-- the three sides of a rule
pub record ThreeSides (g : Sig) (l e r : List Fact) (a : List Word) (ns : List ℕ) : Type 0 where
  pub middle : List Word
  pub before : List ℕ
  pub after : List ℕ
  pub taken : FactsUpTo g l a middle before
  pub others : ArrowIs (starts (codes "-->") middle) g e r middle after
  pub numbers : before ++ after ≡ ns

-- without the sign of a fresh name
abbrev pub unsigned_name : List Word → List Word
unsigned_name ws = if starts (codes "~") ws then drop 1 ws else ws

-- so for each action
abbrev pub Shape : Sig → Action → List Word → List ℕ → Type 0
Shape g (new x) a ns = ns ≡ length (unsigned_name (drop 1 a)) ∷ []
Shape g (out t) a ns = OneTerm g t (drop 2 a) ns
Shape g (send t u) a ns = TwoTerms g t u (drop 2 a) ns
Shape g (input t) a ns = OneTerm g t (drop 2 a) ns
Shape g (receive t u) a ns = TwoTerms g t u (drop 2 a) ns
Shape g (event f) a ns = OneFact g f (drop 1 a) ns
Shape g (insert t u) a ns = TwoTerms g t u (drop 1 a) ns
Shape g (delete t) a ns = OneTerm g t (drop 1 a) ns
Shape g (lock t n) a ns = OneTerm g t (drop 1 a) ns
Shape g (unlock t n) a ns = OneTerm g t (drop 1 a) ns
Shape g (embedded l e r) a ns = ThreeSides g l e r (drop 1 a) ns
