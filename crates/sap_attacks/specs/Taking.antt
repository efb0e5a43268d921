-- How a rule takes its left side by value: fact after fact.
use Rattle.std.specs.Prelude.{◌≡◌, ℕ, true, false, List, [], ◌∷◌, ◌++◌, length, Contains}
use Rattle.sap_terms.specs.AdversaryFacts.{k_fact, fr_fact, in_fact}
use Rattle.sap_terms.specs.Deduce.{IsDeducible}
use Rattle.sap_terms.specs.Signature.{Sig}
use Rattle.sap_terms.specs.Trace.{Trace}
use Rattle.sap_terms.specs.Tree.{Tree}
use Rattle.sap_terms.specs.declared.fact.Fact.{Fact}
use Rattle.sap_restrict.specs.Sentences.{IsServed}
use Rattle.sap_restrict.specs.Shown.{HasFact}
use Rattle.sap_attacks.specs.Alike.{AreAlike}
use Rattle.sap_attacks.specs.ShortRuleStates.{ShortState, is_passing}

-- the message is pending: an input of it would be served at the end of the trace, by what the restriction on inputs says
abbrev pub IsPending : Trace → Tree → Type 0
IsPending tr t = (j : ℕ) × IsServed (HasFact tr) (length tr) t j

-- what has to be shown before an input of the message: that the adversary knows it, unless it is pending
pub data Precedes (tr : Trace) (t : Tree) (before : Trace) : Type 0 where
  pending : IsPending tr t → before ≡ [] → Precedes tr t before
  given : ¬ IsPending tr t → before ≡ (k_fact t ∷ []) ∷ [] → Precedes tr t before

-- the state before, a fact that is taken, and the state behind it
pub data Takes (g : Sig) (s : ShortState) (f : Fact) (z : ShortState) : Type 0 where
  -- a name is drawn that wasn't
  draws : (n : ℕ) → f ≡ fr_fact n → ¬ Contains s.made n → z ≡ record s { made = s.made ++ n ∷ [] } → Takes g s f z
  -- the adversary gives a message that it can
  is_given : (t : Tree) (before : Trace) → f ≡ in_fact t → IsDeducible g [] s.known t → Precedes s.shown t before
      → z ≡ record s { shown = s.shown ++ before } → Takes g s f z
  -- any other fact stands; a linear one is gone then
  stays : is_passing f ≡ false → f.persistent ≡ true → Contains s.facts f → z ≡ s → Takes g s f z
  goes : (rest : List Fact) → is_passing f ≡ false → f.persistent ≡ false → AreAlike s.facts (f ∷ rest) → z ≡ record s { facts = rest }
      → Takes g s f z

-- these facts are taken one after another
pub data TakesEach (g : Sig) : ShortState → List Fact → ShortState → Type 0 where
  none_left : {s : ShortState} → TakesEach g s [] s
  then_on : {s z : ShortState} {f : Fact} {fs : List Fact} (y : ShortState) → Takes g s f y → TakesEach g y fs z → TakesEach g s (f ∷ fs) z
