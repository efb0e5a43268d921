use Rattle.std.proofs.Common.{◌≡◌, ◌+◌, ℕ, zero, suc, List, [], ◌∷◌, Option, Some, None, refl, sym, ap, ◌∙◌, subst}
use Rattle.std.specs.Prelude.{codes, slice_get}
use Rattle.sap_terms.specs.Signature.{Sig}
use Rattle.sap_text.specs.declared.token.Token.{Token}
use Rattle.sap_grammar.specs.TermGrammar.{IsConstant, list_last, term_message}
use Rattle.sap_grammar.specs.Words.{Word, words_of}
use Rattle.sap_origin.specs.Reached.{reaches_here, reaches_use}
use Rattle.sap_head_words.specs.HeadWords.{HeadWords, words_use}
use Rattle.sap_read.specs.SpelledBodies.{item_end}
use Rattle.sap_stems.specs.Stems.{Stem}
use Rattle.sap_stems.specs.StemsAt.{AreStems}
use Rattle.sap_captures.specs.Captures.{IsStemWord, IsWordAt}
use Rattle.sap_captures.specs.Examples.{defined, main, small_words, used}
use Rattle.sap_captures.specs.declared.kind.Kind.TheVariants.{Captured}
use Rattle.sap_captures.proofs.laws.stretches_by_hand.Goals as goal

some_same : {A : Type 0} {a b : A} → ◌≡◌ {A = Option A} (Some a) (Some b) → a ≡ b
some_same e = cc (e)

none_some : {A X : Type 0} {a : A} → ◌≡◌ {A = Option A} None (Some a) → X
none_some e = absurd (cc (e))

-- the stems of the input
record All : Type 0 where
  pub stems : List Stem
  pub are : AreStems defined main.process main.behind [] stems

abbrev all : All
all = record { stems = _; are = record { standing = _; place = _; reaches = reaches_use refl tt (reaches_here tt); stems_are = refl } }

abbrev end : List Word
end = item_end small_words 4 1

head_is : (g : Sig) → (IsConstant g (codes "w") → ⊥) → HeadWords g used end (2 ∷ [])
head_is g other = words_use (list_last (term_message other))

module _ (g : Sig) (z : List ℕ) (ts : List Token) (other : IsConstant g (codes "w") → ⊥) (e : words_of z ts ≡ small_words) where
  head_there : HeadWords g used (item_end (words_of z ts) 4 1) (2 ∷ [])
  head_there = subst (λ (ws : List Word). HeadWords g used (item_end ws 4 1) (2 ∷ [])) (sym e) (head_is g other)

  there : IsWordAt Captured g z ts defined main [] 0 3
  there = record {
    stems = all.stems;
    are = all.are;
    stem = _;
    stands = refl;
    from = tt;
    word = record { numbers = 2 ∷ []; head = head_there; number = 2; stands = refl; left = refl };
  }

first_alone : {A : Type 0} (a : A) (k : ℕ) (b : A) → slice_get (a ∷ []) k ≡ Some b → (k ≡ 0) × (a ≡ b)
first_alone a zero b e = (refl, some_same e)
first_alone a (suc k) b e = none_some e

pub returns-clause-argument : goal.returns-clause-argument
returns-clause-argument c = λ g z ts other e. there g z ts other e

pub returns-clause-no_other : goal.returns-clause-no_other
returns-clause-no_other c = λ g z ts k n other e r.
    let stems : r.stems ≡ all.stems = c.nodes_have_stems.ensures.one defined main.process main.behind [] r.stems all.stems r.are all.are in
    let at = first_alone _ k r.stem (subst (λ (ss : List Stem). slice_get ss k ≡ Some r.stem) stems r.stands) in
    let word : IsStemWord g z ts _ n = subst (λ (s : Stem). IsStemWord g z ts s n) (sym at.1) r.word in
    let numbers : word.numbers ≡ 2 ∷ [] = c.one_head.ensures g g used (item_end (words_of z ts) 4 1) word.numbers (2 ∷ []) word.head (head_there g z ts other e) in
    let number : 2 ≡ word.number = some_same (sym (ap (λ (ns : List ℕ). slice_get ns 0) numbers) ∙ word.stands) in
    (at.0, word.left ∙ ap (λ (m : ℕ). m + 1) (sym number))

pub returns-clause-from_use : goal.returns-clause-from_use
returns-clause-from_use c = tt

pub returns-clause-from_no_head : goal.returns-clause-from_no_head
returns-clause-from_no_head c = λ h. h

pub returns-clause-from_anywhere : goal.returns-clause-from_anywhere
returns-clause-from_anywhere c = (tt, tt)
