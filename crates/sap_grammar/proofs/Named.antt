-- The names in terms and facts that words of tokens spell are names.
use Rattle.std.proofs.Common.{ℕ, List}
use Rattle.std.specs.Prelude.{codes}
use Rattle.sap_terms.specs.declared.fact.Fact.{Fact}
use Rattle.sap_terms.specs.Tree.{Tree, apply, none, more, trees_of}
use Rattle.sap_terms.specs.Signature.{Sig}
use Rattle.sap_grammar.specs.Words.{Word}
use Rattle.sap_grammar.specs.TermGrammar.{IsTerm, IsRest, IsList, IsArgs, args_none, args_some, list_last, list_more, rest_last, rest_more, term_constant, term_fresh, term_message, term_pub, term_quoted, term_symbol, term_tuple}
use Rattle.sap_grammar.specs.FactGrammar.{IsFact, fact_linear, fact_persistent}
use Rattle.sap_grammar.specs.ByteWords.{IsName, AreTokenWords}
use Rattle.sap_grammar.specs.Printable.{HasNames, HaveNames, FactHasNames}

module _ (most : ℕ) where
  -- names of what is spelled, and the words behind it
  trees_names : (f : List ℕ) (ts : List Tree) → IsName most f → HaveNames most (trees_of ts) → HasNames most (apply f (trees_of ts))
  trees_names f ts h hs = ((λ e. h), hs)

  pair_names : (t u : Tree) → HasNames most t → HasNames most u → HasNames most (apply (codes "pair") (more t (more u none)))
  pair_names t u h k = ((λ e. absurd (cc (e))), (h, (k, tt)))

  mutual
    pub term_names : {g : Sig} {t : Tree} {a b : List Word} → IsTerm g t a b → AreTokenWords most a → HasNames most t × AreTokenWords most b
    term_names (term_constant is) h = (((λ e. h.0), tt), h.1)
    term_names (term_message free) h = h
    term_names term_fresh h = (h.1.0, h.1.1)
    term_names term_pub h = (h.1.0, h.1.1)
    term_names term_quoted h = h
    term_names (term_symbol {f = f} {ts = ts} low r) h = let more = args_names r h.1.1 in (trees_names f ts h.0 more.0, more.1)
    term_names (term_tuple {t = t} {u = u} r s) h = let first = term_names r h.1 in let second = rest_names s first.1.1 in (pair_names t u first.0 second.0, second.1)

    rest_names : {g : Sig} {t : Tree} {a b : List Word} → IsRest g t a b → AreTokenWords most a → HasNames most t × AreTokenWords most b
    rest_names (rest_last r) h = let first = term_names r h in (first.0, first.1.1)
    rest_names (rest_more {t = t} {u = u} r s) h = let first = term_names r h in let second = rest_names s first.1.1 in (pair_names t u first.0 second.0, second.1)

    list_names : {g : Sig} {ts : List Tree} {a b : List Word} → IsList g ts a b → AreTokenWords most a → HaveNames most (trees_of ts) × AreTokenWords most b
    list_names (list_last r) h = let first = term_names r h in ((first.0, tt), first.1.1)
    list_names (list_more r s) h = let first = term_names r h in let second = list_names s first.1.1 in ((first.0, second.0), second.1)

    args_names : {g : Sig} {ts : List Tree} {a b : List Word} → IsArgs g ts a b → AreTokenWords most a → HaveNames most (trees_of ts) × AreTokenWords most b
    args_names args_none h = (tt, h.1)
    args_names (args_some r) h = list_names r h

  pub fact_names : {g : Sig} {f : Fact} {a b : List Word} → IsFact g f a b → AreTokenWords most a → FactHasNames most f × AreTokenWords most b
  fact_names (fact_linear up r) h = let args = args_names r h.1.1 in ((h.0, args.0), args.1)
  fact_names (fact_persistent up r) h = let args = args_names r h.1.1.1 in ((h.1.0, args.0), args.1)
