-- Where a term ends.
use Rattle.std.proofs.Common.{◌≡◌, ℕ, suc, false, List, refl, ◌∙◌}
use Rattle.std.specs.Prelude.{codes}
use Rattle.sap_terms.specs.Signature.{Sig}
use Rattle.sap_terms.specs.Tree.{Tree}
use Rattle.sap_grammar.specs.Words.{Word, starts}
use Rattle.sap_grammar.specs.TermGrammar.{IsTerm, IsRest, IsList, IsArgs, term_constant, term_message, term_fresh, term_pub, term_quoted, term_symbol, term_tuple, rest_last, rest_more, list_last, list_more, args_none, args_some}
use Rattle.sap_formula_words.specs.code.Walk.{behind_open, behind_term}

mutual
  term_closed : {g : Sig} {t : Tree} {a b : List Word} → IsTerm g t a b → (n : ℕ) → behind_open (suc n) a ≡ behind_open (suc n) b
  term_closed (term_constant is) n = refl
  term_closed (term_message is) n = refl
  term_closed term_fresh n = refl
  term_closed term_pub n = refl
  term_closed term_quoted n = refl
  term_closed (term_symbol low r) n = args_closed r (suc n)
  term_closed (term_tuple r s) n = term_closed r (suc n) ∙ rest_closed s (suc n)

  rest_closed : {g : Sig} {t : Tree} {a b : List Word} → IsRest g t a b → (n : ℕ) → behind_open (suc n) a ≡ behind_open n b
  rest_closed (rest_last r) n = term_closed r n
  rest_closed (rest_more r s) n = term_closed r n ∙ rest_closed s n

  list_closed : {g : Sig} {ts : List Tree} {a b : List Word} → IsList g ts a b → (n : ℕ) → behind_open (suc n) a ≡ behind_open n b
  list_closed (list_last r) n = term_closed r n
  list_closed (list_more r s) n = term_closed r n ∙ list_closed s n

  args_closed : {g : Sig} {ts : List Tree} {a b : List Word} → IsArgs g ts a b → (n : ℕ) → behind_open (suc n) a ≡ behind_open n b
  args_closed args_none n = refl
  args_closed (args_some r) n = list_closed r n

pub behind : {g : Sig} {t : Tree} {a b : List Word} → IsTerm g t a b → starts (codes "(") b ≡ false → behind_term a ≡ b
behind (term_constant is) follows = rw follows refl
behind (term_message is) follows = rw follows refl
behind term_fresh follows = refl
behind term_pub follows = refl
behind term_quoted follows = rw follows refl
behind (term_symbol low r) follows = args_closed r 0
behind (term_tuple r s) follows = term_closed r 0 ∙ rest_closed s 0
