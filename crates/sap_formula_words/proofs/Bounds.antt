-- A term has no more nodes than words.
use Rattle.std.proofs.Common.{◌+◌, ◌≤◌, List, length, arith}
use Rattle.sap_terms.specs.Signature.{Sig}
use Rattle.sap_terms.specs.Tree.{Tree, trees_of, node_count, trees_count}
use Rattle.sap_grammar.specs.Words.{Word}
use Rattle.sap_grammar.specs.TermGrammar.{IsTerm, IsRest, IsList, IsArgs, term_constant, term_message, term_fresh, term_pub, term_quoted, term_symbol, term_tuple, rest_last, rest_more, list_last, list_more, args_none, args_some}

mutual
  pub term_few : {g : Sig} {t : Tree} {a b : List Word} → IsTerm g t a b → node_count t + length b ≤ length a
  term_few (term_constant is) = omega arith
  term_few (term_message is) = omega arith
  term_few term_fresh = omega arith
  term_few term_pub = omega arith
  term_few term_quoted = omega arith
  term_few (term_symbol low r) = omega (arith, args_few r)
  term_few (term_tuple r s) = omega (arith, term_few r, rest_few s)

  rest_few : {g : Sig} {t : Tree} {a b : List Word} → IsRest g t a b → node_count t + 1 + length b ≤ length a
  rest_few (rest_last r) = omega (arith, term_few r)
  rest_few (rest_more r s) = omega (arith, term_few r, rest_few s)

  list_few : {g : Sig} {ts : List Tree} {a b : List Word} → IsList g ts a b → trees_count (trees_of ts) + length b ≤ length a
  list_few (list_last r) = omega (arith, term_few r)
  list_few (list_more r s) = omega (arith, term_few r, list_few s)

  pub args_few : {g : Sig} {ts : List Tree} {a b : List Word} → IsArgs g ts a b → trees_count (trees_of ts) + length b ≤ length a
  args_few args_none = omega arith
  args_few (args_some r) = list_few r
