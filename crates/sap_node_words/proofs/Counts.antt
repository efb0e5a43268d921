-- As many numbers as nodes, and each is that of a word of the term.
use Rattle.std.proofs.Common.{◌≡◌, ◌<◌, ◌≤◌, ℕ, suc, List, [], ◌∷◌, ◌++◌, length, refl, arith}
use Rattle.std.specs.Prelude.{All}
use Rattle.std.proofs.lemmas.List.{length-append}
use Rattle.std.proofs.lemmas.List.Elements.{All-nil, All-cons, All-append, All-weaker}
use Rattle.sap_terms.specs.Signature.{Sig}
use Rattle.sap_terms.specs.Tree.{Tree, trees_of, node_count, trees_count}
use Rattle.sap_grammar.specs.Words.{Word}
use Rattle.sap_grammar.specs.TermGrammar.{IsTerm, IsRest, IsList, IsArgs, term_constant, term_message, term_fresh, term_pub, term_quoted, term_symbol, term_tuple, rest_last, rest_more, list_last, list_more, args_none, args_some}
use Rattle.sap_grammar.proofs.ReadingLaws.Ends.{term_shorter, list_shorter}
use Rattle.sap_node_words.specs.NodeWords.{term_words, rest_words, list_words, args_words}

mutual
  pub term_counts : {g : Sig} {t : Tree} {a b : List Word} (r : IsTerm g t a b) → length (term_words r) ≡ node_count t
  term_counts (term_constant is) = refl
  term_counts (term_message is) = refl
  term_counts term_fresh = refl
  term_counts term_pub = refl
  term_counts term_quoted = refl
  term_counts (term_symbol low r) = omega (arith, args_counts r)
  term_counts (term_tuple r s) = omega (arith, length-append (term_words r) (rest_words s), term_counts r, rest_counts s)

  rest_counts : {g : Sig} {t : Tree} {a b : List Word} (r : IsRest g t a b) → length (rest_words r) ≡ node_count t
  rest_counts (rest_last r) = term_counts r
  rest_counts (rest_more r s) = omega (arith, length-append (term_words r) (rest_words s), term_counts r, rest_counts s)

  pub list_counts : {g : Sig} {ts : List Tree} {a b : List Word} (r : IsList g ts a b) → length (list_words r) ≡ trees_count (trees_of ts)
  list_counts (list_last r) = omega (arith, term_counts r)
  list_counts (list_more r s) = omega (arith, length-append (term_words r) (list_words s), term_counts r, list_counts s)

  pub args_counts : {g : Sig} {ts : List Tree} {a b : List Word} (r : IsArgs g ts a b) → length (args_words r) ≡ trees_count (trees_of ts)
  args_counts args_none = refl
  args_counts (args_some r) = list_counts r

-- a number of words between these
abbrev pub Between : ℕ → ℕ → ℕ → Type 0
Between low high n = (low < n) × (n ≤ high)

wider : (low high lower higher : ℕ) (ns : List ℕ) → lower ≤ low → high ≤ higher → All (Between low high) ns → All (Between lower higher) ns
wider low high lower higher ns l h all = All-weaker (Between low high) (Between lower higher) (λ n is. (omega (arith, l, is.0), omega (arith, h, is.1))) ns all

one_between : (low high n : ℕ) → low < n → n ≤ high → All (Between low high) (n ∷ [])
one_between low high n l h = All-cons (Between low high) n [] (l, h) (All-nil (Between low high))

-- numbers of words before a place, and numbers of words behind it
both : (low high top middle : ℕ) (ns ms : List ℕ) → low ≤ middle → top ≤ high → middle ≤ high → All (Between (suc middle) top) ns → All (Between low middle) ms
    → All (Between low high) (ns ++ ms)
both low high top middle ns ms l t m before behind =
    All-append (Between low high) ns ms (wider (suc middle) top low high ns (omega (arith, l)) t before) (wider low middle low high ms (omega arith) m behind)

args_shorter : {g : Sig} {ts : List Tree} {a b : List Word} → IsArgs g ts a b → length b < length a
args_shorter args_none = omega arith
args_shorter (args_some r) = list_shorter r

rest_shorter : {g : Sig} {t : Tree} {a b : List Word} → IsRest g t a b → length b < length a
rest_shorter (rest_last r) = omega (arith, term_shorter r)
rest_shorter (rest_more r s) = omega (arith, term_shorter r, rest_shorter s)

mutual
  pub term_within : {g : Sig} {t : Tree} {a b : List Word} (r : IsTerm g t a b) → All (Between (length b) (length a)) (term_words r)
  term_within (term_constant is) = one_between _ _ _ (omega arith) (omega arith)
  term_within (term_message is) = one_between _ _ _ (omega arith) (omega arith)
  term_within term_fresh = one_between _ _ _ (omega arith) (omega arith)
  term_within term_pub = one_between _ _ _ (omega arith) (omega arith)
  term_within term_quoted = one_between _ _ _ (omega arith) (omega arith)
  term_within (term_symbol {a = a} {b = b} low r) =
      All-cons (Between (length b) (suc (suc (length a)))) (suc (suc (length a))) (args_words r) (omega (arith, args_shorter r), omega arith)
      (wider (length b) (length a) _ _ (args_words r) (omega arith) (omega arith) (args_within r))
  term_within (term_tuple {a = a} {b = b} {c = c} r s) =
      All-cons (Between (length c) (suc (length a))) (suc (length a)) (term_words r ++ rest_words s) (omega (arith, term_shorter r, rest_shorter s), omega arith)
      (both (length c) (suc (length a)) (length a) (length b) (term_words r) (rest_words s) (omega (arith, rest_shorter s)) (omega arith) (omega (arith, term_shorter r)) (term_within r) (rest_within s))

  rest_within : {g : Sig} {t : Tree} {a b : List Word} (r : IsRest g t a b) → All (Between (length b) (length a)) (rest_words r)
  rest_within (rest_last {a = a} {b = b} r) = wider (suc (length b)) (length a) _ _ (term_words r) (omega arith) (omega arith) (term_within r)
  rest_within (rest_more {a = a} {b = b} {c = c} r s) =
      All-cons (Between (length c) (length a)) (length a) (term_words r ++ rest_words s) (omega (arith, term_shorter r, rest_shorter s), omega arith)
      (both (length c) (length a) (length a) (length b) (term_words r) (rest_words s) (omega (arith, rest_shorter s)) (omega arith) (omega (arith, term_shorter r)) (term_within r) (rest_within s))

  list_within : {g : Sig} {ts : List Tree} {a b : List Word} (r : IsList g ts a b) → All (Between (length b) (length a)) (list_words r)
  list_within (list_last {a = a} {b = b} r) = wider (suc (length b)) (length a) _ _ (term_words r) (omega arith) (omega arith) (term_within r)
  list_within (list_more {a = a} {b = b} {c = c} r s) =
      both (length c) (length a) (length a) (length b) (term_words r) (list_words s) (omega (arith, list_shorter s)) (omega arith) (omega (arith, term_shorter r)) (term_within r) (list_within s)

  pub args_within : {g : Sig} {ts : List Tree} {a b : List Word} (r : IsArgs g ts a b) → All (Between (length b) (length a)) (args_words r)
  args_within (args_none {a = a}) = All-nil (Between (length a) (suc (length a)))
  args_within (args_some r) = list_within r
