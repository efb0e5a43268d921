-- Terms, taken from the left. A number bounds the calls.
-- Bytes by their codes: 39 is `'`, 40 and 41 are parentheses, 44 a comma, 60 `<`, 62 `>`, 126 `~`.
use Rattle.std.specs.Prelude.{ℕ, zero, suc, ◌*◌, nat_le, if◌then◌else◌, List, [], ◌∷◌, ◌++◌, drop, Some, None}
use Rattle.sap_terms.specs.declared.limits.TheConstants.{MOST_TERM_NODES}
use Rattle.sap_terms.specs.Tree.{Tree, public, fresh, apply, none, trees_of, node_count}
use Rattle.sap_grammar.specs.TermGrammar.{pair}
use Rattle.sap_run_lines.specs.code.Taking.{Taken, after, starts, name_at, number_at, content_at}

abbrev pub Taker : Type 0 → Type 0
Taker A = List ℕ → Taken A

abbrev pub public_at : Taker Tree
public_at z = after (content_at z) (λ s r. Some (public s, r))

abbrev pub fresh_at : Taker Tree
fresh_at z = after (number_at z) (λ n r. Some (fresh n, r))

-- behind a term in a tuple: a comma, and the parts behind it
abbrev pub paired : Taker Tree → Tree → Taker Tree
paired rest t z = if starts 44 z then after (rest (drop 1 z)) (λ u r. Some (pair t u, r)) else None

-- behind the opening of a tuple
abbrev pub tuple_at : Taker Tree → Taker Tree → Taker Tree
tuple_at term rest z = after (term z) (λ t r. paired rest t r)

-- behind a name: the terms that it is applied to, if a parenthesis opens
abbrev pub applied : (List Tree → Taker (List Tree)) → List ℕ → Taker Tree
applied terms f z = if starts 40 z then after (terms [] (drop 1 z)) (λ ts r. Some (apply f (trees_of ts), r)) else Some (apply f none, z)

abbrev pub symbol_at : (List Tree → Taker (List Tree)) → Taker Tree
symbol_at terms z = after (name_at z) (λ f r. applied terms f r)

-- a term, where what it holds is taken so
abbrev pub term_at : Taker Tree → Taker Tree → (List Tree → Taker (List Tree)) → Taker Tree
term_at term rest terms z =
    if starts 39 z then public_at (drop 1 z)
    else if starts 126 z then fresh_at (drop 1 z)
    else if starts 60 z then tuple_at term rest (drop 1 z)
    else symbol_at terms z

-- the parts of a tuple behind a comma
abbrev pub rest_at : Taker Tree → Taker Tree → Taker Tree
rest_at term rest z = after (term z) (λ t r. if starts 62 r then Some (t, drop 1 r) else paired rest t r)

-- behind a term among others: the parenthesis that closes, or a comma and more terms
abbrev pub listed : (List Tree → Taker (List Tree)) → List Tree → Taker (List Tree)
listed terms ts z = if starts 41 z then Some (ts, drop 1 z) else if starts 44 z then terms ts (drop 1 z) else None

-- terms behind those that stand before
abbrev pub terms_at : Taker Tree → (List Tree → Taker (List Tree)) → List Tree → Taker (List Tree)
terms_at term terms ts z = after (term z) (λ t r. listed terms (ts ++ t ∷ []) r)

unfoldable mutual
  pub term : ℕ → Taker Tree
  term zero = λ z. None
  term (suc d) = term_at (term d) (rest d) (terms d)

  pub rest : ℕ → Taker Tree
  rest zero = λ z. None
  rest (suc d) = rest_at (term d) (rest d)

  pub terms : ℕ → List Tree → Taker (List Tree)
  terms zero = λ ts z. None
  terms (suc d) = terms_at (term d) (terms d)

-- a term of at most 256 nodes, for which twice as many calls are enough
unfoldable pub small_term : Taker Tree
small_term z = after (term (2 * MOST_TERM_NODES) z) (λ t r. if nat_le (node_count t) MOST_TERM_NODES then Some (t, r) else None)
