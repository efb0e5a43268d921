-- What is spelled as a term is taken.
use Rattle.std.proofs.Common.{◌≡◌, ◌≤◌, ℕ, zero, suc, ◌+◌, ◌*◌, true, false, List, [], ◌∷◌, ◌++◌, append_assoc, Some, refl, arith}
use Rattle.std.specs.Prelude.{nat_le}
use Rattle.std.proofs.lemmas.Bool.{le-leb}
use Rattle.sap_terms.specs.declared.limits.TheConstants.{MOST_TERM_NODES}
use Rattle.sap_terms.specs.Tree.{Tree, variable, public, fresh, apply, Trees, list_of, trees_of-list_of, node_count, trees_count}
use Rattle.sap_grammar.specs.ByteWords.{Ends}
use Rattle.sap_runs.specs.Limits.{HasFewNodes}
use Rattle.sap_run_lines.specs.RunTerms.{IsRunTerm, IsRunRest, AreRunTerms, term_public, term_fresh, term_constant, term_symbol, term_tuple, rest_last, rest_more, terms_last, terms_more}
use Rattle.sap_run_lines.specs.code.Taking.{starts, after}
use Rattle.sap_run_lines.specs.code.TermTaking.{term, rest, terms, small_term}
use Rattle.sap_run_lines.proofs.Names.{name_read, content_read, no_sign, ends_digits}
use Rattle.sap_run_lines.proofs.Digits.{number_read}

some_nodes : (t : Tree) → 1 ≤ node_count t
some_nodes (variable v) = omega arith
some_nodes (public n) = omega arith
some_nodes (fresh k) = omega arith
some_nodes (apply f ts) = omega arith

-- what stands first behind a name that is no symbol on terms
abbrev pub Closes : List ℕ → Type 0
Closes k = Ends k × (starts 40 k ≡ false)

comma : (y : List ℕ) → Closes (44 ∷ y)
comma y = (refl, refl)

closing : (y : List ℕ) → Closes (41 ∷ y)
closing y = (refl, refl)

ending : (y : List ℕ) → Closes (62 ∷ y)
ending y = (refl, refl)

mutual
  unfolding term rest terms after

  pub term_read : {t : Tree} {z k : List ℕ} → IsRunTerm t z k → (d : ℕ) → 2 * node_count t ≤ d → Closes k → term d z ≡ Some (t, k)
  term_read {t = t} r zero le c = absurd (omega (arith, le, some_nodes t))
  term_read (term_public {s = s} {k = k} is) (suc d) le c = rw (content_read s k is) refl
  term_read (term_fresh {n = n} {k = k} is) (suc d) le c = rw (number_read n k is (ends_digits k c.0)) refl
  term_read (term_constant {f = f} {k = k} n) (suc d) le c =
      rw (no_sign 39 f k refl n.is, no_sign 126 f k refl n.is, no_sign 60 f k refl n.is, name_read f k n c.0, c.1) refl
  term_read (term_symbol {f = f} {z = z} {k = k} {ts = ts} n r) (suc d) le c =
      rw (no_sign 39 f (40 ∷ z) refl n.is, no_sign 126 f (40 ∷ z) refl n.is, no_sign 60 f (40 ∷ z) refl n.is, name_read f (40 ∷ z) n refl, terms_read r d (omega (arith, le)) [], trees_of-list_of ts) refl
  term_read (term_tuple {t = t} {u = u} {x = x} {y = y} {k = k} r s) (suc d) le c =
      rw (term_read r d (omega (arith, le)) (comma y), rest_read s d (omega (arith, le, some_nodes t))) refl

  rest_read : {u : Tree} {z k : List ℕ} → IsRunRest u z k → (d : ℕ) → 2 * node_count u + 1 ≤ d → rest d z ≡ Some (u, k)
  rest_read r zero le = absurd (omega (arith, le))
  rest_read (rest_last {k = k} r) (suc d) le = rw (term_read r d (omega (arith, le)) (ending k)) refl
  rest_read (rest_more {t = t} {u = u} {y = y} r s) (suc d) le =
      rw (term_read r d (omega (arith, le)) (comma y), rest_read s d (omega (arith, le, some_nodes t))) refl

  terms_read : {ts : Trees} {z k : List ℕ} → AreRunTerms ts z k → (d : ℕ) → 2 * trees_count ts + 1 ≤ d → (xs : List Tree) → terms d xs z ≡ Some (xs ++ list_of ts, k)
  terms_read r zero le xs = absurd (omega (arith, le))
  terms_read (terms_last {k = k} r) (suc d) le xs = rw (term_read r d (omega (arith, le)) (closing k)) refl
  terms_read (terms_more {t = t} {ts = ts} {y = y} r s) (suc d) le xs =
      rw (term_read r d (omega (arith, le)) (comma y), terms_read s d (omega (arith, le, some_nodes t)) (xs ++ t ∷ []), append_assoc xs (t ∷ []) (list_of ts)) refl

pub small_term_read : {t : Tree} {z k : List ℕ} → IsRunTerm t z k → HasFewNodes t → Closes k → small_term z ≡ Some (t, k)
unfolding small_term after
small_term_read {t = t} r small c =
    let few : nat_le (node_count t) MOST_TERM_NODES ≡ true = le-leb (node_count t) MOST_TERM_NODES small in
    rw (term_read r (2 * MOST_TERM_NODES) (omega (arith, small)) c, few) refl
