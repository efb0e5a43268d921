-- What is taken as a term is spelled so.
use Rattle.std.proofs.Common.{◌≡◌, ℕ, zero, suc, ◌*◌, true, List, [], ◌∷◌, ◌++◌, append_assoc, drop, refl, sym, ap, subst, ◌∙◌}
use Rattle.std.specs.Prelude.{decimal, nat_le}
use Rattle.std.proofs.lemmas.Bool.{eqb-true, leb-true}
use Rattle.sap_terms.specs.declared.limits.TheConstants.{MOST_TERM_NODES}
use Rattle.sap_terms.specs.Tree.{Tree, trees_of, node_count}
use Rattle.sap_runs.specs.Limits.{HasFewNodes}
use Rattle.sap_run_lines.specs.RunTerms.{IsNumber, IsRunName, IsRunContent, IsRunTerm, IsRunRest, AreRunTerms, term_public, term_fresh, term_constant, term_symbol, term_tuple, rest_last, rest_more, terms_last, terms_more}
use Rattle.sap_run_lines.specs.code.Taking.{starts, name_at, number_at, content_at}
use Rattle.sap_run_lines.specs.code.TermTaking.{Taker, term, rest, terms, term_at, rest_at, terms_at, public_at, fresh_at, tuple_at, symbol_at, small_term}
use Rattle.sap_run_lines.proofs.OnTaken.{OnTaken, both, after_on, if_on, onward}
use Rattle.sap_run_lines.proofs.Names.{name_on, content_on}
use Rattle.sap_run_lines.proofs.Digits.{number_on}

-- a byte that stands first
pub first_is : (c : ℕ) (z : List ℕ) → starts c z ≡ true → z ≡ c ∷ drop 1 z
first_is c [] e = absurd (cc)
first_is c (b ∷ z) e = ap (λ x. x ∷ z) (eqb-true b c e)

-- its bytes, and those behind it, rewritten
from : {t : Tree} {x y k : List ℕ} → IsRunTerm t x k → y ≡ x → IsRunTerm t y k
from {t = t} {k = k} r e = subst (λ (y : List ℕ). IsRunTerm t y k) (sym e) r

on : {t : Tree} {z x y : List ℕ} → IsRunTerm t z x → x ≡ y → IsRunTerm t z y
on {t = t} {z = z} r e = subst (λ (y : List ℕ). IsRunTerm t z y) e r

-- these stand behind others
abbrev Added : List Tree → List ℕ → List Tree → List ℕ → Type 0
Added xs z us k = (ts : List Tree) × (us ≡ xs ++ ts) × AreRunTerms (trees_of ts) z k

public_on : (z x : List ℕ) → x ≡ 39 ∷ z → OnTaken (λ t k. IsRunTerm t x k) (public_at z)
public_on z x e = after_on (λ s k. IsRunContent s × (z ≡ s ++ (39 ∷ k))) (both (λ t k. IsRunTerm t x k)) (content_at z) _ (content_on z) (λ s k h.
    from (term_public h.0) (e ∙ ap (λ y. 39 ∷ y) h.1))

fresh_on : (z x : List ℕ) → x ≡ 126 ∷ z → OnTaken (λ t k. IsRunTerm t x k) (fresh_at z)
fresh_on z x e = after_on (λ n k. IsNumber n × (z ≡ decimal n ++ k)) (both (λ t k. IsRunTerm t x k)) (number_at z) _ (number_on z) (λ n k h.
    from (term_fresh h.0) (e ∙ ap (λ y. 126 ∷ y) h.1))

-- where what is taken inside is spelled so
module _ (one other : Taker Tree) (many : List Tree → Taker (List Tree))
    (one_on : (z : List ℕ) → OnTaken (λ t k. IsRunTerm t z k) (one z))
    (other_on : (z : List ℕ) → OnTaken (λ t k. IsRunRest t z k) (other z))
    (many_on : (xs : List Tree) (z : List ℕ) → OnTaken (Added xs z) (many xs z)) where
  tuple_on : (z x : List ℕ) → x ≡ 60 ∷ z → OnTaken (λ t k. IsRunTerm t x k) (tuple_at one other z)
  tuple_on z x e = after_on (λ t k. IsRunTerm t z k) (both (λ t k. IsRunTerm t x k)) (one z) _ (one_on z) (λ t r h.
      if_on (both (λ t k. IsRunTerm t x k)) (starts 44 r) _ _ (λ c.
      after_on (λ u k. IsRunRest u (drop 1 r) k) (both (λ t k. IsRunTerm t x k)) (other (drop 1 r)) _ (other_on (drop 1 r)) (λ u k s.
      from (term_tuple (on h (first_is 44 r c)) s) e)) (λ c. tt))

  rest_on : (z : List ℕ) → OnTaken (λ t k. IsRunRest t z k) (rest_at one other z)
  rest_on z = after_on (λ t k. IsRunTerm t z k) (both (λ t k. IsRunRest t z k)) (one z) _ (one_on z) (λ t r h.
      if_on (both (λ t k. IsRunRest t z k)) (starts 62 r) _ _ (λ c. rest_last (on h (first_is 62 r c))) (λ n.
      if_on (both (λ t k. IsRunRest t z k)) (starts 44 r) _ _ (λ c.
      after_on (λ u k. IsRunRest u (drop 1 r) k) (both (λ t k. IsRunRest t z k)) (other (drop 1 r)) _ (other_on (drop 1 r)) (λ u k s.
      rest_more (on h (first_is 44 r c)) s)) (λ c. tt)))

  terms_on : (xs : List Tree) (z : List ℕ) → OnTaken (Added xs z) (terms_at one many xs z)
  terms_on xs z = after_on (λ t k. IsRunTerm t z k) (both (Added xs z)) (one z) _ (one_on z) (λ t r h.
      if_on (both (Added xs z)) (starts 41 r) _ _ (λ c. (t ∷ [], refl, terms_last (on h (first_is 41 r c)))) (λ n.
      if_on (both (Added xs z)) (starts 44 r) _ _ (λ c.
      onward (both (Added (xs ++ t ∷ []) (drop 1 r))) (both (Added xs z)) (many (xs ++ t ∷ []) (drop 1 r)) (many_on (xs ++ t ∷ []) (drop 1 r)) (λ p s.
      (t ∷ s.0, s.1 ∙ append_assoc xs (t ∷ []) s.0, terms_more (on h (first_is 44 r c)) s.2))) (λ c. tt)))

  symbol_on : (z : List ℕ) → OnTaken (λ t k. IsRunTerm t z k) (symbol_at many z)
  symbol_on z = after_on (λ f k. IsRunName f × (z ≡ f ++ k)) (both (λ t k. IsRunTerm t z k)) (name_at z) _ (name_on z) (λ f r h.
      if_on (both (λ t k. IsRunTerm t z k)) (starts 40 r) _ _ (λ c.
      after_on (Added [] (drop 1 r)) (both (λ t k. IsRunTerm t z k)) (many [] (drop 1 r)) _ (many_on [] (drop 1 r)) (λ us k s.
      let same : s.0 ≡ us = sym s.1 in
      let are : AreRunTerms (trees_of us) (drop 1 r) k = subst (λ (ts : List Tree). AreRunTerms (trees_of ts) (drop 1 r) k) same s.2 in
      from (term_symbol h.0 are) (h.1 ∙ ap (λ y. f ++ y) (first_is 40 r c))))
      (λ c. from (term_constant h.0) h.1))

  term_on_at : (z : List ℕ) → OnTaken (λ t k. IsRunTerm t z k) (term_at one other many z)
  term_on_at z =
      if_on (both (λ t k. IsRunTerm t z k)) (starts 39 z) _ _ (λ e. public_on (drop 1 z) z (first_is 39 z e)) (λ e.
      if_on (both (λ t k. IsRunTerm t z k)) (starts 126 z) _ _ (λ e. fresh_on (drop 1 z) z (first_is 126 z e)) (λ e.
      if_on (both (λ t k. IsRunTerm t z k)) (starts 60 z) _ _ (λ e. tuple_on (drop 1 z) z (first_is 60 z e)) (λ e. symbol_on z)))

mutual
  unfolding term rest terms

  pub term_on : (d : ℕ) (z : List ℕ) → OnTaken (λ t k. IsRunTerm t z k) (term d z)
  term_on zero z = tt
  term_on (suc d) z = term_on_at (term d) (rest d) (terms d) (term_on d) (rest_on_all d) (terms_on_all d) z

  rest_on_all : (d : ℕ) (z : List ℕ) → OnTaken (λ t k. IsRunRest t z k) (rest d z)
  rest_on_all zero z = tt
  rest_on_all (suc d) z = rest_on (term d) (rest d) (terms d) (term_on d) (rest_on_all d) (terms_on_all d) z

  terms_on_all : (d : ℕ) (xs : List Tree) (z : List ℕ) → OnTaken (Added xs z) (terms d xs z)
  terms_on_all zero xs z = tt
  terms_on_all (suc d) xs z = terms_on (term d) (rest d) (terms d) (term_on d) (rest_on_all d) (terms_on_all d) xs z

pub small_term_on : (z : List ℕ) → OnTaken (λ t k. IsRunTerm t z k × HasFewNodes t) (small_term z)
unfolding small_term
small_term_on z = after_on (λ t k. IsRunTerm t z k) (both (λ t k. IsRunTerm t z k × HasFewNodes t)) (term (2 * MOST_TERM_NODES) z) _ (term_on (2 * MOST_TERM_NODES) z) (λ t k h.
    if_on (both (λ t k. IsRunTerm t z k × HasFewNodes t)) (nat_le (node_count t) MOST_TERM_NODES) _ _ (λ e. (h, leb-true (node_count t) MOST_TERM_NODES e)) (λ e. tt))
