-- A term that bytes spell can be written.
use Rattle.std.proofs.Common.{◌≡◌, ℕ, true, false, List}
use Rattle.sap_terms.specs.Tree.{Tree, Trees}
use Rattle.sap_run_lines.specs.RunTerms.{IsRunTerm, term_public, term_fresh, term_constant, term_symbol, term_tuple, IsRunRest, rest_last, rest_more, AreRunTerms, terms_last, terms_more}
use Rattle.sap_run_lines.specs.Spellable.{IsWritable, AreWritable}

mutual
  pub spelled : (t : Tree) (z k : List ℕ) → IsRunTerm t z k → IsWritable t
  spelled _ _ _ (term_public c) = c
  spelled _ _ _ (term_fresh n) = n
  spelled _ _ _ (term_constant f) = (λ e. f, tt)
  spelled _ _ _ (term_symbol {ts = ts} f r) = (λ e. f, all_spelled ts _ _ r)
  spelled _ _ _ (term_tuple {t = t} {u = u} r s) = (λ e. let no : true ≡ false = e in absurd cc, (spelled t _ _ r, (rest_spelled u _ _ s, tt)))

  rest_spelled : (t : Tree) (z k : List ℕ) → IsRunRest t z k → IsWritable t
  rest_spelled t _ _ (rest_last r) = spelled t _ _ r
  rest_spelled _ _ _ (rest_more {t = t} {u = u} r s) = (λ e. let no : true ≡ false = e in absurd cc, (spelled t _ _ r, (rest_spelled u _ _ s, tt)))

  all_spelled : (ts : Trees) (z k : List ℕ) → AreRunTerms ts z k → AreWritable ts
  all_spelled _ _ _ (terms_last {t = t} r) = (spelled t _ _ r, tt)
  all_spelled _ _ _ (terms_more {t = t} {ts = ts} r s) = (spelled t _ _ r, all_spelled ts _ _ s)
