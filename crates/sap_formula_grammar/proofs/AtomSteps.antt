-- What stands behind the first part of a formula without parts.
use Rattle.std.proofs.Common.{◌≡◌, ℕ, List, Bool, true, false, drop, Some, None, refl}
use Rattle.std.specs.Prelude.{codes, if◌then◌else◌}
use Rattle.sap_terms.specs.declared.fact.Fact.{Fact}
use Rattle.sap_terms.specs.Tree.{Tree}
use Rattle.sap_terms.specs.Signature.{Sig}
use Rattle.sap_formula.specs.Form.{action, equal}
use Rattle.sap_grammar.specs.declared.limits.Limits.{Limits}
use Rattle.sap_grammar.specs.Words.{Word, starts}
use Rattle.sap_grammar.specs.Reading.{Reader, after, past}
use Rattle.sap_grammar.specs.TermReading.{short_term, short_fact}
use Rattle.sap_formula_grammar.specs.FormulaReading.{time, placed, equation}

-- what is read behind a mark goes on as it would with the mark in front
after_past : {A B : Type 0} (m : List ℕ) (ws : List Word) (k : Reader A) (h : A → Reader B) → past m ws (λ r. after (k r) h) ≡ after (past m ws k) h
unfolding after past
after_past m ws k h = by_mark (starts m ws)
  where
    by_mark : (b : Bool) → (if b then after (k (drop 1 ws)) h else None) ≡ after (if b then k (drop 1 ws) else None) h
    by_mark true = refl
    by_mark false = refl

pub equation_behind : (g : Sig) (m : Limits) (ws r : List Word) (t : Tree) → short_term g m ws ≡ Some (t, r)
    → equation g m ws ≡ after (past (codes "=") r (short_term g m)) (λ u z. Some (equal t u, z))
unfolding after
equation_behind g m ws r t e = rw e (after_past (codes "=") r (short_term g m) (λ u z. Some (equal t u, z)))

pub placed_behind : (g : Sig) (m : Limits) (ws r : List Word) (f : Fact) → short_fact g m false ws ≡ Some (f, r)
    → placed g m ws ≡ after (past (codes "@") r time) (λ i z. Some (action f i, z))
unfolding after
placed_behind g m ws r f e = rw e (after_past (codes "@") r time (λ i z. Some (action f i, z)))
