-- Which lines are possible and what they give, and what is found of goals, by hand.
use Rattle.std.specs.Prelude.{ℕ, true, codes, List, [], ◌∷◌}
use Rattle.sap_terms.specs.Signature.{Sig, public_symbol, no_builtins}
use Rattle.sap_terms.specs.Equations.{app2, pair_name, fst_name, snd_name, senc_name, sdec_name}
use Rattle.sap_terms.specs.Tree.{Tree, public, fresh}
use Rattle.sap_derive.specs.Found.{IsFound}
use Rattle.sap_derive.specs.Lines.{Give}
use Rattle.sap_derive.specs.declared.derivation.Derivation.{Derivation}
use Rattle.sap_derive.specs.declared.line.Line.{Line}
use Rattle.sap_derive.specs.declared.line.Line.TheVariants.{Public, Apply}

-- pairs, symmetric encryption, and a private symbol q on one term
abbrev pub signature : Sig
signature = record {
  symbols = public_symbol pair_name 2 ∷ public_symbol fst_name 1 ∷ public_symbol snd_name 1
      ∷ public_symbol senc_name 2 ∷ public_symbol sdec_name 2
      ∷ record { name = codes "q"; arity = 1; private = true } ∷ [];
  builtins = record no_builtins { symmetric = true };
}

-- 'a', 'b', and senc(~1,~2)
abbrev pub term_a : Tree
term_a = public (codes "a")

abbrev pub term_b : Tree
term_b = public (codes "b")

abbrev pub secret : Tree
secret = app2 senc_name (fresh 1) (fresh 2)

-- what is encrypted is opened with its key and with no other; symbols stand on their entries in order, on as many as they take,
-- and on none behind them; private ones aren't applied
pub record LinesByHand : Type 0 where
  pub opened : Give signature (secret ∷ fresh 2 ∷ []) (Apply sdec_name (0 ∷ 1 ∷ []) ∷ []) (fresh 1 ∷ [])
  pub paired : Give signature [] (Public (codes "a") ∷ Public (codes "b") ∷ Apply pair_name (1 ∷ 0 ∷ []) ∷ [])
      (term_a ∷ term_b ∷ app2 pair_name term_b term_a ∷ [])
  pub wrong_key : Give signature (secret ∷ fresh 3 ∷ []) (Apply sdec_name (0 ∷ 1 ∷ []) ∷ []) (fresh 1 ∷ []) → ⊥
  pub turned : Give signature (term_a ∷ term_b ∷ []) (Apply pair_name (1 ∷ 0 ∷ []) ∷ [])
      (app2 pair_name term_a term_b ∷ []) → ⊥
  pub behind : (us : List Tree) → Give signature (term_a ∷ []) (Apply pair_name (0 ∷ 1 ∷ []) ∷ []) us → ⊥
  pub too_few : (us : List Tree) → Give signature (term_a ∷ []) (Apply pair_name (0 ∷ []) ∷ []) us → ⊥
  pub private_symbol : (us : List Tree) → Give signature (term_a ∷ []) (Apply (codes "q") (0 ∷ []) ∷ []) us → ⊥
  pub unwritten : (us : List Tree) → Give signature [] (Public (codes "a") ∷ []) (term_b ∷ us) → ⊥

-- lines, and the number of an entry
abbrev pub by_lines : List Line → ℕ → Derivation
by_lines ls k = record { lines = ls; entry = k }

-- a goal is found where the entry that is cited is it; no line gives a term twice, an entry, or one that stands in none and not
-- in the goal
pub record FoundByHand : Type 0 where
  pub written : IsFound signature [] term_a (by_lines (Public (codes "a") ∷ []) 0)
  pub first_entry : IsFound signature (term_a ∷ term_b ∷ term_a ∷ []) term_a (by_lines [] 0)
  pub last_entry : IsFound signature (term_a ∷ term_b ∷ term_a ∷ []) term_a (by_lines [] 2)
  pub opened : IsFound signature (secret ∷ fresh 2 ∷ []) (fresh 1) (by_lines (Apply sdec_name (0 ∷ 1 ∷ []) ∷ []) 2)
  pub other_entry : IsFound signature (term_a ∷ term_b ∷ term_a ∷ []) term_a (by_lines [] 1) → ⊥
  pub no_entry : IsFound signature (term_a ∷ []) term_a (by_lines [] 1) → ⊥
  pub twice : IsFound signature [] term_a (by_lines (Public (codes "a") ∷ Public (codes "a") ∷ []) 0) → ⊥
  pub again : IsFound signature (term_a ∷ []) term_a (by_lines (Public (codes "a") ∷ []) 0) → ⊥
  pub far : IsFound signature (term_a ∷ []) term_a (by_lines (Public (codes "b") ∷ []) 0) → ⊥
