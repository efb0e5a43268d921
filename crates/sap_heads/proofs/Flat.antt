-- The shapes and numbers of facts with numbers, and the facts that these are seen as.
use Rattle.std.proofs.Common.{◌≡◌, ◌<◌, ℕ, List, [], ◌∷◌, ◌++◌, map, refl, ap, ◌∙◌}
use Rattle.std.proofs.lemmas.List.{map-append}
use Rattle.std.proofs.lemmas.List.Elements.{All-nil, All-cons, All-head, All-tail}
use Rattle.sap_terms.specs.Tree.{Tree}
use Rattle.sap_process.specs.Heads.{facts_terms}
use Rattle.sap_share.specs.Shared.{tree_at, trees_at, AreBelow}
use Rattle.sap_sides.specs.SharedFacts.{fact_seen, AreFactsBelow}
use Rattle.sap_sides.specs.declared.shared_fact.SharedFact.{SharedFact}
use Rattle.sap_heads.specs.code.Rules.{shapes_of, shapes_shared, args_numbers}
use Rattle.sap_heads.proofs.Sided.{length-map}

pub shapes_seen : (ts : List Tree) (ss : List SharedFact) → shapes_of (map (fact_seen ts) ss) ≡ shapes_shared ss
shapes_seen ts [] = refl
shapes_seen ts (s ∷ ss) =
    let count = length-map (tree_at ts) s.args in
    λ i. (s.name, (s.persistent, count i)) ∷ shapes_seen ts ss i

pub args_seen : (ts : List Tree) (ss : List SharedFact) → trees_at ts (args_numbers ss) ≡ facts_terms (map (fact_seen ts) ss)
args_seen ts [] = refl
args_seen ts (s ∷ ss) = map-append (tree_at ts) s.args (args_numbers ss) ∙ ap (λ us. trees_at ts s.args ++ us) (args_seen ts ss)

pub args_below : (n : ℕ) (ss : List SharedFact) → AreFactsBelow n ss → AreBelow n (args_numbers ss)
args_below n [] h = All-nil (λ (k : ℕ). k < n)
args_below n (s ∷ ss) h = both s.args (args_numbers ss) (All-head (λ (s : SharedFact). AreBelow n s.args) s ss h) (args_below n ss (All-tail (λ (s : SharedFact). AreBelow n s.args) s ss h)) where
  both : (ks js : List ℕ) → AreBelow n ks → AreBelow n js → AreBelow n (ks ++ js)
  both [] js h i = i
  both (k ∷ ks) js h i = All-cons (λ (k : ℕ). k < n) k (ks ++ js) (All-head (λ (k : ℕ). k < n) k ks h) (both ks js (All-tail (λ (k : ℕ). k < n) k ks h) i)
