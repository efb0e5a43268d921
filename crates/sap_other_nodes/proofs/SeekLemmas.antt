-- Walks through nodes, and what they find.
use Rattle.std.proofs.Common.{◌≡◌, ℕ, ◌+◌, ◌<◌, List, [], ◌∷◌, ◌++◌, Some, length, get_or, drop, refl, sym, ap, ◌∙◌}
use Rattle.std.specs.Prelude.{slice_get}
use Rattle.std.proofs.lemmas.Option.{slice_get_read}
use Rattle.sap_terms.specs.Tree.{Tree, trees_of, list_of-trees_of}
use Rattle.sap_terms.specs.declared.fact.Fact.{Fact}
use Rattle.sap_terms.proofs.PlainLaws.Lists.{drop_got}
use Rattle.sap_terms.proofs.PlainLaws.Trees.{item_le-trees_count}
use Rattle.sap_nodes.specs.HeadNodes.{Node, tree_nodes, trees_nodes, fact_nodes, facts_nodes}
use Rattle.sap_nodes.specs.declared.part.Part.{Part}
use Rattle.sap_other_nodes.specs.code.Seeks.{after, visited}
use Rattle.sap_other_nodes.specs.declared.seek.Seek.{Seek}
use Rattle.sap_other_nodes.specs.declared.seek.Wanted.{Wanted}

pub after_append : (w : Wanted) (a : Seek) (ms ns : List Node) → after w a (ms ++ ns) ≡ after w (after w a ms) ns
after_append w a [] ns = refl
after_append w a (m ∷ ms) ns = after_append w (visited w a m) ms ns

pub ruleset seek_laws = (after_append, list_of-trees_of, item_le-trees_count)

-- one term more, and one fact more
pub term_step : (w : Wanted) (a : Seek) (part : Part) (ts : List Tree) (k : ℕ) (t : Tree) → slice_get ts k ≡ Some t
    → after w (after w a (tree_nodes part t)) (trees_nodes part (trees_of (drop (k + 1) ts))) ≡ after w a (trees_nodes part (trees_of (drop k ts)))
term_step w a part ts k t e =
    sym (after_append w a (tree_nodes part t) (trees_nodes part (trees_of (drop (k + 1) ts))))
    ∙ sym (ap (λ us. after w a (trees_nodes part (trees_of us))) (drop_got ts k t e))

pub fact_step : (w : Wanted) (a : Seek) (part : Part) (fs : List Fact) (k : ℕ) (f : Fact) → slice_get fs k ≡ Some f
    → after w (after w a (fact_nodes part f)) (facts_nodes part (drop (k + 1) fs)) ≡ after w a (facts_nodes part (drop k fs))
fact_step w a part fs k f e =
    sym (after_append w a (fact_nodes part f) (facts_nodes part (drop (k + 1) fs))) ∙ sym (ap (λ hs. after w a (facts_nodes part hs)) (drop_got fs k f e))

-- the item of a loop
pub item_got : {X : Type 0} (xs : List X) (k : ℕ) (x : X) → k < length xs → x ≡ get_or xs k x → slice_get xs k ≡ Some x
item_got xs k x l e = slice_get_read xs (length xs) k x refl l e
