-- Facts that are noted, and what they tell of the next.
use Rattle.std.proofs.Common.{◌≡◌, ℕ, List, [], ◌∷◌, ◌++◌, Bool, false, refl, sym, ap, ◌∙◌, ◌+◌, drop}
use Rattle.std.specs.Prelude.{Some, slice_get}
use Rattle.sap_terms.specs.Tree as tree
use Rattle.sap_terms.specs.Tree.{Tree, Trees, none, more, trees_of}
use Rattle.sap_terms.specs.declared.fact.Fact.{Fact}
use Rattle.sap_terms.proofs.PlainLaws.Lists.{drop_got}
use Rattle.sap_nodes.specs.HeadNodes as node
use Rattle.sap_nodes.specs.HeadNodes.{Node, tree_nodes, trees_nodes, fact_nodes, facts_nodes}
use Rattle.sap_nodes.specs.code.Clashes.{noted_of, noted, noted_all, fact_clashes, fact_noted, clash_met, clash_met_all}
use Rattle.sap_nodes.specs.code.Searches.{visited, after}
use Rattle.sap_nodes.specs.declared.clash.Facts.{Facts}
use Rattle.sap_nodes.specs.declared.clash.Met.{Met}
use Rattle.sap_nodes.specs.declared.finding.Search.{Search}
use Rattle.sap_nodes.specs.declared.part.Part.{Part}
use Rattle.sap_nodes.specs.declared.part.Part.TheVariants.{Pattern, Shown, Given}

pub noted-append : (both : Bool) (m : Met) (fs hs : List Fact) → noted_all both m (fs ++ hs) ≡ noted_all both (noted_all both m fs) hs
noted-append both m [] hs = refl
noted-append both m (f ∷ fs) hs = noted-append both (noted m (noted_of both f)) fs hs

pub ruleset noted_laws = (noted-append)

pub clash-append : (a : Facts) (ms ns : List Node) → clash_met_all a (ms ++ ns) ≡ clash_met_all (clash_met_all a ms) ns
clash-append a [] ns = refl
clash-append a (m ∷ ms) ns = clash-append (clash_met a m) ms ns

abbrev facts_of : Met → Met → Search → Facts
facts_of m h s = record { stored = m; shown = h; search = s }

pub ruleset clash_laws = (clash-append)

-- terms have no facts
abbrev pub passed : Facts → List Node → Facts
passed a ns = record { stored = a.stored; shown = a.shown; search = after (λ (n : Node). false) a.search ns }

mutual
  pub tree_passed : (a : Facts) (part : Part) (t : Tree) → clash_met_all a (tree_nodes part t) ≡ passed a (tree_nodes part t)
  tree_passed a part (tree.variable v) = refl
  tree_passed a part (tree.public n) = refl
  tree_passed a part (tree.fresh k) = refl
  tree_passed a part (tree.apply f ts) = trees_passed (record { stored = a.stored; shown = a.shown; search = visited false a.search }) part ts

  pub trees_passed : (a : Facts) (part : Part) (ts : Trees) → clash_met_all a (trees_nodes part ts) ≡ passed a (trees_nodes part ts)
  trees_passed a part none = refl
  trees_passed a part (more t ts) =
      clash-append a (tree_nodes part t) (trees_nodes part ts) ∙ ap (λ b. clash_met_all b (trees_nodes part ts)) (tree_passed a part t)
      ∙ trees_passed (passed a (tree_nodes part t)) part ts ∙ ap (λ s. record { stored = a.stored; shown = a.shown; search = s }) (sym (append_after a.search (tree_nodes part t) (trees_nodes part ts)))
    where
      append_after : (s : Search) (ms ns : List Node) → after (λ (n : Node). false) s (ms ++ ns) ≡ after (λ (n : Node). false) (after (λ (n : Node). false) s ms) ns
      append_after s [] ns = refl
      append_after s (m ∷ ms) ns = append_after (visited false s) ms ns

pub fact_step : (a : Facts) (part : Part) (fs : List Fact) (k : ℕ) (f : Fact) → slice_get fs k ≡ Some f
    → clash_met_all (clash_met_all a (fact_nodes part f)) (facts_nodes part (drop (k + 1) fs)) ≡ clash_met_all a (facts_nodes part (drop k fs))
fact_step a part fs k f e =
    sym (clash-append a (fact_nodes part f) (facts_nodes part (drop (k + 1) fs))) ∙ sym (ap (λ hs. clash_met_all a (facts_nodes part hs)) (drop_got fs k f e))

kept_search : (a : Facts) (part : Part) (f : Fact) → (fact_noted a part f).search ≡ a.search
kept_search a Shown f = refl
kept_search a Pattern f = refl
kept_search a Given f = refl

-- a fact is noted and visited, and its terms are passed
pub fact_met : (a b : Facts) (part : Part) (f : Fact) (is : Bool) (v r : Search) → b ≡ fact_noted a part f → is ≡ fact_clashes a part f → v ≡ visited is b.search
    → r ≡ after (λ (n : Node). false) v (trees_nodes part (trees_of f.args))
    → record { stored = b.stored; shown = b.shown; search = r } ≡ clash_met_all a (fact_nodes part f)
fact_met a b part f is v r e d h k =
    ap (λ (z : Search). facts_of b.stored b.shown z)
    (k ∙ ap (λ (z : Search). after (λ (n : Node). false) z (trees_nodes part (trees_of f.args))) (h ∙ ap (λ (i : Bool). visited i b.search) d))
    ∙ ap (λ (z : Facts). facts_of z.stored z.shown (after (λ (n : Node). false) (visited (fact_clashes a part f) z.search) (trees_nodes part (trees_of f.args)))) e
    ∙ ap (λ (z : Search). facts_of (fact_noted a part f).stored (fact_noted a part f).shown (after (λ (n : Node). false) (visited (fact_clashes a part f) z) (trees_nodes part (trees_of f.args))))
    (kept_search a part f)
    ∙ sym (trees_passed (clash_met a (node.fact part f)) part (trees_of f.args))
