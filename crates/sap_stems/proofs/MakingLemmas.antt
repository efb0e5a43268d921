-- Nodes that are gone through, one list behind another.
use Rattle.std.proofs.Common.{◌≡◌, ◌≤◌, ℕ, zero, suc, ◌+◌, min, true, false, List, [], ◌∷◌, ◌++◌, length, drop, Option, Some, refl, sym, ap, ◌∙◌, arith}
use Rattle.std.specs.Prelude.{if◌then◌else◌, slice_get}
use Rattle.std.specs.Str.{bytes_eq}
use Rattle.sap_terms.specs.Tree.{Tree, trees_of, list_of-trees_of}
use Rattle.sap_terms.specs.declared.fact.Fact.{Fact}
use Rattle.sap_terms.proofs.PlainLaws.Lists.{drop_got}
use Rattle.sap_terms.proofs.PlainLaws.Trees.{item_le-trees_count}
use Rattle.sap_nodes.specs.HeadNodes.{Node, fact_nodes, facts_nodes, tree_nodes, trees_nodes}
use Rattle.sap_nodes.specs.declared.part.Part.{Part}
use Rattle.sap_stems.specs.code.Makings.{after_term, all_put, behind_put, made, made_all, nodes_put, params_at, put_made, puts_made}
use Rattle.sap_stems.specs.declared.making.Making.{Making}
use Rattle.sap_stems.specs.declared.making.Put.{Put}
use Rattle.sap_stems.specs.declared.making.WrittenNode.{WrittenNode}
use Rattle.sap_origin.specs.declared.trail.Use.{Use}
use Rattle.sap_macro.specs.declared.definition.Definition.{Definition}

pub made_append : (ps : List Put) (m : Making) (ns ks : List Node) → made_all ps m (ns ++ ks) ≡ made_all ps (made_all ps m ns) ks
made_append ps m [] ks = refl
made_append ps m (n ∷ ns) ks = made_append ps (made ps m n) ns ks

pub ruleset made_laws = (made_append, list_of-trees_of, item_le-trees_count)

-- one term more, and one fact more
pub term_step : (ps : List Put) (m : Making) (a : Part) (ts : List Tree) (k : ℕ) (t : Tree) → slice_get ts k ≡ Some t
    → made_all ps (made_all ps m (tree_nodes a t)) (trees_nodes a (trees_of (drop (k + 1) ts))) ≡ made_all ps m (trees_nodes a (trees_of (drop k ts)))
term_step ps m a ts k t e =
    sym (made_append ps m (tree_nodes a t) (trees_nodes a (trees_of (drop (k + 1) ts)))) ∙ sym (ap (λ (us : List Tree). made_all ps m (trees_nodes a (trees_of us))) (drop_got ts k t e))

pub fact_step : (ps : List Put) (m : Making) (a : Part) (fs : List Fact) (k : ℕ) (f : Fact) → slice_get fs k ≡ Some f
    → made_all ps (made_all ps m (fact_nodes a f)) (facts_nodes a (drop (k + 1) fs)) ≡ made_all ps m (facts_nodes a (drop k fs))
fact_step ps m a fs k f e =
    sym (made_append ps m (fact_nodes a f) (facts_nodes a (drop (k + 1) fs))) ∙ sym (ap (λ (hs : List Fact). made_all ps m (facts_nodes a hs)) (drop_got fs k f e))

-- ---- arguments for parameters

pub puts_step : (ps : List Put) (w : WrittenNode) (xs : List (List ℕ)) (ts : List Tree) (k : ℕ) (x : List ℕ) (t : Tree) → slice_get xs k ≡ Some x → slice_get ts k ≡ Some t
    → puts_made ps w (drop k xs) (drop k ts) ≡ put_made ps w x t ∷ puts_made ps (after_term ps w t) (drop (k + 1) xs) (drop (k + 1) ts)
puts_step ps w xs ts k x t e h =
    ap (λ (ys : List (List ℕ)). puts_made ps w ys (drop k ts)) (drop_got xs k x e) ∙ ap (λ (us : List Tree). puts_made ps w (x ∷ drop (k + 1) xs) us) (drop_got ts k t h)

no_puts : (ps : List Put) (w : WrittenNode) (xs : List (List ℕ)) → puts_made ps w xs [] ≡ []
no_puts ps w [] = refl
no_puts ps w (x ∷ xs) = refl

none_left : {X : Type 0} (k : ℕ) → ◌≡◌ {A = List X} (drop k []) []
none_left zero = refl
none_left (suc k) = refl

pub puts_end : (ps : List Put) (w : WrittenNode) (xs : List (List ℕ)) (ts : List Tree) (k : ℕ) → min (length xs) (length ts) ≤ k → puts_made ps w (drop k xs) (drop k ts) ≡ []
puts_end ps w [] ts k h = ap (λ (ys : List (List ℕ)). puts_made ps w ys (drop k ts)) (none_left k)
puts_end ps w (x ∷ xs) [] k h = ap (λ (us : List Tree). puts_made ps w (drop k (x ∷ xs)) us) (none_left k) ∙ no_puts ps w (drop k (x ∷ xs))
puts_end ps w (x ∷ xs) (t ∷ ts) zero h = absurd (omega (arith, h))
puts_end ps w (x ∷ xs) (t ∷ ts) (suc k) h = puts_end ps w xs ts k (omega (arith, h))

-- one use more
pub all_step : (ds : List Definition) (ps : List Put) (us : List Use) (k : ℕ) (u : Use) → slice_get us k ≡ Some u
    → all_put ds (behind_put ps k u (params_at ds u.definition)) (k + 1) (drop (k + 1) us) ≡ all_put ds ps k (drop k us)
all_step ds ps us k u e = sym (ap (λ (vs : List Use). all_put ds ps k vs) (drop_got us k u e))

-- ---- one turn more of loops

joined : {X : Type 0} (xs ys zs : List X) → (xs ++ ys) ++ zs ≡ xs ++ (ys ++ zs)
joined [] ys zs = refl
joined (x ∷ xs) ys zs = ap (λ ws. x ∷ ws) (joined xs ys zs)

ends : {X : Type 0} (xs : List X) → xs ≡ xs ++ []
ends [] = refl
ends (x ∷ xs) = ap (λ ws. x ∷ ws) (ends xs)

pub add_step : {X : Type 0} (list new xs whole : List X) (k : ℕ) (x : X) → slice_get xs k ≡ Some x → new ≡ list ++ x ∷ [] → list ++ drop k xs ≡ whole → new ++ drop (k + 1) xs ≡ whole
add_step list new xs whole k x e n h =
    ap (λ ys. ys ++ drop (k + 1) xs) n ∙ joined list (x ∷ []) (drop (k + 1) xs) ∙ ap (λ ys. list ++ ys) (sym (drop_got xs k x e)) ∙ h

nodes_step : (ps : List Put) (x : List ℕ) (k : ℕ) (p : Put) → slice_get ps k ≡ Some p → nodes_put ps x ≡ nodes_put (drop k ps) x → nodes_put ps x ≡ (if bytes_eq p.param x then Some p.nodes else nodes_put (drop (k + 1) ps) x)
nodes_step ps x k p e h = h ∙ ap (λ (qs : List Put). nodes_put qs x) (drop_got ps k p e)

pub put_found : (ps : List Put) (x : List ℕ) (k : ℕ) (p q : Put) → slice_get ps k ≡ Some p → slice_get ps k ≡ Some q → bytes_eq p.param x ≡ true → nodes_put ps x ≡ nodes_put (drop k ps) x
    → Some q.nodes ≡ nodes_put ps x
put_found ps x k p q e g b h =
    let same : ◌≡◌ {A = Option Put} (Some p) (Some q) = sym e ∙ g in
    let is : p ≡ q = cc (same) in
    let found : nodes_put ps x ≡ Some p.nodes = nodes_step ps x k p e h ∙ rw b refl in
    ap (λ (r : Put). Some r.nodes) (sym is) ∙ sym found

pub put_further : (ps : List Put) (x : List ℕ) (k : ℕ) (p : Put) → slice_get ps k ≡ Some p → bytes_eq p.param x ≡ false → nodes_put ps x ≡ nodes_put (drop k ps) x → nodes_put ps x ≡ nodes_put (drop (k + 1) ps) x
put_further ps x k p e b h = nodes_step ps x k p e h ∙ rw b refl

pub puts_next : (ps : List Put) (w v : WrittenNode) (xs : List (List ℕ)) (ts : List Tree) (k : ℕ) (x : List ℕ) (t : Tree) (list new whole : List Put) → slice_get xs k ≡ Some x → slice_get ts k ≡ Some t
    → new ≡ list ++ put_made ps w x t ∷ [] → v ≡ after_term ps w t → list ++ puts_made ps w (drop k xs) (drop k ts) ≡ whole
    → new ++ puts_made ps v (drop (k + 1) xs) (drop (k + 1) ts) ≡ whole
puts_next ps w v xs ts k x t list new whole e g n a h =
    ap (λ (qs : List Put). qs ++ puts_made ps v (drop (k + 1) xs) (drop (k + 1) ts)) n
    ∙ ap (λ (u : WrittenNode). (list ++ put_made ps w x t ∷ []) ++ puts_made ps u (drop (k + 1) xs) (drop (k + 1) ts)) a
    ∙ joined list (put_made ps w x t ∷ []) (puts_made ps (after_term ps w t) (drop (k + 1) xs) (drop (k + 1) ts))
    ∙ ap (λ (qs : List Put). list ++ qs) (sym (puts_step ps w xs ts k x t e g))
    ∙ h

pub puts_done : (ps : List Put) (w : WrittenNode) (xs : List (List ℕ)) (ts : List Tree) (k : ℕ) (list whole : List Put) → min (length xs) (length ts) ≤ k → list ++ puts_made ps w (drop k xs) (drop k ts) ≡ whole
    → list ≡ whole
puts_done ps w xs ts k list whole past h = ends list ∙ ap (λ (qs : List Put). list ++ qs) (sym (puts_end ps w xs ts k past)) ∙ h
