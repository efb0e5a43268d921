-- What the equations make of a symbol on normal forms.
use Rattle.std.proofs.Common.{◌≡◌, ◌<◌, ℕ, ◌+◌, Bool, false, List, [], ◌∷◌, ◌++◌, length, take, sym, subst, ◌∙◌}
use Rattle.std.specs.Prelude.{slice_get, nat_eq, Some, All}
use Rattle.std.specs.Cmp.{unsigned_Decides}
use Rattle.std.specs.Cmp.Lexicographic.{pointwise, pointwise_decides}
use Rattle.std.specs.List.{AllZip}
use Rattle.std.proofs.lemmas.Bool.{false≢true}
use Rattle.std.proofs.lemmas.List.Elements.{All-push, AllZip-push}
use Rattle.sap_terms.proofs.PlainLaws.Lists.{map_got}
use Rattle.sap_terms.specs.Equal.{IsTheoryEqual}
use Rattle.sap_terms.specs.Equations.{Equations, IsInstance, app0, true_name}
use Rattle.sap_terms.specs.Normal.{IsNormal, AreNormal, IsNoLeftSide, IsNormalForm}
use Rattle.sap_terms.specs.Tree.{Tree, apply, trees_of, node_count}
use Rattle.sap_rewrite.specs.Large.{HasLargeForm}
use Rattle.sap_rewrite.specs.Laws.{EqualityIsKept, SymbolsReduceOnce}
use Rattle.sap_share.specs.Shared.{tree_at, trees_at, node_tree, AreBelow, HaveOneNumber}
use Rattle.sap_share.specs.declared.node.Node.{Node}
use Rattle.sap_share.specs.declared.node.Node.TheVariants.{App}
use Rattle.sap_share.proofs.Grown.{nodes_same, tree_at-front, tree_at-last, trees_at-push}

-- the loop over numbers, one further
pub forms_more : (e : Equations) (ts : List Tree) (ks js more : List ℕ) (i k j : ℕ) → slice_get ks i ≡ Some k → AllZip (IsNormalForm e) (trees_at ts (take i ks)) (trees_at ts js) → AreBelow (length ts) js → more ≡ js ++ j ∷ [] → j < length ts → IsNormalForm e (tree_at ts k) (tree_at ts j)
    → AllZip (IsNormalForm e) (trees_at ts (take (i + 1) ks)) (trees_at ts more) × AreBelow (length ts) more
forms_more e ts ks js more i k j at forms below is lt form =
    let P : ℕ → Type 0 = λ k. k < length ts in
    rw (is, map_got (tree_at ts) ks i k at, trees_at-push ts js j) (
      AllZip-push (IsNormalForm e) (trees_at ts (take i ks)) (trees_at ts js) (tree_at ts k) (tree_at ts j) forms form,
      All-push P js j below lt,
    )

-- trees with normal forms are equal to these, and these are normal
forms_equal : (e : Equations) (ts us : List Tree) → AllZip (IsNormalForm e) ts us → AllZip (IsTheoryEqual e) ts us
forms_equal e [] [] h = tt
forms_equal e [] (u ∷ us) h = h
forms_equal e (t ∷ ts) [] h = h
forms_equal e (t ∷ ts) (u ∷ us) h = (h.0.equal, forms_equal e ts us h.1)

forms_normal : (e : Equations) (ts us : List Tree) → AllZip (IsNormalForm e) ts us → AreNormal e (trees_of us)
forms_normal e ts [] h = tt
forms_normal e [] (u ∷ us) h = absurd h
forms_normal e (t ∷ ts) (u ∷ us) h = (h.0.normal, forms_normal e ts us h.1)

-- the normal form of a symbol on normal forms is that of the symbol on the trees
pub form_through : EqualityIsKept → (e : Equations) (f : List ℕ) (ts us : List Tree) (r : Tree) → AllZip (IsNormalForm e) ts us → IsNormalForm e (apply f (trees_of us)) r → IsNormalForm e (apply f (trees_of ts)) r
form_through kept e f ts us r forms form = record {
  equal = kept.onwards e (apply f (trees_of ts)) (apply f (trees_of us)) r (kept.under_symbols e f ts us (forms_equal e ts us forms)) form.equal;
  normal = form.normal;
}

module _ (kept : EqualityIsKept) (reduce : SymbolsReduceOnce) (e : Equations) (f : List ℕ) (ts us : List Tree) (forms : AllZip (IsNormalForm e) ts us) where
  -- where an equation leaves something
  pub form_side : (r : Tree) → IsInstance e (apply f (trees_of us)) r → IsNormalForm e (apply f (trees_of ts)) r
  form_side r h = form_through kept e f ts us r forms (reduce.right_side_is_form e f (trees_of us) r (forms_normal e ts us forms) h)

  -- where none does
  pub form_kept : IsNoLeftSide e (apply f (trees_of us)) → IsNormalForm e (apply f (trees_of ts)) (apply f (trees_of us))
  form_kept h = form_through kept e f ts us (apply f (trees_of us)) forms (reduce.own_form e f (trees_of us) (forms_normal e ts us forms) h)

-- `true` is the left side of nothing, so it isn't what an equation leaves of itself
pub other_truth : SymbolsReduceOnce → (e : Equations) (f : List ℕ) (ts us : List Tree) → AllZip (IsNormalForm e) ts us → IsInstance e (apply f (trees_of us)) (app0 true_name) → app0 true_name ≡ apply f (trees_of ts) → ⊥
other_truth reduce e f [] [] forms i same = (reduce.right_side_is_form e f (trees_of []) (app0 true_name) tt i).normal.0 (app0 true_name) (subst (λ t. IsInstance e t (app0 true_name)) (sym same) i)
other_truth reduce e f (t ∷ ts) us forms i same = cc
other_truth reduce e f [] (u ∷ us) forms i same = absurd forms

-- numbers that are not the same have other trees
pub form_other : (ts : List Tree) (f : List ℕ) (ks js : List ℕ) → HaveOneNumber ts (length ts) → AreBelow (length ts) ks → AreBelow (length ts) js → (b : Bool) → b ≡ false → b ≡ pointwise nat_eq ks js
    → node_tree ts (App f js) ≡ node_tree ts (App f ks) → ⊥
form_other ts f ks js once below forms_below b off test same =
    let nodes : App f js ≡ App f ks = nodes_same ts once (App f js) (App f ks) forms_below below same in
    let numbers : js ≡ ks = cc in
    false≢true (sym off ∙ test ∙ (pointwise_decides unsigned_Decides ks js).1 (sym numbers))

-- a symbol on normal trees that no equation fits has a large form where it is large itself
pub large_own : SymbolsReduceOnce → (e : Equations) (f : List ℕ) (ts : List Tree) (most : ℕ) → All (IsNormal e) ts → IsNoLeftSide e (apply f (trees_of ts)) → most < node_count (apply f (trees_of ts))
    → HasLargeForm e most (apply f (trees_of ts))
large_own reduce e f ts most normal none large = record {
  form = apply f (trees_of ts);
  is_form = reduce.own_form e f (trees_of ts) (reduce.of_lists e ts normal) none;
  large = large;
}

-- a normal tree is its own normal form
pub own_form : EqualityIsKept → (e : Equations) (t : Tree) → IsNormal e t → IsNormalForm e t t
own_form kept e t h = record { equal = kept.itself e t; normal = h }

-- the form of a node that comes next, at an old number or at its own
pub form_at : (e : Equations) (ts : List Tree) (n : Node) (k : ℕ) → k < length ts → IsNormalForm e (node_tree ts n) (tree_at ts k) → IsNormalForm e (node_tree ts n) (tree_at (ts ++ node_tree ts n ∷ []) k)
form_at e ts n k h is = rw (tree_at-front ts (node_tree ts n ∷ []) k h) is

pub ruleset form_laws = (trees_at-push, forms_more)
