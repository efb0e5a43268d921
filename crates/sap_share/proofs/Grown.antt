-- One node more.
use Rattle.std.proofs.Common.{◌≡◌, ◌<◌, ◌≤◌, ℕ, zero, suc, List, [], ◌∷◌, ◌++◌, length, Option, Some, None, refl, sym, ap, ◌∙◌, arith, ◌⊎◌, inl, inr}
use Rattle.std.specs.Prelude.{slice_get, Contains, IfNone, Result, Ok, Err, IsOk, IfOk, OnOk}
use Rattle.std.proofs.lemmas.List.{get_or_append_left, length_push, length-map, map_push}
use Rattle.std.proofs.lemmas.Bool.{cases_eq}
use Rattle.std.proofs.lemmas.Option.{slice_get_within, slice_get-get_or, get_or_from_slice_get}
use Rattle.std.proofs.Math.Seq.{get_or-append_seam}
use Rattle.std.proofs.lemmas.List.Elements.{All-head, All-tail}
use Rattle.sap_terms.proofs.PlainLaws.Items.{got_contained}
use Rattle.sap_terms.specs.Ground.{IsGround, AreGround}
use Rattle.sap_terms.specs.Message.{IsOver, AreOver}
use Rattle.sap_terms.specs.Signature.{Sig}
use Rattle.sap_terms.specs.Tree.{Tree, fresh, apply, trees_of, list_of, list_of-trees_of}
use Rattle.sap_share.specs.Shared.{tree_at, trees_at, node_tree, AreBelow, StandsBelow, IsHeld, HaveOneNumber}
use Rattle.sap_share.specs.code.Inside.{IsTable, IsNew}
use Rattle.sap_share.specs.declared.node.Node.{Node}
use Rattle.sap_share.specs.declared.node.Node.TheVariants.{Public, Fresh, App}

-- earlier numbers keep their trees
pub tree_at-front : (ts us : List Tree) (k : ℕ) → k < length ts → tree_at (ts ++ us) k ≡ tree_at ts k
tree_at-front ts us k h = get_or_append_left ts us (fresh 0) k h

pub tree_at-last : (ts : List Tree) (t : Tree) → tree_at (ts ++ t ∷ []) (length ts) ≡ t
tree_at-last ts t = get_or-append_seam ts t [] (fresh 0)

pub trees_at-front : (ts us : List Tree) (ks : List ℕ) → AreBelow (length ts) ks → trees_at (ts ++ us) ks ≡ trees_at ts ks
trees_at-front ts us [] h = refl
trees_at-front ts us (k ∷ ks) h =
    let P : ℕ → Type 0 = λ j. j < length ts in
    λ i. tree_at-front ts us k (All-head P k ks h) i ∷ trees_at-front ts us ks (All-tail P k ks h) i

pub node_tree-front : (ts us : List Tree) (n : Node) → StandsBelow (length ts) n → node_tree (ts ++ us) n ≡ node_tree ts n
node_tree-front ts us (Public n) h = refl
node_tree-front ts us (Fresh k) h = refl
node_tree-front ts us (App f ks) h = ap (λ vs. apply f (trees_of vs)) (trees_at-front ts us ks h)

-- a symbol stands on as many trees as numbers
args_count : (ts : List Tree) (ks : List ℕ) → length (list_of (trees_of (trees_at ts ks))) ≡ length ks
args_count ts ks = ap length (list_of-trees_of (trees_at ts ks)) ∙ length-map ks (tree_at ts)

-- a node over ground trees is ground
pub node_ground : (ts : List Tree) → ((k : ℕ) → k < length ts → IsGround (tree_at ts k)) → (n : Node) → StandsBelow (length ts) n → IsGround (node_tree ts n)
node_ground ts g (Public a) h = tt
node_ground ts g (Fresh k) h = tt
node_ground ts g (App f ks) h = all ks h where
  all : (ks : List ℕ) → AreBelow (length ts) ks → AreGround (trees_of (trees_at ts ks))
  all [] h = tt
  all (k ∷ ks) h =
      let P : ℕ → Type 0 = λ j. j < length ts in
      (g k (All-head P k ks h), all ks (All-tail P k ks h))

-- a node over trees over the signature is over it, where its symbol is held
pub node_over : (g : Sig) (ts : List Tree) → ((k : ℕ) → k < length ts → IsOver g (tree_at ts k)) → (n : Node) → StandsBelow (length ts) n → IsHeld g n → IsOver g (node_tree ts n)
node_over g ts o (Public a) h i = tt
node_over g ts o (Fresh k) h i = tt
node_over g ts o (App f ks) h i = (i ∙ ap Some (sym (args_count ts ks)), all ks h) where
  all : (ks : List ℕ) → AreBelow (length ts) ks → AreOver g (trees_of (trees_at ts ks))
  all [] h = tt
  all (k ∷ ks) h =
      let P : ℕ → Type 0 = λ j. j < length ts in
      (o k (All-head P k ks h), all ks (All-tail P k ks h))

-- the symbol of a node over the signature is held
pub over_held : (g : Sig) (ts : List Tree) (n : Node) → IsOver g (node_tree ts n) → IsHeld g n
over_held g ts (Public a) h = tt
over_held g ts (Fresh k) h = tt
over_held g ts (App f ks) h = h.0 ∙ ap Some (args_count ts ks)

-- the trees of one number more
pub trees_at-push : (ts : List Tree) (ks : List ℕ) (k : ℕ) → trees_at ts (ks ++ k ∷ []) ≡ trees_at ts ks ++ tree_at ts k ∷ []
trees_at-push ts ks k = map_push (tree_at ts) ks k

-- numbers below a count are below a greater one
pub AreBelow-up : (m n : ℕ) (ks : List ℕ) → m ≤ n → AreBelow m ks → AreBelow n ks
AreBelow-up m n ks le h = λ k d lt. let b = h k d lt in omega (arith, b, le)

pub StandsBelow-up : (m n : ℕ) (x : Node) → m ≤ n → StandsBelow m x → StandsBelow n x
StandsBelow-up m n (Public a) le h = tt
StandsBelow-up m n (Fresh k) le h = tt
StandsBelow-up m n (App f ks) le h = AreBelow-up m n ks le h

-- what stands in a list with one item more
pub got_push : {X : Type 0} (xs : List X) (y : X) (k : ℕ) (z : X) → slice_get (xs ++ y ∷ []) k ≡ Some z → (slice_get xs k ≡ Some z) ⊎ ((k ≡ length xs) × (z ≡ y))
got_push [] y zero z h = inr (refl, (let e : y ≡ z = cc in sym e))
got_push [] y (suc k) z h = cc
got_push (x ∷ xs) y zero z h = inl h
got_push (x ∷ xs) y (suc k) z h = elim (got_push xs y k z h) [ inl p ↦ inl p | inr q ↦ inr (ap suc q.0, q.1) ]

-- a number below a list with one item more
pub below_push : {X : Type 0} (xs : List X) (y : X) (k : ℕ) → k < length (xs ++ y ∷ []) → (k < length xs) ⊎ (k ≡ length xs)
below_push xs y k h = elim (cases_eq k (length xs)) [ inl e ↦ inr e | inr n ↦ inl (let l = length_push xs y in omega (arith, l, h, n)) ]

module _ (ts : List Tree) (once : HaveOneNumber ts (length ts)) where
  -- numbers of the same trees are the same
  numbers_same : (ks js : List ℕ) → AreBelow (length ts) ks → AreBelow (length ts) js → trees_at ts ks ≡ trees_at ts js → ks ≡ js
  numbers_same [] [] a b e = refl
  numbers_same [] (j ∷ js) a b e = cc
  numbers_same (k ∷ ks) [] a b e = cc
  numbers_same (k ∷ ks) (j ∷ js) a b e =
      let P : ℕ → Type 0 = λ i. i < length ts in
      let p : tree_at ts k ≡ tree_at ts j = cc in
      let q : trees_at ts ks ≡ trees_at ts js = cc in
      let head = once k j (All-head P k ks a) (All-head P j js b) p in
      let tail = numbers_same ks js (All-tail P k ks a) (All-tail P j js b) q in
      λ i. head i ∷ tail i

  -- nodes of the same tree are the same
  pub nodes_same : (m n : Node) → StandsBelow (length ts) m → StandsBelow (length ts) n → node_tree ts m ≡ node_tree ts n → m ≡ n
  nodes_same (Public a) (Public b) h i e = let p : a ≡ b = cc in ap Public p
  nodes_same (Public a) (Fresh k) h i e = cc
  nodes_same (Public a) (App f ks) h i e = cc
  nodes_same (Fresh k) (Public a) h i e = cc
  nodes_same (Fresh k) (Fresh j) h i e = let p : k ≡ j = cc in ap Fresh p
  nodes_same (Fresh k) (App f ks) h i e = cc
  nodes_same (App f ks) (Public a) h i e = cc
  nodes_same (App f ks) (Fresh j) h i e = cc
  nodes_same (App f ks) (App g js) h i e =
      let p : f ≡ g = cc in
      let q : trees_of (trees_at ts ks) ≡ trees_of (trees_at ts js) = cc in
      let r : trees_at ts ks ≡ trees_at ts js = sym (list_of-trees_of (trees_at ts ks)) ∙ ap list_of q ∙ list_of-trees_of (trees_at ts js) in
      let s = numbers_same ks js h i r in
      λ j. App (p j) (s j)

module _ (g : Sig) (ns : List Node) (ts : List Tree) (fs ss : List ℕ) (it : IsTable g ns ts fs ss) where
  -- the node of a number
  node_at : (k : ℕ) → k < length ts → (n : Node) × (slice_get ns k ≡ Some n)
  node_at k h = at ns k (let c = it.trees_count in omega (arith, c, h)) where
    at : (xs : List Node) (k : ℕ) → k < length xs → (n : Node) × (slice_get xs k ≡ Some n)
    at [] k h = absurd (omega arith)
    at (x ∷ xs) zero h = (x, refl)
    at (x ∷ xs) (suc k) h = at xs k (omega arith)

  pub got_below : (k : ℕ) (n : Node) → slice_get ns k ≡ Some n → k < length ts
  got_below k n h = let w = slice_get_within ns k n h in let c = it.trees_count in omega (arith, w, c)

  pub got_stands : (k : ℕ) (n : Node) → slice_get ns k ≡ Some n → StandsBelow (length ts) n
  got_stands k n h = let b = got_below k n h in StandsBelow-up k (length ts) n (omega (arith, b)) (it.below k n h)

  -- a node with no number has a tree with no number
  pub new_tree : (n : Node) → StandsBelow (length ts) n → (Contains ns n → ⊥) → IsNew ts n
  new_tree n below new k h e =
      let m = node_at k h in
      let same = nodes_same ts it.once m.0 n (got_stands k m.0 m.1) below (sym (it.trees k m.0 m.1) ∙ e) in
      let stands : slice_get ns k ≡ Some n = m.1 ∙ ap Some same in
      new (k, slice_get_within ns k n stands, get_or_from_slice_get ns k n n stands)

  pub new_node : (n : Node) → IsNew ts n → Contains ns n → ⊥
  new_node n new (k, lt, e) =
      let stands : slice_get ns k ≡ Some n = slice_get-get_or ns k n lt ∙ ap Some e in
      new k (got_below k n stands) (it.trees k n stands)

  -- nor is it there after a node of another tree
  pub new_after : (m n : Node) → IsNew ts n → (node_tree ts m ≡ node_tree ts n → ⊥) → Contains (ns ++ m ∷ []) n → ⊥
  new_after m n new other there =
      let at = got_contained (ns ++ m ∷ []) n there in
      elim (got_push ns m at.0 n at.1) [
        | inl p ↦ new at.0 (got_below at.0 n p) (it.trees at.0 n p)
        | inr q ↦ other (ap (node_tree ts) (sym q.1))
      ]

-- what follows where there is no value
pub IfNone_then : {X : Type 0} (o : Option X) {P Q : Type 0} → IfNone o P → (P → Q) → IfNone o Q
IfNone_then None h f = f h
IfNone_then (Some x) h f = h

-- what is said of an Ok, where there is one
pub IfOk_given : {X E : Type 0} (r : Result X E) {P : Type 0} → IsOk r → IfOk r (λ _. P) → P
IfOk_given (Ok x) ok h = h
IfOk_given (Err e) ok h = cc

pub if_ok : {T E : Type 0} {P Q : T → Type 0} (r : Result T E) → ((x : T) → P x → Q x) → IfOk r P → IfOk r Q
if_ok (Ok x) f h = f x h
if_ok (Err e) f h = h

pub both_ok : {T E R : Type 0} {P Q : T → Type 0} (r : Result T E) → ((x : T) → P x → Q x → R) → IfOk r P → IfOk r Q → OnOk r R
both_ok (Ok x) f p q = f x p q
both_ok (Err e) f p q = tt
