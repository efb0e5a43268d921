-- The arguments of a symbol, from a list.
use Rattle.std.proofs.Common.{◌≡◌, List, [], ◌∷◌, length, Some, None, refl, arith}
use Rattle.std.specs.Prelude.{slice_get}
use Rattle.sap_terms.specs.Tree.{Tree, trees_of}
use Rattle.sap_parts.specs.Parts.{args1, args2, args3}

pub args1-got : (ts : List Tree) → length ts ≡ 1 → slice_get ts 0 ≡ args1 (trees_of ts)
args1-got [] h = refl
args1-got (t ∷ []) h = refl
args1-got (t ∷ u ∷ us) h = absurd (omega arith)

pub args1-none : (ts : List Tree) → (length ts ≡ 1 → ⊥) → None ≡ args1 (trees_of ts)
args1-none [] h = refl
args1-none (t ∷ []) h = absurd (h refl)
args1-none (t ∷ u ∷ us) h = refl

pub args2-got : (ts : List Tree) (a b : Tree) → length ts ≡ 2 → slice_get ts 0 ≡ Some a → slice_get ts 1 ≡ Some b → Some (a, b) ≡ args2 (trees_of ts)
args2-got [] a b h i j = cc
args2-got (t ∷ []) a b h i j = cc
args2-got (t ∷ u ∷ []) a b h i j = cc
args2-got (t ∷ u ∷ v ∷ vs) a b h i j = absurd (omega arith)

pub args2-none : (ts : List Tree) → (length ts ≡ 2 → ⊥) → None ≡ args2 (trees_of ts)
args2-none [] h = refl
args2-none (t ∷ []) h = refl
args2-none (t ∷ u ∷ []) h = absurd (h refl)
args2-none (t ∷ u ∷ v ∷ vs) h = refl

pub args3-got : (ts : List Tree) (a b c : Tree) → length ts ≡ 3 → slice_get ts 0 ≡ Some a → slice_get ts 1 ≡ Some b → slice_get ts 2 ≡ Some c → Some (a, b, c) ≡ args3 (trees_of ts)
args3-got [] a b c h i j k = cc
args3-got (t ∷ []) a b c h i j k = cc
args3-got (t ∷ u ∷ []) a b c h i j k = cc
args3-got (t ∷ u ∷ v ∷ []) a b c h i j k = cc
args3-got (t ∷ u ∷ v ∷ w ∷ ws) a b c h i j k = absurd (omega arith)

pub args3-none : (ts : List Tree) → (length ts ≡ 3 → ⊥) → None ≡ args3 (trees_of ts)
args3-none [] h = refl
args3-none (t ∷ []) h = refl
args3-none (t ∷ u ∷ []) h = refl
args3-none (t ∷ u ∷ v ∷ []) h = absurd (h refl)
args3-none (t ∷ u ∷ v ∷ w ∷ ws) h = refl
