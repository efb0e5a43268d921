-- What stands under a symbol, where as much stands there as is asked for.
use Rattle.std.specs.Prelude.{ℕ, List, Bool, true, false, ◌&&◌, Option, Some, None, option_and_then}
use Rattle.std.specs.Str.{bytes_eq}
use Rattle.sap_terms.specs.Same.{same_tree}
use Rattle.sap_terms.specs.Tree.{Tree, apply, Trees, none, more}
use Rattle.sap_terms.specs.Equations.{pair_name, senc_name, aenc_name, pk_name, true_name, app0}

infixl 10 ◌>>=◌
-- the one step, and then the other
abbrev pub ◌>>=◌ : {A B : Type 0} → Option A → (A → Option B) → Option B
o >>= f = option_and_then f o

-- the value, where the test holds
abbrev pub guard : {A : Type 0} → Bool → Option A → Option A
guard true o = o
guard false o = None

-- the tree that stands alone, the two, the three
abbrev pub args1 : Trees → Option Tree
args1 (more a none) = Some a
args1 _ = None

abbrev pub args2 : Trees → Option (Tree × Tree)
args2 (more a (more b none)) = Some (a, b)
args2 _ = None

abbrev pub args3 : Trees → Option (Tree × Tree × Tree)
args3 (more a (more b (more c none))) = Some (a, b, c)
args3 _ = None

-- the arguments of a symbol of this name
abbrev pub under : List ℕ → Tree → Option Trees
under f (apply g ts) = guard (bytes_eq g f) (Some ts)
under f _ = None

-- the two trees under a symbol of this name
abbrev pub parts_under : List ℕ → Tree → Option (Tree × Tree)
parts_under f t = do
  us ← under f t
  args2 us

-- the key whose public key it is
abbrev pub owner_of : Tree → Option Tree
owner_of t = do
  us ← under pk_name t
  args1 us

-- the first of the two trees under a symbol of this name
abbrev pub first_part : List ℕ → Trees → Option Tree
first_part name ts = do
  t ← args1 ts
  p ← parts_under name t
  Some p.0

-- the second part of a pair
abbrev pub second_part : Trees → Option Tree
second_part ts = do
  t ← args1 ts
  p ← parts_under pair_name t
  Some p.1

-- the message that was sealed with this key
abbrev pub opened : Trees → Option Tree
opened ts = do
  p ← args2 ts
  q ← parts_under senc_name p.0
  guard (same_tree q.1 p.1) (Some q.0)

-- the message that was sealed for this key
abbrev pub opened_by_key : Trees → Option Tree
opened_by_key ts = do
  p ← args2 ts
  q ← parts_under aenc_name p.0
  k ← owner_of q.1
  guard (same_tree k p.1) (Some q.0)

-- true, where the signature, which a symbol of this name makes, is of this message by this key
abbrev pub verified : List ℕ → Trees → Option Tree
verified name ts = do
  p ← args3 ts
  q ← parts_under name p.0
  k ← owner_of p.2
  guard (same_tree q.0 p.1 && same_tree q.1 k) (Some (app0 true_name))
