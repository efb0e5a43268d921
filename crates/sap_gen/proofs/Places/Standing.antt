-- Where places stand, and what state facts are called.
use Rattle.std.proofs.Common.{◌≡◌, ℕ, ◌+◌, ◌-◌, List, [], ◌∷◌, ◌++◌, Option, Some, None, true, refl, ap, ◌∙◌, arith}
use Rattle.std.proofs.lemmas.Option.{same_Some}
use Rattle.std.proofs.lemmas.Slice.Eq.{bytes_eq-Decides}
use Rattle.std.specs.Str.{bytes_eq}
use Rattle.sap_process.specs.Places.{Descent, Place, place_below, place_from}
use Rattle.sap_process.specs.Proc.{Proc}
use Rattle.sap_place.specs.StateFacts.{digits}
use Rattle.sap_templates.specs.Places.{ScopedPlace, child, root, scope_handed_down, scoped_place_at}
use Rattle.sap_translate.specs.relation.Names.{state_name}
use Rattle.sap_gen.specs.code.SettledPlaces.{path_of, undo}

from_here : {S : Type 0} (d : Descent S) (o : Option (Place S)) → place_from d o [] ≡ o
from_here d None = refl
from_here d (Some a) = refl

-- one step further
one_further : {S : Type 0} (d : Descent S) (o : Option (Place S)) (path : List ℕ) (e : ℕ) (a : Place S) → place_from d o path ≡ Some a → place_from d o (path ++ e ∷ []) ≡ place_below d a e
one_further d None path e a h = cc
one_further d (Some b) [] e a h = from_here d (place_below d b e) ∙ ap (λ x. place_below d x e) (same_Some b a h)
one_further d (Some b) (x ∷ path) e a h = one_further d (place_below d b x) path e a h

-- a child of a place stands below it
pub child_stands : (p : Proc) (path : List ℕ) (e : ℕ) (a b : ScopedPlace) → scoped_place_at (root p) path ≡ Some a → child a e ≡ Some b → scoped_place_at (root p) (path ++ e ∷ []) ≡ Some b
child_stands p path e a b h k = one_further scope_handed_down (root p) path e a h ∙ k

-- digits tell the path
undo_digits : (path : List ℕ) → undo (digits path) ≡ path
undo_digits [] = refl
undo_digits (d ∷ path) = let one : 48 + d - 48 ≡ d = omega arith in λ i. one i ∷ undo_digits path i

-- the name of a state fact tells its path
pub path_told : (path : List ℕ) → path_of (state_name path) ≡ path
path_told path = undo_digits path

pub same_name : (n m : List ℕ) → n ≡ m → bytes_eq n m ≡ true
same_name n m e = (bytes_eq-Decides n m).1 e
