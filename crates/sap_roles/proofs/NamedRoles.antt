-- A role is the name of a definition, which has a number, and one only.
use Rattle.std.proofs.Common.{◌≡◌, ℕ, zero, suc, Bool, true, false, List, [], ◌∷◌, map, Option, Some, None, refl, sym, ap, ◌∙◌, subst}
use Rattle.std.specs.Prelude.{⊤, if◌then◌else◌, slice_get}
use Rattle.std.specs.Option.{option_or}
use Rattle.std.specs.Str.{bytes_eq}
use Rattle.std.proofs.lemmas.Slice.Eq.{bytes_eq-Decides}
use Rattle.sap_macro.specs.Located.{Located}
use Rattle.sap_macro.specs.Order.{AreInOrder}
use Rattle.sap_macro.specs.Written.{Definition}
use Rattle.sap_origin.specs.Definitions.{LocatedDefinition, plain_definition}
use Rattle.sap_origin.specs.Meant.{definition_of}
use Rattle.sap_origin.specs.Reached.{Reaches, Standing, reaches_here, reaches_use, reaches_left, reaches_right, reaches_copy, reaches_behind, reaches_then, reaches_else, reaches_found, reaches_missing}
use Rattle.sap_roles.specs.PlacesAlong.{PlaceAt, acts, begins_threads, places_along}
use Rattle.sap_roles.specs.Roles.{IsRoleAt, given}
use Rattle.sap_roles.specs.code.Going.{role_below, role_down}
use Rattle.sap_roles.proofs.OneWay.{role_of_way}
use Rattle.sap_roles.proofs.Ordered.{other_behind}

module _ (ds : List LocatedDefinition) where
  -- a definition has the name, if there is one
  abbrev pub IsDefinedName : Option (List ℕ) → Type 0
  IsDefinedName None = ⊤
  IsDefinedName (Some f) = (d : LocatedDefinition) × (definition_of ds f ≡ Some d)

  abbrev AreInside : List PlaceAt → Type 0
  AreInside [] = ⊤
  AreInside (n ∷ ns) = IsDefinedName n.inside × AreInside ns

  or_defined : (a b : Option (List ℕ)) → IsDefinedName a → IsDefinedName b → IsDefinedName (option_or a b)
  or_defined None b x y = y
  or_defined (Some f) b x y = x

  given_defined : (n : PlaceAt) → IsDefinedName n.inside → IsDefinedName (given n)
  given_defined n x = by (acts n.place)
    where
      by : (t : Bool) → IsDefinedName (if t then n.inside else None)
      by true = x
      by false = tt

  below_defined : (r : Option (List ℕ)) (n : PlaceAt) → IsDefinedName r → IsDefinedName n.inside → IsDefinedName (role_below r n)
  below_defined r n x y = by (begins_threads n.place)
    where
      by : (t : Bool) → IsDefinedName (if t then None else option_or r (given n))
      by true = tt
      by false = or_defined r (given n) x (given_defined n y)

  down_defined : (r : Option (List ℕ)) (ns : List PlaceAt) → IsDefinedName r → AreInside ns → IsDefinedName (role_down r ns)
  down_defined r [] x all = x
  down_defined r (n ∷ []) x all = or_defined r (given n) x (given_defined n all.0)
  down_defined r (n ∷ m ∷ ns) x all = down_defined (role_below r n) (m ∷ ns) (below_defined r n x all.0) all.1

  along_defined : {s z : Standing} {p q : Located} {path : List ℕ} (l : Option (List ℕ)) → IsDefinedName l → (a : Reaches ds s p path z q) → AreInside (places_along l a)
  along_defined l x (reaches_here f) = (x, tt)
  along_defined l x (reaches_use {f = f} {d = d} e g n) = along_defined (Some f) (d, e) n
  along_defined l x (reaches_left n) = (x, along_defined l x n)
  along_defined l x (reaches_right n) = (x, along_defined l x n)
  along_defined l x (reaches_copy n) = (x, along_defined l x n)
  along_defined l x (reaches_behind n) = (x, along_defined l x n)
  along_defined l x (reaches_then n) = (x, along_defined l x n)
  along_defined l x (reaches_else n) = (x, along_defined l x n)
  along_defined l x (reaches_found n) = (x, along_defined l x n)
  along_defined l x (reaches_missing n) = (x, along_defined l x n)

  pub role_defined : {p : Located} {behind : ℕ} {path : List ℕ} {role : Option (List ℕ)} → IsRoleAt ds p behind path role → IsDefinedName role
  role_defined h = subst IsDefinedName (sym (role_of_way h)) (down_defined None (places_along None h.reaches) tt (along_defined None tt h.reaches))

abbrev pub names_of : List LocatedDefinition → List (List ℕ)
names_of ds = map (λ (d : LocatedDefinition). d.name) ds

-- the number of such a definition
pub number_of_name : (ds : List LocatedDefinition) (f : List ℕ) (d : LocatedDefinition) → definition_of ds f ≡ Some d → (k : ℕ) × (slice_get (names_of ds) k ≡ Some f)
number_of_name [] f d e = absurd (cc (e))
number_of_name (c ∷ ds) f d e = by (bytes_eq c.name f) refl e (λ h. number_of_name ds f d h)
  where
    by : (t : Bool) → bytes_eq c.name f ≡ t → (if t then Some c else definition_of ds f) ≡ Some d → (definition_of ds f ≡ Some d → (k : ℕ) × (slice_get (names_of ds) k ≡ Some f))
        → (k : ℕ) × (slice_get (names_of (c ∷ ds)) k ≡ Some f)
    by true is h rest = (zero, ap Some ((bytes_eq-Decides c.name f).0 is))
    by false other h rest = let there = rest h in (suc there.0, there.1)

named_at : (es : List LocatedDefinition) (i : ℕ) (g : List ℕ) → slice_get (names_of es) i ≡ Some g → (d : Definition) × (slice_get (map plain_definition es) i ≡ Some d) × (d.name ≡ g)
named_at [] i g h = absurd (cc (h))
named_at (e ∷ es) zero g h = (plain_definition e, refl, cc (h))
named_at (e ∷ es) (suc i) g h = named_at es i g h

not_behind : (es : List LocatedDefinition) (known : List (List ℕ)) (x : List ℕ) (i : ℕ) (g : List ℕ) → AreInOrder (x ∷ known) (map plain_definition es) → slice_get (names_of es) i ≡ Some g → x ≡ g → ⊥
not_behind es known x i g o h is =
    let there = named_at es i g h in
    let differs : bytes_eq x there.0.name ≡ false = other_behind known x (map plain_definition es) i there.0 o there.1 in
    let same : bytes_eq x there.0.name ≡ true = (bytes_eq-Decides x there.0.name).1 (is ∙ sym there.2) in
    let never : true ≡ false = sym same ∙ differs in
    cc (never)

-- it has one
pub one_number_of_name : (known : List (List ℕ)) (ds : List LocatedDefinition) (f : List ℕ) (j k : ℕ) → AreInOrder known (map plain_definition ds) → slice_get (names_of ds) j ≡ Some f → slice_get (names_of ds) k ≡ Some f → j ≡ k
one_number_of_name known [] f j k order a b = absurd (cc (a))
one_number_of_name known (c ∷ ds) f zero zero order a b = refl
one_number_of_name known (c ∷ ds) f zero (suc k) order a b = absurd (not_behind ds known c.name k f order.1.1 b (cc (a)))
one_number_of_name known (c ∷ ds) f (suc j) zero order a b = absurd (not_behind ds known c.name j f order.1.1 a (cc (b)))
one_number_of_name known (c ∷ ds) f (suc j) (suc k) order a b = ap suc (one_number_of_name (c.name ∷ known) ds f j k order.1.1 a b)
