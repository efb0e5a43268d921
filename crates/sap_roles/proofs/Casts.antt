-- A file has one cast.
use Rattle.std.proofs.Common.{◌≡◌, ◌<◌, ℕ, zero, suc, List, [], ◌∷◌, Option, Some, None, length, map, refl, sym, ap, ◌∙◌, subst, arith}
use Rattle.std.specs.Prelude.{IfSome, MatchOption, option_map, slice_get, slice_index_or}
use Rattle.std.proofs.lemmas.Option.{slice_get-map, slice_get_within}
use Rattle.sap_process.specs.Proc.{Proc}
use Rattle.sap_macro.specs.Indexed.{IsIndex, defined}
use Rattle.sap_macro.specs.Located.{Located}
use Rattle.sap_macro.specs.Order.{AreInOrder}
use Rattle.sap_macro.specs.Sources.{definition_of, definitions}
use Rattle.sap_macro.specs.Written.{Definition}
use Rattle.sap_macro.specs.declared.definition.Definition as code
use Rattle.sap_origin.specs.Definitions.{LocatedDefinition, located_definitions, plain_definition}
use Rattle.sap_origin.specs.Origins.{start}
use Rattle.sap_origin.specs.Reached.{Reaches, Standing, process_at}
use Rattle.sap_players.specs.Casts.{Cast}
use Rattle.sap_roles.specs.Casts.{IsCastOf}
use Rattle.sap_roles.specs.Roles.{IsRoleAt}
use Rattle.sap_roles.proofs.NamedRoles.{IsDefinedName, names_of, number_of_name, one_number_of_name, role_defined}
use Rattle.sap_roles.proofs.OneWay.{one_role}

some_is : {x y : List ℕ} → ◌≡◌ {A = Option (List ℕ)} (Some x) (Some y) → x ≡ y
some_is h = cc (h)

number_is : {x y : ℕ} → ◌≡◌ {A = Option ℕ} (Some x) (Some y) → x ≡ y
number_is h = cc (h)

module _ (ds : List LocatedDefinition) (p : Located) (behind : ℕ) where
  -- the number of a role
  numbered : (o : Option (List ℕ)) → IsDefinedName ds o → Option ℕ
  numbered None d = None
  numbered (Some f) d = Some (number_of_name ds f d.0 d.1).0

  number_named : (o : Option (List ℕ)) (d : IsDefinedName ds o) (k : ℕ) → numbered o d ≡ Some k → (f : List ℕ) × (slice_get (names_of ds) k ≡ Some f) × (o ≡ Some f)
  unfolding numbered
  number_named None d k e = absurd (cc (e))
  number_named (Some f) d k e = (f, subst (λ (j : ℕ). slice_get (names_of ds) j ≡ Some f) (number_is e) (number_of_name ds f d.0 d.1).1, refl)

  no_number : (o : Option (List ℕ)) (d : IsDefinedName ds o) → numbered o d ≡ None → o ≡ None
  unfolding numbered
  no_number None d e = refl
  no_number (Some f) d e = absurd (cc (e))

  -- along each path along which there is a place there is a role, or none; and along others no one comes
  module _ (whole : Proc) (found : (path : List ℕ) (y : Proc) → process_at whole path ≡ Some y → (role : Option (List ℕ)) × IsRoleAt ds p behind path role)
      (only : (path : List ℕ) (z : Standing) (q : Located) → Reaches ds (start behind) p path z q → (y : Proc) × (process_at whole path ≡ Some y)) where
    number_by : (path : List ℕ) (o : Option Proc) → process_at whole path ≡ o → Option ℕ
    number_by path None e = None
    number_by path (Some y) e = let there = found path y e in numbered there.0 (role_defined ds there.1)

    some_by : (path : List ℕ) (o : Option Proc) (e : process_at whole path ≡ o) (k : ℕ) → number_by path o e ≡ Some k → (f : List ℕ) × (slice_get (names_of ds) k ≡ Some f) × IsRoleAt ds p behind path (Some f)
    unfolding number_by
    some_by path None e k h = absurd (cc (h))
    some_by path (Some y) e k h =
        let there = found path y e in
        let is = number_named there.0 (role_defined ds there.1) k h in
        (is.0, is.1, subst (λ (o : Option (List ℕ)). IsRoleAt ds p behind path o) is.2 there.1)

    none_by : (path : List ℕ) (o : Option Proc) (e : process_at whole path ≡ o) (f : List ℕ) → number_by path o e ≡ None → IsRoleAt ds p behind path (Some f) → ⊥
    unfolding number_by
    none_by path None e f h role =
        let there = only path role.standing role.place role.reaches in
        let never : ◌≡◌ {A = Option Proc} (Some there.0) None = sym there.1 ∙ e in
        cc (never)
    none_by path (Some y) e f h role =
        let there = found path y e in
        let none : there.0 ≡ None = no_number there.0 (role_defined ds there.1) h in
        let never : ◌≡◌ {A = Option (List ℕ)} None (Some f) = sym none ∙ one_role there.1 role in
        cc (never)

    pub some_cast : (cast : Cast) × IsCastOf ds p behind cast
    unfolding number_by
    some_cast = (
      record { names = names_of ds; at = λ path. number_by path (process_at whole path) refl },
      record {
        names_are = refl;
        some = λ path k h. some_by path (process_at whole path) refl k h;
        none = λ path f h role. none_by path (process_at whole path) refl f h role;
      },
    )

  module _ (order : AreInOrder [] (map plain_definition ds)) where
    -- this number is the one that a cast has there
    pub same_number : (cast : Cast) → IsCastOf ds p behind cast → (path : List ℕ) (k : ℕ) (f : List ℕ) → slice_get (names_of ds) k ≡ Some f → IsRoleAt ds p behind path (Some f) → cast.at path ≡ Some k
    same_number cast is path k f at role = by (cast.at path) refl
      where
        by : (o : Option ℕ) → cast.at path ≡ o → o ≡ Some k
        by None e = absurd (is.none path f e role)
        by (Some j) e =
            let there = is.some path j e in
            let name : there.0 ≡ f = some_is (one_role there.2 role) in
            let named : slice_get (names_of ds) j ≡ Some f = subst (λ (ns : List (List ℕ)). slice_get ns j ≡ Some f) is.names_are (there.1 ∙ ap Some name) in
            ap Some (one_number_of_name [] ds f j k order named at)

    -- and there is none where no one has a role
    pub none_there : (cast : Cast) → IsCastOf ds p behind cast → (path : List ℕ) → ((f : List ℕ) → IsRoleAt ds p behind path (Some f) → ⊥) → cast.at path ≡ None
    none_there cast is path none = by (cast.at path) refl
      where
        by : (o : Option ℕ) → cast.at path ≡ o → o ≡ None
        by None e = refl
        by (Some j) e = let there = is.some path j e in absurd (none there.0 there.2)

    same_at : (a b : Cast) → IsCastOf ds p behind a → IsCastOf ds p behind b → (path : List ℕ) → a.at path ≡ b.at path
    same_at a b x y path = by (b.at path) refl
      where
        by : (o : Option ℕ) → b.at path ≡ o → a.at path ≡ o
        by None e = none_there a x path (λ f role. y.none path f e role)
        by (Some k) e =
            let there = y.some path k e in
            same_number a x path k there.0 (subst (λ (ns : List (List ℕ)). slice_get ns k ≡ Some there.0) y.names_are there.1) there.2

    pub one_cast : (a b : Cast) → IsCastOf ds p behind a → IsCastOf ds p behind b → a ≡ b
    one_cast a b x y = λ i. record { names = (x.names_are ∙ sym y.names_are) i; at = λ path. same_at a b x y path i }

    -- and so is what a search finds
    pub role_is : (es : List Definition) → names_of ds ≡ defined es → (cast : Cast) → IsCastOf ds p behind cast → (path : List ℕ) (o : Option ℕ)
        → MatchOption o ((f : List ℕ) → IsRoleAt ds p behind path (Some f) → ⊥) (λ k. (f : List ℕ) × IsIndex es f (Some k) × IsRoleAt ds p behind path (Some f)) → o ≡ cast.at path
    role_is es names cast is path None none = sym (none_there cast is path none)
    role_is es names cast is path (Some k) some =
        let named : slice_get (defined es) k ≡ Some some.0 = slice_get-map (λ (d : Definition). d.name) es k ∙ ap (option_map (λ (d : Definition). d.name)) some.1.1 ∙ ap Some some.1.2 in
        sym (same_number cast is path k some.0 (subst (λ (ns : List (List ℕ)). slice_get ns k ≡ Some some.0) (sym names) named) some.2)

-- definitions keep their names
pub same_names : (ds : List code.Definition) (ns : List ℕ) → length ns ≡ length ds → names_of (located_definitions ds ns) ≡ defined (definitions ds)
same_names [] ns e = refl
same_names (d ∷ ds) [] e = absurd (omega (arith, e))
same_names (d ∷ ds) (n ∷ ns) e = ap (λ (fs : List (List ℕ)). d.name ∷ fs) (same_names ds ns (omega (arith, e)))

pub within : (es : List Definition) (o : Option ℕ) (A : Type 0) (B : List ℕ → Type 0) → MatchOption o A (λ k. (f : List ℕ) × IsIndex es f (Some k) × B f) → IfSome o (λ k. k < length es)
within es None A B m = tt
within es (Some k) A B m = slice_get_within es k m.1.0 m.1.1

pub got_or : {X : Type 0} (xs : List X) (k : ℕ) (x d : X) → slice_get xs k ≡ Some x → slice_index_or xs k d ≡ x
got_or [] k x d e = absurd (cc (e))
got_or (y ∷ ys) zero x d e = cc (e)
got_or (y ∷ ys) (suc k) x d e = got_or ys k x d e

pub none_or : {X : Type 0} (xs : List X) (k : ℕ) (d : X) → slice_get xs k ≡ None → slice_index_or xs k d ≡ d
none_or [] k d e = refl
none_or (y ∷ ys) zero d e = absurd (cc (e))
none_or (y ∷ ys) (suc k) d e = none_or ys k d e

-- the name of a number
pub name_at : (ds : List code.Definition) (ns : List ℕ) → length ns ≡ length ds → (p : Located) (behind : ℕ) (cast : Cast) → IsCastOf (located_definitions ds ns) p behind cast → (k : ℕ)
    → slice_get cast.names k ≡ option_map (λ (d : code.Definition). d.name) (slice_get ds k)
name_at ds ns e p behind cast is k =
    ap (λ (fs : List (List ℕ)). slice_get fs k) (is.names_are ∙ same_names ds ns e) ∙ slice_get-map (λ (d : Definition). d.name) (definitions ds) k ∙ ap (option_map (λ (d : Definition). d.name)) (slice_get-map definition_of ds k)
    ∙ twice (slice_get ds k)
  where
    twice : (o : Option code.Definition) → option_map (λ (d : Definition). d.name) (option_map definition_of o) ≡ option_map (λ (d : code.Definition). d.name) o
    twice None = refl
    twice (Some d) = refl
