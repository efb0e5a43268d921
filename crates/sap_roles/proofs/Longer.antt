-- One digit further the way has one node more, and what becomes of the role there.
use Rattle.std.proofs.Common.{◌≡◌, ℕ, Bool, true, false, List, [], ◌∷◌, ◌++◌, Option, Some, None, refl, sym, ap, ◌∙◌, subst}
use Rattle.std.specs.Prelude.{if◌then◌else◌}
use Rattle.sap_macro.specs.Located.{Located, parallel_at, replicated_at, act_at, test_at, lookup_at}
use Rattle.sap_origin.specs.Definitions.{LocatedDefinition}
use Rattle.sap_origin.specs.Origins.{start}
use Rattle.sap_origin.specs.Reached.{Standing, Reaches, reaches_here, reaches_use, reaches_left, reaches_right, reaches_copy, reaches_behind, reaches_then, reaches_else, reaches_found, reaches_missing}
use Rattle.std.specs.Option.{option_or}
use Rattle.sap_roles.specs.Roles.{IsRoleAt, given}
use Rattle.sap_roles.specs.PlacesAlong.{PlaceAt, acts, begins_threads, place_in, places_along}
use Rattle.sap_roles.specs.code.Going.{role_below, role_down}
use Rattle.sap_roles.proofs.OneWay.{one_way, role_of_way}

-- without the last
abbrev front : List ℕ → List ℕ
front [] = []
front (x ∷ []) = []
front (x ∷ y ∷ ys) = x ∷ front (y ∷ ys)

front_push : (xs : List ℕ) (e : ℕ) → front (xs ++ e ∷ []) ≡ xs
front_push [] e = refl
front_push (x ∷ []) e = refl
front_push (x ∷ y ∷ ys) e = ap (λ (zs : List ℕ). x ∷ zs) (front_push (y ∷ ys) e)

-- where a way ends
record EndsAt (ns : List PlaceAt) (q : Located) : Type 0 where
  before : List PlaceAt
  inside : Option (List ℕ)
  places_are : ns ≡ before ++ place_in q inside ∷ []

one_more : (n : PlaceAt) (ns : List PlaceAt) (q : Located) → EndsAt ns q → EndsAt (n ∷ ns) q
one_more n ns q h = record { before = n ∷ h.before; inside = h.inside; places_are = ap (λ (ms : List PlaceAt). n ∷ ms) h.places_are }

-- one comes by one node alone
record IsOne (ns : List PlaceAt) (q : Located) : Type 0 where
  inside : Option (List ℕ)
  places_are : ns ≡ place_in q inside ∷ []

-- along a path without its last digit one comes by the same nodes without the last
record Longer (ds : List LocatedDefinition) (s : Standing) (p : Located) (path : List ℕ) (l : Option (List ℕ)) (w : Located) (ns : List PlaceAt) : Type 0 where
  standing : Standing
  place : Located
  reaches : Reaches ds s p path standing place
  inside : Option (List ℕ)
  way_is : ns ≡ places_along l reaches ++ place_in w inside ∷ []

module _ {ds : List LocatedDefinition} where
  ends_at : {s z : Standing} {p q : Located} {path : List ℕ} (l : Option (List ℕ)) (a : Reaches ds s p path z q) → EndsAt (places_along l a) q
  ends_at l (reaches_here f) = record { before = []; inside = l; places_are = refl }
  ends_at l (reaches_use {f = f} e g n) = ends_at (Some f) n
  ends_at l (reaches_left {k = k} {p = p} {r = r} n) = one_more (place_in (parallel_at k p r) l) (places_along l n) _ (ends_at l n)
  ends_at l (reaches_right {k = k} {p = p} {r = r} n) = one_more (place_in (parallel_at k p r) l) (places_along l n) _ (ends_at l n)
  ends_at l (reaches_copy {k = k} {p = p} n) = one_more (place_in (replicated_at k p) l) (places_along l n) _ (ends_at l n)
  ends_at l (reaches_behind {k = k} {a = a} {p = p} n) = one_more (place_in (act_at k a p) l) (places_along l n) _ (ends_at l n)
  ends_at l (reaches_then {k = k} {t = t} {u = u} {p = p} {r = r} n) = one_more (place_in (test_at k t u p r) l) (places_along l n) _ (ends_at l n)
  ends_at l (reaches_else {k = k} {t = t} {u = u} {p = p} {r = r} n) = one_more (place_in (test_at k t u p r) l) (places_along l n) _ (ends_at l n)
  ends_at l (reaches_found {k = k} {t = t} {x = x} {p = p} {r = r} n) = one_more (place_in (lookup_at k t x p r) l) (places_along l n) _ (ends_at l n)
  ends_at l (reaches_missing {k = k} {t = t} {x = x} {p = p} {r = r} n) = one_more (place_in (lookup_at k t x p r) l) (places_along l n) _ (ends_at l n)

  is_one : {s z : Standing} {p q : Located} (l : Option (List ℕ)) (a : Reaches ds s p [] z q) → IsOne (places_along l a) q
  is_one l (reaches_here f) = record { inside = l; places_are = refl }
  is_one l (reaches_use {f = f} e g n) = is_one (Some f) n

  longer : {s z : Standing} {p w : Located} {path : List ℕ} (l : Option (List ℕ)) (a : Reaches ds s p path z w) → (path ≡ [] → ⊥) → Longer ds s p (front path) l w (places_along l a)
  longer l (reaches_here f) some = absurd (some refl)
  longer l (reaches_use {f = f} e g n) some =
      let m = longer (Some f) n some in record { standing = m.standing; place = m.place; reaches = reaches_use e g m.reaches; inside = m.inside; way_is = m.way_is }
  longer l (reaches_left {k = k} {p = p} {r = r} {path = []} n) some =
      let i = is_one l n in record { standing = _; place = _; reaches = reaches_here tt; inside = i.inside; way_is = ap (λ (ns : List PlaceAt). place_in (parallel_at k p r) l ∷ ns) i.places_are }
  longer l (reaches_left {k = k} {p = p} {r = r} {path = y ∷ ys} n) some =
      let m = longer l n (λ e. cc (e)) in
      record { standing = m.standing; place = m.place; reaches = reaches_left m.reaches; inside = m.inside; way_is = ap (λ (ns : List PlaceAt). place_in (parallel_at k p r) l ∷ ns) m.way_is }
  longer l (reaches_right {k = k} {p = p} {r = r} {path = []} n) some =
      let i = is_one l n in record { standing = _; place = _; reaches = reaches_here tt; inside = i.inside; way_is = ap (λ (ns : List PlaceAt). place_in (parallel_at k p r) l ∷ ns) i.places_are }
  longer l (reaches_right {k = k} {p = p} {r = r} {path = y ∷ ys} n) some =
      let m = longer l n (λ e. cc (e)) in
      record { standing = m.standing; place = m.place; reaches = reaches_right m.reaches; inside = m.inside; way_is = ap (λ (ns : List PlaceAt). place_in (parallel_at k p r) l ∷ ns) m.way_is }
  longer l (reaches_copy {k = k} {p = p} {path = []} n) some =
      let i = is_one l n in record { standing = _; place = _; reaches = reaches_here tt; inside = i.inside; way_is = ap (λ (ns : List PlaceAt). place_in (replicated_at k p) l ∷ ns) i.places_are }
  longer l (reaches_copy {k = k} {p = p} {path = y ∷ ys} n) some =
      let m = longer l n (λ e. cc (e)) in
      record { standing = m.standing; place = m.place; reaches = reaches_copy m.reaches; inside = m.inside; way_is = ap (λ (ns : List PlaceAt). place_in (replicated_at k p) l ∷ ns) m.way_is }
  longer l (reaches_behind {k = k} {a = a} {p = p} {path = []} n) some =
      let i = is_one l n in record { standing = _; place = _; reaches = reaches_here tt; inside = i.inside; way_is = ap (λ (ns : List PlaceAt). place_in (act_at k a p) l ∷ ns) i.places_are }
  longer l (reaches_behind {k = k} {a = a} {p = p} {path = y ∷ ys} n) some =
      let m = longer l n (λ e. cc (e)) in
      record { standing = m.standing; place = m.place; reaches = reaches_behind m.reaches; inside = m.inside; way_is = ap (λ (ns : List PlaceAt). place_in (act_at k a p) l ∷ ns) m.way_is }
  longer l (reaches_then {k = k} {t = t} {u = u} {p = p} {r = r} {path = []} n) some =
      let i = is_one l n in record { standing = _; place = _; reaches = reaches_here tt; inside = i.inside; way_is = ap (λ (ns : List PlaceAt). place_in (test_at k t u p r) l ∷ ns) i.places_are }
  longer l (reaches_then {k = k} {t = t} {u = u} {p = p} {r = r} {path = y ∷ ys} n) some =
      let m = longer l n (λ e. cc (e)) in
      record { standing = m.standing; place = m.place; reaches = reaches_then m.reaches; inside = m.inside; way_is = ap (λ (ns : List PlaceAt). place_in (test_at k t u p r) l ∷ ns) m.way_is }
  longer l (reaches_else {k = k} {t = t} {u = u} {p = p} {r = r} {path = []} n) some =
      let i = is_one l n in record { standing = _; place = _; reaches = reaches_here tt; inside = i.inside; way_is = ap (λ (ns : List PlaceAt). place_in (test_at k t u p r) l ∷ ns) i.places_are }
  longer l (reaches_else {k = k} {t = t} {u = u} {p = p} {r = r} {path = y ∷ ys} n) some =
      let m = longer l n (λ e. cc (e)) in
      record { standing = m.standing; place = m.place; reaches = reaches_else m.reaches; inside = m.inside; way_is = ap (λ (ns : List PlaceAt). place_in (test_at k t u p r) l ∷ ns) m.way_is }
  longer l (reaches_found {k = k} {t = t} {x = x} {p = p} {r = r} {path = []} n) some =
      let i = is_one l n in record { standing = _; place = _; reaches = reaches_here tt; inside = i.inside; way_is = ap (λ (ns : List PlaceAt). place_in (lookup_at k t x p r) l ∷ ns) i.places_are }
  longer l (reaches_found {k = k} {t = t} {x = x} {p = p} {r = r} {path = y ∷ ys} n) some =
      let m = longer l n (λ e. cc (e)) in
      record { standing = m.standing; place = m.place; reaches = reaches_found m.reaches; inside = m.inside; way_is = ap (λ (ns : List PlaceAt). place_in (lookup_at k t x p r) l ∷ ns) m.way_is }
  longer l (reaches_missing {k = k} {t = t} {x = x} {p = p} {r = r} {path = []} n) some =
      let i = is_one l n in record { standing = _; place = _; reaches = reaches_here tt; inside = i.inside; way_is = ap (λ (ns : List PlaceAt). place_in (lookup_at k t x p r) l ∷ ns) i.places_are }
  longer l (reaches_missing {k = k} {t = t} {x = x} {p = p} {r = r} {path = y ∷ ys} n) some =
      let m = longer l n (λ e. cc (e)) in
      record { standing = m.standing; place = m.place; reaches = reaches_missing m.reaches; inside = m.inside; way_is = ap (λ (ns : List PlaceAt). place_in (lookup_at k t x p r) l ∷ ns) m.way_is }

-- the role one node further
down_more : (ns : List PlaceAt) (m n : PlaceAt) (r : Option (List ℕ))
    → role_down r ((ns ++ m ∷ []) ++ n ∷ []) ≡ option_or (if begins_threads m.place then None else role_down r (ns ++ m ∷ [])) (given n)
down_more [] m n r = refl
down_more (x ∷ []) m n r = down_more [] m n (role_below r x)
down_more (x ∷ y ∷ ns) m n r = down_more (y ∷ ns) m n (role_below r x)

not_empty : (path : List ℕ) (e : ℕ) → path ++ e ∷ [] ≡ [] → ⊥
not_empty [] e h = cc (h)
not_empty (x ∷ path) e h = cc (h)

module _ {ds : List LocatedDefinition} {p : Located} {behind : ℕ} (path : List ℕ) (e : ℕ) {a b : Option (List ℕ)}
    (h : IsRoleAt ds p behind path a) (g : IsRoleAt ds p behind (path ++ e ∷ []) b) where
  -- the innermost `let` of the place one digit further, and the way there
  pub record Further : Type 0 where
    pub inside : Option (List ℕ)
    pub way_is : places_along None g.reaches ≡ places_along None h.reaches ++ place_in g.place inside ∷ []

  pub further : Further
  further =
      let m : Longer ds (start behind) p path None g.place (places_along None g.reaches) =
      subst (λ (i : List ℕ). Longer ds (start behind) p i None g.place (places_along None g.reaches)) (front_push path e) (longer None g.reaches (not_empty path e)) in
      record { inside = m.inside; way_is = m.way_is ∙ ap (λ (ns : List PlaceAt). ns ++ place_in g.place m.inside ∷ []) (one_way ds None m.reaches h.reaches) }

  pub role_further : b ≡ option_or (if begins_threads h.place then None else a) (if acts g.place then further.inside else None)
  role_further =
      let end = ends_at None h.reaches in
      role_of_way g
      ∙ ap (role_down None) (further.way_is ∙ ap (λ (ns : List PlaceAt). ns ++ place_in g.place further.inside ∷ []) end.places_are)
      ∙ down_more end.before (place_in h.place end.inside) (place_in g.place further.inside) None
      ∙ ap (λ (r : Option (List ℕ)). option_or (if begins_threads h.place then None else r) (given (place_in g.place further.inside)))
      (ap (role_down None) (sym end.places_are) ∙ sym (role_of_way h))

  -- a role stays where no threads begin
  pub stays : begins_threads h.place ≡ false → (f : List ℕ) → a ≡ Some f → b ≡ Some f
  stays none f is =
      role_further
      ∙ ap (λ (t : Bool). option_or (if t then None else a) (if acts g.place then further.inside else None)) none
      ∙ ap (λ (r : Option (List ℕ)). option_or r (if acts g.place then further.inside else None)) is

  -- it ends where threads begin, and none begins where nothing is done
  pub ends : begins_threads h.place ≡ true → acts g.place ≡ false → b ≡ None
  ends begin still =
      role_further
      ∙ ap (λ (t : Bool). option_or (if t then None else a) (if acts g.place then further.inside else None)) begin
      ∙ ap (λ (t : Bool). if t then further.inside else None) still

  pub none_yet : a ≡ None → acts g.place ≡ false → b ≡ None
  none_yet none still =
      role_further
      ∙ ap (λ (r : Option (List ℕ)). option_or (if begins_threads h.place then None else r) (if acts g.place then further.inside else None)) none
      ∙ by (begins_threads h.place)
      ∙ ap (λ (t : Bool). if t then further.inside else None) still
    where
      by : (t : Bool) → option_or (if t then None else None) (if acts g.place then further.inside else None) ≡ (if acts g.place then further.inside else None)
      by true = refl
      by false = refl
