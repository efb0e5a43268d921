-- Steps along a path.
use Rattle.std.proofs.Common.{◌≡◌, ◌<◌, ◌≤◌, ℕ, suc, ◌+◌, List, [], ◌∷◌, length, drop, take, Option, Some, None, refl, sym, ap, subst, ◌∙◌, arith}
use Rattle.std.specs.Prelude.{slice_index_or}
use Rattle.std.proofs.Common.{add-one, drop-cons}
use Rattle.std.proofs.lemmas.Grind.{common_steps}
use Rattle.sap_terms.specs.Tree.{Tree}
use Rattle.sap_macro.specs.Located.{Located, call_at}
use Rattle.std.specs.Borrow.{Bor}
use Rattle.sap_macro.specs.Indexed.{defined}
use Rattle.sap_macro.specs.Order.{UsesOnly}
use Rattle.sap_macro.specs.Sources.{located, written}
use Rattle.sap_macro.specs.declared.source.Source.{Source}
use Rattle.sap_macro.specs.Written.{Definition}
use Rattle.sap_origin.specs.Definitions.{LocatedDefinition}
use Rattle.sap_origin.specs.Meant.{definition_of}
use Rattle.sap_origin.specs.Origins.{start}
use Rattle.sap_origin.specs.Reached.{IsForm, Reaches, reaches_here, reaches_use, reaches_left, reaches_right, reaches_copy, reaches_behind, reaches_then, reaches_else, reaches_found, reaches_missing, Standing, entered}
use Rattle.std.specs.Option.{option_or}
use Rattle.sap_roles.specs.Roles.{given, IsRoleOn}
use Rattle.sap_roles.specs.PlacesAlong.{PlaceAt, place_in, places_along}
use Rattle.sap_roles.specs.code.Going.{role_below, role_down}
use Rattle.sap_roles.specs.code.Steps.{AreSame, ComesFrom, IsOn, Tells, way_of, IsBelow, is_left, is_right, is_copy, is_behind, is_then, is_else, is_found, is_missing, IsWithin, StepsTo, way_left}
use Rattle.sap_roles.specs.declared.role.Here.{Here}
use Rattle.sap_roles.specs.declared.role.Step.{Step}
use Rattle.sap_roles.specs.declared.role.Step.TheVariants.{There, Nowhere, On}
use Rattle.sap_roles.proofs.Down.{node_before, on_way, way_first}

take_whole : (es : List Definition) (n : ℕ) → n ≡ length es → take n es ≡ es
take_whole es n all = rw all (grind (arith, common_steps))

-- the digit that comes next
pub next_digit : (path : List ℕ) (at : ℕ) → at < length path → drop at path ≡ slice_index_or path at 0 ∷ drop (at + 1) path
next_digit path at h = rw (add-one, drop-cons path at 0) refl

pub no_digit : (path : List ℕ) (at : ℕ) → length path ≤ at → drop at path ≡ []
no_digit path at h = grind (arith, common_steps)

module _ (ds : List LocatedDefinition) where
  -- ---- down a digit

  -- down to what is below, and a node more is in front
  record Down (s : Standing) (l : Option (List ℕ)) (p : Located) (path : List ℕ) (z : Standing) (w : Located) (ns : List PlaceAt) : Type 0 where
    pub reaches : Reaches ds s p path z w
    pub way_is : places_along l reaches ≡ place_in p l ∷ ns

  down : {s z : Standing} {p c q : Located} {e : ℕ} {path : List ℕ} (l : Option (List ℕ)) → IsBelow p e c → (r : Reaches ds s c path z q) → Down s l p (e ∷ path) z q (places_along l r)
  down l is_left r = record { reaches = reaches_left r; way_is = refl }
  down l is_right r = record { reaches = reaches_right r; way_is = refl }
  down l is_copy r = record { reaches = reaches_copy r; way_is = refl }
  down l is_behind r = record { reaches = reaches_behind r; way_is = refl }
  down l is_then r = record { reaches = reaches_then r; way_is = refl }
  down l is_else r = record { reaches = reaches_else r; way_is = refl }
  down l is_found r = record { reaches = reaches_found r; way_is = refl }
  down l is_missing r = record { reaches = reaches_missing r; way_is = refl }

  -- from a form one goes on to what is below
  record Below (s z : Standing) (p q : Located) (e : ℕ) (path : List ℕ) : Type 0 where
    pub child : Located
    pub is : IsBelow p e child
    pub reaches : Reaches ds s child path z q

  child_of : {s z : Standing} {p q : Located} {e : ℕ} {path : List ℕ} → IsForm p → Reaches ds s p (e ∷ path) z q → Below s z p q e path
  child_of f (reaches_use e g r) = absurd f
  child_of f (reaches_left r) = record { child = _; is = is_left; reaches = r }
  child_of f (reaches_right r) = record { child = _; is = is_right; reaches = r }
  child_of f (reaches_copy r) = record { child = _; is = is_copy; reaches = r }
  child_of f (reaches_behind r) = record { child = _; is = is_behind; reaches = r }
  child_of f (reaches_then r) = record { child = _; is = is_then; reaches = r }
  child_of f (reaches_else r) = record { child = _; is = is_else; reaches = r }
  child_of f (reaches_found r) = record { child = _; is = is_found; reaches = r }
  child_of f (reaches_missing r) = record { child = _; is = is_missing; reaches = r }

  one_below : {p c d : Located} {e : ℕ} → IsBelow p e c → IsBelow p e d → c ≡ d
  one_below is_left is_left = refl
  one_below is_right is_right = refl
  one_below is_copy is_copy = refl
  one_below is_behind is_behind = refl
  one_below is_then is_then = refl
  one_below is_else is_else = refl
  one_below is_found is_found = refl
  one_below is_missing is_missing = refl

  pub same_below : (s : Standing) (l r : Option (List ℕ)) (p c : Located) (e : ℕ) (path : List ℕ) → IsForm p → IsBelow p e c
      → AreSame ds s l r p (e ∷ path) s l (role_below r (place_in p l)) c path
  same_below s l r p c e path f is = record {
    to = λ z w n.
        let b = child_of f n in
        subst (λ (d : Located). Reaches ds s d path z w) (one_below b.is is) b.reaches;
    from = λ z w n.
        let a = down l is n in
        record { reaches = a.reaches; role_is = ap (role_down r) a.way_is ∙ node_before r (place_in p l) (places_along l n) (way_first l n) };
  }

  pub nothing_below : (s : Standing) (p : Located) (e : ℕ) (path : List ℕ) → IsForm p → ((c : Located) → IsBelow p e c → ⊥) → (z : Standing) (w : Located) → Reaches ds s p (e ∷ path) z w → ⊥
  nothing_below s p e path f none z w r = let b = child_of f r in none b.child b.is

  -- ---- through a use

  some_is : {d e : LocatedDefinition} → ◌≡◌ {A = Option LocatedDefinition} (Some d) (Some e) → d ≡ e
  some_is h = cc (h)

  pub through : {s z : Standing} {k : ℕ} {f : List ℕ} {ts : List Tree} {path : List ℕ} {w : Located} (d : LocatedDefinition) → definition_of ds f ≡ Some d → Reaches ds s (call_at k f ts) path z w
      → Reaches ds (entered s k d) d.body path z w
  through d is (reaches_here h) = absurd h
  through {s = s} {z = z} {k = k} {path = path} {w = w} d is (reaches_use e g n) = subst (λ (b : LocatedDefinition). Reaches ds (entered s k b) b.body path z w) (some_is (sym e ∙ is)) n

  pub same_used : (s : Standing) (l r : Option (List ℕ)) (k : ℕ) (f : List ℕ) (ts : List Tree) (d : LocatedDefinition) (path : List ℕ) → definition_of ds f ≡ Some d
      → AreSame ds s l r (call_at k f ts) path (entered s k d) (Some f) r d.body path
  same_used s l r k f ts d path is = record { to = λ z w n. through d is n; from = λ z w n. record { reaches = reaches_use is tt n; role_is = refl } }

  no_use : {s z : Standing} {k : ℕ} {f : List ℕ} {ts : List Tree} {path : List ℕ} {w : Located} → definition_of ds f ≡ None → Reaches ds s (call_at k f ts) path z w → ⊥
  no_use is (reaches_here h) = h
  no_use is (reaches_use e g n) = absurd (cc (e, is))

  pub not_used : (s : Standing) (k : ℕ) (f : List ℕ) (ts : List Tree) (path : List ℕ) → definition_of ds f ≡ None → (z : Standing) (w : Located) → Reaches ds s (call_at k f ts) path z w → ⊥
  not_used s k f ts path is z w r = no_use is r

  -- ---- all steps

  pub same_on : {s t u : Standing} {l m n a b c : Option (List ℕ)} {p q r : Located} {i j k : List ℕ} → AreSame ds s l a p i t m b q j → AreSame ds t m b q j u n c r k
      → AreSame ds s l a p i u n c r k
  same_on one two = record {
    to = λ z w h. two.to z w (one.to z w h);
    from = λ z w h.
        let b = two.from z w h in
        let a = one.from z w b.reaches in
        record { reaches = a.reaches; role_is = a.role_is ∙ b.role_is };
  }

  module _ (es : List Definition) (path : List ℕ) (behind : ℕ) (p : Located) where
    pub tells_next : (h : Here) (r : Step) → IsOn es ds path behind p h → ((s : Standing) → IsWithin es path h → StepsTo es ds path s h r) → Tells es ds path behind p r
    tells_next h (There o) on step =
        let s = on.standing in
        let l = on.inside in
        let told = step s on.within l on.role on.stands in
        let place = located h.source.now in
        let role = option_or on.role (given (place_in place l)) in
        let comes : ComesFrom ds (start behind) None None p path s place role =
        at_end s l on.role place told.0 (drop h.at path) told.1 on.same in (
          role,
          told.2,
          record {
            standing = s;
            place = place;
            reaches = comes.reaches;
            is_role = subst (IsRoleOn (places_along None comes.reaches)) comes.role_is (on_way (places_along None comes.reaches) (way_first None comes.reaches));
          },
        )
      where
        at_end : (s : Standing) (l v : Option (List ℕ)) (q : Located) → IsForm q → (rest : List ℕ) → rest ≡ [] → AreSame ds (start behind) None None p path s l v q rest
            → ComesFrom ds (start behind) None None p path s q (option_or v (given (place_in q l)))
        at_end s l v q f rest none same =
            let here : AreSame ds (start behind) None None p path s l v q [] = subst (λ (i : List ℕ). AreSame ds (start behind) None None p path s l v q i) none same in
            here.from s q (reaches_here f)
    tells_next h Nowhere on step = λ z w r. step on.standing on.within on.inside on.role on.stands z w (on.same.to z w r)
    tells_next h (On n) on step =
        let further = step on.standing on.within on.inside on.role on.stands in
        record { standing = further.standing; inside = further.inside; role = further.role; stands = further.stands; within = further.within; same = same_on on.same further.same }

    pub way_smaller : (h : Here) (r : Step) → IsOn es ds path behind p h → ((s : Standing) → IsWithin es path h → StepsTo es ds path s h r) → way_of path r < suc (way_left path h)
    way_smaller h (There o) on step = omega arith
    way_smaller h Nowhere on step = omega arith
    way_smaller h (On n) on step = let less = (step on.standing on.within on.inside on.role on.stands).less in omega (arith, less)

  pub begins_on : (es : List Definition) (path : List ℕ) (behind : ℕ) (r : Bor Source) (n : ℕ) → n ≡ length es → UsesOnly (defined es) (written r.now)
      → IsOn es ds path behind (located r.now) (record { source = r; inside = None; role = None; bound = n; at = 0 })
  begins_on es path behind r n all uses = record {
    standing = start behind;
    inside = None;
    role = None;
    stands = record { inside_is = tt; role_is = tt };
    within = record {
      uses = subst (λ (ds : List Definition). UsesOnly (defined ds) (written r.now)) (sym (take_whole es n all)) uses;
      bounded = omega (arith, all);
      at_most = omega arith;
    };
    same = record { to = λ z w h. h; from = λ z w h. record { reaches = h; role_is = refl } };
  }
