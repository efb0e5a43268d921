-- Steps along a path.
use Rattle.std.proofs.Common.{◌≡◌, ◌<◌, ◌≤◌, ℕ, suc, ◌+◌, List, [], ◌∷◌, ◌++◌, length, drop, take, Option, Some, None, refl, sym, ap, subst, ◌∙◌, arith}
use Rattle.std.specs.Prelude.{slice_index_or}
use Rattle.std.specs.Borrow.{Bor}
use Rattle.std.specs.List.{AllZip}
use Rattle.std.proofs.Common.{add-one, append_assoc, drop-cons}
use Rattle.std.proofs.lemmas.List.{append-nil}
use Rattle.std.proofs.lemmas.Grind.{common_steps}
use Rattle.sap_terms.specs.Tree.{Tree}
use Rattle.sap_macro.specs.Indexed.{defined}
use Rattle.sap_macro.specs.Located.{Located, nil_at, call_at, parallel_at, replicated_at, act_at, test_at, lookup_at}
use Rattle.sap_macro.specs.Order.{UsesOnly}
use Rattle.sap_macro.specs.Sources.{located, written}
use Rattle.sap_macro.specs.Written.{Definition}
use Rattle.sap_macro.specs.declared.source.Source.{Source}
use Rattle.sap_origin.specs.Definitions.{LocatedDefinition}
use Rattle.sap_origin.specs.Meant.{definition_of}
use Rattle.sap_origin.specs.Origins.{start}
use Rattle.sap_origin.specs.Reached.{IsEnd, IsForm, IsLeft, IsReplaced, ReachesBy, reaches_here, reaches_use, reaches_left, reaches_right, reaches_copy, reaches_behind, reaches_then, reaches_else, reaches_found, reaches_missing, Standing, entered}
use Rattle.sap_origin.specs.Trails.{AreUses, IsTrailBy, IsUse}
use Rattle.sap_origin.specs.UsesAlong.{UseAt, uses_along}
use Rattle.sap_origin.specs.code.Steps.{AreSame, Coming, IsOn, Tells, way_of, IsBelow, is_left, is_right, is_copy, is_behind, is_then, is_else, is_found, is_missing, IsWithin, StepsTo, noted, way_left}
use Rattle.sap_origin.specs.declared.trail.Here.{Here}
use Rattle.sap_origin.specs.declared.trail.Step.{Step}
use Rattle.sap_origin.specs.declared.trail.Step.TheVariants.{There, Nowhere, On}
use Rattle.sap_origin.specs.declared.trail.Use.{Use}
use Rattle.sap_origin.specs.declared.trail.Replaced.{Replaced}
use Rattle.sap_origin.specs.declared.trail.Replaced.TheVariants.{Every, Plain}
use Rattle.sap_origin.proofs.OneReach.{not_left}

take_whole : (es : List Definition) (n : ℕ) → n ≡ length es → take n es ≡ es
take_whole es n all = rw all (grind (arith, common_steps))

-- the digit that comes next
pub next_digit : (path : List ℕ) (at : ℕ) → at < length path → drop at path ≡ slice_index_or path at 0 ∷ drop (at + 1) path
next_digit path at h = rw (add-one, drop-cons path at 0) refl

pub no_digit : (path : List ℕ) (at : ℕ) → length path ≤ at → drop at path ≡ []
no_digit path at h = grind (arith, common_steps)

-- related, piece by piece
join_zip : {A B : Type 0} (R : A → B → Type 0) (xs zs : List A) (ys ws : List B) → AllZip R xs ys → AllZip R zs ws → AllZip R (xs ++ zs) (ys ++ ws)
join_zip R [] zs [] ws a b = b
join_zip R [] zs (y ∷ ys) ws a b = absurd a
join_zip R (x ∷ xs) zs [] ws a b = absurd a
join_zip R (x ∷ xs) zs (y ∷ ys) ws a b = (a.0, join_zip R xs zs ys ws a.1 b)

module _ (ds : List LocatedDefinition) (v : Replaced) where
  -- a form is a place
  pub form_ends : (p : Located) → IsForm p → IsEnd ds v p
  form_ends p f = by v
    where
      seen : (q : Located) → IsForm q → IsEnd ds Plain q
      seen (nil_at k) h = tt
      seen (call_at k f ts) h = absurd h
      seen (parallel_at k p q) h = tt
      seen (replicated_at k p) h = tt
      seen (act_at k a p) h = tt
      seen (test_at k t u p q) h = tt
      seen (lookup_at k t x p q) h = tt

      by : (w : Replaced) → IsEnd ds w p
      by Every = f
      by Plain = seen p f

  -- ---- down a digit

  down : {s z : Standing} {p c q : Located} {e : ℕ} {path : List ℕ} → IsBelow p e c → (r : ReachesBy ds v s c path z q) → Coming ds v s p (e ∷ path) z q [] (uses_along r)
  down is_left r = record { reaches = reaches_left r; front = []; uses_are = refl; are = tt }
  down is_right r = record { reaches = reaches_right r; front = []; uses_are = refl; are = tt }
  down is_copy r = record { reaches = reaches_copy r; front = []; uses_are = refl; are = tt }
  down is_behind r = record { reaches = reaches_behind r; front = []; uses_are = refl; are = tt }
  down is_then r = record { reaches = reaches_then r; front = []; uses_are = refl; are = tt }
  down is_else r = record { reaches = reaches_else r; front = []; uses_are = refl; are = tt }
  down is_found r = record { reaches = reaches_found r; front = []; uses_are = refl; are = tt }
  down is_missing r = record { reaches = reaches_missing r; front = []; uses_are = refl; are = tt }

  -- from a form one goes on to what is below
  record Below (s z : Standing) (p q : Located) (e : ℕ) (path : List ℕ) : Type 0 where
    pub child : Located
    pub is : IsBelow p e child
    pub reaches : ReachesBy ds v s child path z q

  child_of : {s z : Standing} {p q : Located} {e : ℕ} {path : List ℕ} → IsForm p → ReachesBy ds v s p (e ∷ path) z q → Below s z p q e path
  child_of f (reaches_use e g r) = absurd f
  child_of f (reaches_left r) = record { child = _; is = is_left; reaches = r }
  child_of f (reaches_right r) = record { child = _; is = is_right; reaches = r }
  child_of f (reaches_copy r) = record { child = _; is = is_copy; reaches = r }
  child_of f (reaches_behind r) = record { child = _; is = is_behind; reaches = r }
  child_of f (reaches_then r) = record { child = _; is = is_then; reaches = r }
  child_of f (reaches_else r) = record { child = _; is = is_else; reaches = r }
  child_of f (reaches_found r) = record { child = _; is = is_found; reaches = r }
  child_of f (reaches_missing r) = record { child = _; is = is_missing; reaches = r }

  one_below : {p c d : Located} {e : ℕ} → IsBelow p e c → IsBelow p e d → c ≡ d
  one_below is_left is_left = refl
  one_below is_right is_right = refl
  one_below is_copy is_copy = refl
  one_below is_behind is_behind = refl
  one_below is_then is_then = refl
  one_below is_else is_else = refl
  one_below is_found is_found = refl
  one_below is_missing is_missing = refl

  pub same_below : (s : Standing) (p c : Located) (e : ℕ) (path : List ℕ) → IsForm p → IsBelow p e c → AreSame ds v s p (e ∷ path) [] s c path
  same_below s p c e path f is = record {
    to = λ z w r.
        let b = child_of f r in
        subst (λ (d : Located). ReachesBy ds v s d path z w) (one_below b.is is) b.reaches;
    from = λ z w r. down is r;
  }

  pub nothing_below : (s : Standing) (p : Located) (e : ℕ) (path : List ℕ) → IsForm p → ((c : Located) → IsBelow p e c → ⊥) → (z : Standing) (w : Located) → ReachesBy ds v s p (e ∷ path) z w → ⊥
  nothing_below s p e path f none z w r = let b = child_of f r in none b.child b.is

  -- ---- through a use

  some_is : {d e : LocatedDefinition} → ◌≡◌ {A = Option LocatedDefinition} (Some d) (Some e) → d ≡ e
  some_is h = cc (h)

  pub through : {s z : Standing} {k : ℕ} {f : List ℕ} {ts : List Tree} {path : List ℕ} {w : Located} (d : LocatedDefinition) → definition_of ds f ≡ Some d → IsReplaced v d.params
      → ReachesBy ds v s (call_at k f ts) path z w → ReachesBy ds v (entered s k d) d.body path z w
  through {k = k} {f = f} {ts = ts} d is g (reaches_here h) = not_left ds v k f ts d h is g
  through {s = s} {z = z} {k = k} {path = path} {w = w} d is g (reaches_use e h n) = subst (λ (b : LocatedDefinition). ReachesBy ds v (entered s k b) b.body path z w) (some_is (sym e ∙ is)) n

  pub same_used : (s : Standing) (k : ℕ) (f : List ℕ) (ts : List Tree) (d : LocatedDefinition) (path : List ℕ) (u : Use) → definition_of ds f ≡ Some d → IsReplaced v d.params
      → IsUse ds (record { standing = s; place = call_at k f ts; definition = d }) u → AreSame ds v s (call_at k f ts) path (u ∷ []) (entered s k d) d.body path
  same_used s k f ts d path u is g it = record {
    to = λ z w r. through d is g r;
    from = λ z w r. record { reaches = reaches_use is g r; front = record { standing = s; place = call_at k f ts; definition = d } ∷ []; uses_are = refl; are = (it, tt) };
  }

  -- below a use that is left there is nothing
  pub none_below : {s z : Standing} {k : ℕ} {f : List ℕ} {ts : List Tree} {e : ℕ} {path : List ℕ} {w : Located} → IsLeft ds v f → ReachesBy ds v s (call_at k f ts) (e ∷ path) z w → ⊥
  none_below left (reaches_use {d = d} e g n) = left d e g

  -- ---- all steps

  noted_uses : (us : List Use) (u : Option Use) (fs gs : List UseAt) → AreUses ds fs us → AreUses ds gs (noted [] u) → AreUses ds (fs ++ gs) (noted us u)
  noted_uses us None fs [] a b = subst (λ (xs : List UseAt). AreUses ds xs us) (sym (append-nil fs)) a
  noted_uses us None fs (g ∷ gs) a b = absurd b
  noted_uses us (Some u) fs gs a b = join_zip (IsUse ds) fs gs us (u ∷ []) a b

  same_on : {s t m : Standing} {p q r : Located} {a b c : List ℕ} (us : List Use) (u : Option Use) → AreSame ds v s p a us t q b → AreSame ds v t q b (noted [] u) m r c → AreSame ds v s p a (noted us u) m r c
  same_on us u one two = record {
    to = λ z w h. two.to z w (one.to z w h);
    from = λ z w h.
        let second = two.from z w h in
        let first = one.from z w second.reaches in
        record {
          reaches = first.reaches;
          front = first.front ++ second.front;
          uses_are = first.uses_are ∙ ap (λ (xs : List UseAt). first.front ++ xs) second.uses_are ∙ sym (append_assoc first.front second.front (uses_along h));
          are = noted_uses us u first.front second.front first.are second.are;
        };
  }

  -- the end of a path, with no use more
  record Ending (s : Standing) (q : Located) (rest : List ℕ) : Type 0 where
    pub reaches : ReachesBy ds v s q rest s q
    pub none : uses_along reaches ≡ []

  ending : (s : Standing) (q : Located) → IsEnd ds v q → (rest : List ℕ) → rest ≡ [] → Ending s q rest
  ending s q f rest e = subst (λ (xs : List ℕ). Ending s q xs) (sym e) (record { reaches = reaches_here f; none = refl })

  module _ (es : List Definition) (path : List ℕ) (behind : ℕ) (p : Located) where
    trail_there : (us : List Use) (h : Here) → IsOn es ds v path behind p us h → IsEnd ds v (located h.source.now) → drop h.at path ≡ [] → IsTrailBy ds v p behind path (record { source = h.source; behind = h.behind; uses = us })
    trail_there us h on f e =
        let s = on.standing in
        let place = located h.source.now in
        let end = ending s place f (drop h.at path) e in
        let come = on.same.from s place end.reaches in
        let front : uses_along come.reaches ≡ come.front = come.uses_are ∙ ap (λ (xs : List UseAt). come.front ++ xs) end.none ∙ append-nil come.front in
        record { standing = s; reaches = come.reaches; behind_is = on.behind_is; uses = subst (λ (xs : List UseAt). AreUses ds xs us) (sym front) come.are }

    pub tells_next : (us : List Use) (h : Here) (r : Step) → IsOn es ds v path behind p us h → ((s : Standing) → s.behind ≡ h.behind → IsWithin es path h → StepsTo es ds v path s h r) → Tells es ds v path behind p us r
    tells_next us h (There n) on step =
        let told = step on.standing on.behind_is on.within in
        subst (λ (m : Here). IsTrailBy ds v p behind path (record { source = m.source; behind = m.behind; uses = us })) (sym told.2) (trail_there us h on told.0 told.1)
    tells_next us h Nowhere on step = λ z w r. step on.standing on.behind_is on.within z w (on.same.to z w r)
    tells_next us h (On u n) on step =
        let further = step on.standing on.behind_is on.within in
        record { standing = further.standing; behind_is = further.behind_is; within = further.within; same = same_on us u on.same further.same }

    pub way_smaller : (us : List Use) (h : Here) (r : Step) → IsOn es ds v path behind p us h → ((s : Standing) → s.behind ≡ h.behind → IsWithin es path h → StepsTo es ds v path s h r) → way_of path r < suc (way_left path h)
    way_smaller us h (There n) on step = omega arith
    way_smaller us h Nowhere on step = omega arith
    way_smaller us h (On u n) on step = let less = (step on.standing on.behind_is on.within).less in omega (arith, less)

  pub begins_on : (es : List Definition) (path : List ℕ) (behind : ℕ) (r : Bor Source) (n : ℕ) → n ≡ length es → UsesOnly (defined es) (written r.now)
      → IsOn es ds v path behind (located r.now) [] (record { source = r; behind = behind; bound = n; at = 0 })
  begins_on es path behind r n all uses = record {
    standing = start behind;
    behind_is = refl;
    within = record {
      uses = subst (λ (ds : List Definition). UsesOnly (defined ds) (written r.now)) (sym (take_whole es n all)) uses;
      bounded = omega (arith, all);
      at_most = omega arith;
    };
    same = record { to = λ z w h. h; from = λ z w h. record { reaches = h; front = []; uses_are = refl; are = tt } };
  }

-- nowhere, where every name is replaced
pub left_nowhere : (ds : List LocatedDefinition) (s : Standing) (k : ℕ) (f : List ℕ) (ts : List Tree) (path : List ℕ) → IsLeft ds Every f → (z : Standing) (w : Located)
    → ReachesBy ds Every s (call_at k f ts) path z w → ⊥
left_nowhere ds s k f ts path left z w (reaches_here h) = h
left_nowhere ds s k f ts path left z w (reaches_use {d = d} e g n) = left d e g
