-- The shapes that are noted for facts, and the clashes that they tell.
use Rattle.std.proofs.Common.{◌≡◌, ℕ, zero, suc, List, [], ◌∷◌, ◌++◌, Bool, true, false, ◌||◌, ◌&&◌, Option, Some, None, length, take, nat_eq, inl, inr, refl, sym, ap, subst, ◌∙◌}
use Rattle.std.specs.Prelude.{Contains, slice_get, is_some, option_map, if◌then◌else◌}
use Rattle.std.specs.Str.{bytes_eq}
use Rattle.std.proofs.lemmas.Bool.Decides.{Decides-eqb}
use Rattle.std.proofs.lemmas.List.{append_assoc, append-nil}
use Rattle.std.proofs.lemmas.List.Elements.{Contains-append_left, Contains-push, Contains-push_cases}
use Rattle.std.proofs.lemmas.Cmp.{nat_list_eq_equiv}
use Rattle.std.proofs.lemmas.Slice.Eq.{bytes_eq-Decides}
use Rattle.sap_terms.specs.Named.{first_named}
use Rattle.sap_terms.specs.Signature.{same_bool}
use Rattle.sap_terms.specs.declared.fact.Fact.{Fact}
use Rattle.sap_process.specs.Flaws.{HasClash, HasOtherArity, HasOtherForm}
use Rattle.sap_process.specs.code.Tests.{Shapes, noted_shape, is_shape, shape_of, is_other_shape, noted, noted_all, has_clash}
use Rattle.sap_process.specs.declared.met.Noted.{Noted}
use Rattle.sap_process.specs.declared.met.Shape.{Shape}
use Rattle.sap_process.proofs.Members.{member-none, not-true, not-false, or-left, or-right}

-- how facts of one name differ
abbrev pub Differ : Bool → Fact → Fact → Type 0
Differ true = HasOtherForm
Differ false = HasOtherArity

shape-same : (a : Shape) → is_shape a a ≡ true
shape-same a = at (nat_eq a.arity a.arity) a.persistent ((Decides-eqb a.arity a.arity).1 refl) where
  at : (b p : Bool) → b ≡ true → (b && same_bool p p) ≡ true
  at true true e = refl
  at true false e = refl
  at false p e = e

shape-equal : (a b : Shape) → is_shape a b ≡ true → a ≡ b
shape-equal a b h = λ i. record { arity = number i; persistent = form i } where
  left : (p q : Bool) → (p && q) ≡ true → p ≡ true
  left true q e = refl
  left false q e = e

  right : (p q : Bool) → (p && q) ≡ true → q ≡ true
  right true q e = e
  right false q e = cc

  equal : (p q : Bool) → same_bool p q ≡ true → p ≡ q
  equal true q e = sym e
  equal false true e = cc
  equal false false e = refl

  number : a.arity ≡ b.arity
  number = (Decides-eqb a.arity b.arity).0 (left (nat_eq a.arity b.arity) (same_bool a.persistent b.persistent) h)

  form : a.persistent ≡ b.persistent
  form = equal a.persistent b.persistent (right (nat_eq a.arity b.arity) (same_bool a.persistent b.persistent) h)

-- facts of one shape don't differ
differ-shape : (both : Bool) (f h : Fact) → Differ both f h → shape_of both f ≡ shape_of both h → ⊥
differ-shape true f h (inl d) e = d (ap (λ (a : Shape). a.arity) e)
differ-shape true f h (inr d) e = d (ap (λ (a : Shape). a.persistent) e)
differ-shape false f h d e = d (ap (λ (a : Shape). a.arity) e)

-- and others do
shape-differ : (both : Bool) (f h : Fact) → (shape_of both f ≡ shape_of both h → ⊥) → Differ both f h
shape-differ false f h d = λ e. d (λ i. record { arity = e i; persistent = false })
shape-differ true f h d = by (nat_eq (length f.args) (length h.args)) refl where
  by : (b : Bool) → nat_eq (length f.args) (length h.args) ≡ b → HasOtherForm f h
  by true e = let number = (Decides-eqb (length f.args) (length h.args)).0 e in inr (λ p. d (λ i. record { arity = number i; persistent = p i }))
  by false e = inl (λ p. let t : nat_eq (length f.args) (length h.args) ≡ true = (Decides-eqb (length f.args) (length h.args)).1 p in cc)

-- the shapes are those of the facts
pub record AreShapes (both : Bool) (met : Shapes) (fs : List Fact) : Type 0 where
  pub each : (f : Fact) → Contains fs f → noted_shape met f.name ≡ Some (shape_of both f)
  pub some : (n : List ℕ) (a : Shape) → noted_shape met n ≡ Some a → (f : Fact) × Contains fs f × (f.name ≡ n) × (shape_of both f ≡ a)

pub shapes-none : (both : Bool) → AreShapes both [] []
shapes-none both = record { each = λ f h. absurd (member-none f h); some = λ n a h. cc }

-- a name that is noted last has this shape, unless one is noted for it
noted-push : (met : Shapes) (m n : List ℕ) (a : Shape) → noted_shape met m ≡ None
    → noted_shape (met ++ record { name = m; shape = a } ∷ []) n ≡ (if bytes_eq n m then Some a else noted_shape met n)
noted-push met m n a none = by (bytes_eq n m) refl where
  apart : (xs : Shapes) → bytes_eq n m ≡ false → noted_shape (xs ++ record { name = m; shape = a } ∷ []) n ≡ noted_shape xs n
  apart [] d = rw (nat_list_eq_equiv.symm m n ∙ d) refl
  apart (x ∷ xs) d = step (bytes_eq x.name n) (apart xs d) where
    step : (b : Bool) → noted_shape (xs ++ record { name = m; shape = a } ∷ []) n ≡ noted_shape xs n
        → option_map (λ (y : Noted). y.shape) (if b then Some x else first_named (λ (y : Noted). y.name) (xs ++ record { name = m; shape = a } ∷ []) n)
        ≡ option_map (λ (y : Noted). y.shape) (if b then Some x else first_named (λ (y : Noted). y.name) xs n)
    step true later = refl
    step false later = later

  here : (xs : Shapes) → noted_shape xs m ≡ None → noted_shape (xs ++ record { name = m; shape = a } ∷ []) m ≡ Some a
  here [] d = rw ((bytes_eq-Decides m m).1 refl) refl
  here (x ∷ xs) d = step (bytes_eq x.name m) d (here xs) where
    step : (b : Bool) → option_map (λ (y : Noted). y.shape) (if b then Some x else first_named (λ (y : Noted). y.name) xs m) ≡ None
        → (noted_shape xs m ≡ None → noted_shape (xs ++ record { name = m; shape = a } ∷ []) m ≡ Some a)
        → option_map (λ (y : Noted). y.shape) (if b then Some x else first_named (λ (y : Noted). y.name) (xs ++ record { name = m; shape = a } ∷ []) m) ≡ Some a
    step true e later = cc
    step false e later = later e

  by : (b : Bool) → bytes_eq n m ≡ b → noted_shape (met ++ record { name = m; shape = a } ∷ []) n ≡ (if b then Some a else noted_shape met n)
  by true d = ap (noted_shape (met ++ record { name = m; shape = a } ∷ [])) ((bytes_eq-Decides n m).0 d) ∙ here met none
  by false d = apart met d

-- another fact is noted, where no other shape is noted for its name
pub shapes-more : (both : Bool) (met : Shapes) (fs : List Fact) (f : Fact) → AreShapes both met fs → is_other_shape (noted_shape met f.name) (shape_of both f) ≡ false
    → AreShapes both (noted met f.name (shape_of both f)) (fs ++ f ∷ [])
shapes-more both met fs f are fits = by (noted_shape met f.name) refl where
  there : (a : Shape) → noted_shape met f.name ≡ Some a → AreShapes both met (fs ++ f ∷ [])
  there a d =
      let same : a ≡ shape_of both f = shape-equal a (shape_of both f) (not-false (is_shape a (shape_of both f)) (subst (λ (o : Option Shape). is_other_shape o (shape_of both f) ≡ false) d fits)) in
      record {
        each = λ h k. elim (Contains-push_cases fs f h k) as (λ _. noted_shape met h.name ≡ Some (shape_of both h)) [
          | inl front ↦ are.each h front
          | inr e ↦ subst (λ (z : Fact). noted_shape met z.name ≡ Some (shape_of both z)) e (d ∙ ap Some same)
        ];
        some = λ n b k. let found = are.some n b k in (found.0, Contains-append_left fs (f ∷ []) found.0 found.1, found.2, found.3);
      }

  after : Shapes
  after = met ++ record { name = f.name; shape = shape_of both f } ∷ []

  kept : noted_shape met f.name ≡ None → (h : Fact) → Contains fs h → (b : Bool) → bytes_eq h.name f.name ≡ b → (if b then Some (shape_of both f) else noted_shape met h.name) ≡ Some (shape_of both h)
  kept d h front true e =
      let same : h.name ≡ f.name = (bytes_eq-Decides h.name f.name).0 e in
      let was : noted_shape met f.name ≡ Some (shape_of both h) = subst (λ (n : List ℕ). noted_shape met n ≡ Some (shape_of both h)) same (are.each h front) in
      absurd (cc)
  kept d h front false e = are.each h front

  itself : (if bytes_eq f.name f.name then Some (shape_of both f) else noted_shape met f.name) ≡ Some (shape_of both f)
  itself = rw ((bytes_eq-Decides f.name f.name).1 refl) refl

  known : (n : List ℕ) (a : Shape) (b : Bool) → bytes_eq n f.name ≡ b → (if b then Some (shape_of both f) else noted_shape met n) ≡ Some a → (h : Fact) × Contains (fs ++ f ∷ []) h × (h.name ≡ n) × (shape_of both h ≡ a)
  known n a true e k = let same : shape_of both f ≡ a = cc in (f, Contains-push fs f, sym ((bytes_eq-Decides n f.name).0 e), same)
  known n a false e k = let found = are.some n a k in (found.0, Contains-append_left fs (f ∷ []) found.0 found.1, found.2, found.3)

  new : noted_shape met f.name ≡ None → AreShapes both after (fs ++ f ∷ [])
  new d = record {
    each = λ h k. elim (Contains-push_cases fs f h k) as (λ _. noted_shape after h.name ≡ Some (shape_of both h)) [
      | inl front ↦ noted-push met f.name h.name (shape_of both f) d ∙ kept d h front (bytes_eq h.name f.name) refl
      | inr e ↦ subst (λ (z : Fact). noted_shape after z.name ≡ Some (shape_of both z)) e (noted-push met f.name f.name (shape_of both f) d ∙ itself)
    ];
    some = λ n a k. known n a (bytes_eq n f.name) refl (sym (noted-push met f.name n (shape_of both f) d) ∙ k);
  }

  by : (o : Option Shape) → noted_shape met f.name ≡ o → AreShapes both (if is_some o then met else after) (fs ++ f ∷ [])
  by None d = new d
  by (Some a) d = there a d

-- a clash with what comes later, one fact on
clash-later : (both : Bool) (before : List Fact) (f : Fact) (fs : List Fact) → HasClash (Differ both) (before ++ f ∷ []) fs → HasClash (Differ both) before (f ∷ fs)
clash-later both before f fs c = record {
  at = suc c.at;
  fact = c.fact;
  stands = c.stands;
  earlier = c.earlier;
  before = subst (λ (hs : List Fact). Contains hs c.earlier) (append_assoc before (f ∷ []) (take c.at fs)) c.before;
  name = c.name;
  other = c.other;
}

-- the test finds only clashes
pub clash-sound : (both : Bool) (met : Shapes) (before fs : List Fact) → AreShapes both met before → has_clash both met fs ≡ true → HasClash (Differ both) before fs
clash-sound both met before [] are h = cc
clash-sound both met before (f ∷ fs) are h =
    by (is_other_shape (noted_shape met f.name) (shape_of both f)) refl h (clash-sound both (noted met f.name (shape_of both f)) (before ++ f ∷ []) fs)
  where
    here : (o : Option Shape) → noted_shape met f.name ≡ o → is_other_shape o (shape_of both f) ≡ true → HasClash (Differ both) before (f ∷ fs)
    here None d k = cc
    here (Some a) d k =
        let found = are.some f.name a d in
        let apart : is_shape a (shape_of both f) ≡ false = not-true (is_shape a (shape_of both f)) k in
        record {
          at = 0;
          fact = f;
          stands = refl;
          earlier = found.0;
          before = Contains-append_left before [] found.0 found.1;
          name = found.2;
          other = shape-differ both found.0 f (λ e.
              let same : a ≡ shape_of both f = sym found.3 ∙ e in
              let t : is_shape a (shape_of both f) ≡ true = subst (λ (b : Shape). is_shape a b ≡ true) same (shape-same a) in
              cc);
        }

    by : (b : Bool) → is_other_shape (noted_shape met f.name) (shape_of both f) ≡ b → (b || has_clash both (noted met f.name (shape_of both f)) fs) ≡ true
        → (AreShapes both (noted met f.name (shape_of both f)) (before ++ f ∷ []) → has_clash both (noted met f.name (shape_of both f)) fs ≡ true → HasClash (Differ both) (before ++ f ∷ []) fs)
        → HasClash (Differ both) before (f ∷ fs)
    by true e k later = here (noted_shape met f.name) refl e
    by false e k later = clash-later both before f fs (later (shapes-more both met before f are e) k)

-- where it finds none, the shapes are those of all facts
pub shapes-all : (both : Bool) (met : Shapes) (before fs : List Fact) → AreShapes both met before → has_clash both met fs ≡ false → AreShapes both (noted_all both met fs) (before ++ fs)
shapes-all both met before [] are h = subst (AreShapes both met) (sym (append-nil before)) are
shapes-all both met before (f ∷ fs) are h =
    let fits = or-left (is_other_shape (noted_shape met f.name) (shape_of both f)) (has_clash both (noted met f.name (shape_of both f)) fs) h in
    let rest = or-right (is_other_shape (noted_shape met f.name) (shape_of both f)) (has_clash both (noted met f.name (shape_of both f)) fs) h in
    subst (AreShapes both (noted_all both (noted met f.name (shape_of both f)) fs)) (append_assoc before (f ∷ []) fs) (shapes-all both (noted met f.name (shape_of both f)) (before ++ f ∷ []) fs (shapes-more both met before f are fits) rest)

-- and there is none
pub clash-complete : (both : Bool) (met : Shapes) (before fs : List Fact) → AreShapes both met before → has_clash both met fs ≡ false → HasClash (Differ both) before fs → ⊥
clash-complete both met before [] are h c = let stands = c.stands in cc
clash-complete both met before (f ∷ fs) are h c =
    by (clash-complete both (noted met f.name (shape_of both f)) (before ++ f ∷ []) fs) c.at c.stands c.before
  where
    fits : is_other_shape (noted_shape met f.name) (shape_of both f) ≡ false
    fits = or-left (is_other_shape (noted_shape met f.name) (shape_of both f)) (has_clash both (noted met f.name (shape_of both f)) fs) h

    rest : has_clash both (noted met f.name (shape_of both f)) fs ≡ false
    rest = or-right (is_other_shape (noted_shape met f.name) (shape_of both f)) (has_clash both (noted met f.name (shape_of both f)) fs) h

    here : f ≡ c.fact → Contains before c.earlier → ⊥
    here e front =
        let named : c.earlier.name ≡ f.name = c.name ∙ ap (λ (z : Fact). z.name) (sym e) in
        let was : noted_shape met f.name ≡ Some (shape_of both c.earlier) = subst (λ (n : List ℕ). noted_shape met n ≡ Some (shape_of both c.earlier)) named (are.each c.earlier front) in
        let same : is_shape (shape_of both c.earlier) (shape_of both f) ≡ true = not-false (is_shape (shape_of both c.earlier) (shape_of both f)) (subst (λ (o : Option Shape). is_other_shape o (shape_of both f) ≡ false) was fits) in
        differ-shape both c.earlier c.fact c.other (shape-equal (shape_of both c.earlier) (shape_of both f) same ∙ ap (shape_of both) e)

    by : (AreShapes both (noted met f.name (shape_of both f)) (before ++ f ∷ []) → has_clash both (noted met f.name (shape_of both f)) fs ≡ false → HasClash (Differ both) (before ++ f ∷ []) fs → ⊥)
        → (k : ℕ) → slice_get (f ∷ fs) k ≡ Some c.fact → Contains (before ++ take k (f ∷ fs)) c.earlier → ⊥
    by later zero s k = let e : f ≡ c.fact = cc in here e (subst (λ (hs : List Fact). Contains hs c.earlier) (append-nil before) k)
    by later (suc j) s k =
        later (shapes-more both met before f are fits) rest (record {
          at = j;
          fact = c.fact;
          stands = s;
          earlier = c.earlier;
          before = subst (λ (hs : List Fact). Contains hs c.earlier) (sym (append_assoc before (f ∷ []) (take j fs))) k;
          name = c.name;
          other = c.other;
        })
