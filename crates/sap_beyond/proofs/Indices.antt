-- What is kept by the indices of definitions.
use Rattle.std.proofs.Common.{◌≡◌, ◌<◌, ◌≤◌, ℕ, zero, suc, ◌+◌, ◌-◌, ◌^◌, min, Bool, true, false, List, [], ◌∷◌, ◌++◌, Option, Some, None, length, take, refl, sym, ap, subst, ◌∙◌, ⊎_elim, arith, length-append}
use Rattle.std.specs.Option.{option_map}
use Rattle.std.specs.Prelude.{◌||◌, slice_get}
use Rattle.std.specs.Str.{bytes_eq}
use Rattle.std.proofs.lemmas.Option.{slice_get-map}
use Rattle.sap_terms.proofs.PlainLaws.Known.{one_name, clash, in_head, in_tail}
use Rattle.sap_terms.proofs.PlainLaws.Lists.{front_self}
use Rattle.sap_terms.specs.NameMap.{value_at}
use Rattle.sap_terms.specs.Variables.{is_known}
use Rattle.sap_macro.specs.Indexed.{AreIndexed, IsDefined, IsIndex, defined}
use Rattle.sap_macro.specs.Order.{AreInOrder, UsesOnly}
use Rattle.sap_macro.specs.Sources.{definition_of, definitions}
use Rattle.sap_macro.specs.Written.{Written, Definition}
use Rattle.sap_macro.specs.declared.definition.Definition as code
use Rattle.sap_beyond.specs.code.Shapes.{Shape, one, shaped, stands}
use Rattle.sap_beyond.specs.code.Steps.{AreFirstKept, AreKept, IsOver, extent, kept_at}
use Rattle.sap_beyond.specs.declared.beyond.By.{By}
use Rattle.sap_beyond.specs.declared.beyond.By.TheVariants.{Number, Digits}
use Rattle.sap_beyond.proofs.Found.{got_left, got_right, less_or_not}
use Rattle.sap_beyond.proofs.Kept.{body_shape, body_uses, never_again}

-- ---- definitions by their indices

got_known : (ds : List Definition) (k : ℕ) (d : Definition) → slice_get ds k ≡ Some d → is_known (defined ds) d.name ≡ true
got_known [] k d e = absurd (cc (e))
got_known (b ∷ ds) zero d e =
    let same : b ≡ d = cc (e) in
    subst (λ (a : Definition). is_known (b.name ∷ defined ds) a.name ≡ true) same (in_head b.name (defined ds))
got_known (b ∷ ds) (suc k) d e = in_tail d.name b.name (defined ds) (got_known ds k d e)

-- what is defined among the first is defined
pub taken_known : (ds : List Definition) (n : ℕ) (f : List ℕ) → is_known (defined (take n ds)) f ≡ true → is_known (defined ds) f ≡ true
taken_known [] zero f h = absurd (cc (h))
taken_known [] (suc n) f h = absurd (cc (h))
taken_known (d ∷ ds) zero f h = absurd (cc (h))
taken_known (d ∷ ds) (suc n) f h = by (bytes_eq d.name f) refl h (λ g. taken_known ds n f g)
  where
    by : (t : Bool) → bytes_eq d.name f ≡ t → (bytes_eq d.name f || is_known (defined (take n ds)) f) ≡ true → (is_known (defined (take n ds)) f ≡ true → is_known (defined ds) f ≡ true)
        → (bytes_eq d.name f || is_known (defined ds) f) ≡ true
    by true same g more = rw same refl
    by false other g more = rw other (more (rw other at g))

-- and its index is among theirs
index_before : (ds : List Definition) (known : List (List ℕ)) (n j : ℕ) (f : List ℕ) (d : Definition) → AreInOrder known ds → is_known (defined (take n ds)) f ≡ true → slice_get ds j ≡ Some d → d.name ≡ f → j < n
index_before [] known n j f d order h e is = absurd (cc (e))
index_before (b ∷ ds) known zero j f d order h e is = absurd (cc (h))
index_before (b ∷ ds) known (suc n) zero f d order h e is = omega arith
index_before (b ∷ ds) known (suc n) (suc j) f d order h e is = by (bytes_eq b.name f) refl h (λ g. index_before ds (b.name ∷ known) n j f d order.1.1 g e is)
  where
    twice : is_known (defined ds) f ≡ true
    twice = subst (λ (g : List ℕ). is_known (defined ds) g ≡ true) is (got_known ds j d e)

    by : (t : Bool) → bytes_eq b.name f ≡ t → (bytes_eq b.name f || is_known (defined (take n ds)) f) ≡ true → (is_known (defined (take n ds)) f ≡ true → j < n) → suc j < suc n
    by true same g more =
        let here : is_known (b.name ∷ known) f ≡ true = subst (λ (x : List ℕ). is_known (b.name ∷ known) x ≡ true) (one_name b.name f same) (in_head b.name known) in
        absurd (clash (is_known (defined ds) f) twice (never_again ds (b.name ∷ known) f order.1.1 here))
    by false other g more =
        let less = more (rw other at g) in
        omega (arith, less)

pub there : (defs : List code.Definition) (k : ℕ) (d : code.Definition) → slice_get defs k ≡ Some d → slice_get (definitions defs) k ≡ Some (definition_of d)
there defs k d is = slice_get-map definition_of defs k ∙ ap (option_map definition_of) is

module _ (defs : List code.Definition) (index : List (List ℕ × ℕ)) (indexed : AreIndexed (definitions defs) index) (f : List ℕ) (k : ℕ) (at : value_at index f ≡ Some k) where
  it : IsIndex (definitions defs) f (Some k)
  it = subst (IsIndex (definitions defs) f) at (indexed f)

  pub one_indexed : (d : code.Definition) → slice_get defs k ≡ Some d → IsDefined (definitions defs) f (definition_of d)
  one_indexed d is =
      let same : Some (definition_of d) ≡ Some it.0 = sym (there defs k d is) ∙ it.1 in
      let one_of : definition_of d ≡ it.0 = cc (same) in
      record { at = k; stands = there defs k d is; name_is = ap (λ (e : Definition). e.name) one_of ∙ it.2 }

  pub not_absent : slice_get defs k ≡ None → ⊥
  not_absent none =
      let same : ◌≡◌ {A = Option Definition} None (Some it.0) = sym (slice_get-map definition_of defs k ∙ ap (option_map definition_of) none) ∙ it.1 in
      cc (same)

-- ---- what is kept

module _ (by : By) (ds : List Definition) (order : AreInOrder [] ds) (index : List (List ℕ × ℕ)) (indexed : AreIndexed ds index) where
  first_kept : (n : ℕ) (extents : List ℕ) → AreFirstKept by ds n extents → AreKept by (stands ds) (defined (take n ds)) index extents
  first_kept n extents h f known = at (value_at index f) (indexed f)
    where
      at : (o : Option ℕ) → IsIndex ds f o → kept_at extents o ≡ Some (min (extent by (stands ds f)) (2 ^ 64 - 1))
      at None none = absurd (clash (is_known (defined ds) f) (taken_known ds n f known) none)
      at (Some k) i =
          h.each k i.0 (index_before ds [] n k f i.0 order known i.1 i.2) i.1
          ∙ ap (λ (g : List ℕ). Some (min (extent by (stands ds g)) (2 ^ 64 - 1))) i.2

  pub all_kept : (n : ℕ) (extents : List ℕ) → n ≡ length ds → AreFirstKept by ds n extents → AreKept by (stands ds) (defined ds) index extents
  all_kept n extents same h =
      subst (λ (bs : List Definition). AreKept by (stands ds) (defined bs) index extents) (ap (λ (m : ℕ). take m ds) same ∙ front_self ds) (first_kept n extents h)

  pub none_kept : (extents : List ℕ) → extents ≡ [] → AreFirstKept by ds 0 extents
  none_kept extents none = record { many = ap length none; each = λ k d less e. absurd (omega (arith, less)) }

  module _ (n : ℕ) (extents : List ℕ) (h : AreFirstKept by ds n extents) (d : Definition) (at : slice_get ds n ≡ Some d) (w : Written) (body : w ≡ d.body) (x : ℕ)
      (is : (c : List ℕ → Shape) (names : List (List ℕ)) → AreKept by c names index extents → UsesOnly names w → x ≡ min (extent by (shaped c w)) (2 ^ 64 - 1)) where
    x_is : x ≡ min (extent by (stands ds d.name)) (2 ^ 64 - 1)
    x_is =
        is (stands ds) (defined (take n ds)) (first_kept n extents h)
        (subst (UsesOnly (defined (take n ds))) (sym body) (body_uses ds [] (defined (take n ds)) n d order at (λ f none. absurd (cc (none))) (λ f known. known)))
        ∙ ap (λ (v : Written). min (extent by (shaped (stands ds) v)) (2 ^ 64 - 1)) body ∙ ap (λ s. min (extent by s) (2 ^ 64 - 1)) (sym (body_shape ds n d order at))

    last_kept : (k : ℕ) (b : Definition) → k < n + 1 → n ≤ k → slice_get ds k ≡ Some b → slice_get (extents ++ x ∷ []) k ≡ Some (min (extent by (stands ds b.name)) (2 ^ 64 - 1))
    last_kept k b less from e =
        let many = h.many in
        let same : n ≡ k = omega (arith, less, from) in
        let one_is : Some d ≡ Some b = sym at ∙ ap (slice_get ds) same ∙ e in
        let d_is : d ≡ b = cc (one_is) in
        let place : 0 ≡ k - length extents = omega (arith, many, same) in
        got_right extents (x ∷ []) k x (omega (arith, many, from)) (subst (λ (m : ℕ). slice_get (x ∷ []) m ≡ Some x) place refl)
        ∙ ap Some (x_is ∙ ap (λ (a : Definition). min (extent by (stands ds a.name)) (2 ^ 64 - 1)) d_is)

    pub next_kept : AreFirstKept by ds (n + 1) (extents ++ x ∷ [])
    next_kept =
        let many = h.many in
        let more = length-append extents (x ∷ []) in
        record {
          many = omega (arith, many, more);
          each = λ k b less e.
              ⊎_elim (λ before. got_left extents (x ∷ []) k _ (h.each k b before e)) (λ from. last_kept k b less from e) (less_or_not k n);
        }

-- ---- of a use, and of what stands above others

pub kept_is : (extents : List ℕ) (o : Option ℕ) (k x m : ℕ) → o ≡ Some k → slice_get extents k ≡ Some x → kept_at extents o ≡ Some m → x ≡ m
kept_is extents o k x m at found is =
    let same : Some x ≡ Some m = sym found ∙ sym (ap (kept_at extents) at) ∙ is in
    cc (same)

one_kept : (by : By) (s : Shape) (x r : ℕ) → x ≡ min (extent by s) (2 ^ 64 - 1) → r ≡ min (x + 1) (2 ^ 64 - 1) → r ≡ min (extent by (one s)) (2 ^ 64 - 1)
one_kept Number s x r is e = omega (arith, is, e)
one_kept Digits s x r is e = omega (arith, is, e)

pub over_kept : (by : By) (c : List ℕ → Shape) (w p : Written) (x r : ℕ) → IsOver w p → x ≡ min (extent by (shaped c p)) (2 ^ 64 - 1) → r ≡ min (x + 1) (2 ^ 64 - 1)
    → r ≡ min (extent by (shaped c w)) (2 ^ 64 - 1)
over_kept by c w p x r over is e =
    one_kept by (shaped c p) x r is e ∙ ap (λ s. min (extent by s) (2 ^ 64 - 1)) (sym (over.shape c))
