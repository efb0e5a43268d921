-- What is written has the shape of its expansion.
use Rattle.std.proofs.Common.{◌≡◌, ℕ, suc, Bool, true, false, List, [], ◌∷◌, map, Option, Some, refl, sym, ap, subst, ◌∙◌}
use Rattle.std.specs.Prelude.{if◌then◌else◌, slice_get}
use Rattle.std.specs.Str.{bytes_eq}
use Rattle.sap_terms.proofs.PlainLaws.Known.{one_name}
use Rattle.sap_process.specs.Proc.{Proc}
use Rattle.sap_macro.specs.Expansion.{expansion}
use Rattle.sap_macro.specs.Indexed.{defined}
use Rattle.sap_macro.specs.Located.{Located, nil_at, call_at, parallel_at, replicated_at, act_at, test_at, lookup_at, without_numbers}
use Rattle.sap_macro.specs.Order.{AreInOrder, UsesOnly}
use Rattle.sap_macro.specs.Written.{Written, nil, call, parallel, replicated, act, test, lookup, Definition}
use Rattle.sap_origin.specs.Definitions.{LocatedDefinition, plain_definition}
use Rattle.sap_origin.specs.Meant.{Means, means_nil, means_parallel, means_replicated, means_act, means_test, means_lookup, means_use, definition_of}
use Rattle.sap_beyond.specs.code.Shapes.{Shape, one, two, shape, shape_in, shaped, stands}
use Rattle.sap_beyond.proofs.Kept.{body_shape}

-- what is written, with numbers that nobody looks at
abbrev zeros : Written → Located
zeros nil = nil_at 0
zeros (call f ts) = call_at 0 f ts
zeros (parallel p q) = parallel_at 0 (zeros p) (zeros q)
zeros (replicated p) = replicated_at 0 (zeros p)
zeros (act a p) = act_at 0 a (zeros p)
zeros (test t u p q) = test_at 0 t u (zeros p) (zeros q)
zeros (lookup t x p q) = lookup_at 0 t x (zeros p) (zeros q)

plain_zeros : (w : Written) → without_numbers (zeros w) ≡ w
plain_zeros nil = refl
plain_zeros (call f ts) = refl
plain_zeros (parallel p q) = λ i. parallel (plain_zeros p i) (plain_zeros q i)
plain_zeros (replicated p) = ap replicated (plain_zeros p)
plain_zeros (act a p) = ap (act a) (plain_zeros p)
plain_zeros (test t u p q) = λ i. test t u (plain_zeros p i) (plain_zeros q i)
plain_zeros (lookup t x p q) = λ i. lookup t x (plain_zeros p i) (plain_zeros q i)

abbrev with_zeros : Definition → LocatedDefinition
with_zeros d = record { name = d.name; params = d.params; body = zeros d.body; behind = 0 }

plain_definitions : (ds : List Definition) → map plain_definition (map with_zeros ds) ≡ ds
plain_definitions [] = refl
plain_definitions (d ∷ ds) = λ i. record { name = d.name; params = d.params; body = plain_zeros d.body i } ∷ plain_definitions ds i

-- ---- names stand for bodies

record Stands (ds : List Definition) (f : List ℕ) (b : LocatedDefinition) : Type 0 where
  at : ℕ
  plain : Definition
  there : slice_get ds at ≡ Some plain
  is : with_zeros plain ≡ b
  name : plain.name ≡ f

defined_there : (ds : List Definition) (f : List ℕ) (b : LocatedDefinition) → definition_of (map with_zeros ds) f ≡ Some b → Stands ds f b
defined_there [] f b e = absurd (cc (e))
defined_there (d ∷ ds) f b e = by (bytes_eq d.name f) refl e (λ h. defined_there ds f b h)
  where
    by : (t : Bool) → bytes_eq d.name f ≡ t → (if bytes_eq d.name f then Some (with_zeros d) else definition_of (map with_zeros ds) f) ≡ Some b
        → (definition_of (map with_zeros ds) f ≡ Some b → Stands ds f b) → Stands (d ∷ ds) f b
    by true same h later =
        let here : ◌≡◌ {A = Option LocatedDefinition} (Some (with_zeros d)) (Some b) = rw same at h in
        record { at = 0; plain = d; there = refl; is = cc (here); name = one_name d.name f same }
    by false same h later =
        let r = later (rw same at h) in
        record { at = suc r.at; plain = r.plain; there = r.there; is = r.is; name = r.name }

-- ---- what is meant has one shape

module _ (ds : List LocatedDefinition) (c : List ℕ → Shape) (h : (f : List ℕ) (b : LocatedDefinition) → definition_of ds f ≡ Some b → c f ≡ shaped c (without_numbers b.body)) where
  meant_shape : {q : Located} {x : Proc} → Means ds q x → shape x ≡ shaped c (without_numbers q)
  meant_shape means_nil = refl
  meant_shape (means_parallel m n) = λ i. two (meant_shape m i) (meant_shape n i)
  meant_shape (means_replicated m) = ap one (meant_shape m)
  meant_shape (means_act r names e m) = ap one (meant_shape m)
  meant_shape (means_test r e g m n) = λ i. two (meant_shape m i) (meant_shape n i)
  meant_shape (means_lookup r names e g m n) = λ i. two (meant_shape m i) (meant_shape n i)
  meant_shape (means_use {f = f} {d = d} e m) = meant_shape m ∙ sym (h f d e)

-- what the law of expansions says
abbrev pub AreMeant : Type 0
AreMeant = (ds : List LocatedDefinition) (p : Located) (identifiers : List (List ℕ)) → AreInOrder [] (map plain_definition ds) → UsesOnly (defined (map plain_definition ds)) (without_numbers p)
    → Means ds p (expansion (map plain_definition ds) identifiers (without_numbers p)).process

stood_for : (ds : List Definition) → AreInOrder [] ds → (f : List ℕ) (b : LocatedDefinition) → definition_of (map with_zeros ds) f ≡ Some b → stands ds f ≡ shaped (stands ds) (without_numbers b.body)
stood_for ds order f b e =
    let r = defined_there ds f b e in
    ap (stands ds) (sym r.name) ∙ body_shape ds r.at r.plain order r.there ∙ ap (shaped (stands ds)) (sym (plain_zeros r.plain.body))
    ∙ ap (λ (z : LocatedDefinition). shaped (stands ds) (without_numbers z.body)) r.is

pub shape_is : AreMeant → (ds : List Definition) (p : Written) (identifiers : List (List ℕ)) → AreInOrder [] ds → UsesOnly (defined ds) p → shape (expansion ds identifiers p).process ≡ shape_in ds p
shape_is law ds p identifiers order uses =
    let plain : map plain_definition (map with_zeros ds) ≡ ds = plain_definitions ds in
    let meant : Means (map with_zeros ds) (zeros p) (expansion (map plain_definition (map with_zeros ds)) identifiers (without_numbers (zeros p))).process =
    law (map with_zeros ds) (zeros p) identifiers (subst (AreInOrder []) (sym plain) order)
    (subst (λ (w : Written). UsesOnly (defined (map plain_definition (map with_zeros ds))) w) (sym (plain_zeros p)) (subst (λ (es : List Definition). UsesOnly (defined es) p) (sym plain) uses)) in
    sym (ap (λ (es : List Definition). shape (expansion es identifiers p).process) plain)
    ∙ sym (ap (λ (w : Written). shape (expansion (map plain_definition (map with_zeros ds)) identifiers w).process) (plain_zeros p))
    ∙ meant_shape (map with_zeros ds) (stands ds) (stood_for ds order) meant ∙ ap (shaped (stands ds)) (plain_zeros p)
