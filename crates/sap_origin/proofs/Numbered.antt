-- Definitions by their numbers.
use Rattle.std.proofs.Common.{◌≡◌, ◌<◌, ℕ, zero, suc, List, [], ◌∷◌, length, Option, Some, refl, sym, ap, ◌∙◌, arith}
use Rattle.std.proofs.lemmas.Option.{slice_get-map, slice_get_within}
use Rattle.std.specs.Prelude.{option_map, slice_get, slice_index_or}
use Rattle.sap_macro.specs.Indexed.{IsIndex}
use Rattle.sap_macro.specs.Sources.{definition_of, definitions}
use Rattle.sap_macro.specs.Written as plain
use Rattle.sap_macro.specs.declared.definition.Definition.{Definition}
use Rattle.sap_origin.specs.Definitions.{located_definitions, with_words}

got : (ns : List ℕ) (k : ℕ) → k < length ns → slice_get ns k ≡ Some (slice_index_or ns k 0)
got [] k h = absurd (omega (arith, h))
got (n ∷ ns) zero h = refl
got (n ∷ ns) (suc k) h = got ns k (omega (arith, h))

numbered : (ds : List Definition) (ns : List ℕ) (k : ℕ) (d : Definition) (n : ℕ) → slice_get ds k ≡ Some d → slice_get ns k ≡ Some n → slice_get (located_definitions ds ns) k ≡ Some (with_words d n)
numbered [] ns k d n e h = absurd (cc (e))
numbered (c ∷ ds) [] k d n e h = absurd (cc (h))
numbered (c ∷ ds) (m ∷ ns) zero d n e h =
    let is : c ≡ d = cc (e) in
    let number : m ≡ n = cc (h) in
    λ i. Some (with_words (is i) (number i))
numbered (c ∷ ds) (m ∷ ns) (suc k) d n e h = numbered ds ns k d n e h

pub located_at : (ds : List Definition) (ns : List ℕ) (k : ℕ) (d : Definition) → length ns ≡ length ds → slice_get ds k ≡ Some d
    → slice_get (located_definitions ds ns) k ≡ Some (with_words d (slice_index_or ns k 0))
located_at ds ns k d count e =
    let within = slice_get_within ds k d e in
    numbered ds ns k d (slice_index_or ns k 0) e (got ns k (omega (arith, within, count)))

pub at_plain : (ds : List Definition) (k : ℕ) (d : Definition) → slice_get ds k ≡ Some d → slice_get (definitions ds) k ≡ Some (definition_of d)
at_plain ds k d e = slice_get-map definition_of ds k ∙ ap (option_map definition_of) e

-- the definition that a number stands for has the name
pub name_at : (ds : List Definition) (f : List ℕ) (k : ℕ) (d : Definition) → slice_get ds k ≡ Some d → IsIndex (definitions ds) f (Some k) → d.name ≡ f
name_at ds f k d at index =
    let same : ◌≡◌ {A = Option plain.Definition} (Some (definition_of d)) (Some index.0) = sym (at_plain ds k d at) ∙ index.1 in
    let one : definition_of d ≡ index.0 = cc (same) in
    ap (λ (e : plain.Definition). e.name) one ∙ index.2
