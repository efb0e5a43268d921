-- Through the use of a name.
use Rattle.std.proofs.Common.{◌≡◌, ◌<◌, ℕ, zero, suc, true, false, List, [], ◌∷◌, length, take, drop, Option, Some, refl, sym, ap, subst, ◌∙◌, arith}
use Rattle.std.specs.Prelude.{slice_get, slice_index_or}
use Rattle.std.specs.Borrow.{Bor}
use Rattle.std.proofs.lemmas.Option.{slice_get_within}
use Rattle.sap_terms.specs.Tree.{Tree}
use Rattle.sap_terms.specs.Variables.{is_known}
use Rattle.sap_macro.specs.Indexed.{IsIndex, defined}
use Rattle.sap_macro.specs.Located.{Located, call_at, without_numbers}
use Rattle.sap_macro.specs.Order.{AreInOrder, UsesOnly}
use Rattle.sap_macro.specs.Sources.{definition_of, definitions, located, written}
use Rattle.sap_macro.specs.Written as plain
use Rattle.sap_macro.specs.Written.{Written}
use Rattle.sap_macro.specs.declared.definition.Definition.{Definition}
use Rattle.sap_macro.specs.declared.source.Source.{Source}
use Rattle.sap_origin.specs.Definitions.{LocatedDefinition, located_definitions}
use Rattle.sap_origin.specs.Meant as meant
use Rattle.sap_origin.specs.Reached.{Reaches, Standing, entered}
use Rattle.sap_roles.specs.code.Steps.{AreSame, GoesOn, IsWithin, StandsSo}
use Rattle.sap_roles.specs.declared.role.Here.{Here}
use Rattle.sap_roles.proofs.Ordered.{before_bound, body_uses, stands_at, stands_nowhere}
use Rattle.sap_roles.proofs.Plain.{IsPlain}
use Rattle.sap_roles.proofs.Walked.{not_used, same_used}

got : (ns : List ℕ) (k : ℕ) → k < length ns → slice_get ns k ≡ Some (slice_index_or ns k 0)
got [] k h = absurd (omega arith)
got (n ∷ ns) zero h = refl
got (n ∷ ns) (suc k) h = got ns k (omega arith)

at_plain : (ds : List Definition) (k : ℕ) (d : Definition) → slice_get ds k ≡ Some d → slice_get (definitions ds) k ≡ Some (definition_of d)
at_plain [] k d e = absurd (cc (e))
at_plain (c ∷ ds) zero d e = let is : c ≡ d = cc (e) in rw is refl
at_plain (c ∷ ds) (suc k) d e = at_plain ds k d e

module _ (law : IsPlain) (defs : List Definition) (ns : List ℕ) (order : AreInOrder [] (definitions defs)) (count : length ns ≡ length defs) (h : Here) (left : ℕ) (f : List ℕ) (ts : List Tree)
    (is : located h.source.now ≡ call_at left f ts) (path : List ℕ) (s : Standing) (l role : Option (List ℕ)) (so : StandsSo (definitions defs) l role h)
    (within : IsWithin (definitions defs) path h) where
  -- what nothing defines leads nowhere
  pub undefined : is_known (defined (definitions defs)) f ≡ false → (z : Standing) (w : Located) → Reaches (located_definitions defs ns) s (located h.source.now) (drop h.at path) z w → ⊥
  undefined none = subst (λ (p : Located). (z : Standing) (w : Located) → Reaches (located_definitions defs ns) s p (drop h.at path) z w → ⊥) (sym is)
      (not_used (located_definitions defs ns) s left f ts (drop h.at path) (stands_nowhere defs ns f none))

  module _ (k : ℕ) (d : Definition) (at : slice_get defs k ≡ Some d) (index : IsIndex (definitions defs) f (Some k)) (r : Bor Source) (body : r.now ≡ d.body.value) where
    name_is : d.name ≡ f
    name_is =
        let same : ◌≡◌ {A = Option plain.Definition} (Some (definition_of d)) (Some index.0) = sym (at_plain defs k d at) ∙ index.1 in
        let one : definition_of d ≡ index.0 = cc (same) in
        ap (λ (e : plain.Definition). e.name) one ∙ index.2

    below : k < length defs
    below = slice_get_within defs k d at

    abbrev there : LocatedDefinition
    there = record { name = d.name; params = d.params; body = located d.body.value; behind = slice_index_or ns k 0 }

    stands : meant.definition_of (located_definitions defs ns) f ≡ Some there
    stands =
        let inside : k < length ns = let b = below in omega (arith, b, count) in
        subst (λ (g : List ℕ). meant.definition_of (located_definitions defs ns) g ≡ Some there) name_is (stands_at [] defs ns k d (slice_index_or ns k 0) order at (got ns k inside))

    earlier : k < h.bound
    earlier =
        let used : UsesOnly (defined (take h.bound (definitions defs))) (without_numbers (located h.source.now)) =
        subst (λ (w : Written). UsesOnly (defined (take h.bound (definitions defs))) w) (sym (law h.source.now)) within.uses in
        let known : is_known (defined (take h.bound (definitions defs))) f ≡ true =
        subst (λ (p : Located). UsesOnly (defined (take h.bound (definitions defs))) (without_numbers p)) is used in
        before_bound [] (definitions defs) h.bound k (definition_of d) order (at_plain defs k d at)
        (subst (λ (g : List ℕ). is_known (defined (take h.bound (definitions defs))) g ≡ true) (sym name_is) known)

    pub goes_through : GoesOn (definitions defs) (located_definitions defs ns) path s l role h (record { source = r; inside = Some k; role = h.role; bound = k; at = h.at })
    goes_through = record {
      standing = entered s left there;
      inside = Some f;
      role = role;
      stands = record { inside_is = index; role_is = so.role_is };
      within = record {
        uses = subst (λ (b : Source). UsesOnly (defined (take k (definitions defs))) (written b)) (sym body)
            (body_uses [] (definitions defs) k (definition_of d) (defined (take k (definitions defs))) order (at_plain defs k d at) (λ g none. absurd (cc (none))) (λ g known. known));
        bounded = let b = earlier in let c = within.bounded in omega (arith, b, c);
        at_most = within.at_most;
      };
      same = subst (λ (b : Source). AreSame (located_definitions defs ns) s l role (located h.source.now) (drop h.at path) (entered s left there) (Some f) role (located b) (drop h.at path)) (sym body)
          (subst (λ (p : Located). AreSame (located_definitions defs ns) s l role p (drop h.at path) (entered s left there) (Some f) role (located d.body.value) (drop h.at path)) (sym is)
          (same_used (located_definitions defs ns) s l role left f ts there (drop h.at path) stands));
      less = let b = earlier in omega (arith, b);
    }
