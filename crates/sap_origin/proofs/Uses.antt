-- Through the use of a name.
use Rattle.std.proofs.Common.{◌≡◌, ◌<◌, ℕ, true, false, List, [], ◌∷◌, length, map, take, drop, Option, Some, refl, sym, ap, subst, ◌∙◌, arith}
use Rattle.std.specs.Prelude.{slice_get, slice_index_or}
use Rattle.std.specs.Borrow.{Bor}
use Rattle.sap_terms.specs.Tree.{Tree}
use Rattle.sap_terms.specs.Variables.{is_known}
use Rattle.sap_macro.specs.Indexed.{defined}
use Rattle.sap_macro.specs.Located.{Located, call_at, without_numbers}
use Rattle.sap_macro.specs.Order.{AreInOrder, UsesOnly}
use Rattle.sap_macro.specs.Sources.{definition_of, definitions, located, written}
use Rattle.sap_macro.specs.Written as plain
use Rattle.sap_macro.specs.Written.{Written}
use Rattle.sap_macro.specs.declared.definition.Definition.{Definition}
use Rattle.sap_macro.specs.declared.source.Source.{Source}
use Rattle.sap_origin.specs.Definitions.{LocatedDefinition, located_definitions, plain_definition, with_words}
use Rattle.sap_origin.specs.Meant as meant
use Rattle.sap_origin.specs.Reached.{IsLeft, IsReplaced, Standing, entered}
use Rattle.sap_origin.specs.code.Steps.{AreSame, GoesOn, IsWithin}
use Rattle.sap_origin.specs.declared.trail.Here.{Here}
use Rattle.sap_origin.specs.declared.trail.Replaced.{Replaced}
use Rattle.sap_origin.specs.declared.trail.Replaced.TheVariants.{Plain}
use Rattle.sap_origin.specs.declared.trail.Use.{Use}
use Rattle.sap_origin.proofs.Numbered.{at_plain, located_at}
use Rattle.sap_origin.proofs.Ordered.{before_bound, body_uses, stands_for, stands_nowhere}
use Rattle.sap_origin.proofs.Plain.{IsPlain, plain_definitions}
use Rattle.sap_origin.proofs.Walked.{same_used}

some_is : {d e : LocatedDefinition} → ◌≡◌ {A = Option LocatedDefinition} (Some d) (Some e) → d ≡ e
some_is h = cc (h)

module _ (law : IsPlain) (defs : List Definition) (order : AreInOrder [] (definitions defs)) (ns : List ℕ) (count : length ns ≡ length defs) where
  -- a use of a name that nothing defines is left
  pub undefined : (v : Replaced) (f : List ℕ) → is_known (defined (definitions defs)) f ≡ false → IsLeft (located_definitions defs ns) v f
  undefined v f unknown d e g =
      let none : is_known (defined (map plain_definition (located_definitions defs ns))) f ≡ false =
      subst (λ (es : List plain.Definition). is_known (defined es) f ≡ false) (sym (plain_definitions law defs ns count)) unknown in
      absurd (cc (stands_nowhere (located_definitions defs ns) f none, e))

  module _ (f : List ℕ) (k : ℕ) (d : Definition) (at : slice_get defs k ≡ Some d) (name_is : d.name ≡ f) where
    abbrev there : LocatedDefinition
    there = with_words d (slice_index_or ns k 0)

    stands : slice_get (located_definitions defs ns) k ≡ Some there
    stands = located_at defs ns k d count at

    meant_there : meant.definition_of (located_definitions defs ns) f ≡ Some there
    meant_there =
        let ordered : AreInOrder [] (map plain_definition (located_definitions defs ns)) =
        subst (λ (es : List plain.Definition). AreInOrder [] es) (sym (plain_definitions law defs ns count)) order in
        subst (λ (g : List ℕ). meant.definition_of (located_definitions defs ns) g ≡ Some there) name_is (stands_for [] (located_definitions defs ns) k there ordered stands)

    -- a use of a name with parameters is left, where those without are replaced
    pub with_parameters : ¬ (d.params ≡ []) → IsLeft (located_definitions defs ns) Plain f
    with_parameters some e is none = some (ap (λ (c : LocatedDefinition). c.params) (some_is (sym meant_there ∙ is)) ∙ none)

    module _ (v : Replaced) (replaced : IsReplaced v d.params) (h : Here) (left : ℕ) (ts : List Tree) (is : located h.source.now ≡ call_at left f ts) (path : List ℕ) (s : Standing)
        (so : s.behind ≡ h.behind) (within : IsWithin (definitions defs) path h) (r : Bor Source) (body : r.now ≡ d.body.value) where
      earlier : k < h.bound
      earlier =
          let used : UsesOnly (defined (take h.bound (definitions defs))) (without_numbers (located h.source.now)) =
          subst (λ (w : Written). UsesOnly (defined (take h.bound (definitions defs))) w) (sym (law h.source.now)) within.uses in
          let known : is_known (defined (take h.bound (definitions defs))) f ≡ true =
          subst (λ (p : Located). UsesOnly (defined (take h.bound (definitions defs))) (without_numbers p)) is used in
          before_bound [] (definitions defs) h.bound k (definition_of d) order (at_plain defs k d at)
          (subst (λ (g : List ℕ). is_known (defined (take h.bound (definitions defs))) g ≡ true) (sym name_is) known)

      abbrev used_here : Use
      used_here = record { source = h.source; behind = h.behind; definition = k }

      pub goes_through : GoesOn (definitions defs) (located_definitions defs ns) v path s h (Some (record { source = h.source; behind = h.behind; definition = k }))
          (record { source = r; behind = slice_index_or ns k 0; bound = k; at = h.at })
      goes_through = record {
        standing = entered s left there;
        behind_is = refl;
        within = record {
          uses = subst (λ (b : Source). UsesOnly (defined (take k (definitions defs))) (written b)) (sym body)
              (body_uses [] (definitions defs) k (definition_of d) (defined (take k (definitions defs))) order (at_plain defs k d at) (λ g none. absurd (cc (none))) (λ g known. known));
          bounded = let b = earlier in let c = within.bounded in omega (arith, b, c);
          at_most = within.at_most;
        };
        same = subst (λ (b : Source). AreSame (located_definitions defs ns) v s (located h.source.now) (drop h.at path) (used_here ∷ []) (entered s left there) (located b) (drop h.at path)) (sym body)
            (subst (λ (p : Located). AreSame (located_definitions defs ns) v s p (drop h.at path) (used_here ∷ []) (entered s left there) (located d.body.value) (drop h.at path)) (sym is)
            (same_used (located_definitions defs ns) v s left f ts there (drop h.at path) used_here meant_there replaced (record { place_is = sym is; behind_is = so; definition_is = stands })));
        less = let b = earlier in omega (arith, b);
      }
