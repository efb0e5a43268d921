-- To what one comes is there.
use Rattle.std.proofs.Common.{◌≡◌, ℕ, Bool, true, false, List, [], ◌∷◌, Option, Some, None, map, refl, sym, ap, subst, ◌∙◌}
use Rattle.std.specs.Prelude.{Contains, if◌then◌else◌}
use Rattle.std.specs.Str.{bytes_eq}
use Rattle.std.proofs.lemmas.Slice.Eq.{bytes_eq-Decides}
use Rattle.sap_terms.specs.Tree.{Tree}
use Rattle.sap_terms.specs.Variables.{is_known}
use Rattle.sap_terms.proofs.PlainLaws.Items.{first_item, later_item}
use Rattle.sap_macro.specs.Expansion.{plain, plain_after, where_none}
use Rattle.sap_macro.specs.Indexed.{defined}
use Rattle.sap_macro.specs.Located.{Located, nil_at, call_at, parallel_at, replicated_at, act_at, test_at, lookup_at, without_numbers}
use Rattle.sap_macro.specs.Seen.{seen}
use Rattle.sap_macro.specs.Written.{Written, call, Definition}
use Rattle.sap_nodes.specs.HeadNodes.{head_nodes}
use Rattle.sap_origin.specs.Definitions.{LocatedDefinition, plain_definition}
use Rattle.sap_origin.specs.Meant.{definition_of}
use Rattle.sap_origin.specs.Reached.{Standing, process_at, IsLeft, IsSeen, reaches_here, reaches_use, reaches_left, reaches_right, reaches_copy, reaches_behind, reaches_then, reaches_else, reaches_found, reaches_missing}
use Rattle.sap_origin.specs.declared.trail.Replaced.TheVariants.{Plain}
use Rattle.sap_seen.specs.SeenNodes.{seen_nodes}
use Rattle.sap_seen.specs.SeenPlaces.{ComesSeen, seen_of}
use Rattle.sap_seen.proofs.SeenSo.{NamesStand}

-- the definition has the name that it stands for
name_of : (ds : List LocatedDefinition) (f : List ℕ) (d : LocatedDefinition) → definition_of ds f ≡ Some d → d.name ≡ f
name_of [] f d e = absurd (cc (e))
name_of (c ∷ ds) f d e = by (bytes_eq c.name f) refl e (λ h. name_of ds f d h)
  where
    by : (t : Bool) → bytes_eq c.name f ≡ t → (if t then Some c else definition_of ds f) ≡ Some d → (definition_of ds f ≡ Some d → d.name ≡ f) → d.name ≡ f
    by true is h rest =
        let one : c ≡ d = cc (h) in
        sym (ap (λ (b : LocatedDefinition). b.name) one) ∙ (bytes_eq-Decides c.name f).0 is
    by false is h rest = rest h

plain_among : (ds : List LocatedDefinition) (f : List ℕ) (d : LocatedDefinition) → definition_of ds f ≡ Some d → Contains (map plain_definition ds) (plain_definition d)
plain_among [] f d e = absurd (cc (e))
plain_among (c ∷ ds) f d e = by (bytes_eq c.name f) e (λ h. plain_among ds f d h)
  where
    by : (t : Bool) → (if t then Some c else definition_of ds f) ≡ Some d → (definition_of ds f ≡ Some d → Contains (map plain_definition ds) (plain_definition d))
        → Contains (map plain_definition (c ∷ ds)) (plain_definition d)
    by true h rest =
        let is : c ≡ d = cc (h) in
        subst (λ (b : LocatedDefinition). Contains (map plain_definition (c ∷ ds)) (plain_definition b)) is (first_item (plain_definition c) (map plain_definition ds))
    by false h rest = later_item (plain_definition c) (map plain_definition ds) (plain_definition d) (rest h)

-- a name that no definition has is none of theirs
unknown : (ds : List LocatedDefinition) (f : List ℕ) → definition_of ds f ≡ None → is_known (defined (map plain_definition ds)) f ≡ false
unknown [] f e = refl
unknown (c ∷ ds) f e = by (bytes_eq c.name f) refl e (λ h. unknown ds f h)
  where
    by : (t : Bool) → bytes_eq c.name f ≡ t → (if t then Some c else definition_of ds f) ≡ None → (definition_of ds f ≡ None → is_known (defined (map plain_definition ds)) f ≡ false)
        → is_known (defined (map plain_definition (c ∷ ds))) f ≡ false
    by true is h rest = absurd (cc (h))
    by false is h rest = rw is (rest h)

where_some : (xs : List (List ℕ)) (p q : Written) → ¬ (xs ≡ []) → where_none xs p q ≡ q
where_some [] p q some = absurd (some refl)
where_some (x ∷ xs) p q some = refl

abbrev pub OthersStay : List Definition → Type 0
OthersStay ds = (f : List ℕ) (ts : List Tree) → is_known (map (λ (d : Definition). d.name) ds) f ≡ false → plain_after call ds f ts ≡ call f ts

module _ (ds : List LocatedDefinition) (law : NamesStand (map plain_definition ds)) (others : OthersStay (map plain_definition ds)) where
  -- a use that is left stays
  stays : (f : List ℕ) (ts : List Tree) → IsLeft ds Plain f → plain_after call (map plain_definition ds) f ts ≡ call f ts
  stays f ts left = by (definition_of ds f) refl
    where
      by : (o : Option LocatedDefinition) → definition_of ds f ≡ o → plain_after call (map plain_definition ds) f ts ≡ call f ts
      by None e = others f ts (unknown ds f e)
      by (Some d) e =
          subst (λ (g : List ℕ). plain_after call (map plain_definition ds) g ts ≡ call g ts) (name_of ds f d e)
          (law (plain_definition d) ts (plain_among ds f d e) ∙ where_some d.params (plain (map plain_definition ds) (without_numbers d.body)) (call d.name ts) (left d e))

  -- another stands for the body of its definition
  stands_for : (f : List ℕ) (ts : List Tree) (d : LocatedDefinition) → definition_of ds f ≡ Some d → d.params ≡ []
      → plain_after call (map plain_definition ds) f ts ≡ plain (map plain_definition ds) (without_numbers d.body)
  stands_for f ts d e none =
      let own : plain_after call (map plain_definition ds) f ts ≡ where_none d.params (plain (map plain_definition ds) (without_numbers d.body)) (call f ts) =
      subst (λ (g : List ℕ). plain_after call (map plain_definition ds) g ts ≡ where_none d.params (plain (map plain_definition ds) (without_numbers d.body)) (call g ts)) (name_of ds f d e)
      (law (plain_definition d) ts (plain_among ds f d e)) in
      own ∙ ap (λ (xs : List (List ℕ)). where_none xs (plain (map plain_definition ds) (without_numbers d.body)) (call f ts)) none

  pub nodes_are : (q : Located) → IsSeen ds q → head_nodes (seen_of ds q) ≡ seen_nodes q
  nodes_are (nil_at k) s = refl
  nodes_are (call_at k f ts) s = ap (λ (w : Written). head_nodes (seen w)) (stays f ts s)
  nodes_are (parallel_at k p q) s = refl
  nodes_are (replicated_at k p) s = refl
  nodes_are (act_at k a p) s = refl
  nodes_are (test_at k t u p q) s = refl
  nodes_are (lookup_at k t x p q) s = refl

  -- where one comes to is seen
  pub is_seen : {s z : Standing} {p q : Located} {path : List ℕ} → ComesSeen ds s p path z q → IsSeen ds q
  is_seen (reaches_here h) = h
  is_seen (reaches_use e none m) = is_seen m
  is_seen (reaches_left m) = is_seen m
  is_seen (reaches_right m) = is_seen m
  is_seen (reaches_copy m) = is_seen m
  is_seen (reaches_behind m) = is_seen m
  is_seen (reaches_then m) = is_seen m
  is_seen (reaches_else m) = is_seen m
  is_seen (reaches_found m) = is_seen m
  is_seen (reaches_missing m) = is_seen m

  pub there : {s z : Standing} {p q : Located} {path : List ℕ} → ComesSeen ds s p path z q → process_at (seen_of ds p) path ≡ Some (seen_of ds q)
  there (reaches_here h) = refl
  there (reaches_use {f = f} {ts = ts} {d = d} {path = path} {q = q} e none m) =
      subst (λ (w : Written). process_at (seen w) path ≡ Some (seen_of ds q)) (sym (stands_for f ts d e none)) (there m)
  there (reaches_left m) = there m
  there (reaches_right m) = there m
  there (reaches_copy m) = there m
  there (reaches_behind m) = there m
  there (reaches_then m) = there m
  there (reaches_else m) = there m
  there (reaches_found m) = there m
  there (reaches_missing m) = there m
