-- The marks of what rules show.
use Rattle.std.proofs.Common.{◌≡◌, ℕ, List, [], ◌∷◌, ◌++◌, None, refl, ap, ◌∙◌, append-nil, false, Bool}
use Rattle.std.specs.Prelude.{codes, not, ◌&&◌}
use Rattle.std.specs.List.{filter_map}
use Rattle.std.specs.Str.{bytes_eq}
use Rattle.std.proofs.lemmas.Grind.{flat_map-append}
use Rattle.sap_terms.specs.Reserved.{is_reserved}
use Rattle.sap_terms.specs.Trace.{Trace}
use Rattle.sap_terms.specs.Tree.{Tree}
use Rattle.sap_terms.specs.declared.fact.Fact.{Fact}
use Rattle.sap_formula.specs.Hide.{visible, is_hidden}
use Rattle.sap_restrict.specs.ReservedFacts.{event_fact}
use Rattle.sap_runs.specs.Marks.{marks_of}
use Rattle.sap_steps.specs.Inner.{inner_of, inner_of_one, inner_of_two}
use Rattle.sap_steps.specs.Marks.{marks}
use Rattle.sap_translate.proofs.Shared.Facts.{not_reserved}
use Rattle.sap_translate.specs.Members.{Member}
use Rattle.sap_templates.specs.Templates.{embedded_acts}

pub marks_join : (full more : Trace) → marks (full ++ more) ≡ marks full ++ marks more
marks_join full more = flat_map-append (λ acts. marks_of (filter_map inner_of acts) (visible acts)) full more

one_inner : (n : List ℕ) (t : Tree) → is_reserved n ≡ false → inner_of_one n t ≡ None
one_inner n t h = rw (not_reserved n (codes "IsNotSet") h refl, not_reserved n (codes "Delete") h refl) refl

two_inner : (n : List ℕ) (t u : Tree) → is_reserved n ≡ false → inner_of_two n t u ≡ None
two_inner n t u h = rw (not_reserved n (codes "Eq") h refl, not_reserved n (codes "NotEq") h refl, not_reserved n (codes "IsIn") h refl, not_reserved n (codes "Insert") h refl, not_reserved n (codes "Lock") h refl, not_reserved n (codes "Unlock") h refl) refl

inner_none : (n : List ℕ) (b : Bool) (ts : List Tree) → is_reserved n ≡ false → inner_of (record { name = n; persistent = b; args = ts }) ≡ None
inner_none n b [] h = refl
inner_none n b (t ∷ []) h = one_inner n t h
inner_none n b (t ∷ u ∷ []) h = two_inner n t u h
inner_none n b (t ∷ u ∷ v ∷ ts) h = refl

all_inner : (fs : List Fact) → ((f : Fact) → Member f fs → is_reserved f.name ≡ false) → filter_map inner_of fs ≡ []
all_inner [] h = refl
all_inner (f ∷ fs) h = rw (inner_none f.name f.persistent f.args (h f Member.here)) (all_inner fs (λ x m. h x (Member.later m)))

not_hidden : (name : List ℕ) → is_reserved name ≡ false → is_hidden name ≡ false
not_hidden name e = ap (λ b. b && not (bytes_eq name (codes "K"))) e

all_visible : (fs : List Fact) → ((f : Fact) → Member f fs → is_reserved f.name ≡ false) → visible fs ≡ fs
all_visible [] h = refl
all_visible (f ∷ fs) h = rw (not_hidden f.name (h f Member.here)) (ap (λ xs. f ∷ xs) (all_visible fs (λ x m. h x (Member.later m))))

-- the facts of an embedded rule do nothing inside, and are seen
pub embedded_marks : (fs : List Fact) → ((f : Fact) → Member f fs → is_reserved f.name ≡ false) → marks (embedded_acts fs ∷ []) ≡ marks_of [] fs
embedded_marks [] h = refl
embedded_marks (f ∷ fs) h = append-nil (marks_of (filter_map inner_of (event_fact ∷ f ∷ fs)) (visible (event_fact ∷ f ∷ fs))) ∙ (λ i. marks_of (all_inner (f ∷ fs) h i) (all_visible (f ∷ fs) h i))

-- nor does that of an event
pub event_marks : (f : Fact) → is_reserved f.name ≡ false → marks ((event_fact ∷ f ∷ []) ∷ []) ≡ marks_of [] (f ∷ [])
event_marks f h = embedded_marks (f ∷ []) only where
  only : (x : Fact) → Member x (f ∷ []) → is_reserved x.name ≡ false
  only x Member.here = h
  only x (Member.later m) = elim m [ ]
