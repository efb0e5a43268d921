-- What is told of names that nothing defines, in a file whose bodies are these.
use Rattle.std.proofs.Common.{◌≡◌, ℕ, List, [], Option, Some, None, map, refl, sym, ap, subst, ◌∙◌}
use Rattle.std.specs.Prelude.{Err, Result}
use Rattle.sap_terms.specs.Signature.{pairs_alone}
use Rattle.sap_text.specs.declared.token.Token.{Token}
use Rattle.sap_grammar.specs.Signatures.{clash_from}
use Rattle.sap_statements.specs.declared.statement.Statement.{Statement}
use Rattle.sap_read.specs.Causes.{cause}
use Rattle.sap_read.specs.Files.{FileContent, IsRead, refused}
use Rattle.sap_read.specs.Item.{Body, bodies, declarations, statements}
use Rattle.sap_read.specs.LocatedItems.{LocatedBody, plain_body}
use Rattle.sap_read.specs.UndefinedNames.{HasBodies, UsedName, first_undefined}
use Rattle.sap_read.specs.declared.fault.ReadFault.{ReadFault}
use Rattle.sap_read.specs.declared.fault.ReadFault.TheVariants.{UnknownProcess}
use Rattle.sap_read_places.specs.UndefinedPlaces.{IsUndefinedPlace}
use Rattle.sap_read_places.specs.UseExamples.{told_before}
use Rattle.sap_read_places.specs.declared.told.Told.{Told}
use Rattle.sap_read_places.proofs.Along.{PlainBodies}
use Rattle.sap_read_places.proofs.Undefined.{HasSameBodies, HasSameTokens, one_undefined_place}

-- a file whose bodies are these is refused for this, whatever else stands in it
abbrev pub IsCauseOf : List LocatedBody → ReadFault → Type 0
IsCauseOf bs e = (ss : List Statement) (o : Option (List ℕ)) → cause (map plain_body bs) ss o ≡ Some e

abbrev pub OneRead : Type 0
OneRead = (z : List ℕ) (o u : Result FileContent ReadFault) → IsRead z o → IsRead z u → o ≡ u

same_fault : {e f : ReadFault} → ◌≡◌ {A = Result FileContent ReadFault} (Err e) (Err f) → e ≡ f
same_fault e = cc (e)

some_used : {u v : UsedName} → ◌≡◌ {A = Option UsedName} (Some u) (Some v) → u ≡ v
some_used e = cc (e)

module _ (plain : PlainBodies) {z : List ℕ} {ts : List Token} {bs : List LocatedBody} (has : HasBodies z ts bs) where
  pub is_refused : (e : ReadFault) → IsCauseOf bs e → IsRead z (Err e)
  is_refused e c =
      let is = has.standing in
      let here : map plain_body bs ≡ bodies is = ap (map plain_body) has.bodies_are ∙ plain _ has.cut is has.items in
      refused has.parted has.items
      (subst (λ (cs : List Body). cause cs (statements is) (clash_from pairs_alone (declarations is)) ≡ Some e) here (c (statements is) (clash_from pairs_alone (declarations is))))

  pub is_told : (u : UsedName) → IsCauseOf bs (UnknownProcess u.name) → first_undefined [] bs ≡ Some u → IsUndefinedPlace z u.name (told_before ts u.word [])
  is_told u c first =
      record { refused = is_refused (UnknownProcess u.name) c; tokens = ts; bodies = bs; has = has; name = u; first = first; name_is = refl; word_is = refl; uses_are = refl }

  module _ (tokens : HasSameTokens) (same : HasSameBodies) where
    -- the name that is told of is the first of these bodies
    pub is_first : {x : List ℕ} {t : Told} (a : IsUndefinedPlace z x t) → first_undefined [] bs ≡ Some a.name
    is_first a = ap (first_undefined []) (same z ts a.tokens bs a.bodies has a.has) ∙ a.first

    pub only_told : (u : UsedName) → IsCauseOf bs (UnknownProcess u.name) → first_undefined [] bs ≡ Some u → (x : List ℕ) (t : Told) → IsUndefinedPlace z x t
        → (x ≡ u.name) × (t ≡ told_before ts u.word [])
    only_told u c first x t a =
        let used : a.name ≡ u = some_used (sym (is_first a) ∙ first) in
        let name : x ≡ u.name = sym a.name_is ∙ ap (λ (v : UsedName). v.name) used in
        (name, one_undefined_place tokens same (subst (λ (y : List ℕ). IsUndefinedPlace z y t) name a) (is_told u c first))

    pub none_told : first_undefined [] bs ≡ None → (x : List ℕ) (t : Told) → IsUndefinedPlace z x t → ⊥
    none_told none x t a = absurd (cc (none, is_first a))

  module _ (one : OneRead) where
    -- a file that is refused for another cause
    pub none_if_other : (e : ReadFault) → IsCauseOf bs e → ((x : List ℕ) → e ≡ UnknownProcess x → ⊥) → (x : List ℕ) (t : Told) → IsUndefinedPlace z x t → ⊥
    none_if_other e c other x t a = other x (same_fault (one z (Err e) (Err (UnknownProcess x)) (is_refused e c) a.refused))
