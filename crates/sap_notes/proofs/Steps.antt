-- One word more.
use Rattle.std.proofs.Common.{◌≡◌, ◌+◌, ℕ, Option, List, ◌++◌, add-one, ap, ◌∙◌, append_assoc}
use Rattle.sap_terms.specs.Signature.{Sig}
use Rattle.sap_text.specs.declared.token.Token.{Token}
use Rattle.sap_stretches.specs.Stretches.{stretch_at}
use Rattle.sap_stretches.specs.declared.stretch.Stretch.{Stretch}
use Rattle.sap_notes.specs.code.FirstNotes.{first_notes, new_note, seen_before}
use Rattle.sap_notes.specs.code.Walk.{declared_name, declared_names, declared_notes, defined_name, defined_notes, notes_before, with_named}
use Rattle.sap_notes.specs.declared.note.Kind.{Kind}
use Rattle.sap_notes.specs.declared.note.Note.{Note}

module _ (z : List ℕ) (ts : List Token) (k : ℕ) (known : List (List ℕ)) where
  pub next_declared : (more : List (List ℕ)) → known ≡ declared_names z ts k → more ≡ with_named known (declared_name z ts k) → more ≡ declared_names z ts (k + 1)
  next_declared more is e = rw add-one (e ∙ ap (λ (m : List (List ℕ)). with_named m (declared_name z ts k)) is)

module _ (g : Sig) (symbols led : List (List ℕ)) (z : List ℕ) (ts : List Token) (k : ℕ) (known : List (List ℕ)) (before more all : List Note) where
  pub next_notes : known ≡ declared_names z ts k → before ≡ notes_before g symbols led z ts k → more ≡ before ++ declared_notes g symbols known (declared_name z ts k) (stretch_at ts k)
      → all ≡ more ++ defined_notes led (defined_name z ts k) (stretch_at ts k) → all ≡ notes_before g symbols led z ts (k + 1)
  next_notes is so e f = rw add-one (f ∙ (ap (λ (m : List Note). m ++ last) (e ∙ ap (λ (m : List Note). m ++ first known) so)
      ∙ (append_assoc (notes_before g symbols led z ts k) (first known) last
      ∙ ap (λ (m : List (List ℕ)). notes_before g symbols led z ts k ++ (first m ++ last)) is))) where
        first : List (List ℕ) → List Note
        first m = declared_notes g symbols m (declared_name z ts k) (stretch_at ts k)

        last : List Note
        last = defined_notes led (defined_name z ts k) (stretch_at ts k)

-- one fact more
module _ (at : ℕ → Option (List ℕ)) (known : List (List ℕ)) (kind : Kind) (ts : List Token) (k : ℕ) (o : Option (List ℕ)) (is : o ≡ at k) (seen : List (List ℕ)) (was : seen ≡ seen_before at known k) where
  pub next_seen : (more : List (List ℕ)) → more ≡ with_named seen o → more ≡ seen_before at known (k + 1)
  next_seen more e = rw add-one (e ∙ (ap (λ (m : List (List ℕ)). with_named m o) was ∙ ap (with_named (seen_before at known k)) is))

  pub next_first : (word : Stretch) → word ≡ stretch_at ts k → (before all : List Note) → before ≡ first_notes at known kind ts k → all ≡ before ++ new_note kind seen o word
      → all ≡ first_notes at known kind ts (k + 1)
  next_first word there before all so e = rw add-one (e ∙ (ap (λ (m : List Note). m ++ new_note kind seen o word) so
      ∙ (ap (λ (s : Stretch). first_notes at known kind ts k ++ new_note kind seen o s) there
      ∙ (ap (λ (m : List (List ℕ)). first_notes at known kind ts k ++ new_note kind m o (stretch_at ts k)) was
      ∙ ap (λ (p : Option (List ℕ)). first_notes at known kind ts k ++ new_note kind (seen_before at known k) p (stretch_at ts k)) is))))
