-- The notes that are found at first words.
use Rattle.std.proofs.Common.{◌≡◌, ◌<◌, ℕ, zero, suc, Bool, true, false, ◌⊎◌, inl, inr, List, [], ◌∷◌, ◌++◌, Option, Some, None, length, refl, sym, ap, ◌∙◌, subst, ⊎_elim, arith}
use Rattle.std.proofs.lemmas.Bool.{cases_lt, false_from_ne_true, true≢false}
use Rattle.std.proofs.lemmas.List.Elements.{Contains-append_cases, Contains-append_left, Contains-append_right}
use Rattle.std.specs.List.{list_any}
use Rattle.std.specs.Prelude.{Contains}
use Rattle.std.specs.Str.{bytes_eq}
use Rattle.sap_terms.proofs.PlainLaws.Items.{none_contained}
use Rattle.sap_text.specs.Spans.{InOrder}
use Rattle.sap_text.specs.declared.token.Token.{Token}
use Rattle.sap_stretches.specs.Stretches.{stretch_at}
use Rattle.sap_stretches.specs.declared.stretch.Stretch.{Stretch}
use Rattle.sap_notes.specs.Notes.{AreAscending, IsBefore, note_at}
use Rattle.sap_notes.specs.code.FirstNotes.{first_notes, new_note, seen_before}
use Rattle.sap_notes.specs.code.Walk.{note_unless}
use Rattle.sap_notes.specs.code.Led.{IsAmong}
use Rattle.sap_notes.specs.declared.note.Kind.{Kind}
use Rattle.sap_notes.specs.declared.note.Note.{Note}
use Rattle.sap_notes.proofs.Ascending.{joined}
use Rattle.sap_notes.proofs.Found.{named_kept, named_only, named_there, note_left, one_note, unless_note}
use Rattle.sap_notes.proofs.Spans.{ascends}

new_ascend : (kind : Kind) (seen : List (List ℕ)) (o : Option (List ℕ)) (s : Stretch) → AreAscending (new_note kind seen o s)
new_ascend kind seen None s = tt
new_ascend kind seen (Some x) s = by (list_any (bytes_eq x) seen) where
  by : (b : Bool) → AreAscending (note_unless b kind s)
  by true = tt
  by false = one_note (record { kind = kind; word = s })

of_new : (kind : Kind) (seen : List (List ℕ)) (o : Option (List ℕ)) (s : Stretch) (n : Note) → Contains (new_note kind seen o s) n
    → (x : List ℕ) × (o ≡ Some x) × (list_any (bytes_eq x) seen ≡ false) × (◌≡◌ {A = Note} (record { kind = kind; word = s }) n)
of_new kind seen None s n c = absurd (none_contained c)
of_new kind seen (Some x) s n c = let e = unless_note (list_any (bytes_eq x) seen) kind s n c in (x, refl, e.0, e.1)

new_there : (kind : Kind) (seen : List (List ℕ)) (o : Option (List ℕ)) (s : Stretch) (x : List ℕ) → o ≡ Some x → list_any (bytes_eq x) seen ≡ false
    → Contains (new_note kind seen o s) (record { kind = kind; word = s })
new_there kind seen o s x e new =
    subst (λ (p : Option (List ℕ)). Contains (new_note kind seen p s) (record { kind = kind; word = s })) (sym e) (note_left (list_any (bytes_eq x) seen) kind s new)

module _ (at : ℕ → Option (List ℕ)) (known : List (List ℕ)) where
  known_seen : (k : ℕ) (x : List ℕ) → IsAmong known x → IsAmong (seen_before at known k) x
  known_seen zero x h = h
  known_seen (suc k) x h = named_kept (seen_before at known k) (at k) x (known_seen k x h)

  at_seen : (k i : ℕ) (x : List ℕ) → i < k → at i ≡ Some x → IsAmong (seen_before at known k) x
  at_seen zero i x lt e = absurd (omega (arith, lt))
  at_seen (suc k) i x lt e =
      ⊎_elim (λ less. named_kept (seen_before at known k) (at k) x (at_seen k i x less e))
      (λ le. let same : i ≡ k = omega (arith, lt, le) in
      named_there (seen_before at known k) (at k) x (subst (λ j. at j ≡ Some x) same e)) (cases_lt i k)

  seen_is : (k : ℕ) (x : List ℕ) → IsAmong (seen_before at known k) x → IsAmong known x ⊎ ((i : ℕ) × (i < k) × (at i ≡ Some x))
  seen_is zero x h = inl h
  seen_is (suc k) x h = ⊎_elim
      (λ old. ⊎_elim (λ l. inl l) (λ r. inr (r.0, (let lt = r.1 in omega (arith, lt)), r.2)) (seen_is k x old))
      (λ e. inr (k, (omega arith), e)) (named_only (seen_before at known k) (at k) x h)

  unseen : (k : ℕ) (x : List ℕ) → (IsAmong known x → ⊥) → ((i : ℕ) → i < k → at i ≡ Some x → ⊥) → list_any (bytes_eq x) (seen_before at known k) ≡ false
  unseen k x new none = false_from_ne_true (list_any (bytes_eq x) (seen_before at known k)) (λ e. ⊎_elim (λ l. new l) (λ r. none r.0 r.1 r.2) (seen_is k x e))

  module _ (kind : Kind) (ts : List Token) where
    abbrev here : ℕ → List Note
    here k = new_note kind (seen_before at known k) (at k) (stretch_at ts k)

    abbrev before : ℕ → List Note
    before k = first_notes at known kind ts k

    into : (k i : ℕ) (n : Note) → i < k → Contains (here i) n → Contains (before k) n
    into zero i n lt c = absurd (omega (arith, lt))
    into (suc k) i n lt c = ⊎_elim (λ less. Contains-append_left (before k) (here k) n (into k i n less c))
        (λ le. let same : i ≡ k = omega (arith, lt, le) in
        Contains-append_right (before k) (here k) n (subst (λ j. Contains (here j) n) same c)) (cases_lt i k)

    out_of : (k : ℕ) (n : Note) → Contains (before k) n → (i : ℕ) × (i < k) × Contains (here i) n
    out_of zero n c = absurd (none_contained c)
    out_of (suc k) n c = ⊎_elim (λ l. let one = out_of k n l in (one.0, (let lt = one.1 in omega (arith, lt)), one.2)) (λ r. (k, (omega arith), r))
        (Contains-append_cases (before k) (here k) n c)

    -- a first word that isn't known has its note
    pub first_there : (k : ℕ) (x : List ℕ) → k < length ts → at k ≡ Some x → (IsAmong known x → ⊥) → ((i : ℕ) → i < k → at i ≡ Some x → ⊥)
        → Contains (before (length ts)) (note_at kind ts k)
    first_there k x lt e new none = into (length ts) k (note_at kind ts k) lt
        (new_there kind (seen_before at known k) (at k) (stretch_at ts k) x e (unseen k x new none))

    -- and no other word
    pub first_only : (n : Note) → Contains (before (length ts)) n
        → (k : ℕ) × (x : List ℕ) × (at k ≡ Some x) × (IsAmong known x → ⊥) × ((i : ℕ) → i < k → at i ≡ Some x → ⊥) × (note_at kind ts k ≡ n) × (k < length ts)
    first_only n c =
        let one = out_of (length ts) n c in
        let of = of_new kind (seen_before at known one.0) (at one.0) (stretch_at ts one.0) n one.2 in (
          one.0,
          of.0,
          of.1,
          (λ h. true≢false (sym (known_seen one.0 of.0 h) ∙ of.2)),
          (λ i lt e. true≢false (sym (at_seen one.0 i of.0 lt e) ∙ of.2)),
          of.3,
          one.1,
        )

    -- they are in the order of the file
    here_from : (k : ℕ) (n : Note) → Contains (here k) n → (stretch_at ts k).from ≡ n.word.from
    here_from k n c = ap (λ (m : Note). m.word.from) (of_new kind (seen_before at known k) (at k) (stretch_at ts k) n c).3

    module _ (end : ℕ) (order : InOrder 0 end ts) where
      first_ascend : (k : ℕ) → ((i : ℕ) (n : Note) → Contains (here i) n → i < length ts) → AreAscending (before k)
      first_ascend zero inside = tt
      first_ascend (suc k) inside = joined (before k) (here k) (first_ascend k inside) (new_ascend kind (seen_before at known k) (at k) (stretch_at ts k))
          (λ n m c d. let one = out_of k n c in
          let less = ascends end ts one.0 k order one.1 (inside k m d) in
          let left = here_from one.0 n one.2 in
          let right = here_from k m d in
          inl (omega (arith, less, left, right)))

      pub all_ascend : ((k : ℕ) (x : List ℕ) → at k ≡ Some x → k < length ts) → AreAscending (before (length ts))
      all_ascend within = first_ascend (length ts) (λ i n c. let of = of_new kind (seen_before at known i) (at i) (stretch_at ts i) n c in within i of.0 of.1)
