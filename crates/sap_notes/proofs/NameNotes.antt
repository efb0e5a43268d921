-- The notes on names that patterns take.
use Rattle.std.proofs.Common.{◌≡◌, ◌≤◌, ◌<◌, ◌+◌, ◌↔◌, ℕ, inl, List, [], ◌∷◌, length, map, refl, sym, ap, subst, ⊎_elim, arith}
use Rattle.std.specs.List.{All}
use Rattle.std.specs.Prelude.{Contains}
use Rattle.sap_terms.proofs.PlainLaws.Items.{cons_cases, first_item, later_item, none_contained}
use Rattle.sap_stretches.specs.Stretches.{IsInBytes}
use Rattle.sap_stretches.specs.declared.stretch.Stretch.{Stretch}
use Rattle.sap_captures.specs.Ascending as behind
use Rattle.sap_captures.specs.Ascending.{AreBehind}
use Rattle.sap_captures.specs.Captures.{IsCapturedAt, IsComparedAt}
use Rattle.sap_notes.specs.Notes.{AreAscending, IsBefore, IsNote, captured_name, compared_name, other_symbol, rank, unshown_fact, unspoken_event, unused_definition, unused_symbol}
use Rattle.sap_notes.specs.code.Ranked.{AreRanked, note_of}
use Rattle.sap_notes.specs.declared.note.Kind.{Kind}
use Rattle.sap_notes.specs.declared.note.Kind.TheVariants.{CapturedName, ComparedName}
use Rattle.sap_notes.specs.declared.note.Note.{Note}

module _ (kind : Kind) where
  -- each note stands at one of the stretches
  of_one : (ss : List Stretch) (n : Note) → Contains (map (note_of kind) ss) n → (s : Stretch) × Contains ss s × (note_of kind s ≡ n)
  of_one [] n c = absurd (none_contained c)
  of_one (s ∷ ss) n c = ⊎_elim (λ e. (s, first_item s ss, e))
      (λ later. let one = of_one ss n later in (one.0, later_item s ss one.0 one.1, one.2)) (cons_cases (note_of kind s) (map (note_of kind) ss) n c)

  one_there : (ss : List Stretch) (s : Stretch) → Contains ss s → Contains (map (note_of kind) ss) (note_of kind s)
  one_there [] s c = absurd (none_contained c)
  one_there (r ∷ ss) s c = ⊎_elim (λ e. subst (λ (t : Stretch). Contains (map (note_of kind) (r ∷ ss)) (note_of kind t)) e (first_item (note_of kind r) (map (note_of kind) ss)))
      (λ later. later_item (note_of kind r) (map (note_of kind) ss) (note_of kind s) (one_there ss s later)) (cons_cases r ss s c)

  -- in the order of the stretches
  all_behind : (at : ℕ) (ss : List Stretch) (s : Stretch) → AreBehind at ss → Contains ss s → at < s.from
  all_behind at [] s b c = absurd (none_contained c)
  all_behind at (r ∷ ss) s b c =
      let first = b.0 in
      ⊎_elim (λ e. subst (λ (t : Stretch). at < t.from) e first) (λ later. let more = all_behind r.from ss s b.1 later in omega (arith, first, more)) (cons_cases r ss s c)

  behind_ascend : (at : ℕ) (ss : List Stretch) → AreBehind at ss → AreAscending (map (note_of kind) ss)
  behind_ascend at [] b = tt
  behind_ascend at (r ∷ ss) b = (
    (λ m c. let one = of_one ss m c in subst (IsBefore (note_of kind r)) one.2 (inl (all_behind r.from ss one.0 b.1 one.1))),
    behind_ascend r.from ss b.1,
  )

  stretches_ascend : (ss : List Stretch) → behind.AreAscending ss → AreAscending (map (note_of kind) ss)
  stretches_ascend [] b = tt
  stretches_ascend (r ∷ ss) b = (
    (λ m c. let one = of_one ss m c in subst (IsBefore (note_of kind r)) one.2 (inl (all_behind r.from ss one.0 b one.1))),
    behind_ascend r.from ss b,
  )

-- what holds of all items holds of each
of_all : (size : ℕ) (ss : List Stretch) (s : Stretch) → All (IsInBytes size) ss → Contains ss s → IsInBytes size s
of_all size ss s all c = subst (IsInBytes size) c.2 (all c.0 s c.1)

-- the stretches of a kind of names are those of its notes
module _ (kind : Kind) (z : List ℕ) (Told : Stretch → Type 0) (ss : List Stretch) (are : (s : Stretch) → Contains ss s ↔ Told s) (order : behind.AreAscending ss) (inside : All (IsInBytes (length z)) ss)
    (true_of : (s : Stretch) → Told s → IsNote z (note_of kind s))
    (only : (n : Note) → IsNote z n → rank kind ≤ rank n.kind → rank n.kind < rank kind + 1 → (s : Stretch) × Told s × (note_of kind s ≡ n)) where
  names_here : AreRanked (rank kind) (rank kind + 1) z (map (note_of kind) ss)
  names_here = record {
    order = stretches_ascend kind ss order;
    are = λ n c. let one = of_one kind ss n c in subst (IsNote z) one.2 (true_of one.0 ((are one.0).0 one.1));
    kinds = λ n c. let one = of_one kind ss n c in subst (λ (m : Note). (rank kind ≤ rank m.kind) × (rank m.kind < rank kind + 1)) one.2 (omega arith, omega arith);
    all = λ n i low high. let one = only n i low high in subst (Contains (map (note_of kind) ss)) one.2 (one_there kind ss one.0 ((are one.0).1 one.1));
    inside = λ n c. let one = of_one kind ss n c in subst (λ (m : Note). IsInBytes (length z) m.word) one.2 (of_all (length z) ss one.0 inside one.1);
  }

captured_only : (z : List ℕ) (n : Note) → IsNote z n → 5 ≤ rank n.kind → rank n.kind < 6 → (s : Stretch) × IsCapturedAt z s × (note_of CapturedName s ≡ n)
captured_only z _ (other_symbol c first another) low high = absurd (omega (arith, low))
captured_only z _ (unused_symbol c first never) low high = absurd (omega (arith, low))
captured_only z _ (unused_definition c defined never) low high = absurd (omega (arith, low))
captured_only z _ (unshown_fact c first never) low high = absurd (omega (arith, low))
captured_only z _ (unspoken_event c first some never) low high = absurd (omega (arith, low))
captured_only z _ (captured_name {t = t} c) low high = (t, c, refl)
captured_only z _ (compared_name c) low high = absurd (omega (arith, high))

compared_only : (z : List ℕ) (n : Note) → IsNote z n → 6 ≤ rank n.kind → rank n.kind < 7 → (s : Stretch) × IsComparedAt z s × (note_of ComparedName s ≡ n)
compared_only z _ (other_symbol c first another) low high = absurd (omega (arith, low))
compared_only z _ (unused_symbol c first never) low high = absurd (omega (arith, low))
compared_only z _ (unused_definition c defined never) low high = absurd (omega (arith, low))
compared_only z _ (unshown_fact c first never) low high = absurd (omega (arith, low))
compared_only z _ (unspoken_event c first some never) low high = absurd (omega (arith, low))
compared_only z _ (captured_name c) low high = absurd (omega (arith, low))
compared_only z _ (compared_name {t = t} c) low high = (t, c, refl)

pub captured_ranked : (z : List ℕ) (ss : List Stretch) (ns : List Note) → ((s : Stretch) → Contains ss s ↔ IsCapturedAt z s) → behind.AreAscending ss → All (IsInBytes (length z)) ss
    → ns ≡ map (note_of CapturedName) ss → AreRanked 5 6 z ns
captured_ranked z ss ns are order inside e = subst (AreRanked 5 6 z) (sym e) (names_here CapturedName z (IsCapturedAt z) ss are order inside (λ s c. captured_name c) (captured_only z))

pub compared_ranked : (z : List ℕ) (ss : List Stretch) (ns : List Note) → ((s : Stretch) → Contains ss s ↔ IsComparedAt z s) → behind.AreAscending ss → All (IsInBytes (length z)) ss
    → ns ≡ map (note_of ComparedName) ss → AreRanked 6 7 z ns
compared_ranked z ss ns are order inside e = subst (AreRanked 6 7 z) (sym e) (names_here ComparedName z (IsComparedAt z) ss are order inside (λ s c. compared_name c) (compared_only z))
