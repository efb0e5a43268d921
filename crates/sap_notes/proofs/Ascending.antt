-- Notes in order: one list behind another, and that lists with the same notes are one.
use Rattle.std.proofs.Common.{◌≡◌, ℕ, List, [], ◌∷◌, ◌++◌, refl, sym, ◌∙◌, subst, ⊎_elim, arith}
use Rattle.std.proofs.lemmas.List.Elements.{Contains-append_cases}
use Rattle.std.specs.Prelude.{Contains}
use Rattle.sap_terms.proofs.PlainLaws.Items.{cons_cases, first_item, later_item, none_contained}
use Rattle.sap_notes.specs.Notes.{AreAscending, AreNotes, IsBefore}
use Rattle.sap_notes.specs.declared.note.Note.{Note}

-- all of the first stand before all of the second
pub joined : (ns ms : List Note) → AreAscending ns → AreAscending ms → ((n m : Note) → Contains ns n → Contains ms m → IsBefore n m) → AreAscending (ns ++ ms)
joined [] ms a b h = b
joined (n ∷ ns) ms a b h = (
  (λ m c. ⊎_elim (λ l. a.0 m l) (λ r. h n m (first_item n ns) r) (Contains-append_cases ns ms m c)),
  joined ns ms a.1 b (λ k m c d. h k m (later_item n ns k c) d),
)

-- no note stands before itself, nor behind what stands behind it
never_both : (n m : Note) → IsBefore n m → IsBefore m n → ⊥
never_both n m a b = ⊎_elim (λ lt. ⊎_elim (λ gt. omega (arith, lt, gt)) (λ s. let e = s.0 in omega (arith, lt, e)) b)
    (λ s. ⊎_elim (λ gt. let e = s.0 in omega (arith, gt, e)) (λ t. let lt = s.1 in let gt = t.1 in omega (arith, lt, gt)) b) a

-- the same notes
abbrev pub AreSame : List Note → List Note → Type 0
AreSame ns ms = ((n : Note) → Contains ns n → Contains ms n) × ((n : Note) → Contains ms n → Contains ns n)

module _ (n m : Note) (ns ms : List Note) (a : AreAscending (n ∷ ns)) (b : AreAscending (m ∷ ms)) (same : AreSame (n ∷ ns) (m ∷ ms)) where
  heads : n ≡ m
  heads = ⊎_elim (λ e. sym e)
      (λ later. ⊎_elim (λ e. e) (λ behind. absurd (never_both n m (a.0 m behind) (b.0 n later))) (cons_cases n ns m (same.1 m (first_item m ms))))
      (cons_cases m ms n (same.0 n (first_item n ns)))

  tail_left : (k : Note) → Contains ns k → Contains ms k
  tail_left k c = ⊎_elim (λ e. absurd (no_self k (subst (λ (j : Note). IsBefore j k) (heads ∙ e) (a.0 k c)))) (λ later. later) (cons_cases m ms k (same.0 k (later_item n ns k c))) where
    no_self : (j : Note) → IsBefore j j → ⊥
    no_self j before = never_both j j before before

  tail_right : (k : Note) → Contains ms k → Contains ns k
  tail_right k c = ⊎_elim (λ e. absurd (no_self k (subst (λ (j : Note). IsBefore j k) (sym heads ∙ e) (b.0 k c)))) (λ later. later) (cons_cases n ns k (same.1 k (later_item m ms k c))) where
    no_self : (j : Note) → IsBefore j j → ⊥
    no_self j before = never_both j j before before

pub same_list : (ns ms : List Note) → AreAscending ns → AreAscending ms → AreSame ns ms → ns ≡ ms
same_list [] [] a b same = refl
same_list [] (m ∷ ms) a b same = absurd (none_contained (same.1 m (first_item m ms)))
same_list (n ∷ ns) [] a b same = absurd (none_contained (same.0 n (first_item n ns)))
same_list (n ∷ ns) (m ∷ ms) a b same =
    let first = heads n m ns ms a b same in
    let rest = same_list ns ms a.1 b.1 (tail_left n m ns ms a b same, tail_right n m ns ms a b same) in
    λ i. first i ∷ rest i

-- so a file has one list of notes
pub one_list : (z : List ℕ) (ns ms : List Note) → AreNotes z ns → AreNotes z ms → ns ≡ ms
one_list z ns ms a b = same_list ns ms a.order b.order ((λ n c. b.all n (a.are n c)), (λ n c. a.all n (b.are n c)))
