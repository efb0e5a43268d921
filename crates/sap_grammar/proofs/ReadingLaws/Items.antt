-- Items of files and of theories: how they are cut, turns of the loops over them, and that pieces are items or have a first fault.
use Rattle.std.proofs.Common.{◌≡◌, ℕ, Bool, true, false, List, [], ◌∷◌, inl, inr, refl, sym, ap, subst, ◌∙◌}
use Rattle.std.specs.Prelude.{◌⊎◌, codes}
use Rattle.sap_text.specs.declared.token.Token.{Token}
use Rattle.sap_grammar.specs.Words.{Word, mark, words_of, starts}
use Rattle.sap_grammar.specs.Cut.{Placed, placed, words, first_line, IsCut, cut_one}
use Rattle.sap_grammar.specs.Items.{Standing, IsEnd, AreItems, items_end, items_more, IsFaulty, no_end, bad_item, later_item}
use Rattle.sap_grammar.specs.ItemLaws.{ItemLaws}
use Rattle.sap_grammar.specs.ItemReading.{cut}
use Rattle.sap_grammar.proofs.ReadingLaws.OnRead.{starts_is}
use Rattle.sap_grammar.proofs.ReadingLaws.Tokens.{words_placed}

-- only no words are no items
no_cut : {p : Placed} {ps : List Placed} {is : List (List Placed)} → IsCut (p ∷ ps) is → is ≡ [] → ⊥
no_cut (cut_one p ps rest a b r) e = absurd (cc (e))

cut_nothing : ItemLaws → (z : List ℕ) (ts : List Token) → cut (placed z ts) ≡ [] → ts ≡ []
cut_nothing laws z [] e = refl
cut_nothing laws z (t ∷ ts) e = absurd (no_cut (laws.is_cut (placed z (t ∷ ts))) e)

-- the cut of words is the one that is read
pub cut_is : ItemLaws → {ps : List Placed} {is : List (List Placed)} → IsCut ps is → cut ps ≡ is
cut_is laws {ps = ps} {is = is} r = laws.one_cut ps (cut ps) is (laws.is_cut ps) r

-- Turns of a loop over items, where the first fault of the tokens `rest` is that of all.
module _ (IsItem : List Word → Type 0) (laws : ItemLaws) (last : ℕ) (z : List ℕ) (ts rest : List Token)
    (faulty : (n : ℕ) → IsFaulty IsItem last (cut (placed z rest)) n → IsFaulty IsItem last (cut (placed z ts)) n) where
  -- where `end` is missing
  pub turn_over : rest ≡ [] → (pieces : List (List Placed)) → IsCut (placed z ts) pieces → IsFaulty IsItem last pieces last
  turn_over none pieces r =
      let over : cut (placed z rest) ≡ [] = rw none refl in
      let there = faulty last (subst (λ (y : List (List Placed)). IsFaulty IsItem last y last) (sym over) no_end) in
      subst (λ (y : List (List Placed)). IsFaulty IsItem last y last) (cut_is laws r) there

  module _ (item behind : List Token) (split : cut (placed z rest) ≡ placed z item ∷ cut (placed z behind)) where
    pub turn_bad : (IsEnd (placed z item) × (behind ≡ []) → ⊥) → (IsItem (words_of z item) → ⊥) → (line : ℕ) → line ≡ first_line (placed z item)
        → (pieces : List (List Placed)) → IsCut (placed z ts) pieces → IsFaulty IsItem last pieces line
    turn_bad not_last none line l pieces r =
        let bad : IsItem (words (placed z item)) → ⊥ = rw (words_placed z item) none in
        let here : IsFaulty IsItem last (placed z item ∷ cut (placed z behind)) (first_line (placed z item)) = bad_item bad (λ e f. not_last (e, cut_nothing laws z behind f)) in
        let there = faulty (first_line (placed z item)) (subst (λ (y : List (List Placed)). IsFaulty IsItem last y (first_line (placed z item))) (sym split) here) in
        rw l (subst (λ (y : List (List Placed)). IsFaulty IsItem last y (first_line (placed z item))) (cut_is laws r) there)

    pub turn_later : IsItem (words_of z item) → (n : ℕ) → IsFaulty IsItem last (cut (placed z behind)) n → IsFaulty IsItem last (cut (placed z ts)) n
    turn_later is n r =
        let good : IsItem (words (placed z item)) = rw (words_placed z item) is in
        faulty n (subst (λ (y : List (List Placed)). IsFaulty IsItem last y n) (sym split) (later_item good r))

-- the words are `end` alone, or not
end_or_not : (ws : List Word) → (ws ≡ mark (codes "end") ∷ []) ⊎ (ws ≡ mark (codes "end") ∷ [] → ⊥)
end_or_not [] = inr (λ e. absurd (cc (e)))
end_or_not (w ∷ v ∷ ws) = inr (λ e. absurd (cc (e)))
end_or_not (w ∷ []) = by (starts (codes "end") (w ∷ [])) refl
  where
    by : (t : Bool) → starts (codes "end") (w ∷ []) ≡ t → (w ∷ [] ≡ mark (codes "end") ∷ []) ⊎ (w ∷ [] ≡ mark (codes "end") ∷ [] → ⊥)
    by true s = inl (starts_is (codes "end") (w ∷ []) s)
    by false s = inr (λ e. let there : starts (codes "end") (w ∷ []) ≡ true = ap (starts (codes "end")) e in absurd (cc (s, there)))

-- the words are an item, or are none
abbrev pub ItemOrNone : {V : Type 0} → (V → List Word → Type 0) → (List Word → Type 0) → List Word → Type 0
ItemOrNone {V = V} Spells IsItem ws = ((v : V) × Spells v ws) ⊎ (IsItem ws → ⊥)

-- the pieces are items, or the first fault is on some line
module _ {V : Type 0} (Spells : V → List Word → Type 0) (IsItem : List Word → Type 0) (last : ℕ) where
  abbrev pub ItemsOrFault : List (List Placed) → Type 0
  ItemsOrFault cut = ((is : List (Standing V)) × AreItems Spells cut is) ⊎ ((n : ℕ) × IsFaulty IsItem last cut n)

  last_or_fault : (i : List Placed) (is : List (List Placed)) → (IsItem (words i) → ⊥) → ItemsOrFault (i ∷ is)
  last_or_fault i (j ∷ is) never = inr (first_line i, bad_item never (λ e none. absurd (cc (none))))
  last_or_fault i [] never = by (end_or_not (words i))
    where
      by : (words i ≡ mark (codes "end") ∷ []) ⊎ (words i ≡ mark (codes "end") ∷ [] → ⊥) → ItemsOrFault (i ∷ [])
      by (inl e) = inl ([], items_end e)
      by (inr more) = inr (first_line i, bad_item never (λ e none. more e))

  module _ (some : (v : V) (ws : List Word) → Spells v ws → IsItem ws) (item_or_none : (ws : List Word) → ItemOrNone Spells IsItem ws) where
    one_more : (i : List Placed) (is : List (List Placed)) → ItemOrNone Spells IsItem (words i) → ItemsOrFault is → ItemsOrFault (i ∷ is)
    one_more i is (inl r) (inl s) = inl (record { item = r.0; line = first_line i } ∷ s.0, items_more r.1 s.1)
    one_more i is (inl r) (inr f) = inr (f.0, later_item (some r.0 (words i) r.1) f.1)
    one_more i is (inr never) o = last_or_fault i is never

    pub items_or_fault : (cut : List (List Placed)) → ItemsOrFault cut
    items_or_fault [] = inr (last, no_end)
    items_or_fault (i ∷ is) = one_more i is (item_or_none (words i)) (items_or_fault is)
