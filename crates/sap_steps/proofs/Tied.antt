-- What the parts of a state keep having to do with each other.
use Rattle.std.proofs.Common.{◌≡◌, ℕ, zero, suc, List, [], ◌∷◌, ◌++◌, map, Option, Some, None, slice_set, IsSome, refl, ap, sym, subst, ◌∙◌, append_assoc, inl, inr, ◌⊎◌, arith}
use Rattle.std.specs.List.{All}
use Rattle.std.proofs.lemmas.List.{map-append, append-nil}
use Rattle.std.proofs.lemmas.Option.{same_Some}
use Rattle.std.proofs.lemmas.List.Elements.{All-nil, All-cons, All-head, All-tail, All-weaker}
use Rattle.sap_terms.specs.AdversaryFacts.{linear}
use Rattle.sap_terms.specs.Piles.{Pile, Takes, nothing, one, used, adds}
use Rattle.sap_terms.specs.Signature.{Sig}
use Rattle.sap_terms.specs.Laws.{NamesAreMessages}
use Rattle.sap_terms.specs.Tree.{Tree, fresh}
use Rattle.sap_terms.specs.declared.fact.Fact.{Fact}
use Rattle.sap_terms.specs.declared.var.Sort.TheVariants.{Msg}
use Rattle.sap_deduce.specs.Entries.{Entry, Entries, AreNumbered, terms_of, Gains}
use Rattle.sap_deduce.specs.Laws.{NumbersStay}
use Rattle.sap_deduce.specs.declared.origin.Origin.{Origin}
use Rattle.sap_facts.specs.Facts.{standing, fact_at, if_linear, slots_without}
use Rattle.sap_rule.specs.RuleSteps.{RuleState, gains}
use Rattle.sap_share.specs.Shared.{Shared, Keeps}
use Rattle.sap_sides.specs.Messages.{IsSmallMessage, IsSmallMessageFact, HoldsSmallMessages}
use Rattle.sap_facts.specs.Cited.{left_of}
use Rattle.sap_steps.specs.code.Piled.{Piled, table_of}
use Rattle.sap_steps.specs.code.Ready.{IsReady}
use Rattle.sap_steps.specs.code.Tied.{IsTied}
use Rattle.sap_steps.specs.declared.prepared.Prepared.{Prepared}
use Rattle.sap_steps.proofs.Left.{gone_at, get-set_other, nat_cases, used-without}

pub held_fresh : NamesAreMessages → (g : Sig) (n : ℕ) → IsSmallMessage g (fresh n)
held_fresh names g n = record { message = names.fresh_name g Msg n refl; small = omega arith }

pub held_single : (g : Sig) (name : List ℕ) (t : Tree) → IsSmallMessage g t → IsSmallMessageFact g (linear name (t ∷ []))
held_single g name t h = All-cons (IsSmallMessage g) t [] h (All-nil (IsSmallMessage g))

pub held_argument : (g : Sig) (facts : Pile) (k : ℕ) (name : List ℕ) (t : Tree) → HoldsSmallMessages g facts → fact_at facts k ≡ Some (linear name (t ∷ [])) → IsSmallMessage g t
held_argument g facts k name t held e = All-head (IsSmallMessage g) t [] (held k (linear name (t ∷ [])) e)

without-live : (facts : Pile) (k j : ℕ) (f : Fact) → fact_at (slots_without facts k) j ≡ Some f → fact_at facts j ≡ Some f
without-live facts k j f e = by (if_linear (fact_at facts k)) refl where
  by : (o : Option Fact) → if_linear (fact_at facts k) ≡ o → fact_at facts j ≡ Some f
  by None p = rw p at e
  by (Some x) p =
      let still = rw p at e in
      elim (nat_cases k j) [ inl same ↦ let gone : fact_at (slice_set facts k None) j ≡ None = rw (← same.1) (gone_at facts k) in cc | inr other ↦ rw (get-set_other facts k j None other.1) at still ]

held_without : (g : Sig) (facts : Pile) (k : ℕ) → HoldsSmallMessages g facts → HoldsSmallMessages g (slots_without facts k)
held_without g facts k held j f e = held j f (without-live facts k j f e)

held_left : (g : Sig) (facts : Pile) (ks : List ℕ) → HoldsSmallMessages g facts → HoldsSmallMessages g (left_of facts ks)
held_left g facts [] held = held
held_left g facts (k ∷ ks) held = held_left g (slots_without facts k) ks (held_without g facts k held)

push-live : (facts : Pile) (f h : Fact) (j : ℕ) → fact_at (facts ++ Some f ∷ []) j ≡ Some h → (fact_at facts j ≡ Some h) ⊎ (f ≡ h)
push-live [] f h zero e = inr (same_Some f h e)
push-live [] f h (suc j) e = cc
push-live (z ∷ zs) f h zero e = inl e
push-live (z ∷ zs) f h (suc j) e = push-live zs f h j e

held_push : (g : Sig) (facts : Pile) (f : Fact) → HoldsSmallMessages g facts → IsSmallMessageFact g f → HoldsSmallMessages g (facts ++ Some f ∷ [])
held_push g facts f held new j h e = elim (push-live facts f h j e) [ inl before ↦ held j h before | inr same ↦ rw (← same) new ]

held_adds : (g : Sig) (facts : Pile) (fs : List Fact) → HoldsSmallMessages g facts → All (IsSmallMessageFact g) fs → HoldsSmallMessages g (adds facts fs)
held_adds g facts [] held all = rw (append-nil facts) held
held_adds g facts (f ∷ fs) held all =
    let apart : adds (facts ++ Some f ∷ []) fs ≡ adds facts (f ∷ fs) = append_assoc facts (Some f ∷ []) (map (λ f. Some f) fs) in
    rw (← apart) (held_adds g (facts ++ Some f ∷ []) fs (held_push g facts f held (All-head (IsSmallMessageFact g) f fs all)) (All-tail (IsSmallMessageFact g) f fs all))

same_table : (facts after : Piled) → after.sig ≡ facts.sig → after.trees ≡ facts.trees → table_of facts ≡ table_of after
same_table facts after s t = let sig = sym s in let trees = sym t in λ i. record { sig = sig i; trees = trees i }

numbered_same : (facts after : Piled) (known : Entries) → AreNumbered (table_of facts) known → after.sig ≡ facts.sig → after.trees ≡ facts.trees → AreNumbered (table_of after) known
numbered_same facts after known h s t = subst (λ (x : Shared). AreNumbered x known) (same_table facts after s t) h

-- the adversary knows a term more, and the facts stay, over a table that may have gained
pub tied_knows : (rules : List Prepared) (facts after : Piled) (old new : Entries) (origin : Origin) (t : Tree) → IsTied rules facts old → Gains old new origin t → after.slots ≡ facts.slots → AreNumbered (table_of after) new → IsTied rules after new
tied_knows rules facts after old new origin t tied more slots numbered = record {
  ready = subst (λ g. All (IsReady g) rules) (sym more.sig) tied.ready;
  held = rw slots (subst (λ g. HoldsSmallMessages g facts.slots) (sym more.sig) tied.held);
  numbered = numbered;
}

-- no term more is known, and the facts stay
pub tied_stays : (rules : List Prepared) (facts after : Piled) (old new : Entries) → IsTied rules facts old → new ≡ old → after.slots ≡ facts.slots → AreNumbered (table_of after) new → IsTied rules after new
tied_stays rules facts after old new tied same slots numbered = record {
  ready = rw same tied.ready;
  held = rw (same, slots) tied.held;
  numbered = numbered;
}

-- the facts stay, over a table that has gained
pub tied_keeps : NumbersStay → (rules : List Prepared) (facts after : Piled) (known : Entries) → IsTied rules facts known → after.slots ≡ facts.slots → Keeps (table_of facts) (table_of after) → IsTied rules after known
tied_keeps stay rules facts after known tied slots keeps = record {
  ready = tied.ready;
  held = rw slots tied.held;
  numbered = stay (table_of facts) (table_of after) known tied.numbered keeps;
}

pub tied_without : (rules : List Prepared) (facts after : Piled) (known : Entries) (k : ℕ) → IsTied rules facts known → after.sig ≡ facts.sig → after.trees ≡ facts.trees → after.slots ≡ slots_without facts.slots k → IsTied rules after known
tied_without rules facts after known k tied sig trees slots = record {
  ready = tied.ready;
  held = rw slots (held_without known.sig facts.slots k tied.held);
  numbered = numbered_same facts after known tied.numbered sig trees;
}

pub tied_push : (rules : List Prepared) (facts after : Piled) (known : Entries) (f : Fact) → IsTied rules facts known → IsSmallMessageFact known.sig f → AreNumbered (table_of after) known → after.slots ≡ facts.slots ++ Some f ∷ [] → IsTied rules after known
tied_push rules facts after known f tied held numbered slots = record {
  ready = tied.ready;
  held = rw slots (held_push known.sig facts.slots f tied.held held);
  numbered = numbered;
}

pub tied_push_same : (rules : List Prepared) (facts after : Piled) (known : Entries) (f : Fact) → IsTied rules facts known → IsSmallMessageFact known.sig f → after.sig ≡ facts.sig → after.trees ≡ facts.trees → after.slots ≡ facts.slots ++ Some f ∷ [] → IsTied rules after known
tied_push_same rules facts after known f tied held sig trees slots = tied_push rules facts after known f tied held (numbered_same facts after known tied.numbered sig trees) slots

pub tied_used : (rules : List Prepared) (facts after : Piled) (known : Entries) (ks : List ℕ) (fs : List Fact) → IsTied rules facts known → All (IsSmallMessageFact known.sig) fs → after.sig ≡ facts.sig → after.trees ≡ facts.trees → after.slots ≡ adds (left_of facts.slots ks) fs → IsTied rules after known
tied_used rules facts after known ks fs tied held sig trees slots = record {
  ready = tied.ready;
  held = rw slots (held_adds known.sig (left_of facts.slots ks) fs (held_left known.sig facts.slots ks tied.held) held);
  numbered = numbered_same facts after known tied.numbered sig trees;
}

pub ruleset tied_laws = (tied_stays, tied_keeps)

is_some-of : (o p : Option Fact) → ((f : Fact) → o ≡ Some f → p ≡ Some f) → IsSome o → IsSome p
is_some-of None p f h = cc
is_some-of (Some x) p f h = rw (f x refl) refl

-- facts that can be taken are live
pub taken-live : {facts rest : Pile} {ks : List ℕ} {fs : List Fact} → Takes facts ks fs rest → All (λ (k : ℕ). IsSome (fact_at facts k)) ks
taken-live nothing = All-nil (λ (k : ℕ). IsSome (fact_at _ k))
taken-live {facts = facts} (one {k = k} {ks = ks} {f = f} h t) =
    All-cons (λ (k : ℕ). IsSome (fact_at facts k)) k ks (rw h refl)
    (All-weaker (λ (j : ℕ). IsSome (fact_at (used facts k f) j)) (λ (j : ℕ). IsSome (fact_at facts j)) (λ j. is_some-of (fact_at (used facts k f) j) (fact_at facts j) (λ x e. without-live facts k j x (rw (used-without facts k f (ap standing h)) e))) ks (taken-live t))

-- the state after the adversary learnt a term
pub knows_more : (facts : Pile) (old new : Entries) (origin : Origin) (t : Tree) (made : List ℕ) → Gains old new origin t → let before : RuleState = record { facts = facts; known = terms_of old.entries; made = made } in let after : RuleState = record { facts = facts; known = terms_of new.entries; made = made } in after ≡ gains before t
knows_more facts old new origin t made more =
    let known : terms_of new.entries ≡ terms_of old.entries ++ t ∷ [] = ap terms_of more.entries ∙ map-append (λ (e : Entry). e.term) old.entries (record { term = t; origin = origin } ∷ []) in
    λ i. record { facts = facts; known = known i; made = made }
