-- After a deed that breaks nothing the machine keeps what stands for the longer trace.
use Rattle.std.proofs.Common.{◌≡◌, ℕ, refl, sym, subst, true, false, Option, Some, None, if◌then◌else◌}
use Rattle.sap_restrict.proofs.Lasts.{HeldStands, StoreStands, UsableStands, held_lock, held_same, held_unlock, not_same, start_now, start_same, store_delete, store_insert, store_same, usable_event, usable_known, usable_same, usable_taken}
use Rattle.sap_restrict.proofs.Longer.{IsLonger}
use Rattle.sap_restrict.proofs.Passing.{Keeps, free_lock}
use Rattle.sap_restrict.specs.Stands.{Machine}
use Rattle.sap_restrict.specs.code.Deeds.{Deed, deletes, differs, equals, finds, happens, idle, inserts, knows, locks, misses, starts, takes, unlocks}
use Rattle.sap_restrict.specs.code.Machines.{after, broken, is_the}
use Rattle.sap_term_map.specs.Values.{with_at}
use Rattle.sap_terms.proofs.PlainLaws.Tests.{same_tree-sound}
use Rattle.sap_terms.specs.Same.{same_tree}
use Rattle.sap_terms.specs.Tree.{Tree}
use Rattle.sap_terms.specs.declared.fact.Fact.{Fact}

abbrev NoStore : Deed → Type 0
NoStore d = ((x v : Tree) → d ≡ inserts x v → ⊥) × ((x : Tree) → d ≡ deletes x → ⊥)

abbrev NoLock : Deed → Type 0
NoLock d = ((k x : Tree) → d ≡ locks k x → ⊥) × ((k x : Tree) → d ≡ unlocks k x → ⊥)

abbrev NoUse : Deed → Type 0
NoUse d = ((x : Tree) → d ≡ knows x → ⊥) × (d ≡ happens → ⊥) × ((x : Tree) → d ≡ takes x → ⊥)

module _ (H H' : ℕ → Fact → Type 0) (n : ℕ) (m : Machine) (k : Keeps H m) where
  stored_as : (d : Deed) → IsLonger H H' n d → NoStore d → (x : Tree) → StoreStands H' x (m.stored x)
  stored_as d l idle_at x = store_same H H' n d l x (m.stored x) (λ v q. idle_at.0 x v q) (λ q. idle_at.1 x q) (k.stored x)

  held_as : (d : Deed) → IsLonger H H' n d → NoLock d → (x : Tree) → HeldStands H' x (m.held x)
  held_as d l idle_at x = held_same H H' n d l x (m.held x) (λ i q. idle_at.0 i x q) (λ i s q. idle_at.1 i x q) (k.held x)

  usable_as : (d : Deed) → IsLonger H H' n d → NoUse d → UsableStands H' m.usable
  usable_as d l idle_at = usable_same H H' n d l m.usable idle_at.0 idle_at.1 idle_at.2 k.usable

  as_before : (d : Deed) → IsLonger H H' n d → (d ≡ starts → ⊥) → NoStore d → NoLock d → NoUse d → Keeps H' m
  as_before d l a b c f = record {
    started = start_same H H' n d l m.started a k.started;
    stored = stored_as d l b;
    held = held_as d l c;
    usable = usable_as d l f;
  }

  put_at : (x v y : Tree) → IsLonger H H' n (inserts x v) → StoreStands H' y (with_at m.stored x (Some v) y)
  put_at x v y l =
      elim (same_tree x y) as (λ b. same_tree x y ≡ b → StoreStands H' y (if b then Some v else m.stored y)) [
        | true ↦ λ q. subst (λ z. StoreStands H' z (Some v)) (same_tree-sound x y q) (store_insert H H' n (inserts x v) l x v refl)
        | false ↦ λ q. store_same H H' n (inserts x v) l y (m.stored y) (λ w r. let a : x ≡ y = cc in not_same x y q a) (λ r. cc) (k.stored y)
      ] refl

  gone_at : (x y : Tree) → IsLonger H H' n (deletes x) → StoreStands H' y (with_at m.stored x None y)
  gone_at x y l =
      elim (same_tree x y) as (λ b. same_tree x y ≡ b → StoreStands H' y (if b then None else m.stored y)) [
        | true ↦ λ q. subst (λ z. StoreStands H' z None) (same_tree-sound x y q) (store_delete H H' n (deletes x) l x refl)
        | false ↦ λ q. store_same H H' n (deletes x) l y (m.stored y) (λ w r. cc) (λ r. let a : x ≡ y = cc in not_same x y q a) (k.stored y)
      ] refl

  lock_at : (i x y : Tree) → IsLonger H H' n (locks i x) → broken m (locks i x) ≡ None → HeldStands H' y (with_at m.held x (Some i) y)
  lock_at i x y l h =
      elim (same_tree x y) as (λ b. same_tree x y ≡ b → HeldStands H' y (if b then Some i else m.held y)) [
        | true ↦ λ q. subst (λ z. HeldStands H' z (Some i)) (same_tree-sound x y q) (held_lock H H' n (locks i x) l i x refl (free_lock H m k i x h))
        | false ↦ λ q. held_same H H' n (locks i x) l y (m.held y) (λ w r. let a : x ≡ y = cc in not_same x y q a) (λ w s r. cc) (k.held y)
      ] refl

  freed_at : (i x : Tree) (o : Option Tree) → IsLonger H H' n (unlocks i x) → is_the o i ≡ true → HeldStands H x o → HeldStands H' x None
  freed_at i x None l h w = absurd (cc)
  freed_at i x (Some j) l h w = held_unlock H H' n (unlocks i x) l i x refl (subst (λ z. HeldStands H x (Some z)) (same_tree-sound j i h) w)

  unlock_at : (i x y : Tree) → IsLonger H H' n (unlocks i x) → is_the (m.held x) i ≡ true → HeldStands H' y (with_at m.held x None y)
  unlock_at i x y l h =
      elim (same_tree x y) as (λ b. same_tree x y ≡ b → HeldStands H' y (if b then None else m.held y)) [
        | true ↦ λ q. subst (λ z. HeldStands H' z None) (same_tree-sound x y q) (freed_at i x (m.held x) l h (k.held x))
        | false ↦ λ q. held_same H H' n (unlocks i x) l y (m.held y) (λ w r. cc) (λ w s r. let a : x ≡ y = cc in not_same x y q a) (k.held y)
      ] refl

  other_name : (i x y : Tree) (o : Option Tree) → IsLonger H H' n (unlocks i x) → (x ≡ y → is_the o i ≡ false) → HeldStands H y o → HeldStands H' y o
  other_name i x y o l h w =
      held_same H H' n (unlocks i x) l y o (λ j r. cc) (λ j s r.
      let a : x ≡ y = cc in
      let b : i ≡ j = cc in
      let c = h a in
      let f : is_the (Some j) i ≡ false = subst (λ z. is_the z i ≡ false) s c in
      not_same j i f (sym b)) w

  freed : (i x : Tree) → IsLonger H H' n (unlocks i x) → Keeps H' (after m (unlocks i x))
  freed i x l =
      let a = start_same H H' n (unlocks i x) l m.started (λ q. cc) k.started in
      let b = stored_as (unlocks i x) l (λ y v q. cc, λ y q. cc) in
      let c = usable_as (unlocks i x) l (λ y q. cc, λ q. cc, λ y q. cc) in
      elim (is_the (m.held x) i) as (λ b. is_the (m.held x) i ≡ b → Keeps H' (if b then record m { held = with_at m.held x None } else m)) [
        | true ↦ λ q. record { started = a; stored = b; held = λ y. unlock_at i x y l q; usable = c }
        | false ↦ λ q. record { started = a; stored = b; held = λ y. other_name i x y (m.held y) l (λ s. subst (λ z. is_the (m.held z) i ≡ false) s q) (k.held y); usable = c }
      ] refl

  pub keeps_after : (d : Deed) → IsLonger H H' n d → broken m d ≡ None → Keeps H' (after m d)
  keeps_after starts l h = record {
    started = start_now H H' n starts l refl;
    stored = stored_as starts l (λ x v q. cc, λ x q. cc);
    held = held_as starts l (λ i x q. cc, λ i x q. cc);
    usable = usable_as starts l (λ x q. cc, λ q. cc, λ x q. cc);
  }
  keeps_after happens l h = record {
    started = start_same H H' n happens l m.started (λ q. cc) k.started;
    stored = stored_as happens l (λ x v q. cc, λ x q. cc);
    held = held_as happens l (λ i x q. cc, λ i x q. cc);
    usable = usable_event H H' n happens l refl;
  }
  keeps_after (knows s) l h = record {
    started = start_same H H' n (knows s) l m.started (λ q. cc) k.started;
    stored = stored_as (knows s) l (λ x v q. cc, λ x q. cc);
    held = held_as (knows s) l (λ i x q. cc, λ i x q. cc);
    usable = usable_known H H' n (knows s) l s refl;
  }
  keeps_after (takes s) l h = record {
    started = start_same H H' n (takes s) l m.started (λ q. cc) k.started;
    stored = stored_as (takes s) l (λ x v q. cc, λ x q. cc);
    held = held_as (takes s) l (λ i x q. cc, λ i x q. cc);
    usable = usable_taken H H' n (takes s) l s refl;
  }
  keeps_after (deletes s) l h = record {
    started = start_same H H' n (deletes s) l m.started (λ q. cc) k.started;
    stored = λ y. gone_at s y l;
    held = held_as (deletes s) l (λ i x q. cc, λ i x q. cc);
    usable = usable_as (deletes s) l (λ x q. cc, λ q. cc, λ x q. cc);
  }
  keeps_after (inserts s t) l h = record {
    started = start_same H H' n (inserts s t) l m.started (λ q. cc) k.started;
    stored = λ y. put_at s t y l;
    held = held_as (inserts s t) l (λ i x q. cc, λ i x q. cc);
    usable = usable_as (inserts s t) l (λ x q. cc, λ q. cc, λ x q. cc);
  }
  keeps_after (locks i s) l h = record {
    started = start_same H H' n (locks i s) l m.started (λ q. cc) k.started;
    stored = stored_as (locks i s) l (λ x v q. cc, λ x q. cc);
    held = λ y. lock_at i s y l h;
    usable = usable_as (locks i s) l (λ x q. cc, λ q. cc, λ x q. cc);
  }
  keeps_after (unlocks i s) l h = freed i s l
  keeps_after (misses s) l h = as_before (misses s) l (λ q. cc) (λ x v q. cc, λ x q. cc) (λ i x q. cc, λ i x q. cc) (λ x q. cc, λ q. cc, λ x q. cc)
  keeps_after (equals s t) l h = as_before (equals s t) l (λ q. cc) (λ x v q. cc, λ x q. cc) (λ i x q. cc, λ i x q. cc) (λ x q. cc, λ q. cc, λ x q. cc)
  keeps_after (differs s t) l h = as_before (differs s t) l (λ q. cc) (λ x v q. cc, λ x q. cc) (λ i x q. cc, λ i x q. cc) (λ x q. cc, λ q. cc, λ x q. cc)
  keeps_after (finds s t) l h = as_before (finds s t) l (λ q. cc) (λ x v q. cc, λ x q. cc) (λ i x q. cc, λ i x q. cc) (λ x q. cc, λ q. cc, λ x q. cc)
  keeps_after idle l h = as_before idle l (λ q. cc) (λ x v q. cc, λ x q. cc) (λ i x q. cc, λ i x q. cc) (λ x q. cc, λ q. cc, λ x q. cc)
