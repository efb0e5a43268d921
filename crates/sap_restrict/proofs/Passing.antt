-- The guard's tests decide what the sentences ask of a deed.
use Rattle.std.proofs.Common.{◌≡◌, ℕ, refl, sym, subst, ap, ◌⊎◌, inl, inr, arith, Bool, true, false, Option, Some, None, if◌then◌else◌}
use Rattle.std.specs.Prelude.{is_none}
use Rattle.sap_restrict.proofs.Lasts.{HeldStands, StartStands, StoreStands, UsableStands, not_same}
use Rattle.sap_restrict.proofs.Steps.{Asks}
use Rattle.sap_shapes.specs.ReservedFacts.{insert_fact}
use Rattle.sap_restrict.specs.Stands.{IsUnlocked, IsStored, IsUnset, IsUsable, Machine}
use Rattle.sap_restrict.specs.code.Deeds.{Deed, deletes, differs, equals, finds, happens, idle, inserts, knows, locks, misses, starts, takes, unlocks}
use Rattle.sap_restrict.specs.code.Machines.{broken, is_the}
use Rattle.sap_restrict.specs.declared.which.Which.{Which}
use Rattle.sap_restrict.specs.declared.which.Which.TheVariants.{Eq, In, InEv, Init, Lock, NotEq, NotIn}
use Rattle.sap_terms.proofs.PlainLaws.Tests.{same_tree-sound}
use Rattle.sap_terms.specs.AdversaryFacts.{k_fact}
use Rattle.sap_terms.specs.Equal.{IsTheoryEqual, same as no_step}
use Rattle.sap_terms.specs.Equations.{Equations}
use Rattle.sap_terms.specs.Same.{same_tree}
use Rattle.sap_terms.specs.Tree.{Tree}
use Rattle.sap_terms.specs.declared.fact.Fact.{Fact}

none_then : (b : Bool) (v : Which) → (if b then None else Some v) ≡ None → b ≡ true
none_then true v h = refl
none_then false v h = absurd (cc)

none_else : (b : Bool) (v : Which) → (if b then Some v else None) ≡ None → b ≡ false
none_else false v h = refl
none_else true v h = absurd (cc)

some_else : (b : Bool) (v w : Which) → (if b then None else Some v) ≡ Some w → (b ≡ false) × (v ≡ w)
some_else true v w h = absurd (cc)
some_else false v w h = (refl, cc)

some_then : (b : Bool) (v w : Which) → (if b then Some v else None) ≡ Some w → (b ≡ true) × (v ≡ w)
some_then true v w h = (refl, cc)
some_then false v w h = absurd (cc)

nothing : (w : Which) → None ≡ Some w → ⊥
nothing w h = cc

-- which sentence asks anything of the deed
abbrev pub watcher : Deed → Option Which
watcher starts = Some Init
watcher (takes x) = Some InEv
watcher (misses x) = Some NotIn
watcher (equals x y) = Some Eq
watcher (differs x y) = Some NotEq
watcher (finds x v) = Some In
watcher (locks k x) = Some Lock
watcher _ = None

pub unwatched : (e : Equations) (H : ℕ → Fact → Type 0) (d : Deed) (w : Which) → (watcher d ≡ Some w → ⊥) → Asks e H d w
unwatched e H d Init h = λ q. absurd (h (ap watcher q))
unwatched e H d Eq h = λ x y q. absurd (h (ap watcher q))
unwatched e H d NotEq h = λ x y q. absurd (h (ap watcher q))
unwatched e H d In h = λ x v q. absurd (h (ap watcher q))
unwatched e H d NotIn h = λ x q. absurd (h (ap watcher q))
unwatched e H d Lock h = λ m x q. absurd (h (ap watcher q))
unwatched e H d InEv h = λ x q. absurd (h (ap watcher q))

module _ (H : ℕ → Fact → Type 0) where
  value_found : (o : Option Tree) (x v : Tree) → StoreStands H x o → is_the o v ≡ true → (j : ℕ) × IsStored H x v j
  value_found None x v w h = absurd (cc)
  value_found (Some u) x v w h = subst (λ z. (j : ℕ) × IsStored H x z j) (same_tree-sound u v h) (w.0, w.1)

  value_only : (o : Option Tree) (x v : Tree) → StoreStands H x o → is_the o v ≡ false → ((j : ℕ) × IsStored H x v j) → ⊥
  value_only None x v w h r =
      let a = w v r.0 r.1.inserted in
      let b = r.1.deletes a.0 a.1 in
      let c = a.2 in
      omega arith
  value_only (Some u) x v w h r =
      let a = w.1.inserts v r.0 r.1.inserted in
      let b = r.1.inserts u w.0 w.1.inserted in
      let e : r.0 ≡ w.0 = omega arith in
      not_same u v h (sym (w.2 v (subst (λ k. H k (insert_fact x v)) e r.1.inserted)))

  none_unset : (o : Option Tree) (x : Tree) → StoreStands H x o → is_none o ≡ true → IsUnset H x
  none_unset None x w h = w
  none_unset (Some v) x w h = absurd (cc)

  some_set : (o : Option Tree) (x : Tree) → StoreStands H x o → is_none o ≡ false → IsUnset H x → ⊥
  some_set None x w h f = absurd (cc)
  some_set (Some v) x w h f =
      let r = f v w.0 w.1.inserted in
      let b = w.1.deletes r.0 r.1 in
      let c = r.2 in
      omega arith

  none_free : (o : Option Tree) (x : Tree) → HeldStands H x o → is_none o ≡ true → IsUnlocked H x
  none_free None x w h = w
  none_free (Some v) x w h = absurd (cc)

  some_held : (o : Option Tree) (x : Tree) → HeldStands H x o → is_none o ≡ false → IsUnlocked H x → ⊥
  some_held None x w h f = absurd (cc)
  some_held (Some k) x w h f =
      let r = f k w.0 w.1.locked in
      let b = w.1.unlocks r.0 r.1 in
      let c = r.2 in
      omega arith

  may_take : (o : Option Tree) (x : Tree) → UsableStands H o → is_the o x ≡ true → (j : ℕ) × IsUsable H x j
  may_take None x w h = absurd (cc)
  may_take (Some y) x w h = subst (λ z. (j : ℕ) × IsUsable H z j) (same_tree-sound y x h) (w.0, w.1)

  may_only : (o : Option Tree) (x : Tree) → UsableStands H o → is_the o x ≡ false → ((j : ℕ) × IsUsable H x j) → ⊥
  may_only None x w h r = w x r.0 r.1
  may_only (Some y) x w h r =
      let a = w.1.last x r.0 r.1.known in
      let b = r.1.last y w.0 w.1.known in
      let e : r.0 ≡ w.0 = omega arith in
      not_same y x h (sym (w.2 x (subst (λ k. H k (k_fact x)) e r.1.known)))

-- the machine keeps what stands for the trace
pub record Keeps (H : ℕ → Fact → Type 0) (m : Machine) : Type 0 where
  pub started : StartStands H m.started
  pub stored : (x : Tree) → StoreStands H x (m.stored x)
  pub held : (x : Tree) → HeldStands H x (m.held x)
  pub usable : UsableStands H m.usable

-- the terms that a test compares are theory-equal only where they are one
abbrev pub IsExact : Equations → Deed → Type 0
IsExact e d = (x y : Tree) → (d ≡ equals x y) ⊎ (d ≡ differs x y) → IsTheoryEqual e x y → x ≡ y

module _ (e : Equations) (H : ℕ → Fact → Type 0) (m : Machine) (k : Keeps H m) where
  -- where no test fails, nothing more is asked
  pub passes : (d : Deed) → IsExact e d → broken m d ≡ None → (w : Which) → Asks e H d w
  passes d x h Init = λ q i a.
      let b = none_else m.started Init (subst (λ z. broken m z ≡ None) q h) in
      let c = k.started.1 (i, a) in
      cc
  passes d x h Eq = λ s t q. let b = same_tree-sound s t (none_then (same_tree s t) Eq (subst (λ z. broken m z ≡ None) q h)) in subst (λ z. IsTheoryEqual e s z) b no_step
  passes d x h NotEq = λ s t q r. not_same s t (none_else (same_tree s t) NotEq (subst (λ z. broken m z ≡ None) q h)) (x s t (inr q) r)
  passes d x h In = λ s t q. value_found H (m.stored s) s t (k.stored s) (none_then (is_the (m.stored s) t) In (subst (λ z. broken m z ≡ None) q h))
  passes d x h NotIn = λ s q. none_unset H (m.stored s) s (k.stored s) (none_then (is_none (m.stored s)) NotIn (subst (λ z. broken m z ≡ None) q h))
  passes d x h Lock = λ l s q. none_free H (m.held s) s (k.held s) (none_then (is_none (m.held s)) Lock (subst (λ z. broken m z ≡ None) q h))
  passes d x h InEv = λ s q. may_take H m.usable s k.usable (none_then (is_the m.usable s) InEv (subst (λ z. broken m z ≡ None) q h))

  abbrev Fails : Deed → Which → Type 0
  Fails d w = (watcher d ≡ Some w) × (Asks e H d w → ⊥)

  -- where one fails, its sentence asks what isn't so
  pub fails : (d : Deed) → IsExact e d → (w : Which) → broken m d ≡ Some w → Fails d w
  fails starts x w h =
      let r = some_then m.started Init w h in
      subst (Fails starts) r.1 (refl, λ a. let s = k.started.0 r.0 in a refl s.0 s.1)
  fails (takes s) x w h =
      let r = some_else (is_the m.usable s) InEv w h in
      subst (Fails (takes s)) r.1 (refl, λ a. may_only H m.usable s k.usable r.0 (a s refl))
  fails (misses s) x w h =
      let r = some_else (is_none (m.stored s)) NotIn w h in
      subst (Fails (misses s)) r.1 (refl, λ a. some_set H (m.stored s) s (k.stored s) r.0 (a s refl))
  fails (equals s t) x w h =
      let r = some_else (same_tree s t) Eq w h in
      subst (Fails (equals s t)) r.1 (refl, λ a. not_same s t r.0 (x s t (inl refl) (a s t refl)))
  fails (differs s t) x w h =
      let r = some_then (same_tree s t) NotEq w h in
      subst (Fails (differs s t)) r.1 (refl, λ a. a s t refl (subst (λ z. IsTheoryEqual e s z) (same_tree-sound s t r.0) no_step))
  fails (finds s t) x w h =
      let r = some_else (is_the (m.stored s) t) In w h in
      subst (Fails (finds s t)) r.1 (refl, λ a. value_only H (m.stored s) s t (k.stored s) r.0 (a s t refl))
  fails (locks l s) x w h =
      let r = some_else (is_none (m.held s)) Lock w h in
      subst (Fails (locks l s)) r.1 (refl, λ a. some_held H (m.held s) s (k.held s) r.0 (a l s refl))
  fails happens x w h = absurd (nothing w h)
  fails (knows s) x w h = absurd (nothing w h)
  fails (deletes s) x w h = absurd (nothing w h)
  fails (inserts s t) x w h = absurd (nothing w h)
  fails (unlocks l s) x w h = absurd (nothing w h)
  fails idle x w h = absurd (nothing w h)

pub free_lock : (H : ℕ → Fact → Type 0) (m : Machine) → Keeps H m → (l s : Tree) → broken m (locks l s) ≡ None → IsUnlocked H s
free_lock H m k l s h = none_free H (m.held s) s (k.held s) (none_then (is_none (m.held s)) Lock h)
