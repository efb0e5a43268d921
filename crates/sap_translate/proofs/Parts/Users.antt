-- Facts of embedded rules stand for no thread, no name and no message.
use Rattle.sap_restrict.specs.ReservedFacts.{init_fact, event_fact}
use Rattle.sap_translate.specs.Members.{Member}
use Rattle.sap_formula.specs.Hide.{is_hidden, visible}
use Rattle.sap_translate.proofs.Traces.Demands.{is_demand, fine_asks_none, fine_writes_none, fine_locks_none, NoDemand}
use Rattle.sap_translate.proofs.Shared.Facts.{same_fact_true, not_reserved}
use Rattle.sap_translate.proofs.Traces.LockTraces.{NoLock, is_lock}
use Rattle.sap_translate.proofs.Traces.Store.{NoWrite, is_write}
use Rattle.sap_translate.proofs.Shared.Takings.{spent}
use Rattle.sap_translate.proofs.Traces.Visible.{not_hidden, not_init}
use Rattle.sap_translate.specs.relation.Names.{same_fact}
use Rattle.sap_translate.specs.relation.Totals.{total}
use Rattle.sap_translate.specs.Scoped.{AreUnreserved}
use Rattle.sap_translate.specs.relation.Counts.{count_live, count_fact, is_control, has_init}
use Rattle.sap_templates.specs.Templates.{embedded_acts}
use Rattle.sap_terms.specs.Choice.{Choice}
use Rattle.sap_terms.specs.Modulo.{instance_fact, AreEqualFacts, AreFormsOfFacts}
use Rattle.sap_terms.specs.Reserved.{is_reserved, reserved_words}
use Rattle.sap_terms.specs.Equations.{Equations}
use Rattle.sap_terms.specs.declared.fact.Fact.{Fact}
use Rattle.std.proofs.Common.{◌≡◌, ◌||◌, ℕ, List, [], ◌∷◌, Option, Some, refl, sym, ap, ◌∙◌, arith, Bool, true, false, cond, subst, map, not}
use Rattle.std.specs.Prelude.{codes, nat_eq}
use Rattle.std.specs.List.{list_any, starts_with}
use Rattle.std.specs.Str.{bytes_eq}

or_right : (a b c : Bool) → (a || b || c) ≡ false → (b ≡ false) × (c ≡ false)
or_right true b c e = cc
or_right false true c e = cc
or_right false false c e = (refl, e)

user_no_control : (f : Fact) → is_reserved f.name ≡ false → is_control f ≡ false
user_no_control f e =
    let both = or_right (list_any (λ word. bytes_eq f.name word) reserved_words) (starts_with nat_eq f.name (codes "State_")) (starts_with nat_eq f.name (codes "Semi_")) e in
    rw (both.0, both.1, not_reserved f.name (codes "Msg") e refl, not_reserved f.name (codes "Ack") e refl) refl

pub user_live : (test : Fact → Bool) (f : Fact) → is_reserved f.name ≡ false → count_live test (Some f) ≡ 0
user_live test f e = rw (user_no_control f e) refl

pub user_fact : (g f : Fact) → is_reserved g.name ≡ true → is_reserved f.name ≡ false → count_fact g (Some f) ≡ 0
user_fact g f r e = go (same_fact f g) refl
  where
    go : (b : Bool) → same_fact f g ≡ b → ◌≡◌ {A = ℕ} (cond b 1 0) 0
    go true s = absurd (let same : f ≡ g = same_fact_true f g s in let z : false ≡ true = sym (subst (λ x. is_reserved x.name ≡ false) same e) ∙ r in cc)
    go false s = refl

cond_none : (b : Bool) (n : ℕ) → n ≡ 0 → cond b 0 n ≡ 0
cond_none true n h = refl
cond_none false n h = h

-- a weight that is 0 on them
pub users_added : (w : Option Fact → ℕ) (fs : List Fact) → ((f : Fact) → is_reserved f.name ≡ false → w (Some f) ≡ 0) → AreUnreserved fs → total w (map (λ f. Some f) fs) ≡ 0
users_added w [] h u = refl
users_added w (f ∷ fs) h u = let a = h f (u f Member.here) in let b = users_added w fs h (λ g m. u g (Member.later m)) in omega arith

pub users_spent : (w : Option Fact → ℕ) (fs : List Fact) → ((f : Fact) → is_reserved f.name ≡ false → w (Some f) ≡ 0) → AreUnreserved fs → total (spent w) fs ≡ 0
users_spent w [] h u = refl
users_spent w (f ∷ fs) h u = let a = cond_none f.persistent (w (Some f)) (h f (u f Member.here)) in let b = users_spent w fs h (λ g m. u g (Member.later m)) in omega arith

-- what they show
pub users_visible : (fs : List Fact) → AreUnreserved fs → visible fs ≡ fs
users_visible [] u = refl
users_visible (f ∷ fs) u = go (is_hidden f.name) (not_hidden f.name (u f Member.here)) (users_visible fs (λ g m. u g (Member.later m)))
  where
    go : (b : Bool) → b ≡ false → visible fs ≡ fs → cond (not b) (f ∷ visible fs) (visible fs) ≡ f ∷ fs
    go true h e = absurd (cc)
    go false h e = ap (λ gs. f ∷ gs) e

pub said_visible : (fs : List Fact) → AreUnreserved fs → visible (embedded_acts fs) ≡ fs
said_visible [] u = refl
said_visible (f ∷ fs) u = users_visible (f ∷ fs) u

users_no_init : (fs : List Fact) → AreUnreserved fs → has_init fs ≡ 0
users_no_init [] u = refl
users_no_init (f ∷ fs) u = go (same_fact f init_fact) (not_init f (u f Member.here)) (users_no_init fs (λ g m. u g (Member.later m)))
  where
    go : (b : Bool) → b ≡ false → has_init fs ≡ 0 → cond b 1 (has_init fs) ≡ 0
    go true h e = absurd (cc)
    go false h e = e

pub said_no_init : (fs : List Fact) → AreUnreserved fs → has_init (embedded_acts fs) ≡ 0
said_no_init [] u = refl
said_no_init (f ∷ fs) u = users_no_init (f ∷ fs) u

one_of : {g : Fact} (f : Fact) (fs : List Fact) (P : Fact → Type 0) → P f → ((g : Fact) → Member g fs → P g) → Member g (f ∷ fs) → P g
one_of f fs P h rest Member.here = h
one_of {g} f fs P h rest (Member.later m) = rest g m

pub said_asks_none : (fs : List Fact) → AreUnreserved fs → NoDemand (embedded_acts fs)
said_asks_none [] u g m = elim m [ ]
said_asks_none (f ∷ fs) u g m = one_of event_fact (f ∷ fs) (λ x. is_demand x.name ≡ false) refl (λ h n. fine_asks_none h.name (u h n)) m

pub said_writes_none : (fs : List Fact) → AreUnreserved fs → NoWrite (embedded_acts fs)
said_writes_none [] u g m = elim m [ ]
said_writes_none (f ∷ fs) u g m = one_of event_fact (f ∷ fs) (λ x. is_write x.name ≡ false) refl (λ h n. fine_writes_none h.name (u h n)) m

pub said_locks_none : (fs : List Fact) → AreUnreserved fs → NoLock (embedded_acts fs)
said_locks_none [] u g m = elim m [ ]
said_locks_none (f ∷ fs) u g m = one_of event_fact (f ∷ fs) (λ x. is_lock x.name ≡ false) refl (λ h n. fine_locks_none h.name (u h n)) m

-- names stay under instances, normal forms and the theory
pub put_users : (σ : Choice) (fs : List Fact) → AreUnreserved fs → AreUnreserved (map (instance_fact σ) fs)
put_users σ [] u g m = elim m [ ]
put_users σ (f ∷ fs) u g m = one_of (instance_fact σ f) (map (instance_fact σ) fs) (λ x. is_reserved x.name ≡ false) (u f Member.here) (λ h n. put_users σ fs (λ k j. u k (Member.later j)) h n) m

pub equal_users : (e : Equations) (fs hs : List Fact) → AreEqualFacts e fs hs → AreUnreserved fs → AreUnreserved hs
equal_users e [] [] a u g m = elim m [ ]
equal_users e [] (h ∷ hs) a u g m = absurd a
equal_users e (f ∷ fs) [] a u g m = absurd a
equal_users e (f ∷ fs) (h ∷ hs) a u g m = one_of h hs (λ x. is_reserved x.name ≡ false) (subst (λ n. is_reserved n ≡ false) (sym a.0.name) (u f Member.here)) (λ k n. equal_users e fs hs a.1 (λ i j. u i (Member.later j)) k n) m

pub form_users : (e : Equations) (fs hs : List Fact) → AreFormsOfFacts e fs hs → AreUnreserved fs → AreUnreserved hs
form_users e [] [] a u g m = elim m [ ]
form_users e [] (h ∷ hs) a u g m = absurd a
form_users e (f ∷ fs) [] a u g m = absurd a
form_users e (f ∷ fs) (h ∷ hs) a u g m = one_of h hs (λ x. is_reserved x.name ≡ false) (subst (λ n. is_reserved n ≡ false) (sym a.0.name) (u f Member.here)) (λ k n. form_users e fs hs a.1 (λ i j. u i (Member.later j)) k n) m
