-- What taking facts does to counts and to what holds of each fact.
use Rattle.sap_translate.specs.Members.{Member}
use Rattle.sap_translate.proofs.Shared.Lookups.{Every, every-set}
use Rattle.sap_translate.proofs.Shared.Totals.{total-set}
use Rattle.sap_translate.specs.relation.Totals.{total}
use Rattle.sap_terms.specs.Piles.{Takes, nothing, one, used, adds}
use Rattle.sap_terms.specs.declared.fact.Fact.{Fact}
use Rattle.std.proofs.Common.{◌≡◌, ℕ, zero, suc, ◌+◌, List, [], ◌∷◌, Option, Some, None, arith, Bool, true, false, cond, slice_get, slice_set}
use Rattle.std.specs.Prelude.{if◌then◌else◌}

-- what a fact weighs that is used
abbrev pub spent : (Option Fact → ℕ) → Fact → ℕ
spent w f = cond f.persistent 0 (w (Some f))

pub used_total : (w : Option Fact → ℕ) (facts : List (Option Fact)) (k : ℕ) (f : Fact) → w None ≡ 0 → slice_get facts k ≡ Some (Some f) → total w (used facts k f) + spent w f ≡ total w facts
used_total w facts k f z e = go f.persistent
  where
    go : (b : Bool) → total w (if b then facts else slice_set facts k None) + cond b 0 (w (Some f)) ≡ total w facts
    go true = omega arith
    go false = omega (arith, total-set w facts k (Some f) None e)

pub takes_total : {facts rest : List (Option Fact)} {ks : List ℕ} {fs : List Fact} (w : Option Fact → ℕ) → w None ≡ 0 → Takes facts ks fs rest → total w rest + total (spent w) fs ≡ total w facts
takes_total w z nothing = omega arith
takes_total w z (one {facts = facts} {k = k} {f = f} e h) = omega (arith, takes_total w z h, used_total w facts k f z e)

pub takes_every : {facts rest : List (Option Fact)} {ks : List ℕ} {fs : List Fact} (P : Fact → Type 0) → Every P facts → Takes facts ks fs rest → Every P rest
takes_every P all nothing = all
takes_every P all (one {facts = facts} {k = k} {f = f} e h) = takes_every P (go f.persistent) h
  where
    go : (b : Bool) → Every P (if b then facts else slice_set facts k None)
    go true = all
    go false = every-set P facts k None all (λ a g. absurd (cc))

pub every-adds : (P : Fact → Type 0) (facts : List (Option Fact)) (more : List Fact) → Every P facts → ((f : Fact) → Member f more → P f) → Every P (adds facts more)
every-adds P [] [] all h t a e = cc
every-adds P [] (f ∷ more) all h zero a e = h a (let same : f ≡ a = cc in go same)
  where
    go : {g : Fact} → f ≡ g → Member g (f ∷ more)
    go s = rw (← s) Member.here
every-adds P [] (f ∷ more) all h (suc t) a e = every-adds P [] more (λ k b g. absurd (cc)) (λ g m. h g (Member.later m)) t a e
every-adds P (x ∷ facts) more all h zero a e = all zero a e
every-adds P (x ∷ facts) more all h (suc t) a e = every-adds P facts more (λ k b g. all (suc k) b g) h t a e

each_member : {g f : Fact} {fs : List Fact} (P : Fact → Type 0) → P g → Member f (g ∷ fs) → (Member f fs → P f) → P f
each_member P h Member.here more = h
each_member P h (Member.later n) more = more n

-- each fact that is taken was there
pub taken_each : {facts rest : List (Option Fact)} {ks : List ℕ} {fs : List Fact} (P : Fact → Type 0) → Every P facts → Takes facts ks fs rest → (f : Fact) → Member f fs → P f
taken_each P all nothing f m = elim m [ ]
taken_each P all (one {facts = facts} {k = k} {f = g} e h) f m = each_member P (all k g e) m (λ n. taken_each P (go g.persistent) h f n)
  where
    go : (b : Bool) → Every P (if b then facts else slice_set facts k None)
    go true = all
    go false = every-set P facts k None all (λ a l. absurd (cc))
