-- What can be taken from a pile can be taken from one that has what its facts will be, where what is taken stays as it is.
use Rattle.std.proofs.Common.{slice_set, if◌then◌else◌, zero, suc, ◌≡◌, ℕ, ◌+◌, ◌<◌, List, [], ◌∷◌, Option, Some, None, Bool, true, false, cond, refl, sym, ap, subst, ◌∙◌, arith, slice_get}
use Rattle.std.specs.Prelude.{All}
use Rattle.std.proofs.lemmas.List.Elements.{All-head, All-tail}
use Rattle.sap_terms.specs.declared.fact.Fact.{Fact}
use Rattle.sap_terms.specs.Piles.{Pile, Takes, nothing, one, used}
use Rattle.sap_translate.specs.relation.Totals.{total}
use Rattle.sap_gen.specs.Carried.{counts, count_after, Stays}
use Rattle.sap_translate.specs.relation.Names.{same_fact}
use Rattle.sap_translate.proofs.Shared.Totals.{total-set, Found, total_found}
use Rattle.sap_translate.proofs.Shared.Takings.{spent, used_total}
use Rattle.sap_translate.proofs.Shared.Facts.{same_fact_self, same_fact_true}

-- as it is
abbrev pub itself : Fact → List Fact
itself f = f ∷ []

-- the second pile has what the first one's facts will be, each as often
abbrev pub Matches : (Fact → List Fact) → Pile → Pile → Type 0
Matches after xs ys = (test : Fact → Bool) → total (count_after after test) xs ≡ total (count_after itself test) ys

-- the fact is live there
pub record Live (ys : Pile) (f : Fact) : Type 0 where
  pub number : ℕ
  pub is : slice_get ys number ≡ Some (Some f)

cond_pos : (b : Bool) → 0 < cond b 1 0 + 0 → b ≡ true
cond_pos true h = refl
cond_pos false h = absurd (omega arith)

pub found_live : (ys : Pile) (f : Fact) → Found (count_after itself (same_fact f)) ys → Live ys f
found_live ys f x = go x.item refl
  where
    go : (o : Option Fact) → x.item ≡ o → Live ys f
    go None e = absurd (let h : 0 < count_after itself (same_fact f) None = subst (λ i. 0 < count_after itself (same_fact f) i) e x.counts in omega arith)
    go (Some g) e =
        let h : 0 < count_after itself (same_fact f) (Some g) = subst (λ i. 0 < count_after itself (same_fact f) i) e x.counts in
        let here : f ≡ g = same_fact_true f g (cond_pos (same_fact f g) h) in
        record { number = x.number; is = x.is ∙ ap (λ i. Some i) (e ∙ ap (λ i. Some i) (sym here)) }

-- what counts itself counts once
self_count : (after : Fact → List Fact) (f : Fact) → Stays after f → count_after after (same_fact f) (Some f) ≡ 1
self_count after f s =
    let a : counts (same_fact f) (after f) ≡ counts (same_fact f) (f ∷ []) = ap (counts (same_fact f)) s in
    let b : counts (same_fact f) (f ∷ []) ≡ 1 = ap (λ (b : Bool). cond b 1 0 + 0) (same_fact_self f) in
    a ∙ b

pub live_too : (after : Fact → List Fact) (xs ys : Pile) (k : ℕ) (f : Fact) → Matches after xs ys → Stays after f → slice_get xs k ≡ Some (Some f) → Live ys f
live_too after xs ys k f m s e =
    let w = count_after after (same_fact f) in
    let here = self_count after f s in
    let all = total-set w xs k (Some f) None e in
    let equal = m (same_fact f) in
    found_live ys f (total_found (count_after itself (same_fact f)) ys (omega arith))

-- behind the use of a fact that stays as it is both piles match again
pub used_matches : (after : Fact → List Fact) (xs ys : Pile) (j k : ℕ) (f : Fact) → Matches after xs ys → Stays after f → slice_get xs k ≡ Some (Some f) → slice_get ys j ≡ Some (Some f)
    → Matches after (used xs k f) (used ys j f)
used_matches after xs ys j k f m s e d test =
    let a = used_total (count_after after test) xs k f refl e in
    let b = used_total (count_after itself test) ys j f refl d in
    let c : counts test (after f) ≡ counts test (f ∷ []) = ap (counts test) s in
    let same_spent : spent (count_after after test) f ≡ spent (count_after itself test) f = ap (λ (n : ℕ). cond f.persistent 0 n) c in
    let equal = m test in
    omega arith

-- what is taken from the other
pub record Taken (after : Fact → List Fact) (ys : Pile) (fs : List Fact) (rest : Pile) : Type 0 where
  pub numbers : List ℕ
  pub left : Pile
  pub takes : Takes ys numbers fs left
  pub matches : Matches after rest left

pub take_too : (after : Fact → List Fact) {xs rest : Pile} {ks : List ℕ} {fs : List Fact} (ys : Pile) → Matches after xs ys → All (Stays after) fs → Takes xs ks fs rest → Taken after ys fs rest
take_too after ys m s nothing = record { numbers = []; left = ys; takes = nothing; matches = m }
take_too after ys m s (one {facts = xs} {k = k} {f = f} {fs = fs} e h) =
    let stays : Stays after f = All-head (Stays after) f fs s in
    let l = live_too after xs ys k f m stays e in
    let next = take_too after (used ys l.number f) (used_matches after xs ys l.number k f m stays e l.is) (All-tail (Stays after) f fs s) h in
    record { numbers = l.number ∷ next.numbers; left = next.left; takes = one l.is next.takes; matches = next.matches }

-- of one fact
pub record TakenOne (after : Fact → List Fact) (ys : Pile) (f : Fact) (rest : Pile) : Type 0 where
  pub number : ℕ
  pub left : Pile
  pub takes : Takes ys (number ∷ []) (f ∷ []) left
  pub matches : Matches after rest left

pub take_one : (after : Fact → List Fact) {xs rest : Pile} {k : ℕ} {f : Fact} (ys : Pile) → Matches after xs ys → Stays after f → Takes xs (k ∷ []) (f ∷ []) rest → TakenOne after ys f rest
take_one after ys m s (one {facts = xs} {k = k} {f = f} e nothing) =
    let l = live_too after xs ys k f m s e in
    record { number = l.number; left = used ys l.number f; takes = one l.is nothing; matches = used_matches after xs ys l.number k f m s e l.is }

-- what is live behind a use was live before it
set-live : (xs : Pile) (k j : ℕ) (x : Fact) → slice_get (slice_set xs k None) j ≡ Some (Some x) → slice_get xs j ≡ Some (Some x)
set-live [] k j x e = cc
set-live (y ∷ ys) zero zero x e = cc
set-live (y ∷ ys) zero (suc j) x e = e
set-live (y ∷ ys) (suc k) zero x e = e
set-live (y ∷ ys) (suc k) (suc j) x e = set-live ys k j x e

pub used_live : (xs : Pile) (k : ℕ) (f : Fact) (j : ℕ) (x : Fact) → slice_get (used xs k f) j ≡ Some (Some x) → slice_get xs j ≡ Some (Some x)
used_live xs k f j x = go f.persistent where
  go : (b : Bool) → slice_get (if b then xs else slice_set xs k None) j ≡ Some (Some x) → slice_get xs j ≡ Some (Some x)
  go true e = e
  go false e = set-live xs k j x e
