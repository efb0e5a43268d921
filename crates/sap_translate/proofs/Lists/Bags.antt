-- Facts of embedded rules: what one pile can give, a pile with the same facts can give too.
use Rattle.sap_translate.specs.Members.{Member}
use Rattle.sap_translate.proofs.Parts.Control.{LiveFact}
use Rattle.sap_translate.proofs.Shared.Facts.{same_fact_self, same_fact_true}
use Rattle.sap_translate.proofs.Shared.Takings.{takes_total}
use Rattle.sap_translate.proofs.Shared.Totals.{total-set, total-append, total_found, Found}
use Rattle.sap_translate.specs.relation.Names.{same_fact}
use Rattle.sap_translate.specs.relation.Counts.{count_user, SamePile}
use Rattle.sap_translate.specs.Scoped.{AreUnreserved}
use Rattle.sap_terms.specs.Piles.{Takes, used, adds}
use Rattle.sap_terms.specs.Reserved.{is_reserved}
use Rattle.sap_terms.specs.declared.fact.Fact.{Fact}
use Rattle.std.proofs.Common.{◌≡◌, ℕ, ◌<◌, List, [], ◌∷◌, Option, Some, None, refl, sym, ap, ◌∙◌, arith, Bool, true, false, cond, slice_get, subst, map}

pub record Taken (ys : List (Option Fact)) (fs : List Fact) (rest : List (Option Fact)) : Type 0 where
  pub ks : List ℕ
  pub left : List (Option Fact)
  pub takes : Takes ys ks fs left
  pub same : SamePile rest left

cond_pos : (b : Bool) (n : ℕ) → 0 < cond b n 0 → (b ≡ true) × (0 < n)
cond_pos true n h = (refl, h)
cond_pos false n h = absurd (omega arith)

cond_neg : (b : Bool) (n : ℕ) → 0 < cond b 0 n → 0 < n
cond_neg true n h = absurd (omega arith)
cond_neg false n h = h

user_self : (f : Fact) → is_reserved f.name ≡ false → count_user (same_fact f) (Some f) ≡ 1
user_self f e = rw (e, same_fact_self f) refl

found_user : (ys : List (Option Fact)) (f : Fact) → Found (count_user (same_fact f)) ys → LiveFact ys f
found_user ys f x = go x.item refl
  where
    go : (o : Option Fact) → x.item ≡ o → LiveFact ys f
    go None e = absurd (let h : 0 < count_user (same_fact f) None = subst (λ i. 0 < count_user (same_fact f) i) e x.counts in omega arith)
    go (Some g) e =
        let h : 0 < cond (is_reserved g.name) 0 (cond (same_fact f g) 1 0) = subst (λ i. 0 < count_user (same_fact f) i) e x.counts in
        let same : f ≡ g = same_fact_true f g (cond_pos (same_fact f g) 1 (cond_neg (is_reserved g.name) (cond (same_fact f g) 1 0) h)).0 in
        record { number = x.number; is = x.is ∙ ap (λ i. Some i) (e ∙ ap (λ i. Some i) (sym same)) }

-- a fact that is live on one side is live on the other
pub live_too : (xs ys : List (Option Fact)) (k : ℕ) (f : Fact) → SamePile xs ys → is_reserved f.name ≡ false → slice_get xs k ≡ Some (Some f) → LiveFact ys f
live_too xs ys k f same user e =
    let self = user_self f user in
    let all = total-set (count_user (same_fact f)) xs k (Some f) None e in
    let equal = same (same_fact f) in
    found_user ys f (total_found (count_user (same_fact f)) ys (omega arith))

pub take_same : {xs rest : List (Option Fact)} {ks : List ℕ} {fs : List Fact} (ys : List (Option Fact)) → SamePile xs ys → AreUnreserved fs → Takes xs ks fs rest → Taken ys fs rest
take_same ys same user Takes.nothing = record { ks = []; left = ys; takes = Takes.nothing; same = same }
take_same ys same user (Takes.one {facts = xs} {k = k} {f = f} e h) =
    let l = live_too xs ys k f same (user f Member.here) e in
    let first : Takes xs (k ∷ []) (f ∷ []) (used xs k f) = Takes.one e Takes.nothing in
    let second : Takes ys (l.number ∷ []) (f ∷ []) (used ys l.number f) = Takes.one l.is Takes.nothing in
    let after : SamePile (used xs k f) (used ys l.number f) = λ test. let a = takes_total (count_user test) refl first in let b = takes_total (count_user test) refl second in let c = same test in omega arith in
    let next = take_same (used ys l.number f) after (λ g m. user g (Member.later m)) h in
    record { ks = l.number ∷ next.ks; left = next.left; takes = Takes.one l.is next.takes; same = next.same }

-- and both gain the same facts
pub add_same : (xs ys : List (Option Fact)) (fs : List Fact) → SamePile xs ys → SamePile (adds xs fs) (adds ys fs)
add_same xs ys fs same test = let a = total-append (count_user test) xs (map (λ f. Some f) fs) in let b = total-append (count_user test) ys (map (λ f. Some f) fs) in let c = same test in omega arith
