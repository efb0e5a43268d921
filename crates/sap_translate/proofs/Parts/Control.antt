-- Each live state fact has its thread, and each thread its fact.
use Rattle.sap_translate.specs.Members.{Member}
use Rattle.sap_translate.proofs.Parts.Owner.{owners}
use Rattle.sap_translate.proofs.Shared.Facts.{same_fact_self, same_fact_true}
use Rattle.sap_translate.proofs.Shared.Standing as by_owners
use Rattle.sap_translate.proofs.Shared.Standing.{CopyStanding, Standing}
use Rattle.sap_translate.proofs.Shared.Totals.{total-set, total_found, Found}
use Rattle.sap_translate.specs.relation.Names.{same_fact}
use Rattle.sap_translate.specs.relation.Totals.{total}
use Rattle.sap_translate.specs.relation.Agents.{Agent, stands_as}
use Rattle.sap_translate.specs.relation.Counts.{SameFacts, count_one, count_live, count_owed, count_fact, is_control}
use Rattle.sap_place.specs.StateFacts.{state_fact, copies_fact}
use Rattle.sap_rule.specs.RuleSteps.{RuleState}
use Rattle.sap_terms.specs.Tree.{Tree}
use Rattle.sap_terms.specs.declared.fact.Fact.{Fact}
use Rattle.std.proofs.Common.{◌≡◌, ℕ, ◌<◌, List, [], ◌∷◌, Option, Some, None, refl, sym, ap, ◌∙◌, arith, Bool, true, false, cond, slice_get, subst}

cond_pos : (b : Bool) (n : ℕ) → 0 < cond b n 0 → (b ≡ true) × (0 < n)
cond_pos true n h = (refl, h)
cond_pos false n h = absurd (omega arith)

counts_passes : (test : Fact → Bool) (f : Fact) → 0 < count_one test f → test f ≡ true
counts_passes test f h = (cond_pos (test f) 1 (cond_pos (is_control f) (cond (test f) 1 0) h).1).0

counts_self : (f : Fact) → is_control f ≡ true → count_one (same_fact f) f ≡ 1
counts_self f e = rw (e, same_fact_self f) refl

pub record LiveFact (facts : List (Option Fact)) (f : Fact) : Type 0 where
  pub number : ℕ
  pub is : slice_get facts number ≡ Some (Some f)

live_fact : (facts : List (Option Fact)) (f : Fact) → Found (count_live (same_fact f)) facts → LiveFact facts f
live_fact facts f x = go x.item refl
  where
    go : (o : Option Fact) → x.item ≡ o → LiveFact facts f
    go None e = absurd (let h : 0 < count_live (same_fact f) None = subst (λ i. 0 < count_live (same_fact f) i) e x.counts in omega arith)
    go (Some g) e =
        let h : 0 < count_one (same_fact f) g = subst (λ i. 0 < count_live (same_fact f) i) e x.counts in
        let same : f ≡ g = same_fact_true f g (counts_passes (same_fact f) g h) in
        record { number = x.number; is = x.is ∙ ap (λ i. Some i) (e ∙ ap (λ i. Some i) (sym same)) }

-- the same of any fact that is counted by itself
pub counted_fact : (facts : List (Option Fact)) (f : Fact) → 0 < total (count_fact f) facts → LiveFact facts f
counted_fact facts f h = by_found (total_found (count_fact f) facts h)
  where
    by_found : Found (count_fact f) facts → LiveFact facts f
    by_found x = go x.item refl
      where
        go : (o : Option Fact) → x.item ≡ o → LiveFact facts f
        go None e = absurd (let g : 0 < count_fact f None = subst (λ i. 0 < count_fact f i) e x.counts in omega arith)
        go (Some g) e =
            let c : 0 < cond (same_fact g f) 1 0 = subst (λ i. 0 < count_fact f i) e x.counts in
            let same : g ≡ f = same_fact_true g f (cond_pos (same_fact g f) 1 c).0 in
            record { number = x.number; is = x.is ∙ ap (λ i. Some i) (e ∙ ap (λ i. Some i) same) }

pub live_counts : (facts : List (Option Fact)) (k : ℕ) (f : Fact) → slice_get facts k ≡ Some (Some f) → 0 < total (count_fact f) facts
live_counts facts k f e = let all = total-set (count_fact f) facts k (Some f) None e in let one : count_fact f (Some f) ≡ 1 = rw (same_fact_self f) refl in omega arith

member_counts : (f : Fact) (fs : List Fact) → is_control f ≡ true → Member f fs → 0 < total (count_one (same_fact f)) fs
member_counts f [] control m = elim m [ ]
member_counts f (g ∷ fs) control Member.here = let one = counts_self g control in omega arith
member_counts f (g ∷ fs) control (Member.later m) = let h = member_counts f fs control m in omega arith

-- a fact that an agent stands as is live
pub fact_in : (agents : List (Option Agent)) (s : RuleState) (t : ℕ) (a : Agent) (f : Fact) → SameFacts agents s → slice_get agents t ≡ Some (Some a) → Member f (stands_as a) → is_control f ≡ true → LiveFact s.facts f
fact_in agents s t a f same e stands control =
    let test = same_fact f in
    let owes = member_counts f (stands_as a) control stands in
    let all = total-set (count_owed test) agents t (Some a) None e in
    let equal = same test in
    live_fact s.facts f (total_found (count_live test) s.facts (omega arith))

pub fact_of : (agents : List (Option Agent)) (s : RuleState) (t : ℕ) (a : Agent) (f : Fact) → SameFacts agents s → slice_get agents t ≡ Some (Some a) → stands_as a ≡ f ∷ [] → is_control f ≡ true → LiveFact s.facts f
fact_of agents s t a f same e stands control = fact_in agents s t a f same e (subst (λ fs. Member f fs) (sym stands) Member.here) control

-- the thread of a live state fact
pub agent_of : (agents : List (Option Agent)) (path : List ℕ) (args : List Tree) (s : RuleState) (k : ℕ) (same : SameFacts agents s) (e : slice_get s.facts k ≡ Some (Some (state_fact path args)))
    → Standing agents (owners agents s same k (state_fact path args) refl e).thread path args
agent_of agents path args s k same e = by_owners.agent_of agents path args s k (owners agents s same) e

-- that of a replication that has started
pub copy_agent_of : (agents : List (Option Agent)) (path : List ℕ) (args : List Tree) (s : RuleState) (k : ℕ) (same : SameFacts agents s) (e : slice_get s.facts k ≡ Some (Some (copies_fact path args)))
    → CopyStanding agents (owners agents s same k (copies_fact path args) refl e).thread path args
copy_agent_of agents path args s k same e = by_owners.copy_agent_of agents path args s k (owners agents s same) e
