-- Who stands as a live fact: by the counts, whatever the form; and the one owner of a tag.
use Rattle.sap_translate.specs.Members.{Member}
use Rattle.sap_translate.proofs.Shared.Facts.{same_fact_self, same_fact_true}
use Rattle.sap_translate.proofs.Shared.Owners as by_owners
use Rattle.sap_translate.proofs.Shared.Owners.{Handshake, Owner, Owners}
use Rattle.sap_translate.proofs.Shared.Totals.{total-set, total_found, Found}
use Rattle.sap_translate.specs.relation.Names.{same_fact}
use Rattle.sap_templates.specs.ChannelFacts.{ack_fact}
use Rattle.sap_translate.specs.relation.Totals.{total}
use Rattle.sap_translate.specs.relation.Locks.{Holder}
use Rattle.sap_translate.specs.relation.Agents.{Agent, stands_as}
use Rattle.sap_translate.specs.relation.Counts.{SameFacts, count_one, count_live, count_owed, is_control}
use Rattle.sap_translate.specs.relation.Related.{NamesPart}
use Rattle.sap_place.specs.StateFacts.{waits_fact}
use Rattle.sap_process.specs.Configuration.{Config}
use Rattle.sap_rule.specs.RuleSteps.{RuleState}
use Rattle.sap_terms.specs.Tree.{Tree}
use Rattle.sap_terms.specs.declared.fact.Fact.{Fact}
use Rattle.std.proofs.Common.{◌≡◌, ℕ, zero, suc, ◌+◌, ◌<◌, List, [], ◌∷◌, ◌++◌, Option, Some, None, refl, ap, ◌∙◌, arith, Bool, true, false, cond, slice_get, subst}

cond_pos : (b : Bool) (n : ℕ) → 0 < cond b n 0 → (b ≡ true) × (0 < n)
cond_pos true n h = (refl, h)
cond_pos false n h = absurd (omega arith)

counted_member : (f : Fact) (fs : List Fact) → 0 < total (count_one (same_fact f)) fs → Member f fs
counted_member f [] h = absurd (omega arith)
counted_member f (g ∷ fs) h = go (count_one (same_fact f) g) refl (counted_member f fs)
  where
    go : (n : ℕ) → count_one (same_fact f) g ≡ n → (0 < total (count_one (same_fact f)) fs → Member f fs) → Member f (g ∷ fs)
    go zero e more = Member.later (more (omega arith))
    go (suc n) e more =
        let a = cond_pos (is_control g) (cond (same_fact f g) 1 0) (let z : 0 < count_one (same_fact f) g = omega arith in z) in
        let b = cond_pos (same_fact f g) 1 a.1 in
        let same : f ≡ g = same_fact_true f g b.0 in
        subst (λ x. Member f (x ∷ fs)) same Member.here

pub owner : (agents : List (Option Agent)) (s : RuleState) (k : ℕ) (f : Fact) → SameFacts agents s → is_control f ≡ true → slice_get s.facts k ≡ Some (Some f) → Owner agents f
owner agents s k f same control e =
    let test = same_fact f in
    let self : count_one test f ≡ 1 = rw (control, same_fact_self f) refl in
    let all = total-set (count_live test) s.facts k (Some f) None e in
    let equal = same test in
    by_found (total_found (count_owed test) agents (omega arith))
  where
    by_found : Found (count_owed (same_fact f)) agents → Owner agents f
    by_found x = go x.item refl
      where
        go : (o : Option Agent) → x.item ≡ o → Owner agents f
        go None g = absurd (let h : 0 < count_owed (same_fact f) None = subst (λ i. 0 < count_owed (same_fact f) i) g x.counts in omega arith)
        go (Some a) g = record {
          thread = x.number;
          agent = a;
          is = x.is ∙ ap (λ i. Some i) g;
          stands = counted_member f (stands_as a) (subst (λ i. 0 < count_owed (same_fact f) i) g x.counts);
        }

-- so each has one
pub owners : (agents : List (Option Agent)) (s : RuleState) → SameFacts agents s → Owners agents s
owners agents s same = λ k f control e. owner agents s k f same control e

-- an acknowledgement and a linear semi-state with one tag are one sender's
pub handshake : {holders : List Holder} (agents : List (Option Agent)) (c : Config) (s : RuleState) (i j : ℕ) (path : List ℕ) (t : Tree) (args : List Tree) → (same : SameFacts agents s) → NamesPart agents c s holders
    → (there : slice_get s.facts i ≡ Some (Some (waits_fact path (args ++ t ∷ [])))) → (ack : slice_get s.facts j ≡ Some (Some (ack_fact t)))
    → Handshake agents (owners agents s same i (waits_fact path (args ++ t ∷ [])) refl there).thread (owners agents s same j (ack_fact t) refl ack).thread path t args
handshake agents c s i j path t args same names there ack = by_owners.handshake agents c s i j path t args (owners agents s same) names there ack
