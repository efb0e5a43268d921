-- A full trace that isn't admitted: two inputs behind what the adversary was last shown to know.
use Rattle.std.proofs.Common.{◌≡◌, ◌⊎◌, ◌<◌, ◌≤◌, inl, inr, ℕ, zero, suc, List, [], ◌∷◌, Some, false, refl, subst, arith, slice_get}
use Rattle.std.specs.Prelude.{codes}
use Rattle.sap_formula.specs.Truth.{EachIn}
use Rattle.sap_restrict.specs.Sentences.{IsServed, MeetsDemands}
use Rattle.sap_restrict.specs.Shown.{AreLinear, HasFact}
use Rattle.sap_restrict.specs.Standard.{IsAdmitted}
use Rattle.sap_terms.specs.Equations.{equations}
use Rattle.sap_terms.specs.Message.{IsMessage, IsMessageTrace}
use Rattle.sap_terms.specs.Signature.{Sig}
use Rattle.sap_terms.specs.Trace.{Trace}
use Rattle.sap_terms.specs.declared.fact.Fact.{Fact}
use Rattle.sap_terms.specs.declared.var.Sort.TheVariants.{Msg}
use Rattle.sap_translate.specs.Examples.{term_a, two_inputs_served_once}
use Rattle.sap_translate.specs.Members.{Member}
use Rattle.sap_translate.proofs.Premises.LowerLaws.{Laws}
use Rattle.sap_translate.proofs.Premises.WellMade.{each_at}
use Rattle.sap_translate.proofs.Restricted.Truth.{shown_to}
use Rattle.sap_translate.proofs.Terms.Derive.{contains, each_of_members}

-- the fact is linear and has messages as arguments
abbrev IsTidyFact : Sig → Fact → Type 0
IsTidyFact g f = (f.persistent ≡ false) × EachIn (IsMessage g Msg) f.args

a_message : (laws : Laws) → (g : Sig) → IsMessage g Msg term_a
a_message laws g = record { ground = tt; over = tt; normal = laws.leaves.of_public_name (equations g) (codes "a"); sorted = refl }

all_tidy : (laws : Laws) → (g : Sig) → EachIn (EachIn (IsTidyFact g)) two_inputs_served_once
all_tidy laws g =
    let one : IsMessage g Msg term_a = (a_message laws) g in
    (((refl, tt), tt), (tt, (tt, (((refl, (one, tt)), tt), (((refl, (one, tt)), tt), (((refl, (one, tt)), tt), (((refl, (one, tt)), tt), tt)))))))

at_time : (tr : Trace) (k : ℕ) (p : List Fact) → slice_get tr k ≡ Some p → Member p tr
at_time [] k p e = absurd (cc)
at_time (q ∷ tr) zero p e = subst (λ z. Member z (q ∷ tr)) (let same : q ≡ p = cc in same) Member.here
at_time (q ∷ tr) (suc k) p e = Member.later (at_time tr k p e)

module _ (laws : Laws) (g : Sig) where
  tidy_fact : (p : List Fact) (f : Fact) → Member p two_inputs_served_once → Member f p → IsTidyFact g f
  tidy_fact p f m n = each_at (IsTidyFact g) p (each_at (EachIn (IsTidyFact g)) two_inputs_served_once ((all_tidy laws) g) p m) f n

  messages : IsMessageTrace g two_inputs_served_once
  messages = each_of_members two_inputs_served_once (λ p m. each_of_members p (λ f n. each_of_members f.args (λ t o. each_at (IsMessage g Msg) f.args (tidy_fact p f m n).1 t o)))

  linear : AreLinear two_inputs_served_once
  linear k f h r = let s = shown_to two_inputs_served_once k f h in (tidy_fact s.0 f (at_time two_inputs_served_once k s.0 s.1) s.2).0

  pub not_served : IsAdmitted g two_inputs_served_once → ⊥
  not_served h =
      let meets : MeetsDemands (equations g) two_inputs_served_once = (laws.admitted g two_inputs_served_once messages linear).0 h in
      let r = meets.demands.served term_a 6 (contains (Member.here {xs = []})) in
      by r.0 r.1 (r.1.inputs term_a 5 (contains (Member.here {xs = []})))
    where
      by : (j : ℕ) → IsServed (HasFact two_inputs_served_once) 6 term_a j → (5 < j) ⊎ (6 ≤ 5) → ⊥
      by j s (inl late) = let early : j < 6 = s.before in absurd (omega (arith, early, late))
      by j s (inr late) = absurd (omega (arith, late))
