-- A machine stands for each trace that counts, and answers on one time more.
use Rattle.std.proofs.Common.{◌≡◌, List, [], ◌∷◌, ◌++◌, Option, Some, None, refl, sym, subst, ◌⊎◌, inl, inr, append_assoc}
use Rattle.std.specs.Prelude.{All, Ok}
use Rattle.std.proofs.lemmas.List.{append-nil}
use Rattle.std.proofs.lemmas.List.Elements.{All-head, All-tail}
use Rattle.sap_restrict.proofs.Telling.{answers, fresh_stands, messages_before, prefix_law, stands_next}
use Rattle.sap_restrict.specs.Answer.{IsOnlyFalse}
use Rattle.sap_restrict.specs.OneMore.{OneMoreLaw}
use Rattle.sap_restrict.specs.Standard.{IsAdmitted}
use Rattle.sap_restrict.specs.Stands.{HasOneReserved, Machine, KeepsTrace}
use Rattle.sap_restrict.specs.code.Deeds.{deed_by, reserved_in}
use Rattle.sap_restrict.specs.code.Machines.{after, broken, fresh_machine}
use Rattle.sap_restrict.specs.declared.guard.Admit.TheVariants.{Broken}
use Rattle.sap_restrict.specs.declared.which.Which.{Which}
use Rattle.sap_rewrite.specs.Laws.{NormalTermsDecide}
use Rattle.sap_terms.specs.Message.{IsMessageTrace}
use Rattle.sap_terms.specs.Signature.{Sig}
use Rattle.sap_terms.specs.Trace.{Trace}
use Rattle.sap_terms.specs.declared.fact.Fact.{Fact}

module _ (decide : NormalTermsDecide) where
  -- where a machine stands for a trace, one stands for it with one time more, or one formula is false there
  abbrev Next : Trace → List Fact → Type 0
  Next tr p = ((n : Machine) × KeepsTrace n (tr ++ p ∷ [])) ⊎ ((w : Which) × ((g : Sig) → IsMessageTrace g (tr ++ p ∷ []) → IsOnlyFalse g (tr ++ p ∷ []) w))

  next : (m : Machine) (tr : Trace) (p : List Fact) → HasOneReserved p → KeepsTrace m tr → Next tr p
  next m tr p one stands = at (broken m (deed_by (reserved_in p))) refl where
    at : (o : Option Which) → broken m (deed_by (reserved_in p)) ≡ o → Next tr p
    at None e = inl (after m (deed_by (reserved_in p)), stands_next decide p one m tr stands e)
    at (Some w) e = inr (w, λ g. (answers decide p one (Ok (Broken w)) m m (e, refl)).1 g tr stands)

  -- so one stands for each trace that counts
  stands_on : (g : Sig) (done rest : Trace) (m : Machine) → KeepsTrace m done → All HasOneReserved rest → IsMessageTrace g (done ++ rest) → IsAdmitted g (done ++ rest) → (n : Machine) × KeepsTrace n (done ++ rest)
  stands_on g done [] m stands one messages admitted = (m, subst (KeepsTrace m) (sym (append-nil done)) stands)
  stands_on g done (p ∷ rest) m stands one messages admitted =
      let whole : (done ++ p ∷ []) ++ rest ≡ done ++ p ∷ rest = append_assoc done (p ∷ []) rest in
      let all = subst (IsMessageTrace g) (sym whole) messages in
      elim (next m done p (All-head HasOneReserved p rest one) stands) [
        | inl n ↦ (let later = stands_on g (done ++ p ∷ []) rest n.0 n.1 (All-tail HasOneReserved p rest one) all (subst (IsAdmitted g) (sym whole) admitted) in (later.0, subst (KeepsTrace later.0) whole later.1))
        | inr w ↦ absurd
            ((w.1 g (messages_before g (done ++ p ∷ []) rest all)).this
            (prefix_law decide w.0 g (done ++ p ∷ []) rest all (subst (IsAdmitted g) (sym whole) admitted w.0)))
      ]

  pub one_more_law : OneMoreLaw
  one_more_law g tr p each one messages admitted =
      let there = stands_on g [] tr fresh_machine (fresh_stands decide) each (messages_before g tr (p ∷ []) messages) admitted in
      elim (next there.0 tr p one there.1) [ inl n ↦ inl (n.1.admitted g messages) | inr w ↦ inr (w.0, w.1 g messages) ]
