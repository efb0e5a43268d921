-- What the guard's answer says of traces.
use Rattle.std.proofs.Common.{◌≡◌, ℕ, List, [], ◌∷◌, ◌++◌, length, sym, subst, ◌∙◌, inl, inr, Some, None}
use Rattle.std.specs.Prelude.{IfOk, OnErr, Result, Ok, Err}
use Rattle.std.proofs.lemmas.List.Elements.{All-cons, All-head, All-nil, All-tail}
use Rattle.sap_restrict.proofs.Elements.{none_in}
use Rattle.sap_restrict.proofs.Longer.{IsLonger, extension, one_longer}
use Rattle.sap_restrict.proofs.Meaning.{meaning_law}
use Rattle.sap_restrict.proofs.Nexts.{keeps_after}
use Rattle.sap_restrict.proofs.Passing.{IsExact, Keeps, fails, passes, unwatched}
use Rattle.sap_restrict.proofs.Shown.{shown_messages}
use Rattle.sap_restrict.proofs.Steps.{says_back, says_last, says_on}
use Rattle.sap_restrict.specs.Answer.{Answers, IsOnlyFalse}
use Rattle.sap_restrict.specs.Laws.{PrefixLaw}
use Rattle.sap_shapes.specs.ReservedFacts.{eq_fact, init_fact, input_fact, insert_fact, is_in_fact, is_not_set_fact, lock_fact, not_eq_fact}
use Rattle.sap_restrict.specs.Sentences.{Says}
use Rattle.sap_restrict.specs.Shown.{HasAlike}
use Rattle.sap_restrict.specs.Standard.{IsAdmitted}
use Rattle.sap_restrict.specs.Stands.{HasOneReserved, Machine, KeepsTrace}
use Rattle.sap_restrict.specs.code.Deeds.{Deed, deed_by, reserved_in}
use Rattle.sap_restrict.specs.code.Machines.{Does, after, broken, fresh_machine}
use Rattle.sap_restrict.specs.declared.guard.Admit.{Admit}
use Rattle.sap_restrict.specs.declared.guard.Admit.TheVariants.{Kept, Broken}
use Rattle.sap_restrict.specs.declared.which.Which.{Which}
use Rattle.sap_restrict.specs.declared.which.Which.TheVariants.{Eq, In, InEv, Init, Lock, NotEq, NotIn}
use Rattle.sap_rewrite.specs.Laws.{NormalTermsDecide}
use Rattle.sap_terms.specs.AdversaryFacts.{k_fact}
use Rattle.sap_terms.specs.Equations.{equations}
use Rattle.sap_terms.specs.Message.{AreMessageFacts, IsMessageTrace}
use Rattle.sap_terms.specs.Signature.{Sig}
use Rattle.sap_terms.specs.Trace.{Trace}
use Rattle.sap_terms.specs.declared.fact.Fact.{Fact}
use Rattle.sap_terms.specs.declared.mem.Mem.{Mem}

pub messages_before : (g : Sig) (tr us : Trace) → IsMessageTrace g (tr ++ us) → IsMessageTrace g tr
messages_before g [] us m = All-nil (AreMessageFacts g)
messages_before g (p ∷ tr) us m =
    All-cons (AreMessageFacts g) p tr (All-head (AreMessageFacts g) p (tr ++ us) m) (messages_before g tr us (All-tail (AreMessageFacts g) p (tr ++ us) m))

pub prefix_law : NormalTermsDecide → PrefixLaw
prefix_law decide w g tr us m h =
    (meaning_law decide w g tr (messages_before g tr us m)).1
    (says_back (HasAlike tr) (HasAlike (tr ++ us)) (length tr) (extension tr us) (equations g) w ((meaning_law decide w g (tr ++ us) m).0 h))

keeps : (m : Machine) (tr : Trace) → KeepsTrace m tr → Keeps (HasAlike tr) m
keeps m tr s = record { started = s.started; stored = s.stored; held = s.held; usable = s.usable }

some_is : (v w : Which) → Some v ≡ Some w → v ≡ w
some_is v w e = cc

-- one more time, on a trace of messages
module _ (decide : NormalTermsDecide) (g : Sig) (tr : Trace) (p : List Fact) (one : HasOneReserved p) (msgs : IsMessageTrace g (tr ++ p ∷ [])) where
  abbrev done : Deed
  done = deed_by (reserved_in p)

  longer : IsLonger (HasAlike tr) (HasAlike (tr ++ p ∷ [])) (length tr) done
  longer = one_longer tr p one

  exact : IsExact (equations g) done
  exact x y q e =
      elim q [
        | inl h ↦
            let m = shown_messages decide g (tr ++ p ∷ []) msgs (length tr) (eq_fact x y) (longer.new (eq_fact x y) h tt) in
            (decide (equations g) x y m.0.normal m.1.0.normal).0 e
        | inr h ↦
            let m = shown_messages decide g (tr ++ p ∷ []) msgs (length tr) (not_eq_fact x y) (longer.new (not_eq_fact x y) h tt) in
            (decide (equations g) x y m.0.normal m.1.0.normal).0 e
      ]

  said : (m : Machine) → KeepsTrace m tr → (w : Which) → Says (equations g) (HasAlike tr) w
  said m s w = (meaning_law decide w g tr (messages_before g tr (p ∷ []) msgs)).0 (s.admitted g (messages_before g tr (p ∷ []) msgs) w)

  still_admitted : (m : Machine) → KeepsTrace m tr → broken m done ≡ None → IsAdmitted g (tr ++ p ∷ [])
  still_admitted m s h w =
      (meaning_law decide w g (tr ++ p ∷ []) msgs).1
      (says_on (HasAlike tr) (HasAlike (tr ++ p ∷ [])) (length tr) done longer (equations g) w (said m s w) (passes (equations g) (HasAlike tr) m (keeps m tr s) done exact h w))

  one_false : (m : Machine) → KeepsTrace m tr → (w : Which) → broken m done ≡ Some w → IsOnlyFalse g (tr ++ p ∷ []) w
  one_false m s w h =
      let f = fails (equations g) (HasAlike tr) m (keeps m tr s) done exact w h in
      record {
        this = λ t. f.1 (says_last (HasAlike tr) (HasAlike (tr ++ p ∷ [])) (length tr) done longer (equations g) w ((meaning_law decide w g (tr ++ p ∷ []) msgs).0 t));
        others = λ v no.
            (meaning_law decide v g (tr ++ p ∷ []) msgs).1
            (says_on (HasAlike tr) (HasAlike (tr ++ p ∷ [])) (length tr) done longer (equations g) v (said m s v) (unwatched (equations g) (HasAlike tr) done v (λ q. no (some_is v w (sym q ∙ f.0)))));
      }

pub stands_next : NormalTermsDecide → (p : List Fact) → HasOneReserved p → (m : Machine) (tr : Trace) → KeepsTrace m tr → broken m (deed_by (reserved_in p)) ≡ None → KeepsTrace (after m (deed_by (reserved_in p))) (tr ++ p ∷ [])
stands_next decide p one m tr s h =
    let k = keeps_after (HasAlike tr) (HasAlike (tr ++ p ∷ [])) (length tr) m (keeps m tr s) (deed_by (reserved_in p)) (one_longer tr p one) h in
    record {
      started = k.started;
      stored = k.stored;
      held = k.held;
      usable = k.usable;
      admitted = λ g msgs. still_admitted decide g tr p one msgs m s h;
    }

pub answers : NormalTermsDecide → (p : List Fact) → HasOneReserved p → (r : Result Admit Mem) (m n : Machine) → Does (deed_by (reserved_in p)) r m n → IfOk r (λ a. Answers a m n p)
answers decide p one (Ok Kept) m n d = λ tr s. subst (λ z. KeepsTrace z (tr ++ p ∷ [])) (sym d.1) (stands_next decide p one m tr s d.0)
answers decide p one (Ok (Broken w)) m n d = (d.1, λ g tr s msgs. one_false decide g tr p one msgs m s w d.0)
answers decide p one (Err e) m n d = tt

pub unchanged : (p : List Fact) (r : Result Admit Mem) (m n : Machine) → Does (deed_by (reserved_in p)) r m n → OnErr r (n ≡ m)
unchanged p (Ok Kept) m n d = tt
unchanged p (Ok (Broken w)) m n d = tt
unchanged p (Err e) m n d = d

-- nothing is shown on the empty trace
none_shown : (k : ℕ) (f : Fact) → HasAlike [] k f → ⊥
none_shown k f s = none_in s.0 s.1

nothing_said : (g : Sig) (w : Which) → Says (equations g) (HasAlike []) w
nothing_said g Init = λ i j a b. absurd (none_shown i init_fact a)
nothing_said g Eq = λ x y i a. absurd (none_shown i (eq_fact x y) a)
nothing_said g NotEq = λ x y i a. absurd (none_shown i (not_eq_fact x y) a)
nothing_said g In = λ x v i a. absurd (none_shown i (is_in_fact x v) a)
nothing_said g NotIn = λ x y i j a b o. absurd (none_shown i (is_not_set_fact x) a)
nothing_said g Lock = λ l m x i j a b o. absurd (none_shown i (lock_fact l x) a)
nothing_said g InEv = λ x i a. absurd (none_shown i (input_fact x) a)

pub fresh_stands : NormalTermsDecide → KeepsTrace fresh_machine []
fresh_stands decide = record {
  started = (λ h. absurd (cc), λ r. absurd (none_shown r.0 init_fact r.1));
  stored = λ x y j s. absurd (none_shown j (insert_fact x y) s);
  held = λ x l i s. absurd (none_shown i (lock_fact l x) s);
  usable = λ x j a. none_shown j (k_fact x) a.known;
  admitted = λ g msgs w. (meaning_law decide w g [] msgs).1 (nothing_said g w);
}
