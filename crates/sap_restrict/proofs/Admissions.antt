-- A full trace of messages is admitted exactly where it meets the sentences.
use Rattle.std.proofs.Common.{◌≡◌, ℕ, true, false, refl, sym, subst, ◌∙◌}
use Rattle.sap_restrict.proofs.Meaning.{meaning_law}
use Rattle.sap_restrict.specs.Laws.{AdmittedLaw}
use Rattle.sap_shapes.specs.ReservedFacts.{delete_fact, eq_fact, event_fact, init_fact, input_fact, insert_fact, is_in_fact, is_not_set_fact, lock_fact, not_eq_fact, unlock_fact}
use Rattle.sap_restrict.specs.Sentences.{MeetsDemands, Says}
use Rattle.sap_restrict.specs.Shown.{AreLinear, HasAlike, HasFact}
use Rattle.sap_restrict.specs.declared.which.Which.{Which}
use Rattle.sap_restrict.specs.declared.which.Which.TheVariants.{Eq, In, InEv, Init, Lock, NotEq, NotIn}
use Rattle.sap_rewrite.specs.Laws.{NormalTermsDecide}
use Rattle.sap_terms.specs.AdversaryFacts.{k_fact}
use Rattle.sap_terms.specs.Equations.{Equations, equations}
use Rattle.sap_terms.specs.Reserved.{is_reserved}
use Rattle.sap_terms.specs.Trace.{Trace}
use Rattle.sap_terms.specs.declared.fact.Fact.{Fact}

-- each sentence speaks of reserved facts alone
module _ (e : Equations) (H K : ℕ → Fact → Type 0) (to : (k : ℕ) (f : Fact) → is_reserved f.name ≡ true → f.persistent ≡ false → H k f → K k f) (back : (k : ℕ) (f : Fact) → is_reserved f.name ≡ true → f.persistent ≡ false → K k f → H k f) where
  pub carried : (w : Which) → Says e H w → Says e K w
  carried Init h = λ i j a b. h i j (back i init_fact refl refl a) (back j init_fact refl refl b)
  carried Eq h = λ x y i a. h x y i (back i (eq_fact x y) refl refl a)
  carried NotEq h = λ x y i a. h x y i (back i (not_eq_fact x y) refl refl a)
  carried In h = λ x v i a.
      let r = h x v i (back i (is_in_fact x v) refl refl a) in
      let w = r.1 in (
        r.0,
        record {
          inserted = to r.0 (insert_fact x v) refl refl w.inserted;
          before = w.before;
          deletes = λ k d. w.deletes k (back k (delete_fact x) refl refl d);
          inserts = λ z k d. w.inserts z k (back k (insert_fact x z) refl refl d);
        },
      )
  carried NotIn h = λ x y i j a b l.
      let r = h x y i j (back i (is_not_set_fact x) refl refl a) (back j (insert_fact x y) refl refl b) l in
      (r.0, to r.0 (delete_fact x) refl refl r.1, r.2, r.3)
  carried Lock h = λ l m x i j a b o.
      let r = h l m x i j (back i (lock_fact l x) refl refl a) (back j (lock_fact m x) refl refl b) o in
      (r.0, to r.0 (unlock_fact l x) refl refl r.1, r.2, r.3)
  carried InEv h = λ x i a.
      let r = h x i (back i (input_fact x) refl refl a) in
      let w = r.1 in (
        r.0,
        record {
          known = to r.0 (k_fact x) refl refl w.known;
          before = w.before;
          last = λ y k d. w.last y k (back k (k_fact y) refl refl d);
          events = λ k d. w.events k (back k event_fact refl refl d);
          inputs = λ y k d. w.inputs y k (back k (input_fact y) refl refl d);
        },
      )

all_of : (e : Equations) (tr : Trace) → MeetsDemands e tr → (w : Which) → Says e (HasFact tr) w
all_of e tr a Init = a.init
all_of e tr a Eq = a.demands.equal
all_of e tr a NotEq = a.demands.unequal
all_of e tr a In = a.demands.found
all_of e tr a NotIn = a.demands.missed
all_of e tr a Lock = a.demands.lock
all_of e tr a InEv = a.demands.served

met : (e : Equations) (tr : Trace) → ((w : Which) → Says e (HasFact tr) w) → MeetsDemands e tr
met e tr h = record {
  init = h Init;
  demands = record {
    equal = h Eq;
    unequal = h NotEq;
    found = h In;
    missed = h NotIn;
    lock = h Lock;
    served = h InEv;
  };
}

-- where reserved facts are linear, having a fact like a reserved one is having it
alike_is : (tr : Trace) → AreLinear tr → (k : ℕ) (f : Fact) → is_reserved f.name ≡ true → f.persistent ≡ false → HasAlike tr k f → HasFact tr k f
alike_is tr l k f r p s =
    let q : s.0.persistent ≡ false = l k s.0 s.1 (subst (λ n. is_reserved n ≡ true) (sym s.2) r) in
    let same : s.0 ≡ f = λ i. record { name = s.2 i; persistent = (q ∙ sym p) i; args = s.3 i } in
    subst (HasFact tr k) same s.1

has_itself : (tr : Trace) (k : ℕ) (f : Fact) → is_reserved f.name ≡ true → f.persistent ≡ false → HasFact tr k f → HasAlike tr k f
has_itself tr k f r p s = (f, s, refl, refl)

pub admitted_law : NormalTermsDecide → AdmittedLaw
admitted_law decide g tr m l =
    let e = equations g in
    let to = alike_is tr l in
    let back = has_itself tr in (
      λ h. met e tr (λ w. carried e (HasAlike tr) (HasFact tr) to back w ((meaning_law decide w g tr m).0 (h w))),
      λ a w. (meaning_law decide w g tr m).1 (carried e (HasFact tr) (HasAlike tr) back to w (all_of e tr a w)),
    )
