-- A full trace of messages is admitted exactly where it meets the seven sentences.
use Rattle.std.proofs.Common.{◌≡◌, ℕ, zero, suc, List, [], ◌∷◌, Some, refl, subst, sym, slice_get, Contains}
use Rattle.sap_formula.specs.Truth.{EachIn}
use Rattle.sap_restrict.specs.Laws.{AdmittedLaw}
use Rattle.sap_restrict.specs.Sentences.{InitOnce, EachEqual, EachUnequal, EachFound, EachMissed, EachLock, EachServed, MeetsDemands}
use Rattle.sap_restrict.specs.Shown.{AreLinear, HasFact as Has}
use Rattle.sap_restrict.specs.Standard.{IsAdmitted}
use Rattle.sap_terms.specs.Equations.{Equations, equations}
use Rattle.sap_terms.specs.Message.{IsMessage, IsMessageTrace}
use Rattle.sap_terms.specs.Signature.{Sig}
use Rattle.sap_terms.specs.Trace.{Trace}
use Rattle.sap_terms.specs.declared.fact.Fact.{Fact}
use Rattle.sap_terms.specs.declared.var.Sort.TheVariants.{Msg}
use Rattle.sap_translate.specs.Members.{Member}
use Rattle.sap_translate.specs.relation.Shown.{ShowsAt, MeetsAll}
use Rattle.sap_translate.specs.relation.Tidy.{IsTidyTrace}
use Rattle.sap_translate.proofs.Terms.Derive.{member, contains, each_of_members}

-- the two ways to say that a time has a fact

pub shown_to : (tr : Trace) (k : ℕ) (f : Fact) → Has tr k f → ShowsAt tr k f
shown_to [] k f h = elim (member f [] h) [ ]
shown_to (p ∷ tr) zero f h = (p, refl, member f p h)
shown_to (p ∷ tr) (suc k) f h = shown_to tr k f h

pub shown_from : (tr : Trace) (k : ℕ) (f : Fact) → ShowsAt tr k f → Has tr k f
shown_from [] k f h = absurd (let z = h.1 in cc)
shown_from (p ∷ tr) zero f h = let same : p ≡ h.0 = cc in subst (λ q. Contains q f) (sym same) (contains h.2)
shown_from (p ∷ tr) (suc k) f h = shown_from tr k f h

-- sentences by one of them hold by the other
module _ (H K : ℕ → Fact → Type 0) (to : (k : ℕ) (f : Fact) → H k f → K k f) (from : (k : ℕ) (f : Fact) → K k f → H k f) where
  pub once_as : InitOnce H → InitOnce K
  once_as h i j a b = h i j (from i _ a) (from j _ b)

  pub equal_as : (e : Equations) → EachEqual e H → EachEqual e K
  equal_as e h x y i a = h x y i (from i _ a)

  pub unequal_as : (e : Equations) → EachUnequal e H → EachUnequal e K
  unequal_as e h x y i a = h x y i (from i _ a)

  pub found_as : EachFound H → EachFound K
  found_as h x v i a = let r = h x v i (from i _ a) in (
    r.0,
    record {
      inserted = to r.0 _ r.1.inserted;
      before = r.1.before;
      deletes = λ k d. r.1.deletes k (from k _ d);
      inserts = λ z k d. r.1.inserts z k (from k _ d);
    },
  )

  pub missed_as : EachMissed H → EachMissed K
  missed_as h x y i j a b lt = let r = h x y i j (from i _ a) (from j _ b) lt in (r.0, to r.0 _ r.1, r.2, r.3)

  pub lock_as : EachLock H → EachLock K
  lock_as h l m x i j a b lt = let r = h l m x i j (from i _ a) (from j _ b) lt in (r.0, to r.0 _ r.1, r.2, r.3)

  pub served_as : EachServed H → EachServed K
  served_as h x i a = let r = h x i (from i _ a) in (
    r.0,
    record {
      known = to r.0 _ r.1.known;
      before = r.1.before;
      last = λ y k b. r.1.last y k (from k _ b);
      events = λ k b. r.1.events k (from k _ b);
      inputs = λ y k b. r.1.inputs y k (from k _ b);
    },
  )

pub meets_to : (e : Equations) (tr : Trace) → MeetsDemands e tr → MeetsAll e tr
meets_to e tr h =
    let to = shown_to tr in
    let from = shown_from tr in
    record {
      init = once_as (Has tr) (ShowsAt tr) to from h.init;
      demands = record {
        equal = equal_as (Has tr) (ShowsAt tr) to from e h.demands.equal;
        unequal = unequal_as (Has tr) (ShowsAt tr) to from e h.demands.unequal;
        found = found_as (Has tr) (ShowsAt tr) to from h.demands.found;
        missed = missed_as (Has tr) (ShowsAt tr) to from h.demands.missed;
        lock = lock_as (Has tr) (ShowsAt tr) to from h.demands.lock;
        served = served_as (Has tr) (ShowsAt tr) to from h.demands.served;
      };
    }

pub meets_from : (e : Equations) (tr : Trace) → MeetsAll e tr → MeetsDemands e tr
meets_from e tr h =
    let to = shown_from tr in
    let from = shown_to tr in
    record {
      init = once_as (ShowsAt tr) (Has tr) to from h.init;
      demands = record {
        equal = equal_as (ShowsAt tr) (Has tr) to from e h.demands.equal;
        unequal = unequal_as (ShowsAt tr) (Has tr) to from e h.demands.unequal;
        found = found_as (ShowsAt tr) (Has tr) to from h.demands.found;
        missed = missed_as (ShowsAt tr) (Has tr) to from h.demands.missed;
        lock = lock_as (ShowsAt tr) (Has tr) to from h.demands.lock;
        served = served_as (ShowsAt tr) (Has tr) to from h.demands.served;
      };
    }

-- a tidy trace is one of messages, and its reserved facts are linear

each_member : {A : Type 0} (P : A → Type 0) (xs : List A) → EachIn P xs → (x : A) → Member x xs → P x
each_member P [] h x m = elim m [ ]
each_member P (y ∷ xs) h x m = at y xs m h.0 (λ k. each_member P xs h.1 x k)
  where
    at : (y : _) (ys : _) → Member x (y ∷ ys) → P y → (Member x ys → P x) → P x
    at y ys Member.here one rest = one
    at y ys (Member.later k) one rest = rest k

time_of : {p : List Fact} {tr : Trace} → Member p tr → (k : ℕ) × (slice_get tr k ≡ Some p)
time_of Member.here = (0, refl)
time_of (Member.later m) = let h = time_of m in (suc h.0, h.1)

pub tidy_messages : (g : Sig) (tr : Trace) → IsTidyTrace g tr → IsMessageTrace g tr
tidy_messages g tr tidy = each_of_members tr (λ p m. let k = time_of m in
    each_of_members p (λ f n. each_of_members f.args (λ t o. each_member (IsMessage g Msg) f.args (tidy k.0 f (p, k.1, n)).messages t o)))

pub tidy_linear : (g : Sig) (tr : Trace) → IsTidyTrace g tr → AreLinear tr
tidy_linear g tr tidy k f h = (tidy k f (shown_to tr k f h)).linear

pub truth_to : AdmittedLaw → (g : Sig) (tr : Trace) → IsTidyTrace g tr → IsAdmitted g tr → MeetsAll (equations g) tr
truth_to law g tr tidy h = meets_to (equations g) tr ((law g tr (tidy_messages g tr tidy) (tidy_linear g tr tidy)).0 h)

pub truth_from : AdmittedLaw → (g : Sig) (tr : Trace) → IsTidyTrace g tr → MeetsAll (equations g) tr → IsAdmitted g tr
truth_from law g tr tidy h = (law g tr (tidy_messages g tr tidy) (tidy_linear g tr tidy)).1 (meets_from (equations g) tr h)
