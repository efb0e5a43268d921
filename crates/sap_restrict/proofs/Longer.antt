-- A trace with one more time, and what that time's reserved fact says was done.
use Rattle.std.proofs.Common.{◌≡◌, ℕ, zero, suc, ◌<◌, List, [], ◌∷◌, ◌++◌, length, refl, sym, subst, ap, ◌∙◌, ◌⊎◌, inl, inr, arith, Bool, true, false, Option, Some, None, if◌then◌else◌}
use Rattle.std.specs.Prelude.{Contains}
use Rattle.std.specs.Str.{bytes_eq}
use Rattle.std.proofs.lemmas.Slice.Eq.{bytes_eq-Decides}
use Rattle.sap_restrict.proofs.Elements.{behind, first_of, first_or_behind, none_in}
use Rattle.sap_restrict.proofs.Shown.{is_time}
use Rattle.sap_restrict.specs.Shown.{HasAlike, HasFact}
use Rattle.sap_restrict.specs.Stands.{HasOneReserved}
use Rattle.sap_restrict.specs.code.Deeds.{Deed, deed, deed_by, deed_none, deed_of, deed_one, deed_two, deletes, differs, equals, finds, happens, idle, inserts, knows, locks, misses, reserved_in, starts, takes, unlocks}
use Rattle.sap_terms.specs.FactNames.{delete_name, eq_name, event_name, in_event_name, init_name, insert_name, is_in_name, is_not_set_name, k_name, lock_name, not_eq_name, unlock_name}
use Rattle.sap_terms.specs.Reserved.{is_reserved}
use Rattle.sap_terms.specs.Trace.{Trace}
use Rattle.sap_terms.specs.Tree.{Tree}
use Rattle.sap_terms.specs.declared.fact.Fact.{Fact}

-- some restriction speaks of it
abbrev pub IsSpoken : Deed → Type 0
IsSpoken idle = ⊥
IsSpoken _ = Unit {0}

abbrev name_of : Deed → List ℕ
name_of starts = init_name
name_of happens = event_name
name_of (knows x) = k_name
name_of (takes x) = in_event_name
name_of (deletes x) = delete_name
name_of (misses x) = is_not_set_name
name_of (equals x y) = eq_name
name_of (differs x y) = not_eq_name
name_of (inserts x y) = insert_name
name_of (finds x y) = is_in_name
name_of (locks x y) = lock_name
name_of (unlocks x y) = unlock_name
name_of idle = []

abbrev args_of : Deed → List Tree
args_of (knows x) = x ∷ []
args_of (takes x) = x ∷ []
args_of (deletes x) = x ∷ []
args_of (misses x) = x ∷ []
args_of (equals x y) = x ∷ y ∷ []
args_of (differs x y) = x ∷ y ∷ []
args_of (inserts x y) = x ∷ y ∷ []
args_of (finds x y) = x ∷ y ∷ []
args_of (locks x y) = x ∷ y ∷ []
args_of (unlocks x y) = x ∷ y ∷ []
args_of _ = []

-- the name and the arguments are those of the deed
abbrev Fits : Deed → List ℕ → List Tree → Type 0
Fits d n ts = IsSpoken d → (n ≡ name_of d) × (ts ≡ args_of d)

fits_none : (n : List ℕ) → Fits (deed_none n) n []
fits_none n = at (bytes_eq n init_name) (bytes_eq n event_name) refl refl where
  at : (a b : Bool) → bytes_eq n init_name ≡ a → bytes_eq n event_name ≡ b → Fits (if a then starts else (if b then happens else idle)) n []
  at true b p q = λ s. ((bytes_eq-Decides n init_name).0 p, refl)
  at false true p q = λ s. ((bytes_eq-Decides n event_name).0 q, refl)
  at false false p q = λ s. absurd s

fits_one : (n : List ℕ) (x : Tree) → Fits (deed_one n x) n (x ∷ [])
fits_one n x = at (bytes_eq n k_name) (bytes_eq n in_event_name) (bytes_eq n delete_name) (bytes_eq n is_not_set_name) refl refl refl refl where
  at : (a b c e : Bool) → bytes_eq n k_name ≡ a → bytes_eq n in_event_name ≡ b → bytes_eq n delete_name ≡ c → bytes_eq n is_not_set_name ≡ e → Fits (if a then knows x else (if b then takes x else (if c then deletes x else (if e then misses x else idle)))) n (x ∷ [])
  at true b c e p q r t = λ s. ((bytes_eq-Decides n k_name).0 p, refl)
  at false true c e p q r t = λ s. ((bytes_eq-Decides n in_event_name).0 q, refl)
  at false false true e p q r t = λ s. ((bytes_eq-Decides n delete_name).0 r, refl)
  at false false false true p q r t = λ s. ((bytes_eq-Decides n is_not_set_name).0 t, refl)
  at false false false false p q r t = λ s. absurd s

fits_two : (n : List ℕ) (x y : Tree) → Fits (deed_two n x y) n (x ∷ y ∷ [])
fits_two n x y = at (bytes_eq n eq_name) (bytes_eq n not_eq_name) (bytes_eq n insert_name) (bytes_eq n is_in_name) (bytes_eq n lock_name) (bytes_eq n unlock_name) refl refl refl refl refl refl where
  at : (a b c e f g : Bool) → bytes_eq n eq_name ≡ a → bytes_eq n not_eq_name ≡ b → bytes_eq n insert_name ≡ c → bytes_eq n is_in_name ≡ e → bytes_eq n lock_name ≡ f → bytes_eq n unlock_name ≡ g → Fits (if a then equals x y else (if b then differs x y else (if c then inserts x y else (if e then finds x y else (if f then locks x y else (if g then unlocks x y else idle)))))) n (x ∷ y ∷ [])
  at true b c e f g p q r t u v = λ s. ((bytes_eq-Decides n eq_name).0 p, refl)
  at false true c e f g p q r t u v = λ s. ((bytes_eq-Decides n not_eq_name).0 q, refl)
  at false false true e f g p q r t u v = λ s. ((bytes_eq-Decides n insert_name).0 r, refl)
  at false false false true f g p q r t u v = λ s. ((bytes_eq-Decides n is_in_name).0 t, refl)
  at false false false false true g p q r t u v = λ s. ((bytes_eq-Decides n lock_name).0 u, refl)
  at false false false false false true p q r t u v = λ s. ((bytes_eq-Decides n unlock_name).0 v, refl)
  at false false false false false false p q r t u v = λ s. absurd s

fits : (n : List ℕ) (ts : List Tree) → Fits (deed_of n ts) n ts
fits n [] = fits_none n
fits n (x ∷ []) = fits_one n x
fits n (x ∷ y ∷ []) = fits_two n x y
fits n (x ∷ y ∷ z ∷ ts) = λ s. absurd s

-- facts that say the same was done have one name and the same arguments
same_deed : (f h : Fact) → deed h ≡ deed f → IsSpoken (deed f) → (h.name ≡ f.name) × (h.args ≡ f.args)
same_deed f h e s =
    let a = fits f.name f.args s in
    let b = subst (λ d. Fits d h.name h.args) e (fits h.name h.args) s in
    (b.0 ∙ sym a.0, b.1 ∙ sym a.1)

-- the fact with a reserved name is of the time
pub record IsFirst (p : List Fact) (r : Fact) : Type 0 where
  pub among : Contains p r
  pub reserved : is_reserved r.name ≡ true

pub first_is : (p : List Fact) (r : Fact) → reserved_in p ≡ Some r → IsFirst p r
first_is [] r e = absurd (cc)
first_is (f ∷ p) r e = at (is_reserved f.name) refl e (λ h. first_is p r h) where
  at : (b : Bool) → is_reserved f.name ≡ b → (if b then Some f else reserved_in p) ≡ Some r → (reserved_in p ≡ Some r → IsFirst p r) → IsFirst (f ∷ p) r
  at true q h rest = let s : f ≡ r = cc in subst (λ z. IsFirst (f ∷ p) z) s (record { among = first_of f p; reserved = q })
  at false q h rest = let i = rest h in record { among = behind f p r i.among; reserved = i.reserved }

pub some_first : (p : List Fact) (h : Fact) → Contains p h → is_reserved h.name ≡ true → (r : Fact) × (reserved_in p ≡ Some r)
some_first [] h c s = absurd (none_in h c)
some_first (f ∷ p) h c s = at (is_reserved f.name) refl (λ d. some_first p h d s) where
  at : (b : Bool) → is_reserved f.name ≡ b → (Contains p h → (r : Fact) × (reserved_in p ≡ Some r)) → (r : Fact) × ((if b then Some f else reserved_in p) ≡ Some r)
  at true q rest = (f, refl)
  at false q rest = elim (first_or_behind f p h c) [
    | inl e ↦ let n : is_reserved f.name ≡ true = subst (λ (x : Fact). is_reserved x.name ≡ true) (sym e) s in absurd (cc)
    | inr d ↦ rest d
  ]

-- H' is H with one more time, n, at which d was done
pub record IsLonger (H H' : ℕ → Fact → Type 0) (n : ℕ) (d : Deed) : Type 0 where
  pub old : (k : ℕ) (f : Fact) → H k f → H' k f
  pub new : (f : Fact) → d ≡ deed f → IsSpoken (deed f) → H' n f
  pub cases : (k : ℕ) (f : Fact) → is_reserved f.name ≡ true → H' k f → H k f ⊎ ((k ≡ n) × (d ≡ deed f))
  pub below : (k : ℕ) (f : Fact) → H k f → k < n

-- H' is H with more times, from n on
pub record IsExtension (H H' : ℕ → Fact → Type 0) (n : ℕ) : Type 0 where
  pub old : (k : ℕ) (f : Fact) → H k f → H' k f
  pub same : (k : ℕ) (f : Fact) → k < n → H' k f → H k f
  pub below : (k : ℕ) (f : Fact) → H k f → k < n

old_in : (tr us : Trace) (k : ℕ) (f : Fact) → HasFact tr k f → HasFact (tr ++ us) k f
old_in [] us k f s = absurd (none_in f s)
old_in (q ∷ tr) us zero f s = s
old_in (q ∷ tr) us (suc k) f s = old_in tr us k f s

same_in : (tr us : Trace) (k : ℕ) (f : Fact) → k < length tr → HasFact (tr ++ us) k f → HasFact tr k f
same_in [] us k f b s = absurd (omega arith)
same_in (q ∷ tr) us zero f b s = s
same_in (q ∷ tr) us (suc k) f b s = same_in tr us k f (omega arith) s

-- a trace goes on so
pub extension : (tr us : Trace) → IsExtension (HasAlike tr) (HasAlike (tr ++ us)) (length tr)
extension tr us = record {
  old = λ k f s. (s.0, old_in tr us k s.0 s.1, s.2, s.3);
  same = λ k f b s. (s.0, same_in tr us k s.0 b s.1, s.2, s.3);
  below = λ k f s. is_time tr k f s;
}

fact_new : (tr : Trace) (p : List Fact) (f : Fact) → Contains p f → HasFact (tr ++ p ∷ []) (length tr) f
fact_new [] p f s = s
fact_new (q ∷ tr) p f s = fact_new tr p f s

fact_cases : (tr : Trace) (p : List Fact) (k : ℕ) (f : Fact) → HasFact (tr ++ p ∷ []) k f → HasFact tr k f ⊎ ((k ≡ length tr) × Contains p f)
fact_cases [] p zero f s = inr (refl, s)
fact_cases [] p (suc k) f s = absurd (none_in f s)
fact_cases (q ∷ tr) p zero f s = inl s
fact_cases (q ∷ tr) p (suc k) f s = elim (fact_cases tr p k f s) [ inl t ↦ inl t | inr t ↦ inr (ap suc t.0, t.1) ]

by_first : (p : List Fact) (h f : Fact) → HasOneReserved p → Contains p h → is_reserved f.name ≡ true → h.name ≡ f.name → h.args ≡ f.args → deed_by (reserved_in p) ≡ deed f
by_first p h f one c s e a =
    let t = subst (λ n. is_reserved n ≡ true) (sym e) s in
    let r = some_first p h c t in
    let i = first_is p r.0 r.1 in
    let q = one r.0 h i.among c i.reserved t in
    ap deed_by r.1 ∙ ap deed q ∙ (λ j. deed_of (e j) (a j))

alike_new : (tr : Trace) (p : List Fact) (f : Fact) → deed_by (reserved_in p) ≡ deed f → IsSpoken (deed f) → HasAlike (tr ++ p ∷ []) (length tr) f
alike_new tr p f e s = at (reserved_in p) refl e where
  at : (o : Option Fact) → reserved_in p ≡ o → deed_by o ≡ deed f → HasAlike (tr ++ p ∷ []) (length tr) f
  at None q d = absurd (subst IsSpoken (sym d) s)
  at (Some h) q d = let i = first_is p h q in let a = same_deed f h d s in (h, fact_new tr p h i.among, a.0, a.1)

-- so is the trace with one more time
pub one_longer : (tr : Trace) (p : List Fact) → HasOneReserved p → IsLonger (HasAlike tr) (HasAlike (tr ++ p ∷ [])) (length tr) (deed_by (reserved_in p))
one_longer tr p one = record {
  old = λ k f s. (s.0, old_in tr (p ∷ []) k s.0 s.1, s.2, s.3);
  new = λ f e s. alike_new tr p f e s;
  cases = λ k f r s. elim (fact_cases tr p k s.0 s.1) [
    | inl t ↦ inl (s.0, t, s.2, s.3)
    | inr t ↦ inr (t.0, by_first p s.0 f one t.1 r s.2 s.3)
  ];
  below = λ k f s. is_time tr k f s;
}

-- deeds at the last time, each with its fact
module _ (H H' : ℕ → Fact → Type 0) (n : ℕ) (d : Deed) (l : IsLonger H H' n d) where
  -- at an earlier time nothing is new
  pub same : (k : ℕ) (f : Fact) → is_reserved f.name ≡ true → k < n → H' k f → H k f
  same k f r b h = elim (l.cases k f r h) [ inl u ↦ u | inr u ↦ let e = u.0 in absurd (omega arith) ]
