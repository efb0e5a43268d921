-- A run gets past the first time of its trace, and then goes on by the others; and what is so of threads stays so.
use Rattle.std.proofs.Common.{◌≡◌, ◌⊎◌, inl, inr, ℕ, zero, suc, List, [], ◌∷◌, ◌++◌, Option, Some, None, true, false, refl, sym, ap, subst, ◌∙◌, slice_get, slice_set}
use Rattle.std.proofs.lemmas.List.{append-nil}
use Rattle.std.specs.Str.{bytes_eq}
use Rattle.sap_terms.specs.Signature.{Sig}
use Rattle.sap_terms.specs.Trace.{Trace, shown}
use Rattle.sap_terms.specs.declared.fact.Fact.{Fact}
use Rattle.sap_process.specs.Configuration.{Config}
use Rattle.sap_process.specs.ProcessSteps.{ProcessStep, ProcessRun}
use Rattle.sap_translate.proofs.Shared.Lookups.{Every}

-- where nothing is shown, the first is so, and where this label is shown, the second
abbrev pub Outcome : (Config → Type 0) → List Fact → (Config → Type 0) → List Fact → Config → Type 0
Outcome P l Q [] d = P d
Outcome P l Q (f ∷ fs) d = f ∷ fs ≡ l → Q d

-- so it is behind each step from where the first is so
abbrev pub Moves : Sig → (Config → Type 0) → List Fact → (Config → Type 0) → Type 0
Moves g P l Q = (c d : Config) (label : List Fact) → P c → ProcessStep g c label d → Outcome P l Q label d

-- from a configuration of which Q is so the run goes on to this one by the trace
pub record Past (g : Sig) (Q : Config → Type 0) (c : Config) (tr : Trace) : Type 0 where
  pub at : Config
  pub is : Q at
  pub rest : ProcessRun g at c tr

one_more : (tr : Trace) (l : List Fact) → tr ++ l ∷ [] ≡ [] → ⊥
one_more [] l e = cc
one_more (x ∷ tr) l e = cc

silent_step : {g : Sig} {P Q : Config → Type 0} {l : List Fact} {b d : Config} {tr : Trace} (label : List Fact) → Moves g P l Q → (tr ≡ [] → P b) → tr ++ shown label ≡ [] → ProcessStep g b label d → P d
silent_step {tr = tr} [] m before e step = m _ _ _ (before (sym (append-nil tr) ∙ e)) step
silent_step {tr = tr} (f ∷ fs) m before e step = absurd (one_more tr (f ∷ fs) e)

silent : {g : Sig} {P Q : Config → Type 0} {l : List Fact} {o c : Config} {tr : Trace} → Moves g P l Q → P o → ProcessRun g o c tr → tr ≡ [] → P c
silent m p ProcessRun.starts e = p
silent m p (ProcessRun.further {label = label} run step) e = silent_step label m (λ z. silent m p run z) e step

first_step : {g : Sig} {P Q : Config → Type 0} {l : List Fact} {b d : Config} (tr : Trace) (label : List Fact) → Moves g P l Q → (tr ≡ [] → P b) → ((r : Trace) → tr ≡ l ∷ r → Past g Q b r) → (rest : Trace) → tr ++ shown label ≡ l ∷ rest → ProcessStep g b label d → Past g Q d rest
first_step {g = g} {d = d} tr [] m none before rest e step =
    let a = before rest (sym (append-nil tr) ∙ e) in
    record { at = a.at; is = a.is; rest = subst (λ r. ProcessRun g a.at d r) (append-nil rest) (ProcessRun.further a.rest step) }
first_step {g = g} {l = l} {d = d} [] (f ∷ fs) m none before rest e step =
    let same : f ∷ fs ≡ l = cc in
    let nothing : [] ≡ rest = cc in
    record { at = d; is = m _ _ _ (none refl) step same; rest = subst (λ r. ProcessRun g d d r) nothing ProcessRun.starts }
first_step {g = g} {l = l} {d = d} (x ∷ tr) (f ∷ fs) m none before rest e step =
    let same : x ≡ l = cc in
    let others : tr ++ (f ∷ fs) ∷ [] ≡ rest = cc in
    let a = before tr (ap (λ z. z ∷ tr) same) in
    record { at = a.at; is = a.is; rest = subst (λ r. ProcessRun g a.at d r) others (ProcessRun.further a.rest step) }

pub past_first : {g : Sig} {P Q : Config → Type 0} {l : List Fact} {o c : Config} {tr : Trace} → Moves g P l Q → P o → ProcessRun g o c tr → (rest : Trace) → tr ≡ l ∷ rest → Past g Q c rest
past_first m p ProcessRun.starts rest e = absurd (cc)
past_first m p (ProcessRun.further {tr = tr} {label = label} run step) rest e = first_step tr label m (λ z. silent m p run z) (λ r z. past_first m p run r z) rest e step

-- labels are told apart by the names of their first facts
abbrev pub head_name : List Fact → List ℕ
head_name [] = []
head_name (f ∷ fs) = f.name

pub apart : {A : Type 0} (m n : List ℕ) → bytes_eq m n ≡ false → bytes_eq n n ≡ true → m ≡ n → A
apart m n differ same e = let z : false ≡ true = sym differ ∙ (ap (λ k. bytes_eq k n) e ∙ same) in absurd (cc)

pub unlike : {A : Type 0} (fs hs : List Fact) → bytes_eq (head_name fs) (head_name hs) ≡ false → bytes_eq (head_name hs) (head_name hs) ≡ true → fs ≡ hs → A
unlike fs hs differ same e = apart (head_name fs) (head_name hs) differ same (ap head_name e)

-- P holds of each item that is there, with its number
abbrev EachAt : {A : Type 0} → (ℕ → A → Type 0) → List (Option A) → Type 0
EachAt {A} P xs = (j : ℕ) (a : A) → slice_get xs j ≡ Some (Some a) → P j a

at-set : {A : Type 0} (P : ℕ → A → Type 0) (xs : List (Option A)) (t : ℕ) (o : Option A) → ((j : ℕ) (a : A) → (t ≡ j → ⊥) → slice_get xs j ≡ Some (Some a) → P j a) → ((a : A) → o ≡ Some a → P t a) → EachAt P (slice_set xs t o)
at-set P [] t o all h k a e = absurd (cc)
at-set P (x ∷ xs) zero o all h zero a e = h a (cc)
at-set P (x ∷ xs) zero o all h (suc k) a e = all (suc k) a (λ z. absurd (cc)) e
at-set P (x ∷ xs) (suc t) o all h zero a e = all zero a (λ z. absurd (cc)) e
at-set P (x ∷ xs) (suc t) o all h (suc k) a e = at-set (λ j. P (suc j)) xs t o (λ j b n g. all (suc j) b (λ z. n (let w : t ≡ j = cc in w)) g) h k a e

abbrev count : {A : Type 0} → List A → ℕ
count [] = zero
count (x ∷ xs) = suc (count xs)

at_push : {A : Type 0} (P : ℕ → A → Type 0) (xs : List (Option A)) (y : A) → EachAt P xs → P (count xs) y → EachAt P (xs ++ Some y ∷ [])
at_push {A} P [] y all h zero a e = let same : y ≡ a = cc in subst (P zero) same h
at_push P [] y all h (suc k) a e = absurd (cc)
at_push P (x ∷ xs) y all h zero a e = all zero a e
at_push P (x ∷ xs) y all h (suc k) a e = at_push (λ j. P (suc j)) xs y (λ j b g. all (suc j) b g) h k a e

-- S is so of the item with this number alone, and U of the others; or U of all
abbrev pub OneAt : {A : Type 0} → (A → Type 0) → (A → Type 0) → List (Option A) → ℕ → Type 0
OneAt {A} S U xs k = (j : ℕ) (a : A) → slice_get xs j ≡ Some (Some a) → ((j ≡ k) × S a) ⊎ U a

abbrev pub AtMostOne : {A : Type 0} → (A → Type 0) → (A → Type 0) → List (Option A) → Type 0
AtMostOne S U xs = (k : ℕ) × OneAt S U xs k

module _ {A : Type 0} (S U : A → Type 0) (xs : List (Option A)) where
  pub none_yet : Every U xs → AtMostOne S U xs
  none_yet all = (0, λ j a e. inr (all j a e))

  pub becomes_one : (t : ℕ) (o : Option A) → Every U xs → ((a : A) → o ≡ Some a → S a) → AtMostOne S U (slice_set xs t o)
  becomes_one t o all h = (t, at-set (λ j a. ((j ≡ t) × S a) ⊎ U a) xs t o (λ j a n e. inr (all j a e)) (λ a e. inl (refl, h a e)))

  pub comes_one : (y : A) → Every U xs → S y → AtMostOne S U (xs ++ Some y ∷ [])
  comes_one y all h = (count xs, at_push (λ j a. ((j ≡ count xs) × S a) ⊎ U a) xs y (λ j a e. inr (all j a e)) (inl (refl, h)))

  module _ (k : ℕ) (one : OneAt S U xs k) where
    pub stays_other : (t : ℕ) (o : Option A) → ((a : A) → o ≡ Some a → U a) → OneAt S U (slice_set xs t o) k
    stays_other t o h = at-set (λ j a. ((j ≡ k) × S a) ⊎ U a) xs t o (λ j a n e. one j a e) (λ a e. inr (h a e))

    pub stays_one : (t : ℕ) (o : Option A) → t ≡ k → ((a : A) → o ≡ Some a → S a) → OneAt S U (slice_set xs t o) k
    stays_one t o at h = at-set (λ j a. ((j ≡ k) × S a) ⊎ U a) xs t o (λ j a n e. one j a e) (λ a e. inl (at, h a e))

    pub comes_other : (y : A) → U y → OneAt S U (xs ++ Some y ∷ []) k
    comes_other y h = at_push (λ j a. ((j ≡ k) × S a) ⊎ U a) xs y one (inr h)

    other_than : (t j : ℕ) (a : A) → t ≡ k → (t ≡ j → ⊥) → ((j ≡ k) × S a) ⊎ U a → U a
    other_than t j a at n (inl s) = absurd (n (at ∙ sym s.0))
    other_than t j a at n (inr u) = u

    pub none_left : (t : ℕ) (o : Option A) → t ≡ k → ((a : A) → o ≡ Some a → U a) → Every U (slice_set xs t o)
    none_left t o at h = at-set (λ j a. U a) xs t o (λ j a n e. other_than t j a at n (one j a e)) h

-- what is so of an item, where it can't be the one, and where it can only be that
pub not_the_one : {k t : ℕ} {U : Type 0} → ((t ≡ k) × ⊥) ⊎ U → U
not_the_one (inl e) = absurd (e.1)
not_the_one (inr u) = u

pub is_the_one : {B : Type 0} → B ⊎ ⊥ → B
is_the_one (inl a) = a
is_the_one (inr e) = absurd e

-- there is one item at most, and P is so of it
pub record Only {A : Type 0} (P : A → Type 0) (xs : List (Option A)) : Type 0 where
  pub now : Option A
  pub only : xs ≡ now ∷ []
  pub is : (a : A) → now ≡ Some a → P a

alone : {A : Type 0} (xs : List (Option A)) (o : Option A) (t : ℕ) (a : A) → xs ≡ o ∷ [] → slice_get xs t ≡ Some (Some a) → (o ≡ Some a) × ((z : Option A) → slice_set xs t z ≡ z ∷ [])
alone [] o t a e r = absurd (cc)
alone (x ∷ xs) o zero a e r =
    let nothing : xs ≡ [] = cc in
    let same : o ≡ Some a = cc in
    (same, λ z. ap (λ ys. z ∷ ys) nothing)
alone (x ∷ []) o (suc t) a e r = absurd (cc)
alone (x ∷ y ∷ xs) o (suc t) a e r = absurd (cc)

pub only_is : {A : Type 0} {P : A → Type 0} {xs : List (Option A)} → Only P xs → (t : ℕ) {a : A} → slice_get xs t ≡ Some (Some a) → P a
only_is {xs = xs} h t {a = a} r = h.is a (alone xs h.now t a h.only r).0

pub only_becomes : {A : Type 0} {P : A → Type 0} {xs : List (Option A)} (Q : A → Type 0) → Only P xs → (t : ℕ) {a : A} → slice_get xs t ≡ Some (Some a) → (o : Option A) → ((b : A) → o ≡ Some b → Q b) → Only Q (slice_set xs t o)
only_becomes {xs = xs} Q h t {a = a} r o k = record { now = o; only = (alone xs h.now t a h.only r).1 o; is = k }

-- what is so of an item is so of the one that it is
pub only_item : {A : Type 0} (P : A → Type 0) (x : A) → P x → (a : A) → Some x ≡ Some a → P a
only_item P x h a e = subst P (let z : x ≡ a = cc in z) h

pub no_item : {A : Type 0} (P : A → Type 0) (a : A) → None ≡ Some a → P a
no_item P a e = absurd (cc)
