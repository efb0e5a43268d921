-- Quantifiers of a checked formula may range over fewer terms and times.
use Rattle.std.proofs.Common.{◌≡◌, ℕ, List, [], ◌∷◌, Bool, true, false, Some, refl, sym, subst, ◌∙◌, inl, inr, ◌↔◌, if◌then◌else◌}
use Rattle.std.specs.Str.{bytes_eq}
use Rattle.std.proofs.lemmas.Slice.Eq.{bytes_eq-Decides}
use Rattle.sap_formula.specs.Form.{Form, action, both, earlier, either, equal, equivalent, every, exists, falsity, implies, negation, same_time, truth}
use Rattle.sap_formula.specs.Truth.{AnyIn, EachIn, Every, Exists, IsTrueUnder, Shows, Times, bind, facts_at, stamp}
use Rattle.sap_formula.specs.declared.binder.Binder.{Binder}
use Rattle.sap_formula.specs.declared.binder.Binder.TheVariants.{Message, Time}
use Rattle.sap_terms.proofs.PlainLaws.Tests.{same_name}
use Rattle.sap_terms.specs.Choice.{Choice, instance, instances}
use Rattle.sap_terms.specs.Normal.{EachSubterm, EachSubtermWithin, IsNoLeftSide, IsNormal}
use Rattle.sap_terms.specs.Signature.{Sig}
use Rattle.sap_terms.specs.Equations.{Equations, equations}
use Rattle.sap_terms.specs.Trace.{Trace}
use Rattle.sap_terms.specs.Tree.{Tree, Trees, apply, fresh, more, none, public, trees_of, variable}
use Rattle.sap_terms.specs.declared.fact.Fact.{Fact}
use Rattle.sap_terms.specs.declared.var.Sort.{Sort}
use Rattle.sap_terms.specs.declared.var.Var.{Var}
use Rattle.sap_formula.proofs.Plain.{NormalLaws, args-same}
use Rattle.sap_formula.specs.Laws.{OtherBinderLaw, OwnBinderLaw}
use Rattle.sap_formula.specs.Messages.{IsNormalEnv}
use Rattle.sap_formula.specs.Checked.{AreCheckedTerms, AreGuarded, BindsOnce, IsApart, IsChecked, IsCheckedTerm, NoTwice, StandsInAtom, StandsIn, StandsInAny, binder_name, enter, find_binder}

-- lists

pub any_each : {X : Type 0} (P Q : X → Type 0) (xs : List X) → AnyIn P xs → EachIn Q xs → (x : X) × P x × Q x
any_each P Q [] a e = absurd a
any_each P Q (x ∷ xs) (inl p) e = (x, p, e.0)
any_each P Q (x ∷ xs) (inr a) e = any_each P Q xs a e.1

pub each_map : {X : Type 0} (P Q : X → Type 0) (xs : List X) → ((x : X) → P x → Q x) → EachIn P xs → EachIn Q xs
each_map P Q [] f e = tt
each_map P Q (x ∷ xs) f e = (f x e.0, each_map P Q xs f e.1)

pub each_both : {X : Type 0} (P Q R : X → Type 0) (xs : List X) → ((x : X) → P x → Q x → R x) → EachIn P xs → EachIn Q xs → EachIn R xs
each_both P Q R [] f d e = tt
each_both P Q R (x ∷ xs) f d e = (f x d.0 e.0, each_both P Q R xs f d.1 e.1)

-- look-ups

pub other : (m n : List ℕ) → (m ≡ n → ⊥) → bytes_eq m n ≡ false
other m n h = at (bytes_eq m n) refl where
  at : (r : Bool) → bytes_eq m n ≡ r → r ≡ false
  at false e = refl
  at true e = absurd (h ((bytes_eq-Decides m n).0 e))

pub bound_here : (v : Var) (t : Tree) (σ : Choice) → (bind v t σ) v ≡ t
bound_here v t σ = rw (same_name v.name) refl

pub bound_there : (v w : Var) (t : Tree) (σ : Choice) → (v.name ≡ w.name → ⊥) → (bind v t σ) w ≡ σ w
bound_there v w t σ h = rw (other v.name w.name h) refl

pub time_here : (n : List ℕ) (k : ℕ) (τ : Times) → (stamp n k τ) n ≡ k
time_here n k τ = rw (same_name n) refl

pub time_there : (n m : List ℕ) (k : ℕ) (τ : Times) → (n ≡ m → ⊥) → (stamp n k τ) m ≡ τ m
time_there n m k τ h = rw (other n m h) refl

-- environments that agree but at the names that these binders bind
pub record Kept (bs : List Binder) (σ : Choice) (τ : Times) (σ' : Choice) (τ' : Times) : Type 0 where
  pub terms : (w : Var) → IsApart bs w.name → σ' w ≡ σ w
  pub times : (n : List ℕ) → IsApart bs n → τ' n ≡ τ n

pub kept_none : (σ : Choice) (τ : Times) → Kept [] σ τ σ τ
kept_none σ τ = record { terms = λ w a. refl; times = λ n a. refl }

pub kept_message : (v : Var) (t : Tree) (bs : List Binder) (σ : Choice) (τ : Times) (σ' : Choice) (τ' : Times) → Kept bs (bind v t σ) τ σ' τ' → Kept (Message v ∷ bs) σ τ σ' τ'
kept_message v t bs σ τ σ' τ' k = record {
  terms = λ w a. k.terms w a.1 ∙ bound_there v w t σ a.0;
  times = λ n a. k.times n a.1;
}

pub kept_time : (m : List ℕ) (j : ℕ) (bs : List Binder) (σ : Choice) (τ : Times) (σ' : Choice) (τ' : Times) → Kept bs σ (stamp m j τ) σ' τ' → Kept (Time m ∷ bs) σ τ σ' τ'
kept_time m j bs σ τ σ' τ' k = record {
  terms = λ w a. k.terms w a.1;
  times = λ n a. k.times n a.1 ∙ time_there m n j τ a.0;
}

pub found_apart : OtherBinderLaw
found_apart [] scope n a = refl
found_apart (b ∷ bs) scope n a = found_apart bs (b ∷ scope) n a.1 ∙ rw (other (binder_name b) n a.0) refl

-- each binder of a quantifier that binds no name twice is the innermost of its name
pub entered : OwnBinderLaw
entered [] scope h = tt
entered (b ∷ bs) scope h = (found_apart bs (b ∷ scope) (binder_name b) h.0 ∙ rw (same_name (binder_name b)) refl, entered bs (b ∷ scope) h.1)

-- what the value of a guarded variable has

root : (Q : Tree → Type 0) (t : Tree) → EachSubterm Q t → Q t
root Q (variable v) h = h
root Q (public n) h = h
root Q (fresh k) h = h
root Q (apply f ts) h = h.0

record Bound (Q : Tree → Type 0) (scope : List Binder) (σ : Choice) (n : List ℕ) : Type 0 where
  v : Var
  is : v.name ≡ n
  binder : find_binder scope v.name ≡ Some (Message v)
  has : Q (σ v)

mutual
  stands_bound : (Q : Tree → Type 0) (g : Sig) (scope : List Binder) (σ : Choice) (n : List ℕ) (p : Tree) → IsCheckedTerm g scope p → StandsIn n p → EachSubterm Q (instance σ p) → Bound Q scope σ n
  stands_bound Q g scope σ n (variable v) c s h = record { v = v; is = s; binder = c; has = root Q (σ v) h }
  stands_bound Q g scope σ n (public m) c s h = absurd s
  stands_bound Q g scope σ n (fresh k) c s h = absurd s
  stands_bound Q g scope σ n (apply f ts) c s h = stands_any Q g scope σ n ts c.2 s h.1

  stands_any : (Q : Tree → Type 0) (g : Sig) (scope : List Binder) (σ : Choice) (n : List ℕ) (ps : Trees) → AreCheckedTerms g scope ps → StandsInAny n ps → EachSubtermWithin Q (instances σ ps) → Bound Q scope σ n
  stands_any Q g scope σ n none c s h = absurd s
  stands_any Q g scope σ n (more t ts) c (inl s) h = stands_bound Q g scope σ n t c.0 s h.0
  stands_any Q g scope σ n (more t ts) c (inr s) h = stands_any Q g scope σ n ts c.1 s h.1

-- what the terms and the time of a fact have that a checked formula can speak of
pub record Seen (g : Sig) (V : List ℕ → Type 0) (Q : Tree → Type 0) (R : ℕ → Type 0) (k : ℕ) (f : Fact) : Type 0 where
  pub normal : EachSubtermWithin (IsNoLeftSide (equations g)) (trees_of f.args)
  pub terms : V f.name → EachSubtermWithin Q (trees_of f.args)
  pub time : V f.name → R k

abbrev pub AllSeen : Sig → (List ℕ → Type 0) → (Tree → Type 0) → (ℕ → Type 0) → Trace → Type 0
AllSeen g V Q R tr = (k : ℕ) → EachIn (Seen g V Q R k) (facts_at tr k)

abbrev pub HasValue : (Tree → Type 0) → (ℕ → Type 0) → Choice → Times → Binder → Type 0
HasValue Q R σ τ (Message v) = Q (σ v)
HasValue Q R σ τ (Time n) = R (τ n)

abbrev pub Within : (Sort → Tree → Type 0) → (Tree → Type 0) → Sort → Tree → Type 0
Within D Q s t = D s t × Q t

abbrev pub Among : (ℕ → Type 0) → (ℕ → Type 0) → ℕ → Type 0
Among P R k = P k × R k

pub normal_bind : (e : Equations) (v : Var) (t : Tree) (σ : Choice) → IsNormal e t → IsNormalEnv e σ → IsNormalEnv e (bind v t σ)
normal_bind e v t σ n m = λ w. elim (bytes_eq v.name w.name) as (λ b. IsNormal e (if b then t else σ w)) [ true ↦ n | false ↦ m w ]

record End (e : Equations) (bs : List Binder) (B : Choice → Times → Type 0) (σ : Choice) (τ : Times) : Type 0 where
  terms : Choice
  times : Times
  normal : IsNormalEnv e terms
  kept : Kept bs σ τ terms times
  holds : B terms times

module _ (w : NormalLaws) (g : Sig) (V : List ℕ → Type 0) (Q : Tree → Type 0) (R : ℕ → Type 0) (tr : Trace) (seen : AllSeen g V Q R tr) (D : Sort → Tree → Type 0) (P : ℕ → Type 0) (normal : (s : Sort) (t : Tree) → D s t → IsNormal (equations g) t) where
  action_holds : (scope : List Binder) (f : Fact) (j : List ℕ) (σ : Choice) (τ : Times) → IsChecked g V scope (action f j) → IsNormalEnv (equations g) σ → IsTrueUnder (equations g) tr D P (action f j) σ τ → (b : Binder) → find_binder scope (binder_name b) ≡ Some b → StandsInAtom (binder_name b) (action f j) → HasValue Q R σ τ b
  action_holds scope f j σ τ c n t b i s =
      let k = τ j in
      let x = any_each (Shows (equations g) σ f) (Seen g V Q R k) (facts_at tr k) t (seen k) in
      let allowed = subst V x.1.0 c.0 in
      elim s [
        | inl s ↦
            let e : b ≡ Time j = cc in
            subst (HasValue Q R σ τ) (sym e) (x.2.time allowed)
        | inr s ↦
            let same_args = args-same w g scope σ f.args x.0.args c.1 n x.2.normal x.1.1 in
            let terms = subst (λ us. EachSubtermWithin Q us) (sym same_args) (x.2.terms allowed) in
            let o = stands_any Q g scope σ (binder_name b) (trees_of f.args) c.1 s terms in
            let r = o.is in
            let q = o.binder in
            let e : b ≡ Message o.v = cc in
            subst (HasValue Q R σ τ) (sym e) o.has
      ]

  guard_holds : (scope : List Binder) (f : Form) (σ : Choice) (τ : Times) → IsChecked g V scope f → IsNormalEnv (equations g) σ → IsTrueUnder (equations g) tr D P f σ τ → (b : Binder) → find_binder scope (binder_name b) ≡ Some b → StandsInAtom (binder_name b) f → HasValue Q R σ τ b
  guard_holds scope (both f h) σ τ c n t b i (inl s) = guard_holds scope f σ τ c.0 n t.0 b i s
  guard_holds scope (both f h) σ τ c n t b i (inr s) = guard_holds scope h σ τ c.1 n t.1 b i s
  guard_holds scope (action f j) σ τ c n t b i s = action_holds scope f j σ τ c n t b i s
  guard_holds scope truth σ τ c n t b i s = absurd s
  guard_holds scope falsity σ τ c n t b i s = absurd s
  guard_holds scope (equal _ _) σ τ c n t b i s = absurd s
  guard_holds scope (same_time _ _) σ τ c n t b i s = absurd s
  guard_holds scope (earlier _ _) σ τ c n t b i s = absurd s
  guard_holds scope (negation _) σ τ c n t b i s = absurd s
  guard_holds scope (either _ _) σ τ c n t b i s = absurd s
  guard_holds scope (implies _ _) σ τ c n t b i s = absurd s
  guard_holds scope (equivalent _ _) σ τ c n t b i s = absurd s
  guard_holds scope (every _ _) σ τ c n t b i s = absurd s
  guard_holds scope (exists _ _) σ τ c n t b i s = absurd s

  -- where its guards hold, each variable of a quantifier has a value that was seen
  all_guarded : (scope bs : List Binder) (f : Form) (σ : Choice) (τ : Times) → NoTwice bs → AreGuarded bs f → IsChecked g V (enter bs scope) f → IsNormalEnv (equations g) σ → IsTrueUnder (equations g) tr D P f σ τ → EachIn (HasValue Q R σ τ) bs
  all_guarded scope bs f σ τ o a c n t =
      each_both (λ b. find_binder (enter bs scope) (binder_name b) ≡ Some b) (λ b. StandsInAtom (binder_name b) f) (HasValue Q R σ τ) bs (λ b i s. guard_holds (enter bs scope) f σ τ c n t b i s) (entered bs scope o) a

  every_narrow : (bs : List Binder) (B C : Choice → Times → Type 0) → ((σ : Choice) (τ : Times) → IsNormalEnv (equations g) σ → B σ τ → C σ τ) → (σ : Choice) (τ : Times) → IsNormalEnv (equations g) σ → Every D P bs B σ τ → Every (Within D Q) (Among P R) bs C σ τ
  every_narrow [] B C f σ τ n h = f σ τ n h
  every_narrow (Message v ∷ bs) B C f σ τ n h = λ t d. every_narrow bs B C f (bind v t σ) τ (normal_bind (equations g) v t σ (normal v.sort t d.0) n) (h t d.0)
  every_narrow (Time m ∷ bs) B C f σ τ n h = λ k p. every_narrow bs B C f σ (stamp m k τ) n (h k p.0)

  exists_wide : (bs : List Binder) (B C : Choice → Times → Type 0) → ((σ : Choice) (τ : Times) → IsNormalEnv (equations g) σ → C σ τ → B σ τ) → (σ : Choice) (τ : Times) → IsNormalEnv (equations g) σ → Exists (Within D Q) (Among P R) bs C σ τ → Exists D P bs B σ τ
  exists_wide [] B C f σ τ n h = f σ τ n h
  exists_wide (Message v ∷ bs) B C f σ τ n (t, d, h) = (t, d.0, exists_wide bs B C f (bind v t σ) τ (normal_bind (equations g) v t σ (normal v.sort t d.0) n) h)
  exists_wide (Time m ∷ bs) B C f σ τ n (k, p, h) = (k, p.0, exists_wide bs B C f σ (stamp m k τ) n h)

  exists_end : (bs : List Binder) (B : Choice → Times → Type 0) (σ : Choice) (τ : Times) → IsNormalEnv (equations g) σ → Exists D P bs B σ τ → End (equations g) bs B σ τ
  exists_end [] B σ τ n h = record { terms = σ; times = τ; normal = n; kept = kept_none σ τ; holds = h }
  exists_end (Message v ∷ bs) B σ τ n (t, d, h) =
      let r = exists_end bs B (bind v t σ) τ (normal_bind (equations g) v t σ (normal v.sort t d) n) h in
      record { terms = r.terms; times = r.times; normal = r.normal; kept = kept_message v t bs σ τ r.terms r.times r.kept; holds = r.holds }
  exists_end (Time m ∷ bs) B σ τ n (k, p, h) =
      let r = exists_end bs B σ (stamp m k τ) n h in
      record { terms = r.terms; times = r.times; normal = r.normal; kept = kept_time m k bs σ τ r.terms r.times r.kept; holds = r.holds }

  exists_narrow : (bs : List Binder) (B C : Choice → Times → Type 0) → NoTwice bs → ((σ : Choice) (τ : Times) → IsNormalEnv (equations g) σ → B σ τ → C σ τ) → ((σ : Choice) (τ : Times) → IsNormalEnv (equations g) σ → B σ τ → EachIn (HasValue Q R σ τ) bs) → (σ : Choice) (τ : Times) → IsNormalEnv (equations g) σ → Exists D P bs B σ τ → Exists (Within D Q) (Among P R) bs C σ τ
  exists_narrow [] B C o f s σ τ n h = f σ τ n h
  exists_narrow (Message v ∷ bs) B C o f s σ τ n (t, d, h) =
      let m = normal_bind (equations g) v t σ (normal v.sort t d) n in
      let r = exists_end bs B (bind v t σ) τ m h in
      let is = r.kept.terms v o.0 ∙ bound_here v t σ in
      let q = subst Q is (s r.terms r.times r.normal r.holds).0 in
      (t, (d, q), exists_narrow bs B C o.1 f (λ σ τ n h. (s σ τ n h).1) (bind v t σ) τ m h)
  exists_narrow (Time m ∷ bs) B C o f s σ τ n (k, p, h) =
      let r = exists_end bs B σ (stamp m k τ) n h in
      let is = r.kept.times m o.0 ∙ time_here m k τ in
      let q = subst R is (s r.terms r.times r.normal r.holds).0 in
      (k, (p, q), exists_narrow bs B C o.1 f (λ σ τ n h. (s σ τ n h).1) σ (stamp m k τ) n h)

  -- S gathers what was seen of the outer binders
  every_wide : (bs : List Binder) (L B C : Choice → Times → Type 0) → NoTwice bs → ((σ : Choice) (τ : Times) → IsNormalEnv (equations g) σ → L σ τ → C σ τ → B σ τ) → ((σ : Choice) (τ : Times) → IsNormalEnv (equations g) σ → L σ τ → EachIn (HasValue Q R σ τ) bs) → (S : Type 0) → (σ : Choice) (τ : Times) → IsNormalEnv (equations g) σ → ((σ' : Choice) (τ' : Times) → IsNormalEnv (equations g) σ' → Kept bs σ τ σ' τ' → L σ' τ' → S) → (S → Every (Within D Q) (Among P R) bs C σ τ) → Every D P bs (λ σ τ. L σ τ → B σ τ) σ τ
  every_wide [] L B C o f s S σ τ n ends h = λ l. f σ τ n l (h (ends σ τ n (kept_none σ τ) l))
  every_wide (Message v ∷ bs) L B C o f s S σ τ n ends h =
      λ t d. every_wide bs L B C o.1 f (λ σ τ n h. (s σ τ n h).1) (S × Q t) (bind v t σ) τ (normal_bind (equations g) v t σ (normal v.sort t d) n)
      (λ σ' τ' m k l. (ends σ' τ' m (kept_message v t bs σ τ σ' τ' k) l, subst Q (k.terms v o.0 ∙ bound_here v t σ) (s σ' τ' m l).0))
      (λ q. h q.0 t (d, q.1))
  every_wide (Time m ∷ bs) L B C o f s S σ τ n ends h =
      λ j p. every_wide bs L B C o.1 f (λ σ τ n h. (s σ τ n h).1) (S × R j) σ (stamp m j τ) n
      (λ σ' τ' n' k l. (ends σ' τ' n' (kept_time m j bs σ τ σ' τ' k) l, subst R (k.times m o.0 ∙ time_here m j τ) (s σ' τ' n' l).0))
      (λ q. h q.0 j (p, q.1))

  every_none : (bs : List Binder) (B C : Choice → Times → Type 0) → AreGuarded bs truth → ((σ : Choice) (τ : Times) → IsNormalEnv (equations g) σ → C σ τ → B σ τ) → (σ : Choice) (τ : Times) → IsNormalEnv (equations g) σ → Every (Within D Q) (Among P R) bs C σ τ → Every D P bs B σ τ
  every_none [] B C a f σ τ n h = f σ τ n h
  every_none (b ∷ bs) B C a f σ τ n h = absurd a.0

  -- the truth of a checked formula stays the same where its variables range over what was seen
  pub law : (f : Form) (scope : List Binder) (σ : Choice) (τ : Times) → IsChecked g V scope f → BindsOnce f → IsNormalEnv (equations g) σ → IsTrueUnder (equations g) tr D P f σ τ ↔ IsTrueUnder (equations g) tr (Within D Q) (Among P R) f σ τ
  law truth scope σ τ c o n = (λ h. h, λ h. h)
  law falsity scope σ τ c o n = (λ h. h, λ h. h)
  law (action f i) scope σ τ c o n = (λ h. h, λ h. h)
  law (equal s t) scope σ τ c o n = (λ h. h, λ h. h)
  law (same_time i j) scope σ τ c o n = (λ h. h, λ h. h)
  law (earlier i j) scope σ τ c o n = (λ h. h, λ h. h)
  law (negation f) scope σ τ c o n =
      let p = law f scope σ τ c o n in
      (λ h x. h (p.1 x), λ h x. h (p.0 x))
  law (both f h) scope σ τ c o n =
      let p = law f scope σ τ c.0 o.0 n in
      let q = law h scope σ τ c.1 o.1 n in
      (λ x. (p.0 x.0, q.0 x.1), λ x. (p.1 x.0, q.1 x.1))
  law (either f h) scope σ τ c o n =
      let p = law f scope σ τ c.0 o.0 n in
      let q = law h scope σ τ c.1 o.1 n in
      (λ x. elim x [ inl y ↦ inl (p.0 y) | inr y ↦ inr (q.0 y) ], λ x. elim x [ inl y ↦ inl (p.1 y) | inr y ↦ inr (q.1 y) ])
  law (implies f h) scope σ τ c o n =
      let p = law f scope σ τ c.0 o.0 n in
      let q = law h scope σ τ c.1 o.1 n in
      (λ x y. q.0 (x (p.1 y)), λ x y. q.1 (x (p.0 y)))
  law (equivalent f h) scope σ τ c o n =
      let p = law f scope σ τ c.0 o.0 n in
      let q = law h scope σ τ c.1 o.1 n in
      (λ x. (λ y. q.0 (x.0 (p.1 y)), λ y. p.0 (x.1 (q.1 y))), λ x. (λ y. q.1 (x.0 (p.0 y)), λ y. p.1 (x.1 (q.0 y))))
  law (exists bs f) scope σ τ c o n =
      let B = IsTrueUnder (equations g) tr D P f in
      let C = IsTrueUnder (equations g) tr (Within D Q) (Among P R) f in (
        exists_narrow bs B C o.0 (λ σ τ n h. (law f (enter bs scope) σ τ c.1 o.1 n).0 h) (λ σ τ n h. all_guarded scope bs f σ τ o.0 c.0 c.1 n h) σ τ n,
        exists_wide bs B C (λ σ τ n h. (law f (enter bs scope) σ τ c.1 o.1 n).1 h) σ τ n,
      )
  law (every bs (implies f h)) scope σ τ c o n =
      let L = IsTrueUnder (equations g) tr D P f in
      let B = IsTrueUnder (equations g) tr D P h in
      let C = IsTrueUnder (equations g) tr (Within D Q) (Among P R) (implies f h) in (
        every_narrow bs (IsTrueUnder (equations g) tr D P (implies f h)) C (λ σ τ n x y. (law h (enter bs scope) σ τ c.1.1 o.1.1 n).0 (x ((law f (enter bs scope) σ τ c.1.0 o.1.0 n).1 y))) σ τ n,
        λ x. every_wide bs L B C o.0 (λ σ τ n l k. (law h (enter bs scope) σ τ c.1.1 o.1.1 n).1 (k ((law f (enter bs scope) σ τ c.1.0 o.1.0 n).0 l))) (λ σ τ n l. all_guarded scope bs f σ τ o.0 c.0 c.1.0 n l) (Unit {0}) σ τ n (λ σ' τ' m k l. tt) (λ u. x),
      )
  law (every bs f) scope σ τ c o n =
      let B = IsTrueUnder (equations g) tr D P f in
      let C = IsTrueUnder (equations g) tr (Within D Q) (Among P R) f in (
        every_narrow bs B C (λ σ τ n h. (law f (enter bs scope) σ τ c.1 o.1 n).0 h) σ τ n,
        every_none bs B C c.0 (λ σ τ n h. (law f (enter bs scope) σ τ c.1 o.1 n).1 h) σ τ n,
      )
