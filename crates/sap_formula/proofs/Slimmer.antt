-- Hidden binders don't change truth.
use Rattle.std.proofs.Common.{◌≡◌, ℕ, zero, suc, ◌<◌, List, [], ◌∷◌, Bool, true, false, ◌||◌, length, Some, refl, sym, ap, subst, ◌∙◌, inl, inr, if◌then◌else◌, ◌↔◌, arith}
use Rattle.std.specs.Str.{bytes_eq}
use Rattle.std.proofs.lemmas.Slice.Eq.{bytes_eq-Decides}
use Rattle.sap_formula.specs.Form.{Form, action, both, earlier, either, equal, equivalent, every, exists, falsity, implies, negation, same_time, truth}
use Rattle.sap_formula.specs.Truth.{AnyIn, EachIn, Every, Exists, IsTrueUnder, Shows, Times, bind, facts_at, stamp}
use Rattle.sap_formula.specs.declared.binder.Binder.{Binder}
use Rattle.sap_formula.specs.declared.binder.Binder.TheVariants.{Message, Time}
use Rattle.sap_terms.specs.Choice.{Choice}
use Rattle.sap_terms.specs.Message.{IsMessage}
use Rattle.sap_terms.specs.Signature.{Sig}
use Rattle.sap_terms.specs.Equations.{equations}
use Rattle.sap_terms.specs.Trace.{Trace}
use Rattle.sap_terms.specs.Tree.{Tree, Trees, apply, fresh, more, none, public, trees_of, variable}
use Rattle.sap_terms.specs.declared.fact.Fact.{Fact}
use Rattle.sap_terms.specs.declared.var.Sort.{Sort}
use Rattle.sap_terms.specs.declared.var.Sort.TheVariants.{Fresh, Msg, Pub}
use Rattle.sap_terms.specs.declared.var.Var.{Var}
use Rattle.sap_formula.proofs.Alike.{alike}
use Rattle.sap_formula.proofs.Law.{each_map, other}
use Rattle.sap_formula.proofs.Plain.{NormalLaws, fresh-normal, public-normal}
use Rattle.std.proofs.lemmas.Bool.{or_cases}
use Rattle.sap_formula.specs.Checked.{AreCheckedTerms, AreGuarded, BindsOnce, IsApart, IsChecked, IsCheckedTerm, NoTwice, StandsInAtom, binder_name, enter, find_binder, premise}
use Rattle.sap_formula.specs.Laws.{HiddenBinderLaw, SlimClosedLaw, SlimOnceLaw}
use Rattle.sap_formula.specs.Slim.{binds, lasts, slim}

not_binds : (bs : List Binder) (n : List ℕ) → binds bs n ≡ false → IsApart bs n
not_binds [] n h = tt
not_binds (b ∷ bs) n h = at (bytes_eq (binder_name b) n) refl h (not_binds bs n) where
  at : (r : Bool) → bytes_eq (binder_name b) n ≡ r → (r || binds bs n) ≡ false → (binds bs n ≡ false → IsApart bs n) → IsApart (b ∷ bs) n
  at true e h f = absurd (cc)
  at false e h f = (λ q. let t = (bytes_eq-Decides (binder_name b) n).1 q in absurd (cc), f h)

is_bound : (bs : List Binder) (n : List ℕ) → binds bs n ≡ true → IsApart bs n → ⊥
is_bound [] n h a = cc
is_bound (b ∷ bs) n h a = elim (or_cases (bytes_eq (binder_name b) n) (binds bs n) h) [ inl e ↦ a.0 ((bytes_eq-Decides (binder_name b) n).0 e) | inr e ↦ is_bound bs n e a.1 ]

-- the name of a binder that is hidden isn't a name that later binders leave
hidden_name : (b : Binder) (bs : List Binder) (n : List ℕ) → binds bs (binder_name b) ≡ true → IsApart bs n → binder_name b ≡ n → ⊥
hidden_name b bs n h a e = is_bound bs n (subst (λ m. binds bs m ≡ true) e h) a

lasts_each : (P : Binder → Type 0) (bs : List Binder) → EachIn P bs → EachIn P (lasts bs)
lasts_each P [] h = tt
lasts_each P (b ∷ bs) h =
    let r = lasts_each P bs h.1 in
    elim (binds bs (binder_name b)) as (λ r. EachIn P (if r then lasts bs else b ∷ lasts bs)) [ true ↦ r | false ↦ (h.0, r) ]

lasts_once : (bs : List Binder) → NoTwice (lasts bs)
lasts_once [] = tt
lasts_once (b ∷ bs) =
    let r = lasts_once bs in
    elim (binds bs (binder_name b)) as (λ r. binds bs (binder_name b) ≡ r → NoTwice (if r then lasts bs else b ∷ lasts bs)) [
      | true ↦ λ e. r
      | false ↦ λ e. (lasts_each (λ c. binder_name c ≡ binder_name b → ⊥) bs (not_binds bs (binder_name b) e), r)
    ] refl

abbrev SameScope : List Binder → List Binder → List Binder → Type 0
SameScope bs s z = (n : List ℕ) → IsApart bs n → find_binder s n ≡ find_binder z n

scope_hidden : (b : Binder) (bs s z : List Binder) → binds bs (binder_name b) ≡ true → SameScope (b ∷ bs) s z → SameScope bs (b ∷ s) z
scope_hidden b bs s z h f n a =
    let q = hidden_name b bs n h a in
    ap (λ (r : Bool). if r then Some b else find_binder s n) (other (binder_name b) n q) ∙ f n (q, a)

scope_kept : (b : Binder) (bs s z : List Binder) → SameScope (b ∷ bs) s z → SameScope bs (b ∷ s) (b ∷ z)
scope_kept b bs s z f n a =
    elim (bytes_eq (binder_name b) n) as (λ r. bytes_eq (binder_name b) n ≡ r → (if r then Some b else find_binder s n) ≡ (if r then Some b else find_binder z n)) [
      | true ↦ λ e. refl
      | false ↦ λ e. f n (λ q. let t = (bytes_eq-Decides (binder_name b) n).1 q in absurd (cc), a)
    ] refl

same_scope : (bs s z : List Binder) → SameScope bs s z → SameScope [] (enter bs s) (enter (lasts bs) z)
same_scope [] s z f = f
same_scope (b ∷ bs) s z f =
    elim (binds bs (binder_name b)) as (λ r. binds bs (binder_name b) ≡ r → SameScope [] (enter bs (b ∷ s)) (enter (if r then lasts bs else b ∷ lasts bs) z)) [
      | true ↦ λ e. same_scope bs (b ∷ s) z (scope_hidden b bs s z e f)
      | false ↦ λ e. same_scope bs (b ∷ s) (b ∷ z) (scope_kept b bs s z f)
    ] refl

mutual
  term_scope : (g : Sig) (s z : List Binder) → SameScope [] s z → (t : Tree) → IsCheckedTerm g s t → IsCheckedTerm g z t
  term_scope g s z f (variable v) c = sym (f v.name tt) ∙ c
  term_scope g s z f (public n) c = tt
  term_scope g s z f (fresh k) c = tt
  term_scope g s z f (apply h ts) c = (c.0, c.1, terms_scope g s z f ts c.2)

  terms_scope : (g : Sig) (s z : List Binder) → SameScope [] s z → (ts : Trees) → AreCheckedTerms g s ts → AreCheckedTerms g z ts
  terms_scope g s z f none c = tt
  terms_scope g s z f (more t ts) c = (term_scope g s z f t c.0, terms_scope g s z f ts c.1)

slim_stands : (f : Form) (n : List ℕ) → StandsInAtom n f → StandsInAtom n (slim f)
slim_stands (both f h) n s = elim s [ inl x ↦ inl (slim_stands f n x) | inr x ↦ inr (slim_stands h n x) ]
slim_stands (action f i) n s = s
slim_stands truth n s = s
slim_stands falsity n s = s
slim_stands (equal a b) n s = s
slim_stands (same_time i j) n s = s
slim_stands (earlier i j) n s = s
slim_stands (negation f) n s = s
slim_stands (either f h) n s = s
slim_stands (implies f h) n s = s
slim_stands (equivalent f h) n s = s
slim_stands (every bs f) n s = s
slim_stands (exists bs f) n s = s

slim_premise : (f : Form) (n : List ℕ) → StandsInAtom n (premise f) → StandsInAtom n (premise (slim f))
slim_premise (implies f h) n s = slim_stands f n s
slim_premise (both f h) n s = s
slim_premise (action f i) n s = s
slim_premise truth n s = s
slim_premise falsity n s = s
slim_premise (equal a b) n s = s
slim_premise (same_time i j) n s = s
slim_premise (earlier i j) n s = s
slim_premise (negation f) n s = s
slim_premise (either f h) n s = s
slim_premise (equivalent f h) n s = s
slim_premise (every bs f) n s = s
slim_premise (exists bs f) n s = s

pub slim_checked : (g : Sig) (V : List ℕ → Type 0) (f : Form) (s z : List Binder) → SameScope [] s z → IsChecked g V s f → IsChecked g V z (slim f)
slim_checked g V truth s z e c = tt
slim_checked g V falsity s z e c = tt
slim_checked g V (action f i) s z e c = (c.0, terms_scope g s z e (trees_of f.args) c.1, sym (e i tt) ∙ c.2)
slim_checked g V (equal a b) s z e c = (term_scope g s z e a c.0, term_scope g s z e b c.1)
slim_checked g V (same_time i j) s z e c = (sym (e i tt) ∙ c.0, sym (e j tt) ∙ c.1)
slim_checked g V (earlier i j) s z e c = (sym (e i tt) ∙ c.0, sym (e j tt) ∙ c.1)
slim_checked g V (negation f) s z e c = slim_checked g V f s z e c
slim_checked g V (both f h) s z e c = (slim_checked g V f s z e c.0, slim_checked g V h s z e c.1)
slim_checked g V (either f h) s z e c = (slim_checked g V f s z e c.0, slim_checked g V h s z e c.1)
slim_checked g V (implies f h) s z e c = (slim_checked g V f s z e c.0, slim_checked g V h s z e c.1)
slim_checked g V (equivalent f h) s z e c = (slim_checked g V f s z e c.0, slim_checked g V h s z e c.1)
slim_checked g V (every bs f) s z e c = (
  lasts_each (λ b. StandsInAtom (binder_name b) (premise (slim f))) bs (each_map (λ b. StandsInAtom (binder_name b) (premise f)) (λ b. StandsInAtom (binder_name b) (premise (slim f))) bs (λ b x. slim_premise f (binder_name b) x) c.0),
  slim_checked g V f (enter bs s) (enter (lasts bs) z) (same_scope bs s z (λ n a. e n tt)) c.1,
)
slim_checked g V (exists bs f) s z e c = (
  lasts_each (λ b. StandsInAtom (binder_name b) (slim f)) bs (each_map (λ b. StandsInAtom (binder_name b) f) (λ b. StandsInAtom (binder_name b) (slim f)) bs (λ b x. slim_stands f (binder_name b) x) c.0),
  slim_checked g V f (enter bs s) (enter (lasts bs) z) (same_scope bs s z (λ n a. e n tt)) c.1,
)

pub slim_closed : SlimClosedLaw
slim_closed g f c = slim_checked g (λ n. Unit {0}) f [] [] (λ n a. refl) c

pub slim_once : SlimOnceLaw
slim_once truth = tt
slim_once falsity = tt
slim_once (action f i) = tt
slim_once (equal s t) = tt
slim_once (same_time i j) = tt
slim_once (earlier i j) = tt
slim_once (negation f) = slim_once f
slim_once (both f h) = (slim_once f, slim_once h)
slim_once (either f h) = (slim_once f, slim_once h)
slim_once (implies f h) = (slim_once f, slim_once h)
slim_once (equivalent f h) = (slim_once f, slim_once h)
slim_once (every bs f) = (lasts_once bs, slim_once f)
slim_once (exists bs f) = (lasts_once bs, slim_once f)

-- environments that agree on the variables in scope, but for names that are bound later
pub record AlikeBut (bs scope : List Binder) (σ : Choice) (τ : Times) (σ' : Choice) (τ' : Times) : Type 0 where
  pub terms : (v : Var) → IsApart bs v.name → find_binder scope v.name ≡ Some (Message v) → σ v ≡ σ' v
  pub times : (n : List ℕ) → IsApart bs n → find_binder scope n ≡ Some (Time n) → τ n ≡ τ' n

apart_name : (b : Binder) (n : List ℕ) → bytes_eq (binder_name b) n ≡ false → binder_name b ≡ n → ⊥
apart_name b n e q = let t = (bytes_eq-Decides (binder_name b) n).1 q in cc

module _ (bs scope : List Binder) (σ : Choice) (τ : Times) (σ' : Choice) (τ' : Times) where
  message_kept : (v : Var) (t : Tree) → AlikeBut (Message v ∷ bs) scope σ τ σ' τ' → AlikeBut bs (Message v ∷ scope) (bind v t σ) τ (bind v t σ') τ'
  message_kept v t a = record {
    terms = λ w p. elim (bytes_eq v.name w.name) as (λ b. bytes_eq v.name w.name ≡ b → (if b then Some (Message v) else find_binder scope w.name) ≡ Some (Message w) → (if b then t else σ w) ≡ (if b then t else σ' w)) [ true ↦ λ e h. refl | false ↦ λ e h. a.terms w (apart_name (Message v) w.name e, p) h ] refl;
    times = λ n p. elim (bytes_eq v.name n) as (λ b. bytes_eq v.name n ≡ b → (if b then Some (Message v) else find_binder scope n) ≡ Some (Time n) → τ n ≡ τ' n) [ true ↦ λ e h. absurd (cc) | false ↦ λ e h. a.times n (apart_name (Message v) n e, p) h ] refl;
  }

  message_hidden : (v : Var) (t : Tree) → binds bs v.name ≡ true → AlikeBut (Message v ∷ bs) scope σ τ σ' τ' → AlikeBut bs (Message v ∷ scope) (bind v t σ) τ σ' τ'
  message_hidden v t q a = record {
    terms = λ w p. elim (bytes_eq v.name w.name) as (λ b. bytes_eq v.name w.name ≡ b → (if b then Some (Message v) else find_binder scope w.name) ≡ Some (Message w) → (if b then t else σ w) ≡ σ' w) [ true ↦ λ e h. absurd (hidden_name (Message v) bs w.name q p ((bytes_eq-Decides v.name w.name).0 e)) | false ↦ λ e h. a.terms w (apart_name (Message v) w.name e, p) h ] refl;
    times = λ n p. elim (bytes_eq v.name n) as (λ b. bytes_eq v.name n ≡ b → (if b then Some (Message v) else find_binder scope n) ≡ Some (Time n) → τ n ≡ τ' n) [ true ↦ λ e h. absurd (cc) | false ↦ λ e h. a.times n (apart_name (Message v) n e, p) h ] refl;
  }

  time_kept : (m : List ℕ) (k : ℕ) → AlikeBut (Time m ∷ bs) scope σ τ σ' τ' → AlikeBut bs (Time m ∷ scope) σ (stamp m k τ) σ' (stamp m k τ')
  time_kept m k a = record {
    terms = λ w p. elim (bytes_eq m w.name) as (λ b. bytes_eq m w.name ≡ b → (if b then Some (Time m) else find_binder scope w.name) ≡ Some (Message w) → σ w ≡ σ' w) [ true ↦ λ e h. absurd (cc) | false ↦ λ e h. a.terms w (apart_name (Time m) w.name e, p) h ] refl;
    times = λ n p. elim (bytes_eq m n) as (λ b. bytes_eq m n ≡ b → (if b then Some (Time m) else find_binder scope n) ≡ Some (Time n) → (if b then k else τ n) ≡ (if b then k else τ' n)) [ true ↦ λ e h. refl | false ↦ λ e h. a.times n (apart_name (Time m) n e, p) h ] refl;
  }

  time_hidden : (m : List ℕ) (k : ℕ) → binds bs m ≡ true → AlikeBut (Time m ∷ bs) scope σ τ σ' τ' → AlikeBut bs (Time m ∷ scope) σ (stamp m k τ) σ' τ'
  time_hidden m k q a = record {
    terms = λ w p. elim (bytes_eq m w.name) as (λ b. bytes_eq m w.name ≡ b → (if b then Some (Time m) else find_binder scope w.name) ≡ Some (Message w) → σ w ≡ σ' w) [ true ↦ λ e h. absurd (cc) | false ↦ λ e h. a.terms w (apart_name (Time m) w.name e, p) h ] refl;
    times = λ n p. elim (bytes_eq m n) as (λ b. bytes_eq m n ≡ b → (if b then Some (Time m) else find_binder scope n) ≡ Some (Time n) → (if b then k else τ n) ≡ τ' n) [ true ↦ λ e h. absurd (hidden_name (Time m) bs n q p ((bytes_eq-Decides m n).0 e)) | false ↦ λ e h. a.times n (apart_name (Time m) n e, p) h ] refl;
  }

any_below_length : (Q : Fact → Type 0) (tr : Trace) (k : ℕ) → AnyIn Q (facts_at tr k) → k < length tr
any_below_length Q [] k h = absurd h
any_below_length Q (p ∷ tr) zero h = omega arith
any_below_length Q (p ∷ tr) (suc k) h = let r = any_below_length Q tr k h in omega arith

abbrev NotNone : List Binder → Type 0
NotNone [] = ⊥
NotNone (b ∷ bs) = Unit {0}

module _ (D : Sort → Tree → Type 0) (P : ℕ → Type 0) (some_term : (s : Sort) → (t : Tree) × D s t) where
  some_end : (bs : List Binder) (B : Choice → Times → Type 0) (σ : Choice) (τ : Times) → Exists D P bs B σ τ → (σ' : Choice) × (τ' : Times) × B σ' τ'
  some_end [] B σ τ h = (σ, τ, h)
  some_end (Message v ∷ bs) B σ τ (t, d, h) = some_end bs B (bind v t σ) τ h
  some_end (Time m ∷ bs) B σ τ (k, p, h) = some_end bs B σ (stamp m k τ) h

  exists_drop : (bs : List Binder) (B C : Choice → Times → Type 0) (scope : List Binder) → ((σ : Choice) (τ : Times) (σ' : Choice) (τ' : Times) → AlikeBut [] (enter bs scope) σ τ σ' τ' → B σ τ → C σ' τ') → (σ : Choice) (τ : Times) (σ' : Choice) (τ' : Times) → AlikeBut bs scope σ τ σ' τ' → Exists D P bs B σ τ → Exists D P (lasts bs) C σ' τ'
  exists_drop [] B C scope f σ τ σ' τ' a h = f σ τ σ' τ' a h
  exists_drop (Message v ∷ bs) B C scope f σ τ σ' τ' a (t, d, h) =
      elim (binds bs v.name) as (λ r. binds bs v.name ≡ r → Exists D P (if r then lasts bs else Message v ∷ lasts bs) C σ' τ') [
        | true ↦ λ e. exists_drop bs B C (Message v ∷ scope) f (bind v t σ) τ σ' τ' (message_hidden bs scope σ τ σ' τ' v t e a) h
        | false ↦ λ e. (t, d, exists_drop bs B C (Message v ∷ scope) f (bind v t σ) τ (bind v t σ') τ' (message_kept bs scope σ τ σ' τ' v t a) h)
      ] refl
  exists_drop (Time m ∷ bs) B C scope f σ τ σ' τ' a (k, p, h) =
      elim (binds bs m) as (λ r. binds bs m ≡ r → Exists D P (if r then lasts bs else Time m ∷ lasts bs) C σ' τ') [
        | true ↦ λ e. exists_drop bs B C (Time m ∷ scope) f σ (stamp m k τ) σ' τ' (time_hidden bs scope σ τ σ' τ' m k e a) h
        | false ↦ λ e. (k, p, exists_drop bs B C (Time m ∷ scope) f σ (stamp m k τ) σ' (stamp m k τ') (time_kept bs scope σ τ σ' τ' m k a) h)
      ] refl

  exists_fill : (time : (k : ℕ) × P k) (bs : List Binder) (B C : Choice → Times → Type 0) (scope : List Binder) → ((σ : Choice) (τ : Times) (σ' : Choice) (τ' : Times) → AlikeBut [] (enter bs scope) σ τ σ' τ' → C σ' τ' → B σ τ) → (σ : Choice) (τ : Times) (σ' : Choice) (τ' : Times) → AlikeBut bs scope σ τ σ' τ' → Exists D P (lasts bs) C σ' τ' → Exists D P bs B σ τ
  exists_fill time [] B C scope f σ τ σ' τ' a h = f σ τ σ' τ' a h
  exists_fill time (Message v ∷ bs) B C scope f σ τ σ' τ' a h =
      elim (binds bs v.name) as (λ r. binds bs v.name ≡ r → Exists D P (if r then lasts bs else Message v ∷ lasts bs) C σ' τ' → Exists D P (Message v ∷ bs) B σ τ) [
        | true ↦ λ e h. let w = some_term v.sort in (w.0, w.1, exists_fill time bs B C (Message v ∷ scope) f (bind v w.0 σ) τ σ' τ' (message_hidden bs scope σ τ σ' τ' v w.0 e a) h)
        | false ↦ λ e h. (h.0, h.1, exists_fill time bs B C (Message v ∷ scope) f (bind v h.0 σ) τ (bind v h.0 σ') τ' (message_kept bs scope σ τ σ' τ' v h.0 a) h.2)
      ] refl h
  exists_fill time (Time m ∷ bs) B C scope f σ τ σ' τ' a h =
      elim (binds bs m) as (λ r. binds bs m ≡ r → Exists D P (if r then lasts bs else Time m ∷ lasts bs) C σ' τ' → Exists D P (Time m ∷ bs) B σ τ) [
        | true ↦ λ e h. (time.0, time.1, exists_fill time bs B C (Time m ∷ scope) f σ (stamp m time.0 τ) σ' τ' (time_hidden bs scope σ τ σ' τ' m time.0 e a) h)
        | false ↦ λ e h. (h.0, h.1, exists_fill time bs B C (Time m ∷ scope) f σ (stamp m h.0 τ) σ' (stamp m h.0 τ') (time_kept bs scope σ τ σ' τ' m h.0 a) h.2)
      ] refl h

  exists_back : (bs : List Binder) (B C : Choice → Times → Type 0) (scope : List Binder) → (NotNone bs → (σ : Choice) (τ : Times) → C σ τ → (k : ℕ) × P k) → ((σ : Choice) (τ : Times) (σ' : Choice) (τ' : Times) → AlikeBut [] (enter bs scope) σ τ σ' τ' → C σ' τ' → B σ τ) → (σ : Choice) (τ : Times) (σ' : Choice) (τ' : Times) → AlikeBut bs scope σ τ σ' τ' → Exists D P (lasts bs) C σ' τ' → Exists D P bs B σ τ
  exists_back [] B C scope p f σ τ σ' τ' a h = f σ τ σ' τ' a h
  exists_back (b ∷ bs) B C scope p f σ τ σ' τ' a h =
      let w = some_end (lasts (b ∷ bs)) C σ' τ' h in
      exists_fill (p tt w.0 w.1 w.2) (b ∷ bs) B C scope f σ τ σ' τ' a h

  every_fill : (bs : List Binder) (B C : Choice → Times → Type 0) (scope : List Binder) → ((σ : Choice) (τ : Times) (σ' : Choice) (τ' : Times) → AlikeBut [] (enter bs scope) σ τ σ' τ' → C σ' τ' → B σ τ) → (σ : Choice) (τ : Times) (σ' : Choice) (τ' : Times) → AlikeBut bs scope σ τ σ' τ' → Every D P (lasts bs) C σ' τ' → Every D P bs B σ τ
  every_fill [] B C scope f σ τ σ' τ' a h = f σ τ σ' τ' a h
  every_fill (Message v ∷ bs) B C scope f σ τ σ' τ' a h =
      elim (binds bs v.name) as (λ r. binds bs v.name ≡ r → Every D P (if r then lasts bs else Message v ∷ lasts bs) C σ' τ' → Every D P (Message v ∷ bs) B σ τ) [
        | true ↦ λ e h t d. every_fill bs B C (Message v ∷ scope) f (bind v t σ) τ σ' τ' (message_hidden bs scope σ τ σ' τ' v t e a) h
        | false ↦ λ e h t d. every_fill bs B C (Message v ∷ scope) f (bind v t σ) τ (bind v t σ') τ' (message_kept bs scope σ τ σ' τ' v t a) (h t d)
      ] refl h
  every_fill (Time m ∷ bs) B C scope f σ τ σ' τ' a h =
      elim (binds bs m) as (λ r. binds bs m ≡ r → Every D P (if r then lasts bs else Time m ∷ lasts bs) C σ' τ' → Every D P (Time m ∷ bs) B σ τ) [
        | true ↦ λ e h k p. every_fill bs B C (Time m ∷ scope) f σ (stamp m k τ) σ' τ' (time_hidden bs scope σ τ σ' τ' m k e a) h
        | false ↦ λ e h k p. every_fill bs B C (Time m ∷ scope) f σ (stamp m k τ) σ' (stamp m k τ') (time_kept bs scope σ τ σ' τ' m k a) (h k p)
      ] refl h

  -- a hidden time variable takes a time that is known only once the premise holds
  every_drop : (bs : List Binder) (L B C : Choice → Times → Type 0) (scope : List Binder) → ((σ' : Choice) (τ' : Times) → L σ' τ' → (k : ℕ) × P k) → ((σ : Choice) (τ : Times) (σ' : Choice) (τ' : Times) → AlikeBut [] (enter bs scope) σ τ σ' τ' → B σ τ → L σ' τ' → C σ' τ') → (σ : Choice) (τ : ((k : ℕ) × P k) → Times) (σ' : Choice) (τ' : Times) → ((s : (k : ℕ) × P k) → AlikeBut bs scope σ (τ s) σ' τ') → ((s : (k : ℕ) × P k) → Every D P bs B σ (τ s)) → Every D P (lasts bs) (λ σ τ. L σ τ → C σ τ) σ' τ'
  every_drop [] L B C scope ends f σ τ σ' τ' a h = λ l. let s = ends σ' τ' l in f σ (τ s) σ' τ' (a s) (h s) l
  every_drop (Message v ∷ bs) L B C scope ends f σ τ σ' τ' a h =
      elim (binds bs v.name) as (λ r. binds bs v.name ≡ r → Every D P (if r then lasts bs else Message v ∷ lasts bs) (λ σ τ. L σ τ → C σ τ) σ' τ') [
        | true ↦ λ e. let w = some_term v.sort in every_drop bs L B C (Message v ∷ scope) ends f (bind v w.0 σ) τ σ' τ' (λ s. message_hidden bs scope σ (τ s) σ' τ' v w.0 e (a s)) (λ s. h s w.0 w.1)
        | false ↦ λ e t d. every_drop bs L B C (Message v ∷ scope) ends f (bind v t σ) τ (bind v t σ') τ' (λ s. message_kept bs scope σ (τ s) σ' τ' v t (a s)) (λ s. h s t d)
      ] refl
  every_drop (Time m ∷ bs) L B C scope ends f σ τ σ' τ' a h =
      elim (binds bs m) as (λ r. binds bs m ≡ r → Every D P (if r then lasts bs else Time m ∷ lasts bs) (λ σ τ. L σ τ → C σ τ) σ' τ') [
        | true ↦ λ e. every_drop bs L B C (Time m ∷ scope) ends f σ (λ s. stamp m s.0 (τ s)) σ' τ' (λ s. time_hidden bs scope σ (τ s) σ' τ' m s.0 e (a s)) (λ s. h s s.0 s.1)
        | false ↦ λ e k p. every_drop bs L B C (Time m ∷ scope) ends f σ (λ s. stamp m k (τ s)) σ' (stamp m k τ') (λ s. time_kept bs scope σ (τ s) σ' τ' m k (a s)) (λ s. h s k p)
      ] refl

some_message : NormalLaws → (g : Sig) (s : Sort) → (t : Tree) × IsMessage g s t
some_message w g Msg = (public [], record { ground = tt; over = tt; normal = public-normal w (equations g) []; sorted = refl })
some_message w g Fresh = (fresh 0, record { ground = tt; over = tt; normal = fresh-normal w (equations g) 0; sorted = refl })
some_message w g Pub = (public [], record { ground = tt; over = tt; normal = public-normal w (equations g) []; sorted = refl })

module _ (w : NormalLaws) (g : Sig) (V : List ℕ → Type 0) (tr : Trace) where
  guard_time : (f : Form) (n : List ℕ) → StandsInAtom n f → (σ : Choice) (τ : Times) → IsTrueUnder (equations g) tr (IsMessage g) (λ k. k < length tr) f σ τ → (k : ℕ) × (k < length tr)
  guard_time (both f h) n s σ τ t = elim s [ inl x ↦ guard_time f n x σ τ t.0 | inr x ↦ guard_time h n x σ τ t.1 ]
  guard_time (action f i) n s σ τ t = (τ i, any_below_length (Shows (equations g) σ f) tr (τ i) t)
  guard_time truth n s σ τ t = absurd s
  guard_time falsity n s σ τ t = absurd s
  guard_time (equal _ _) n s σ τ t = absurd s
  guard_time (same_time _ _) n s σ τ t = absurd s
  guard_time (earlier _ _) n s σ τ t = absurd s
  guard_time (negation _) n s σ τ t = absurd s
  guard_time (either _ _) n s σ τ t = absurd s
  guard_time (implies _ _) n s σ τ t = absurd s
  guard_time (equivalent _ _) n s σ τ t = absurd s
  guard_time (every _ _) n s σ τ t = absurd s
  guard_time (exists _ _) n s σ τ t = absurd s

  guards_time : (bs : List Binder) (f : Form) → AreGuarded bs f → NotNone bs → (σ : Choice) (τ : Times) → IsTrueUnder (equations g) tr (IsMessage g) (λ k. k < length tr) (slim f) σ τ → (k : ℕ) × (k < length tr)
  guards_time [] f a x σ τ h = absurd x
  guards_time (b ∷ bs) f a x σ τ h = guard_time (slim f) (binder_name b) (slim_stands f (binder_name b) a.0) σ τ h

  -- an atom on environments that agree
  atom : (f : Form) (scope : List Binder) (σ : Choice) (τ : Times) (σ' : Choice) (τ' : Times) → IsChecked g V scope f → AlikeBut [] scope σ τ σ' τ' → IsTrueUnder (equations g) tr (IsMessage g) (λ k. k < length tr) f σ τ ↔ IsTrueUnder (equations g) tr (IsMessage g) (λ k. k < length tr) f σ' τ'
  atom f scope σ τ σ' τ' c a =
      alike g V tr tr (IsMessage g) (IsMessage g) (λ k. k < length tr) (λ k. k < length tr) (λ i j. i ≡ j)
      (λ s t. (λ d. d, λ d. d)) (λ k p. (k, p, refl)) (λ k p. (k, p, refl))
      (λ i j x y p q. (λ e. sym p ∙ e ∙ q, λ e. p ∙ e ∙ sym q))
      (λ i j x y p q. (λ l. omega arith, λ l. omega arith))
      (λ i j p Q v. (λ h. subst (λ k. AnyIn Q (facts_at tr k)) p h, λ h. subst (λ k. AnyIn Q (facts_at tr k)) (sym p) h))
      f scope σ τ σ' τ' c (record { terms = λ v h. a.terms v tt h; times = λ n h. a.times n tt h }) (equations g)

  pub slim_same : (f : Form) (scope : List Binder) (σ : Choice) (τ : Times) (σ' : Choice) (τ' : Times) → IsChecked g V scope f → AlikeBut [] scope σ τ σ' τ' → IsTrueUnder (equations g) tr (IsMessage g) (λ k. k < length tr) f σ τ ↔ IsTrueUnder (equations g) tr (IsMessage g) (λ k. k < length tr) (slim f) σ' τ'
  slim_same truth scope σ τ σ' τ' c a = (λ h. h, λ h. h)
  slim_same falsity scope σ τ σ' τ' c a = (λ h. h, λ h. h)
  slim_same (action f i) scope σ τ σ' τ' c a = atom (action f i) scope σ τ σ' τ' c a
  slim_same (equal s t) scope σ τ σ' τ' c a = atom (equal s t) scope σ τ σ' τ' c a
  slim_same (same_time i j) scope σ τ σ' τ' c a = atom (same_time i j) scope σ τ σ' τ' c a
  slim_same (earlier i j) scope σ τ σ' τ' c a = atom (earlier i j) scope σ τ σ' τ' c a
  slim_same (negation f) scope σ τ σ' τ' c a =
      let p = slim_same f scope σ τ σ' τ' c a in
      (λ h x. h (p.1 x), λ h x. h (p.0 x))
  slim_same (both f h) scope σ τ σ' τ' c a =
      let p = slim_same f scope σ τ σ' τ' c.0 a in
      let q = slim_same h scope σ τ σ' τ' c.1 a in
      (λ x. (p.0 x.0, q.0 x.1), λ x. (p.1 x.0, q.1 x.1))
  slim_same (either f h) scope σ τ σ' τ' c a =
      let p = slim_same f scope σ τ σ' τ' c.0 a in
      let q = slim_same h scope σ τ σ' τ' c.1 a in
      (λ x. elim x [ inl y ↦ inl (p.0 y) | inr y ↦ inr (q.0 y) ], λ x. elim x [ inl y ↦ inl (p.1 y) | inr y ↦ inr (q.1 y) ])
  slim_same (implies f h) scope σ τ σ' τ' c a =
      let p = slim_same f scope σ τ σ' τ' c.0 a in
      let q = slim_same h scope σ τ σ' τ' c.1 a in
      (λ x y. q.0 (x (p.1 y)), λ x y. q.1 (x (p.0 y)))
  slim_same (equivalent f h) scope σ τ σ' τ' c a =
      let p = slim_same f scope σ τ σ' τ' c.0 a in
      let q = slim_same h scope σ τ σ' τ' c.1 a in
      (λ x. (λ y. q.0 (x.0 (p.1 y)), λ y. p.0 (x.1 (q.1 y))), λ x. (λ y. q.1 (x.0 (p.0 y)), λ y. p.1 (x.1 (q.0 y))))
  slim_same (exists bs f) scope σ τ σ' τ' c a =
      let B = IsTrueUnder (equations g) tr (IsMessage g) (λ k. k < length tr) f in
      let C = IsTrueUnder (equations g) tr (IsMessage g) (λ k. k < length tr) (slim f) in
      let b : AlikeBut bs scope σ τ σ' τ' = record { terms = λ v p h. a.terms v tt h; times = λ n p h. a.times n tt h } in (
        exists_drop (IsMessage g) (λ k. k < length tr) (some_message w g) bs B C scope (λ σ τ σ' τ' a. (slim_same f (enter bs scope) σ τ σ' τ' c.1 a).0) σ τ σ' τ' b,
        exists_back (IsMessage g) (λ k. k < length tr) (some_message w g) bs B C scope (guards_time bs f c.0) (λ σ τ σ' τ' a. (slim_same f (enter bs scope) σ τ σ' τ' c.1 a).1) σ τ σ' τ' b,
      )
  slim_same (every [] f) scope σ τ σ' τ' c a = slim_same f scope σ τ σ' τ' c.1 a
  slim_same (every (b ∷ bs) (implies f h)) scope σ τ σ' τ' c a =
      let s = enter (b ∷ bs) scope in
      let o : AlikeBut (b ∷ bs) scope σ τ σ' τ' = record { terms = λ v p h. a.terms v tt h; times = λ n p h. a.times n tt h } in
      let B = IsTrueUnder (equations g) tr (IsMessage g) (λ k. k < length tr) (implies f h) in
      let L = IsTrueUnder (equations g) tr (IsMessage g) (λ k. k < length tr) (slim f) in
      let C = IsTrueUnder (equations g) tr (IsMessage g) (λ k. k < length tr) (slim h) in (
        λ x. every_drop (IsMessage g) (λ k. k < length tr) (some_message w g) (b ∷ bs) L B C scope (guards_time (b ∷ bs) f c.0 tt) (λ σ τ σ' τ' a y l. (slim_same h s σ τ σ' τ' c.1.1 a).0 (y ((slim_same f s σ τ σ' τ' c.1.0 a).1 l))) σ (λ p. τ) σ' τ' (λ p. o) (λ p. x),
        every_fill (IsMessage g) (λ k. k < length tr) (some_message w g) (b ∷ bs) B (IsTrueUnder (equations g) tr (IsMessage g) (λ k. k < length tr) (implies (slim f) (slim h))) scope (λ σ τ σ' τ' a y l. (slim_same h s σ τ σ' τ' c.1.1 a).1 (y ((slim_same f s σ τ σ' τ' c.1.0 a).0 l))) σ τ σ' τ' o,
      )
  slim_same (every (b ∷ bs) f) scope σ τ σ' τ' c a = absurd c.0.0

pub hidden_binder_law : NormalLaws → HiddenBinderLaw
hidden_binder_law w g f tr c = slim_same w g (λ n. Unit {0}) tr f [] (λ v. variable v) (λ n. 0) (λ v. variable v) (λ n. 0) c (record { terms = λ v p h. refl; times = λ n p h. refl })

-- what is checked for some names of facts is checked for more
pub renamed : (g : Sig) (V W : List ℕ → Type 0) → ((n : List ℕ) → V n → W n) → (f : Form) (scope : List Binder) → IsChecked g V scope f → IsChecked g W scope f
renamed g V W r truth scope c = tt
renamed g V W r falsity scope c = tt
renamed g V W r (action f i) scope c = (r f.name c.0, c.1, c.2)
renamed g V W r (equal s t) scope c = c
renamed g V W r (same_time i j) scope c = c
renamed g V W r (earlier i j) scope c = c
renamed g V W r (negation f) scope c = renamed g V W r f scope c
renamed g V W r (both f h) scope c = (renamed g V W r f scope c.0, renamed g V W r h scope c.1)
renamed g V W r (either f h) scope c = (renamed g V W r f scope c.0, renamed g V W r h scope c.1)
renamed g V W r (implies f h) scope c = (renamed g V W r f scope c.0, renamed g V W r h scope c.1)
renamed g V W r (equivalent f h) scope c = (renamed g V W r f scope c.0, renamed g V W r h scope c.1)
renamed g V W r (every bs f) scope c = (c.0, renamed g V W r f (enter bs scope) c.1)
renamed g V W r (exists bs f) scope c = (c.0, renamed g V W r f (enter bs scope) c.1)

pub weaker : (g : Sig) (V : List ℕ → Type 0) (f : Form) (scope : List Binder) → IsChecked g V scope f → IsChecked g (λ n. Unit {0}) scope f
weaker g V f scope c = renamed g V (λ n. Unit {0}) (λ n v. tt) f scope c
