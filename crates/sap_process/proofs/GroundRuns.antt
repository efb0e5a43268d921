-- Runs keep processes ground, and what was sent, stored, kept as facts and shown are messages.
use Rattle.std.proofs.Common.{◌≡◌, ℕ, zero, suc, arith, List, [], ◌∷◌, ◌++◌, Option, Some, None, Bool, true, false, not, ◌||◌, cond, filter, map, slice_get, slice_set, length, refl, sym, ap, subst, ◌∙◌, inl, inr}
use Rattle.std.specs.Prelude.{Contains, All}
use Rattle.std.specs.List.{AllZip}
use Rattle.std.specs.Option.{option_map_or}
use Rattle.std.proofs.lemmas.List.{append_assoc}
use Rattle.std.proofs.lemmas.List.Elements.{Contains-push_cases}
use Rattle.sap_rewrite.specs.Laws.{FormIsOne, FormsAreMessages}
use Rattle.sap_terms.specs.AdversaryFacts.{k_fact}
use Rattle.sap_terms.specs.Choice.{Choice, instance, instances}
use Rattle.sap_terms.specs.Deduce.{IsDerived, IsDerivation}
use Rattle.sap_terms.specs.Equal.{IsTheoryEqual}
use Rattle.sap_terms.specs.Equations.{equations}
use Rattle.sap_terms.specs.Ground.{IsGround, AreGround}
use Rattle.sap_terms.specs.Message.{IsMessage, IsMessageChoice, IsOver, AreOver}
use Rattle.sap_terms.specs.Modulo.{instance_facts, AreFormsOfFacts}
use Rattle.sap_terms.specs.Normal.{IsNormalForm}
use Rattle.sap_terms.specs.Piles.{Pile, Takes, used, adds}
use Rattle.sap_terms.specs.Same.{same_tree}
use Rattle.sap_terms.specs.Signature.{Sig, HoldsBuiltins}
use Rattle.sap_terms.specs.Trace.{Trace}
use Rattle.sap_terms.specs.Tree.{Tree, variable, public, fresh, apply, Trees, none, more, trees_of, list_of-trees_of}
use Rattle.sap_terms.specs.Variables.{tree_vars, trees_vars, facts_vars, is_known, new_vars}
use Rattle.sap_terms.specs.declared.fact.Fact.{Fact}
use Rattle.sap_terms.specs.declared.var.Sort.TheVariants.{Msg}
use Rattle.sap_terms.specs.declared.var.Var.{Var}
use Rattle.sap_terms.proofs.PlainLaws.Tests.{same_tree-sound}
use Rattle.sap_process.specs.Action as action
use Rattle.sap_process.specs.Configuration.{Config, initial, becomes, stored, CanGive}
use Rattle.sap_process.specs.Flaws.{IsWellFormed, binder_of, unbound, unbound_in}
use Rattle.sap_process.specs.code.GroundParts.{IsGroundIn, AllOver, IsOverProcess}
use Rattle.sap_process.specs.GroundProcess.{IsGroundProcess, HoldsMessages, IsGroundConfig}
use Rattle.sap_process.specs.Heads.{facts_terms, terms_vars}
use Rattle.sap_process.specs.Proc as whole
use Rattle.sap_process.specs.Proc.{Proc, act}
use Rattle.sap_process.specs.ProcessSteps.{ProcessStep, ProcessRun, chosen, with_choice, with_term}
use Rattle.sap_process.specs.Sites.{sites, var_names, fresh_var, message_var}
use Rattle.sap_process.specs.declared.flaw.Flaw.TheVariants.{Unbound}
use Rattle.sap_process.proofs.InstanceLemmas.{one_instance}
use Rattle.sap_process.proofs.Members.{member-none, member-cases, member-head, member-tail}
use Rattle.sap_process.proofs.Envs.{put, by_name, by_name_is, by_name_ground, known_new}
use Rattle.sap_process.proofs.GroundParts.{ground_in, in_ground, instance_ground}
use Rattle.sap_process.proofs.StepLemmas.{own_form, fresh_normal}
use Rattle.sap_process.proofs.OverParts.{PutsOver, list_over, over_left, over_right, process_over, well_over, where_stands}

-- lists of what may be gone

abbrev Every : {A : Type 0} → (A → Type 0) → List (Option A) → Type 0
Every {A} P xs = (t : ℕ) (a : A) → slice_get xs t ≡ Some (Some a) → P a

every-set : {A : Type 0} (P : A → Type 0) (xs : List (Option A)) (t : ℕ) (o : Option A) → Every P xs → ((a : A) → o ≡ Some a → P a) → Every P (slice_set xs t o)
every-set P [] t o all h k a e = cc
every-set P (x ∷ xs) zero o all h zero a e = h a (cc)
every-set P (x ∷ xs) zero o all h (suc k) a e = all (suc k) a e
every-set P (x ∷ xs) (suc t) o all h zero a e = all zero a e
every-set P (x ∷ xs) (suc t) o all h (suc k) a e = every-set P xs t o (λ j b g. all (suc j) b g) h k a e

every-push : {A : Type 0} (P : A → Type 0) (xs : List (Option A)) (y : A) → Every P xs → P y → Every P (xs ++ Some y ∷ [])
every-push P [] y all h zero a e = let same : y ≡ a = cc in subst P same h
every-push P [] y all h (suc k) a e = cc
every-push P (x ∷ xs) y all h zero a e = all zero a e
every-push P (x ∷ xs) y all h (suc k) a e = every-push P xs y (λ j b g. all (suc j) b g) h k a e

every-added : {A : Type 0} (P : A → Type 0) (ys : List A) → ((a : A) → Contains ys a → P a) → Every P (map (λ a. Some a) ys)
every-added P [] h k a e = cc
every-added P (y ∷ ys) h zero a e = let same : y ≡ a = cc in subst P same (h y (member-head y ys))
every-added P (y ∷ ys) h (suc k) a e = every-added P ys (λ b m. h b (member-tail y ys b m)) k a e

every-adds : {A : Type 0} (P : A → Type 0) (xs : List (Option A)) (ys : List A) → Every P xs → ((a : A) → Contains ys a → P a) → Every P (xs ++ map (λ a. Some a) ys)
every-adds P [] ys all h k a e = every-added P ys h k a e
every-adds P (x ∷ xs) ys all h zero a e = all zero a e
every-adds P (x ∷ xs) ys all h (suc k) a e = every-adds P xs ys (λ j b g. all (suc j) b g) h k a e

every-used : (P : Fact → Type 0) (facts : Pile) (k : ℕ) (f : Fact) → Every P facts → Every P (used facts k f)
every-used P facts k f all = go f.persistent
  where
    go : (b : Bool) → Every P (cond b facts (slice_set facts k None))
    go true = all
    go false = every-set P facts k None all (λ a e. absurd (cc))

every-taken : (P : Fact → Type 0) {facts rest : Pile} {ks : List ℕ} {fs : List Fact} → Takes facts ks fs rest → Every P facts → Every P rest
every-taken P Takes.nothing all = all
every-taken P (Takes.one {facts = facts} {k = k} {f = f} e tail) all = every-taken P tail (every-used P facts k f all)

-- terms whose names are all bound where nothing is in scope are ground

no_vars : (xs : List Var) → filter (λ (v : Var). not (is_known (var_names []) v.name)) xs ≡ [] → xs ≡ []
no_vars [] e = refl
no_vars (x ∷ xs) e = absurd (cc)

left_empty : (xs ys : List Var) → xs ++ ys ≡ [] → (xs ≡ []) × (ys ≡ [])
left_empty [] ys e = (refl, e)
left_empty (x ∷ xs) ys e = absurd (cc)

mutual
  no_vars_ground : (t : Tree) → tree_vars t ≡ [] → IsGround t
  no_vars_ground (variable v) e = absurd (cc)
  no_vars_ground (public n) e = tt
  no_vars_ground (fresh k) e = tt
  no_vars_ground (apply f ts) e = no_vars_each ts e

  no_vars_each : (ts : Trees) → trees_vars ts ≡ [] → AreGround ts
  no_vars_each none e = tt
  no_vars_each (more t ts) e = let r = left_empty (tree_vars t) (trees_vars ts) e in (no_vars_ground t r.0, no_vars_each ts r.1)

abbrev AllGround : List Tree → Type 0
AllGround [] = Unit {0}
AllGround (t ∷ ts) = IsGround t × AllGround ts

all_ground : (ts : List Tree) → terms_vars ts ≡ [] → AllGround ts
all_ground [] e = tt
all_ground (t ∷ ts) e = let r = left_empty (tree_vars t) (terms_vars ts) e in (no_vars_ground t r.0, all_ground ts r.1)

used_ground : (ts : List Tree) → unbound_in [] ts ≡ [] → AllGround ts
used_ground ts e = all_ground ts (no_vars (terms_vars ts) e)

-- threads that go on

-- a thread is ground and over the signature
abbrev Thread : Sig → Proc → Type 0
Thread g p = IsGroundIn [] p × IsOverProcess g p

or_nothing : (a : Bool) → a ≡ (a || false)
or_nothing true = refl
or_nothing false = refl

chosen_over : (g : Sig) (σ : Choice) (vs : List Var) → PutsOver g σ → PutsOver g (chosen σ vs)
chosen_over g σ vs h v = go (binder_of vs v.name)
  where
    go : (o : Option Var) → IsOver g (option_map_or σ o (variable v))
    go None = tt
    go (Some b) = h b

-- below what binds the names of these
goes : (g : Sig) (σ : Choice) (vs u : List Var) (p : Proc) → ((v : Var) → IsGround (σ v)) → PutsOver g σ
    → ((n : List ℕ) → is_known (var_names u) n ≡ is_known (var_names vs) n) → IsGroundIn u p → IsOverProcess g p → Thread g (with_choice σ vs p)
goes g σ vs u p ground over same h o = (
  subst (IsGroundIn []) (sym (one_instance (chosen σ vs) (put (by_name σ vs)) (by_name_is σ vs) p))
      (instance_ground p u [] (by_name σ vs) (by_name_ground σ vs ground) (λ n. same n ∙ or_nothing (is_known (var_names vs) n)) h),
  process_over g p (chosen σ vs) (chosen_over g σ vs over) o,
)

-- below a binder of one name
one_term : (g : Sig) (x y : Var) (t : Tree) (p : Proc) → y.name ≡ x.name → IsGround t → IsOver g t → IsGroundIn (y ∷ []) p → IsOverProcess g p → Thread g (with_term x t p)
one_term g x y t p same ground over h o = goes g (λ v. t) (x ∷ []) (y ∷ []) p (λ v. ground) (λ v. over) (λ n. ap (λ m. is_known (m ∷ []) n) same) h o

-- below a pattern or an embedded rule
new_terms : (g : Sig) (σ : Choice) (ws : List Var) (p : Proc) → IsMessageChoice g σ → IsGroundIn (new_vars [] ws) p → IsOverProcess g p → Thread g (with_choice σ ws p)
new_terms g σ ws p good h o = goes g σ ws (new_vars [] ws) p (λ v. (good v).ground) (λ v. (good v).over) (λ n. known_new [] ws n) h o

-- what a step keeps
record Good (g : Sig) (c : Config) : Type 0 where
  threads : Every (Thread g) c.threads
  frame : (x : Tree) → Contains c.frame x → IsMessage g Msg x
  store : (k v : Tree) → c.store k ≡ Some v → IsMessage g Msg k × IsMessage g Msg v
  facts : Every (HoldsMessages g) c.facts

goes_on : (g : Sig) (c : Config) (t : ℕ) (p : Proc) → Good g c → Thread g p → Every (Thread g) (becomes c t (Some p)).threads
goes_on g c t p h w = every-set (Thread g) c.threads t (Some p) h.threads (λ q e. let same : p ≡ q = cc in subst (Thread g) same w)

on_with : (g : Sig) (c : Config) (t : ℕ) (p : Proc) → Good g c → Thread g p → Good g (becomes c t (Some p))
on_with g c t p h w = record { threads = goes_on g c t p h w; frame = h.frame; store = h.store; facts = h.facts }

sent : (g : Sig) (c : Config) (u : Tree) → Good g c → IsMessage g Msg u → (x : Tree) → Contains (c.frame ++ u ∷ []) x → IsMessage g Msg x
sent g c u h m x n = elim (Contains-push_cases c.frame u x n) as (λ _. IsMessage g Msg x) [ inl a ↦ h.frame x a | inr e ↦ subst (IsMessage g Msg) e m ]

abbrev Stores : Sig → (Tree → Option Tree) → Type 0
Stores g store = (k v : Tree) → store k ≡ Some v → IsMessage g Msg k × IsMessage g Msg v

kept_store : (g : Sig) (store : Tree → Option Tree) (k : Tree) (o : Option Tree) → Stores g store → IsMessage g Msg k → ((v : Tree) → o ≡ Some v → IsMessage g Msg v) → Stores g (stored store k o)
kept_store g store k o h key value x v e = go (same_tree k x) refl e
  where
    go : (b : Bool) → same_tree k x ≡ b → cond b o (store x) ≡ Some v → IsMessage g Msg x × IsMessage g Msg v
    go true d e = (subst (IsMessage g Msg) (same_tree-sound k x d) key, value v e)
    go false d e = h x v e

-- facts whose arguments are forms

forms_hold : (g : Sig) → FormsAreMessages → HoldsBuiltins g → (ts ns : List Tree) → AllGround ts → AllOver g ts → AllZip (IsNormalForm (equations g)) ts ns → (n : Tree) → Contains ns n → IsMessage g Msg n
forms_hold g forms hold [] [] ground over a n m = absurd (member-none n m)
forms_hold g forms hold [] (k ∷ ns) ground over a n m = absurd a
forms_hold g forms hold (t ∷ ts) [] ground over a n m = absurd a
forms_hold g forms hold (t ∷ ts) (k ∷ ns) ground over a n m =
    elim (member-cases k ns n m) [
      | inl e ↦ subst (IsMessage g Msg) e (forms g t k hold ground.0 over.0 a.0)
      | inr later ↦ forms_hold g forms hold ts ns ground.1 over.1 a.1 n later
    ]

mutual
  all_replaced : (σ : Choice) → ((v : Var) → IsGround (σ v)) → (t : Tree) → IsGround (instance σ t)
  all_replaced σ h (variable v) = h v
  all_replaced σ h (public n) = tt
  all_replaced σ h (fresh k) = tt
  all_replaced σ h (apply f ts) = each_replaced σ h ts

  each_replaced : (σ : Choice) → ((v : Var) → IsGround (σ v)) → (ts : Trees) → AreGround (instances σ ts)
  each_replaced σ h none = tt
  each_replaced σ h (more t ts) = (all_replaced σ h t, each_replaced σ h ts)

terms_replaced : (σ : Choice) → ((v : Var) → IsGround (σ v)) → (ts : List Tree) → AllGround (map (instance σ) ts)
terms_replaced σ h [] = tt
terms_replaced σ h (t ∷ ts) = (all_replaced σ h t, terms_replaced σ h ts)

facts_hold : (g : Sig) → FormsAreMessages → HoldsBuiltins g → (σ : Choice) → IsMessageChoice g σ → (fs hs : List Fact) → AllOver g (facts_terms fs) → AreFormsOfFacts (equations g) (instance_facts σ fs) hs → (f : Fact) → Contains hs f → HoldsMessages g f
facts_hold g forms hold σ good [] [] over a f m = absurd (member-none f m)
facts_hold g forms hold σ good [] (k ∷ hs) over a f m = absurd a
facts_hold g forms hold σ good (h ∷ fs) [] over a f m = absurd a
facts_hold g forms hold σ good (h ∷ fs) (k ∷ hs) over a f m =
    elim (member-cases k hs f m) [
      | inl e ↦ subst (HoldsMessages g) e
          (forms_hold g forms hold (map (instance σ) h.args) k.args (terms_replaced σ (λ v. (good v).ground) h.args) (list_over g σ h.args (λ v. (good v).over) (over_left g h.args (facts_terms fs) over)) a.0.args)
      | inr later ↦ facts_hold g forms hold σ good fs hs (over_right g h.args (facts_terms fs) over) a.1 f later
    ]

terms-append : (xs ys : List Fact) → facts_terms (xs ++ ys) ≡ facts_terms xs ++ facts_terms ys
terms-append [] ys = refl
terms-append (x ∷ xs) ys = ap (λ ts. x.args ++ ts) (terms-append xs ys) ∙ sym (append_assoc x.args (facts_terms xs) (facts_terms ys))

side_over : (g : Sig) (l e r : List Fact) → AllOver g (facts_terms (l ++ (e ++ r))) → AllOver g (facts_terms e) × AllOver g (facts_terms r)
side_over g l e r over =
    let later : AllOver g (facts_terms (e ++ r)) = over_right g (facts_terms l) (facts_terms (e ++ r)) (subst (AllOver g) (terms-append l (e ++ r)) over) in
    let both : AllOver g (facts_terms e ++ facts_terms r) = subst (AllOver g) (terms-append e r) later in
    (over_left g (facts_terms e) (facts_terms r) both, over_right g (facts_terms e) (facts_terms r) both)

-- steps

ground_step : {g : Sig} {c d : Config} {label : List Fact} → FormsAreMessages → HoldsBuiltins g → ProcessStep g c label d → Good g c → Good g d
ground_step {g} forms hold (ProcessStep.ends {c = c} t r) h = record { threads = every-set (Thread g) c.threads t None h.threads (λ q e. absurd (cc)); frame = h.frame; store = h.store; facts = h.facts }
ground_step {g} forms hold (ProcessStep.splits {c = c} {p = p} {q = q} t r) h =
    let b = h.threads t (whole.parallel p q) r in
    record { threads = every-push (Thread g) (becomes c t (Some p)).threads q (goes_on g c t p h (b.0.0, b.1.0)) (b.0.1, b.1.1); frame = h.frame; store = h.store; facts = h.facts }
ground_step {g} forms hold (ProcessStep.copies {c = c} {p = p} t r) h =
    let b = h.threads t (whole.replicated p) r in
    record { threads = every-push (Thread g) c.threads p h.threads (b.0, b.1); frame = h.frame; store = h.store; facts = h.facts }
ground_step {g} forms hold (ProcessStep.makes_name {c = c} {x = x} {p = p} t n r u) h =
    let b = h.threads t (act (action.new x) p) r in
    let w = on_with g c t (with_term x (fresh n) p) h (one_term g x (fresh_var x) (fresh n) p refl tt tt b.0.1 b.1.1) in
    record { threads = w.threads; frame = w.frame; store = w.store; facts = w.facts }
ground_step {g} forms hold (ProcessStep.outputs {c = c} {m = m} {n = n} {p = p} t r f) h =
    let b = h.threads t (act (action.out m) p) r in
    let w = on_with g c t p h (b.0.1, b.1.1) in
    record { threads = w.threads; frame = sent g c n h (forms g m n hold (used_ground (m ∷ []) b.0.0).0 b.1.0.0 f); store = w.store; facts = w.facts }
ground_step {g} forms hold (ProcessStep.outputs_on {c = c} {m = m} {n = n} {k = k} {u = u} {p = p} t r f can e) h =
    let b = h.threads t (act (action.send m n) p) r in
    let w = on_with g c t p h (b.0.1, b.1.1) in
    record { threads = w.threads; frame = sent g c u h (forms g n u hold (used_ground (m ∷ n ∷ []) b.0.0).1.0 b.1.0.1.0 e); store = w.store; facts = w.facts }
ground_step {g} forms hold (ProcessStep.inputs {c = c} {n = n} {x = x} {p = p} t σ r can f) h =
    let b = h.threads t (act (action.input n) p) r in
    on_with g c t (with_choice σ (tree_vars n) p) h (new_terms g σ (tree_vars n) p f.messages b.0.1 b.1.1)
ground_step {g} forms hold (ProcessStep.inputs_on {c = c} {m = m} {n = n} {x = x} {p = p} t σ r can f e) h =
    let b = h.threads t (act (action.receive m n) p) r in
    on_with g c t (with_choice σ (tree_vars n) p) h (new_terms g σ (tree_vars n) p f b.0.1 b.1.1)
ground_step {g} forms hold (ProcessStep.meets {c = c} {m = m} {n = n} {l = l} {r = k} {p = p} {q = q} s t σ r one same f) h =
    let a = h.threads s (act (action.send m n) p) r in
    let b = h.threads t (act (action.receive l k) q) one in
    on_with g (becomes c s (Some p)) t (with_choice σ (tree_vars k) q) (on_with g c s p h (a.0.1, a.1.1)) (new_terms g σ (tree_vars k) q f.messages b.0.1 b.1.1)
ground_step {g} forms hold (ProcessStep.agrees {c = c} {m = m} {n = n} {p = p} {q = q} t r e) h =
    let b = h.threads t (whole.test m n p q) r in on_with g c t p h (b.0.1, b.1.1)
ground_step {g} forms hold (ProcessStep.differs {c = c} {m = m} {n = n} {p = p} {q = q} t r e) h =
    let b = h.threads t (whole.test m n p q) r in on_with g c t q h (b.0.2, b.1.2)
ground_step {g} forms hold (ProcessStep.shows {c = c} {f = f} {h = k} {p = p} t r e) h =
    let b = h.threads t (act (action.event f) p) r in on_with g c t p h (b.0.1, b.1.1)
ground_step {g} forms hold (ProcessStep.inserts {c = c} {m = m} {n = n} {k = k} {v = v} {p = p} t r e f) h =
    let b = h.threads t (act (action.insert m n) p) r in
    let w = on_with g c t p h (b.0.1, b.1.1) in
    let ground = used_ground (m ∷ n ∷ []) b.0.0 in
    let key : IsMessage g Msg k = forms g m k hold ground.0 b.1.0.0 e in
    let value : IsMessage g Msg v = forms g n v hold ground.1.0 b.1.0.1.0 f in
    record { threads = w.threads; frame = w.frame; store = kept_store g c.store k (Some v) h.store key (λ u i. let same : v ≡ u = cc in subst (IsMessage g Msg) same value); facts = w.facts }
ground_step {g} forms hold (ProcessStep.deletes {c = c} {m = m} {k = k} {p = p} t r e) h =
    let b = h.threads t (act (action.delete m) p) r in
    let w = on_with g c t p h (b.0.1, b.1.1) in
    let key : IsMessage g Msg k = forms g m k hold (used_ground (m ∷ []) b.0.0).0 b.1.0.0 e in
    record { threads = w.threads; frame = w.frame; store = kept_store g c.store k None h.store key (λ u i. absurd (cc)); facts = w.facts }
ground_step {g} forms hold (ProcessStep.finds {c = c} {m = m} {k = k} {v = v} {x = x} {p = p} {q = q} t r e f) h =
    let b = h.threads t (whole.lookup m x p q) r in
    let value = (h.store k v f).1 in
    on_with g c t (with_term x v p) h (one_term g x (message_var x) v p refl value.ground value.over b.0.1 b.1.1)
ground_step {g} forms hold (ProcessStep.misses {c = c} {m = m} {k = k} {x = x} {p = p} {q = q} t r e f) h =
    let b = h.threads t (whole.lookup m x p q) r in on_with g c t q h (b.0.2, b.1.2)
ground_step {g} forms hold (ProcessStep.locks {c = c} {m = m} {k = k} {i = i} {p = p} t r e f) h =
    let b = h.threads t (act (action.lock m i) p) r in
    let w = on_with g c t p h (b.0.1, b.1.1) in
    record { threads = w.threads; frame = w.frame; store = w.store; facts = w.facts }
ground_step {g} forms hold (ProcessStep.unlocks {c = c} {m = m} {k = k} {i = i} {p = p} t r e) h =
    let b = h.threads t (act (action.unlock m i) p) r in
    let w = on_with g c t p h (b.0.1, b.1.1) in
    record { threads = w.threads; frame = w.frame; store = w.store; facts = w.facts }
ground_step {g} forms hold (ProcessStep.embeds {c = c} {l = l} {e = e} {r = k} {rest = rest} {p = p} t ks σ left acts right r f eq takes shows adds) h =
    let b = h.threads t (act (action.embedded l e k) p) r in
    let w = on_with g c t (with_choice σ (facts_vars (l ++ (e ++ k))) p) h (new_terms g σ (facts_vars (l ++ (e ++ k))) p f b.0.1 b.1.1) in
    record {
      threads = w.threads;
      frame = w.frame;
      store = w.store;
      facts = every-adds (HoldsMessages g) rest right (every-taken (HoldsMessages g) takes h.facts) (facts_hold g forms hold σ f k right (side_over g l e k b.1.0).1 adds);
    }
ground_step forms hold (ProcessStep.adversary_makes n u) h = record { threads = h.threads; frame = h.frame; store = h.store; facts = h.facts }
ground_step forms hold (ProcessStep.knows x can) h = h

nothing_left : (xs : List Var) → ((xs ≡ [] → ⊥) → ⊥) → xs ≡ []
nothing_left [] h = refl
nothing_left (x ∷ xs) h = absurd (h (λ e. cc))

pub well_ground : (g : Sig) (p : Proc) → IsWellFormed g p → IsGroundProcess p
well_ground g p fine s m =
    let r = where_stands (sites p) s m in
    nothing_left (unbound s.above.scope s.body) (λ flaw. fine Unbound r.0 (record { site = s; stands = r.1; flaw = flaw }))

ground_run : {g : Sig} {p : Proc} {c : Config} {tr : Trace} → FormsAreMessages → HoldsBuiltins g → IsGroundIn [] p → IsOverProcess g p → ProcessRun g (initial p) c tr → Good g c
ground_run {g} {p} forms hold ground over ProcessRun.starts = record { threads = start; frame = λ x m. absurd (member-none x m); store = λ k v e. absurd (cc); facts = λ t a e. cc }
  where
    start : (t : ℕ) (q : Proc) → slice_get (Some p ∷ []) t ≡ Some (Some q) → Thread g q
    start zero q e = let same : p ≡ q = cc in subst (Thread g) same (ground, over)
    start (suc t) q e = absurd (cc)
ground_run forms hold ground over (ProcessRun.further run step) = ground_step forms hold step (ground_run forms hold ground over run)

from_well : {g : Sig} {p : Proc} {c : Config} {tr : Trace} → FormsAreMessages → HoldsBuiltins g → IsWellFormed g p → ProcessRun g (initial p) c tr → Good g c
from_well {g} {p} forms hold fine run = ground_run forms hold (ground_in p (well_ground g p fine)) (well_over g p fine) run

number_of : (xs : Pile) (f : Fact) → Contains xs (Some f) → (k : ℕ) × (slice_get xs k ≡ Some (Some f))
number_of [] f m = absurd (member-none (Some f) m)
number_of (y ∷ xs) f m = elim (member-cases y xs (Some f) m) [
  | inl e ↦ (0, ap Some e)
  | inr k ↦ (let r = number_of xs f k in (suc r.0, r.1))
]

pub runs_keep : FormsAreMessages → (g : Sig) (p : Proc) (c : Config) (tr : Trace) → HoldsBuiltins g → IsWellFormed g p → ProcessRun g (initial p) c tr → IsGroundConfig g c
runs_keep forms g p c tr hold fine run =
    let w = from_well forms hold fine run in
    record { threads = λ t q r. in_ground q (w.threads t q r).0; frame = w.frame; store = w.store; facts = λ f m. (let k = number_of c.facts f m in w.facts k.0 f k.1) }

-- what can be deduced from messages is a message

args_ground : (g : Sig) (earlier ts : List Tree) → ((t : Tree) → Contains earlier t → IsMessage g Msg t) → All (Contains earlier) ts → AreGround (trees_of ts)
args_ground g earlier [] h a = tt
args_ground g earlier (t ∷ ts) h a = ((h t (a 0 t (omega arith))).ground, args_ground g earlier ts h (λ k d less. a (suc k) d (omega (arith, less))))

args_over : (g : Sig) (earlier ts : List Tree) → ((t : Tree) → Contains earlier t → IsMessage g Msg t) → All (Contains earlier) ts → AreOver g (trees_of ts)
args_over g earlier [] h a = tt
args_over g earlier (t ∷ ts) h a = ((h t (a 0 t (omega arith))).over, args_over g earlier ts h (λ k d less. a (suc k) d (omega (arith, less))))

public_message : (g : Sig) → FormsAreMessages → HoldsBuiltins g → (n : List ℕ) → IsNormalForm (equations g) (public n) (public n) → IsMessage g Msg (public n)
public_message g forms hold n f = forms g (public n) (public n) hold tt tt f

derived_message : (g : Sig) → FormsAreMessages → HoldsBuiltins g → (names : List ℕ) (frame earlier : List Tree) (t : Tree) → ((x : Tree) → Contains frame x → IsMessage g Msg x) → ((x : Tree) → Contains earlier x → IsMessage g Msg x) → IsDerived g names frame earlier t → IsMessage g Msg t
derived_message g forms hold names frame earlier t h k (IsDerived.a_public n e) = subst (IsMessage g Msg) (sym e) (public_message g forms hold n (own_form (equations g) n))
derived_message g forms hold names frame earlier t h k (IsDerived.a_name n m e) =
    subst (IsMessage g Msg) (sym e) (forms g (fresh n) (fresh n) hold tt tt (record { equal = IsTheoryEqual.same; normal = fresh_normal (equations g) n }))
derived_message g forms hold names frame earlier t h k (IsDerived.given m) = h t m
derived_message g forms hold names frame earlier t h k (IsDerived.applied f ts public_is arity all form) =
    forms g (apply f (trees_of ts)) t hold (args_ground g earlier ts k all) (arity ∙ ap (λ us. Some (length us)) (sym (list_of-trees_of ts)), args_over g earlier ts k all) form

derivation_messages : (g : Sig) → FormsAreMessages → HoldsBuiltins g → (names : List ℕ) (frame ts : List Tree) → ((x : Tree) → Contains frame x → IsMessage g Msg x) → IsDerivation g names frame ts → (t : Tree) → Contains ts t → IsMessage g Msg t
derivation_messages g forms hold names frame [] h d t m = absurd (member-none t m)
derivation_messages g forms hold names frame (u ∷ ts) h d t m =
    let later = derivation_messages g forms hold names frame ts h d.1 in
    elim (member-cases u ts t m) [ inl e ↦ subst (IsMessage g Msg) e (derived_message g forms hold names frame ts u h later d.0) | inr k ↦ later t k ]

given_message : {g : Sig} {c : Config} {x : Tree} → FormIsOne → FormsAreMessages → HoldsBuiltins g → Good g c → CanGive g c x → IsMessage g Msg x
given_message {g} {c} {x} one forms hold h can =
    let d = can.deducible in
    let form : IsMessage g Msg d.form = derivation_messages g forms hold c.own c.frame (d.form ∷ d.earlier) h.frame d.derivation d.form (member-head d.form d.earlier) in
    let self : IsNormalForm (equations g) x x = record { equal = IsTheoryEqual.same; normal = can.normal } in
    subst (IsMessage g Msg) (one (equations g) x d.form x d.is_form self) form

abbrev AllHold : Sig → List Fact → Type 0
AllHold g label = (f : Fact) → Contains label f → HoldsMessages g f

no_facts : (g : Sig) → AllHold g []
no_facts g f m = absurd (member-none f m)

known_fact : (g : Sig) (x : Tree) → IsMessage g Msg x → AllHold g (k_fact x ∷ [])
known_fact g x h f m = elim (member-cases (k_fact x) [] f m) [
  | inl e ↦ subst (HoldsMessages g) e (λ t n. elim (member-cases x [] t n) [ inl d ↦ subst (IsMessage g Msg) d h | inr not_there ↦ absurd (member-none t not_there) ])
  | inr not_there ↦ absurd (member-none f not_there)
]

label_messages : {g : Sig} {c d : Config} {label : List Fact} → FormIsOne → FormsAreMessages → HoldsBuiltins g → ProcessStep g c label d → Good g c → AllHold g label
label_messages {g} one forms hold (ProcessStep.outputs_on {k = k} t r f can e) h = known_fact g k (given_message one forms hold h can)
label_messages {g} one forms hold (ProcessStep.inputs {x = x} t σ r can f) h = known_fact g x (given_message one forms hold h can)
label_messages {g} one forms hold (ProcessStep.inputs_on {x = x} t σ r can f e) h = known_fact g x (given_message one forms hold h can)
label_messages {g} one forms hold (ProcessStep.shows {c = c} {f = f} {h = k} {p = p} t r e) h =
    let b = h.threads t (act (action.event f) p) r in
    λ j m. elim (member-cases k [] j m) [
      | inl d ↦ subst (HoldsMessages g) d (forms_hold g forms hold f.args k.args (used_ground f.args b.0.0) b.1.0 e.args)
      | inr not_there ↦ absurd (member-none j not_there)
    ]
label_messages {g} one forms hold (ProcessStep.embeds {l = l} {e = e} {r = k} {p = p} t ks σ left acts right r f eq takes shows adds) h =
    let b = h.threads t (act (action.embedded l e k) p) r in
    facts_hold g forms hold σ f e acts (side_over g l e k b.1.0).0 shows
label_messages {g} one forms hold (ProcessStep.knows x can) h = known_fact g x (given_message one forms hold h can)
label_messages {g} one forms hold (ProcessStep.ends t r) h = no_facts g
label_messages {g} one forms hold (ProcessStep.splits t r) h = no_facts g
label_messages {g} one forms hold (ProcessStep.copies t r) h = no_facts g
label_messages {g} one forms hold (ProcessStep.makes_name t n r u) h = no_facts g
label_messages {g} one forms hold (ProcessStep.outputs t r f) h = no_facts g
label_messages {g} one forms hold (ProcessStep.meets s t σ r two e f) h = no_facts g
label_messages {g} one forms hold (ProcessStep.agrees t r e) h = no_facts g
label_messages {g} one forms hold (ProcessStep.differs t r e) h = no_facts g
label_messages {g} one forms hold (ProcessStep.inserts t r e f) h = no_facts g
label_messages {g} one forms hold (ProcessStep.deletes t r e) h = no_facts g
label_messages {g} one forms hold (ProcessStep.finds t r e f) h = no_facts g
label_messages {g} one forms hold (ProcessStep.misses t r e f) h = no_facts g
label_messages {g} one forms hold (ProcessStep.locks t r e f) h = no_facts g
label_messages {g} one forms hold (ProcessStep.unlocks t r e) h = no_facts g
label_messages {g} one forms hold (ProcessStep.adversary_makes n u) h = no_facts g

pub labels_hold : FormIsOne → FormsAreMessages → (g : Sig) (p : Proc) (c d : Config) (tr : Trace) (label : List Fact) → HoldsBuiltins g → IsWellFormed g p → ProcessRun g (initial p) c tr → ProcessStep g c label d → AllHold g label
labels_hold one forms g p c d tr label hold fine run step = label_messages one forms hold step (from_well forms hold fine run)
