-- Terms under two choices that agree, and what rules evaluate.
use Rattle.std.proofs.Common.{◌≡◌, ℕ, suc, List, [], ◌∷◌, ◌++◌, refl, ap, map, arith, true, false}
use Rattle.std.specs.List.{AllZip, flat_map}
use Rattle.std.specs.Prelude.{Contains}
use Rattle.sap_terms.specs.Choice.{Choice, instance, instances}
use Rattle.sap_terms.specs.AdversaryFacts.{linear}
use Rattle.sap_terms.specs.Equal.{IsTheoryEqual}
use Rattle.sap_terms.specs.Equations.{Equations}
use Rattle.sap_terms.specs.Message.{IsMessage}
use Rattle.sap_terms.specs.Modulo.{instance_facts, AreFormsOfFacts}
use Rattle.sap_terms.specs.Normal.{IsNormal, IsNormalForm}
use Rattle.sap_terms.specs.Signature.{Sig}
use Rattle.sap_terms.specs.Subterms.{SomeSubtermWithin, here, later}
use Rattle.sap_terms.specs.Tree.{Tree, variable, public, fresh, apply, Trees, trees_of}
use Rattle.sap_terms.specs.Tree as tree
use Rattle.sap_terms.specs.declared.fact.Fact.{Fact}
use Rattle.sap_terms.specs.declared.var.Sort.TheVariants.{Fresh as FreshSort}
use Rattle.sap_terms.specs.declared.var.Var.{Var}
use Rattle.sap_rewrite.specs.Laws.{FormsDecide}
use Rattle.sap_rule.specs.declared.rule.Rule.{Rule}
use Rattle.sap_process.specs.Heads.{facts_terms}
use Rattle.sap_lines.specs.Lines.{EvaluateWithin}
use Rattle.sap_steps.specs.Lines.{IsEvaluated, rule_terms}
use Rattle.sap_translate.specs.Members.{Member}
use Rattle.sap_translate.specs.Scoped.{Within, EachWithin, AllWithin, FactsWithin}
use Rattle.sap_translate.proofs.Shared.Facts.{made}
use Rattle.sap_translate.proofs.Shared.Lookups.{member_left, member_right}

pub contains : {A : Type 0} {x : A} {xs : List A} → Member x xs → Contains xs x
contains {x = x} Member.here = (0, omega arith, refl)
contains {x = x} (Member.later m) = let h = contains m in (suc h.0, omega arith, h.2)

-- what holds of the first, and of each later member, holds of each
pub first_or : {A : Type 0} {x y : A} {xs : List A} (P : A → Type 0) → P y → (Member x xs → P x) → Member x (y ∷ xs) → P x
first_or P h more Member.here = h
first_or P h more (Member.later m) = more m

-- both choices say the same of these
abbrev pub SameOn : List Var → Choice → Choice → Type 0
SameOn v σ τ = (x : Var) → Member x v → σ x ≡ τ x

mutual
  pub same_term : (v : List Var) (σ τ : Choice) (t : Tree) → SameOn v σ τ → Within v t → instance σ t ≡ instance τ t
  same_term v σ τ (variable x) h w = h x w
  same_term v σ τ (public a) h w = refl
  same_term v σ τ (fresh n) h w = refl
  same_term v σ τ (apply f ts) h w = ap (λ us. apply f us) (same_terms v σ τ ts h w)

  same_terms : (v : List Var) (σ τ : Choice) (ts : Trees) → SameOn v σ τ → EachWithin v ts → instances σ ts ≡ instances τ ts
  same_terms v σ τ tree.none h w = refl
  same_terms v σ τ (tree.more t ts) h w = λ i. tree.more (same_term v σ τ t h w.0 i) (same_terms v σ τ ts h w.1 i)

pub same_args : (v : List Var) (σ τ : Choice) (ts : List Tree) → SameOn v σ τ → AllWithin v ts → map (instance σ) ts ≡ map (instance τ) ts
same_args v σ τ [] h w = refl
same_args v σ τ (t ∷ ts) h w = λ i. same_term v σ τ t h w.0 i ∷ same_args v σ τ ts h w.1 i

pub same_facts : (v : List Var) (σ τ : Choice) (fs : List Fact) → SameOn v σ τ → FactsWithin v fs → instance_facts σ fs ≡ instance_facts τ fs
same_facts v σ τ [] h w = refl
same_facts v σ τ (f ∷ fs) h w = λ i. record { name = f.name; persistent = f.persistent; args = same_args v σ τ f.args h w.0 i } ∷ same_facts v σ τ fs h w.1 i

-- normal terms that are theory-equal are the same
pub normal_same : (decide : FormsDecide) (e : Equations) (t u : Tree) → IsNormal e t → IsNormal e u → IsTheoryEqual e t u → t ≡ u
normal_same decide e t u a b h = (decide e t u t u (record { equal = IsTheoryEqual.same; normal = a }) (record { equal = IsTheoryEqual.same; normal = b })).0 h

-- so are lists of them, one by one
pub variables_same : (decide : FormsDecide) (e : Equations) (v : List Var) (σ τ : Choice) → ((x : Var) → IsNormal e (σ x)) → ((x : Var) → Member x v → IsNormal e (τ x)) → AllZip (IsTheoryEqual e) (map (instance σ) (map variable v)) (map τ v) → SameOn v σ τ
variables_same decide e [] σ τ a b h x m = elim m [ ]
variables_same decide e (y ∷ v) σ τ a b h x m = first_or (λ z. σ z ≡ τ z) (normal_same decide e (σ y) (τ y) (a y) (b y Member.here) h.0) (λ k. variables_same decide e v σ τ a (λ z l. b z (Member.later l)) h.1 x k) m

-- a message of the sort of names is a name
pub a_name : (g : Sig) (t : Tree) → IsMessage g FreshSort t → (n : ℕ) × (t ≡ fresh n)
a_name g (variable v) h = absurd (let z : false ≡ true = h.sorted in cc)
a_name g (public a) h = absurd (let z : false ≡ true = h.sorted in cc)
a_name g (fresh n) h = (n, refl)
a_name g (apply f ts) h = absurd (let z : false ≡ true = h.sorted in cc)

-- the one normal form of a fact with one argument
pub record OneForm (e : Equations) (name : List ℕ) (t : Tree) (acts : List Fact) : Type 0 where
  pub form : Tree
  pub is : acts ≡ linear name (form ∷ []) ∷ []
  pub is_form : IsNormalForm e t form

pub one_form_of : (e : Equations) (name : List ℕ) (t : Tree) (acts : List Fact) → AreFormsOfFacts e (linear name (t ∷ []) ∷ []) acts → OneForm e name t acts
one_form_of e name t [] h = absurd h
one_form_of e name t (f ∷ []) h = by f.args refl h.0.args
  where
    by : (ts : List Tree) → f.args ≡ ts → AllZip (IsNormalForm e) (t ∷ []) ts → OneForm e name t (f ∷ [])
    by [] a k = absurd k
    by (x ∷ []) a k = record { form = x; is = ap (λ z. z ∷ []) (made f.name name f.persistent false f.args (x ∷ []) h.0.name h.0.persistent a); is_form = k.0 }
    by (x ∷ y ∷ ts) a k = absurd k.1
one_form_of e name t (f ∷ g ∷ fs) h = absurd h.1

-- of a fact with two
pub record TwoForms (e : Equations) (name : List ℕ) (t u : Tree) (acts : List Fact) : Type 0 where
  pub first : Tree
  pub second : Tree
  pub is : acts ≡ linear name (first ∷ second ∷ []) ∷ []
  pub first_form : IsNormalForm e t first
  pub second_form : IsNormalForm e u second

pub two_forms_of : (e : Equations) (name : List ℕ) (t u : Tree) (acts : List Fact) → AreFormsOfFacts e (linear name (t ∷ u ∷ []) ∷ []) acts → TwoForms e name t u acts
two_forms_of e name t u [] h = absurd h
two_forms_of e name t u (f ∷ []) h = by f.args refl h.0.args
  where
    by : (ts : List Tree) → f.args ≡ ts → AllZip (IsNormalForm e) (t ∷ u ∷ []) ts → TwoForms e name t u (f ∷ [])
    by [] a k = absurd k
    by (x ∷ []) a k = absurd k.1
    by (x ∷ y ∷ []) a k = record { first = x; second = y; is = ap (λ z. z ∷ []) (made f.name name f.persistent false f.args (x ∷ y ∷ []) h.0.name h.0.persistent a); first_form = k.0; second_form = k.1.0 }
    by (x ∷ y ∷ z ∷ ts) a k = absurd k.1.1
two_forms_of e name t u (f ∷ g ∷ fs) h = absurd h.1

pub no_acts : (e : Equations) (acts : List Fact) → AreFormsOfFacts e [] acts → acts ≡ []
no_acts e [] h = refl
no_acts e (f ∷ fs) h = absurd h

-- a term of a rule is evaluated
among : {P : Tree → Type 0} (σ : Choice) (t : Tree) (ts : List Tree) → Member t ts → SomeSubtermWithin P (trees_of (instance σ t ∷ [])) → SomeSubtermWithin P (instances σ (trees_of ts))
among {P = P} σ t [] m s = elim m [ ]
among σ t (u ∷ ts) Member.here (here s) = here s
among σ t (u ∷ ts) Member.here (later s) = elim s [ ]
among σ t (u ∷ ts) (Member.later m) s = later (among σ t ts m s)

pub rule_term_within : (g : Sig) (W : Tree → Type 0) (σ : Choice) (r : Rule) (t : Tree) → ((n : Tree) → IsEvaluated g r σ n → W n) → Member t (rule_terms r) → EvaluateWithin g W (instance σ t ∷ [])
rule_term_within g W σ r t h m n s = h n (among σ t (rule_terms r) m s)

pub within_join : (g : Sig) (W : Tree → Type 0) (t : Tree) (ts : List Tree) → EvaluateWithin g W (t ∷ []) → EvaluateWithin g W ts → EvaluateWithin g W (t ∷ ts)
within_join g W t ts h k n (here s) = h n (here s)
within_join g W t ts h k n (later s) = k n s

pub within_none : (g : Sig) (W : Tree → Type 0) → EvaluateWithin g W []
within_none g W n s = elim s [ ]

pub within_each : (g : Sig) (W : Tree → Type 0) (σ : Choice) (ts : List Tree) → ((t : Tree) → Member t ts → EvaluateWithin g W (instance σ t ∷ [])) → EvaluateWithin g W (map (instance σ) ts)
within_each g W σ [] h = within_none g W
within_each g W σ (t ∷ ts) h = within_join g W (instance σ t) (map (instance σ) ts) (h t Member.here) (within_each g W σ ts (λ u m. h u (Member.later m)))

pub within_both : (g : Sig) (W : Tree → Type 0) (ts us : List Tree) → EvaluateWithin g W ts → EvaluateWithin g W us → EvaluateWithin g W (ts ++ us)
within_both g W [] us h k = k
within_both g W (t ∷ ts) us h k = within_join g W t (ts ++ us) (first h) (within_both g W ts us (λ n s. h n (later s)) k)
  where
    first : EvaluateWithin g W (t ∷ ts) → EvaluateWithin g W (t ∷ [])
    first a n (here s) = a n (here s)
    first a n (later s) = elim s [ ]

pub facts_within : (g : Sig) (W : Tree → Type 0) (σ : Choice) (fs : List Fact) → ((f : Fact) (t : Tree) → Member f fs → Member t f.args → EvaluateWithin g W (instance σ t ∷ [])) → EvaluateWithin g W (facts_terms (instance_facts σ fs))
facts_within g W σ [] h = within_none g W
facts_within g W σ (f ∷ fs) h = within_both g W (map (instance σ) f.args) (facts_terms (instance_facts σ fs)) (within_each g W σ f.args (λ t m. h f t Member.here m)) (facts_within g W σ fs (λ k t m n. h k t (Member.later m) n))

-- a term of a fact of the rule is one of the rule
pub of_fact : (f : Fact) (t : Tree) (fs : List Fact) → Member f fs → Member t f.args → Member t (flat_map (λ (x : Fact). x.args) fs)
of_fact f t [] m n = elim m [ ]
of_fact f t (g ∷ fs) m n = first_or (λ z. Member t z.args → Member t (g.args ++ flat_map (λ (x : Fact). x.args) fs)) (λ k. member_left (flat_map (λ (x : Fact). x.args) fs) k) (λ k l. member_right g.args (of_fact f t fs k l)) m n

pub rule_fact : (r : Rule) (f : Fact) (t : Tree) → Member f (r.left ++ (r.acts ++ r.right)) → Member t f.args → Member t (rule_terms r)
rule_fact r f t m n = of_fact f t (r.left ++ (r.acts ++ r.right)) m n
