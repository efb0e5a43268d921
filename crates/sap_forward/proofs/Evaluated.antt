-- Which normal forms a rule evaluates.
use Rattle.std.proofs.Common.{List, [], ◌∷◌, ◌++◌, map}
use Rattle.std.specs.List.{flat_map}
use Rattle.sap_terms.specs.Choice.{Choice, instance, instances}
use Rattle.sap_terms.specs.Equations.{equations}
use Rattle.sap_terms.specs.Modulo.{instance_facts}
use Rattle.sap_terms.specs.Normal.{IsNormalForm}
use Rattle.sap_terms.specs.Signature.{Sig}
use Rattle.sap_terms.specs.Subterms.{SomeSubterm, SomeSubtermWithin, itself, below, here, later}
use Rattle.sap_terms.specs.Tree.{Tree, variable, public, fresh, apply, Trees, trees_of}
use Rattle.sap_terms.specs.Tree as tree
use Rattle.sap_terms.specs.Variables.{tree_vars, trees_vars, facts_vars}
use Rattle.sap_terms.specs.declared.fact.Fact.{Fact}
use Rattle.sap_terms.specs.declared.var.Var.{Var}
use Rattle.sap_process.specs.Heads.{facts_terms}
use Rattle.sap_rule.specs.declared.rule.Rule.{Rule}
use Rattle.sap_lines.specs.Lines.{EvaluateWithin}
use Rattle.sap_steps.specs.Lines.{IsEvaluated}
use Rattle.sap_translate.specs.Members.{Member}

-- each of these under the choice is evaluated within the limit
abbrev pub Evaluates : Sig → (Tree → Type 0) → Choice → List Tree → Type 0
Evaluates g W σ [] = Unit {0}
Evaluates g W σ (t ∷ ts) = EvaluateWithin g W (instance σ t ∷ []) × Evaluates g W σ ts

-- so are the arguments of each of these facts
abbrev pub FactsEvaluate : Sig → (Tree → Type 0) → Choice → List Fact → Type 0
FactsEvaluate g W σ [] = Unit {0}
FactsEvaluate g W σ (f ∷ fs) = Evaluates g W σ f.args × FactsEvaluate g W σ fs

args_within : (g : Sig) (W : Tree → Type 0) (σ : Choice) (n : Tree) (ts us : List Tree) → Evaluates g W σ ts → (SomeSubtermWithin (λ u. IsNormalForm (equations g) u n) (instances σ (trees_of us)) → W n) → SomeSubtermWithin (λ u. IsNormalForm (equations g) u n) (instances σ (trees_of (ts ++ us))) → W n
args_within g W σ n [] us h k s = k s
args_within g W σ n (t ∷ ts) us h k (here s) = h.0 n (here s)
args_within g W σ n (t ∷ ts) us h k (later s) = args_within g W σ n ts us h.1 k s

facts_within : (g : Sig) (W : Tree → Type 0) (σ : Choice) (n : Tree) (fs : List Fact) → FactsEvaluate g W σ fs → SomeSubtermWithin (λ u. IsNormalForm (equations g) u n) (instances σ (trees_of (flat_map (λ (f : Fact). f.args) fs))) → W n
facts_within g W σ n [] h s = elim s [ ]
facts_within g W σ n (f ∷ fs) h s = args_within g W σ n f.args (flat_map (λ (x : Fact). x.args) fs) h.0 (λ k. facts_within g W σ n fs h.1 k) s

pub facts_join : (g : Sig) (W : Tree → Type 0) (σ : Choice) (fs hs : List Fact) → FactsEvaluate g W σ fs → FactsEvaluate g W σ hs → FactsEvaluate g W σ (fs ++ hs)
facts_join g W σ [] hs h k = k
facts_join g W σ (f ∷ fs) hs h k = (h.0, facts_join g W σ fs hs h.1 k)

pub facts_left : (g : Sig) (W : Tree → Type 0) (σ : Choice) (fs hs : List Fact) → FactsEvaluate g W σ (fs ++ hs) → FactsEvaluate g W σ fs
facts_left g W σ [] hs h = tt
facts_left g W σ (f ∷ fs) hs h = (h.0, facts_left g W σ fs hs h.1)

pub facts_right : (g : Sig) (W : Tree → Type 0) (σ : Choice) (fs hs : List Fact) → FactsEvaluate g W σ (fs ++ hs) → FactsEvaluate g W σ hs
facts_right g W σ [] hs h = h
facts_right g W σ (f ∷ fs) hs h = facts_right g W σ fs hs h.1

-- so does a rule whose facts do
pub rule_within : (g : Sig) (W : Tree → Type 0) (σ : Choice) (r : Rule) → FactsEvaluate g W σ r.left → FactsEvaluate g W σ r.acts → FactsEvaluate g W σ r.right → (n : Tree) → IsEvaluated g r σ n → W n
rule_within g W σ r a b c n s = facts_within g W σ n (r.left ++ (r.acts ++ r.right)) (facts_join g W σ r.left (r.acts ++ r.right) a (facts_join g W σ r.acts r.right b c)) s

pub first_within : (g : Sig) (W : Tree → Type 0) (t : Tree) (ts : List Tree) → EvaluateWithin g W (t ∷ ts) → EvaluateWithin g W (t ∷ [])
first_within g W t ts h n (here s) = h n (here s)
first_within g W t ts h n (later s) = elim s [ ]

pub rest_within : (g : Sig) (W : Tree → Type 0) (t : Tree) (ts : List Tree) → EvaluateWithin g W (t ∷ ts) → EvaluateWithin g W ts
rest_within g W t ts h n s = h n (later s)

-- the normal form of the term itself
pub form_within : (g : Sig) (W : Tree → Type 0) (t n : Tree) (ts : List Tree) → EvaluateWithin g W (t ∷ ts) → IsNormalForm (equations g) t n → W n
form_within g W t n ts h f = h n (here (itself f))

pub all_within : (g : Sig) (W : Tree → Type 0) (σ : Choice) (ts : List Tree) → EvaluateWithin g W (map (instance σ) ts) → Evaluates g W σ ts
all_within g W σ [] h = tt
all_within g W σ (t ∷ ts) h = (first_within g W (instance σ t) (map (instance σ) ts) h, all_within g W σ ts (rest_within g W (instance σ t) (map (instance σ) ts) h))

split_front : {P : Tree → Type 0} (ts us : List Tree) → SomeSubtermWithin P (trees_of ts) → SomeSubtermWithin P (trees_of (ts ++ us))
split_front [] us s = elim s [ ]
split_front (t ∷ ts) us (here h) = here h
split_front (t ∷ ts) us (later s) = later (split_front ts us s)

split_back : {P : Tree → Type 0} (ts us : List Tree) → SomeSubtermWithin P (trees_of us) → SomeSubtermWithin P (trees_of (ts ++ us))
split_back [] us s = s
split_back (t ∷ ts) us s = later (split_back ts us s)

-- the terms of facts under a choice
pub terms_within : (g : Sig) (W : Tree → Type 0) (σ : Choice) (fs : List Fact) → EvaluateWithin g W (facts_terms (instance_facts σ fs)) → FactsEvaluate g W σ fs
terms_within g W σ [] h = tt
terms_within g W σ (f ∷ fs) h = (
  all_within g W σ f.args (λ n s. h n (split_front (map (instance σ) f.args) (facts_terms (instance_facts σ fs)) s)),
  terms_within g W σ fs (λ n s. h n (split_back (map (instance σ) f.args) (facts_terms (instance_facts σ fs)) s)),
)

-- variables that stand for terms within the limit
pub vars_within : (g : Sig) (W : Tree → Type 0) (σ : Choice) (v : List Var) → ((x : Var) → Member x v → EvaluateWithin g W (σ x ∷ [])) → Evaluates g W σ (map variable v)
vars_within g W σ [] h = tt
vars_within g W σ (x ∷ v) h = (h x Member.here, vars_within g W σ v (λ y m. h y (Member.later m)))

-- what a variable stands for is a part of the instance
pub data Side {A : Type 0} (x : A) (xs ys : List A) : Type 0 where
  left : Member x xs → Side x xs ys
  right : Member x ys → Side x xs ys

pub sides : {A : Type 0} {x : A} (xs ys : List A) → Member x (xs ++ ys) → Side x xs ys
sides [] ys m = right m
sides (y ∷ xs) ys Member.here = left Member.here
sides (y ∷ xs) ys (Member.later m) = elim (sides xs ys m) [ left h ↦ left (Member.later h) | right h ↦ right h ]

mutual
  part_of : {P : Tree → Type 0} (σ : Choice) (t : Tree) (x : Var) → Member x (tree_vars t) → SomeSubterm P (σ x) → SomeSubterm P (instance σ t)
  part_of σ (variable y) x Member.here s = s
  part_of σ (variable y) x (Member.later m) s = elim m [ ]
  part_of σ (public a) x m s = elim m [ ]
  part_of σ (fresh n) x m s = elim m [ ]
  part_of σ (apply f ts) x m s = below (part_among σ ts x m s)

  part_among : {P : Tree → Type 0} (σ : Choice) (ts : Trees) (x : Var) → Member x (trees_vars ts) → SomeSubterm P (σ x) → SomeSubtermWithin P (instances σ ts)
  part_among σ tree.none x m s = elim m [ ]
  part_among σ (tree.more t ts) x m s = elim (sides (tree_vars t) (trees_vars ts) m) [ left h ↦ here (part_of σ t x h s) | right h ↦ later (part_among σ ts x h s) ]

pub var_within : (g : Sig) (W : Tree → Type 0) (σ : Choice) (t : Tree) (x : Var) → Member x (tree_vars t) → EvaluateWithin g W (instance σ t ∷ []) → EvaluateWithin g W (σ x ∷ [])
var_within g W σ t x m h n (here s) = h n (here (part_of σ t x m s))
var_within g W σ t x m h n (later s) = elim s [ ]

args_var : (g : Sig) (W : Tree → Type 0) (σ : Choice) (ts : List Tree) (x : Var) → Member x (trees_vars (trees_of ts)) → Evaluates g W σ ts → EvaluateWithin g W (σ x ∷ [])
args_var g W σ [] x m h = elim m [ ]
args_var g W σ (t ∷ ts) x m h = elim (sides (tree_vars t) (trees_vars (trees_of ts)) m) [ left k ↦ var_within g W σ t x k h.0 | right k ↦ args_var g W σ ts x k h.1 ]

-- the same for a variable of facts
pub facts_var : (g : Sig) (W : Tree → Type 0) (σ : Choice) (fs : List Fact) (x : Var) → Member x (facts_vars fs) → FactsEvaluate g W σ fs → EvaluateWithin g W (σ x ∷ [])
facts_var g W σ [] x m h = elim m [ ]
facts_var g W σ (f ∷ fs) x m h = elim (sides (trees_vars (trees_of f.args)) (facts_vars fs) m) [ left k ↦ args_var g W σ f.args x k h.0 | right k ↦ facts_var g W σ fs x k h.1 ]
