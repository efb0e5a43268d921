-- Choices that are one on a rule's variables make one instance of it, and one use.
use Rattle.std.proofs.Common.{append_assoc, ◌≡◌, ℕ, List, [], ◌∷◌, ◌++◌, map, Some, Bool, true, false, inl, inr, refl, sym, ap, subst, ◌∙◌, if◌then◌else◌}
use Rattle.std.specs.Prelude.{All, Contains}
use Rattle.std.specs.List.{AllZip, flat_map}
use Rattle.std.specs.Str.{bytes_eq}
use Rattle.std.proofs.lemmas.List.Elements.{All-head, All-tail}
use Rattle.std.proofs.lemmas.Option.{same_Some}
use Rattle.sap_terms.specs.Choice.{Choice}
use Rattle.sap_terms.specs.Equations.{Equations, equations}
use Rattle.sap_terms.specs.Modulo.{instance_facts, IsFormOfFact, AreFormsOfFacts}
use Rattle.sap_terms.specs.Normal.{IsNormalForm}
use Rattle.sap_terms.specs.Signature.{Sig}
use Rattle.sap_terms.specs.Tree.{Tree, trees_of}
use Rattle.sap_terms.specs.Variables.{facts_vars, is_known, new_vars, trees_vars, tree_vars}
use Rattle.sap_terms.specs.declared.binding.Binding.{Binding}
use Rattle.sap_terms.specs.declared.fact.Fact.{Fact}
use Rattle.sap_terms.specs.declared.var.Var.{Var}
use Rattle.sap_terms.proofs.PlainLaws.Choices.{Agree, agree_left, agree_right, facts_agree, trees_agree}
use Rattle.sap_terms.proofs.PlainLaws.Items.{none_contained, cons_cases, first_item, later_item}
use Rattle.sap_terms.proofs.PlainLaws.Names.{first_named}
use Rattle.sap_rewrite.specs.Large.{SomeSubtermWithin}
use Rattle.sap_rewrite.specs.Laws.{FormIsOne}
use Rattle.sap_rewrite.specs.Match.{Agrees, HaveOneSort, bound_vars}
use Rattle.sap_rule.specs.Named.{rule_named}
use Rattle.sap_rule.specs.Variables.{rule_vars}
use Rattle.sap_rule.specs.declared.rule.Rule.{Rule}
use Rattle.sap_steps.specs.Lines.{IsEvaluated, rule_terms}
use Rattle.sap_attacks.specs.Settling.{Use}
use Rattle.sap_attacks.specs.SilentUses.{IsInstance, use_of, variables_of}

-- first occurrences are occurrences
new_within : (known : List (List ℕ)) (vs : List Var) (v : Var) → Contains (new_vars known vs) v → Contains vs v
new_within known [] v c = c
new_within known (x ∷ xs) v c = go (is_known known x.name) (new_within known xs v) (new_within (known ++ x.name ∷ []) xs v) c where
  go : (b : Bool) → (Contains (new_vars known xs) v → Contains xs v) → (Contains (new_vars (known ++ x.name ∷ []) xs) v → Contains xs v)
      → Contains (if b then new_vars known xs else x ∷ new_vars (known ++ x.name ∷ []) xs) v → Contains (x ∷ xs) v
  go true h k c = later_item x xs v (h c)
  go false h k c = elim (cons_cases x (new_vars (known ++ x.name ∷ []) xs) v c) [
    | inl e ↦ subst (λ u. Contains (x ∷ xs) u) e (first_item x xs)
    | inr d ↦ later_item x xs v (k d)
  ]

map_same : (σ τ : Choice) (vs : List Var) → map σ vs ≡ map τ vs → Agree σ τ vs
map_same σ τ [] e v c = absurd (none_contained c)
map_same σ τ (x ∷ xs) e v c =
    let here : σ x ≡ τ x = cc in
    let more : map σ xs ≡ map τ xs = cc in
    elim (cons_cases x xs v c) [ inl is ↦ subst (λ u. σ u ≡ τ u) is here | inr d ↦ map_same σ τ xs more v d ]

same_map : (σ τ : Choice) (vs : List Var) → Agree σ τ vs → map σ vs ≡ map τ vs
same_map σ τ [] a = refl
same_map σ τ (x ∷ xs) a =
    let here = a x (first_item x xs) in
    let more = same_map σ τ xs (λ v c. a v (later_item x xs v c)) in
    λ i. here i ∷ more i

-- choices of one use are one on the variables that it tells
pub use_agrees : (r : Rule) (σ τ : Choice) → use_of r σ ≡ use_of r τ → Agree σ τ (variables_of r)
use_agrees r σ τ e = map_same σ τ (variables_of r) (ap (λ (u : Use). u.terms) e)

pub agree_use : (r : Rule) (σ τ : Choice) → Agree σ τ (variables_of r) → use_of r σ ≡ use_of r τ
agree_use r σ τ a = ap (λ ts. record { name = r.name; terms = ts }) (same_map σ τ (variables_of r) a)

-- and where no name stands with two sorts, on all
pub agree_all : (r : Rule) (σ τ : Choice) → HaveOneSort (rule_vars r) → Agree σ τ (variables_of r) → Agree σ τ (rule_vars r)
agree_all r σ τ sorts a v c = elim (first_named [] (rule_vars r) v c) [
  | inl never ↦ absurd (cc)
  | inr w ↦ subst (λ u. σ u ≡ τ u) (sorts w.0 v w.2 c w.3) (a w.0 w.1)
]

pub all_agree : (r : Rule) (σ τ : Choice) → Agree σ τ (rule_vars r) → Agree σ τ (variables_of r)
all_agree r σ τ a v c = a v (new_within [] (rule_vars r) v c)

-- bindings are of one choice on what they bind
pub bound_agree : (b : List Binding) (σ τ : Choice) → Agrees b σ → Agrees b τ → Agree σ τ (bound_vars b)
bound_agree [] σ τ a c v m = absurd (none_contained m)
bound_agree (x ∷ xs) σ τ a c v m = elim (cons_cases x.var (bound_vars xs) v m) [
  | inl is ↦ subst (λ u. σ u ≡ τ u) is (a.0 ∙ sym c.0)
  | inr d ↦ bound_agree xs σ τ a.1 c.1 v d
]

-- facts have one normal form
args_one : FormIsOne → (e : Equations) (ts ms ns : List Tree) → AllZip (IsNormalForm e) ts ms → AllZip (IsNormalForm e) ts ns → ms ≡ ns
args_one one e [] [] [] a b = refl
args_one one e [] [] (n ∷ ns) a b = absurd b
args_one one e [] (m ∷ ms) ns a b = absurd a
args_one one e (t ∷ ts) [] ns a b = absurd a
args_one one e (t ∷ ts) (m ∷ ms) [] a b = absurd b
args_one one e (t ∷ ts) (m ∷ ms) (n ∷ ns) a b =
    let x = one e t m n a.0 b.0 in
    let y = args_one one e ts ms ns a.1 b.1 in
    λ i. x i ∷ y i

fact_one : FormIsOne → (e : Equations) (f h k : Fact) → IsFormOfFact e f h → IsFormOfFact e f k → h ≡ k
fact_one one e f h k a b =
    let names : h.name ≡ k.name = a.name ∙ sym b.name in
    let lasting : h.persistent ≡ k.persistent = a.persistent ∙ sym b.persistent in
    let args = args_one one e f.args h.args k.args a.args b.args in
    λ i. record { name = names i; persistent = lasting i; args = args i }

pub forms_one : FormIsOne → (e : Equations) (fs hs ks : List Fact) → AreFormsOfFacts e fs hs → AreFormsOfFacts e fs ks → hs ≡ ks
forms_one one e [] [] [] a b = refl
forms_one one e [] [] (k ∷ ks) a b = absurd b
forms_one one e [] (h ∷ hs) ks a b = absurd a
forms_one one e (f ∷ fs) [] ks a b = absurd a
forms_one one e (f ∷ fs) (h ∷ hs) [] a b = absurd b
forms_one one e (f ∷ fs) (h ∷ hs) (k ∷ ks) a b =
    let x = fact_one one e f h k a.0 b.0 in
    let y = forms_one one e fs hs ks a.1 b.1 in
    λ i. x i ∷ y i

-- what a choice makes of a rule
pub record AreOneInstance (left more acts others right added : List Fact) : Type 0 where
  pub left_is : left ≡ more
  pub acts_is : acts ≡ others
  pub right_is : right ≡ added

pub instance_one : FormIsOne → (g : Sig) (r : Rule) (σ τ : Choice) (l m a o k d : List Fact) → Agree σ τ (rule_vars r) → IsInstance g r σ l a k
    → IsInstance g r τ m o d → AreOneInstance l m a o k d
instance_one one g r σ τ l m a o k d h x y =
    let lefts = agree_left σ τ (facts_vars r.left) (facts_vars r.acts ++ facts_vars r.right) h in
    let others = agree_right σ τ (facts_vars r.left) (facts_vars r.acts ++ facts_vars r.right) h in
    let at : (fs hs ks : List Fact) → Agree σ τ (facts_vars fs) → AreFormsOfFacts (equations g) (instance_facts σ fs) hs
    → AreFormsOfFacts (equations g) (instance_facts τ fs) ks → hs ≡ ks =
    λ fs hs ks c p q. forms_one one (equations g) (instance_facts τ fs) hs ks (subst (λ zs. AreFormsOfFacts (equations g) zs hs) (facts_agree σ τ fs c) p) q in
    record {
      left_is = at r.left l m lefts x.takes y.takes;
      acts_is = at r.acts a o (agree_left σ τ (facts_vars r.acts) (facts_vars r.right) others) x.shows y.shows;
      right_is = at r.right k d (agree_right σ τ (facts_vars r.acts) (facts_vars r.right) others) x.adds y.adds;
    }

append_trees_vars : (ts us : List Tree) → trees_vars (trees_of (ts ++ us)) ≡ trees_vars (trees_of ts) ++ trees_vars (trees_of us)
append_trees_vars [] us = refl
append_trees_vars (t ∷ ts) us =
    ap (λ vs. tree_vars t ++ vs) (append_trees_vars ts us) ∙ sym (append_assoc (tree_vars t) (trees_vars (trees_of ts)) (trees_vars (trees_of us)))

append_facts_vars : (fs hs : List Fact) → facts_vars (fs ++ hs) ≡ facts_vars fs ++ facts_vars hs
append_facts_vars [] hs = refl
append_facts_vars (f ∷ fs) hs =
    ap (λ vs. trees_vars (trees_of f.args) ++ vs) (append_facts_vars fs hs) ∙ sym (append_assoc (trees_vars (trees_of f.args)) (facts_vars fs) (facts_vars hs))

terms_vars : (fs : List Fact) → trees_vars (trees_of (flat_map (λ (f : Fact). f.args) fs)) ≡ facts_vars fs
terms_vars [] = refl
terms_vars (f ∷ fs) = append_trees_vars f.args (flat_map (λ (f : Fact). f.args) fs) ∙ ap (λ vs. trees_vars (trees_of f.args) ++ vs) (terms_vars fs)

-- what it evaluates
pub evaluated_one : (g : Sig) (r : Rule) (σ τ : Choice) (n : Tree) → Agree σ τ (rule_vars r) → IsEvaluated g r σ n → IsEvaluated g r τ n
evaluated_one g r σ τ n h e =
    let vars : trees_vars (trees_of (rule_terms r)) ≡ rule_vars r =
    terms_vars (r.left ++ (r.acts ++ r.right)) ∙ append_facts_vars r.left (r.acts ++ r.right) ∙ ap (λ vs. facts_vars r.left ++ vs) (append_facts_vars r.acts r.right) in
    let same = trees_agree σ τ (trees_of (rule_terms r)) (λ v c. h v (subst (λ vs. Contains vs v) vars c)) in
    subst (λ ts. SomeSubtermWithin (λ u. IsNormalForm (equations g) u n) ts) same e

-- what holds of rules holds of the one that a name finds
pub named_has : (P : Rule → Type 0) (rules : List Rule) (name : List ℕ) (r : Rule) → All P rules → rule_named rules name ≡ Some r → P r
named_has P [] name r a e = cc
named_has P (q ∷ qs) name r a e = go (bytes_eq q.name name) (named_has P qs name r (All-tail P q qs a)) e where
  go : (b : Bool) → (rule_named qs name ≡ Some r → P r) → (if b then Some q else rule_named qs name) ≡ Some r → P r
  go true h e = subst P (same_Some q r e) (All-head P q qs a)
  go false h e = h e
