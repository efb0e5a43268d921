-- What short rules keep of rules.
use Rattle.std.proofs.Common.{◌≡◌, ℕ, List, [], ◌∷◌, ◌++◌, Some, map, refl, sym, ap, subst, ◌∙◌, ◌⊎◌, inl, inr}
use Rattle.std.proofs.lemmas.Option.{same_Some}
use Rattle.std.specs.Prelude.{All, Contains}
use Rattle.std.proofs.lemmas.List.Elements.{All-nil, All-cons, All-head, All-tail, All-append, All-contains, All-contains_itself, Contains-append_cases, Contains-append_left, Contains-append_right}
use Rattle.sap_terms.specs.Signature.{Sig}
use Rattle.sap_terms.specs.Tree.{Tree, variable, public, fresh, apply, Trees, none, more, trees_of}
use Rattle.sap_terms.specs.Variables.{facts_vars, tree_vars, trees_vars}
use Rattle.sap_terms.specs.declared.fact.Fact.{Fact}
use Rattle.sap_terms.specs.declared.var.Var.{Var}
use Rattle.sap_terms.specs.Message.{IsFactOver}
use Rattle.sap_process.specs.Action.{out}
use Rattle.sap_process.specs.Places.{place}
use Rattle.sap_process.specs.Proc.{Proc, nil, parallel, replicated, act}
use Rattle.sap_rewrite.specs.Match.{HaveOneSort}
use Rattle.sap_rule.specs.Variables.{rule_vars}
use Rattle.sap_rule.specs.WellMade.{IsRightFact, IsRuleOver, IsWellShaped}
use Rattle.sap_rule.specs.declared.rule.Rule.{Rule}
use Rattle.sap_translate.specs.Members.{Member, here, later}
use Rattle.sap_templates.specs.Places.{root, scoped_place_at}
use Rattle.sap_translate.specs.Scoped.{AllWithin, FactsWithin, Within, EachWithin}
use Rattle.sap_translate.specs.Sound.{SoundPlaces}
use Rattle.sap_templates.specs.Templates.{nil_rule, out_rule, parallel_rule, rep_start_rule, state}
use Rattle.sap_gen.specs.Settled.{IsSettled, nothing_left, stays, goes_on}
use Rattle.sap_gen.specs.Short.{AreShort, no_rules, drops, keeps}
use Rattle.sap_gen.specs.Silent.{silent_rule, IsSilentRule}
use Rattle.sap_gen.proofs.Places.Settling.{own_vars, silent_left}

-- what is so of facts is so of what they settle to, where each silent rule hands it on
pub settled_all : {Q : Rule → Type 0} (P : Fact → Type 0) → ((q : Rule) (f : Fact) → Q q → q.left ≡ f ∷ [] → P f → All P q.right) → {fs hs : List Fact} → IsSettled Q fs hs → All P fs → All P hs
settled_all P on nothing_left a = a
settled_all P on (stays {fs} {hs} f u s) a = All-cons P f hs (All-head P f fs a) (settled_all P on s (All-tail P f fs a))
settled_all P on (goes_on {fs} {hs} f q x l s) a = settled_all P on s (All-append P q.right fs (on q f x l (All-head P f fs a)) (All-tail P f fs a))

-- what is so of rules, and stays so where right sides settle, is so of the short ones
pub short_all : {p : Proc} (R : Rule → Type 0) → ((r : Rule) (right : List Fact) → R r → IsSettled (IsSilentRule p) r.right right → R (record r { right = right })) → {rs ss : List Rule}
    → AreShort p rs ss → All R rs → All R ss
short_all R on no_rules a = a
short_all R on (drops {r} {rs} {ss} x h) a = short_all R on h (All-tail R r rs a)
short_all R on (keeps {r} {rs} {ss} {right} n s h) a = All-cons R (record r { right = right }) ss (on r right (All-head R r rs a) s) (short_all R on h (All-tail R r rs a))

-- variables among these

abbrev Among : List Var → Fact → Type 0
Among vs f = All (Contains vs) (trees_vars (trees_of f.args))

facts_among : (vs : List Var) (fs : List Fact) → All (Contains vs) (facts_vars fs) → All (Among vs) fs
facts_among vs [] a = All-nil (Among vs)
facts_among vs (f ∷ fs) a = All-cons (Among vs) f fs (first_part (trees_vars (trees_of f.args)) (facts_vars fs) a) (facts_among vs fs (second_part (trees_vars (trees_of f.args)) (facts_vars fs) a))
  where
    first_part : (xs ys : List Var) → All (Contains vs) (xs ++ ys) → All (Contains vs) xs
    first_part [] ys a = All-nil (Contains vs)
    first_part (x ∷ xs) ys a = All-cons (Contains vs) x xs (All-head (Contains vs) x (xs ++ ys) a) (first_part xs ys (All-tail (Contains vs) x (xs ++ ys) a))

    second_part : (xs ys : List Var) → All (Contains vs) (xs ++ ys) → All (Contains vs) ys
    second_part [] ys a = a
    second_part (x ∷ xs) ys a = second_part xs ys (All-tail (Contains vs) x (xs ++ ys) a)

among_facts : (vs : List Var) (fs : List Fact) → All (Among vs) fs → All (Contains vs) (facts_vars fs)
among_facts vs [] a = All-nil (Contains vs)
among_facts vs (f ∷ fs) a = All-append (Contains vs) (trees_vars (trees_of f.args)) (facts_vars fs) (All-head (Among vs) f fs a) (among_facts vs fs (All-tail (Among vs) f fs a))

member_among : (vs : List Var) {x : Var} {v : List Var} → All (Contains vs) v → Member x v → Contains vs x
member_among vs {x} a (here {xs}) = All-head (Contains vs) x xs a
member_among vs a (later {y} {xs} m) = member_among vs (All-tail (Contains vs) y xs a) m

mutual
  within_among : (vs v : List Var) → All (Contains vs) v → (t : Tree) → Within v t → All (Contains vs) (tree_vars t)
  within_among vs v a (variable x) w = All-cons (Contains vs) x [] (member_among vs a w) (All-nil (Contains vs))
  within_among vs v a (public n) w = All-nil (Contains vs)
  within_among vs v a (fresh k) w = All-nil (Contains vs)
  within_among vs v a (apply f ts) w = each_among vs v a ts w

  each_among : (vs v : List Var) → All (Contains vs) v → (ts : Trees) → EachWithin v ts → All (Contains vs) (trees_vars ts)
  each_among vs v a none w = All-nil (Contains vs)
  each_among vs v a (more t ts) w = All-append (Contains vs) (tree_vars t) (trees_vars ts) (within_among vs v a t w.0) (each_among vs v a ts w.1)

args_among : (vs v : List Var) → All (Contains vs) v → (ts : List Tree) → AllWithin v ts → All (Contains vs) (trees_vars (trees_of ts))
args_among vs v a [] w = All-nil (Contains vs)
args_among vs v a (t ∷ ts) w = All-append (Contains vs) (tree_vars t) (trees_vars (trees_of ts)) (within_among vs v a t w.0) (args_among vs v a ts w.1)

facts_within : (vs v : List Var) → All (Contains vs) v → (fs : List Fact) → FactsWithin v fs → All (Among vs) fs
facts_within vs v a [] w = All-nil (Among vs)
facts_within vs v a (f ∷ fs) w = All-cons (Among vs) f fs (args_among vs v a f.args w.0) (facts_within vs v a fs w.1)

-- the variables of a state fact are those in scope
own_args : (v : List Var) → trees_vars (trees_of (map variable v)) ≡ v
own_args [] = refl
own_args (x ∷ v) = ap (λ zs. x ∷ zs) (own_args v)

module _ (g : Sig) (p : Proc) (sound : SoundPlaces g p) where
  -- what a silent rule adds has only variables in scope
  right_within : (path : List ℕ) (v : List Var) (b : Proc) (q : Rule) → scoped_place_at (root p) path ≡ Some (place path v b) → silent_rule path v b ≡ Some q → FactsWithin v q.right
  right_within path v nil q at e = subst (λ (r : Rule). FactsWithin v r.right) (same_Some (nil_rule path v) q e) tt
  right_within path v (parallel a b) q at e = subst (λ (r : Rule). FactsWithin v r.right) (same_Some (parallel_rule path v) q e) (own_vars v, (own_vars v, tt))
  right_within path v (replicated a) q at e = subst (λ (r : Rule). FactsWithin v r.right) (same_Some (rep_start_rule path v) q e) (own_vars v, tt)
  right_within path v (act (out t) a) q at e =
      subst (λ (r : Rule). FactsWithin v r.right) (same_Some (out_rule path v t) q e) ((sound path (place path v (act (out t) a)) at, tt), (own_vars v, tt))
  right_within path v _ q at e = cc

  -- so what facts settle to has only variables that they have
  settled_among : (vs : List Var) {fs hs : List Fact} → IsSettled (IsSilentRule p) fs hs → All (Contains vs) (facts_vars fs) → All (Contains vs) (facts_vars hs)
  settled_among vs {fs} {hs} s a = among_facts vs hs (settled_all (Among vs) on s (facts_among vs fs a)) where
    on : (q : Rule) (f : Fact) → IsSilentRule p q → q.left ≡ f ∷ [] → Among vs f → All (Among vs) q.right
    on q f x l h =
        let lists : (state x.path x.scope ∷ []) ≡ (f ∷ []) = sym (silent_left x.path x.scope x.body q x.is) ∙ l in
        let one : state x.path x.scope ≡ f = cc in
        let vars : trees_vars (trees_of f.args) ≡ x.scope = ap (λ (k : Fact). trees_vars (trees_of k.args)) (sym one) ∙ own_args x.scope in
        facts_within vs x.scope (subst (λ zs. All (Contains vs) zs) vars h) q.right (right_within x.path x.scope x.body q x.stands x.is)

  -- and no name stands in a short rule with two sorts
  sorts_kept : (r : Rule) (right : List Fact) → IsSettled (IsSilentRule p) r.right right → HaveOneSort (rule_vars r) → HaveOneSort (rule_vars (record r { right = right }))
  sorts_kept r right s h v w a b e = h v w (there v a) (there w b) e where
    there : (x : Var) → Contains (rule_vars (record r { right = right })) x → Contains (rule_vars r) x
    there x c = first (Contains-append_cases (facts_vars r.left) (facts_vars r.acts ++ facts_vars right) x c) where
      third : Contains (facts_vars right) x → Contains (facts_vars r.right) x
      third k = All-contains (Contains (facts_vars r.right)) (facts_vars right) x (settled_among (facts_vars r.right) s (All-contains_itself (facts_vars r.right))) k

      second : Contains (facts_vars r.acts) x ⊎ Contains (facts_vars right) x → Contains (facts_vars r.acts ++ facts_vars r.right) x
      second (inl k) = Contains-append_left (facts_vars r.acts) (facts_vars r.right) x k
      second (inr k) = Contains-append_right (facts_vars r.acts) (facts_vars r.right) x (third k)

      first : Contains (facts_vars r.left) x ⊎ Contains (facts_vars r.acts ++ facts_vars right) x → Contains (rule_vars r) x
      first (inl k) = Contains-append_left (facts_vars r.left) (facts_vars r.acts ++ facts_vars r.right) x k
      first (inr k) =
          Contains-append_right (facts_vars r.left) (facts_vars r.acts ++ facts_vars r.right) x
          (second (Contains-append_cases (facts_vars r.acts) (facts_vars right) x k))

  -- a short rule stands as the rule does, and is over the signature as it is, where the silent ones are so too
  pub shape_kept : ((q : Rule) → IsSilentRule p q → All IsRightFact q.right) → (r : Rule) (right : List Fact) → IsWellShaped r → IsSettled (IsSilentRule p) r.right right → IsWellShaped (record r { right = right })
  shape_kept silent r right h s = record {
    left = h.left;
    acts = h.acts;
    right = settled_all IsRightFact (λ q f x l k. silent q x) s h.right;
    sorts = sorts_kept r right s h.sorts;
  }

  pub over_kept : (k : Sig) → ((q : Rule) → IsSilentRule p q → All (IsFactOver k) q.right) → (r : Rule) (right : List Fact) → IsRuleOver k r → IsSettled (IsSilentRule p) r.right right → IsRuleOver k (record r { right = right })
  over_kept k silent r right h s = record { left = h.left; acts = h.acts; right = settled_all (IsFactOver k) (λ q f x l n. silent q x) s h.right }
