-- Sides that are evaluated by numbers, while the table grows.
use Rattle.std.proofs.Common.{◌≡◌, ◌<◌, ◌≤◌, ◌+◌, ℕ, zero, suc, List, [], ◌∷◌, ◌++◌, length, map, take, Some, refl, sym, ap, subst, ◌∙◌, arith}
use Rattle.std.specs.Prelude.{slice_get, All, if◌then◌else◌}
use Rattle.std.specs.Str.{bytes_eq}
use Rattle.std.proofs.lemmas.List.{get_or_append_left, map_push}
use Rattle.std.proofs.lemmas.List.Elements.{All-head, All-tail, All-push, All-weaker}
use Rattle.sap_terms.specs.Choice.{Choice, instance}
use Rattle.sap_terms.specs.Equations.{Equations, equations}
use Rattle.sap_terms.specs.Modulo.{instance_fact, instance_facts, IsFormOfFact, AreFormsOfFacts}
use Rattle.sap_terms.specs.Normal.{IsNormal}
use Rattle.sap_terms.specs.Signature.{Sig}
use Rattle.sap_terms.specs.Subst.{bound_to}
use Rattle.sap_terms.specs.Tree.{Tree, fresh, node_count}
use Rattle.sap_terms.specs.View.{tree-term}
use Rattle.sap_terms.specs.declared.fact.Fact.{Fact}
use Rattle.sap_terms.specs.declared.limits.TheConstants.{MOST_TERM_NODES}
use Rattle.sap_terms.specs.declared.var.Var.{Var}
use Rattle.sap_terms.specs.Message.{IsFactOver}
use Rattle.sap_share.specs.Env.{given, IsSmallForm, AreSmallForms, AreBound, bindings_of}
use Rattle.sap_share.specs.Shared.{Shared, tree_at, AreBelow, Keeps}
use Rattle.sap_share.specs.declared.env.Bound.{Bound}
use Rattle.sap_sides.specs.Forms.{SomeLarge, args_of}
use Rattle.sap_sides.specs.Messages.{IsGroundFact}
use Rattle.sap_sides.specs.SharedFacts.{fact_seen, AreFactsBelow}
use Rattle.sap_sides.specs.declared.shared_fact.SharedFact.{SharedFact}
use Rattle.sap_sides.proofs.Formed.{AreFormed, formed_none, formed_further, large_at, AreFactsFormed, facts_none, facts_further, fact_large}
use Rattle.sap_sides.proofs.Lists.{all_at}
use Rattle.sap_sides.proofs.Kept.{keeps-self, keeps-more, keeps-below, keeps-trees, shared_kept}

pub small_bound : (e : Equations) (most : ℕ) (ts : List Tree) (env : List Bound) → AreSmallForms e most ts env → AreBound (length ts) env
small_bound e most ts env h = All-weaker (λ (b : Bound). IsSmallForm e most ts b.id) (λ (b : Bound). b.id < length ts) (λ b x. x.below) env h

tree_kept : (s t : Shared) (k : ℕ) → Keeps s t → k < length s.trees → tree_at t.trees k ≡ tree_at s.trees k
tree_kept s t k h l = ap (λ us. tree_at us k) h.trees ∙ get_or_append_left s.trees h.added (fresh 0) k l

given_at : (s t : Shared) (env : List Bound) → Keeps s t → AreBound (length s.trees) env → (v : Var) → given t.trees env v ≡ given s.trees env v
given_at s t [] h b v = refl
given_at s t (e ∷ es) h b v =
    let is : tree_at t.trees e.id ≡ tree_at s.trees e.id = tree_kept s t e.id h (All-head (λ (x : Bound). x.id < length s.trees) e es b) in
    let rest = given_at s t es h (All-tail (λ (x : Bound). x.id < length s.trees) e es b) v in
    λ i. if bytes_eq e.var.name v.name then is i else rest i

-- what is given stays what it is
pub given_kept : (s t : Shared) (env : List Bound) → Keeps s t → AreBound (length s.trees) env → given t.trees env ≡ given s.trees env
given_kept s t env h b = λ i v. given_at s t env h b v i

pub forms_kept : (most : ℕ) (s t : Shared) (env : List Bound) → Keeps s t → AreSmallForms (equations s.sig) most s.trees env → AreSmallForms (equations t.sig) most t.trees env
forms_kept most s t env h a =
    let e = equations s.sig in
    let kept : (b : Bound) → IsSmallForm e most s.trees b.id → IsSmallForm e most t.trees b.id = λ b x.
    let is = tree_kept s t b.id h x.below in
    let more = keeps-more s t h in
    let low : b.id < length s.trees = x.below in record {
      below = omega (arith, low, more);
      normal = subst (IsNormal e) (sym is) x.normal;
      within = subst (λ u. node_count u ≤ most) (sym is) x.within;
    } in
    subst (λ (g : Sig). AreSmallForms (equations g) most t.trees env) (sym h.sig) (All-weaker (λ (b : Bound). IsSmallForm e most s.trees b.id) (λ (b : Bound). IsSmallForm e most t.trees b.id) kept env a)

bound_at : (ts : List Tree) (env : List Bound) (v : Var) → given ts env v ≡ bound_to (bindings_of ts env) v
bound_at ts [] v = refl
bound_at ts (e ∷ es) v =
    let is = sym (tree-term (tree_at ts e.id)) in
    let rest = bound_at ts es v in
    λ i. if bytes_eq e.var.name v.name then is i else rest i

-- what is given is what the bindings choose
pub given_bound : (ts : List Tree) (env : List Bound) → given ts env ≡ bound_to (bindings_of ts env)
given_bound ts env = λ i v. bound_at ts env v i

-- each fact's instance is ground
pub fact_ground_at : (σ : Choice) (fs : List Fact) (k : ℕ) (f : Fact) → All IsGroundFact (instance_facts σ fs) → slice_get fs k ≡ Some f → IsGroundFact (instance_fact σ f)
fact_ground_at σ [] k f h e = cc
fact_ground_at σ (x ∷ xs) zero f h e = let is : x ≡ f = cc in subst (λ (y : Fact). IsGroundFact (instance_fact σ y)) is (All-head IsGroundFact (instance_fact σ x) (instance_facts σ xs) h)
fact_ground_at σ (x ∷ xs) (suc k) f h e = fact_ground_at σ xs k f (All-tail IsGroundFact (instance_fact σ x) (instance_facts σ xs) h) e

module _ (s m : Shared) (env : List Bound) (sm : Keeps s m) (small : AreSmallForms (equations s.sig) MOST_TERM_NODES s.trees env) where
  g_kept : given m.trees env ≡ given s.trees env
  g_kept = given_kept s m env sm (small_bound (equations s.sig) MOST_TERM_NODES s.trees env small)

  some_large_before : (ts : List Tree) → SomeLarge m.sig (map (instance (given m.trees env)) ts) → SomeLarge s.sig (map (instance (given s.trees env)) ts)
  some_large_before ts l = subst (λ (σ : Choice). SomeLarge s.sig (map (instance σ) ts)) g_kept (subst (λ (g : Sig). SomeLarge g (map (instance (given m.trees env)) ts)) sm.sig l)

  some_large_then : (ts : List Tree) → SomeLarge s.sig (map (instance (given s.trees env)) ts) → SomeLarge m.sig (map (instance (given m.trees env)) ts)
  some_large_then ts l = subst (λ (g : Sig). SomeLarge g (map (instance (given m.trees env)) ts)) (sym sm.sig) (subst (λ (σ : Choice). SomeLarge s.sig (map (instance σ) ts)) (sym g_kept) l)

  pub fact_large_before : (fs : List Fact) (k : ℕ) (f : Fact) → slice_get fs k ≡ Some f → SomeLarge m.sig (map (instance (given m.trees env)) f.args) → SomeLarge s.sig (map (instance (given s.trees env)) (args_of fs))
  fact_large_before fs k f e l = fact_large s.sig (given s.trees env) fs k f e (some_large_before f.args l)

  pub facts_large_before : (fs : List Fact) → SomeLarge m.sig (map (instance (given m.trees env)) (args_of fs)) → SomeLarge s.sig (map (instance (given s.trees env)) (args_of fs))
  facts_large_before fs l = some_large_before (args_of fs) l

  pub none_large_before : (fs : List Fact) → (SomeLarge m.sig (map (instance (given m.trees env)) (args_of fs)) → ⊥) → SomeLarge s.sig (map (instance (given s.trees env)) (args_of fs)) → ⊥
  none_large_before fs h l = h (some_large_then (args_of fs) l)

  pub forms_before : (fs ns : List Fact) → AreFormsOfFacts (equations m.sig) (instance_facts (given m.trees env) fs) ns → AreFormsOfFacts (equations s.sig) (instance_facts (given s.trees env) fs) ns
  forms_before fs ns a = subst (λ (σ : Choice). AreFormsOfFacts (equations s.sig) (instance_facts σ fs) ns) g_kept (subst (λ (g : Sig). AreFormsOfFacts (equations g) (instance_facts (given m.trees env) fs) ns) sm.sig a)

  pub ground_facts_then : (fs : List Fact) → All IsGroundFact (instance_facts (given s.trees env) fs) → All IsGroundFact (instance_facts (given m.trees env) fs)
  ground_facts_then fs a = subst (λ (σ : Choice). All IsGroundFact (instance_facts σ fs)) (sym g_kept) a

  -- the forms of the first facts, and one more
  pub facts_more : (t : Shared) (fs : List Fact) (i : ℕ) (f : Fact) (ss more : List SharedFact) (x : SharedFact) → AreFactsFormed s.sig (given s.trees env) (take i fs) (map (fact_seen m.trees) ss) → AreFactsBelow (length m.trees) ss → Keeps m t → AreBelow (length t.trees) x.args
      → IsFormOfFact (equations m.sig) (instance_fact (given m.trees env) f) (fact_seen t.trees x) → (SomeLarge m.sig (map (instance (given m.trees env)) f.args) → ⊥) → slice_get fs i ≡ Some f → more ≡ ss ++ x ∷ []
      → AreFactsFormed s.sig (given s.trees env) (take (i + 1) fs) (map (fact_seen t.trees) more) × AreFactsBelow (length t.trees) more
  facts_more t fs i f ss more x formed below mt low form within at is =
      let n = fact_seen t.trees x in
      let kept = shared_kept m t ss mt below in
      let form_s = subst (λ (σ : Choice). IsFormOfFact (equations s.sig) (instance_fact σ f) n) g_kept (subst (λ (g : Sig). IsFormOfFact (equations g) (instance_fact (given m.trees env) f) n) sm.sig form) in
      let last : map (fact_seen t.trees) more ≡ map (fact_seen m.trees) ss ++ n ∷ [] = ap (map (fact_seen t.trees)) is ∙ map_push (fact_seen t.trees) ss x ∙ ap (λ ys. ys ++ n ∷ []) kept.0 in
      (facts_further s.sig (given s.trees env) fs (map (fact_seen m.trees) ss) (map (fact_seen t.trees) more) i f n at formed form_s (λ l. within (some_large_then f.args l)) last, rw is (All-push (λ (y : SharedFact). AreBelow (length t.trees) y.args) ss x kept.1 low))

  pub fact_ground_then : (fs : List Fact) (k : ℕ) (f : Fact) → All IsGroundFact (instance_facts (given s.trees env) fs) → slice_get fs k ≡ Some f → IsGroundFact (instance_fact (given m.trees env) f)
  fact_ground_then fs k f h e = subst (λ (σ : Choice). IsGroundFact (instance_fact σ f)) (sym g_kept) (fact_ground_at (given s.trees env) fs k f h e)

  pub fact_over_then : (fs : List Fact) (k : ℕ) (f : Fact) → All (IsFactOver s.sig) fs → slice_get fs k ≡ Some f → IsFactOver m.sig f
  fact_over_then fs k f h e = subst (λ (g : Sig). IsFactOver g f) (sym sm.sig) (all_at (IsFactOver s.sig) fs k f h e)

pub ruleset side_laws = (keeps-self, formed_none, facts_none)
