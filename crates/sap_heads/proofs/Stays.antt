-- What is found for a rule stays so at a larger table.
use Rattle.std.proofs.Common.{◌≡◌, ◌<◌, ◌++◌, ℕ, List, [], ◌∷◌, length, map, refl, sym, ap, subst, ◌∙◌, arith, ◌+◌, length-append}
use Rattle.std.proofs.lemmas.List.Elements.{All-nil, All-cons, All-head, All-tail}
use Rattle.sap_terms.specs.Equations.{equations}
use Rattle.sap_terms.specs.declared.var.Var.{Var}
use Rattle.sap_terms.specs.View.{term}
use Rattle.sap_terms.specs.declared.binding.Binding.{Binding}
use Rattle.sap_terms.specs.declared.fact.Fact.{Fact}
use Rattle.sap_terms.specs.declared.limits.TheConstants.{MOST_TERM_NODES}
use Rattle.std.proofs.lemmas.List.{map-append}
use Rattle.sap_terms.specs.Signature.{Sig}
use Rattle.sap_terms.proofs.PlainLaws.Lists.{take_got}
use Rattle.std.specs.Prelude.{slice_get, Some}
use Rattle.std.proofs.lemmas.List.Elements.{All-push}
use Rattle.std.proofs.Common.{take, append_assoc}
use Rattle.sap_terms.specs.View.{tree, term-tree}
use Rattle.sap_share.specs.Shared.{Gives}
use Rattle.sap_share.specs.Env.{bindings_of, AreBound, AreSmallForms, IsSmallForm}
use Rattle.sap_share.specs.Shared.{Shared, tree_at, Keeps}
use Rattle.sap_share.specs.declared.env.Bound.{Bound}
use Rattle.sap_lines.specs.Faults.{AreRight}
use Rattle.sap_lines.specs.declared.fault.PFault.{PFault}
use Rattle.sap_terms.specs.Modulo.{instance_facts}
use Rattle.sap_process.specs.Heads.{facts_terms}
use Rattle.sap_share.specs.Env.{given}
use Rattle.sap_heads.specs.Values.{IsValueFault}
use Rattle.sap_heads.specs.code.Rules.{open_vars, IsFound, IsBound, IsRuleEnv, AreFactsFormed}
use Rattle.sap_heads.proofs.Kept.{tree_stays, given_stays}

module _ (s u : Shared) (h : Keeps s u) where
  more : length s.trees < length u.trees + 1
  more = let l : length u.trees ≡ length s.trees + length h.added = ap length h.trees ∙ length-append s.trees h.added in omega (arith, l)

  pub bound_stays : (env : List Bound) → AreBound (length s.trees) env → AreBound (length u.trees) env
  bound_stays [] b = All-nil (λ (e : Bound). e.id < length u.trees)
  bound_stays (e ∷ es) b =
      let here : e.id < length s.trees = All-head (λ (x : Bound). x.id < length s.trees) e es b in
      let m = more in
      All-cons (λ (x : Bound). x.id < length u.trees) e es (omega (arith, here, m)) (bound_stays es (All-tail (λ (x : Bound). x.id < length s.trees) e es b))

  pub bindings_stay : (env : List Bound) → AreBound (length s.trees) env → bindings_of u.trees env ≡ bindings_of s.trees env
  bindings_stay [] b = refl
  bindings_stay (e ∷ es) b =
      let here : e.id < length s.trees = All-head (λ (x : Bound). x.id < length s.trees) e es b in
      let is = tree_stays s u h e.id here in
      let rest = bindings_stay es (All-tail (λ (x : Bound). x.id < length s.trees) e es b) in
      λ i. record { var = e.var; term = term (is i) } ∷ rest i

  pub found_stays : (env : List Bound) (l cited : List Fact) (found : List Bound) → AreBound (length s.trees) env → IsFound s.trees env l cited found → IsFound u.trees env l cited found
  found_stays env l cited found bound f = record {
    alike = f.alike;
    only = rw (bindings_stay env bound, bindings_stay found f.below) f.only;
    below = bound_stays found f.below;
  }

  pub rule_env_stays : (env : List Bound) (cited l e r : List Fact) (b : List Binding) (new : List Bound) → AreBound (length s.trees) env → IsRuleEnv s env cited l e r b new → IsRuleEnv u env cited l e r b new
  rule_env_stays env cited l e r b new bound x = record {
    found = x.found;
    opened = subst (λ g. AreRight g (open_vars env l e r) b) (sym h.sig) x.opened;
    matched = found_stays env l cited x.found bound x.matched;
    bound = record { is = bindings_stay new x.bound.below ∙ x.bound.is ∙ ap (λ c. c ++ b) (sym (bindings_stay x.found x.matched.below)); below = bound_stays new x.bound.below; within = x.bound.within };
  }

  pub formed_stays : (env : List Bound) (fs hs : List Fact) → AreSmallForms (equations s.sig) MOST_TERM_NODES s.trees env → AreFactsFormed s env fs hs → AreFactsFormed u env fs hs
  formed_stays env fs hs small x = record { forms = rw (h.sig, given_stays s u h env small) x.forms; small = rw (h.sig, given_stays s u h env small) x.small }

  -- where bindings were added by larger numbers
  pub bound_there : (found : List Bound) (b : List Binding) (new : List Bound) → AreBound (length s.trees) found → IsBound s.trees u.trees found b new → IsBound u.trees u.trees found b new
  bound_there found b new below x = record { is = x.is ∙ ap (λ c. c ++ b) (sym (bindings_stay found below)); below = x.below; within = x.within }

-- faults at a larger table
module _ (s u : Shared) (h : Keeps s u) (env : List Bound) (small : AreSmallForms (equations s.sig) MOST_TERM_NODES s.trees env) (fs : List Fact) where
  pub fault_forth : (f : PFault) → IsValueFault s.sig (facts_terms (instance_facts (given s.trees env) fs)) f → IsValueFault u.sig (facts_terms (instance_facts (given u.trees env) fs)) f
  fault_forth f x = rw (h.sig, given_stays s u h env small) x

-- small forms have numbers
pub small_bound : (s : Shared) (env : List Bound) → AreSmallForms (equations s.sig) MOST_TERM_NODES s.trees env → AreBound (length s.trees) env
small_bound s [] h = All-nil (λ (b : Bound). b.id < length s.trees)
small_bound s (b ∷ bs) h =
    let P : Bound → Type 0 = λ b. IsSmallForm (equations s.sig) MOST_TERM_NODES s.trees b.id in
    All-cons (λ (b : Bound). b.id < length s.trees) b bs (All-head P b bs h).below (small_bound s bs (All-tail P b bs h))

-- bindings that are right for variables and a signature are so for the same
pub right_there : (g h k : Sig) (ws vs : List Var) (b : List Binding) → g ≡ h → k ≡ h → ws ≡ vs → AreRight g ws b → AreRight k vs b
right_there g h k ws vs b e f v x = subst (λ m. AreRight m vs b) (e ∙ sym f) (subst (λ us. AreRight g us b) v x)

-- bindings, the first of others with numbers for their terms, and one more
pub bind_more : (s t : Shared) (front b : List Binding) (i : ℕ) (e : Binding) (env next : List Bound) (x : Bound) → bindings_of s.trees env ≡ front ++ take i b → AreBound (length s.trees) env → Gives s t x.id (tree e.term) → x.var ≡ e.var → slice_get b i ≡ Some e → next ≡ env ++ x ∷ []
    → (bindings_of t.trees next ≡ front ++ take (i + 1) b) × AreBound (length t.trees) next
bind_more s t front b i e env next x are bound gives var at is =
    let old = bindings_stay s t gives.keeps env bound in
    let term_is : term (tree_at t.trees x.id) ≡ e.term = ap term gives.tree ∙ term-tree e.term in
    rw is (
      map-append (λ (y : Bound). record { var = y.var; term = term (tree_at t.trees y.id) }) env (x ∷ []) ∙ (λ j. (old ∙ are) j ++ record { var = var j; term = term_is j } ∷ []) ∙ append_assoc front (take i b) (e ∷ []) ∙ ap (λ c. front ++ c) (sym (take_got b i e at)),
      All-push (λ (y : Bound). y.id < length t.trees) env x (bound_stays s t gives.keeps env bound) gives.below,
    )
