-- What a process's moves lead to, where the line says what is run.
use Rattle.std.proofs.Common.{◌≡◌, ℕ, List, ◌++◌, Some, sym, ap, ◌∙◌, subst, slice_get, slice_set}
use Rattle.sap_terms.specs.Choice.{Choice}
use Rattle.sap_terms.specs.Equations.{equations}
use Rattle.sap_terms.specs.Normal.{IsNormalForm}
use Rattle.sap_terms.specs.Signature.{Sig}
use Rattle.sap_terms.specs.Tree.{Tree, fresh}
use Rattle.sap_terms.specs.Variables.{tree_vars, facts_vars}
use Rattle.sap_terms.specs.declared.fact.Fact.{Fact}
use Rattle.sap_terms.specs.declared.var.Var.{Var}
use Rattle.sap_rewrite.specs.Laws.{FormIsOne}
use Rattle.sap_process.specs.Action as action
use Rattle.sap_process.specs.Configuration.{Config, Runs, becomes, makes}
use Rattle.sap_process.specs.Proc.{Proc, act, lookup}
use Rattle.sap_process.specs.ProcessSteps.{ProcessStep, with_choice, with_term}
use Rattle.sap_translate.specs.relation.ProcessMoves as move
use Rattle.sap_translate.specs.relation.ProcessMoves.{IsProcessMove, process_move}
use Rattle.sap_forward.proofs.Tabled.{get_set}

one_process : (c : Config) (t u : ℕ) (p r : Proc) → t ≡ u → Runs c t p → Runs c u r → p ≡ r
one_process c t u p r same e f = let h : Some (Some p) ≡ Some (Some r) = sym e ∙ ap (slice_get c.threads) same ∙ f in cc

module _ (g : Sig) (c : Config) where
  pub made_by_move : (t n : ℕ) (x : Var) (p : Proc) (label : List Fact) (d : Config) → IsProcessMove g c (move.makes_name t n) label d → Runs c t (act (action.new x) p) → d ≡ makes (becomes c t (Some (with_term x (fresh n) p))) n
  made_by_move t n x p label d h runs = of h.step h.chooses where
    of : {l : List Fact} {e : Config} (step : ProcessStep g c l e) → process_move step ≡ move.makes_name t n → e ≡ makes (becomes c t (Some (with_term x (fresh n) p))) n
    of (ProcessStep.makes_name {x = y} {p = q} u m e h) i =
        let thread : u ≡ t = cc in
        let name : m ≡ n = cc in
        let same : act (action.new y) q ≡ act (action.new x) p = one_process c u t (act (action.new y) q) (act (action.new x) p) thread e runs in
        let var : y ≡ x = cc in
        let rest : q ≡ p = cc in
        λ j. makes (becomes c (thread j) (Some (with_term (var j) (fresh (name j)) (rest j)))) (name j)
    of step i = absurd (cc)

  pub input_by_move : (t : ℕ) (σ : Choice) (m : Tree) (p : Proc) (label : List Fact) (d : Config) → IsProcessMove g c (move.inputs t σ) label d → Runs c t (act (action.input m) p) → d ≡ becomes c t (Some (with_choice σ (tree_vars m) p))
  input_by_move t σ m p label d h runs = of h.step h.chooses where
    of : {l : List Fact} {e : Config} (step : ProcessStep g c l e) → process_move step ≡ move.inputs t σ → e ≡ becomes c t (Some (with_choice σ (tree_vars m) p))
    of (ProcessStep.inputs {n = y} {p = q} u τ e a b) i =
        let thread : u ≡ t = cc in
        let choice : τ ≡ σ = cc in
        let same : act (action.input y) q ≡ act (action.input m) p = one_process c u t (act (action.input y) q) (act (action.input m) p) thread e runs in
        let term : y ≡ m = cc in
        let rest : q ≡ p = cc in
        λ j. becomes c (thread j) (Some (with_choice (choice j) (tree_vars (term j)) (rest j)))
    of step i = absurd (cc)

  pub input_on_by_move : (t : ℕ) (σ : Choice) (m n : Tree) (p : Proc) (label : List Fact) (d : Config) → IsProcessMove g c (move.inputs_on t σ) label d → Runs c t (act (action.receive m n) p) → d ≡ becomes c t (Some (with_choice σ (tree_vars n) p))
  input_on_by_move t σ m n p label d h runs = of h.step h.chooses where
    of : {l : List Fact} {e : Config} (step : ProcessStep g c l e) → process_move step ≡ move.inputs_on t σ → e ≡ becomes c t (Some (with_choice σ (tree_vars n) p))
    of (ProcessStep.inputs_on {m = y} {n = z} {p = q} u τ e a b k) i =
        let thread : u ≡ t = cc in
        let choice : τ ≡ σ = cc in
        let same : act (action.receive y z) q ≡ act (action.receive m n) p = one_process c u t (act (action.receive y z) q) (act (action.receive m n) p) thread e runs in
        let term : z ≡ n = cc in
        let rest : q ≡ p = cc in
        λ j. becomes c (thread j) (Some (with_choice (choice j) (tree_vars (term j)) (rest j)))
    of step i = absurd (cc)

  pub met_by_move : (s t : ℕ) (σ : Choice) (m n l r : Tree) (p q : Proc) (label : List Fact) (d : Config) → IsProcessMove g c (move.meets s t σ) label d → Runs c s (act (action.send m n) p) → Runs c t (act (action.receive l r) q)
      → d ≡ becomes (becomes c s (Some p)) t (Some (with_choice σ (tree_vars r) q))
  met_by_move s t σ m n l r p q label d h runs runs_too = of h.step h.chooses where
    of : {a : List Fact} {e : Config} (step : ProcessStep g c a e) → process_move step ≡ move.meets s t σ → e ≡ becomes (becomes c s (Some p)) t (Some (with_choice σ (tree_vars r) q))
    of (ProcessStep.meets {m = m1} {n = n1} {l = l1} {r = r1} {p = p1} {q = q1} a b τ e f k o) i =
        let first : a ≡ s = cc in
        let second : b ≡ t = cc in
        let choice : τ ≡ σ = cc in
        let one : act (action.send m1 n1) p1 ≡ act (action.send m n) p = one_process c a s (act (action.send m1 n1) p1) (act (action.send m n) p) first e runs in
        let two : act (action.receive l1 r1) q1 ≡ act (action.receive l r) q = one_process c b t (act (action.receive l1 r1) q1) (act (action.receive l r) q) second f runs_too in
        let p_is : p1 ≡ p = cc in
        let r_is : r1 ≡ r = cc in
        let q_is : q1 ≡ q = cc in
        λ j. becomes (becomes c (first j) (Some (p_is j))) (second j) (Some (with_choice (choice j) (tree_vars (r_is j)) (q_is j)))
    of step i = absurd (cc)

  pub found_by_move : FormIsOne → (t : ℕ) (m k v : Tree) (x : Var) (p r : Proc) (label : List Fact) (d : Config) → IsProcessMove g c (move.finds t) label d → Runs c t (lookup m x p r) → IsNormalForm (equations g) m k → c.store k ≡ Some v → d ≡ becomes c t (Some (with_term x v p))
  found_by_move one t m k v x p r label d h runs form held = of h.step h.chooses where
    of : {a : List Fact} {e : Config} (step : ProcessStep g c a e) → process_move step ≡ move.finds t → e ≡ becomes c t (Some (with_term x v p))
    of (ProcessStep.finds {m = m1} {k = k1} {v = v1} {x = x1} {p = p1} {q = q1} u e f s) i =
        let thread : u ≡ t = cc in
        let same : lookup m1 x1 p1 q1 ≡ lookup m x p r = one_process c u t (lookup m1 x1 p1 q1) (lookup m x p r) thread e runs in
        let m_is : m1 ≡ m = cc in
        let x_is : x1 ≡ x = cc in
        let p_is : p1 ≡ p = cc in
        let k_is : k1 ≡ k = one (equations g) m k1 k (subst (λ y. IsNormalForm (equations g) y k1) m_is f) form in
        let both : Some v1 ≡ Some v = sym s ∙ ap c.store k_is ∙ held in
        let v_is : v1 ≡ v = cc in
        λ j. becomes c (thread j) (Some (with_term (x_is j) (v_is j) (p_is j)))
    of step i = absurd (cc)

  pub ruled_by_move : (t : ℕ) (ks : List ℕ) (σ : Choice) (l e r : List Fact) (p : Proc) (label : List Fact) (d : Config) → IsProcessMove g c (move.embeds t ks σ) label d → Runs c t (act (action.embedded l e r) p)
      → slice_get d.threads t ≡ Some (Some (with_choice σ (facts_vars (l ++ (e ++ r))) p))
  ruled_by_move t ks σ l e r p label d h runs = of h.step h.chooses where
    of : {a : List Fact} {e1 : Config} (step : ProcessStep g c a e1) → process_move step ≡ move.embeds t ks σ → slice_get e1.threads t ≡ Some (Some (with_choice σ (facts_vars (l ++ (e ++ r))) p))
    of (ProcessStep.embeds {l = l1} {e = s1} {r = r1} {p = p1} u js τ left acts right go m a k b o) i =
        let thread : u ≡ t = cc in
        let choice : τ ≡ σ = cc in
        let same : act (action.embedded l1 s1 r1) p1 ≡ act (action.embedded l e r) p = one_process c u t (act (action.embedded l1 s1 r1) p1) (act (action.embedded l e r) p) thread go runs in
        let l_is : l1 ≡ l = cc in
        let e_is : s1 ≡ e = cc in
        let r_is : r1 ≡ r = cc in
        let p_is : p1 ≡ p = cc in
        let at : slice_get (slice_set c.threads u (Some (with_choice τ (facts_vars (l1 ++ (s1 ++ r1))) p1))) u ≡ Some (Some (with_choice τ (facts_vars (l1 ++ (s1 ++ r1))) p1)) = get_set c.threads u (Some (act (action.embedded l1 s1 r1) p1)) (Some (with_choice τ (facts_vars (l1 ++ (s1 ++ r1))) p1)) go in
        ap (slice_get (slice_set c.threads u (Some (with_choice τ (facts_vars (l1 ++ (s1 ++ r1))) p1)))) (sym thread) ∙ at ∙ (λ j. Some (Some (with_choice (choice j) (facts_vars (l_is j ++ (e_is j ++ r_is j))) (p_is j))))
    of step i = absurd (cc)
