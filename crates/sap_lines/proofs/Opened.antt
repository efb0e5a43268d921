-- What bindings and taken facts say of a choice, they say of each.
use Rattle.std.proofs.Common.{◌≡◌, ℕ, Bool, true, false, ◌||◌, List, [], ◌∷◌, ◌++◌, refl, sym, subst, ◌∙◌, ◌⊎◌, inl, inr, arith}
use Rattle.std.specs.Prelude.{Contains}
use Rattle.std.specs.Str.{bytes_eq}
use Rattle.std.proofs.lemmas.Grind.{flat_map-append}
use Rattle.std.proofs.lemmas.Slice.Eq.{bytes_eq-Decides}
use Rattle.std.proofs.lemmas.List.Elements.{Contains-append_left, Contains-append_right, Contains-append_cases}
use Rattle.sap_terms.specs.Choice.{Choice}
use Rattle.sap_terms.specs.Tree.{trees_of}
use Rattle.sap_terms.specs.Variables.{trees_vars, facts_vars, is_known}
use Rattle.sap_terms.specs.declared.binding.Binding.{Binding}
use Rattle.sap_terms.specs.declared.fact.Fact.{Fact}
use Rattle.sap_terms.specs.declared.var.Var.{Var}
use Rattle.sap_rewrite.specs.Match.{Agrees, HaveOneSort, bound_vars}
use Rattle.sap_process.specs.Sites.{var_names}
use Rattle.sap_lines.specs.Lines.{left_open}
use Rattle.sap_terms.proofs.PlainLaws.Choices.{Agree}
use Rattle.sap_terms.proofs.PlainLaws.Items.{cons_cases, first_item, later_item}
use Rattle.sap_terms.proofs.PlainLaws.Names.{first_named}

-- two that agree with one list of bindings agree on its variables
pub bound_agree : (b : List Binding) (σ τ : Choice) → Agrees b σ → Agrees b τ → Agree σ τ (bound_vars b)
bound_agree [] σ τ a c v m = absurd (omega (arith, m.1))
bound_agree (x ∷ xs) σ τ a c v m = elim (cons_cases x.var (bound_vars xs) v m) [
  | inl is ↦ subst (λ u. σ u ≡ τ u) is (a.0 ∙ sym c.0)
  | inr later ↦ bound_agree xs σ τ a.1 c.1 v later
]

pub facts_vars-append : (fs hs : List Fact) → facts_vars (fs ++ hs) ≡ facts_vars fs ++ facts_vars hs
facts_vars-append fs hs = flat_map-append (λ (f : Fact). trees_vars (trees_of f.args)) fs hs

-- the name is of a variable among these
pub named_among : (ws : List Var) (n : List ℕ) → is_known (var_names ws) n ≡ true → (w : Var) × Contains ws w × (w.name ≡ n)
named_among [] n h = cc
named_among (w ∷ ws) n h = at (bytes_eq w.name n) refl h (λ k. named_among ws n k) where
  at : (b : Bool) → bytes_eq w.name n ≡ b → (b || is_known (var_names ws) n) ≡ true → (is_known (var_names ws) n ≡ true → (u : Var) × Contains ws u × (u.name ≡ n)) → (u : Var) × Contains (w ∷ ws) u × (u.name ≡ n)
  at true e h rest = (w, first_item w ws, (bytes_eq-Decides w.name n).0 e)
  at false e h rest = let r = rest h in (r.0, later_item w ws r.0 r.1, r.2)

-- where no name has two sorts, each variable of a rule stands in its left side or is left open
pub covered : (l e r : List Fact) → HaveOneSort (facts_vars (l ++ (e ++ r))) → (v : Var) → Contains (facts_vars (l ++ (e ++ r))) v → Contains (facts_vars l) v ⊎ Contains (left_open l e r) v
covered l e r sorts v m = at (Contains-append_cases (facts_vars l) (facts_vars (e ++ r)) v (subst (λ vs. Contains vs v) (facts_vars-append l (e ++ r)) m))
  where
    left : (w : Var) → Contains (facts_vars l) w → Contains (facts_vars (l ++ (e ++ r))) w
    left w k = subst (λ vs. Contains vs w) (sym (facts_vars-append l (e ++ r))) (Contains-append_left (facts_vars l) (facts_vars (e ++ r)) w k)

    right : (w : Var) → Contains (facts_vars (e ++ r)) w → Contains (facts_vars (l ++ (e ++ r))) w
    right w k = subst (λ vs. Contains vs w) (sym (facts_vars-append l (e ++ r))) (Contains-append_right (facts_vars l) (facts_vars (e ++ r)) w k)

    at : Contains (facts_vars l) v ⊎ Contains (facts_vars (e ++ r)) v → Contains (facts_vars l) v ⊎ Contains (left_open l e r) v
    at (inl k) = inl k
    at (inr k) = elim (first_named (var_names (facts_vars l)) (facts_vars (e ++ r)) v k) [
      | inl h ↦ let w = named_among (facts_vars l) v.name h in inl (subst (Contains (facts_vars l)) (sorts w.0 v (left w.0 w.1) m w.2) w.1)
      | inr w ↦ inr (subst (Contains (left_open l e r)) (sorts w.0 v (right w.0 w.2) m w.3) w.1)
    ]

-- two choices that agree on the left side and on what it leaves open agree on the rule
pub rule_agree : (σ τ : Choice) (l e r : List Fact) → HaveOneSort (facts_vars (l ++ (e ++ r))) → Agree σ τ (facts_vars l) → Agree σ τ (left_open l e r) → Agree σ τ (facts_vars (l ++ (e ++ r)))
rule_agree σ τ l e r sorts h k v m = elim (covered l e r sorts v m) [ inl i ↦ h v i | inr i ↦ k v i ]
