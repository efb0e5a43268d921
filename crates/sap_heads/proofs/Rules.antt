-- What a rule makes of what is bound, and why it isn't used.
use Rattle.std.proofs.Common.{◌≡◌, ◌<◌, ℕ, List, ◌++◌, length, sym, subst, ◌∙◌, ◌⊎◌, inl, inr}
use Rattle.std.specs.Prelude.{All, Contains}
use Rattle.sap_terms.specs.Choice.{Choice, instance}
use Rattle.sap_terms.specs.Destructors.{HasDestructor}
use Rattle.sap_terms.specs.Equations.{equations}
use Rattle.sap_terms.specs.Ground.{IsGround}
use Rattle.sap_terms.specs.Modulo.{instance_facts, AreFormsOfFacts}
use Rattle.sap_terms.specs.Tree.{Tree, variable}
use Rattle.sap_terms.specs.Variables.{facts_vars}
use Rattle.sap_terms.specs.declared.binding.Binding.{Binding}
use Rattle.sap_terms.specs.declared.fact.Fact.{Fact}
use Rattle.sap_terms.specs.declared.limits.TheConstants.{MOST_TERM_NODES}
use Rattle.sap_terms.specs.declared.var.Var.{Var}
use Rattle.sap_rewrite.specs.Bound.{NamedOnceStay, BindingsGiveChoices}
use Rattle.sap_rewrite.specs.Laws.{FormIsOne, PatternsStay}
use Rattle.sap_rewrite.specs.Match.{HaveOneSort}
use Rattle.sap_rewrite.specs.Pattern.{MatchingIsModulo}
use Rattle.sap_process.specs.Heads.{facts_terms}
use Rattle.sap_process.specs.Instance.{process_instance}
use Rattle.sap_process.specs.Proc.{Proc}
use Rattle.sap_share.specs.Env.{given, AreSmallForms}
use Rattle.sap_share.specs.Shared.{Shared, tree_at, Keeps}
use Rattle.sap_share.specs.declared.env.Bound.{Bound}
use Rattle.sap_sides.specs.Messages.{IsSmallMessageFact}
use Rattle.sap_lines.specs.Faults.{AreRight}
use Rattle.sap_lines.specs.declared.fault.PFault.{PFault}
use Rattle.sap_heads.specs.Used.{AreForRule, IsUsed, IsUnused, no_memory, not_opened, not_fitting, too_large}
use Rattle.sap_heads.specs.Values.{IsValueFault}
use Rattle.sap_heads.specs.code.Rules.{open_vars, AreFactsFormed, IsRuleEnv, HasNoRuleEnv, no_room, not_open, not_found, not_bound}
use Rattle.sap_heads.proofs.Patterns.{given_fine}
use Rattle.sap_heads.proofs.Ruled.{stay_facts, open_is, nothing_fits, rule_choice, rule_fits, binding_large, rule_names, rule_small_env, acts_are, right_are, rule_goes, sides_large, rule_small}

-- the same at a larger table
pub cited_there : (s u : Shared) → Keeps s u → (cited : List Fact) → All (IsSmallMessageFact s.sig) cited → All (IsSmallMessageFact u.sig) cited
cited_there s u keeps cited fine = subst (λ g. All (IsSmallMessageFact g) cited) (sym keeps.sig) fine

pub clean_there : (s u : Shared) → Keeps s u → (l : List Fact) → ((t : Tree) → Contains (facts_terms l) t → HasDestructor s.sig t → ⊥) → (t : Tree) → Contains (facts_terms l) t → HasDestructor u.sig t → ⊥
clean_there s u keeps l clean t m d = clean t m (subst (λ g. HasDestructor g t) keeps.sig d)

module _ (s : Shared) (grounds : (k : ℕ) → k < length s.trees → IsGround (tree_at s.trees k)) (env : List Bound) (small : AreSmallForms (equations s.sig) MOST_TERM_NODES s.trees env) (cited : List Fact) (fine : All (IsSmallMessageFact s.sig) cited)
    (l e r : List Fact) (one : HaveOneSort (facts_vars (l ++ (e ++ r)))) (b : List Binding) (once : NamedOnceStay) (give : BindingsGiveChoices) where
  opened_is : AreRight s.sig (open_vars env l e r) b → AreForRule s env l e r b
  opened_is h = record { vars = h.vars ∙ sym (open_is s.sig s.trees grounds env small l e r one); terms = h.terms }

  -- nothing is bound
  pub unused_env : MatchingIsModulo → PatternsStay → ((t : Tree) → Contains (facts_terms l) t → HasDestructor s.sig t → ⊥) → (f : PFault) → HasNoRuleEnv s env cited l e r b f → IsUnused s env cited l e r b f
  unused_env modulo stay clean f no_room = no_memory
  unused_env modulo stay clean f (not_open (inl none)) = rw none no_memory
  unused_env modulo stay clean f (not_open (inr bad)) = rw bad.0 (not_opened (λ h. bad.1 (record { vars = h.vars ∙ open_is s.sig s.trees grounds env small l e r one; terms = h.terms })))
  unused_env modulo stay clean f (not_found opened (inl none)) = rw none no_memory
  unused_env modulo stay clean f (not_found opened (inr miss)) =
      let patterns = stay_facts stay s.sig (given s.trees env) l clean (given_fine s.sig s.trees grounds env small) in
      rw miss.0 (not_fitting (opened_is opened) (λ σ fits. nothing_fits s.sig s.trees grounds env small l e r one cited fine modulo patterns miss.1 b σ fits))
  unused_env modulo stay clean f (not_bound found opened match (inl none)) = rw none no_memory
  unused_env modulo stay clean f (not_bound found opened match (inr big)) =
      rw big.0 (too_large (rule_choice s.sig s.trees grounds env small l e r one cited fine found match once give b opened) (opened_is opened) (rule_fits s.sig s.trees grounds env small l e r one cited fine found match once give b opened) (binding_large s.sig s.trees grounds env small l e r one cited fine found match once give b opened big.1))

  module _ (new : List Bound) (x : IsRuleEnv s env cited l e r b new) where
    -- or what it shows or adds is too large
    pub unused_sides : (f : PFault) → IsValueFault s.sig (facts_terms (instance_facts (given s.trees new) (e ++ r))) f → IsUnused s env cited l e r b f
    unused_sides f (inl none) = rw none no_memory
    unused_sides f (inr big) =
        rw big.0 (too_large (rule_choice s.sig s.trees grounds env small l e r one cited fine x.found x.matched once give b x.opened) (opened_is x.opened) (rule_fits s.sig s.trees grounds env small l e r one cited fine x.found x.matched once give b x.opened) (sides_large s.sig s.trees grounds env small l e r one cited fine x.found x.matched once give b x.opened new x.bound big.1))

    -- it is used
    pub used_is : ((p : Proc) (s t : Choice) → ((v : Var) → IsGround (s v) ⊎ (s v ≡ variable v)) → process_instance t (process_instance s p) ≡ process_instance (λ v. instance t (s v)) p) → FormIsOne
        → (shown added : List Fact) → AreFactsFormed s new e shown → AreFactsFormed s new r added → All (IsSmallMessageFact s.sig) added → IsUsed s env cited l e r b new shown added
    used_is twice one_form shown added acts right small_messages = record {
      choice = rule_choice s.sig s.trees grounds env small l e r one cited fine x.found x.matched once give b x.opened;
      opened = opened_is x.opened;
      fits = rule_fits s.sig s.trees grounds env small l e r one cited fine x.found x.matched once give b x.opened;
      acts = subst (λ fs. AreFormsOfFacts (equations s.sig) fs shown) (acts_are s.sig s.trees grounds env small l e r one cited fine x.found x.matched once give b x.opened new x.bound) acts.forms;
      right = subst (λ fs. AreFormsOfFacts (equations s.sig) fs added) (right_are s.sig s.trees grounds env small l e r one cited fine x.found x.matched once give b x.opened new x.bound) right.forms;
      small = rule_small s.sig s.trees grounds env small l e r one cited fine x.found x.matched once give b x.opened new x.bound one_form acts.small right.small;
      messages = small_messages;
      bound = record {
        names = rule_names s.sig s.trees grounds env small l e r one cited fine x.found x.matched once give b x.opened new x.bound;
        small = rule_small_env s.sig s.trees grounds env small l e r one cited fine x.found x.matched once give b x.opened new x.bound;
        goes = rule_goes s.sig s.trees grounds env small l e r one cited fine x.found x.matched once give b x.opened new x.bound twice;
      };
    }
