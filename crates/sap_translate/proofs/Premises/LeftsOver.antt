-- What the actions of a well-formed process take is over the signature.
use Rattle.std.proofs.Common.{◌≡◌, ◌<◌, ◌^◌, List, [], ◌∷◌, ◌++◌, Some, true, sym, subst, ◌∙◌}
use Rattle.std.specs.Prelude.{All}
use Rattle.sap_terms.specs.Equations.{pair_name}
use Rattle.sap_terms.specs.Modulo.{instance_facts}
use Rattle.sap_terms.specs.Signature.{Sig, arity_of}
use Rattle.sap_terms.specs.TermTests.{are_over}
use Rattle.sap_terms.specs.Tree.{trees_of}
use Rattle.sap_terms.specs.Variables.{facts_vars, new_vars}
use Rattle.sap_terms.specs.declared.fact.Fact.{Fact}
use Rattle.sap_terms.specs.declared.var.Var.{Var}
use Rattle.sap_locks.specs.Annotation.{IsAnnotation}
use Rattle.sap_process.specs.Action as action
use Rattle.sap_process.specs.Flaws.{IsWellFormed}
use Rattle.sap_process.specs.Heads.{facts_terms}
use Rattle.sap_process.specs.Proc as whole
use Rattle.sap_process.specs.Proc.{Proc, act, node_count}
use Rattle.sap_process.specs.Ready.{IsReady}
use Rattle.sap_process.specs.Sites.{var_names, message_var}
use Rattle.sap_process.specs.Sorted.{by_binder, with_sorts}
use Rattle.sap_rule.specs.WellMade.{IsWellMade}
use Rattle.sap_templates.specs.Templates.{rules_of}
use Rattle.sap_translate.specs.relation.Labels.{IsRelabelled, labelled}
use Rattle.sap_translate.specs.relation.Spelled.{FactsOver}
use Rattle.sap_translate.proofs.Premises.Annotations.{annotation_is}
use Rattle.sap_translate.proofs.Premises.Sound.{clean_labelled, sorts_labelled}
use Rattle.sap_translate.proofs.Premises.Spelled.{over_each, over_left, over_right}
use Rattle.sap_translate.proofs.Premises.WellMade.{LeftsOver, rules_made}
use Rattle.sap_translate.proofs.Restricted.Seen.{ready_over, ready_sound}
use Rattle.sap_translate.proofs.Terms.Clean.{AllClean, all_clean}

-- the first facts of a longer list
first_over : (g : Sig) (w : List Var) (fs hs : List Fact) → are_over g (trees_of (facts_terms (fs ++ hs))) ≡ true → FactsOver g (instance_facts (by_binder w) fs)
first_over g w [] hs h = tt
first_over g w (f ∷ fs) hs h = (over_each g w f.args (over_left g f.args (facts_terms (fs ++ hs)) h), first_over g w fs hs (over_right g f.args (facts_terms (fs ++ hs)) h))

lefts_over : (g : Sig) (v : List Var) (p : Proc) → AllClean g v p → LeftsOver g (with_sorts v p)
lefts_over g v whole.nil h = tt
lefts_over g v (whole.parallel p q) h = (lefts_over g v p h.1, lefts_over g v q h.2)
lefts_over g v (whole.replicated p) h = lefts_over g v p h.1
lefts_over g v (whole.test t u p q) h = (lefts_over g v p h.1, lefts_over g v q h.2)
lefts_over g v (whole.lookup t x p q) h = (lefts_over g (v ++ message_var x ∷ []) p h.1, lefts_over g v q h.2)
lefts_over g v (act (action.new x) p) h = (tt, lefts_over g _ p h.1)
lefts_over g v (act (action.out t) p) h = (tt, lefts_over g (v ++ []) p h.1)
lefts_over g v (act (action.send t u) p) h = (tt, lefts_over g (v ++ []) p h.1)
lefts_over g v (act (action.input t) p) h = ((over_each g _ (t ∷ []) h.0.over).0, lefts_over g _ p h.1)
lefts_over g v (act (action.receive t u) p) h =
    let both = over_each g _ (t ∷ u ∷ []) h.0.over in
    ((both.0, both.1.0), lefts_over g _ p h.1)
lefts_over g v (act (action.event f) p) h = (tt, lefts_over g (v ++ []) p h.1)
lefts_over g v (act (action.insert t u) p) h = (tt, lefts_over g (v ++ []) p h.1)
lefts_over g v (act (action.delete t) p) h = (tt, lefts_over g (v ++ []) p h.1)
lefts_over g v (act (action.lock t i) p) h = (tt, lefts_over g (v ++ []) p h.1)
lefts_over g v (act (action.unlock t i) p) h = (tt, lefts_over g (v ++ []) p h.1)
lefts_over g v (act (action.embedded l e r) p) h =
    let u = v ++ new_vars (var_names v) (facts_vars (l ++ (e ++ r))) in
    (first_over g u l (e ++ r) h.0.over, lefts_over g u p h.1)

-- a well-formed process with its sorts and labels
relabelled_over : (g : Sig) (p q : Proc) → IsWellFormed g p → IsRelabelled (with_sorts [] p) q → LeftsOver g q
relabelled_over g p q fine l =
    let same : with_sorts [] (labelled l.label [] p) ≡ q = sorts_labelled l.label [] [] p ∙ sym l.is in
    subst (LeftsOver g) same (lefts_over g [] (labelled l.label [] p) (clean_labelled g l.label [] [] p (all_clean g p fine)))

pub ready_made : (g : Sig) (p q : Proc) → arity_of g pair_name ≡ Some 2 → IsReady g p → node_count p < 2 ^ 64 → IsAnnotation p q → All (IsWellMade g) (rules_of q)
ready_made g p q pair ready small h =
    let sorted : IsAnnotation (with_sorts [] p) q = subst (λ r. IsAnnotation r q) (sym ready.sorted) h in
    rules_made g q pair (ready_sound g p q ready small h).0 (ready_over g p q ready h) (relabelled_over g p q ready.well_formed (annotation_is (with_sorts [] p) q sorted))
