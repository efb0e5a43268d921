-- What is written for the adversary.
use Rattle.std.proofs.Common.{◌≡◌, ℕ, ◌+◌, List, [], ◌∷◌, ◌++◌, sym, ap, subst, ◌∙◌}
use Rattle.sap_runs.specs.declared.process_step.PStep.TheVariants as line
use Rattle.sap_runs.specs.declared.rule_step.RStep.{RStep}
use Rattle.sap_runs.specs.declared.rule_step.RStep.TheVariants.{Fresh, Own, Public, Apply, Know}
use Rattle.sap_forward.specs.Written.{IsWrittenAsRules, with_facts}
use Rattle.sap_forward.specs.code.Desk.{Keeps}
use Rattle.sap_forward.specs.code.Steps.{WritesAny}
use Rattle.sap_forward.specs.declared.desk.Desk.{Desk}
use Rattle.sap_forward.proofs.Keeping.{facts_kept}

pub writes_name : (d e : Desk) (n : ℕ) (before after : List RStep) → e ≡ record d { count = d.count + 1 } → after ≡ before ++ Fresh n ∷ Own d.count ∷ [] → WritesAny d e (line.Name n) before after
writes_name d e n before after is put found g start drawn agents later c tables behind ls keeps (IsWrittenAsRules.names n') binds =
    (put ∙ ap (λ k. before ++ Fresh n' ∷ Own k ∷ []) keeps.count, subst (Keeps start drawn agents (with_facts tables 1)) (sym is) (facts_kept start drawn agents tables d keeps 1))

pub writes_public : (d : Desk) (a : List ℕ) (before after : List RStep) → after ≡ before ++ Public a ∷ [] → WritesAny d d (line.Public a) before after
writes_public d a before after put found g start drawn agents later c tables behind ls keeps (IsWrittenAsRules.writes a') binds = (put, keeps)

pub writes_apply : (d : Desk) (f ks : List ℕ) (before after : List RStep) → after ≡ before ++ Apply f ks ∷ [] → WritesAny d d (line.Apply f ks) before after
writes_apply d f ks before after put found g start drawn agents later c tables behind ls keeps (IsWrittenAsRules.applies f' ks') binds = (put, keeps)

pub writes_know : (d e : Desk) (k : ℕ) (before after : List RStep) → e ≡ record d { count = d.count + 1 } → after ≡ before ++ Know k ∷ [] → WritesAny d e (line.Know k) before after
writes_know d e k before after is put found g start drawn agents later c tables behind ls keeps (IsWrittenAsRules.knows k') binds =
    (put, subst (Keeps start drawn agents (with_facts tables 1)) (sym is) (facts_kept start drawn agents tables d keeps 1))
