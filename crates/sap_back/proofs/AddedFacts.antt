-- How many facts of the rules come with a line.
use Rattle.std.proofs.Common.{◌≡◌, ◌+◌, ℕ, List, Some, ap, arith, length, length-append, map}
use Rattle.std.proofs.lemmas.List.{length-map}
use Rattle.std.proofs.lemmas.List.Elements.{length_all_zip}
use Rattle.sap_terms.specs.Equations.{equations}
use Rattle.sap_terms.specs.Modulo.{IsFormOfFact, instance_fact, instance_facts}
use Rattle.sap_terms.specs.Piles.{Pile, adds}
use Rattle.sap_terms.specs.Signature.{Sig}
use Rattle.sap_terms.specs.Tree.{Tree}
use Rattle.sap_terms.specs.declared.binding.Binding.{Binding}
use Rattle.sap_terms.specs.declared.fact.Fact.{Fact}
use Rattle.sap_rule.specs.RuleSteps.{RuleState}
use Rattle.sap_rule.specs.declared.rule.Rule.{Rule}
use Rattle.sap_runs.specs.declared.rule_step.RStep.{RStep}
use Rattle.sap_runs.specs.declared.rule_step.RStep.TheVariants as rline
use Rattle.sap_steps.specs.Lines.{IsLine, IsRuleLine}
use Rattle.sap_back.proofs.Takings.{takes_length}
use Rattle.sap_back.specs.LinesFor.{facts_added, right_count}

-- so many facts more
adds_length : (rest : Pile) (right : List Fact) → length (adds rest right) ≡ length rest + length right
adds_length rest right = omega (arith, length-append rest (map (λ (f : Fact). Some f) right), length-map right (λ (f : Fact). Some f))

module _ (g : Sig) (rules : List Rule) (W : Tree → Type 0) (s : RuleState) where
  -- with a line of a rule those of its right side
  rule_adds : (name ks : List ℕ) (b : List Binding) (acts : List Fact) (z : RuleState) → IsRuleLine g rules W s name ks b acts z → length z.facts ≡ length s.facts + facts_added rules (rline.Rule name ks b)
  rule_adds name ks b acts z h =
      let named : facts_added rules (rline.Rule name ks b) ≡ length h.rule.right = ap right_count h.named in
      let formed = length_all_zip (IsFormOfFact (equations g)) (instance_facts h.fires.choice h.rule.right) h.right h.fires.use_.adds in
      let same = length-map h.rule.right (instance_fact h.fires.choice) in
      let behind = ap (λ (x : RuleState). length x.facts) h.becomes in
      let sum = adds_length h.rest h.right in
      let left = takes_length h.takes in
      omega arith

  pub line_adds : (step : RStep) (acts : List Fact) (z : RuleState) → IsLine g rules W s step acts z → length z.facts ≡ length s.facts + facts_added rules step
  line_adds (rline.Fresh n) acts z h = let behind = ap (λ (x : RuleState). length x.facts) h.becomes in omega (arith, behind, length-append s.facts)
  line_adds (rline.Learn k) acts z (t, h) = let behind = ap (λ (x : RuleState). length x.facts) h.becomes in let left = takes_length h.takes in omega arith
  line_adds (rline.Own k) acts z (n, h) = let behind = ap (λ (x : RuleState). length x.facts) h.becomes in let left = takes_length h.takes in omega arith
  line_adds (rline.Public a) acts z h = let behind = ap (λ (x : RuleState). length x.facts) h.1 in omega arith
  line_adds (rline.Apply f ks) acts z h = let behind = ap (λ (x : RuleState). length x.facts) h.becomes in omega arith
  line_adds (rline.Know k) acts z h = let behind = ap (λ (x : RuleState). length x.facts) h.becomes in omega (arith, behind, length-append s.facts)
  line_adds (rline.Rule name ks b) acts z h = rule_adds name ks b acts z h
