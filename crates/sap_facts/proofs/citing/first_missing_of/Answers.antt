use Rattle.std.proofs.Common.{ℕ, nat_eq, arith}
use Rattle.indexmap.specs.IndexSet.{contains}
use Rattle.sap_facts.proofs.Left.{none_taken, missing_at, one_more_taken}
use Rattle.sap_facts.proofs.citing.first_missing_of.Goals as goal

pub loop-at-init : goal.loop-at-init
loop-at-init g c = none_taken (g.F.HasFacts.facts_of c.args.facts.now) (λ (j : ℕ). contains nat_eq c.args.gone.now j) c.requires

pub returns-then-not-branch : goal.returns-then-not-branch
returns-then-not-branch g c =
    missing_at (g.F.HasFacts.facts_of c.args.facts.now) c.args.numbers.now c.as_slice-k-items.result.now c.loop-at.at (λ (j : ℕ). contains nat_eq c.loop-at.gone j) c.as_slice-k-items.ensures (omega arith) c.loop-at.invariant (c.in_ok-cite.ensures.gone c.if-not-branch.true)

pub loop-at-preserved : goal.loop-at-preserved
loop-at-preserved g c =
    one_more_taken (g.F.HasFacts.facts_of c.args.facts.now) c.args.numbers.now c.as_slice-k-items.result.now c.loop-at.at (λ (j : ℕ). contains nat_eq c.loop-at.gone j) (λ (j : ℕ). contains nat_eq c.cite.new.gone j) c.as_slice-k-items.ensures (omega arith) c.loop-at.invariant (c.in_ok-cite.ensures.cited c.if-not-branch.false)
