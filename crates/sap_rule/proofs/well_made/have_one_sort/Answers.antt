use Rattle.std.proofs.Common.{◌≡◌, ℕ, List, refl, subst, take, sym, ◌∙◌, arith}
use Rattle.std.proofs.lemmas.List.{take_all}
use Rattle.sap_terms.specs.NameMap.{value_at}
use Rattle.sap_rewrite.specs.Match.{HaveOneSort}
use Rattle.sap_rule.specs.code.Checks.{AreNoted}
use Rattle.sap_rule.proofs.Sorts.{noted-none, noted-more, one_sort, two_sorts}
use Rattle.sap_rule.proofs.well_made.have_one_sort.Goals as goal

pub loop-v-init : goal.loop-v-init
loop-v-init c = noted-none (λ (n : List ℕ). value_at c.new-sorts.result n) (λ n. rw c.new-sorts.ensures refl)

pub loop-v-preserved : goal.loop-v-preserved
loop-v-preserved c =
    noted-more (λ (n : List ℕ). value_at c.loop-v.sorts n) (λ (n : List ℕ). value_at c.note_sort.new.sorts n) c.as_slice-v-items.result.now c.loop-v.v-index c.v-item.result (omega arith) c.v-item.is c.loop-v.invariant (λ o. cc (c.in_ok-note_sort.ensures.other.1 o, c.if-not-branch.false)) (c.in_ok-note_sort.ensures.noted c.if-not-branch.false)

pub returns-then-not-branch : goal.returns-then-not-branch
returns-then-not-branch c =
    let other = c.in_ok-note_sort.ensures.other.0 c.if-not-branch.true in (
      λ h. cc,
      λ one. absurd (two_sorts (λ (n : List ℕ). value_at c.loop-v.sorts n) c.as_slice-v-items.result.now c.loop-v.v-index c.v-item.result (omega arith) c.v-item.is c.loop-v.invariant other (subst HaveOneSort (sym c.as_slice-v-items.ensures) one)),
    )

pub returns : goal.returns
returns c =
    let vs = c.as_slice-v-items.result.now in
    let whole : take c.loop-v.v-index vs ≡ c.args.vars.now = take_all c.loop-v.v-index vs (omega arith) ∙ c.as_slice-v-items.ensures in (
      λ h. one_sort (λ (n : List ℕ). value_at c.loop-v.sorts n) c.args.vars.now (subst (AreNoted (λ (n : List ℕ). value_at c.loop-v.sorts n)) whole c.loop-v.invariant),
      λ m. refl,
    )
