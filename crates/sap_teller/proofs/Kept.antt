-- What is kept of a line before it is done.
use denote.Ref.{Bor}
use Rattle.std.proofs.Common.{◌≡◌, refl, ℕ, List, Option, length, sym, ap, subst, ◌∙◌}
use Rattle.std.specs.Global.{Box}
use Rattle.std.specs.List.{range_with_len}
use Rattle.sap_calc.specs.Running.{Running, configuration}
use Rattle.sap_facts.specs.Cited.{cited_at}
use Rattle.sap_lines.specs.declared.form.Form.{Form}
use Rattle.sap_runs.specs.declared.process_step.PStep.{PStep}
use Rattle.sap_terms.specs.Piles.{Pile}
use Rattle.sap_terms.specs.declared.binding.Binding.{Binding}
use Rattle.sap_terms.specs.declared.fact.Fact.{Fact}
use Rattle.sap_terms.specs.declared.term.Term.{Term}
use Rattle.sap_teller.specs.code.Heads.{cited_of, count_added, head_of, sender_of, together, IsBefore, IsFitted, IsHead, IsKept, IsStored, IsUsedAt, IsUsedBy}
use Rattle.sap_teller.specs.declared.before.Before.{Before}
use Rattle.sap_teller.specs.declared.doing.Doing.{Doing}
use Rattle.sap_teller.specs.declared.doing.Doing.TheVariants as does

pub is_before : (r z : Running) (facts : ℕ) (cited : List Fact) (step : PStep) (stored : Option Term) (head sender : Option (Box Form)) (b : Before) → z ≡ r → IsKept z facts cited stored head sender b → facts ≡ length r.facts → cited ≡ cited_at r.facts (cited_of step)
    → IsStored r step stored → IsHead (configuration r) (head_of step) head → IsHead (configuration r) (sender_of step) sender → IsBefore r step b
is_before r z facts cited step stored head sender b same kept count cites store first second =
    let k = subst (λ (y : Running). IsKept y facts cited stored head sender b) same kept in record {
      threads = k.threads;
      entries = k.entries;
      facts = k.same_facts ∙ count;
      head = subst (λ (f : Option (Box Form)). IsHead (configuration r) (head_of step) f) (sym k.same_head) first;
      sender = subst (λ (f : Option (Box Form)). IsHead (configuration r) (sender_of step) f) (sym k.same_sender) second;
      stored = subst (λ (o : Option Term). IsStored r step o) (sym k.same_stored) store;
      cited = k.same_cited ∙ cites;
    }

-- the facts that a rule adds have the next numbers
pub used_given : (left : Bor (List Fact)) (right : List Fact) (pile : Pile) (n count : ℕ) (d : Bor (List Binding)) (f : Form) (x : Doing) → right ≡ cited_at pile (range_with_len n count) → count ≡ count_added f → IsUsedBy left right d f x → IsUsedAt left.now pile n d f x
used_given left right pile n count d f x same many h l e r i =
    let length_is : count ≡ length r = many ∙ ap count_added i in
    (left, refl, subst (λ (ys : List Fact). IsFitted (together l) (together left.now) (λ b. does.Uses left ys b d) x) (same ∙ (λ j. cited_at pile (range_with_len n (length_is j)))) (h l e r i))
