use Rattle.std.proofs.Common.{map, sym, subst, inr}
use Rattle.std.specs.Prelude.{All}
use Rattle.sap_terms.specs.Signature.{Sig}
use Rattle.sap_terms.specs.declared.limits.TheConstants.{MOST_TERM_NODES}
use Rattle.sap_terms.specs.Message.{IsFactOver}
use Rattle.sap_sides.specs.SharedFacts.{fact_seen}
use Rattle.sap_sides.proofs.ByNumbers.{forms_kept, ground_facts_then, facts_large_before, forms_before, none_large_before}
use Rattle.sap_sides.proofs.Kept.{keeps-both}
use Rattle.sap_sides.proofs.forms.form_sides.Goals as goal

pub form_facts-requires-clause-ground : goal.form_facts-requires-clause-ground
form_facts-requires-clause-ground c =
    ground_facts_then c.args.table.now c.form_acts.new.table c.args.env.now c.in_ok-acts.ensures.keeps c.requires.env c.args.right.now c.requires.ground_right

pub returns-in-Err-clause-large : goal.returns-in-Err-clause-large
returns-in-Err-clause-large c = λ i.
    inr (facts_large_before c.args.table.now c.form_acts.new.table c.args.env.now c.in_ok-acts.ensures.keeps c.requires.env c.args.right.now (c.in-Err.ensures.large (cc i)))

pub returns-in-Ok-clause-sides : goal.returns-in-Ok-clause-sides
returns-in-Ok-clause-sides c =
    let old = c.args.table.now in
    let between = c.form_acts.new.table in
    let keeps = c.in_ok-acts.ensures.keeps in
    record {
      below = c.in-Ok.ensures.below;
      acts_forms = c.in_ok-acts.ensures.forms;
      right_forms = forms_before old between c.args.env.now keeps c.requires.env c.args.right.now (map (fact_seen c.form_facts.new.table.trees) c.in-Ok.right.items) c.in-Ok.ensures.forms;
      within_acts = c.in_ok-acts.ensures.within;
      within_right = none_large_before old between c.args.env.now keeps c.requires.env c.args.right.now c.in-Ok.ensures.within;
    }

pub form_facts-requires-clause-env : goal.form_facts-requires-clause-env
form_facts-requires-clause-env c = forms_kept MOST_TERM_NODES c.args.table.now c.form_acts.new.table c.args.env.now c.in_ok-acts.ensures.keeps c.requires.env

pub form_facts-requires-clause-over : goal.form_facts-requires-clause-over
form_facts-requires-clause-over c = subst (λ (g : Sig). All (IsFactOver g) c.args.right.now) (sym c.in_ok-acts.ensures.keeps.sig) c.requires.over_right

pub returns-in-Err-clause-keeps : goal.returns-in-Err-clause-keeps
returns-in-Err-clause-keeps c = keeps-both c.args.table.now c.form_acts.new.table c.form_facts.new.table c.in_ok-acts.ensures.keeps c.in-Err.ensures.keeps

pub returns-in-Ok-clause-keeps : goal.returns-in-Ok-clause-keeps
returns-in-Ok-clause-keeps c = keeps-both c.args.table.now c.form_acts.new.table c.form_facts.new.table c.in_ok-acts.ensures.keeps c.in-Ok.ensures.keeps
