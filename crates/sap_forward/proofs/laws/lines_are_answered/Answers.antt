use Rattle.sap_forward.proofs.Answer.{answer}
use Rattle.sap_forward.proofs.Convert.{init_is, first_linked}
use Rattle.sap_forward.proofs.Limited.{small_is_limit}
use Rattle.sap_forward.proofs.Premises.{Laws}
use Rattle.sap_runs.specs.Limits.{HasFewNodes}
use Rattle.sap_forward.proofs.laws.lines_are_answered.Goals as goal

pub returns : goal.returns
returns c =
    let a = c.process_steps_are_answered.ensures in
    let f = c.rule_steps_are_followed.ensures in
    let t = c.terms_stand_under_choices.ensures in
    let o = c.rules_leave_open.ensures in
    let laws : Laws = record {
      starts = a.starts;
      shows_the_same = a.shows_the_same;
      ends = a.ends;
      splits = a.splits;
      copies_first = a.copies_first;
      copies_more = a.copies_more;
      makes_name = a.makes_name;
      outputs = a.outputs;
      outputs_on = a.outputs_on;
      inputs = a.inputs;
      inputs_on = a.inputs_on;
      meets = a.meets;
      agrees = a.agrees;
      differs = a.differs;
      shows = a.shows;
      inserts = a.inserts;
      deletes = a.deletes;
      finds = a.finds;
      misses = a.misses;
      locks = a.locks;
      unlocks = a.unlocks;
      embeds = a.embeds;
      adversary_makes = a.adversary_makes;
      knows = a.knows;
      follows_learn = f.follows_learn;
      follows_public = f.follows_public;
      follows_apply = f.follows_apply;
      sound = c.rules_show_the_process.ensures.sound;
      ready = c.annotations_are_ready.ensures.ready;
      named = c.rules_are_found_by_name.ensures.named;
      places = o.places;
      instances = o.instances;
      choices = o.choices;
      init = o.init;
      variables = t.variables;
      old = t.stays;
      new = t.comes;
      terms = t.terms;
      longer = t.longer;
      patterns = t.patterns;
      facts = t.facts;
      pairs = t.pairs;
      kept = c.equality_is_kept.ensures;
      each_form = c.each_term_has_a_normal_form.ensures;
      one_form = c.normal_forms_are_unique.ensures;
      decide = c.normal_forms_decide.ensures;
      modulo = c.matching_is_modulo.ensures;
      leaves = c.leaves_are_normal.ensures;
    } in
    record {
      starts = λ g p q ready small annotated. record { line = init_is laws g HasFewNodes q; linked = λ drawn. first_linked laws g p q ready small annotated drawn };
      lines = λ g p q hold ready small annotated drawn tables agents c d es fs tr s full step inner label lk can exact draws is. answer laws g HasFewNodes p q hold ready small annotated drawn agents c es tr s full tables lk (small_is_limit laws.one_form g) can exact step inner label d fs draws is;
    }
