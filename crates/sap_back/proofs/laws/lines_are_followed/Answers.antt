use Rattle.sap_back.proofs.Convert.{begins_along, ends_tabled, lines_followed}
use Rattle.sap_back.proofs.Premises.{Laws}
use Rattle.sap_back.proofs.Tabled.{begins_tabled}
use Rattle.sap_back.proofs.laws.lines_are_followed.Goals as goal

pub returns : goal.returns
returns c =
    let f = c.rule_steps_are_followed.ensures in
    let t = c.terms_stand_under_choices.ensures in
    let o = c.rules_leave_open.ensures in
    let shown = c.sound_processes_are_shown.ensures in
    let steps = c.lines_are_steps.ensures in
    let laws : Laws = record {
      begins = f.begins;
      follows_init = f.follows_init;
      follows_nil = f.follows_nil;
      follows_parallel = f.follows_parallel;
      follows_rep_start = f.follows_rep_start;
      follows_rep_copy = f.follows_rep_copy;
      follows_new = f.follows_new;
      follows_out = f.follows_out;
      follows_out_adv = f.follows_out_adv;
      follows_out_msg = f.follows_out_msg;
      follows_out_ack = f.follows_out_ack;
      follows_in = f.follows_in;
      follows_in_adv = f.follows_in_adv;
      follows_in_msg = f.follows_in_msg;
      follows_then = f.follows_then;
      follows_else = f.follows_else;
      follows_event = f.follows_event;
      follows_insert = f.follows_insert;
      follows_delete = f.follows_delete;
      follows_found = f.follows_found;
      follows_missing = f.follows_missing;
      follows_lock = f.follows_lock;
      follows_unlock = f.follows_unlock;
      follows_rule = f.follows_rule;
      follows_fresh = f.follows_fresh;
      follows_learn = f.follows_learn;
      follows_own = f.follows_own;
      follows_public = f.follows_public;
      follows_apply = f.follows_apply;
      follows_give = f.follows_give;
      follows_every = f.follows_every;
      sound = c.rules_show_the_process.ensures.sound;
      ready = c.annotations_are_ready.ensures.ready;
      origin = c.rules_are_found_by_name.ensures.origin;
      places = o.places;
      instances = o.instances;
      variables = t.variables;
      old = t.stays;
      picks = t.picks;
      terms = t.terms;
      facts = t.facts;
      over = shown.over;
      messages = shown.messages;
      prefix = c.restrictions_say_sentences.ensures.prefix;
      steps = steps.small_steps;
      runs = steps.small_runs;
      each_form = c.each_term_has_a_normal_form.ensures;
      one_form = c.normal_forms_are_unique.ensures;
      decide = c.normal_forms_decide.ensures;
      leaves = c.leaves_are_normal.ensures;
    } in
    record {
      begins = λ g p q hold ready small annotated. begins_along laws g p q hold ready small annotated;
      tabled = begins_tabled;
      lines = λ g p q hold ready small annotated. lines_followed laws g p q hold ready small annotated;
      ends = λ g p q hold ready small annotated. ends_tabled laws g p q hold ready small annotated;
    }
