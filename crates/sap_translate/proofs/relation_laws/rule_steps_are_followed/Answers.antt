use Rattle.sap_translate.proofs.Premises.LowerLaws.{Laws}
use Rattle.sap_translate.proofs.Related.FollowControl.{follows_init, follows_nil, follows_parallel, follows_rep_start, follows_rep_copy, follows_out, follows_then, follows_else, follows_event, follows_fresh, follows_learn, follows_own, follows_public, follows_apply, follows_give, takes_back}
use Rattle.sap_translate.proofs.Related.FollowStores.{follows_new, follows_insert, follows_delete, follows_found, follows_missing, follows_lock, follows_unlock}
use Rattle.sap_translate.proofs.Related.FollowMessages.{follows_out_adv, follows_out_msg, follows_out_ack, follows_in, follows_in_adv, follows_in_msg}
use Rattle.sap_translate.proofs.Related.FollowRule.{follows_rule}
use Rattle.sap_translate.proofs.Related.Public.{where_together, begins_ready, follows_every}
use Rattle.sap_translate.specs.relation.Followed.{FollowsInit, FollowsNil, FollowsParallel, FollowsRepStart, FollowsRepCopy, FollowsNew, FollowsOut, FollowsOutAdv, FollowsOutMsg, FollowsOutAck, FollowsIn, FollowsInAdv, FollowsInMsg, FollowsThen, FollowsElse, FollowsEvent, FollowsInsert, FollowsDelete, FollowsFound, FollowsMissing, FollowsLock, FollowsUnlock, FollowsRule, FollowsFresh, FollowsLearn, FollowsOwn, FollowsPublic, FollowsApply, FollowsGive, TakesBack, FollowsEvery}
use Rattle.sap_translate.proofs.relation_laws.rule_steps_are_followed.Goals as goal

pub returns : goal.returns
returns c =
    let laws : Laws = record {
      leaves = c.leaves_are_normal.ensures;
      has_form = c.each_term_has_a_normal_form.ensures;
      one_form = c.normal_forms_are_unique.ensures;
      kept = c.equality_is_kept.ensures;
      messages = c.forms_are_messages.ensures;
      unchanged = c.instances_of_processes.ensures.unchanged;
      twice = c.instances_of_processes.ensures.twice;
      admitted = c.restrictions_say_sentences.ensures.admitted;
      needed = c.restrictions_say_sentences.ensures.needed;
      needs = c.restrictions_say_sentences.ensures.needs;
    } in
    record {
      begins = begins_ready;
      follows_init = where_together laws FollowsInit (λ g start hold fine. follows_init laws g start fine);
      follows_nil = where_together laws FollowsNil (λ g start hold fine. follows_nil laws g start fine);
      follows_parallel = where_together laws FollowsParallel (λ g start hold fine. follows_parallel laws g start fine);
      follows_rep_start = where_together laws FollowsRepStart (λ g start hold fine. follows_rep_start laws g start fine);
      follows_rep_copy = where_together laws FollowsRepCopy (λ g start hold fine. follows_rep_copy laws g start fine);
      follows_new = where_together laws FollowsNew (λ g start hold fine. follows_new laws g start hold fine);
      follows_out = where_together laws FollowsOut (λ g start hold fine. follows_out laws g start fine);
      follows_out_adv = where_together laws FollowsOutAdv (λ g start hold fine. follows_out_adv laws g start fine);
      follows_out_msg = where_together laws FollowsOutMsg (λ g start hold fine. follows_out_msg laws g start fine);
      follows_out_ack = where_together laws FollowsOutAck (λ g start hold fine. follows_out_ack laws g start fine);
      follows_in = where_together laws FollowsIn (λ g start hold fine. follows_in laws g start fine);
      follows_in_adv = where_together laws FollowsInAdv (λ g start hold fine. follows_in_adv laws g start fine);
      follows_in_msg = where_together laws FollowsInMsg (λ g start hold fine. follows_in_msg laws g start fine);
      follows_then = where_together laws FollowsThen (λ g start hold fine. follows_then laws g start fine);
      follows_else = where_together laws FollowsElse (λ g start hold fine. follows_else laws g start fine);
      follows_event = where_together laws FollowsEvent (λ g start hold fine. follows_event laws g start fine);
      follows_insert = where_together laws FollowsInsert (λ g start hold fine. follows_insert laws g start hold fine);
      follows_delete = where_together laws FollowsDelete (λ g start hold fine. follows_delete laws g start hold fine);
      follows_found = where_together laws FollowsFound (λ g start hold fine. follows_found laws g start hold fine);
      follows_missing = where_together laws FollowsMissing (λ g start hold fine. follows_missing laws g start hold fine);
      follows_lock = where_together laws FollowsLock (λ g start hold fine. follows_lock laws g start hold fine);
      follows_unlock = where_together laws FollowsUnlock (λ g start hold fine. follows_unlock laws g start hold fine);
      follows_rule = where_together laws FollowsRule (λ g start hold fine. follows_rule laws g start fine);
      follows_fresh = where_together laws FollowsFresh (λ g start hold fine. follows_fresh laws g start fine);
      follows_learn = where_together laws FollowsLearn (λ g start hold fine. follows_learn laws g start fine);
      follows_own = where_together laws FollowsOwn (λ g start hold fine. follows_own laws g start fine);
      follows_public = where_together laws FollowsPublic (λ g start hold fine. follows_public laws g start fine);
      follows_apply = where_together laws FollowsApply (λ g start hold fine. follows_apply laws g start fine);
      follows_give = where_together laws FollowsGive (λ g start hold fine. follows_give laws g start fine);
      takes_back = where_together laws TakesBack (λ g start hold fine. takes_back laws g start fine);
      follows_every = where_together laws FollowsEvery (follows_every laws);
    }
