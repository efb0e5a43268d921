use Rattle.sap_translate.proofs.Premises.LowerLaws.{Laws}
use Rattle.sap_translate.proofs.Related.Control.{ends, splits, copies_first, copies_more, outputs, agrees, differs, shows}
use Rattle.sap_translate.proofs.Related.Stores.{inserts, deletes, finds, misses, locks, unlocks}
use Rattle.sap_translate.proofs.Related.Names.{makes_name, adversary_makes, knows}
use Rattle.sap_translate.proofs.Related.Messages.{outputs_on, inputs, inputs_on}
use Rattle.sap_translate.proofs.Related.Meets.{meets}
use Rattle.sap_translate.proofs.Related.Embedded.{embeds}
use Rattle.sap_translate.proofs.Related.Learnt.{deduces}
use Rattle.sap_translate.proofs.Related.Every.{every}
use Rattle.sap_translate.proofs.Related.Public.{where_ready, starts_ready, shows_the_same}
use Rattle.sap_translate.specs.relation.Answered.{Ends, Splits, CopiesFirst, CopiesMore, MakesName, Outputs, OutputsOn, Inputs, InputsOn, Meets, Agrees, Differs, Shows, Inserts, Deletes, Finds, Misses, Locks, Unlocks, Embeds, AdversaryMakes, Knows, Deduces, Every}
use Rattle.sap_translate.proofs.relation_laws.process_steps_are_answered.Goals as goal

pub returns : goal.returns
returns c =
    let laws : Laws = record {
      leaves = c.leaves_are_normal.ensures;
      has_form = c.each_term_has_a_normal_form.ensures;
      one_form = c.normal_forms_are_unique.ensures;
      kept = c.equality_is_kept.ensures;
      messages = c.forms_are_messages.ensures;
      unchanged = c.instances_of_processes.ensures.unchanged;
      twice = c.instances_of_processes.ensures.twice;
      admitted = c.restrictions_say_sentences.ensures.admitted;
      needed = c.restrictions_say_sentences.ensures.needed;
      needs = c.restrictions_say_sentences.ensures.needs;
    } in
    record {
      starts = starts_ready laws;
      shows_the_same = shows_the_same laws;
      ends = where_ready Ends (λ g start hold fine. ends laws g start fine);
      splits = where_ready Splits (λ g start hold fine. splits laws g start fine);
      copies_first = where_ready CopiesFirst (λ g start hold fine. copies_first laws g start fine);
      copies_more = where_ready CopiesMore (λ g start hold fine. copies_more laws g start fine);
      makes_name = where_ready MakesName (λ g start hold fine. makes_name laws g start fine);
      outputs = where_ready Outputs (λ g start hold fine. outputs laws g start fine);
      outputs_on = where_ready OutputsOn (λ g start hold fine. outputs_on laws g start fine);
      inputs = where_ready Inputs (λ g start hold fine. inputs laws g start fine);
      inputs_on = where_ready InputsOn (λ g start hold fine. inputs_on laws g start fine);
      meets = where_ready Meets (λ g start hold fine. meets laws g start fine);
      agrees = where_ready Agrees (λ g start hold fine. agrees laws g start fine);
      differs = where_ready Differs (λ g start hold fine. differs laws g start fine);
      shows = where_ready Shows (λ g start hold fine. shows laws g start fine);
      inserts = where_ready Inserts (λ g start hold fine. inserts laws g start hold fine);
      deletes = where_ready Deletes (λ g start hold fine. deletes laws g start hold fine);
      finds = where_ready Finds (λ g start hold fine. finds laws g start hold fine);
      misses = where_ready Misses (λ g start hold fine. misses laws g start hold fine);
      locks = where_ready Locks (λ g start hold fine. locks laws g start hold fine);
      unlocks = where_ready Unlocks (λ g start hold fine. unlocks laws g start hold fine);
      embeds = where_ready Embeds (λ g start hold fine. embeds laws g start fine);
      adversary_makes = where_ready AdversaryMakes (λ g start hold fine. adversary_makes laws g start fine);
      knows = where_ready Knows (λ g start hold fine. knows laws g start fine);
      deduces = where_ready Deduces (λ g start hold fine. deduces laws g start);
      every = where_ready Every (λ g start hold fine. every laws g start hold fine);
    }
