use Rattle.sap_gen.proofs.Lemmas.KeptByHand.{inlined_other_name, inlined_other_signature, kept_inlined, plain_lemma, some_restriction}
use Rattle.sap_gen.proofs.Lemmas.LemmaLaws.{LemmaLaws}
use Rattle.sap_gen.proofs.kept_examples.kept_inlined_by_hand.Goals as goal

pub returns : goal.returns
returns c =
    let laws : LemmaLaws = record {
      leaves = c.leaves_are_normal.ensures;
      shown = record {
        parts = c.sound_processes_are_shown.ensures.parts;
        all = c.sound_processes_are_shown.ensures.all;
        only = c.sound_processes_are_shown.ensures.only;
        messages = c.sound_processes_are_shown.ensures.messages;
        needed = c.sound_processes_are_shown.ensures.needed;
        starts = c.sound_processes_are_shown.ensures.starts;
      };
      hide = c.hiding_keeps_truth.ensures;
      for_all = c.inlining_keeps_lemmas.ensures.for_all;
      for_some = c.inlining_keeps_lemmas.ensures.for_some;
    } in
    record {
      kept = kept_inlined laws;
      other_name = inlined_other_name;
      other_signature = inlined_other_signature;
      some_restriction = some_restriction;
      plain_lemma = plain_lemma;
    }
