use Rattle.sap_gen.proofs.Lemmas.KeptByHand.{hidden_lemma, hidden_restriction, kept, lemma_left_out, other_attributes, other_formula, other_lemma_name, other_mode, other_name, other_signature, own_restriction_first, own_restriction_left_out}
use Rattle.sap_gen.proofs.Lemmas.LemmaLaws.{LemmaLaws}
use Rattle.sap_gen.proofs.kept_examples.kept_by_hand.Goals as goal

pub returns : goal.returns
returns c =
    let laws : LemmaLaws = record {
      leaves = c.leaves_are_normal.ensures;
      shown = record {
        parts = c.sound_processes_are_shown.ensures.parts;
        all = c.sound_processes_are_shown.ensures.all;
        only = c.sound_processes_are_shown.ensures.only;
        messages = c.sound_processes_are_shown.ensures.messages;
        needed = c.sound_processes_are_shown.ensures.needed;
        starts = c.sound_processes_are_shown.ensures.starts;
      };
      hide = c.hiding_keeps_truth.ensures;
      for_all = c.inlining_keeps_lemmas.ensures.for_all;
      for_some = c.inlining_keeps_lemmas.ensures.for_some;
    } in
    record {
      kept = kept laws;
      other_name = other_name;
      other_signature = other_signature;
      own_restriction_left_out = own_restriction_left_out;
      own_restriction_first = own_restriction_first;
      lemma_left_out = lemma_left_out;
      other_lemma_name = other_lemma_name;
      other_attributes = other_attributes;
      other_mode = other_mode;
      other_formula = other_formula;
      hidden_restriction = hidden_restriction laws.shown;
      hidden_lemma = hidden_lemma laws.shown;
    }
