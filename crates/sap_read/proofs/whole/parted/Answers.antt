use Rattle.std.proofs.Common.{arith, [], ◌∷◌, ◌++◌, ap, sym, ◌∙◌}
use Rattle.std.proofs.lemmas.Grind.{common_steps}
use Rattle.std.specs.Option.{option_or}
use Rattle.sap_read.specs.FileProcess.{defined_as, main_of}
use Rattle.sap_read.specs.LocatedItems.{defined_at, main_at}
use Rattle.sap_read.specs.Entries.{body, located_body}
use Rattle.sap_read.proofs.Parting.{definitions_at_more, definitions_more, main_at_more, main_more}
use Rattle.sap_read.proofs.whole.parted.Goals as goal

pub loop-entry-preserved : goal.loop-entry-preserved
loop-entry-preserved c = record {
  next = (tt, tt, grind (arith, common_steps));
  defs = c.in_ok-put.ensures.definitions ∙ ap (λ ds. ds ++ defined_as c.in-Some.entry.label (body c.in-Some.entry)) c.loop-entry.invariant.defs ∙ sym (definitions_more c.loop-entry.yielded c.in-Some.entry);
  main = c.in_ok-put.ensures.main ∙ ap (λ o. option_or o (main_of (body c.in-Some.entry ∷ []))) c.loop-entry.invariant.main ∙ sym (main_more c.loop-entry.yielded c.in-Some.entry);
  count = c.in_ok-put.ensures.count;
  defs_at = c.in_ok-put.ensures.definitions_at ∙ ap (λ ds. ds ++ defined_at c.in-Some.entry.label (located_body c.in-Some.entry)) c.loop-entry.invariant.defs_at ∙ sym (definitions_at_more c.loop-entry.yielded c.in-Some.entry);
  main_at = c.in_ok-put.ensures.main_at ∙ ap (λ o. option_or o (main_at (located_body c.in-Some.entry ∷ []))) c.loop-entry.invariant.main_at ∙ sym (main_at_more c.loop-entry.yielded c.in-Some.entry);
}
