use Rattle.std.specs.Prelude.{Contains}
use Rattle.sap_gen.proofs.After.{shortenings-show-the-same}
use Rattle.sap_gen.proofs.Normals.{runs_hold_normal}
use Rattle.sap_gen.proofs.short_laws.shortenings_show_the_same.Goals as goal

pub returns : goal.returns
returns c = λ g silent rules shorts moves b made short tr.
    shortenings-show-the-same c.each_term_has_a_normal_form.ensures c.normal_forms_are_unique.ensures c.normal_terms_decide.ensures g (Contains silent) moves rules shorts short
    (runs_hold_normal c.runs_reach_messages.ensures g rules b made) tr
