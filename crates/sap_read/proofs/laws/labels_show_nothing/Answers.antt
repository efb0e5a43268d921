use Rattle.std.proofs.Common.{subst, sym}
use Rattle.sap_locks.specs.Annotation.{unlabelled}
use Rattle.sap_process.specs.Flaws.{IsWellFormed}
use Rattle.sap_process.specs.Proc.{Proc}
use Rattle.sap_process.specs.ProcessSteps.{IsProcessTrace}
use Rattle.sap_macro.specs.UpToNames.{AreSameUpToNames}
use Rattle.sap_read.proofs.WithoutLabels.{same_without_labels}
use Rattle.sap_read.proofs.laws.labels_show_nothing.Goals as goal

pub returns-clause-names : goal.returns-clause-names
returns-clause-names c = λ g p sound.
    same_without_labels c.expansions_are_one.ensures c.plain_files_stay.ensures.left c.unflawed_bodies_are_closed.ensures g p (λ w o k. sound w k)

pub returns-clause-traces : goal.returns-clause-traces
returns-clause-traces c = λ g p q tr sound labelled.
    let bare : (u : Proc) → IsWellFormed g u → AreSameUpToNames u (unlabelled u) = λ u sound_too.
    same_without_labels c.expansions_are_one.ensures c.plain_files_stay.ensures.left c.unflawed_bodies_are_closed.ensures g u (λ w o k. sound_too w k) in
    let shows = c.same_up_to_names_show_the_same.ensures in
    let first = shows g p (unlabelled p) tr (bare p sound) in
    let second = shows g q (unlabelled q) tr (bare q (c.annotations_are_ready.ensures.well_formed g p q sound labelled)) in (
      λ t. second.1 (subst (λ u. IsProcessTrace g u tr) (sym labelled.same) (first.0 t)),
      λ t. first.1 (subst (λ u. IsProcessTrace g u tr) labelled.same (second.0 t)),
    )
