use Rattle.std.proofs.Common.{[]}
use Rattle.sap_read.proofs.WithoutParameters.{is_tree, none_asked}
use Rattle.sap_macro.specs.Expansion.{plain}
use Rattle.sap_read.proofs.laws.files_without_parameters_are_as_written.Goals as goal

pub returns-clause-left : goal.returns-clause-left
returns-clause-left c = λ z f ds p r w none.
    (is_tree c.files_show_as_they_are_written.ensures.one c.plain_uses_have_parameters.ensures c.plain_files_stay.ensures.stands z f ds p r w none).left

pub returns-clause-scope : goal.returns-clause-scope
returns-clause-scope c = λ z f ds p r w none.
    none_asked [] (plain ds p) (is_tree c.files_show_as_they_are_written.ensures.one c.plain_uses_have_parameters.ensures c.plain_files_stay.ensures.stands z f ds p r w none).left

pub returns-clause-process : goal.returns-clause-process
returns-clause-process c = λ z f ds p r w none.
    (is_tree c.files_show_as_they_are_written.ensures.one c.plain_uses_have_parameters.ensures c.plain_files_stay.ensures.stands z f ds p r w none).annotated

pub returns-clause-shows : goal.returns-clause-shows
returns-clause-shows c = λ z f ds p tr r w none.
    let tree = is_tree c.files_show_as_they_are_written.ensures.one c.plain_uses_have_parameters.ensures c.plain_files_stay.ensures.stands z f ds p r w none in
    c.files_show_as_they_are_written.ensures.shows z f ds p tr r w (none_asked [] (plain ds p) tree.left)
