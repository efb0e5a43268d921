use Rattle.std.proofs.Common.{◌≡◌, List, [], map, subst, sym}
use Rattle.sap_process.specs.Proc.{Proc}
use Rattle.sap_macro.specs.Expansion.{expansion}
use Rattle.sap_macro.specs.Indexed.{defined}
use Rattle.sap_macro.specs.Located.{without_numbers}
use Rattle.sap_macro.specs.Order.{AreInOrder, UsesOnly}
use Rattle.sap_macro.specs.Sources.{definitions, located, written}
use Rattle.sap_macro.specs.Written.{Definition, Written}
use Rattle.sap_origin.specs.Definitions.{LocatedDefinition, located_definitions, plain_definition}
use Rattle.sap_origin.specs.Origins.{start}
use Rattle.sap_origin.specs.declared.trail.Replaced.TheVariants.{Every}
use Rattle.sap_file_lines.proofs.Lines.{missing_line, nowhere_line, one_lines, written_line}
use Rattle.sap_file_lines.proofs.Some.{some_lines}
use Rattle.sap_file_lines.proofs.laws.lines_are_one.Goals as goal

pub returns-clause-one : goal.returns-clause-one
returns-clause-one c = λ bytes ts ds p behind a b x y. one_lines (λ fs. c.one_written_place.ensures.one fs Every) a b x y

pub returns-clause-some : goal.returns-clause-some
returns-clause-some c = λ bytes ts ds p behind order uses.
    let whole : Proc = (expansion (map plain_definition ds) [] (without_numbers p)).process in
    let meant = c.expansions_are_meant.ensures ds p [] order uses in
    some_lines (λ fs. c.one_written_place.ensures.one fs Every) ds p behind whole
    (λ path y there. (let found = c.one_written_place.ensures.some ds (start behind) p whole y path meant there in (found.0, found.1, found.2)))
    (λ path z q reaches. (let found = c.one_written_place.ensures.only ds (start behind) z p q whole path meant reaches in (found.0, found.1))) bytes ts

pub returns-clause-places : goal.returns-clause-places
returns-clause-places c = λ f h.
    let ds : List LocatedDefinition = located_definitions f.definitions.now f.behind.now in
    let p = located f.main.now in
    let plain : map plain_definition ds ≡ definitions f.definitions.now = c.located_definitions_are_written.ensures f.definitions.now f.behind.now h.count in
    let main : without_numbers p ≡ written f.main.now = c.located_is_written.ensures f.main.now in
    let order : AreInOrder [] (map plain_definition ds) = subst (λ (es : List Definition). AreInOrder [] es) (sym plain) h.order in
    let uses : UsesOnly (defined (map plain_definition ds)) (without_numbers p) =
    subst (λ (w : Written). UsesOnly (defined (map plain_definition ds)) w) (sym main) (subst (λ (es : List Definition). UsesOnly (defined es) (written f.main.now)) (sym plain) h.uses) in
    let found = returns-clause-some c h.bytes f.tokens.now ds p f.behind_main order uses in
    (found.0, record { tokens = h.tokens; are = found.1 })

pub returns-clause-written : goal.returns-clause-written
returns-clause-written c = λ bytes ts ds p q behind lines path z are reaches is. written_line (λ fs. c.one_written_place.ensures.one fs Every) lines are path z q reaches is

pub returns-clause-missing : goal.returns-clause-missing
returns-clause-missing c = λ bytes ts ds p q behind lines path z are reaches m. missing_line (λ fs. c.one_written_place.ensures.one fs Every) lines are path z q reaches m

pub returns-clause-nowhere : goal.returns-clause-nowhere
returns-clause-nowhere c = λ bytes ts ds p behind lines path are none. nowhere_line (λ fs. c.one_written_place.ensures.one fs Every) lines are path none
