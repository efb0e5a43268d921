use Rattle.std.proofs.Common.{◌≡◌, ◌∙◌, List, [], Some, None, subst, sym}
use Rattle.sap_terms.specs.Signature.{pairs_alone}
use Rattle.sap_grammar.specs.Signatures.{clash_from}
use Rattle.sap_process.specs.Flaws.{IsWellFormed}
use Rattle.sap_macro.specs.Expansion.{plain}
use Rattle.sap_macro.specs.Instances.{IsClosed}
use Rattle.sap_macro.specs.Replaced.{nothing_stands, process_of}
use Rattle.sap_macro.specs.Seen.{seen}
use Rattle.sap_macro.specs.Written.{Written}
use Rattle.sap_read.specs.Causes.{cause_of}
use Rattle.sap_read.specs.FileProcess.{definitions_of}
use Rattle.sap_read.specs.Item.{Standing, bodies, declarations, statements}
use Rattle.sap_read.proofs.InOrder.{all_in_order, main_defined}
use Rattle.sap_read.proofs.PlainFiles.{none_left, only_of_size, process_stays, without_parameters}
use Rattle.sap_read.proofs.Unrefused.{AreFree, no_cause}
use Rattle.sap_read.proofs.laws.plain_files_need_no_instances.Goals as goal

free : (is : List Standing) → cause_of is ≡ None → AreFree (bodies is) (statements is) (clash_from pairs_alone (declarations is))
free is accepted = no_cause (bodies is) (statements is) (clash_from pairs_alone (declarations is)) accepted

pub returns-clause-causes : goal.returns-clause-causes
returns-clause-causes c = λ g is p e accepted plain_all main.
    let ds = definitions_of (bodies is) in
    let order = all_in_order (bodies is) (free is accepted).known (free is accepted).distinct in
    only_of_size g (bodies is) p e plain_all main
    (none_left c.plain_uses_have_parameters.ensures ds p order (main_defined (bodies is) p (free is accepted).known main) (without_parameters (bodies is) plain_all))

pub returns-clause-process : goal.returns-clause-process
returns-clause-process c = λ names is main accepted plain_all there.
    let ds = definitions_of (bodies is) in
    process_stays names (bodies is) main there (process_of nothing_stands ds main)
    (c.plain_files_stay.ensures.stands ds main names (all_in_order (bodies is) (free is accepted).known (free is accepted).distinct) (without_parameters (bodies is) plain_all))

same_main : (p q : Written) → Some p ≡ Some q → p ≡ q
same_main p q e = cc

pub returns-clause-closed : goal.returns-clause-closed
returns-clause-closed c = λ g names is p accepted plain_all whole sound.
    let ds = definitions_of (bodies is) in
    let order = all_in_order (bodies is) (free is accepted).known (free is accepted).distinct in
    let left = none_left c.plain_uses_have_parameters.ensures ds whole.main order (main_defined (bodies is) whole.main (free is accepted).known whole.is_main)
    (without_parameters (bodies is) plain_all) in
    let is_seen : p ≡ seen (plain ds whole.main) = sym whole.whole ∙ c.plain_files_stay.ensures.left ds whole.main names left in
    let clean = subst (IsWellFormed g) is_seen sound in
    record {
      used = c.used_definitions_are_closed.ensures g names is p accepted whole;
      process = λ q there. subst (λ w. IsClosed [] (plain ds w)) (same_main whole.main q (sym whole.is_main ∙ there))
          (c.unflawed_bodies_are_closed.ensures g [] (plain ds whole.main) (λ w o k. clean w k));
    }
