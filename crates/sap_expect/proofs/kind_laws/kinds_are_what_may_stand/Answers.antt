use Rattle.sap_expect.proofs.KindCover.{all_named, only_named, whole_kinds}
use Rattle.sap_expect.proofs.KindNames.{one_list}
use Rattle.sap_expect.proofs.kind_laws.kinds_are_what_may_stand.Goals as goal

pub returns : goal.returns
returns c = record { one = λ ws those others r q. one_list r q; all = all_named; only = only_named; whole = whole_kinds }
