use Rattle.std.proofs.Common.{◌≡◌, ◌∷◌, refl, ap}
use Rattle.sap_terms.specs.Tree.{Tree, variable, apply, more}
use Rattle.sap_terms.specs.declared.var.Sort.{Sort}
use Rattle.sap_terms.specs.declared.var.Sort.TheVariants.{Fresh, Msg}
use Rattle.sap_process.specs.Action.{input}
use Rattle.sap_macro.specs.Written.{Written, call, parallel, act}
use Rattle.sap_macro.proofs.sorting_laws.sorted_by_hand.Goals as goal

-- of the first name in a pair, in the pattern of an input or in the first argument of the second process
term_sort : Tree → Sort
term_sort (variable v) = v.sort
term_sort (apply f (more (variable v) ts)) = v.sort
term_sort _ = Msg

first_sort : Written → Sort
first_sort (act (input t) p) = term_sort t
first_sort (parallel p (call f (t ∷ ts))) = term_sort t
first_sort _ = Msg

apart : ¬ (Msg ≡ Fresh)
apart e = cc

pub returns-clause-fresh : goal.returns-clause-fresh
returns-clause-fresh c = refl

pub returns-clause-message : goal.returns-clause-message
returns-clause-message c = refl

pub returns-clause-first_counts : goal.returns-clause-first_counts
unfolding first_sort term_sort
returns-clause-first_counts c = λ e. apart (ap first_sort e)

pub returns-clause-new_name : goal.returns-clause-new_name
returns-clause-new_name c = refl

pub returns-clause-found : goal.returns-clause-found
returns-clause-found c = refl

pub returns-clause-beside : goal.returns-clause-beside
returns-clause-beside c = refl

pub returns-clause-not_beside : goal.returns-clause-not_beside
unfolding first_sort term_sort
returns-clause-not_beside c = λ e. apart (ap first_sort e)

pub returns-clause-parameter : goal.returns-clause-parameter
returns-clause-parameter c = refl
