use Rattle.std.proofs.Common.{ℕ, List, subst, ◌<◌}
use Rattle.sap_terms.specs.Equations.{equations}
use Rattle.sap_terms.specs.Tree.{apply, trees_of, node_count}
use Rattle.sap_share.specs.Shared.{tree_at, trees_at}
use Rattle.sap_share.proofs.Kept.{keeps-self, numbered_keeps}
use Rattle.sap_share.proofs.Reduced.{large_own}
use Rattle.sap_share.proofs.table.Table.normal_on.Goals as goal

pub returns-in-Ok-clause-large : goal.returns-in-Ok-clause-large
returns-in-Ok-clause-large c =
    let s = c.args.self.now in
    let own = large_own c.symbols_reduce_once.ensures (equations s.sig) c.args.f.now (trees_at s.trees c.args.ks) c.args.most c.requires.normal c.in-Nothing.ensures in
    let P : List ℕ → Type 0 = λ n. c.args.most < node_count (apply n (trees_of (trees_at s.trees c.args.ks))) in
    λ h. own (subst P c.in-Ok.ensures (c.small_number.ensures.large h))

pub returns-then-size-most-clause-keeps : goal.returns-then-size-most-clause-keeps
returns-then-size-most-clause-keeps c = keeps-self c.args.self.now

pub returns-else-size-most-clause-keeps : goal.returns-else-size-most-clause-keeps
returns-else-size-most-clause-keeps c = keeps-self c.args.self.now

pub returns-in-Err-clause-keeps : goal.returns-in-Err-clause-keeps
returns-in-Err-clause-keeps c = keeps-self c.args.self.now

pub returns-in-Truth-clause-keeps : goal.returns-in-Truth-clause-keeps
returns-in-Truth-clause-keeps c = numbered_keeps c.args.self.now c.truth_number-number.new.self _ c.truth_number-number.result c.truth_number-number.ensures.ok c.truth_number-number.ensures.err

pub returns-in-Ok-clause-keeps : goal.returns-in-Ok-clause-keeps
returns-in-Ok-clause-keeps c = numbered_keeps c.args.self.now c.small_number.new.self _ c.small_number.result c.small_number.ensures.ok c.small_number.ensures.err

pub returns-else-size-most-clause-form : goal.returns-else-size-most-clause-form
returns-else-size-most-clause-form c =
    let s = c.args.self.now in
    let ts = trees_at s.trees c.args.ks in
    c.symbols_reduce_once.ensures.right_side_is_form (equations s.sig) c.args.f.now (trees_of ts) (tree_at s.trees c.in-Part.k) (c.symbols_reduce_once.ensures.of_lists (equations s.sig) ts c.requires.normal) c.in-Part.ensures.1
