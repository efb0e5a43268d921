use Rattle.std.proofs.Common.{sym, subst, length, ◌<◌}
use Rattle.std.specs.Cmp.{unsigned_Decides}
use Rattle.std.specs.Cmp.Lexicographic.{pointwise_decides}
use Rattle.std.proofs.lemmas.List.Elements.{All-nil}
use Rattle.sap_terms.specs.Equations.{equations, app0, true_name}
use Rattle.sap_terms.specs.Normal.{IsNormalForm}
use Rattle.sap_terms.specs.Tree.{apply, trees_of}
use Rattle.sap_share.specs.Shared.{tree_at, trees_at}
use Rattle.sap_share.proofs.Reduced.{form_side, form_kept, other_truth, form_other}
use Rattle.sap_share.proofs.table.Table.reduct_on.Goals as goal

pub returns-then-eq : goal.returns-then-eq
returns-then-eq c =
    let s = c.args.self.now in
    let same = (pointwise_decides unsigned_Decides c.args.ks.now c.args.forms).0 (sym c.if-eq.ensures) in
    let kept = form_kept c.equality_is_kept.ensures c.symbols_reduce_once.ensures (equations s.sig) c.args.f.now (trees_at s.trees c.args.ks.now) (trees_at s.trees c.args.forms) c.requires.forms c.in-Nothing.ensures in
    subst (λ js. IsNormalForm (equations s.sig) (apply c.args.f.now (trees_of (trees_at s.trees c.args.ks.now))) (apply c.args.f.now (trees_of (trees_at s.trees js)))) (sym same) kept

pub returns-in-Part : goal.returns-in-Part
returns-in-Part c =
    let s = c.args.self.now in
    let h = c.in-Part.ensures in
    (h.0, form_side c.equality_is_kept.ensures c.symbols_reduce_once.ensures (equations s.sig) c.args.f.now (trees_at s.trees c.args.ks.now) (trees_at s.trees c.args.forms) c.requires.forms (tree_at s.trees c.in-Part.k) h.1)

pub returns-in_ok-name-in-Truth : goal.returns-in_ok-name-in-Truth
returns-in_ok-name-in-Truth c =
    let s = c.args.self.now in
    let form = form_side c.equality_is_kept.ensures c.symbols_reduce_once.ensures (equations s.sig) c.args.f.now (trees_at s.trees c.args.ks.now) (trees_at s.trees c.args.forms) c.requires.forms (app0 true_name) c.in-Truth.ensures in
    let other = other_truth c.symbols_reduce_once.ensures (equations s.sig) c.args.f.now (trees_at s.trees c.args.ks.now) (trees_at s.trees c.args.forms) c.requires.forms c.in-Truth.ensures in
    rw (c.in_ok-name-in-Truth.ensures, c.new.ensures) (All-nil (λ k. k < length s.trees), form, other)

pub returns-in-Ok : goal.returns-in-Ok
returns-in-Ok c =
    let s = c.args.self.now in
    let kept = form_kept c.equality_is_kept.ensures c.symbols_reduce_once.ensures (equations s.sig) c.args.f.now (trees_at s.trees c.args.ks.now) (trees_at s.trees c.args.forms) c.requires.forms c.in-Nothing.ensures in
    rw c.in-Ok.ensures (
      c.requires.forms_below,
      kept,
      form_other s.trees c.args.f.now c.args.ks.now c.args.forms c.each_has_one_number.ensures c.requires.below c.requires.forms_below c.eq.result c.if-eq.false c.eq.ensures,
    )
