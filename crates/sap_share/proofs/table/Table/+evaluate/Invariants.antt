use Rattle.std.proofs.Common.{◌≤◌, ◌+◌, ◌*◌, length, take, drop, map}
use Rattle.std.specs.List.{AllZip}
use Rattle.sap_terms.specs.Choice.{instance}
use Rattle.sap_terms.specs.Equations.{equations}
use Rattle.sap_terms.specs.Normal.{IsNormalForm}
use Rattle.sap_terms.specs.Subterms.{SomeSubtermWithin}
use Rattle.sap_terms.specs.Tree.{node_count, trees_count, trees_of}
use Rattle.sap_terms.specs.View.{tree}
use Rattle.sap_rewrite.specs.Large.{HasLargeForm}
use Rattle.sap_share.specs.Shared.{trees_at, AreBelow, Keeps}
use Rattle.sap_share.specs.Env.{given}
use Rattle.sap_share.proofs.table.Table.+evaluate.Given as goal

abbrev pub decreases-evaluate : goal.decreases-evaluate
decreases-evaluate l = 2 * node_count (tree l.t.now)

abbrev pub decreases-evaluate_all : goal.decreases-evaluate_all
decreases-evaluate_all l = 2 * trees_count (trees_of l.ts.now) + 1

abbrev pub invariant-evaluate_all-loop-i : goal.invariant-evaluate_all-loop-i
invariant-evaluate_all-loop-i l = record {
  forms : AllZip (IsNormalForm (equations l.initial.self.sig)) (map (instance (given l.initial.self.trees l.env)) (take l.i l.ts)) (trees_at l.self.trees l.ks);
  below : AreBelow (length l.self.trees) l.ks;
  keeps : Keeps l.initial.self l.self;
  few : length l.self.trees ≤ length l.initial.self.trees + 2 * trees_count (trees_of (take l.i l.ts));
  rest : SomeSubtermWithin (HasLargeForm (equations l.initial.self.sig) l.most) (trees_of (map (instance (given l.initial.self.trees l.env)) l.ts))
      → SomeSubtermWithin (HasLargeForm (equations l.initial.self.sig) l.most) (trees_of (map (instance (given l.initial.self.trees l.env)) (drop l.i l.ts)));
}
