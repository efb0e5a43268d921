use Rattle.std.proofs.Common.{◌∙◌, ◌++◌, ◌∷◌, [], ℕ, List, ap, arith}
use Rattle.sap_process_lines.proofs.NumberLists.{count_more}
use Rattle.sap_process_lines.proofs.cited.count_up.Goals as goal

pub loop-k-preserved : goal.loop-k-preserved
loop-k-preserved c =
    c.in_ok-push.ensures.items ∙ ap (λ (ks : List ℕ). ks ++ c.loop-k.k ∷ []) c.loop-k.invariant ∙ count_more c.args.list.now.items c.args.first c.loop-k.k (omega arith)
