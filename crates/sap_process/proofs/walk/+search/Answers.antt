use Rattle.std.proofs.Common.{ℕ, List, [], ◌∷◌, ◌++◌}
use Rattle.std.proofs.lemmas.Result.{on_ok_weaker}
use Rattle.sap_terms.specs.declared.var.Var.{Var}
use Rattle.sap_process.specs.Proc.{proc}
use Rattle.sap_process.specs.Sites.{sites_from, message_var}
use Rattle.sap_process.proofs.Searching.{searched-both}
use Rattle.sap_process.proofs.walk.+search.Goals as goal

pub search_both-returns : goal.search_both-returns
search_both-returns t c =
    let a = c.args.walk.now in
    let k = c.args.locks in
    on_ok_weaker c.search_child-2.result (searched-both c.args.sig.now (sites_from (a.trail ++ 1 ∷ []) a.scope k (proc c.args.q.now)) (λ (path : List ℕ) (scope : List Var). sites_from (path ++ 2 ∷ []) scope k (proc c.args.r.now)) a c.search_child.new.walk c.search_child-2.new.walk c.in_ok-search_child.ensures) c.search_child-2.ensures

pub search_branches-returns : goal.search_branches-returns
search_branches-returns t c =
    let a = c.args.walk.now in
    let k = c.args.locks in
    on_ok_weaker c.search_child.result (searched-both c.args.sig.now (sites_from (a.trail ++ 1 ∷ []) (a.scope ++ message_var c.args.x.now ∷ []) k (proc c.args.q.now)) (λ (path : List ℕ) (scope : List Var). sites_from (path ++ 2 ∷ []) scope k (proc c.args.r.now)) a c.search_with.new.walk c.search_child.new.walk c.in_ok-search_with.ensures) c.search_child.ensures
