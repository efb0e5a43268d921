use Rattle.std.proofs.Common.{◌≡◌, ◌<◌, ℕ, List, [], length, sym, ap, ◌∙◌, subst, nat_eq}
use Rattle.std.specs.Prelude.{slice_index_or, slice_set}
use Rattle.std.proofs.lemmas.List.{get_or_read, length-set}
use Rattle.std.proofs.lemmas.Result.{on_ok_weaker}
use Rattle.indexmap.specs.IndexSet.{insert_key}
use Rattle.sap_players.specs.Numbers.{AreRoleNumbers}
use Rattle.sap_players.proofs.Placed.{one_done}
use Rattle.sap_players.proofs.numbers.RoleNumbers.note.Goals as goal

pub returns-clause-more : goal.returns-clause-more
returns-clause-more c =
    let xs = c.self.inside.roles.items in
    let role = c.args.role in
    let thread = c.args.thread in
    let inside : role < length xs = subst (λ (ys : List (List ℕ)). role < length ys) (sym c.self.view_is) c.requires in
    let here : c.index_mut.result.now ≡ slice_index_or xs role [] = get_or_read xs role c.index_mut.result.now inside c.index_mut.ensures.value [] in
    on_ok_weaker c.add.result
    (λ is ds are r within.
    ap (λ (v : List ℕ). slice_index_or (slice_set xs role v) r []) (is ∙ ap (λ (ys : List ℕ). insert_key nat_eq ys thread) here)
    ∙ one_done ds xs thread role inside (subst (AreRoleNumbers ds) (sym c.self.view_is) are) r (subst (λ (n : ℕ). r < n) (length-set xs role c.add.new.self) within))
    c.add.ensures
