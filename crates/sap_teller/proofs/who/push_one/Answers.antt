use Rattle.std.proofs.Common.{◌≡◌, ℕ, List, ◌++◌, subst, sym, ap, ◌∙◌, OnOk}
use Rattle.std.specs.Prelude.{Option}
use Rattle.sap_tell.specs.Stages.{part_by}
use Rattle.sap_tell.specs.ThreadPaths.{path_of}
use Rattle.sap_tell.specs.ToldText.{thread_by}
use Rattle.sap_teller.proofs.who.push_one.Goals as goal

pub returns : goal.returns
returns c = λ s on.
    let t = c.args.t in
    let part = c.part_of-part.ensures s.cast s.played on.cast on.numbers_are ∙ ap (λ (q : List ℕ). part_by s.cast s.played q t) c.digits.ensures in
    let same = ap (λ (o : Option (List ℕ × ℕ)). thread_by o c.args.paths.now t) part ∙ (λ i. thread_by (part_by s.cast s.played (path_of (sym on.paths_are i) t) t) (sym on.paths_are i) t) in
    subst (λ (w : List ℕ). OnOk c.push_thread.result (c.push_thread.new.text ≡ c.args.text.now ++ w)) same c.push_thread.ensures
