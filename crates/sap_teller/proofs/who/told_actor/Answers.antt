use Rattle.std.proofs.Common.{ℕ, List, ◌++◌, ap, ◌∙◌}
use Rattle.sap_tell.specs.ToldText.{actor_text}
use Rattle.sap_teller.proofs.who.told_actor.Goals as goal

pub returns : goal.returns
returns c = λ s on. c.in_ok-push_actor.ensures s on ∙ ap (λ (w : List ℕ). w ++ actor_text s c.args.step.now) c.new-text.ensures
