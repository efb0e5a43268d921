use Rattle.std.proofs.Common.{codes, [], ◌∷◌, refl}
use Rattle.std.specs.Fmt.{digits}
use Rattle.sap_tell.proofs.LinesByHand.{other_end, parent, turned}
use Rattle.sap_tell.specs.Told as told
use Rattle.sap_tell.specs.ToldExamples.{hi, greeting, f_of, a_of, g_of}
use Rattle.sap_tell.proofs.told_by_hand.forms_told_by_hand.Goals as goal

pub returns-clause-end : goal.returns-clause-end
unfolding digits
returns-clause-end c = λ g d. record { doing = _; outcomes = _; done = told.ends 1; written = refl }

pub returns-clause-other_end : goal.returns-clause-other_end
returns-clause-other_end c = other_end

pub returns-clause-split : goal.returns-clause-split
unfolding digits
returns-clause-split c = λ g p. record { doing = _; outcomes = _; done = told.splits 0; written = refl }

pub returns-clause-copy : goal.returns-clause-copy
unfolding digits
returns-clause-copy c = λ g p. record { doing = _; outcomes = _; done = told.copies 0; written = refl }

pub returns-clause-parent : goal.returns-clause-parent
returns-clause-parent c = parent

pub returns-clause-name : goal.returns-clause-name
unfolding digits
returns-clause-name c = λ g d p r. record { doing = _; outcomes = _; done = told.makes_name 1 7 r; written = refl }

pub returns-clause-send : goal.returns-clause-send
unfolding digits
returns-clause-send c = λ g d p r. record { doing = _; outcomes = _; done = told.outputs_on 1 0 hi r refl; written = refl }

pub returns-clause-take : goal.returns-clause-take
unfolding digits
returns-clause-take c = λ g d p r f. record { doing = _; outcomes = _; done = told.inputs 1 0 greeting r refl f; written = refl }

pub returns-clause-receive : goal.returns-clause-receive
unfolding digits
returns-clause-receive c = λ g d p r m q. record { doing = _; outcomes = _; done = told.inputs_on 1 0 greeting r refl m q; written = refl }

pub returns-clause-meet : goal.returns-clause-meet
unfolding digits
returns-clause-meet c = λ g d p q r u f k n. record { doing = _; outcomes = _; done = told.meets 1 2 greeting r u k n f; written = refl }

pub returns-clause-other_branch : goal.returns-clause-other_branch
unfolding digits
returns-clause-other_branch c = λ g d p q r. record { doing = _; outcomes = _; done = told.differs 1 r; written = refl }

pub returns-clause-turned : goal.returns-clause-turned
returns-clause-turned c = turned

pub returns-clause-delete : goal.returns-clause-delete
unfolding digits
returns-clause-delete c = λ g d p r. record { doing = _; outcomes = _; done = told.deletes 1 r; written = refl }

pub returns-clause-find : goal.returns-clause-find
unfolding digits
returns-clause-find c = λ g d p q r. record { doing = _; outcomes = _; done = told.finds 1 r; written = refl }

pub returns-clause-miss : goal.returns-clause-miss
unfolding digits
returns-clause-miss c = λ g d p q r. record { doing = _; outcomes = _; done = told.misses 1 r; written = refl }

pub returns-clause-unlock : goal.returns-clause-unlock
unfolding digits
returns-clause-unlock c = λ g d p n r. record { doing = _; outcomes = _; done = told.unlocks 1 r; written = refl }

pub returns-clause-rule : goal.returns-clause-rule
unfolding digits
returns-clause-rule c = λ g d p rest r m l k e q. record {
  doing = _;
  outcomes = _;
  done = told.embeds 1 (0 ∷ []) [] greeting (f_of hi ∷ []) (a_of hi ∷ []) (g_of hi ∷ []) r m tt l k e q;
  written = refl;
}

pub returns-clause-own_name : goal.returns-clause-own_name
unfolding digits
returns-clause-own_name c = λ g d. record { doing = _; outcomes = _; done = told.names 5; written = refl }

pub returns-clause-write : goal.returns-clause-write
unfolding digits
returns-clause-write c = λ g d. record { doing = _; outcomes = _; done = told.writes (codes "hi"); written = refl }

pub returns-clause-know : goal.returns-clause-know
unfolding digits
returns-clause-know c = λ g d. record { doing = _; outcomes = _; done = told.knows 0 hi refl; written = refl }
