-- What rules show and add is over the signature.
use Rattle.sap_translate.specs.Members.{Member}
use Rattle.std.specs.Prelude.{◌≡◌, ◌⊎◌, true, false, List, [], ◌∷◌}
use Rattle.sap_terms.specs.Message.{IsOver}
use Rattle.sap_terms.specs.Reserved.{is_reserved}
use Rattle.sap_terms.specs.Signature.{Sig}
use Rattle.sap_terms.specs.Tree.{Tree}
use Rattle.sap_terms.specs.declared.fact.Fact.{Fact}
use Rattle.sap_process.specs.Action as action
use Rattle.sap_process.specs.Action.{Action}
use Rattle.sap_process.specs.Proc as whole
use Rattle.sap_process.specs.Proc.{Proc, act}
use Rattle.sap_rule.specs.declared.rule.Rule.{Rule}
use Rattle.sap_translate.specs.Scoped.{AreUnreserved}

-- each of the terms is over the signature
abbrev pub TermsOver : Sig → List Tree → Type 0
TermsOver g [] = Unit {0}
TermsOver g (t ∷ ts) = IsOver g t × TermsOver g ts

-- so is each argument of the facts
abbrev pub FactsOver : Sig → List Fact → Type 0
FactsOver g [] = Unit {0}
FactsOver g (f ∷ fs) = TermsOver g f.args × FactsOver g fs

-- what an action shows or adds is over the signature, and no fact of its own is reserved
abbrev pub IsActionOver : Sig → Action → Type 0
IsActionOver g (action.new x) = Unit {0}
IsActionOver g (action.out m) = IsOver g m
IsActionOver g (action.send m n) = IsOver g m × IsOver g n
IsActionOver g (action.input m) = Unit {0}
IsActionOver g (action.receive m n) = Unit {0}
IsActionOver g (action.event f) = (is_reserved f.name ≡ false) × TermsOver g f.args
IsActionOver g (action.insert m n) = IsOver g m × IsOver g n
IsActionOver g (action.delete m) = IsOver g m
IsActionOver g (action.lock m i) = IsOver g m
IsActionOver g (action.unlock m i) = IsOver g m
IsActionOver g (action.embedded l a r) = AreUnreserved a × FactsOver g a × FactsOver g r

-- so it is in the whole process
abbrev pub IsProcessOver : Sig → Proc → Type 0
IsProcessOver g whole.nil = Unit {0}
IsProcessOver g (whole.parallel p q) = IsProcessOver g p × IsProcessOver g q
IsProcessOver g (whole.replicated p) = IsProcessOver g p
IsProcessOver g (act a p) = IsActionOver g a × IsProcessOver g p
IsProcessOver g (whole.test m n p q) = IsOver g m × IsOver g n × IsProcessOver g p × IsProcessOver g q
IsProcessOver g (whole.lookup m x p q) = IsOver g m × IsProcessOver g p × IsProcessOver g q

-- a fact that a rule shows has terms over the signature, or those of a fact that the rule takes, and is linear where its
-- name is reserved
abbrev pub ActOver : Sig → List Fact → Fact → Type 0
ActOver g left f = (is_reserved f.name ≡ true → f.persistent ≡ false) × (TermsOver g f.args ⊎ ((h : Fact) × Member h left × (h.args ≡ f.args)))

-- so it is with each fact that the rule shows
abbrev pub ActsOver : Sig → List Fact → List Fact → Type 0
ActsOver g left [] = Unit {0}
ActsOver g left (f ∷ fs) = ActOver g left f × ActsOver g left fs

-- what the rule shows and adds is over the signature
pub record IsOutcomeOver (g : Sig) (r : Rule) : Type 0 where
  pub acts : ActsOver g r.left r.acts
  pub right : FactsOver g r.right

-- so is what each of the rules does
abbrev pub RulesOver : Sig → List Rule → Type 0
RulesOver g [] = Unit {0}
RulesOver g (r ∷ rs) = IsOutcomeOver g r × RulesOver g rs
