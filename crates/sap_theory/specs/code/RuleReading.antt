-- Reading rules from the left, as the code does it.
use Rattle.std.specs.Prelude.{ℕ, true, if◌then◌else◌, codes, List, [], drop, Some, None}
use Rattle.sap_terms.specs.declared.fact.Fact.{Fact}
use Rattle.sap_terms.specs.Signature.{Sig}
use Rattle.sap_rule.specs.declared.rule.Rule.{Rule}
use Rattle.sap_grammar.specs.declared.limits.Limits.{Limits}
use Rattle.sap_grammar.specs.Words.{Word, starts}
use Rattle.sap_grammar.specs.Reading.{Reader, after, given, name_at, past}
use Rattle.sap_grammar.specs.TermReading.{facts}

-- behind what is shown: the right side, and the rule
abbrev pub right_side : Sig → Limits → List ℕ → List Fact → List Fact → Reader Rule
right_side g m x l e ws =
    past (codes "[") ws (λ r. after (facts g m true (codes "]") r) (λ fs z. Some (record { name = x; left = l; acts = e; right = fs }, z)))

-- behind the left side of a rule that shows facts
abbrev pub shown_facts : Sig → Limits → List ℕ → List Fact → Reader Rule
shown_facts g m x l ws = past (codes "--[") ws (λ r. after (facts g m true (codes "]->") r) (λ e z. right_side g m x l e z))

-- behind the left side
abbrev pub arrow : Sig → Limits → List ℕ → List Fact → Reader Rule
arrow g m x l ws = if starts (codes "-->") ws then right_side g m x l [] (drop 1 ws) else shown_facts g m x l ws

-- behind the opening of the left side
abbrev pub left_side : Sig → Limits → List ℕ → Reader Rule
left_side g m x ws = after (facts g m true (codes "]") ws) (λ l r. arrow g m x l r)

-- behind the name of a rule
abbrev pub named : Sig → Limits → List ℕ → Reader Rule
named g m x ws = past (codes ":") ws (λ r. past (codes "[") r (left_side g m x))

-- a rule
abbrev pub a_rule : Sig → Limits → Reader Rule
a_rule g m ws = past (codes "rule") ws (λ r. given (name_at r) (λ x. named g m x (drop 1 r)))
