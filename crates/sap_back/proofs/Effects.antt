-- What a line of rules trades, and what the lines that are written for it do to the facts and the entries of the process.
use Rattle.std.proofs.Common.{◌≡◌, ℕ, List, [], ◌∷◌, ◌++◌, Option, Some, sym, ap, ◌∙◌, subst, length, slice_get, append-nil}
use Rattle.sap_terms.specs.AdversaryFacts.{fr_fact, in_fact, out_fact}
use Rattle.sap_terms.specs.Piles.{Pile, Takes, adds}
use Rattle.sap_terms.specs.Signature.{Sig}
use Rattle.sap_terms.specs.Trace.{Trace}
use Rattle.sap_terms.specs.Tree.{Tree, fresh, public}
use Rattle.sap_terms.specs.Variables.{tree_vars, facts_vars}
use Rattle.sap_terms.specs.declared.fact.Fact.{Fact}
use Rattle.sap_process.specs.Configuration.{Config}
use Rattle.sap_process.specs.Proc.{Proc}
use Rattle.sap_process.specs.Scopes.{lock_var}
use Rattle.sap_process.specs.Sites.{fresh_var, message_var}
use Rattle.sap_place.specs.StateFacts.{state_fact, copies_fact, waits_fact}
use Rattle.sap_rule.specs.RuleSteps as state
use Rattle.sap_rule.specs.RuleSteps.{RuleState, leaves, gains}
use Rattle.sap_runs.specs.declared.process_step.PStep.{PStep}
use Rattle.sap_runs.specs.declared.rule_step.RStep.{RStep}
use Rattle.sap_templates.specs.ChannelFacts.{msg_fact, ack_fact}
use Rattle.sap_translate.specs.Scoped.{AreUnreserved}
use Rattle.sap_translate.specs.relation.Agents.{Agent}
use Rattle.sap_translate.specs.relation.Answers.{at_first, at_second, widened}
use Rattle.sap_translate.specs.relation.Envs.{just, join, values}
use Rattle.sap_back.specs.Along.{IsAlong}
use Rattle.sap_back.specs.Followed.{IsWrittenAsProcess}
use Rattle.sap_process_lines.specs.Tables.{ProcessTables}
use Rattle.sap_back.proofs.Lines.{Grows}

-- the state trades the facts with these numbers, which are these, for others
pub record Trades (s z : RuleState) (ks : List ℕ) (left right : List Fact) : Type 0 where
  pub rest : Pile
  pub takes : Takes s.facts ks left rest
  pub becomes : z ≡ leaves s (adds rest right)

-- it trades two facts, of which this is the first, for others
abbrev pub TradesTwo : RuleState → RuleState → ℕ → ℕ → Fact → List Fact → Type 0
TradesTwo s z k j first right = (f : Fact) × Trades s z (k ∷ j ∷ []) (first ∷ f ∷ []) right

-- the process has the same facts and entries behind
pub record Keeps (c : Config) (es : List Tree) (d : Config) (fs : List Tree) : Type 0 where
  pub facts : d.facts ≡ c.facts
  pub entries : fs ≡ es

-- it has this entry more
pub record Gets (c : Config) (es : List Tree) (d : Config) (fs : List Tree) (x : Tree) : Type 0 where
  pub facts : d.facts ≡ c.facts
  pub entries : fs ≡ es ++ x ∷ []

-- an embedded rule takes the same facts on both sides, and adds the same
pub record Embeds (s z : RuleState) (c : Config) (es : List Tree) (d : Config) (fs : List Tree) (k : ℕ) (js ks : List ℕ) (before behind : Fact) (o : List Fact) : Type 0 where
  pub taken : List Fact
  pub right : List Fact
  pub own : AreUnreserved taken
  pub user : AreUnreserved right
  pub many : length right ≡ length o
  pub trades : Trades s z (k ∷ js) (before ∷ taken) (behind ∷ right)
  pub left : Pile
  pub takes : Takes c.facts ks taken left
  pub facts : d.facts ≡ adds left right
  pub entries : fs ≡ es

-- what the line does, by the case of what is written for it: the state of rules before and behind, the configuration and the
-- entries before and behind
abbrev pub Effect : {g : Sig} {agents : List (Option Agent)} {pending : Option Tree} {s : RuleState} {tables : ProcessTables} {step : RStep} {acts : List Fact} {more : List PStep} {next : List (Option Agent)} {later : Option Tree} {behind : ProcessTables}
    → IsWrittenAsProcess g agents pending s tables step acts more next later behind → RuleState → Config → List Tree → Config → List Tree → Type 0
Effect {s = s} (IsWrittenAsProcess.starts t body b e z0) z c es d fs = Trades s z [] [] (state_fact [] [] ∷ []) × Keeps c es d fs
Effect {s = s} (IsWrittenAsProcess.ends t k path env b h) z c es d fs = Trades s z (k ∷ []) (state_fact path (values env) ∷ []) [] × Keeps c es d fs
Effect {s = s} (IsWrittenAsProcess.splits t k path env b p q h) z c es d fs = Trades s z (k ∷ []) (state_fact path (values env) ∷ []) (at_first path env ∷ at_second path env ∷ []) × Keeps c es d fs
Effect {s = s} (IsWrittenAsProcess.starts_copies t k path env b p h) z c es d fs = Trades s z (k ∷ []) (state_fact path (values env) ∷ []) (copies_fact path (values env) ∷ []) × Keeps c es d fs
Effect {s = s} (IsWrittenAsProcess.copies t k path env b p h n) z c es d fs = Trades s z (k ∷ []) (copies_fact path (values env) ∷ []) (at_first path env ∷ []) × Keeps c es d fs
Effect {s = s} (IsWrittenAsProcess.makes_name t k j n path env b x p h f m) z c es d fs =
    Trades s z (k ∷ j ∷ []) (state_fact path (values env) ∷ fr_fact n ∷ []) (at_first path (join env (just (fresh_var x) (fresh n))) ∷ []) × Keeps c es d fs
Effect {s = s} (IsWrittenAsProcess.outputs t k path env b m p h) z c es d fs = (x : Tree) × Trades s z (k ∷ []) (state_fact path (values env) ∷ []) (out_fact x ∷ at_first path env ∷ []) × Gets c es d fs x
Effect {s = s} (IsWrittenAsProcess.outputs_on t k j e path env b m n p h w) z c es d fs = (x : Tree) × TradesTwo s z k j (state_fact path (values env)) (out_fact x ∷ at_first path env ∷ []) × Gets c es d fs x
Effect {s = s} (IsWrittenAsProcess.sends t k j i path env b m n x v p h f o) z c es d fs =
    TradesTwo s z k j (state_fact path (values env)) (msg_fact (fresh i) x v ∷ waits_fact path (values env ++ fresh i ∷ []) ∷ []) × Keeps c es d fs
Effect {s = s} {tables = tables} (IsWrittenAsProcess.goes_on t k j n path env b m u p h f o) z c es d fs =
    Trades s z (k ∷ j ∷ []) (waits_fact path (values env ++ fresh n ∷ []) ∷ ack_fact (fresh n) ∷ []) (at_first path env ∷ []) × (slice_get tables.facts j ≡ Some t) × Keeps c es d fs
Effect {s = s} (IsWrittenAsProcess.inputs t k j e path env b m σ p h w) z c es d fs = TradesTwo s z k j (state_fact path (values env)) (at_first path (widened env σ (tree_vars m)) ∷ []) × Keeps c es d fs
Effect {s = s} (IsWrittenAsProcess.inputs_on t k j e path env b m n σ p h w) z c es d fs = TradesTwo s z k j (state_fact path (values env)) (at_first path (widened env σ (tree_vars n)) ∷ []) × Keeps c es d fs
Effect {s = s} (IsWrittenAsProcess.meets a t k j n at path other env b m u x v l r σ p q h f o w) z c es d fs =
    Trades s z (k ∷ j ∷ []) (state_fact path (values env) ∷ msg_fact (fresh n) x v ∷ []) (ack_fact (fresh n) ∷ at_first path (widened env σ (tree_vars r)) ∷ []) × Keeps c es d fs
Effect {s = s} (IsWrittenAsProcess.shows t k path env b f p h) z c es d fs = Trades s z (k ∷ []) (state_fact path (values env) ∷ []) (at_first path env ∷ []) × Keeps c es d fs
Effect {s = s} (IsWrittenAsProcess.inserts t k path env b m n p h) z c es d fs = Trades s z (k ∷ []) (state_fact path (values env) ∷ []) (at_first path env ∷ []) × Keeps c es d fs
Effect {s = s} (IsWrittenAsProcess.deletes t k path env b m p h) z c es d fs = Trades s z (k ∷ []) (state_fact path (values env) ∷ []) (at_first path env ∷ []) × Keeps c es d fs
Effect {s = s} (IsWrittenAsProcess.locks t k j n path env b m l p h) z c es d fs = TradesTwo s z k j (state_fact path (values env)) (at_first path (join env (just (lock_var l) (fresh n))) ∷ []) × Keeps c es d fs
Effect {s = s} (IsWrittenAsProcess.unlocks t k path env b m l p h) z c es d fs = Trades s z (k ∷ []) (state_fact path (values env) ∷ []) (at_first path env ∷ []) × Keeps c es d fs
Effect {s = s} (IsWrittenAsProcess.agrees t k path env b m n p q h) z c es d fs = Trades s z (k ∷ []) (state_fact path (values env) ∷ []) (at_first path env ∷ []) × Keeps c es d fs
Effect {s = s} (IsWrittenAsProcess.differs t k path env b m n p q h) z c es d fs = Trades s z (k ∷ []) (state_fact path (values env) ∷ []) (at_second path env ∷ []) × Keeps c es d fs
Effect {s = s} (IsWrittenAsProcess.finds t k path env b m v y p q h) z c es d fs = Trades s z (k ∷ []) (state_fact path (values env) ∷ []) (at_first path (join env (just (message_var y) v)) ∷ []) × Keeps c es d fs
Effect {s = s} (IsWrittenAsProcess.misses t k path env b m y p q h) z c es d fs = Trades s z (k ∷ []) (state_fact path (values env) ∷ []) (at_second path env ∷ []) × Keeps c es d fs
Effect {s = s} (IsWrittenAsProcess.embeds t k js ks path env b l a o σ p h e) z c es d fs = Embeds s z c es d fs k js ks (state_fact path (values env)) (at_first path (widened env σ (facts_vars (l ++ (a ++ o))))) o
Effect {s = s} (IsWrittenAsProcess.makes n) z c es d fs = (z ≡ state.makes s n) × Keeps c es d fs
Effect {s = s} (IsWrittenAsProcess.learns k e f) z c es d fs = (x : Tree) × (rest : Pile) × Takes s.facts (k ∷ []) (out_fact x ∷ []) rest × (z ≡ gains (leaves s rest) x) × Keeps c es d fs
Effect {s = s} (IsWrittenAsProcess.owns k n f e) z c es d fs = (rest : Pile) × Takes s.facts (k ∷ []) (fr_fact n ∷ []) rest × (z ≡ gains (leaves s rest) (fresh n)) × Gets c es d fs (fresh n)
Effect {s = s} (IsWrittenAsProcess.writes a) z c es d fs = (z ≡ gains s (public a)) × Gets c es d fs (public a)
Effect {s = s} (IsWrittenAsProcess.applies f ks js e) z c es d fs = (x : Tree) × (z ≡ gains s x) × Gets c es d fs x
Effect {s = s} (IsWrittenAsProcess.knows k e x f h) z c es d fs = (z ≡ leaves s (adds s.facts (in_fact x ∷ []))) × Keeps c es d fs

-- All that the law of single lines says, but that the tables behind are right: the lines of the process that are written for a
-- line of rules, and what they do.
pub record IsContinued (g : Sig) (W : Tree → Type 0) (start : Proc) (agents : List (Option Agent)) (pending : Option Tree) (lines : List PStep) (c : Config) (es : List Tree) (s : RuleState) (full : Trace) (tables : ProcessTables) (step : RStep) (z : RuleState) (acts : List Fact) : Type 0 where
  pub more : List PStep
  pub next : List (Option Agent)
  pub later : Option Tree
  pub behind : ProcessTables
  pub written : IsWrittenAsProcess g agents pending s tables step acts more next later behind
  pub config : Config
  pub entries : List Tree
  pub trace : Trace
  pub is : IsAlong g W start next later (lines ++ more) config entries trace z (full ++ acts ∷ [])
  pub effect : Effect written z c es config entries

-- what comes is known by what was sent
nothing_comes : {A : Type 0} (xs come : List A) → xs ≡ xs ++ come → come ≡ []
nothing_comes [] come e = sym e
nothing_comes (x ∷ xs) come e = nothing_comes xs come (let h : xs ≡ xs ++ come = cc in h)

this_comes : {A : Type 0} (xs come : List A) (x : A) → xs ++ x ∷ [] ≡ xs ++ come → come ≡ x ∷ []
this_comes [] come x e = sym e
this_comes (y ∷ xs) come x e = this_comes xs come x (let h : xs ++ x ∷ [] ≡ xs ++ come = cc in h)

pub kept : {c d : Config} {es fs : List Tree} → d.facts ≡ c.facts → d.frame ≡ c.frame → Grows c es d fs → Keeps c es d fs
kept {c = c} {es = es} facts frame grows = record { facts = facts; entries = grows.entries ∙ ap (λ xs. es ++ xs) (nothing_comes c.frame grows.come (sym frame ∙ grows.frame)) ∙ append-nil es }

pub got : {c d : Config} {es fs : List Tree} (x : Tree) → d.facts ≡ c.facts → d.frame ≡ c.frame ++ x ∷ [] → Grows c es d fs → Gets c es d fs x
got {c = c} {es = es} x facts frame grows = record { facts = facts; entries = grows.entries ∙ ap (λ xs. es ++ xs) (this_comes c.frame grows.come x (sym frame ∙ grows.frame)) }

-- a trade, where these are the facts
pub traded : {s : RuleState} {ks : List ℕ} {left before right behind : List Fact} {rest : Pile} → Takes s.facts ks left rest → left ≡ before → right ≡ behind → Trades s (leaves s (adds rest right)) ks before behind
traded {s = s} {ks = ks} {rest = rest} takes e f = record { rest = rest; takes = subst (λ fs. Takes s.facts ks fs rest) e takes; becomes = ap (λ fs. leaves s (adds rest fs)) f }
