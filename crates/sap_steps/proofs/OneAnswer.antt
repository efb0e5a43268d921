-- A line that is possible is refused for want of memory alone.
use Rattle.std.proofs.Common.{◌≡◌, ℕ, zero, suc, ◌<◌, ◌≤◌, Bool, true, false, List, [], ◌∷◌, length, map, take, find, nat_le, Some, None, slice_get, arith, rules, refl, sym, ap, subst, ◌∙◌}
use Rattle.std.specs.Prelude.{All}
use Rattle.std.specs.List.{AllZip}
use Rattle.std.proofs.lemmas.List.{length-map}
use Rattle.std.proofs.lemmas.List.Elements.{All-nil, All-cons}
use Rattle.std.proofs.lemmas.Option.{slice_get_within}
use Rattle.sap_terms.specs.Choice.{Choice}
use Rattle.sap_terms.specs.Equations.{equations}
use Rattle.sap_terms.specs.Message.{IsMessage, IsMessageChoice, AreMessageFacts}
use Rattle.sap_terms.specs.Modulo.{instance_fact, instance_facts, IsEqualFact, AreEqualFacts}
use Rattle.sap_terms.specs.Normal.{IsNormalForm}
use Rattle.sap_terms.specs.Piles.{Pile, Takes, nothing, one, used}
use Rattle.sap_terms.specs.Signature.{Sig}
use Rattle.sap_terms.specs.Tree.{Tree, apply, trees_of, node_count}
use Rattle.sap_terms.specs.View.{tree}
use Rattle.sap_terms.specs.declared.limits.TheConstants.{MOST_TERM_NODES}
use Rattle.sap_terms.specs.declared.binding.Binding.{Binding}
use Rattle.sap_terms.specs.declared.fact.Fact.{Fact}
use Rattle.sap_facts.specs.Facts.{standing, fact_at}
use Rattle.sap_rewrite.specs.Around.{MatchingAroundIsModulo}
use Rattle.sap_rewrite.specs.Large.{SomeSubtermWithin}
use Rattle.sap_rewrite.specs.Laws.{FormIsOne}
use Rattle.sap_rewrite.specs.Match.{Agrees}
use Rattle.sap_rule.specs.Messages.{HoldsMessages, TakenAreMessages, RunsReachMessages}
use Rattle.sap_rule.specs.RuleSteps.{RuleState}
use Rattle.sap_rule.specs.WellMade.{IsWellMade}
use Rattle.sap_rule.specs.declared.rule.Rule.{Rule}
use Rattle.sap_runs.specs.declared.rule_step.RStep.TheVariants.{Fresh, Learn, Own, Apply, Know, Rule as RuleLine}
use Rattle.sap_steps.specs.Answers.{LinesHaveOneAnswer, ReachedHaveOneAnswer}
use Rattle.sap_steps.specs.Faults.{FactFits, FactHolds, IsRuleRefusal, IsRuleFault, IsFaultOfNamed}
use Rattle.sap_steps.specs.Lines.{IsRuleLine, Fires, HasFewNodes}
use Rattle.sap_steps.specs.declared.fault.RFault.{RFault}
use Rattle.sap_steps.specs.declared.fault.RFault.TheVariants.{Mem, NoRule, FactCount, FactMissing, BadBinding, NoMatch, TermLarge, Unequal, UsedName, WrongFact, NoEntry, NotPublic, Arity}
use Rattle.sap_steps.proofs.Determined.{facts_fit, left_same, terms_same}
use Rattle.sap_steps.proofs.Named.{Contains-get, Contains-rule_named}
use Rattle.std.proofs.lemmas.List.Elements.{All-contains}

-- facts with the same numbers are the same, and so is what is left
pub one_live : (facts : Pile) (k : ℕ) (f h : Fact) → slice_get facts k ≡ Some (Some f) → slice_get facts k ≡ Some (Some h) → h ≡ f
one_live facts k f h a b = cc

pub takes_same : {facts rest left : Pile} {ks : List ℕ} {fs hs : List Fact} → Takes facts ks fs rest → Takes facts ks hs left → hs ≡ fs
takes_same nothing nothing = refl
takes_same {facts = facts} {left = left} (one {k = k} {ks = ks} {f = f} {fs = fs} a t) (one {f = h} {fs = hs} b u) =
    let e : h ≡ f = one_live facts k f h a b in
    let rest = takes_same t (subst (λ x. Takes (used facts k x) ks hs left) e u) in
    λ i. e i ∷ rest i

takes_length : {facts rest : Pile} {ks : List ℕ} {fs : List Fact} → Takes facts ks fs rest → length ks ≡ length fs
takes_length nothing = refl
takes_length (one a t) = ap suc (takes_length t)

equal_length : (g : Sig) (fs hs : List Fact) → AllZip (IsEqualFact (equations g)) fs hs → length hs ≡ length fs
equal_length g [] [] a = refl
equal_length g (f ∷ fs) (h ∷ hs) a = ap suc (equal_length g fs hs a.1)
equal_length g [] (h ∷ hs) a = absurd a
equal_length g (f ∷ fs) [] a = absurd a

-- none of the numbers of facts that can be taken is missing
live_at : (facts : Pile) (k n : ℕ) (f : Fact) → slice_get facts k ≡ Some (Some f) → k ≡ n → fact_at facts n ≡ None → ⊥
live_at facts k n f a e gone =
    let live : fact_at facts n ≡ Some f = ap (fact_at facts) (sym e) ∙ ap standing a in
    cc

pub never_missing : {facts rest left : Pile} {ks : List ℕ} {fs before : List Fact} (at number : ℕ) → Takes facts ks fs rest → slice_get ks at ≡ Some number → Takes facts (take at ks) before left → fact_at left number ≡ None → ⊥
never_missing at number nothing here t gone = cc
never_missing {facts = facts} zero number (one {k = k} {f = f} a more) here nothing gone = live_at facts k number f a (cc) gone
never_missing {facts = facts} {left = left} (suc at) number (one {k = k} {ks = ks} {f = f} a more) here (one {f = h} {fs = hs} b t) gone =
    let e : h ≡ f = one_live facts k f h a b in
    never_missing at number more here (subst (λ x. Takes (used facts k x) (take at ks) hs left) e t) gone

-- where each number is an entry's, none is unknown
known_test : (n k : ℕ) → k < n → nat_le n k ≡ false
known_test n k h = by (nat_le n k) refl where
  by : (t : Bool) → nat_le n k ≡ t → t ≡ false
  by true e = let le : n ≤ k = search (rules, e) in absurd (omega (arith, h, le))
  by false e = refl

pub none_unknown : (xs : List Tree) (ks : List ℕ) (ts : List Tree) → map (slice_get xs) ks ≡ map Some ts → find (nat_le (length xs)) ks ≡ None
none_unknown xs [] ts h = refl
none_unknown xs (k ∷ ks) [] h = cc
none_unknown xs (k ∷ ks) (t ∷ ts) h =
    let head : slice_get xs k ≡ Some t = cc in
    let tail : map (slice_get xs) ks ≡ map Some ts = cc in
    rw (known_test (length xs) k (slice_get_within xs k t head)) (none_unknown xs ks ts tail)

pub same_terms : (ts us : List Tree) → map Some ts ≡ map Some us → ts ≡ us
same_terms [] [] h = refl
same_terms [] (u ∷ us) h = cc
same_terms (t ∷ ts) [] h = cc
same_terms (t ∷ ts) (u ∷ us) h =
    let head : t ≡ u = cc in
    let rest = same_terms ts us (cc) in
    λ i. head i ∷ rest i

pub large_small : (n : Tree) → MOST_TERM_NODES < node_count n → node_count n ≤ MOST_TERM_NODES → ⊥
large_small n a b = omega arith

-- bindings that a choice of messages agrees with are to messages
good_terms : (g : Sig) (σ : Choice) (b : List Binding) → IsMessageChoice g σ → Agrees b σ → All (λ (e : Binding). IsMessage g e.var.sort (tree e.term)) b
good_terms g σ [] m a = All-nil (λ (e : Binding). IsMessage g e.var.sort (tree e.term))
good_terms g σ (x ∷ xs) m a = All-cons (λ (e : Binding). IsMessage g e.var.sort (tree e.term)) x xs (subst (IsMessage g x.var.sort) a.0 (m x.var)) (good_terms g σ xs m a.1)

module _ (modulo : MatchingAroundIsModulo) (one_form : FormIsOne) (taken : TakenAreMessages) (g : Sig) (r : Rule) (s : RuleState) (ks : List ℕ) (b : List Binding) (acts left right : List Fact) (rest : Pile) (well : IsWellMade g r) (holds : HoldsMessages g s) (takes : Takes s.facts ks left rest) (fires : Fires g HasFewNodes r b left acts right) where
  abbrev σ : Choice
  σ = fires.choice

  messages : AreMessageFacts g left
  messages = taken g s ks left rest holds takes

  fits : AllZip (FactFits g σ) r.left left × AllZip (FactHolds g σ) r.left left
  fits = facts_fit modulo g σ r.left left fires.use_.messages messages fires.use_.takes

  refusal : (e : RFault) (cited : List Fact) (over : Pile) → Takes s.facts ks cited over → IsRuleRefusal g r b cited e → e ≡ Mem
  refusal e cited over t h = at e (subst (λ hs. IsRuleRefusal g r b hs e) (takes_same takes t) h) where
    at : (e : RFault) → IsRuleRefusal g r b left e → e ≡ Mem
    at Mem h = refl
    at BadBinding h = absurd (h (record { vars = fires.binds.vars; terms = good_terms g σ b fires.use_.messages fires.binds.agrees }))
    at NoMatch h = absurd (h.none σ (λ v. (fires.use_.messages v).sorted) fires.binds.agrees fits.0)
    at TermLarge h =
        let other = h.fitting in
        let same = terms_same g r b left well.shape.sorts fires.binds.vars h.choice σ other.agrees fires.binds.agrees other.facts fits.0 in
        let n = h.form in
        absurd (large_small n h.large (fires.within n (subst (SomeSubtermWithin (λ u. IsNormalForm (equations g) u n)) same h.evaluated)))
    at Unequal h =
        let other = h.fitting in
        let same = left_same g r b left well.shape.sorts fires.binds.vars σ h.choice fires.binds.agrees other.agrees fits.0 other.facts in
        absurd (h.other (facts_fit modulo g h.choice r.left left other.messages messages (subst (λ fs. AreEqualFacts (equations g) fs left) same fires.use_.takes)).1)
    at _ h = absurd h

  rule_answer : (e : RFault) → IsRuleFault g r s.facts ks b e → e ≡ Mem
  rule_answer FactCount h = absurd (h (takes_length takes ∙ equal_length g (instance_facts σ r.left) left fires.use_.takes ∙ length-map r.left (instance_fact σ)))
  rule_answer (FactMissing p) h =
      let m = h.first in
      absurd (never_missing m.at m.number takes m.here m.takes m.gone)
  rule_answer Mem h = refl
  rule_answer BadBinding h = refusal BadBinding h.cited h.rest h.takes h.refusal
  rule_answer NoMatch h = refusal NoMatch h.cited h.rest h.takes h.refusal
  rule_answer TermLarge h = refusal TermLarge h.cited h.rest h.takes h.refusal
  rule_answer Unequal h = refusal Unequal h.cited h.rest h.takes h.refusal
  rule_answer NoRule h = absurd h.refusal
  rule_answer (UsedName n) h = absurd h.refusal
  rule_answer (WrongFact n) h = absurd h.refusal
  rule_answer (NoEntry n) h = absurd h.refusal
  rule_answer (NotPublic n) h = absurd h.refusal
  rule_answer (Arity n) h = absurd h.refusal

named_answer : MatchingAroundIsModulo → FormIsOne → TakenAreMessages → (g : Sig) (rules : List Rule) (s z : RuleState) (name ks : List ℕ) (b : List Binding) (acts : List Fact) (e : RFault) → All (IsWellMade g) rules → HoldsMessages g s → IsRuleLine g rules HasFewNodes s name ks b acts z → IsFaultOfNamed g rules s.facts name ks b e → e ≡ Mem
named_answer modulo one_form taken g rules s z name ks b acts e well holds line found =
    let r = found.rule in
    let named = found.named in
    let same : line.rule ≡ r = cc (line.named, named) in
    let at = Contains-rule_named rules r name named in
    rule_answer modulo one_form taken g r s ks b acts line.left line.right line.rest (All-contains (IsWellMade g) rules r well (Contains-get rules r at.0 at.1)) holds line.takes (subst (λ q. Fires g HasFewNodes q b line.left acts line.right) same line.fires) e found.cause

pub one_answer : MatchingAroundIsModulo → FormIsOne → TakenAreMessages → LinesHaveOneAnswer
one_answer modulo one_form taken g rules s z acts (Fresh n) (UsedName m) well holds line h = absurd (line.new h.1)
one_answer modulo one_form taken g rules s z acts (Learn k) (WrongFact f) well holds line h = absurd (h.1 line.0 line.1.rest line.1.takes)
one_answer modulo one_form taken g rules s z acts (Own k) (WrongFact f) well holds line h = absurd (h.1 line.0 line.1.rest line.1.takes)
one_answer modulo one_form taken g rules s z acts (Apply f ks) (NotPublic n) well holds line h = absurd (h.1 line.public_symbol)
one_answer modulo one_form taken g rules s z acts (Apply f ks) (Arity n) well holds line h = absurd (h.2 line.arity)
one_answer modulo one_form taken g rules s z acts (Apply f ks) (NoEntry n) well holds line h =
    let never = none_unknown s.known ks line.terms line.entries in
    let unknown = h.2 in
    absurd (cc (never, unknown))
one_answer modulo one_form taken g rules s z acts (Apply f ks) TermLarge well holds line h =
    let same : h.terms ≡ line.terms = same_terms h.terms line.terms (sym h.entries ∙ line.entries) in
    let form = one_form (equations g) (apply f (trees_of line.terms)) h.form line.form (subst (λ ts. IsNormalForm (equations g) (apply f (trees_of ts)) h.form) same h.is_form) line.is_form in
    absurd (large_small h.form h.large (subst (λ t. node_count t ≤ MOST_TERM_NODES) (sym form) line.within))
one_answer modulo one_form taken g rules s z acts (Know k) (NoEntry n) well holds line h =
    let there = line.entry in
    let gone = h.1 in
    absurd (cc (there, gone))
one_answer modulo one_form taken g rules s z acts (RuleLine name ks b) NoRule well holds line h =
    let there = line.named in
    absurd (cc (there, h))
one_answer modulo one_form taken g rules s z acts line Mem well holds is h = refl
one_answer modulo one_form taken g rules s z acts (RuleLine name ks b) e well holds line h = named_answer modulo one_form taken g rules s z name ks b acts e well holds line h
one_answer modulo one_form taken g rules s z acts _ _ well holds line h = absurd h

pub reached_answer : MatchingAroundIsModulo → FormIsOne → TakenAreMessages → RunsReachMessages → ReachedHaveOneAnswer
reached_answer modulo one_form taken reached g rules s z full acts line e builtins well run is h =
    one_answer modulo one_form taken g rules s z acts line e well (reached g rules s full builtins well run).1 is h
