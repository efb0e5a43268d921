-- A line of rules is possible in one way.
use Rattle.std.proofs.Common.{◌≡◌, ℕ, List, [], ◌∷◌, refl, sym, ap, subst, ◌∙◌}
use Rattle.std.specs.Prelude.{All}
use Rattle.std.specs.List.{AllZip}
use Rattle.std.proofs.lemmas.List.Elements.{All-contains}
use Rattle.sap_terms.specs.AdversaryFacts.{in_fact, k_fact}
use Rattle.sap_terms.specs.Equations.{Equations, equations}
use Rattle.sap_terms.specs.Message.{AreMessageFacts}
use Rattle.sap_terms.specs.Modulo.{instance_facts, AreFormsOfFacts}
use Rattle.sap_terms.specs.Normal.{IsNormalForm}
use Rattle.sap_terms.specs.Piles.{Pile, Takes, nothing, one, used, adds}
use Rattle.sap_terms.specs.Signature.{Sig}
use Rattle.sap_terms.specs.Tree.{Tree, apply, fresh, trees_of}
use Rattle.sap_terms.specs.declared.binding.Binding.{Binding}
use Rattle.sap_terms.specs.declared.fact.Fact.{Fact}
use Rattle.sap_rewrite.specs.Around.{MatchingAroundIsModulo}
use Rattle.sap_rewrite.specs.Laws.{FormIsOne}
use Rattle.sap_rule.specs.Messages.{HoldsMessages, TakenAreMessages, RunsReachMessages}
use Rattle.sap_rule.specs.RuleSteps.{RuleState, gains, leaves}
use Rattle.sap_rule.specs.WellMade.{IsWellMade}
use Rattle.sap_rule.specs.declared.rule.Rule.{Rule}
use Rattle.sap_runs.specs.declared.rule_step.RStep.TheVariants.{Fresh, Learn, Own, Public, Apply, Know, Rule as RuleLine}
use Rattle.sap_steps.specs.Answers.{LinesHaveOneOutcome, ReachedHaveOneOutcome}
use Rattle.sap_steps.specs.Lines.{IsRuleLine, IsTaken, Fires}
use Rattle.sap_steps.proofs.Determined.{facts_fit, acts_same, right_same}
use Rattle.sap_steps.proofs.Named.{Contains-get, Contains-rule_named}
use Rattle.sap_steps.proofs.OneAnswer.{one_live, same_terms}

-- facts with the same numbers are the same, and so is what is left
takes_one : {facts rest left : Pile} {ks : List ℕ} {fs hs : List Fact} → Takes facts ks fs rest → Takes facts ks hs left → (fs ≡ hs) × (rest ≡ left)
takes_one nothing nothing = (refl, refl)
takes_one {facts = facts} {left = left} (one {k = k} {ks = ks} {f = f} {fs = fs} a t) (one {f = h} {fs = hs} b u) =
    let e : h ≡ f = one_live facts k f h a b in
    let rest = takes_one t (subst (λ x. Takes (used facts k x) ks hs left) e u) in
    ((λ i. sym e i ∷ rest.0 i), rest.1)

-- terms have one list of normal forms, and facts too
forms_one : FormIsOne → (e : Equations) (ts ms ns : List Tree) → AllZip (IsNormalForm e) ts ms → AllZip (IsNormalForm e) ts ns → ms ≡ ns
forms_one unique e [] [] [] a b = refl
forms_one unique e [] [] (n ∷ ns) a b = absurd b
forms_one unique e [] (m ∷ ms) ns a b = absurd a
forms_one unique e (t ∷ ts) [] ns a b = absurd a
forms_one unique e (t ∷ ts) (m ∷ ms) [] a b = absurd b
forms_one unique e (t ∷ ts) (m ∷ ms) (n ∷ ns) a b = λ i. unique e t m n a.0 b.0 i ∷ forms_one unique e ts ms ns a.1 b.1 i

same_fact : (h k : Fact) → h.name ≡ k.name → h.persistent ≡ k.persistent → h.args ≡ k.args → h ≡ k
same_fact h k a b c = λ i. record { name = a i; persistent = b i; args = c i }

facts_one : FormIsOne → (e : Equations) (fs hs ks : List Fact) → AreFormsOfFacts e fs hs → AreFormsOfFacts e fs ks → hs ≡ ks
facts_one unique e [] [] [] a b = refl
facts_one unique e [] [] (k ∷ ks) a b = absurd b
facts_one unique e [] (h ∷ hs) ks a b = absurd a
facts_one unique e (f ∷ fs) [] ks a b = absurd a
facts_one unique e (f ∷ fs) (h ∷ hs) [] a b = absurd b
facts_one unique e (f ∷ fs) (h ∷ hs) (k ∷ ks) a b =
    let head = same_fact h k (a.0.name ∙ sym b.0.name) (a.0.persistent ∙ sym b.0.persistent) (forms_one unique e f.args h.args k.args a.0.args b.0.args) in
    let tail = facts_one unique e fs hs ks a.1 b.1 in
    λ i. head i ∷ tail i

-- a rule that takes the same facts under the same bindings shows and adds the same
fires_one : MatchingAroundIsModulo → FormIsOne → (g : Sig) (W : Tree → Type 0) (r : Rule) (b : List Binding) (left acts right others more : List Fact) → IsWellMade g r → AreMessageFacts g left → Fires g W r b left acts right → Fires g W r b left others more → (acts ≡ others) × (right ≡ more)
fires_one modulo unique g W r b left acts right others more well messages f h =
    let a = (facts_fit modulo g f.choice r.left left f.use_.messages messages f.use_.takes).0 in
    let c = (facts_fit modulo g h.choice r.left left h.use_.messages messages h.use_.takes).0 in
    let shown = acts_same g r b left well.shape.sorts f.binds.vars f.choice h.choice f.binds.agrees h.binds.agrees a c in
    let added = right_same g r b left well.shape.sorts f.binds.vars f.choice h.choice f.binds.agrees h.binds.agrees a c in (
      facts_one unique (equations g) (instance_facts h.choice r.acts) acts others (subst (λ fs. AreFormsOfFacts (equations g) fs acts) shown f.use_.shows) h.use_.shows,
      facts_one unique (equations g) (instance_facts h.choice r.right) right more (subst (λ fs. AreFormsOfFacts (equations g) fs right) added f.use_.adds) h.use_.adds,
    )

named_one : MatchingAroundIsModulo → FormIsOne → TakenAreMessages → (g : Sig) (rules : List Rule) (W : Tree → Type 0) (s z y : RuleState) (name ks : List ℕ) (b : List Binding) (acts others : List Fact) → All (IsWellMade g) rules → HoldsMessages g s → IsRuleLine g rules W s name ks b acts z → IsRuleLine g rules W s name ks b others y → (acts ≡ others) × (z ≡ y)
named_one modulo unique taken g rules W s z y name ks b acts others well holds line too =
    let r = line.rule in
    let named = line.named in
    let same : too.rule ≡ r = cc (too.named, named) in
    let at = Contains-rule_named rules r name named in
    let t = takes_one line.takes too.takes in
    let made = All-contains (IsWellMade g) rules r well (Contains-get rules r at.0 at.1) in
    let messages = taken g s ks line.left line.rest holds line.takes in
    let fires = subst (λ hs. Fires g W r b hs others too.right) (sym t.0) (subst (λ q. Fires g W q b too.left others too.right) same too.fires) in
    let f = fires_one modulo unique g W r b line.left acts line.right others too.right made messages line.fires fires in
    (f.0, line.becomes ∙ (λ i. leaves s (adds (t.1 i) (f.1 i))) ∙ sym too.becomes)

-- what is taken is one fact, and of one term where the fact is
taken_one : (s z y : RuleState) (k : ℕ) (f h : Fact) (t u : Tree) (acts others : List Fact) → (f ≡ h → t ≡ u) → IsTaken s k f t acts z → IsTaken s k h u others y → (acts ≡ others) × (z ≡ y)
taken_one s z y k f h t u acts others term line too =
    let t_one = takes_one line.takes too.takes in
    let same : f ≡ h = first_same f h t_one.0 in
    let e = term same in
    (line.silent ∙ sym too.silent, line.becomes ∙ (λ i. gains (leaves s (t_one.1 i)) (e i)) ∙ sym too.becomes)
  where
    first_same : (f h : Fact) → ◌≡◌ {A = List Fact} (f ∷ []) (h ∷ []) → f ≡ h
    first_same f h e = cc

only_arg : (f h : Fact) (t u : Tree) → f.args ≡ t ∷ [] → h.args ≡ u ∷ [] → f ≡ h → t ≡ u
only_arg f h t u a b e = let args : f.args ≡ h.args = ap (λ (x : Fact). x.args) e in cc (a, b, args)

pub one_outcome : MatchingAroundIsModulo → FormIsOne → TakenAreMessages → (W : Tree → Type 0) → LinesHaveOneOutcome W
one_outcome modulo unique taken W g rules s z y acts others (Fresh n) well holds line too = (line.silent ∙ sym too.silent, line.becomes ∙ sym too.becomes)
one_outcome modulo unique taken W g rules s z y acts others (Learn k) well holds line too =
    taken_one s z y k (Rattle.sap_terms.specs.AdversaryFacts.out_fact line.0) (Rattle.sap_terms.specs.AdversaryFacts.out_fact too.0) line.0 too.0 acts others (only_arg (Rattle.sap_terms.specs.AdversaryFacts.out_fact line.0) (Rattle.sap_terms.specs.AdversaryFacts.out_fact too.0) line.0 too.0 refl refl) line.1 too.1
one_outcome modulo unique taken W g rules s z y acts others (Own k) well holds line too =
    taken_one s z y k (Rattle.sap_terms.specs.AdversaryFacts.fr_fact line.0) (Rattle.sap_terms.specs.AdversaryFacts.fr_fact too.0) (fresh line.0) (fresh too.0) acts others (only_arg (Rattle.sap_terms.specs.AdversaryFacts.fr_fact line.0) (Rattle.sap_terms.specs.AdversaryFacts.fr_fact too.0) (fresh line.0) (fresh too.0) refl refl) line.1 too.1
one_outcome modulo unique taken W g rules s z y acts others (Public a) well holds line too = (line.0 ∙ sym too.0, line.1 ∙ sym too.1)
one_outcome modulo unique taken W g rules s z y acts others (Apply f ks) well holds line too =
    let same : too.terms ≡ line.terms = same_terms too.terms line.terms (sym too.entries ∙ line.entries) in
    let form = unique (equations g) (apply f (trees_of line.terms)) line.form too.form line.is_form (subst (λ ts. IsNormalForm (equations g) (apply f (trees_of ts)) too.form) same too.is_form) in
    (line.silent ∙ sym too.silent, line.becomes ∙ ap (gains s) form ∙ sym too.becomes)
one_outcome modulo unique taken W g rules s z y acts others (Know k) well holds line too =
    let there = line.entry in
    let again = too.entry in
    let same : line.term ≡ too.term = cc (there, again) in
    (line.shows ∙ ap (λ t. k_fact t ∷ []) same ∙ sym too.shows, line.becomes ∙ ap (λ t. leaves s (adds s.facts (in_fact t ∷ []))) same ∙ sym too.becomes)
one_outcome modulo unique taken W g rules s z y acts others (RuleLine name ks b) well holds line too = named_one modulo unique taken g rules W s z y name ks b acts others well holds line too

pub reached_outcome : MatchingAroundIsModulo → FormIsOne → TakenAreMessages → RunsReachMessages → (W : Tree → Type 0) → ReachedHaveOneOutcome W
reached_outcome modulo unique taken reached W g rules s z y full acts others line builtins well run is too =
    one_outcome modulo unique taken W g rules s z y acts others line well (reached g rules s full builtins well run).1 is too
