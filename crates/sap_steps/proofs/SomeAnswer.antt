-- A line of rules is possible within the limit, or refused.
use Rattle.std.proofs.Common.{◌≡◌, ℕ, false, List, [], ◌∷◌, length, map, Option, Some, None, slice_get, refl, sym, ap, subst, ◌∙◌, ◌⊎◌, inl, inr}
use Rattle.std.specs.Prelude.{All, MatchOption}
use Rattle.std.specs.List.{AllZip}
use Rattle.std.proofs.lemmas.Bool.{cases_lt}
use Rattle.std.proofs.lemmas.List.Elements.{All-head, All-tail}
use Rattle.sap_terms.specs.AdversaryFacts.{linear, out_fact, fr_fact, k_fact, in_fact}
use Rattle.sap_terms.specs.Choice.{Choice, instance, instances}
use Rattle.sap_terms.specs.Equal.{IsTheoryEqual}
use Rattle.sap_terms.specs.Equations.{equations}
use Rattle.sap_terms.specs.FactNames.{out_name, fr_name}
use Rattle.sap_terms.specs.Laws.{NamesAreMessages}
use Rattle.sap_terms.specs.Message.{IsMessage, IsMessageChoice, IsMessageFact, AreMessageFacts}
use Rattle.sap_terms.specs.Modulo.{instance_facts, IsEqualFact, AreEqualFacts, IsFormOfFact, AreFormsOfFacts}
use Rattle.sap_terms.specs.Normal.{IsNormalForm}
use Rattle.sap_terms.specs.Piles.{Pile, Takes, nothing, one, used, adds}
use Rattle.sap_terms.specs.Signature.{Sig, arity_of, find_symbol}
use Rattle.sap_terms.specs.Tree.{Tree, variable, public, fresh, apply, trees_of, node_count}
use Rattle.sap_terms.specs.declared.binding.Binding.{Binding}
use Rattle.sap_terms.specs.declared.fact.Fact.{Fact}
use Rattle.sap_terms.specs.declared.limits.TheConstants.{MOST_TERM_NODES}
use Rattle.sap_terms.specs.declared.signature.Symbol.{Symbol}
use Rattle.sap_terms.specs.declared.var.Sort.TheVariants.{Msg}
use Rattle.sap_rewrite.specs.Around.{FitAll, HoldAll, MatchingAroundIsModulo, FittingGivesMessages}
use Rattle.sap_rewrite.specs.Laws.{EachHasForm, FormIsOne, FormsDecide}
use Rattle.sap_rule.specs.Messages.{HoldsMessages, TakenAreMessages, RunsReachMessages}
use Rattle.sap_rule.specs.Named.{rule_named}
use Rattle.sap_rule.specs.RuleSteps.{RuleState, makes, gains, leaves}
use Rattle.sap_rule.specs.declared.rule.Rule.{Rule}
use Rattle.sap_runs.specs.declared.rule_step.RStep.{RStep}
use Rattle.sap_runs.specs.declared.rule_step.RStep.TheVariants.{Fresh, Learn, Own, Public, Apply, Know, Rule as RuleLine}
use Rattle.sap_steps.specs.Answers.{LinesHaveSomeAnswer, ReachedHaveSomeAnswer}
use Rattle.sap_steps.specs.Faults.{FactFits, FactHolds, AreRight, IsFitting, IsLineFault}
use Rattle.sap_steps.specs.Lines.{IsLine, HasFewNodes, rule_terms}
use Rattle.sap_steps.specs.declared.fault.RFault.{RFault}
use Rattle.sap_steps.specs.declared.fault.RFault.TheVariants.{Mem, NoRule, FactCount, FactMissing, BadBinding, NoMatch, TermLarge, Unequal, UsedName, WrongFact, NoEntry, NotPublic, Arity}
use Rattle.sap_steps.proofs.Decided.{Decided, both, bool_or_not, bytes_or_not, nat_or_not, tree_or_not, arity_or_not, contains_or_not, takes_or_missing, known_or_not, right_or_not, larges_or_not}
use Rattle.sap_steps.proofs.SomeChoice.{fits_or_not}

-- the laws of lower crates that answers rest on
pub record Laws : Type 0 where
  pub each : EachHasForm
  pub one_form : FormIsOne
  pub decide : FormsDecide
  pub around : MatchingAroundIsModulo
  pub gives : FittingGivesMessages
  pub taken : TakenAreMessages
  pub names : NamesAreMessages

-- a fact is the linear one of this name with one argument, or isn't
same_fact : (f h : Fact) → f.name ≡ h.name → f.persistent ≡ h.persistent → f.args ≡ h.args → f ≡ h
same_fact f h a b c = λ i. record { name = a i; persistent = b i; args = c i }

single_or_not : (name : List ℕ) (f : Fact) → ((t : Tree) × (f ≡ linear name (t ∷ []))) ⊎ ((t : Tree) → f ≡ linear name (t ∷ []) → ⊥)
single_or_not name f = at f.args refl where
  at : (ts : List Tree) → f.args ≡ ts → ((t : Tree) × (f ≡ linear name (t ∷ []))) ⊎ ((t : Tree) → f ≡ linear name (t ∷ []) → ⊥)
  at [] e = inr (λ t is. (let args = ap (λ (h : Fact). h.args) is in cc))
  at (t ∷ u ∷ ts) e = inr (λ w is. (let args = ap (λ (h : Fact). h.args) is in cc))
  at (t ∷ []) e = elim (both (bytes_or_not f.name name) (bool_or_not f.persistent false)) [
    | inl h ↦ inl (t, same_fact f (linear name (t ∷ [])) h.0 h.1 e)
    | inr other ↦ inr (λ w is. other (ap (λ (h : Fact). h.name) is, ap (λ (h : Fact). h.persistent) is))
  ]

-- a term is a fresh name, or isn't
fresh_or_not : (t : Tree) → ((n : ℕ) × (t ≡ fresh n)) ⊎ ((n : ℕ) → t ≡ fresh n → ⊥)
fresh_or_not (fresh n) = inl (n, refl)
fresh_or_not (variable v) = inr (λ n e. cc)
fresh_or_not (public a) = inr (λ n e. cc)
fresh_or_not (apply f ts) = inr (λ n e. cc)

only_argument : (name : List ℕ) (t u : Tree) → linear name (t ∷ []) ≡ linear name (u ∷ []) → t ≡ u
only_argument name t u e = let args : ◌≡◌ {A = List Tree} (t ∷ []) (u ∷ []) = ap (λ (h : Fact). h.args) e in cc

-- a fact with this number is live, or none is
live_or_not : (facts : Pile) (k : ℕ) → ((f : Fact) × (slice_get facts k ≡ Some (Some f))) ⊎ ((f : Fact) → slice_get facts k ≡ Some (Some f) → ⊥)
live_or_not facts k = at (slice_get facts k) refl where
  at : (o : Option (Option Fact)) → slice_get facts k ≡ o → ((f : Fact) × (slice_get facts k ≡ Some (Some f))) ⊎ ((f : Fact) → slice_get facts k ≡ Some (Some f) → ⊥)
  at None e = inr (λ f is. cc)
  at (Some None) e = inr (λ f is. cc)
  at (Some (Some f)) e = inl (f, e)

taken_live : {facts rest : Pile} {k : ℕ} {f : Fact} → Takes facts (k ∷ []) (f ∷ []) rest → slice_get facts k ≡ Some (Some f)
taken_live (one a t) = a

-- facts that fit around destructors, and hold what these head, are theory-equal
args_equal : MatchingAroundIsModulo → (g : Sig) (σ : Choice) (ps ts : List Tree) → IsMessageChoice g σ → All (IsMessage g Msg) ts → FitAll g σ (trees_of ps) (trees_of ts) → HoldAll g σ (trees_of ps) (trees_of ts) → AllZip (IsTheoryEqual (equations g)) (map (instance σ) ps) ts
args_equal modulo g σ [] [] m h a b = tt
args_equal modulo g σ [] (t ∷ ts) m h a b = absurd a
args_equal modulo g σ (p ∷ ps) [] m h a b = absurd a
args_equal modulo g σ (p ∷ ps) (t ∷ ts) m h a b =
    ((modulo g σ p t (λ v. (m v).normal) (All-head (IsMessage g Msg) t ts h).normal).1 (a.0, b.0), args_equal modulo g σ ps ts m (All-tail (IsMessage g Msg) t ts h) a.1 b.1)

facts_equal : MatchingAroundIsModulo → (g : Sig) (σ : Choice) (fs hs : List Fact) → IsMessageChoice g σ → AreMessageFacts g hs → AllZip (FactFits g σ) fs hs → AllZip (FactHolds g σ) fs hs → AreEqualFacts (equations g) (instance_facts σ fs) hs
facts_equal modulo g σ [] [] m h a b = tt
facts_equal modulo g σ [] (k ∷ hs) m h a b = absurd a
facts_equal modulo g σ (f ∷ fs) [] m h a b = absurd a
facts_equal modulo g σ (f ∷ fs) (k ∷ hs) m h a b =
    (record { name = a.0.name; persistent = a.0.persistent; args = args_equal modulo g σ f.args k.args m (All-head (IsMessageFact g) k hs h) a.0.args b.0 }, facts_equal modulo g σ fs hs m (All-tail (IsMessageFact g) k hs h) a.1 b.1)

module _ (laws : Laws) (g : Sig) where
  abbrev form : (t : Tree) → (n : Tree) × IsNormalForm (equations g) t n
  form t = laws.each (equations g) t

  -- each fact has a normal form
  forms : (ts : List Tree) → (us : List Tree) × AllZip (IsNormalForm (equations g)) ts us
  forms [] = ([], tt)
  forms (t ∷ ts) = let rest = forms ts in ((form t).0 ∷ rest.0, ((form t).1, rest.1))

  fact_form : (f : Fact) → (h : Fact) × IsFormOfFact (equations g) f h
  fact_form f = let args = forms f.args in (record { name = f.name; persistent = f.persistent; args = args.0 }, record { name = refl; persistent = refl; args = args.1 })

  fact_forms : (fs : List Fact) → (hs : List Fact) × AreFormsOfFacts (equations g) fs hs
  fact_forms [] = ([], tt)
  fact_forms (f ∷ fs) = let rest = fact_forms fs in ((fact_form f).0 ∷ rest.0, ((fact_form f).1, rest.1))

  -- facts are theory-equal, or aren't
  equal_or_not : (t u : Tree) → Decided (IsTheoryEqual (equations g) t u)
  equal_or_not t u =
      let same = laws.decide (equations g) t u (form t).0 (form u).0 (form t).1 (form u).1 in
      elim (tree_or_not (form t).0 (form u).0) [ inl is ↦ inl (same.1 is) | inr other ↦ inr (λ e. other (same.0 e)) ]

  all_equal_or_not : (ts us : List Tree) → Decided (AllZip (IsTheoryEqual (equations g)) ts us)
  all_equal_or_not [] [] = inl tt
  all_equal_or_not [] (u ∷ us) = inr (λ a. a)
  all_equal_or_not (t ∷ ts) [] = inr (λ a. a)
  all_equal_or_not (t ∷ ts) (u ∷ us) = both (equal_or_not t u) (all_equal_or_not ts us)

  fact_equal_or_not : (f h : Fact) → Decided (IsEqualFact (equations g) f h)
  fact_equal_or_not f h = elim (both (both (bytes_or_not h.name f.name) (bool_or_not h.persistent f.persistent)) (all_equal_or_not f.args h.args)) [
    | inl k ↦ inl (record { name = k.0.0; persistent = k.0.1; args = k.1 })
    | inr other ↦ inr (λ k. other ((k.name, k.persistent), k.args))
  ]

  facts_equal_or_not : (fs hs : List Fact) → Decided (AreEqualFacts (equations g) fs hs)
  facts_equal_or_not [] [] = inl tt
  facts_equal_or_not [] (h ∷ hs) = inr (λ a. a)
  facts_equal_or_not (f ∷ fs) [] = inr (λ a. a)
  facts_equal_or_not (f ∷ fs) (h ∷ hs) = both (fact_equal_or_not f h) (facts_equal_or_not fs hs)

  public_or_not : (o : Option Symbol) → Decided (MatchOption o ⊥ (λ (s : Symbol). s.private ≡ false))
  public_or_not None = inr (λ h. h)
  public_or_not (Some s) = bool_or_not s.private false

  module _ (rules : List Rule) (s : RuleState) (holds : HoldsMessages g s) where
    abbrev Answer : RStep → Type 0
    Answer line = ((acts : List Fact) × (z : RuleState) × IsLine g rules HasFewNodes s line acts z) ⊎ ((e : RFault) × IsLineFault g rules s line e × (¬ (e ≡ Mem)))

    fresh_line : (n : ℕ) → Answer (Fresh n)
    fresh_line n = elim (contains_or_not s.made n) [
      | inl made ↦ inr (UsedName n, (refl, made), λ is. cc)
      | inr new ↦ inl ([], makes s n, record { new = new; silent = refl; becomes = refl })
    ]

    learn_line : (k : ℕ) → Answer (Learn k)
    learn_line k = elim (live_or_not s.facts k) [
      | inr gone ↦ inr (WrongFact k, (refl, λ t rest takes. gone (out_fact t) (taken_live takes)), λ is. cc)
      | inl live ↦ elim (single_or_not out_name live.0) [
        | inr other ↦ inr (WrongFact k, (refl, λ t rest takes. other t (one_live live.0 (out_fact t) live.1 (taken_live takes))), λ is. cc)
        | inl is ↦ inl (
          [],
          gains (leaves s (used s.facts k (out_fact is.0))) is.0,
          (
            is.0,
            record {
              rest = used s.facts k (out_fact is.0);
              takes = one (subst (λ (f : Fact). slice_get s.facts k ≡ Some (Some f)) is.1 live.1) nothing;
              silent = refl;
              becomes = refl;
            },
          ),
        )
      ]
    ]
      where
        one_live : (f h : Fact) → slice_get s.facts k ≡ Some (Some f) → slice_get s.facts k ≡ Some (Some h) → f ≡ h
        one_live f h a b = cc

    own_line : (k : ℕ) → Answer (Own k)
    own_line k = elim (live_or_not s.facts k) [
      | inr gone ↦ wrong (λ n rest takes. gone (fr_fact n) (taken_live takes))
      | inl live ↦ elim (single_or_not fr_name live.0) [
        | inr other ↦ wrong (λ n rest takes. other (fresh n) (one_live live.0 (fr_fact n) live.1 (taken_live takes)))
        | inl is ↦ elim (fresh_or_not is.0) [
          | inr other ↦ wrong (λ n rest takes. other n (only_argument fr_name is.0 (fresh n) (sym is.1 ∙ one_live live.0 (fr_fact n) live.1 (taken_live takes))))
          | inl name ↦ named name.0 (subst (λ (f : Fact). slice_get s.facts k ≡ Some (Some f)) (is.1 ∙ ap (λ (t : Tree). linear fr_name (t ∷ [])) name.1) live.1)
        ]
      ]
    ]
      where
        one_live : (f h : Fact) → slice_get s.facts k ≡ Some (Some f) → slice_get s.facts k ≡ Some (Some h) → f ≡ h
        one_live f h a b = cc

        wrong : ((n : ℕ) (rest : Pile) → ¬ Takes s.facts (k ∷ []) (fr_fact n ∷ []) rest) → Answer (Own k)
        wrong h = inr (WrongFact k, (refl, h), λ is. cc)

        named : (n : ℕ) → slice_get s.facts k ≡ Some (Some (fr_fact n)) → Answer (Own k)
        named n live = inl ([], gains (leaves s (used s.facts k (fr_fact n))) (fresh n), (n, record { rest = used s.facts k (fr_fact n); takes = one live nothing; silent = refl; becomes = refl }))

    know_line : (k : ℕ) → Answer (Know k)
    know_line k = at (slice_get s.known k) refl where
      at : (o : Option Tree) → slice_get s.known k ≡ o → Answer (Know k)
      at None e = inr (NoEntry k, (refl, e), λ is. cc)
      at (Some t) e = inl (k_fact t ∷ [], leaves s (adds s.facts (in_fact t ∷ [])), record { term = t; entry = e; shows = refl; becomes = refl })

    apply_line : (f ks : List ℕ) → Answer (Apply f ks)
    apply_line f ks = elim (public_or_not (find_symbol g.symbols f)) [
      | inr private ↦ inr (NotPublic f, (refl, private), λ is. cc)
      | inl open_ ↦ elim (arity_or_not (arity_of g f) (length ks)) [
        | inr other ↦ inr (Arity f, (refl, open_, other), λ is. cc)
        | inl arity ↦ elim (known_or_not s.known ks) [
          | inr k ↦ inr (NoEntry k.0, (open_, arity, k.1), λ is. cc)
          | inl ts ↦ (let n = form (apply f (trees_of ts.0)) in elim (cases_lt MOST_TERM_NODES (node_count n.0)) [
            | inl large ↦ inr (TermLarge, record { public_symbol = open_; arity = arity; terms = ts.0; entries = ts.1; form = n.0; is_form = n.1; large = large }, λ is. cc)
            | inr small ↦ inl ([], gains s n.0, record { terms = ts.0; form = n.0; public_symbol = open_; arity = arity; entries = ts.1; is_form = n.1; within = small; silent = refl; becomes = refl })
          ])
        ]
      ]
    ]

    -- a rule that is found, with right bindings and a choice that fits
    module _ (name ks : List ℕ) (b : List Binding) (r : Rule) (named : rule_named rules name ≡ Some r) where
      fitted : length ks ≡ length r.left → (left : List Fact) (rest : Pile) → Takes s.facts ks left rest → AreRight g r b → (σ : Choice) → IsFitting g r b left σ → Answer (RuleLine name ks b)
      fitted count left rest takes right σ fits = elim (larges_or_not laws.each laws.one_form g (instances σ (trees_of (rule_terms r)))) [
        | inl large ↦ inr (
          TermLarge,
          record {
            rule = r;
            named = named;
            cause = record {
              count = count;
              cited = left;
              rest = rest;
              takes = takes;
              refusal = record { right = right; choice = σ; fitting = fits; form = large.0; evaluated = large.1; large = large.2 };
            };
          },
          λ is. cc,
        )
        | inr small ↦ elim (facts_equal_or_not (instance_facts σ r.left) left) [
          | inr other ↦ inr (
            Unequal,
            record {
              rule = r;
              named = named;
              cause = record {
                count = count;
                cited = left;
                rest = rest;
                takes = takes;
                refusal = record {
                  right = right;
                  choice = σ;
                  fitting = fits;
                  small = small;
                  other = λ h. other (facts_equal laws.around g σ r.left left fits.messages (laws.taken g s ks left rest holds takes) fits.facts h);
                };
              };
            },
            λ is. cc,
          )
          | inl equal ↦ (let acts = fact_forms (instance_facts σ r.acts) in let added = fact_forms (instance_facts σ r.right) in
              inl (
                acts.0,
                leaves s (adds rest added.0),
                record {
                  rule = r;
                  named = named;
                  left = left;
                  right = added.0;
                  rest = rest;
                  takes = takes;
                  fires = record {
                    choice = σ;
                    binds = record { vars = right.vars; agrees = fits.agrees };
                    use_ = record { messages = fits.messages; takes = equal; shows = acts.1; adds = added.1 };
                    within = small;
                  };
                  becomes = refl;
                },
              ))
        ]
      ]

      found : Answer (RuleLine name ks b)
      found = elim (nat_or_not (length ks) (length r.left)) [
        | inr other ↦ inr (FactCount, record { rule = r; named = named; cause = other }, λ is. cc)
        | inl count ↦ elim (takes_or_missing s.facts ks) [
          | inr m ↦ inr (FactMissing m.0, record { rule = r; named = named; cause = record { count = count; first = m.1 } }, λ is. cc)
          | inl k ↦ elim (right_or_not laws.each laws.one_form g r b) [
            | inr wrong ↦ inr (BadBinding, record { rule = r; named = named; cause = record { count = count; cited = k.0; rest = k.1; takes = k.2; refusal = wrong } }, λ is. cc)
            | inl right ↦ elim (fits_or_not laws.each laws.one_form laws.names g laws.gives r b k.0 right (laws.taken g s ks k.0 k.1 holds k.2)) [
              | inr never ↦ inr (NoMatch, record { rule = r; named = named; cause = record { count = count; cited = k.0; rest = k.1; takes = k.2; refusal = never } }, λ is. cc)
              | inl fits ↦ fitted count k.0 k.1 k.2 right fits.0 fits.1
            ]
          ]
        ]
      ]

    rule_line : (name ks : List ℕ) (b : List Binding) → Answer (RuleLine name ks b)
    rule_line name ks b = at (rule_named rules name) refl where
      at : (o : Option Rule) → rule_named rules name ≡ o → Answer (RuleLine name ks b)
      at None e = inr (NoRule, e, λ is. cc)
      at (Some r) e = found name ks b r e

    some_answer : (line : RStep) → Answer line
    some_answer (Fresh n) = fresh_line n
    some_answer (Learn k) = learn_line k
    some_answer (Own k) = own_line k
    some_answer (Public a) = inl ([], gains s (public a), (refl, refl))
    some_answer (Apply f ks) = apply_line f ks
    some_answer (Know k) = know_line k
    some_answer (RuleLine name ks b) = rule_line name ks b

pub lines_have_some_answer : Laws → LinesHaveSomeAnswer
lines_have_some_answer laws g rules s line holds = some_answer laws g rules s holds line

pub reached_some_answer : Laws → RunsReachMessages → ReachedHaveSomeAnswer
reached_some_answer laws reached g rules s full line builtins well run = some_answer laws g rules s (reached g rules s full builtins well run).1 line
