-- Small runs of rules, by hand.
use Rattle.std.proofs.Common.{◌≡◌, ℕ, List, [], ◌∷◌, ◌++◌, Some, None, refl, sym, ap, subst, ◌∙◌, slice_get, lit<}
use Rattle.std.specs.Prelude.{Contains, codes}
use Rattle.std.specs.List.{AllZip}
use Rattle.sap_terms.specs.AdversaryFacts.{linear, k_fact, out_fact, fr_fact}
use Rattle.sap_terms.specs.Equal.{same}
use Rattle.sap_terms.specs.Equations.{equations}
use Rattle.sap_terms.specs.Laws.{NamesAreMessages}
use Rattle.sap_terms.specs.Message.{IsMessage, IsMessageChoice}
use Rattle.sap_terms.specs.Modulo.{IsEqualFact}
use Rattle.sap_terms.specs.Piles.{Pile, Takes, nothing, one}
use Rattle.sap_terms.specs.Signature.{Sig}
use Rattle.sap_terms.specs.Trace.{Trace}
use Rattle.sap_terms.specs.Tree.{Tree, fresh}
use Rattle.sap_terms.specs.declared.fact.Fact.{Fact}
use Rattle.sap_terms.specs.Choice.{Choice}
use Rattle.sap_terms.specs.declared.var.Sort.{Sort}
use Rattle.sap_terms.specs.declared.var.Sort.TheVariants.{Msg, Fresh, Pub}
use Rattle.sap_rule.specs.RuleSteps.{RuleState, RuleStep, RuleRun, IsFullTrace, IsUse, empty_state, starts, further, makes_name, learns, owns, knows_public, applies, gives, uses}
use Rattle.sap_rule.specs.StepExamples.{a, shown_fact, state, telling}
use Rattle.sap_rule.specs.declared.rule.Rule.{Rule}
use Rattle.sap_rule.proofs.StepForms.{fresh_form}
use Rattle.sap_rule.proofs.ExactSteps.{never, alone, none_there}

-- each variable stands for a name: `~x` for the third
abbrev third : Choice
third v = of v.sort
  where
    of : Sort → Tree
    of Msg = a
    of Fresh = fresh 3
    of Pub = a

third_message : NamesAreMessages → (g : Sig) → IsMessageChoice g third
third_message all g v = of v.sort
  where
    of : (s : Sort) → IsMessage g s (third (record { name = v.name; sort = s }))
    of Msg = all.public_name g Msg _ refl
    of Fresh = all.fresh_name g Fresh 3 refl
    of Pub = all.public_name g Pub _ refl

-- before the rule takes the name, and once it did and put it out
abbrev before : RuleState
before = state (Some (fr_fact 3) ∷ []) [] (3 ∷ [])

abbrev behind : RuleState
behind = state (None ∷ Some (out_fact (fresh 3)) ∷ []) [] (3 ∷ [])

used_once : NamesAreMessages → (g : Sig) → RuleStep g (telling ∷ []) before (shown_fact (fresh 3) ∷ []) behind
used_once all g = uses telling (0 ∷ []) third (fr_fact 3 ∷ []) (shown_fact (fresh 3) ∷ []) (out_fact (fresh 3) ∷ []) (0, lit< tt, refl)
    (one refl nothing)
    (record {
      messages = third_message all g;
      takes = (record { name = refl; persistent = refl; args = (same, tt) }, tt);
      shows = (record { name = refl; persistent = refl; args = (fresh_form (equations g) 3, tt) }, tt);
      adds = (record { name = refl; persistent = refl; args = (fresh_form (equations g) 3, tt) }, tt);
    })

pub told : NamesAreMessages → (g : Sig) → IsFullTrace g (telling ∷ []) ([] ∷ (shown_fact (fresh 3) ∷ []) ∷ [] ∷ (k_fact (fresh 3) ∷ []) ∷ [])
told all g = (
  _,
  further (further (further (further starts (makes_name 3 (never 3))) (used_once all g)) (learns 1 (fresh 3) (one refl nothing)))
      (gives (fresh 3) (0, lit< tt, refl)),
)

-- nothing is taken where nothing is
taken_none : {facts rest : Pile} {ks : List ℕ} {left : List Fact} → Takes facts ks left rest → facts ≡ [] → left ≡ []
taken_none nothing e = refl
taken_none (one {k = k} {f = f} at tail) e = absurd (none_there k f (subst (λ fs. slice_get fs k ≡ Some (Some f)) e at))

one_left : (R : Fact → Fact → Type 0) (f : Fact) (left : List Fact) → AllZip R (f ∷ []) left → left ≡ [] → ⊥
one_left R f [] h e = h
one_left R f (x ∷ xs) h e = cc

-- the first step shows nothing
silent : (g : Sig) (rules : List Rule) (s z : RuleState) (acts : List Fact) → RuleStep g rules s acts z → rules ≡ telling ∷ [] → s.facts ≡ [] → s.known ≡ [] → acts ≡ []
silent g rules s z acts (makes_name m new) rs empty unknown = refl
silent g rules s z acts (learns k t takes) rs empty unknown = refl
silent g rules s z acts (owns k m takes) rs empty unknown = refl
silent g rules s z acts (knows_public m) rs empty unknown = refl
silent g rules s z acts (applies f ts t is_public arity known form) rs empty unknown = refl
silent g rules s z acts (gives t known) rs empty unknown = absurd (never t (subst (λ us. Contains us t) unknown known))
silent g rules s z acts (uses r ks σ left shown right among takes by) rs empty unknown =
    let is : r ≡ telling = sym (alone telling r (subst (λ xs. Contains xs r) rs among)) in
    absurd (one_left (IsEqualFact (equations g)) (linear (codes "Fr") (σ _ ∷ [])) left (subst (λ q. IsUse g q σ left shown right) is by).takes (taken_none takes empty))

no_end : {X : Type 0} (xs : List X) (x : X) → xs ++ x ∷ [] ≡ [] → ⊥
no_end [] x e = cc
no_end (y ∷ ys) x e = cc

-- a run without steps is where runs start
at_start : {g : Sig} {rules : List Rule} {s : RuleState} {full : Trace} → RuleRun g rules s full → full ≡ [] → s ≡ empty_state
at_start starts e = refl
at_start (further {full = before} {acts = acts} run step) e = absurd (no_end before acts e)

silent_from : (g : Sig) (s z : RuleState) (acts : List Fact) → RuleStep g (telling ∷ []) s acts z → s ≡ empty_state → acts ≡ []
silent_from g s z acts step e = silent g (telling ∷ []) s z acts step refl (ap (λ (x : RuleState). x.facts) e) (ap (λ (x : RuleState). x.known) e)

pub first_silent : {g : Sig} {s : RuleState} {full : Trace} → RuleRun g (telling ∷ []) s full → (acts : List Fact) (later : Trace) → full ≡ acts ∷ later → acts ≡ []
first_silent starts shown later e = cc
first_silent {g} (further {s = s} {z = z} {full = []} {acts = acts} run step) shown later e =
    let is : acts ≡ shown = cc in
    sym is ∙ silent_from g s z acts step (at_start run refl)
first_silent {g} (further {full = x ∷ before} {acts = acts} run step) shown later e =
    let is : x ≡ shown = cc in
    sym is ∙ first_silent run x before refl
