-- A line of rules is refused for one cause.
use Rattle.std.proofs.Common.{◌≡◌, ℕ, zero, suc, ◌+◌, ◌<◌, List, [], ◌∷◌, length, Some, None, map, take, slice_get, arith, refl, sym, ap, subst, ◌∙◌, ◌⊎◌, inl, inr}
use Rattle.std.specs.Prelude.{All}
use Rattle.std.proofs.lemmas.Bool.{cases_lt}
use Rattle.std.proofs.lemmas.List.Elements.{All-contains}
use Rattle.sap_terms.specs.Choice.{Choice}
use Rattle.sap_terms.specs.Equations.{equations}
use Rattle.sap_terms.specs.Normal.{IsNormalForm}
use Rattle.sap_terms.specs.Piles.{Pile, Takes, one, used}
use Rattle.sap_terms.specs.Signature.{Sig, IsPublic, arity_of}
use Rattle.sap_terms.specs.Tree.{Tree}
use Rattle.sap_terms.specs.declared.binding.Binding.{Binding}
use Rattle.sap_terms.specs.declared.fact.Fact.{Fact}
use Rattle.sap_facts.specs.Facts.{fact_at}
use Rattle.sap_rewrite.specs.Large.{SomeSubtermWithin}
use Rattle.sap_rewrite.specs.Match.{HaveOneSort}
use Rattle.sap_rule.specs.Named.{rule_named}
use Rattle.sap_rule.specs.RuleSteps.{RuleState}
use Rattle.sap_rule.specs.Variables.{rule_vars}
use Rattle.sap_rule.specs.WellMade.{IsWellMade}
use Rattle.sap_rule.specs.declared.rule.Rule.{Rule}
use Rattle.sap_runs.specs.declared.rule_step.RStep.{RStep}
use Rattle.sap_runs.specs.declared.rule_step.RStep.TheVariants.{Fresh, Learn, Own, Public, Apply, Know, Rule as RuleLine}
use Rattle.sap_steps.specs.Answers.{RefusalsAreOne}
use Rattle.sap_steps.specs.Faults.{AreRight, IsFitting, FitsNothing, EvaluatesLarge, HoldsOther, IsRuleRefusal, IsRefusedUse, IsRuleFault, IsFirstMissing, IsFaultOfNamed, IsFirstUnknownEntry, AppliesLarge, IsApplyFault, IsLineFault}
use Rattle.sap_steps.specs.declared.fault.RFault.{RFault}
use Rattle.sap_steps.specs.declared.fault.RFault.TheVariants.{Mem, NoRule, FactCount, FactMissing, BadBinding, NoMatch, TermLarge, Unequal, UsedName, WrongFact, NoEntry, NotPublic, Arity}
use Rattle.sap_steps.proofs.Determined.{terms_same}
use Rattle.sap_steps.proofs.Named.{Contains-get, Contains-rule_named}
use Rattle.sap_steps.proofs.OneAnswer.{one_live, takes_same, never_missing, none_unknown, large_small}

-- the faults that a test gives are one
abbrev GivesOne : (RFault → Type 0) → Type 0
GivesOne N = (e f : RFault) → N e → N f → e ≡ f

-- the first of two tests that fails gives the fault: this one, or, where it passes, the one behind
abbrev First : Type 0 → (RFault → Type 0) → (RFault → Type 0) → RFault → Type 0
First P N Q e = N e ⊎ (P × Q e)

first_one : (P : Type 0) (N Q : RFault → Type 0) → (P → (e : RFault) → N e → ⊥) → GivesOne N → GivesOne Q → GivesOne (First P N Q)
first_one P N Q never a b e f (inl h) (inl k) = a e f h k
first_one P N Q never a b e f (inl h) (inr k) = absurd (never k.0 e h)
first_one P N Q never a b e f (inr h) (inl k) = absurd (never h.0 f k)
first_one P N Q never a b e f (inr h) (inr k) = b e f h.1 k.1

-- a test that gives this fault
abbrev Gives : Type 0 → RFault → RFault → Type 0
Gives A f e = A × (e ≡ f)

gives_one : (A : Type 0) (f : RFault) → GivesOne (Gives A f)
gives_one A f e k h j = h.1 ∙ sym j.1

-- the first missing one is one
missing_later : (facts : Pile) (ks : List ℕ) {rest left : Pile} {fs before : List Fact} (at after number : ℕ) → at < after → slice_get ks at ≡ Some number → Takes facts (take after ks) fs rest → Takes facts (take at ks) before left → fact_at left number ≡ None → ⊥
missing_later facts [] at after number less here_is t u gone = cc
missing_later facts (k ∷ ks) at zero number less here_is t u gone = omega (arith, less)
missing_later facts (k ∷ ks) zero (suc after) number less here_is t u gone = never_missing zero number t (let e : k ≡ number = cc in ap (λ n. Some n) e) u gone
missing_later facts (k ∷ ks) {left = left} (suc at) (suc after) number less here_is (one {f = f} a t) (one {f = h} {fs = hs} b u) gone =
    let e : h ≡ f = one_live facts k f h a b in
    missing_later (used facts k f) ks at after number (omega (arith, less)) here_is t (subst (λ x. Takes (used facts k x) (take at ks) hs left) e u) gone

missing_one : (facts : Pile) (ks : List ℕ) (i j : ℕ) → IsFirstMissing facts ks i → IsFirstMissing facts ks j → i ≡ j
missing_one facts ks i j h k = h.index_is ∙ ap (λ n. n + 1) same ∙ sym k.index_is where
  same : h.at ≡ k.at
  same = elim (cases_lt h.at k.at) [
    | inl less ↦ absurd (missing_later facts ks h.at k.at h.number less h.here k.takes h.takes h.gone)
    | inr most ↦ elim (cases_lt k.at h.at) [
      | inl less ↦ absurd (missing_later facts ks k.at h.at k.number less k.here h.takes k.takes k.gone)
      | inr least ↦ omega (arith, most, least)
    ]
  ]

-- a symbol on entries: it is held and public, of this arity, each number is an entry's, and the normal form is small
module _ (g : Sig) (s : RuleState) (f ks : List ℕ) where
  abbrev Unknown : RFault → Type 0
  Unknown e = (k : ℕ) × IsFirstUnknownEntry s ks k × (e ≡ NoEntry k)

  unknown_one : GivesOne Unknown
  unknown_one e h (j, a, is) (k, b, also) = let same : j ≡ k = cc in is ∙ ap (λ n. NoEntry n) same ∙ sym also

  abbrev Known : Type 0
  Known = (ts : List Tree) × (map (slice_get s.known) ks ≡ map Some ts)

  known_never : Known → (e : RFault) → Unknown e → ⊥
  known_never (ts, known) e (k, unknown, is) = let never = none_unknown s.known ks ts known in cc

  abbrev HasArity : Type 0
  HasArity = arity_of g f ≡ Some (length ks)

  abbrev EntryFails : RFault → Type 0
  EntryFails = First Known Unknown (Gives (AppliesLarge g s f ks) TermLarge)

  abbrev ArityFails : RFault → Type 0
  ArityFails = First HasArity (Gives (¬ HasArity) (Arity f)) EntryFails

  abbrev ApplyFails : RFault → Type 0
  ApplyFails = First (IsPublic g f) (Gives (¬ IsPublic g f) (NotPublic f)) ArityFails

  apply_one : GivesOne ApplyFails
  apply_one =
      first_one (IsPublic g f) (Gives (¬ IsPublic g f) (NotPublic f)) ArityFails (λ p e h. h.0 p) (gives_one (¬ IsPublic g f) (NotPublic f))
      (first_one HasArity (Gives (¬ HasArity) (Arity f)) EntryFails (λ p e h. h.0 p) (gives_one (¬ HasArity) (Arity f))
      (first_one Known Unknown (Gives (AppliesLarge g s f ks) TermLarge) known_never unknown_one (gives_one (AppliesLarge g s f ks) TermLarge)))

  apply_fails : (e : RFault) → IsApplyFault g s f ks e → ApplyFails e
  apply_fails (NotPublic n) h = inl (h.1, ap (λ m. NotPublic m) h.0)
  apply_fails (Arity n) h = inr (h.1, inl (h.2, ap (λ m. Arity m) h.0))
  apply_fails (NoEntry n) h = inr (h.0, inr (h.1, inl (n, h.2, refl)))
  apply_fails TermLarge h = inr (h.public_symbol, inr (h.arity, inr ((h.terms, h.entries), (h, refl))))
  apply_fails _ h = absurd h

module _ (g : Sig) (r : Rule) (sorts : HaveOneSort (rule_vars r)) (b : List Binding) where
  -- on cited facts: the bindings are right, a choice fits, each normal form that is evaluated is small, and none is another
  module _ (cited : List Fact) where
    abbrev FitsSome : Type 0
    FitsSome = (σ : Choice) × IsFitting g r b cited σ

    fits_never : FitsSome → (e : RFault) → Gives (FitsNothing g r b cited) NoMatch e → ⊥
    fits_never (σ, fits) e h = h.0.none σ (λ v. (fits.messages v).sorted) fits.agrees fits.facts

    small_never : HoldsOther g r b cited → (e : RFault) → Gives (EvaluatesLarge g r b cited) TermLarge e → ⊥
    small_never h e (k, is) =
        let same = terms_same g r b cited sorts k.right.vars k.choice h.choice k.fitting.agrees h.fitting.agrees k.fitting.facts h.fitting.facts in
        large_small k.form k.large (h.small k.form (subst (SomeSubtermWithin (λ u. IsNormalForm (equations g) u k.form)) same k.evaluated))

    abbrev FormFails : RFault → Type 0
    FormFails = First (HoldsOther g r b cited) (Gives (EvaluatesLarge g r b cited) TermLarge) (Gives (HoldsOther g r b cited) Unequal)

    abbrev MatchFails : RFault → Type 0
    MatchFails = First FitsSome (Gives (FitsNothing g r b cited) NoMatch) FormFails

    abbrev CitedFails : RFault → Type 0
    CitedFails = First (AreRight g r b) (Gives (¬ AreRight g r b) BadBinding) MatchFails

    cited_one : GivesOne CitedFails
    cited_one =
        first_one (AreRight g r b) (Gives (¬ AreRight g r b) BadBinding) MatchFails (λ p e h. h.0 p) (gives_one (¬ AreRight g r b) BadBinding)
        (first_one FitsSome (Gives (FitsNothing g r b cited) NoMatch) FormFails fits_never (gives_one (FitsNothing g r b cited) NoMatch)
        (first_one (HoldsOther g r b cited) (Gives (EvaluatesLarge g r b cited) TermLarge) (Gives (HoldsOther g r b cited) Unequal) small_never
        (gives_one (EvaluatesLarge g r b cited) TermLarge) (gives_one (HoldsOther g r b cited) Unequal)))

    cited_fails : (e : RFault) → IsRuleRefusal g r b cited e → (e ≡ Mem) ⊎ CitedFails e
    cited_fails Mem h = inl refl
    cited_fails BadBinding h = inr (inl (h, refl))
    cited_fails NoMatch h = inr (inr (h.right, inl (h, refl)))
    cited_fails TermLarge h = inr (inr (h.right, inr ((h.choice, h.fitting), inl (h, refl))))
    cited_fails Unequal h = inr (inr (h.right, inr ((h.choice, h.fitting), inr (h, (h, refl)))))
    cited_fails _ h = absurd h

  -- of a rule: as many facts are cited as its left side has, none is missing, and on them it is used
  module _ (facts : Pile) (ks : List ℕ) where
    abbrev Missing : RFault → Type 0
    Missing e = (i : ℕ) × IsFirstMissing facts ks i × (e ≡ FactMissing i)

    missing_gives_one : GivesOne Missing
    missing_gives_one e f (i, a, is) (j, c, also) = is ∙ ap (λ n. FactMissing n) (missing_one facts ks i j a c) ∙ sym also

    abbrev TakesSome : Type 0
    TakesSome = (cited : List Fact) × (rest : Pile) × Takes facts ks cited rest

    takes_never : TakesSome → (e : RFault) → Missing e → ⊥
    takes_never (cited, rest, takes) e (i, first, is) = never_missing first.at first.number takes first.here first.takes first.gone

    abbrev UseFails : RFault → Type 0
    UseFails e = (cited : List Fact) × (rest : Pile) × Takes facts ks cited rest × CitedFails cited e

    use_one : GivesOne UseFails
    use_one e f h k = cited_one h.0 e f h.3 (subst (λ hs. CitedFails hs f) (takes_same h.2 k.2) k.3)

    abbrev Counted : Type 0
    Counted = length ks ≡ length r.left

    abbrev TakeFails : RFault → Type 0
    TakeFails = First TakesSome Missing UseFails

    abbrev RuleFails : RFault → Type 0
    RuleFails = First Counted (Gives (¬ Counted) FactCount) TakeFails

    rule_one : GivesOne RuleFails
    rule_one =
        first_one Counted (Gives (¬ Counted) FactCount) TakeFails (λ p e h. h.0 p) (gives_one (¬ Counted) FactCount)
        (first_one TakesSome Missing UseFails takes_never missing_gives_one use_one)

    use_fails : (e : RFault) → IsRefusedUse g r facts ks b e → (e ≡ Mem) ⊎ RuleFails e
    use_fails e h = elim (cited_fails h.cited e h.refusal) [
      | inl is ↦ inl is
      | inr u ↦ inr (inr (h.count, inr ((h.cited, h.rest, h.takes), (h.cited, h.rest, h.takes, u))))
    ]

    rule_fails : (e : RFault) → IsRuleFault g r facts ks b e → (e ≡ Mem) ⊎ RuleFails e
    rule_fails FactCount h = inr (inl (h, refl))
    rule_fails (FactMissing p) h = inr (inr (h.count, inl (p, h.first, refl)))
    rule_fails e h = use_fails e h

module _ (g : Sig) (rules : List Rule) (well : All (IsWellMade g) rules) (s : RuleState) where
  one_sort : (name : List ℕ) (r : Rule) → rule_named rules name ≡ Some r → HaveOneSort (rule_vars r)
  one_sort name r named = let at = Contains-rule_named rules r name named in (All-contains (IsWellMade g) rules r well (Contains-get rules r at.0 at.1)).shape.sorts

  named_one : (name ks : List ℕ) (b : List Binding) (e f : RFault) → IsFaultOfNamed g rules s.facts name ks b e → IsFaultOfNamed g rules s.facts name ks b f → (e ≡ Mem) ⊎ ((f ≡ Mem) ⊎ (e ≡ f))
  named_one name ks b e f h k =
      let r = h.rule in
      let named = h.named in
      let sorts = one_sort name r named in
      let same : k.rule ≡ r = cc (k.named, named) in
      elim (rule_fails g r sorts b s.facts ks e h.cause) [
        | inl is ↦ inl is
        | inr x ↦ elim (rule_fails g r sorts b s.facts ks f (subst (λ q. IsRuleFault g q s.facts ks b f) same k.cause)) [
          | inl is ↦ inr (inl is)
          | inr y ↦ inr (inr (rule_one g r sorts b s.facts ks e f x y))
        ]
      ]

  -- what fails of a line: of one of a rule, that its rule is found, or what its rule is refused for
  abbrev Fails : RStep → RFault → Type 0
  Fails (Fresh n) e = e ≡ UsedName n
  Fails (Learn k) e = e ≡ WrongFact k
  Fails (Own k) e = e ≡ WrongFact k
  Fails (Public n) e = ⊥
  Fails (Apply f ks) e = ApplyFails g s f ks e
  Fails (Know k) e = e ≡ NoEntry k
  Fails (RuleLine name ks b) e = ((rule_named rules name ≡ None) × (e ≡ NoRule)) ⊎ IsFaultOfNamed g rules s.facts name ks b e

  fails : (line : RStep) (e : RFault) → IsLineFault g rules s line e → (e ≡ Mem) ⊎ Fails line e
  fails (Fresh n) (UsedName m) h = inr (ap (λ k. UsedName k) h.0)
  fails (Learn k) (WrongFact f) h = inr (ap (λ n. WrongFact n) h.0)
  fails (Own k) (WrongFact f) h = inr (ap (λ n. WrongFact n) h.0)
  fails (Know k) (NoEntry n) h = inr (ap (λ m. NoEntry m) h.0)
  fails (RuleLine name ks b) NoRule h = inr (inl (h, refl))
  fails line Mem h = inl refl
  fails (Apply f ks) e h = inr (apply_fails g s f ks e h)
  fails (RuleLine name ks b) e h = inr (inr h)
  fails _ _ h = absurd h

  found_never : (name ks : List ℕ) (b : List Binding) (e : RFault) → rule_named rules name ≡ None → IsFaultOfNamed g rules s.facts name ks b e → ⊥
  found_never name ks b e none h = let named = h.named in cc

  fails_one : (line : RStep) (e f : RFault) → Fails line e → Fails line f → (e ≡ Mem) ⊎ ((f ≡ Mem) ⊎ (e ≡ f))
  fails_one (Fresh n) e f h k = inr (inr (h ∙ sym k))
  fails_one (Learn n) e f h k = inr (inr (h ∙ sym k))
  fails_one (Own n) e f h k = inr (inr (h ∙ sym k))
  fails_one (Public n) e f h k = absurd h
  fails_one (Apply n ks) e f h k = inr (inr (apply_one g s n ks e f h k))
  fails_one (Know n) e f h k = inr (inr (h ∙ sym k))
  fails_one (RuleLine name ks b) e f (inl h) (inl k) = inr (inr (h.1 ∙ sym k.1))
  fails_one (RuleLine name ks b) e f (inl h) (inr k) = absurd (found_never name ks b f h.0 k)
  fails_one (RuleLine name ks b) e f (inr h) (inl k) = absurd (found_never name ks b e k.0 h)
  fails_one (RuleLine name ks b) e f (inr h) (inr k) = named_one name ks b e f h k

pub refusals_are_one : RefusalsAreOne
refusals_are_one g rules s line e f well h k = elim (fails g rules well s line e h) [
  | inl is ↦ inl is
  | inr a ↦ elim (fails g rules well s line f k) [ inl is ↦ inr (inl is) | inr b ↦ fails_one g rules well s line e f a b ]
]
