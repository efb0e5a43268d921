-- Facts without destructors are what they fit, and facts of messages are their own forms.
use Rattle.std.proofs.Common.{◌≡◌, ◌≤◌, ◌<◌, ◌+◌, ℕ, List, [], ◌∷◌, map, inl, inr, refl, sym, ap, subst, ◌∙◌, arith}
use Rattle.std.specs.Prelude.{All}
use Rattle.std.specs.List.{AllZip}
use Rattle.std.proofs.lemmas.List.Elements.{All-head, All-tail}
use Rattle.sap_terms.specs.Choice.{Choice, instance, instances}
use Rattle.sap_terms.specs.Destructors.{HasDestructor, AnyHasDestructor}
use Rattle.sap_terms.specs.Equal.{same}
use Rattle.sap_terms.specs.Equations.{Equations, equations}
use Rattle.sap_terms.specs.Modulo.{instance_facts, AreFormsOfFacts}
use Rattle.sap_terms.specs.Normal.{IsNormal, AreNormal, IsNormalForm}
use Rattle.sap_terms.specs.Signature.{Sig}
use Rattle.sap_terms.specs.Tree.{Tree, variable, public, fresh, apply, Trees, none, more, trees_of, node_count, trees_count}
use Rattle.sap_terms.specs.declared.fact.Fact.{Fact}
use Rattle.sap_terms.specs.declared.limits.TheConstants.{MOST_TERM_NODES}
use Rattle.sap_rewrite.specs.Around.{FitsAround, FitAll}
use Rattle.sap_rewrite.specs.Large.{SomeSubterm, SomeSubtermWithin, itself, below, here, later, HasLargeForm}
use Rattle.sap_rewrite.specs.Laws.{FormIsOne}
use Rattle.sap_sides.specs.Fitting.{ArgsFit, FactsFit}
use Rattle.sap_sides.specs.Forms.{SomeLarge, args_of}
use Rattle.sap_sides.specs.Laws.{PlainFactsAreMet, MessageFactsAreForms}
use Rattle.sap_sides.specs.Messages.{IsSmallMessage, IsSmallMessageFact, HasNoDestructor}
use Rattle.sap_sides.proofs.Formed.{none_within, more_cases, within_cases}

fewer : (a most : ℕ) → a + 1 ≤ most → a ≤ most
fewer a most h = omega arith

first_fewer : (a b most : ℕ) → a + b ≤ most → a ≤ most
first_fewer a b most h = omega arith

rest_fewer : (a b most : ℕ) → a + b ≤ most → b ≤ most
rest_fewer a b most h = omega arith

mutual
  -- a term without destructors is the tree that it fits
  pub plain_fits : (g : Sig) (σ : Choice) (p t : Tree) → (HasDestructor g p → ⊥) → FitsAround g σ p t → instance σ p ≡ t
  plain_fits g σ (variable v) t n f = f
  plain_fits g σ (public m) t n f = f
  plain_fits g σ (fresh k) t n f = f
  plain_fits g σ (apply f ps) t n (inl d) = absurd (n (inl d))
  plain_fits g σ (apply f ps) t n (inr (ts, is, fit)) = ap (apply f) (plain_fit_all g σ ps ts (λ h. n (inr h)) fit) ∙ sym is

  plain_fit_all : (g : Sig) (σ : Choice) (ps ts : Trees) → (AnyHasDestructor g ps → ⊥) → FitAll g σ ps ts → instances σ ps ≡ ts
  plain_fit_all g σ none none n f = refl
  plain_fit_all g σ none (more t ts) n f = absurd f
  plain_fit_all g σ (more p ps) none n f = absurd f
  plain_fit_all g σ (more p ps) (more t ts) n f =
      let first = plain_fits g σ p t (λ h. n (inl h)) f.0 in
      let rest = plain_fit_all g σ ps ts (λ h. n (inr h)) f.1 in
      λ i. more (first i) (rest i)

plain_args : (g : Sig) (σ : Choice) (ps ts : List Tree) → (AnyHasDestructor g (trees_of ps) → ⊥) → ArgsFit g ps ts σ → map (instance σ) ps ≡ ts
plain_args g σ [] [] n f = refl
plain_args g σ [] (t ∷ ts) n f = absurd f
plain_args g σ (p ∷ ps) [] n f = absurd f
plain_args g σ (p ∷ ps) (t ∷ ts) n f =
    let first = plain_fits g σ p t (λ h. n (inl h)) f.0 in
    let rest = plain_args g σ ps ts (λ h. n (inr h)) f.1 in
    λ i. first i ∷ rest i

pub plain_facts : (g : Sig) (σ : Choice) (fs hs : List Fact) → All (HasNoDestructor g) fs → FactsFit g fs hs σ → instance_facts σ fs ≡ hs
plain_facts g σ [] [] n f = refl
plain_facts g σ [] (x ∷ xs) n f = absurd f
plain_facts g σ (p ∷ ps) [] n f = absurd f
plain_facts g σ (p ∷ ps) (x ∷ xs) n f =
    let fit = f.0 in
    let name = sym fit.name in
    let persistent = sym fit.persistent in
    let args = plain_args g σ p.args x.args (All-head (HasNoDestructor g) p ps n) fit.args in
    let rest = plain_facts g σ ps xs (All-tail (HasNoDestructor g) p ps n) f.1 in
    λ i. record { name = name i; persistent = persistent i; args = args i } ∷ rest i

mutual
  -- in a normal term within the limit no subterm is so, if no normal term within the limit is
  none_within_limit : (P : Tree → Type 0) (e : Equations) (most : ℕ) → ((u : Tree) → P u → IsNormal e u → node_count u ≤ most → ⊥) → {t : Tree} → SomeSubterm P t → IsNormal e t → node_count t ≤ most → ⊥
  none_within_limit P e most never (itself {t} h) n c = never t h n c
  none_within_limit P e most never (below {f} {ts} s) n c = none_among P e most never s n.1 (fewer (trees_count ts) most c)

  none_among : (P : Tree → Type 0) (e : Equations) (most : ℕ) → ((u : Tree) → P u → IsNormal e u → node_count u ≤ most → ⊥) → {ts : Trees} → SomeSubtermWithin P ts → AreNormal e ts → trees_count ts ≤ most → ⊥
  none_among P e most never (here {t} {ts} s) n c = none_within_limit P e most never s n.0 (first_fewer (node_count t) (trees_count ts) most c)
  none_among P e most never (later {t} {ts} s) n c = none_among P e most never s n.1 (rest_fewer (node_count t) (trees_count ts) most c)

-- the form of a normal term is the term
not_large : FormIsOne → (e : Equations) (most : ℕ) (u : Tree) → HasLargeForm e most u → IsNormal e u → node_count u ≤ most → ⊥
not_large one e most u h n c =
    let is = one e u h.form u h.is_form (record { equal = same; normal = n }) in
    let large : most < node_count u = subst (λ t. most < node_count t) is h.large in
    omega arith

none_beyond : FormIsOne → (e : Equations) (most : ℕ) {t : Tree} → SomeSubterm (HasLargeForm e most) t → IsNormal e t → node_count t ≤ most → ⊥
none_beyond one e most s n c = none_within_limit (HasLargeForm e most) e most (not_large one e most) s n c

none_large_args : FormIsOne → (g : Sig) (ts : List Tree) → All (IsSmallMessage g) ts → SomeLarge g ts → ⊥
none_large_args one g [] h s = none_within (HasLargeForm (equations g) MOST_TERM_NODES) s refl
none_large_args one g (t ∷ ts) h s =
    let first = All-head (IsSmallMessage g) t ts h in
    elim (more_cases (HasLargeForm (equations g) MOST_TERM_NODES) t (trees_of ts) s) as (λ _. ⊥) [
      | inl a ↦ none_beyond one (equations g) MOST_TERM_NODES a first.message.normal first.small
      | inr b ↦ none_large_args one g ts (All-tail (IsSmallMessage g) t ts h) b
    ]

none_large_facts : FormIsOne → (g : Sig) (hs : List Fact) → All (IsSmallMessageFact g) hs → SomeLarge g (args_of hs) → ⊥
none_large_facts one g [] h s = none_within (HasLargeForm (equations g) MOST_TERM_NODES) s refl
none_large_facts one g (x ∷ xs) h s = elim (within_cases (HasLargeForm (equations g) MOST_TERM_NODES) x.args (args_of xs) s) as (λ _. ⊥) [
  | inl a ↦ none_large_args one g x.args (All-head (IsSmallMessageFact g) x xs h) a
  | inr b ↦ none_large_facts one g xs (All-tail (IsSmallMessageFact g) x xs h) b
]

own_args : (g : Sig) (ts : List Tree) → All (IsSmallMessage g) ts → AllZip (IsNormalForm (equations g)) ts ts
own_args g [] h = tt
own_args g (t ∷ ts) h = (record { equal = same; normal = (All-head (IsSmallMessage g) t ts h).message.normal }, own_args g ts (All-tail (IsSmallMessage g) t ts h))

-- facts of messages are their own forms
own_forms : (g : Sig) (hs : List Fact) → All (IsSmallMessageFact g) hs → AreFormsOfFacts (equations g) hs hs
own_forms g [] h = tt
own_forms g (x ∷ xs) h = (
  record { name = refl; persistent = refl; args = own_args g x.args (All-head (IsSmallMessageFact g) x xs h) },
  own_forms g xs (All-tail (IsSmallMessageFact g) x xs h),
)

pub met : PlainFactsAreMet
met = plain_facts

pub are_forms : FormIsOne → MessageFactsAreForms
are_forms one g hs h = (own_forms g hs h, none_large_facts one g hs h)
