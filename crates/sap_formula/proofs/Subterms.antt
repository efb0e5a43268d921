-- The law of subterms.
use Rattle.std.proofs.Common.{ℕ, List, [], ◌∷◌, ◌++◌, ◌≡◌, refl, sym, subst, ◌∙◌, arith, ◌⊎◌, inl, inr}
use Rattle.sap_formula.specs.Times.{IsTime}
use Rattle.sap_formula.specs.Truth.{AnyIn, EachIn, facts_at}
use Rattle.sap_terms.specs.Message.{IsMessage}
use Rattle.sap_terms.specs.Normal.{EachSubterm, EachSubtermWithin}
use Rattle.sap_terms.specs.Signature.{Sig}
use Rattle.sap_terms.specs.Equations.{equations}
use Rattle.sap_terms.specs.Trace.{Trace}
use Rattle.sap_terms.specs.Tree.{Tree, Trees, apply, fresh, more, none, public, trees_of, variable}
use Rattle.sap_terms.specs.declared.fact.Fact.{Fact}
use Rattle.sap_terms.specs.declared.var.Var.{Var}
use Rattle.sap_formula.proofs.Alike.{alike}
use Rattle.sap_formula.proofs.Goods.{each_at, goods_at}
use Rattle.sap_formula.specs.Messages.{AreAnyMessages, HasMessages, IsAnyMessage}
use Rattle.sap_formula.proofs.Law.{AllSeen, Among, Seen, each_both, law}
use Rattle.sap_formula.proofs.Plain.{NormalLaws, leaf-normal}
use Rattle.sap_formula.specs.Laws.{SubtermLaw}
use Rattle.sap_terms.specs.Message.{IsMessageTrace}
use Rattle.sap_formula.specs.Subterms.{IsSeenMessage, all_subterms, time_terms, subterms, trace_terms}

-- one of these
abbrev IsIn : {X : Type 0} → List X → X → Type 0
IsIn xs x = AnyIn (λ y. y ≡ x) xs

pub in_left : {X : Type 0} (xs ys : List X) (x : X) → IsIn xs x → IsIn (xs ++ ys) x
in_left [] ys x i = absurd i
in_left (y ∷ xs) ys x (inl e) = inl e
in_left (y ∷ xs) ys x (inr i) = inr (in_left xs ys x i)

pub in_right : {X : Type 0} (xs ys : List X) (x : X) → IsIn ys x → IsIn (xs ++ ys) x
in_right [] ys x i = i
in_right (y ∷ xs) ys x i = inr (in_right xs ys x i)

pub in_cases : {X : Type 0} (xs ys : List X) (x : X) → IsIn (xs ++ ys) x → IsIn xs x ⊎ IsIn ys x
in_cases [] ys x i = inr i
in_cases (y ∷ xs) ys x (inl e) = inl (inl e)
in_cases (y ∷ xs) ys x (inr i) = elim (in_cases xs ys x i) [ inl j ↦ inl (inr j) | inr j ↦ inr j ]

mutual
  pub each_subterm : (S : Tree → Type 0) (t : Tree) → ((u : Tree) → IsIn (subterms t) u → S u) → EachSubterm S t
  each_subterm S (variable v) f = f (variable v) (inl refl)
  each_subterm S (public n) f = f (public n) (inl refl)
  each_subterm S (fresh k) f = f (fresh k) (inl refl)
  each_subterm S (apply h ts) f = (f (apply h ts) (inl refl), each_within S ts (λ u i. f u (inr i)))

  pub each_within : (S : Tree → Type 0) (ts : Trees) → ((u : Tree) → IsIn (all_subterms ts) u → S u) → EachSubtermWithin S ts
  each_within S none f = tt
  each_within S (more t ts) f = (each_subterm S t (λ u i. f u (in_left (subterms t) (all_subterms ts) u i)), each_within S ts (λ u i. f u (in_right (subterms t) (all_subterms ts) u i)))

abbrev HasTerms : (Tree → Type 0) → Fact → Type 0
HasTerms S f = EachSubtermWithin S (trees_of f.args)

each_in_time : (S : Tree → Type 0) (fs : List Fact) → ((u : Tree) → IsIn (time_terms fs) u → S u) → EachIn (HasTerms S) fs
each_in_time S [] h = tt
each_in_time S (f ∷ fs) h = (
  each_within S (trees_of f.args) (λ u i. h u (in_left (all_subterms (trees_of f.args)) (time_terms fs) u i)),
  each_in_time S fs (λ u i. h u (in_right (all_subterms (trees_of f.args)) (time_terms fs) u i)),
)

each_in_trace : (S : Tree → Type 0) (tr : Trace) → ((u : Tree) → IsIn (trace_terms tr) u → S u) → EachIn (EachIn (HasTerms S)) tr
each_in_trace S [] h = tt
each_in_trace S (p ∷ ps) h = (
  each_in_time S p (λ u i. h u (in_left (time_terms p) (trace_terms ps) u i)),
  each_in_trace S ps (λ u i. h u (in_right (time_terms p) (trace_terms ps) u i)),
)

mutual
  good_subterm : (g : Sig) (t : Tree) → IsAnyMessage g t → (u : Tree) → IsIn (subterms t) u → IsAnyMessage g u
  good_subterm g (variable v) a u i = absurd a.0
  good_subterm g (public m) a u (inl e) = subst (IsAnyMessage g) e a
  good_subterm g (public m) a u (inr i) = absurd i
  good_subterm g (fresh k) a u (inl e) = subst (IsAnyMessage g) e a
  good_subterm g (fresh k) a u (inr i) = absurd i
  good_subterm g (apply f ts) a u (inl e) = subst (IsAnyMessage g) e a
  good_subterm g (apply f ts) a u (inr i) = good_within g ts (a.0, a.1.1, a.2.1) u i

  good_within : (g : Sig) (ts : Trees) → AreAnyMessages g ts → (u : Tree) → IsIn (all_subterms ts) u → IsAnyMessage g u
  good_within g none a u i = absurd i
  good_within g (more t ts) a u i =
      elim (in_cases (subterms t) (all_subterms ts) u i) [ inl j ↦ good_subterm g t (a.0.0, a.1.0, a.2.0) u j | inr j ↦ good_within g ts (a.0.1, a.1.1, a.2.1) u j ]

good_in_time : (g : Sig) (fs : List Fact) → EachIn (HasMessages g) fs → (u : Tree) → IsIn (time_terms fs) u → IsAnyMessage g u
good_in_time g [] e u i = absurd i
good_in_time g (f ∷ fs) e u i =
    elim (in_cases (all_subterms (trees_of f.args)) (time_terms fs) u i) [ inl j ↦ good_within g (trees_of f.args) e.0 u j | inr j ↦ good_in_time g fs e.1 u j ]

-- what stands in a trace of messages is a message
pub seen_good : (g : Sig) (tr : Trace) → EachIn (EachIn (HasMessages g)) tr → (u : Tree) → IsIn (trace_terms tr) u → IsAnyMessage g u
seen_good g [] e u i = absurd i
seen_good g (p ∷ ps) e u i =
    elim (in_cases (time_terms p) (trace_terms ps) u i) [ inl j ↦ good_in_time g p e.0 u j | inr j ↦ seen_good g ps e.1 u j ]

abbrev Any : List ℕ → Type 0
Any n = Unit {0}

all_seen : (g : Sig) (tr : Trace) → IsMessageTrace g tr → AllSeen g Any (IsIn (trace_terms tr)) (λ k. Unit {0}) tr
all_seen g tr m k =
    let S = IsIn (trace_terms tr) in
    each_both (HasMessages g) (HasTerms S) (Seen g Any S (λ j. Unit {0}) k) (facts_at tr k) (λ f d e. record { normal = d.2; terms = λ v. e; time = λ v. tt }) (goods_at g tr m k) (each_at (HasTerms S) tr (each_in_trace S tr (λ u i. i)) k)

pub subterm_law : NormalLaws → SubtermLaw
subterm_law w g f tr m c o =
    let n = λ (v : Var). leaf-normal w (equations g) v in
    let l = law w g Any (IsIn (trace_terms tr)) (λ k. Unit {0}) tr (all_seen g tr m) (IsMessage g) (IsTime tr) (λ s t d. d.normal) f [] (λ v. variable v) (λ n. 0) c o n in
    let a = alike g Any tr tr (IsSeenMessage g tr) (IsSeenMessage g tr) (Among (IsTime tr) (λ k. Unit {0})) (IsTime tr) (λ i j. i ≡ j)
    (λ s t. (λ d. d, λ d. d)) (λ k p. (k, p.0, refl)) (λ k p. (k, (p, tt), refl))
    (λ i j x y p q. (λ e. sym p ∙ e ∙ q, λ e. p ∙ e ∙ sym q))
    (λ i j x y p q. (λ l. omega arith, λ l. omega arith))
    (λ i j p Q v. (λ h. subst (λ k. AnyIn Q (facts_at tr k)) p h, λ h. subst (λ k. AnyIn Q (facts_at tr k)) (sym p) h))
    f [] (λ v. variable v) (λ n. 0) (λ v. variable v) (λ n. 0) c (record { terms = λ v h. refl; times = λ n h. refl }) (equations g) in
    (λ h. a.0 (l.0 h), λ h. l.1 (a.1 h))
