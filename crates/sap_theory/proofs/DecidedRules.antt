-- It is decided what rules keep to.
use Rattle.std.proofs.Common.{◌≡◌, ℕ, Bool, true, false, List, [], ◌∷◌, length, Option, Some, None, inl, inr, refl, ap}
use Rattle.std.specs.Prelude.{◌⊎◌, ◌==◌, codes, All, Contains}
use Rattle.std.specs.Bool.{Decides}
use Rattle.std.proofs.lemmas.Bool.Decides.{Decides-eqb}
use Rattle.std.proofs.lemmas.List.Elements.{All-nil, All-cons, All-head, All-tail, All-contains, All-contains_itself, All-weaker}
use Rattle.std.proofs.lemmas.Slice.Eq.{bytes_eq-Decides}
use Rattle.std.specs.Str.{bytes_eq}
use Rattle.sap_terms.specs.declared.fact.Fact.{Fact}
use Rattle.sap_terms.specs.declared.var.Sort.{Sort}
use Rattle.sap_terms.specs.declared.var.Sort.TheVariants.{Msg, Fresh, Pub}
use Rattle.sap_terms.specs.declared.var.Var.{Var}
use Rattle.sap_terms.specs.Tree.{Tree, variable, public, fresh, apply, Trees, none, more, trees_of, list_of}
use Rattle.sap_terms.specs.Signature.{Sig, arity_of}
use Rattle.sap_terms.specs.Message.{IsOver, AreOver, IsFactOver}
use Rattle.sap_rule.specs.declared.rule.Rule.{Rule}
use Rattle.sap_rule.specs.Variables.{rule_vars}
use Rattle.sap_rule.specs.WellMade.{IsSingle, IsKnowledge, IsLeftFact, IsRightFact, IsActFact, IsRuleOver, IsWellShaped}
use Rattle.sap_theory.specs.TheoryCauses.{IsLinear, IsPlainRule}

-- it is so, or it isn't
abbrev pub Decided : Type 0 → Type 0
Decided A = A ⊎ (A → ⊥)

decided : {A : Type 0} (b : Bool) → Decides b A → Decided A
decided true d = inl (d.0 refl)
decided false d = inr (λ a. let no : false ≡ true = d.1 a in absurd (cc (no)))

both : {A B : Type 0} → Decided A → Decided B → Decided (A × B)
both (inl a) (inl b) = inl (a, b)
both (inl a) (inr n) = inr (λ p. n p.1)
both (inr n) o = inr (λ p. n p.0)

either : {A B : Type 0} → Decided A → Decided B → Decided (A ⊎ B)
either (inl a) o = inl (inl a)
either (inr n) (inl b) = inl (inr b)
either {A = A} {B = B} (inr n) (inr m) = inr neither
  where
    neither : A ⊎ B → ⊥
    neither (inl a) = n a
    neither (inr b) = m b

negated : {A : Type 0} → Decided A → Decided (A → ⊥)
negated (inl a) = inr (λ n. n a)
negated (inr n) = inl n

implied : {A B : Type 0} → Decided A → Decided B → Decided (A → B)
implied (inl a) (inl b) = inl (λ x. b)
implied (inl a) (inr n) = inr (λ f. n (f a))
implied (inr n) o = inl (λ a. absurd (n a))

same : {A B : Type 0} → (A → B) → (B → A) → Decided A → Decided B
same to from (inl a) = inl (to a)
same to from (inr n) = inr (λ b. n (from b))

each : {A : Type 0} (P : A → Type 0) → ((x : A) → Decided (P x)) → (xs : List A) → Decided (All P xs)
each P one [] = inl (All-nil P)
each P one (x ∷ xs) = same (λ p. All-cons P x xs p.0 p.1) (λ a. (All-head P x xs a, All-tail P x xs a)) (both (one x) (each P one xs))

named : (m n : List ℕ) → Decided (m ≡ n)
named m n = decided (bytes_eq m n) (bytes_eq-Decides m n)

-- Symbols with their arities.
of_arity : (o : Option ℕ) (n : ℕ) → Decided (o ≡ Some n)
of_arity None n = inr (λ e. absurd (cc (e)))
of_arity (Some k) n = same (λ e. ap (λ (i : ℕ). Some i) e) (λ e. cc (e)) (decided (k == n) (Decides-eqb k n))

mutual
  over : (g : Sig) (t : Tree) → Decided (IsOver g t)
  over g (variable v) = inl tt
  over g (public n) = inl tt
  over g (fresh k) = inl tt
  over g (apply f ts) = both (of_arity (arity_of g f) (length (list_of ts))) (all_over g ts)

  all_over : (g : Sig) (ts : Trees) → Decided (AreOver g ts)
  all_over g none = inl tt
  all_over g (more t ts) = both (over g t) (all_over g ts)

facts_over : (g : Sig) (fs : List Fact) → Decided (All (IsFactOver g) fs)
facts_over g fs = each (IsFactOver g) (λ f. all_over g (trees_of f.args)) fs

pub rule_over : (g : Sig) (r : Rule) → Decided (IsRuleOver g r)
rule_over g r =
    same (λ p. record { left = p.0; acts = p.1.0; right = p.1.1 }) (λ o. (o.left, (o.acts, o.right)))
    (both (facts_over g r.left) (both (facts_over g r.acts) (facts_over g r.right)))

-- Facts where they stand.
linear : (f : Fact) → Decided (IsLinear f)
linear f = by f.persistent
  where
    by : (b : Bool) → Decided (b ≡ false)
    by false = inl refl
    by true = inr (λ e. absurd (cc (e)))

single : (f : Fact) → Decided (IsSingle f)
single f = same (λ p. record { linear = p.0; one = p.1 }) (λ s. (s.linear, s.one)) (both (linear f) (decided (length f.args == 1) (Decides-eqb (length f.args) 1)))

knowledge : (n : List ℕ) → Decided (IsKnowledge n)
knowledge n = either (named n (codes "K")) (either (named n (codes "KU")) (named n (codes "KD")))

left_fact : (f : Fact) → Decided (IsLeftFact f)
left_fact f =
    same (λ p. record { no_knowledge = p.0; no_out = p.1.0; fr = p.1.1.0; in_ = p.1.1.1 }) (λ o. (o.no_knowledge, (o.no_out, (o.fr, o.in_))))
    (both (negated (knowledge f.name)) (both (negated (named f.name (codes "Out"))) (both (implied (named f.name (codes "Fr")) (single f)) (implied (named f.name (codes "In")) (single f)))))

right_fact : (f : Fact) → Decided (IsRightFact f)
right_fact f =
    same (λ p. record { no_knowledge = p.0; no_fr = p.1.0; no_in = p.1.1.0; out = p.1.1.1 }) (λ o. (o.no_knowledge, (o.no_fr, (o.no_in, o.out))))
    (both (negated (knowledge f.name)) (both (negated (named f.name (codes "Fr"))) (both (negated (named f.name (codes "In"))) (implied (named f.name (codes "Out")) (single f)))))

act_fact : (f : Fact) → Decided (IsActFact f)
act_fact f =
    same (λ p. record { no_knowledge = p.0; no_fr = p.1.0; no_in = p.1.1.0; no_out = p.1.1.1 }) (λ o. (o.no_knowledge, (o.no_fr, (o.no_in, o.no_out))))
    (both (negated (knowledge f.name)) (both (negated (named f.name (codes "Fr"))) (both (negated (named f.name (codes "In"))) (negated (named f.name (codes "Out"))))))

-- Sorts of variables.
sorted : (s t : Sort) → Decided (s ≡ t)
sorted Msg Msg = inl refl
sorted Msg Fresh = inr (λ e. absurd (cc (e)))
sorted Msg Pub = inr (λ e. absurd (cc (e)))
sorted Fresh Msg = inr (λ e. absurd (cc (e)))
sorted Fresh Fresh = inl refl
sorted Fresh Pub = inr (λ e. absurd (cc (e)))
sorted Pub Msg = inr (λ e. absurd (cc (e)))
sorted Pub Fresh = inr (λ e. absurd (cc (e)))
sorted Pub Pub = inl refl

same_variable : (v w : Var) → Decided (v ≡ w)
same_variable v w =
    same (λ p i. record { name = p.0 i; sort = p.1 i }) (λ e. (ap (λ (x : Var). x.name) e, ap (λ (x : Var). x.sort) e)) (both (named v.name w.name) (sorted v.sort w.sort))

-- those with the name of the first have its sort
abbrev AgreesWith : Var → Var → Type 0
AgreesWith v w = v.name ≡ w.name → v ≡ w

abbrev HaveOneSort : List Var → Type 0
HaveOneSort vs = (v w : Var) → Contains vs v → Contains vs w → AgreesWith v w

one_sort : (vs : List Var) → Decided (HaveOneSort vs)
one_sort vs = same to from (each (λ v. All (AgreesWith v) vs) (λ v. each (AgreesWith v) (λ w. implied (named v.name w.name) (same_variable v w)) vs) vs)
  where
    to : All (λ v. All (AgreesWith v) vs) vs → HaveOneSort vs
    to a = λ v w c d. All-contains (AgreesWith v) vs w (All-contains (λ v. All (AgreesWith v) vs) vs v a c) d

    from : HaveOneSort vs → All (λ v. All (AgreesWith v) vs) vs
    from h =
        All-weaker (Contains vs) (λ v. All (AgreesWith v) vs) (λ v c. All-weaker (Contains vs) (AgreesWith v) (λ w d. h v w c d) vs (All-contains_itself vs)) vs (All-contains_itself vs)

well_shaped : (r : Rule) → Decided (IsWellShaped r)
well_shaped r =
    same (λ p. record { left = p.0; acts = p.1.0; right = p.1.1.0; sorts = p.1.1.1 }) (λ s. (s.left, (s.acts, (s.right, s.sorts))))
    (both (each IsLeftFact left_fact r.left) (both (each IsActFact act_fact r.acts) (both (each IsRightFact right_fact r.right) (one_sort (rule_vars r)))))

pub plain_rule : (r : Rule) → Decided (IsPlainRule r)
plain_rule r = same (λ p. record { shape = p.0; acts = p.1 }) (λ q. (q.shape, q.acts)) (both (well_shaped r) (each IsLinear linear r.acts))
