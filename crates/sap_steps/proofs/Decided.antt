-- What lines of rules ask for is so or isn't.
use Rattle.std.proofs.Common.{◌≡◌, ℕ, zero, suc, ◌+◌, ◌<◌, Bool, true, false, List, [], ◌∷◌, length, map, Option, Some, None, find, nat_le, slice_get, arith, rules, refl, sym, ap, subst, ◌∙◌, ◌⊎◌, inl, inr, if◌then◌else◌}
use Rattle.std.specs.Prelude.{All, Contains, IsTrue}
use Rattle.std.specs.Str.{bytes_eq}
use Rattle.std.proofs.lemmas.Bool.{cases_lt}
use Rattle.std.proofs.lemmas.Option.{slice_get-get_or}
use Rattle.std.proofs.lemmas.Slice.Eq.{bytes_eq-Decides}
use Rattle.std.proofs.lemmas.List.Elements.{All-nil, All-cons, All-head, All-tail}
use Rattle.sap_terms.specs.Choice.{fits_sort}
use Rattle.sap_terms.specs.Equal.{same}
use Rattle.sap_terms.specs.Equations.{equations}
use Rattle.sap_terms.specs.Ground.{IsGround, AreGround}
use Rattle.sap_terms.specs.Message.{IsMessage, IsOver, AreOver}
use Rattle.sap_terms.specs.Normal.{IsNormal, IsNormalForm}
use Rattle.sap_terms.specs.Piles.{Pile, Takes, nothing, one, used}
use Rattle.sap_terms.specs.Same.{same_tree}
use Rattle.sap_terms.specs.Signature.{Sig, arity_of}
use Rattle.sap_terms.specs.Tree.{Tree, variable, public, fresh, apply, Trees, none, more, list_of, node_count}
use Rattle.sap_terms.specs.View.{tree}
use Rattle.sap_terms.specs.declared.binding.Binding.{Binding}
use Rattle.sap_terms.specs.declared.fact.Fact.{Fact}
use Rattle.sap_terms.specs.declared.limits.TheConstants.{MOST_TERM_NODES}
use Rattle.sap_terms.specs.declared.var.Sort.{Sort}
use Rattle.sap_terms.specs.declared.var.Var.{Var}
use Rattle.sap_terms.proofs.PlainLaws.Tests.{same_tree-refl, same_tree-sound}
use Rattle.sap_facts.specs.Facts.{standing}
use Rattle.sap_rewrite.specs.Large.{SomeSubterm, SomeSubtermWithin, itself, below, here, later}
use Rattle.sap_rewrite.specs.Laws.{EachHasForm, FormIsOne}
use Rattle.sap_rewrite.specs.Match.{bound_vars}
use Rattle.sap_rule.specs.Variables.{open_variables}
use Rattle.sap_rule.specs.declared.rule.Rule.{Rule}
use Rattle.sap_steps.specs.Faults.{AreRight, IsFirstMissing}
use Rattle.sap_steps.specs.Lines.{HasFewNodes}
use Rattle.sap_steps.proofs.Vars.{nothing_in, first_item, later_item, item_cases}

-- it is so, or isn't
abbrev pub Decided : Type 0 → Type 0
Decided P = P ⊎ (P → ⊥)

pub both : {P Q : Type 0} → Decided P → Decided Q → Decided (P × Q)
both (inl p) (inl q) = inl (p, q)
both (inr n) q = inr (λ h. n h.0)
both (inl p) (inr n) = inr (λ h. n h.1)

pub bool_or_not : (a b : Bool) → Decided (a ≡ b)
bool_or_not true true = inl refl
bool_or_not false false = inl refl
bool_or_not true false = inr (λ e. cc)
bool_or_not false true = inr (λ e. cc)

pub bytes_or_not : (a b : List ℕ) → Decided (a ≡ b)
bytes_or_not a b = at (bytes_eq a b) refl where
  at : (r : Bool) → bytes_eq a b ≡ r → Decided (a ≡ b)
  at true e = inl ((bytes_eq-Decides a b).0 e)
  at false e = inr (λ is. (let yes : bytes_eq a b ≡ true = (bytes_eq-Decides a b).1 is in cc))

pub nat_or_not : (m n : ℕ) → Decided (m ≡ n)
nat_or_not m n = elim (cases_lt m n) [
  | inl less ↦ inr (λ e. omega (arith, less, e))
  | inr most ↦ elim (cases_lt n m) [
    | inl less ↦ inr (λ e. omega (arith, less, e))
    | inr least ↦ inl (omega (arith, most, least))
  ]
]

pub tree_or_not : (t u : Tree) → Decided (t ≡ u)
tree_or_not t u = at (same_tree t u) refl where
  at : (b : Bool) → same_tree t u ≡ b → Decided (t ≡ u)
  at true e = inl (same_tree-sound t u e)
  at false e = inr (λ is. (let yes : same_tree t u ≡ true = subst (λ z. same_tree t z ≡ true) is (same_tree-refl t) in cc))

pub var_or_not : (v w : Var) → Decided (v ≡ w)
var_or_not v w = elim (tree_or_not (variable v) (variable w)) [
  | inl is ↦ inl (cc)
  | inr other ↦ inr (λ e. other (ap (λ u. variable u) e))
]

pub vars_or_not : (vs ws : List Var) → Decided (vs ≡ ws)
vars_or_not [] [] = inl refl
vars_or_not [] (w ∷ ws) = inr (λ e. cc)
vars_or_not (v ∷ vs) [] = inr (λ e. cc)
vars_or_not (v ∷ vs) (w ∷ ws) = elim (both (var_or_not v w) (vars_or_not vs ws)) [
  | inl h ↦ inl (λ i. h.0 i ∷ h.1 i)
  | inr never ↦ inr (λ e. never (cc, cc))
]

pub arity_or_not : (o : Option ℕ) (n : ℕ) → Decided (o ≡ Some n)
arity_or_not None n = inr (λ e. cc)
arity_or_not (Some m) n = elim (nat_or_not m n) [ inl is ↦ inl (ap (λ k. Some k) is) | inr other ↦ inr (λ e. other (cc)) ]

pub contains_or_not : (ns : List ℕ) (n : ℕ) → Decided (Contains ns n)
contains_or_not [] n = inr (λ m. nothing_in n m)
contains_or_not (k ∷ ks) n = elim (nat_or_not k n) [
  | inl is ↦ inl (subst (Contains (k ∷ ks)) is (first_item k ks))
  | inr other ↦ elim (contains_or_not ks n) [
    | inl m ↦ inl (later_item k n ks m)
    | inr never ↦ inr (λ m. elim (item_cases k n ks m) [ inl is ↦ other is | inr rest ↦ never rest ])
  ]
]

-- the numbers can be taken, or one is the first that is missing
pub takes_or_missing : (facts : Pile) (ks : List ℕ) → ((left : List Fact) × (rest : Pile) × Takes facts ks left rest) ⊎ ((i : ℕ) × IsFirstMissing facts ks i)
takes_or_missing facts [] = inl ([], facts, nothing)
takes_or_missing facts (k ∷ ks) = at (slice_get facts k) refl (λ f. takes_or_missing (used facts k f) ks) where
  gone : (o : Option (Option Fact)) → slice_get facts k ≡ o → standing o ≡ None → ((left : List Fact) × (rest : Pile) × Takes facts (k ∷ ks) left rest) ⊎ ((i : ℕ) × IsFirstMissing facts (k ∷ ks) i)
  gone o e h = inr (0 + 1, record { before = []; rest = facts; at = zero; number = k; index_is = refl; here = refl; takes = nothing; gone = ap standing e ∙ h })

  at : (o : Option (Option Fact)) → slice_get facts k ≡ o → ((f : Fact) → ((left : List Fact) × (rest : Pile) × Takes (used facts k f) ks left rest) ⊎ ((i : ℕ) × IsFirstMissing (used facts k f) ks i)) → ((left : List Fact) × (rest : Pile) × Takes facts (k ∷ ks) left rest) ⊎ ((i : ℕ) × IsFirstMissing facts (k ∷ ks) i)
  at None e behind = gone None e refl
  at (Some None) e behind = gone (Some None) e refl
  at (Some (Some f)) e behind = elim (behind f) [
    | inl r ↦ inl (f ∷ r.0, r.1, one e r.2)
    | inr m ↦ (let h = m.1 in inr (suc h.at + 1, record { before = f ∷ h.before; rest = h.rest; at = suc h.at; number = h.number; index_is = refl; here = h.here; takes = one e h.takes; gone = h.gone }))
  ]

-- each number is an entry's, or one is the first that isn't
pub known_or_not : (es : List Tree) (ks : List ℕ) → ((ts : List Tree) × (map (slice_get es) ks ≡ map Some ts)) ⊎ ((k : ℕ) × (find (nat_le (length es)) ks ≡ Some k))
known_or_not es [] = inl ([], refl)
known_or_not es (k ∷ ks) = at (nat_le (length es) k) refl (known_or_not es ks) where
  there : nat_le (length es) k ≡ false → (o : Option Tree) → slice_get es k ≡ o → (t : Tree) × (slice_get es k ≡ Some t)
  there e (Some t) s = (t, s)
  there e None s =
      let less : k < length es = search (rules, e) in
      let found = slice_get-get_or es k (fresh 0) less in
      absurd (cc)

  at : (b : Bool) → nat_le (length es) k ≡ b → ((ts : List Tree) × (map (slice_get es) ks ≡ map Some ts)) ⊎ ((j : ℕ) × (find (nat_le (length es)) ks ≡ Some j)) → ((ts : List Tree) × (slice_get es k ∷ map (slice_get es) ks ≡ map Some ts)) ⊎ ((j : ℕ) × ((if nat_le (length es) k then Some k else find (nat_le (length es)) ks) ≡ Some j))
  at true e rest = inr (k, rw e refl)
  at false e (inr r) = inr (r.0, rw e r.1)
  at false e (inl r) = let h = there e (slice_get es k) refl in inl (h.0 ∷ r.0, λ i. h.1 i ∷ r.1 i)

mutual
  ground_or_not : (t : Tree) → Decided (IsGround t)
  ground_or_not (variable v) = inr (λ h. h)
  ground_or_not (public a) = inl tt
  ground_or_not (fresh k) = inl tt
  ground_or_not (apply f ts) = grounds_or_not ts

  grounds_or_not : (ts : Trees) → Decided (AreGround ts)
  grounds_or_not none = inl tt
  grounds_or_not (more t ts) = both (ground_or_not t) (grounds_or_not ts)

mutual
  over_or_not : (g : Sig) (t : Tree) → Decided (IsOver g t)
  over_or_not g (variable v) = inl tt
  over_or_not g (public a) = inl tt
  over_or_not g (fresh k) = inl tt
  over_or_not g (apply f ts) = both (arity_or_not (arity_of g f) (length (list_of ts))) (overs_or_not g ts)

  overs_or_not : (g : Sig) (ts : Trees) → Decided (AreOver g ts)
  overs_or_not g none = inl tt
  overs_or_not g (more t ts) = both (over_or_not g t) (overs_or_not g ts)

true_or_not : (b : Bool) → Decided (IsTrue b)
true_or_not true = inl refl
true_or_not false = inr (λ h. cc)

module _ (each : EachHasForm) (one_form : FormIsOne) (g : Sig) where
  normal_or_not : (t : Tree) → Decided (IsNormal (equations g) t)
  normal_or_not t =
      let n = each (equations g) t in
      elim (tree_or_not t n.0) [
        | inl is ↦ inl (subst (IsNormal (equations g)) (sym is) n.1.normal)
        | inr other ↦ inr (λ h. other (one_form (equations g) t t n.0 (record { equal = same; normal = h }) n.1))
      ]

  pub message_or_not : (s : Sort) (t : Tree) → Decided (IsMessage g s t)
  message_or_not s t = elim (both (ground_or_not t) (both (over_or_not g t) (both (normal_or_not t) (true_or_not (fits_sort s t))))) [
    | inl h ↦ inl (record { ground = h.0; over = h.1.0; normal = h.1.1.0; sorted = h.1.1.1 })
    | inr n ↦ inr (λ h. n (h.ground, (h.over, (h.normal, h.sorted))))
  ]

  messages_or_not : (b : List Binding) → Decided (All (λ (e : Binding). IsMessage g e.var.sort (tree e.term)) b)
  messages_or_not [] = inl (All-nil (λ (e : Binding). IsMessage g e.var.sort (tree e.term)))
  messages_or_not (x ∷ xs) = elim (both (message_or_not x.var.sort (tree x.term)) (messages_or_not xs)) [
    | inl h ↦ inl (All-cons (λ (e : Binding). IsMessage g e.var.sort (tree e.term)) x xs h.0 h.1)
    | inr never ↦ inr (λ h. never (All-head (λ (e : Binding). IsMessage g e.var.sort (tree e.term)) x xs h, All-tail (λ (e : Binding). IsMessage g e.var.sort (tree e.term)) x xs h))
  ]

  pub right_or_not : (r : Rule) (b : List Binding) → Decided (AreRight g r b)
  right_or_not r b = elim (both (vars_or_not (bound_vars b) (open_variables g r)) (messages_or_not b)) [
    | inl h ↦ inl (record { vars = h.0; terms = h.1 })
    | inr never ↦ inr (λ h. never (h.vars, h.terms))
  ]

  -- a normal form of a subterm is too large, or all are within the limit
  abbrev IsFormOf : Tree → Tree → Type 0
  IsFormOf n u = IsNormalForm (equations g) u n

  abbrev HasLarge : Tree → Type 0
  HasLarge t = (n : Tree) × SomeSubterm (IsFormOf n) t × (MOST_TERM_NODES < node_count n)

  abbrev AllSmall : Tree → Type 0
  AllSmall t = (n : Tree) → SomeSubterm (IsFormOf n) t → HasFewNodes n

  own : (t : Tree) → HasLarge t ⊎ ((n : Tree) → IsFormOf n t → HasFewNodes n)
  own t =
      let f = each (equations g) t in
      elim (cases_lt MOST_TERM_NODES (node_count f.0)) [
        | inl large ↦ inl (f.0, itself f.1, large)
        | inr small ↦ inr (λ n h. subst HasFewNodes (one_form (equations g) t f.0 n f.1 h) small)
      ]

  leaf : (t : Tree) → ((n : Tree) → SomeSubterm (IsFormOf n) t → IsFormOf n t) → HasLarge t ⊎ AllSmall t
  leaf t only = elim (own t) [ inl h ↦ inl h | inr small ↦ inr (λ n h. small n (only n h)) ]

  only_variable : (v : Var) (n : Tree) → SomeSubterm (IsFormOf n) (variable v) → IsFormOf n (variable v)
  only_variable v n (itself h) = h

  only_public : (a : List ℕ) (n : Tree) → SomeSubterm (IsFormOf n) (public a) → IsFormOf n (public a)
  only_public a n (itself h) = h

  only_fresh : (k : ℕ) (n : Tree) → SomeSubterm (IsFormOf n) (fresh k) → IsFormOf n (fresh k)
  only_fresh k n (itself h) = h

  applied : (f : List ℕ) (ts : Trees) (n : Tree) → ((n : Tree) → IsFormOf n (apply f ts) → HasFewNodes n) → ((n : Tree) → SomeSubtermWithin (IsFormOf n) ts → HasFewNodes n) → SomeSubterm (IsFormOf n) (apply f ts) → HasFewNodes n
  applied f ts n small within (itself h) = small n h
  applied f ts n small within (below h) = within n h

  any_of : (t : Tree) (ts : Trees) (n : Tree) → AllSmall t → ((n : Tree) → SomeSubtermWithin (IsFormOf n) ts → HasFewNodes n) → SomeSubtermWithin (IsFormOf n) (more t ts) → HasFewNodes n
  any_of t ts n first rest (here h) = first n h
  any_of t ts n first rest (later h) = rest n h

  mutual
    large_or_not : (t : Tree) → HasLarge t ⊎ AllSmall t
    large_or_not (variable v) = leaf (variable v) (λ n h. only_variable v n h)
    large_or_not (public a) = leaf (public a) (λ n h. only_public a n h)
    large_or_not (fresh k) = leaf (fresh k) (λ n h. only_fresh k n h)
    large_or_not (apply f ts) = elim (larges_or_not ts) [
      | inl h ↦ inl (h.0, below h.1, h.2)
      | inr within ↦ elim (own (apply f ts)) [ inl h ↦ inl h | inr small ↦ inr (λ n h. applied f ts n small within h) ]
    ]

    pub larges_or_not : (ts : Trees) → ((n : Tree) × SomeSubtermWithin (IsFormOf n) ts × (MOST_TERM_NODES < node_count n)) ⊎ ((n : Tree) → SomeSubtermWithin (IsFormOf n) ts → HasFewNodes n)
    larges_or_not none = inr (λ n h. elim h [ ])
    larges_or_not (more t ts) = elim (large_or_not t) [
      | inl h ↦ inl (h.0, here h.1, h.2)
      | inr first ↦ elim (larges_or_not ts) [ inl h ↦ inl (h.0, later h.1, h.2) | inr rest ↦ inr (λ n h. any_of t ts n first rest h) ]
    ]
