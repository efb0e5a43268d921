-- From names and normal terms what is made or opened is added, until nothing among the near terms is: so each is deducible or isn't.
use Rattle.std.proofs.Common.{◌≡◌, ℕ, zero, suc, Bool, true, false, List, [], ◌∷◌, ◌++◌, length, Option, Some, None, refl, sym, ap, ◌∙◌, ◌⊎◌, inl, inr, arith, subst}
use Rattle.std.specs.Prelude.{All, Contains, IsTrue, MatchOption}
use Rattle.std.specs.Str.{bytes_eq}
use Rattle.std.proofs.lemmas.List.Elements.{All-nil, All-cons, All-head, All-tail, All-append, All-weaker, All-contains, All-contains_itself, Contains-append_left, Contains-append_right}
use Rattle.std.proofs.lemmas.Slice.Eq.{bytes_eq-Decides}
use Rattle.sap_terms.specs.Deduce.{IsDerived, a_public, a_name, given, applied, IsDerivation, IsDeducible}
use Rattle.sap_terms.specs.Equal.{same}
use Rattle.sap_terms.specs.Equations.{equations, IsInstance, first, second, symmetric, asymmetric, revealed, app1, app2, pair_name, fst_name, snd_name, senc_name, sdec_name, aenc_name, adec_name, pk_name, reveal_sign_name, get_message_name}
use Rattle.sap_terms.specs.Normal.{IsNormal, AreNormal}
use Rattle.sap_terms.specs.Same.{same_tree}
use Rattle.sap_terms.specs.Signature.{Sig, arity_of, find_symbol, HoldsBuiltins}
use Rattle.sap_terms.specs.declared.signature.Symbol.{Symbol}
use Rattle.sap_terms.specs.Tree.{Tree, variable, public, fresh, apply, Trees, none, more, trees_of, list_of, list_of-trees_of, trees_of-list_of}
use Rattle.sap_terms.proofs.PlainLaws.Items.{first_item, later_item, cons_cases}
use Rattle.sap_terms.proofs.PlainLaws.Tests.{same_tree-refl, same_tree-sound}
use Rattle.sap_rewrite.specs.Laws.{FormIsOne, SymbolsReduceOnce}
use Rattle.sap_derive.specs.Decided.{DeducibilityIsDecided}
use Rattle.sap_derive.specs.Near.{IsAmong, first_one, other, IsSubterm, whole, within, IsNear}
use Rattle.sap_derive.specs.code.Clauses.{CanApply, IsMaking, writes, composes, IsOpening, takes_first, takes_second, decrypts, decrypts_by_secret, reads_signed, IsClosedOver}
use Rattle.sap_derive.specs.code.Saturated.{IsSaturated}
use Rattle.sap_derive.proofs.Clausal.{applied-known}
use Rattle.sap_derive.proofs.Gets.{same-or_not}
use Rattle.sap_derive.proofs.Made.{deduced-known}
use Rattle.sap_derive.proofs.Nearness.{near-parts, near-frame, near-goal, stands-normal}

-- it is so, or isn't
abbrev Decided : Type 0 → Type 0
Decided P = P ⊎ (P → ⊥)

both : {P Q : Type 0} → Decided P → Decided Q → Decided (P × Q)
both (inl p) (inl q) = inl (p, q)
both (inr n) q = inr (λ h. n h.0)
both (inl p) (inr n) = inr (λ h. n h.1)

no_item : {X : Type 0} {x : X} → Contains [] x → ⊥
no_item m = omega (arith, m.1)

tree_or_not : (t u : Tree) → Decided (t ≡ u)
tree_or_not t u = at (same_tree t u) refl where
  at : (b : Bool) → same_tree t u ≡ b → Decided (t ≡ u)
  at true e = inl (same_tree-sound t u e)
  at false e = inr (λ is. (let yes : same_tree t u ≡ true = subst (λ z. same_tree t z ≡ true) is (same_tree-refl t) in cc))

name_or_not : (a b : List ℕ) → Decided (a ≡ b)
name_or_not a b = at (bytes_eq a b) refl where
  at : (r : Bool) → bytes_eq a b ≡ r → Decided (a ≡ b)
  at true e = inl ((bytes_eq-Decides a b).0 e)
  at false e = inr (λ is. (let yes : bytes_eq a b ≡ true = (bytes_eq-Decides a b).1 is in cc))

bool_or_not : (a b : Bool) → Decided (a ≡ b)
bool_or_not true true = inl refl
bool_or_not false false = inl refl
bool_or_not true false = inr (λ e. cc)
bool_or_not false true = inr (λ e. cc)

true_or_not : (b : Bool) → Decided (IsTrue b)
true_or_not true = inl refl
true_or_not false = inr (λ h. cc)

-- lists that have an item, or don't, where items are one or aren't
contains_or_not : {X : Type 0} → ((x y : X) → Decided (x ≡ y)) → (xs : List X) (y : X) → Decided (Contains xs y)
contains_or_not d [] y = inr (λ m. no_item m)
contains_or_not d (x ∷ xs) y = elim (d x y) [
  | inl is ↦ inl (subst (Contains (x ∷ xs)) is (first_item x xs))
  | inr differs ↦ elim (contains_or_not d xs y) [
    | inl m ↦ inl (later_item x xs y m)
    | inr never ↦ inr (λ m. elim (cons_cases x xs y m) [ inl is ↦ differs is | inr rest ↦ never rest ])
  ]
]

all_or_not : (known us : List Tree) → Decided (All (Contains known) us)
all_or_not known [] = inl (All-nil (Contains known))
all_or_not known (u ∷ us) = elim (contains_or_not tree_or_not known u) [
  | inr never ↦ inr (λ h. never (All-head (Contains known) u us h))
  | inl here ↦ elim (all_or_not known us) [
    | inr never ↦ inr (λ h. never (All-tail (Contains known) u us h))
    | inl rest ↦ inl (All-cons (Contains known) u us here rest)
  ]
]

public_or_not : (o : Option Symbol) → Decided (MatchOption o ⊥ (λ (s : Symbol). s.private ≡ false))
public_or_not None = inr (λ h. h)
public_or_not (Some s) = bool_or_not s.private false

arity_or_not : (o : Option ℕ) (n : ℕ) → Decided (o ≡ Some n)
arity_or_not None n = inr (λ e. cc)
arity_or_not (Some m) n = elim (same-or_not m n) [ inl is ↦ inl (ap (λ k. Some k) is) | inr differs ↦ inr (λ e. differs (cc)) ]

can_or_not : (g : Sig) (f : List ℕ) (n : ℕ) → Decided (CanApply g f n)
can_or_not g f n = elim (public_or_not (find_symbol g.symbols f)) [
  | inr private ↦ inr (λ h. private h.public_symbol)
  | inl open_ ↦ elim (arity_or_not (arity_of g f) n) [
    | inr differs ↦ inr (λ h. differs h.arity)
    | inl arity ↦ inl (record { public_symbol = open_; arity = arity })
  ]
]

-- ---- what is opened

two_or_not : (name : List ℕ) (h : Tree) → ((x : Tree) × (y : Tree) × (h ≡ app2 name x y)) ⊎ ((x y : Tree) → h ≡ app2 name x y → ⊥)
two_or_not name (apply f (more x (more y none))) = elim (name_or_not f name) [
  | inl is ↦ inl (x, y, λ i. app2 (is i) x y)
  | inr differs ↦ inr (λ u w e. differs (cc))
]
two_or_not name _ = inr (λ x y e. cc)

one_or_not : (name : List ℕ) (h : Tree) → ((x : Tree) × (h ≡ app1 name x)) ⊎ ((x : Tree) → h ≡ app1 name x → ⊥)
one_or_not name (apply f (more x none)) = elim (name_or_not f name) [
  | inl is ↦ inl (x, λ i. app1 (is i) x)
  | inr differs ↦ inr (λ u e. differs (cc))
]
one_or_not name _ = inr (λ x e. cc)

-- the symbol on two terms of which this holds
abbrev Under2 : List ℕ → (Tree → Tree → Type 0) → Tree → Type 0
Under2 name P h = (x : Tree) × (y : Tree) × (h ≡ app2 name x y) × P x y

under_or_not : (name : List ℕ) (P : Tree → Tree → Type 0) (h : Tree) → ((x y : Tree) → Decided (P x y)) → Decided (Under2 name P h)
under_or_not name P h d = elim (two_or_not name h) [
  | inr never ↦ inr (λ o. never o.0 o.1 o.2)
  | inl p ↦ elim (d p.0 p.1) [
    | inl holds ↦ inl (p.0, p.1, p.2, holds)
    | inr fails ↦ inr (λ o. (let e : app2 name o.0 o.1 ≡ app2 name p.0 p.1 = sym o.2 ∙ p.2 in let a : o.0 ≡ p.0 = cc in let b : o.1 ≡ p.1 = cc in fails (subst (λ (v : Tree). P p.0 v) b (subst (λ (v : Tree). P v o.1) a o.3))))
  ]
]

module _ (g : Sig) (known : List Tree) (t : Tree) where
  abbrev First : Tree → Tree → Type 0
  First x y = (x ≡ t) × CanApply g fst_name 1

  abbrev Second : Tree → Tree → Type 0
  Second x y = (y ≡ t) × CanApply g snd_name 1

  abbrev Decrypted : Tree → Tree → Type 0
  Decrypted m k = (m ≡ t) × (IsTrue (equations g).symmetric × (CanApply g sdec_name 2 × Contains known k))

  abbrev KeyOf : Tree → Type 0
  KeyOf u = (k : Tree) × (u ≡ app1 pk_name k) × Contains known k

  abbrev BySecret : Tree → Tree → Type 0
  BySecret m u = (m ≡ t) × (IsTrue (equations g).asymmetric × (CanApply g adec_name 2 × KeyOf u))

  abbrev Read : Tree → Tree → Type 0
  Read m k = (m ≡ t) × (IsTrue (equations g).revealing × CanApply g get_message_name 1)

  key_or_not : (u : Tree) → Decided (KeyOf u)
  key_or_not u = elim (one_or_not pk_name u) [
    | inr never ↦ inr (λ o. never o.0 o.1)
    | inl p ↦ elim (contains_or_not tree_or_not known p.0) [
      | inl c ↦ inl (p.0, p.1, c)
      | inr fails ↦ inr (λ o. (let e : app1 pk_name o.0 ≡ app1 pk_name p.0 = sym o.1 ∙ p.1 in let a : o.0 ≡ p.0 = cc in fails (subst (Contains known) a o.2)))
    ]
  ]

  -- the term is opened to t, with what is known
  abbrev Opens : Tree → Type 0
  Opens h = (rest : List Tree) × IsOpening g h rest t × All (Contains known) rest

  none_opens : (h u : Tree) (rest : List Tree) → (Under2 pair_name First h → ⊥) → (Under2 pair_name Second h → ⊥) → (Under2 senc_name Decrypted h → ⊥) → (Under2 aenc_name BySecret h → ⊥)
      → (Under2 reveal_sign_name Read h → ⊥) → u ≡ t → IsOpening g h rest u → All (Contains known) rest → ⊥
  none_opens _ _ _ a b c d f e (takes_first x y can) all = a (x, y, refl, (e, can))
  none_opens _ _ _ a b c d f e (takes_second x y can) all = b (x, y, refl, (e, can))
  none_opens _ _ _ a b c d f e (decrypts m k on can) all = c (m, k, refl, (e, (on, (can, All-head (Contains known) k [] all))))
  none_opens _ _ _ a b c d f e (decrypts_by_secret m k on can) all = d (m, app1 pk_name k, refl, (e, (on, (can, (k, refl, All-head (Contains known) k [] all)))))
  none_opens _ _ _ a b c d f e (reads_signed m k on can) all = f (m, k, refl, (e, (on, can)))

  opens : (h u : Tree) (rest : List Tree) → u ≡ t → IsOpening g h rest u → All (Contains known) rest → Opens h
  opens h u rest e o all = (rest, subst (IsOpening g h rest) e o, all)

  alone : (k : Tree) → Contains known k → All (Contains known) (k ∷ [])
  alone k c = All-cons (Contains known) k [] c (All-nil (Contains known))

  opens_or_not : (h : Tree) → Decided (Opens h)
  opens_or_not h = elim (under_or_not pair_name First h (λ x y. both (tree_or_not x t) (can_or_not g fst_name 1))) [
    | inl o ↦ inl (rw o.2 (opens (app2 pair_name o.0 o.1) o.0 [] o.3.0 (takes_first o.0 o.1 o.3.1) (All-nil (Contains known))))
    | inr a ↦ elim (under_or_not pair_name Second h (λ x y. both (tree_or_not y t) (can_or_not g snd_name 1))) [
      | inl o ↦ inl (rw o.2 (opens (app2 pair_name o.0 o.1) o.1 [] o.3.0 (takes_second o.0 o.1 o.3.1) (All-nil (Contains known))))
      | inr b ↦ elim (under_or_not senc_name Decrypted h (λ m k. both (tree_or_not m t) (both (true_or_not (equations g).symmetric) (both (can_or_not g sdec_name 2) (contains_or_not tree_or_not known k))))) [
        | inl o ↦ inl (rw o.2 (opens (app2 senc_name o.0 o.1) o.0 (o.1 ∷ []) o.3.0 (decrypts o.0 o.1 o.3.1.0 o.3.1.1.0) (alone o.1 o.3.1.1.1)))
        | inr c ↦ elim (under_or_not aenc_name BySecret h (λ m u. both (tree_or_not m t) (both (true_or_not (equations g).asymmetric) (both (can_or_not g adec_name 2) (key_or_not u))))) [
          | inl o ↦ inl (secret h o.0 o.1 o.2 o.3.0 o.3.1.0 o.3.1.1.0 o.3.1.1.1)
          | inr d ↦ elim (under_or_not reveal_sign_name Read h (λ m k. both (tree_or_not m t) (both (true_or_not (equations g).revealing) (can_or_not g get_message_name 1)))) [
            | inl o ↦ inl (rw o.2 (opens (app2 reveal_sign_name o.0 o.1) o.0 [] o.3.0 (reads_signed o.0 o.1 o.3.1.0 o.3.1.1) (All-nil (Contains known))))
            | inr f ↦ inr (λ o. none_opens h t o.0 a b c d f refl o.1 o.2)
          ]
        ]
      ]
    ]
  ]
    where
      secret : (h m u : Tree) → h ≡ app2 aenc_name m u → m ≡ t → IsTrue (equations g).asymmetric → CanApply g adec_name 2 → KeyOf u → Opens h
      secret h m u e is on can (k, q, c) =
          let whole_is : h ≡ app2 aenc_name m (app1 pk_name k) = e ∙ ap (λ (v : Tree). app2 aenc_name m v) q in
          rw whole_is (opens (app2 aenc_name m (app1 pk_name k)) m (k ∷ []) is (decrypts_by_secret m k on can) (alone k c))

  -- some term of these is opened to it
  some_open : (hs : List Tree) → Decided ((h : Tree) × Contains hs h × Opens h)
  some_open [] = inr (λ o. no_item o.1)
  some_open (h ∷ hs) = elim (opens_or_not h) [
    | inl o ↦ inl (h, first_item h hs, o)
    | inr never ↦ elim (some_open hs) [
      | inl o ↦ inl (o.0, later_item h hs o.0 o.1, o.2)
      | inr none_ ↦ inr (λ o. elim (cons_cases h hs o.0 o.1) [ inl is ↦ never (subst Opens (sym is) o.2) | inr rest ↦ none_ (o.0, rest, o.2) ])
    ]
  ]

-- ---- what is made

making_of : (g : Sig) (us : List Tree) (t : Tree) → IsMaking g us t → (f : List ℕ) (ts : Trees) → t ≡ apply f ts → CanApply g f (length (list_of ts)) × (us ≡ list_of ts)
making_of g _ _ (writes n) f ts e = absurd (cc)
making_of g _ _ (composes h us can) f ts e =
    let q : trees_of us ≡ ts = cc in
    let here : us ≡ list_of ts = sym (list_of-trees_of us) ∙ ap list_of q in
    let symbol : h ≡ f = cc in
    (subst (λ (s : List ℕ). CanApply g s (length (list_of ts))) symbol (subst (λ (vs : List Tree). CanApply g h (length vs)) here can), here)

no_making : (g : Sig) (us : List Tree) (t : Tree) → IsMaking g us t → ((n : List ℕ) → t ≡ public n → ⊥) → ((f : List ℕ) (ts : Trees) → t ≡ apply f ts → ⊥) → ⊥
no_making g _ _ (writes n) a b = a n refl
no_making g _ _ (composes h us can) a b = b h (trees_of us) refl

-- the term is made of what is known
abbrev Made : Sig → List Tree → Tree → Type 0
Made g known t = (ts : List Tree) × IsMaking g ts t × All (Contains known) ts

made_or_not : (g : Sig) (known : List Tree) (t : Tree) → Decided (Made g known t)
made_or_not g known (variable v) = inr (λ m. no_making g m.0 (variable v) m.1 (λ n e. cc) (λ f ts e. cc))
made_or_not g known (fresh k) = inr (λ m. no_making g m.0 (fresh k) m.1 (λ n e. cc) (λ f ts e. cc))
made_or_not g known (public n) = inl ([], writes n, All-nil (Contains known))
made_or_not g known (apply f ts) = elim (both (can_or_not g f (length (list_of ts))) (all_or_not known (list_of ts))) [
  | inl h ↦ inl (list_of ts, subst (λ (us : Trees). IsMaking g (list_of ts) (apply f us)) (trees_of-list_of ts) (composes f (list_of ts) h.0), h.1)
  | inr fails ↦ inr (λ m. (let o = making_of g m.0 (apply f ts) m.1 f ts refl in fails (o.0, subst (All (Contains known)) o.1 m.2)))
]

-- ---- one step more

-- it was sent, is one of the names, or is made or opened of what is known
data Gains (g : Sig) (names : List ℕ) (frame known : List Tree) (t : Tree) : Type 0 where
  sent : Contains frame t → Gains g names frame known t
  own : (k : ℕ) → Contains names k → t ≡ fresh k → Gains g names frame known t
  made : Made g known t → Gains g names frame known t
  opened : (h : Tree) → Contains known h → Opens g known t h → Gains g names frame known t

-- it is one of the names
abbrev Own : List ℕ → Tree → Type 0
Own names t = (k : ℕ) × Contains names k × (t ≡ fresh k)

own_or_not : (names : List ℕ) (t : Tree) → Decided (Own names t)
own_or_not names (fresh k) = elim (contains_or_not same-or_not names k) [
  | inl c ↦ inl (k, c, refl)
  | inr never ↦ inr (λ o. (let e = o.2 in let is : o.0 ≡ k = cc in never (subst (Contains names) is o.1)))
]
own_or_not names (variable v) = inr (λ o. (let e = o.2 in cc))
own_or_not names (public n) = inr (λ o. (let e = o.2 in cc))
own_or_not names (apply f ts) = inr (λ o. (let e = o.2 in cc))

module _ (g : Sig) (names : List ℕ) (frame known : List Tree) where
  not_gained : (t : Tree) → ¬ Contains frame t → ¬ Own names t → ¬ Made g known t → ¬ ((h : Tree) × Contains known h × Opens g known t h) → Gains g names frame known t → ⊥
  not_gained t a b c d (sent s) = a s
  not_gained t a b c d (own k m e) = b (k, m, e)
  not_gained t a b c d (made m) = c m
  not_gained t a b c d (opened h m o) = d (h, m, o)

  gains_or_not : (t : Tree) → Decided (Gains g names frame known t)
  gains_or_not t = elim (contains_or_not tree_or_not frame t) [
    | inl s ↦ inl (sent s)
    | inr a ↦ elim (own_or_not names t) [
      | inl o ↦ inl (own o.0 o.1 o.2)
      | inr b ↦ elim (made_or_not g known t) [
        | inl m ↦ inl (made m)
        | inr c ↦ elim (some_open g known t known) [
          | inl o ↦ inl (opened o.0 o.1 o.2)
          | inr d ↦ inr (λ h. not_gained t a b c d h)
        ]
      ]
    ]
  ]

  -- one of these is gained, and the others are left
  record Picked (rest : List Tree) : Type 0 where
    term : Tree
    left : List Tree
    gains : Gains g names frame known term
    is : Contains rest term
    count : length rest ≡ suc (length left)
    kept : (u : Tree) → Contains rest u → (term ≡ u) ⊎ Contains left u
    only : (u : Tree) → Contains left u → Contains rest u

  picked_later : (t : Tree) (ts : List Tree) → Picked ts → Picked (t ∷ ts)
  picked_later t ts p = record {
    term = p.term;
    left = t ∷ p.left;
    gains = p.gains;
    is = later_item t ts p.term p.is;
    count = ap suc p.count;
    kept = λ u m. elim (cons_cases t ts u m) [
      | inl e ↦ inr (subst (Contains (t ∷ p.left)) e (first_item t p.left))
      | inr rest ↦ elim (p.kept u rest) [ inl e ↦ inl e | inr l ↦ inr (later_item t p.left u l) ]
    ];
    only = λ u m. elim (cons_cases t p.left u m) [
      | inl e ↦ subst (Contains (t ∷ ts)) e (first_item t ts)
      | inr l ↦ later_item t ts u (p.only u l)
    ];
  }

  pick : (rest : List Tree) → Picked rest ⊎ ((u : Tree) → Contains rest u → Gains g names frame known u → ⊥)
  pick [] = inr (λ u m. absurd (no_item m))
  pick (t ∷ ts) = elim (gains_or_not t) [
    | inl gains ↦ inl (record { term = t; left = ts; gains = gains; is = first_item t ts; count = refl; kept = λ u m. cons_cases t ts u m; only = λ u m. later_item t ts u m })
    | inr fails ↦ elim (pick ts) [
      | inl p ↦ inl (picked_later t ts p)
      | inr never ↦ inr (λ u m. elim (cons_cases t ts u m) [
        | inl is ↦ subst (λ (v : Tree). Gains g names frame known v → ⊥) is fails
        | inr rest ↦ never u rest
      ])
    ]
  ]

-- ---- until no step more gives anything

-- a term and the terms that stand in it
abbrev mutual
  standing : Tree → List Tree
  standing (apply f ts) = apply f ts ∷ standing_in ts
  standing t = t ∷ []

  standing_in : Trees → List Tree
  standing_in none = []
  standing_in (more t ts) = standing t ++ standing_in ts

itself_stands : (t : Tree) → Contains (standing t) t
itself_stands (variable v) = first_item (variable v) []
itself_stands (public n) = first_item (public n) []
itself_stands (fresh k) = first_item (fresh k) []
itself_stands (apply f ts) = first_item (apply f ts) (standing_in ts)

among_stand : (t u : Tree) (ts : Trees) → IsAmong u ts → Contains (standing u) t → Contains (standing_in ts) t
among_stand t u _ (first_one {ts}) m = Contains-append_left (standing u) (standing_in ts) t m
among_stand t u _ (other {u = v} {ts = ts} i) m = Contains-append_right (standing v) (standing_in ts) t (among_stand t u ts i m)

stands : (t u : Tree) → IsSubterm t u → Contains (standing u) t
stands t _ whole = itself_stands t
stands t _ (within {f = f} {ts = ts} {u = u} i s) = later_item (apply f ts) (standing_in ts) t (among_stand t u ts i (stands t u s))

abbrev all_standing : List Tree → List Tree
all_standing [] = []
all_standing (t ∷ ts) = standing t ++ all_standing ts

stands_in_one : (ts : List Tree) (t u : Tree) → Contains ts u → IsSubterm t u → Contains (all_standing ts) t
stands_in_one [] t u m s = absurd (no_item m)
stands_in_one (x ∷ xs) t u m s = elim (cons_cases x xs u m) [
  | inl is ↦ Contains-append_left (standing x) (all_standing xs) t (subst (λ (v : Tree). Contains (standing v) t) (sym is) (stands t u s))
  | inr rest ↦ Contains-append_right (standing x) (all_standing xs) t (stands_in_one xs t u rest s)
]

-- what stands in a normal term is normal
mutual
  standing_normal : (e : _) (t : Tree) → IsNormal e t → All (IsNormal e) (standing t)
  standing_normal e (variable v) n = All-cons (IsNormal e) (variable v) [] n (All-nil (IsNormal e))
  standing_normal e (public a) n = All-cons (IsNormal e) (public a) [] n (All-nil (IsNormal e))
  standing_normal e (fresh k) n = All-cons (IsNormal e) (fresh k) [] n (All-nil (IsNormal e))
  standing_normal e (apply f ts) n = All-cons (IsNormal e) (apply f ts) (standing_in ts) n (standing_in_normal e ts n.1)

  standing_in_normal : (e : _) (ts : Trees) → AreNormal e ts → All (IsNormal e) (standing_in ts)
  standing_in_normal e none n = All-nil (IsNormal e)
  standing_in_normal e (more t ts) n = All-append (IsNormal e) (standing t) (standing_in ts) (standing_normal e t n.0) (standing_in_normal e ts n.1)

all_standing_normal : (e : _) (ts : List Tree) → All (IsNormal e) ts → All (IsNormal e) (all_standing ts)
all_standing_normal e [] n = All-nil (IsNormal e)
all_standing_normal e (t ∷ ts) n =
    All-append (IsNormal e) (standing t) (all_standing ts) (standing_normal e t (All-head (IsNormal e) t ts n)) (all_standing_normal e ts (All-tail (IsNormal e) t ts n))

-- a derivation up to one of its terms
cut : (g : Sig) (names : List ℕ) (frame ts : List Tree) (t : Tree) → IsDerivation g names frame ts → Contains ts t → (earlier : List Tree) × IsDerivation g names frame (t ∷ earlier)
cut g names frame [] t d m = absurd (no_item m)
cut g names frame (u ∷ us) t d m = elim (cons_cases u us t m) [
  | inl is ↦ (us, subst (λ (v : Tree). IsDerivation g names frame (v ∷ us)) is d)
  | inr rest ↦ cut g names frame us t d.1 rest
]

module _ (one : FormIsOne) (once : SymbolsReduceOnce) (g : Sig) (names : List ℕ) (frame : List Tree) (goal : Tree) (builtins : HoldsBuiltins g) (sent_normal : All (IsNormal (equations g)) frame) (goal_normal : IsNormal (equations g) goal) where
  abbrev Near : Tree → Type 0
  Near = IsNear frame goal

  abbrev Normal : Tree → Type 0
  Normal = IsNormal (equations g)

  is_normal : (t : Tree) → Near t → Normal t
  is_normal t a = stands-normal (equations g) t a.above a.stands (All-contains Normal (goal ∷ frame) a.above (All-cons Normal goal frame goal_normal sent_normal) a.among)

  module _ (known : List Tree) (known_normal : (u : Tree) → Contains known u → Normal u) where
    -- what an equation leaves of known terms is derived from them
    reduced : (f : List ℕ) (ts : List Tree) (r : Tree) → CanApply g f (length ts) → All (Contains known) ts → IsInstance (equations g) (apply f (trees_of ts)) r → IsDerived g names frame known r
    reduced f ts r can all inst =
        applied f ts can.public_symbol can.arity all
        (once.right_side_is_form (equations g) f (trees_of ts) r (once.of_lists (equations g) ts (All-weaker (Contains known) Normal known_normal ts all)) inst)

    open_derived : (h : Tree) (rest : List Tree) (t : Tree) → IsOpening g h rest t → All (Contains known) (h ∷ rest) → IsDerived g names frame known t
    open_derived _ _ _ (takes_first x y can) all = reduced fst_name (app2 pair_name x y ∷ []) x can all first
    open_derived _ _ _ (takes_second x y can) all = reduced snd_name (app2 pair_name x y ∷ []) y can all second
    open_derived _ _ _ (decrypts m k on can) all = reduced sdec_name (app2 senc_name m k ∷ k ∷ []) m can all (symmetric on)
    open_derived _ _ _ (decrypts_by_secret m k on can) all = reduced adec_name (app2 aenc_name m (app1 pk_name k) ∷ k ∷ []) m can all (asymmetric on)
    open_derived _ _ _ (reads_signed m k on can) all = reduced get_message_name (app2 reveal_sign_name m k ∷ []) m can all (revealed on)

    made_derived : (ts : List Tree) (t : Tree) → IsMaking g ts t → Normal t → All (Contains known) ts → IsDerived g names frame known t
    made_derived _ _ (writes n) normal all = a_public n refl
    made_derived _ _ (composes f ts can) normal all = applied f ts can.public_symbol can.arity all (record { equal = same; normal = normal })

    gain_derived : (t : Tree) → Normal t → Gains g names frame known t → IsDerived g names frame known t
    gain_derived t normal (sent c) = given c
    gain_derived t normal (own k c e) = a_name k c e
    gain_derived t normal (made m) = made_derived m.0 t m.1 normal m.2
    gain_derived t normal (opened h c o) = open_derived h o.0 t o.1 (All-cons (Contains known) h o.0 c o.2)

  -- a derivation to which no step adds a near term
  record Full : Type 0 where
    known : List Tree
    derivation : IsDerivation g names frame known
    full : (t : Tree) → Near t → Contains known t ⊎ (Gains g names frame known t → ⊥)

  grown : (n : ℕ) (known rest : List Tree) → length rest ≡ n → IsDerivation g names frame known → ((u : Tree) → Contains known u → Normal u) → ((u : Tree) → Contains rest u → Normal u)
      → ((t : Tree) → Near t → Contains known t ⊎ Contains rest t) → Full
  grown zero known rest count d kn rn cover =
      record { known = known; derivation = d; full = λ t a. elim (cover t a) [ inl c ↦ inl c | inr c ↦ absurd (let below = c.1 in omega (arith, count)) ] }
  grown (suc n) known rest count d kn rn cover = at (pick g names frame known rest) (λ known2 rest2 e d2 kn2 rn2 cover2. grown n known2 rest2 e d2 kn2 rn2 cover2) where
    at : Picked g names frame known rest ⊎ ((u : Tree) → Contains rest u → Gains g names frame known u → ⊥)
        → ((known2 rest2 : List Tree) → length rest2 ≡ n → IsDerivation g names frame known2 → ((u : Tree) → Contains known2 u → Normal u) → ((u : Tree) → Contains rest2 u → Normal u)
        → ((t : Tree) → Near t → Contains known2 t ⊎ Contains rest2 t) → Full) → Full
    at (inr never) next = record { known = known; derivation = d; full = λ t a. elim (cover t a) [ inl c ↦ inl c | inr c ↦ inr (never t c) ] }
    at (inl p) next =
        let here : Normal p.term = rn p.term p.is in
        let sum = p.count in
        next (p.term ∷ known) p.left (omega (arith, count, sum)) (gain_derived known kn p.term here p.gains, d)
        (λ u m. elim (cons_cases p.term known u m) [ inl e ↦ subst Normal e here | inr c ↦ kn u c ])
        (λ u m. rn u (p.only u m))
        (λ t a. elim (cover t a) [
          | inl c ↦ inl (later_item p.term known t c)
          | inr c ↦ elim (p.kept t c) [ inl e ↦ inl (subst (Contains (p.term ∷ known)) e (first_item p.term known)) | inr l ↦ inr l ]
        ])

  -- what a near term is opened to is near
  opened_near : (h : Tree) (rest : List Tree) (t : Tree) → IsOpening g h rest t → Near h → Near t
  opened_near _ _ _ (takes_first x y can) a = near-parts g names frame goal pair_name (more x (more y none)) x a first_one
  opened_near _ _ _ (takes_second x y can) a = near-parts g names frame goal pair_name (more x (more y none)) y a (other first_one)
  opened_near _ _ _ (decrypts m k on can) a = near-parts g names frame goal senc_name (more m (more k none)) m a first_one
  opened_near _ _ _ (decrypts_by_secret m k on can) a = near-parts g names frame goal aenc_name (more m (more (app1 pk_name k) none)) m a first_one
  opened_near _ _ _ (reads_signed m k on can) a = near-parts g names frame goal reveal_sign_name (more m (more k none)) m a first_one

  all_full : Full
  all_full =
      let all : List Tree = all_standing (goal ∷ frame) in
      let normal = all_standing_normal (equations g) (goal ∷ frame) (All-cons Normal goal frame goal_normal sent_normal) in
      grown (length all) [] all refl tt (λ u m. absurd (no_item m)) (λ u m. All-contains Normal all u normal m) (λ t a. inr (stands_in_one (goal ∷ frame) t a.above a.among a.stands))

  module _ (f : Full) where
    -- what a step gives of it is in it
    has : (t : Tree) → Near t → Gains g names frame f.known t → Contains f.known t
    has t a h = elim (f.full t a) [ inl c ↦ c | inr never ↦ absurd (never h) ]

    closed : IsClosedOver g Near (Contains f.known)
    closed = record {
      made = λ ts t a m all. has t a (made (ts, m, all));
      opened = λ h rest t a o all.
          has t (opened_near h rest t o a) (opened h (All-head (Contains f.known) h rest all) (rest, o, All-tail (Contains f.known) h rest all));
    }

    saturated : IsSaturated g names frame Near (Contains f.known)
    saturated = record {
      publics = λ n a. has (public n) a (made ([], writes n, All-nil (Contains f.known)));
      names_too = λ k c a. has (fresh k) a (own k c refl);
      given = All-weaker (Contains frame) (Contains f.known) (λ u c. has u (All-contains Near frame u (near-frame g names frame goal) c) (sent c)) frame (All-contains_itself frame);
      applied = applied-known one once g Near (Contains f.known) builtins is_normal closed;
    }

    decided : Decided (IsDeducible g names frame goal)
    decided = elim (contains_or_not tree_or_not f.known goal) [
      | inl c ↦ (let d = cut g names frame f.known goal f.derivation c in
          inl (record { form = goal; is_form = record { equal = same; normal = goal_normal }; earlier = d.0; derivation = d.1 }))
      | inr never ↦ inr (λ d. never (deduced-known one once g names frame Near (Contains f.known) builtins (near-parts g names frame goal) is_normal
          (near-frame g names frame goal) saturated goal (near-goal g names frame goal) d))
    ]

pub deducibility-decided : FormIsOne → SymbolsReduceOnce → DeducibilityIsDecided
deducibility-decided one once g names frame goal builtins sent_normal goal_normal =
    decided one once g names frame goal builtins sent_normal goal_normal (all_full one once g names frame goal builtins sent_normal goal_normal)
