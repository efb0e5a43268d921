-- The variables and arguments of facts, and those of their instances under what is bound.
use Rattle.std.proofs.Common.{◌≡◌, ℕ, suc, Bool, true, false, not, ◌||◌, List, [], ◌∷◌, ◌++◌, length, map, filter, if◌then◌else◌, refl, sym, ap, subst, ◌∙◌, ◌⊎◌, inl, inr, arith, append_assoc}
use Rattle.std.specs.Prelude.{All, Contains}
use Rattle.std.specs.Str.{bytes_eq}
use Rattle.std.proofs.lemmas.Grind.{flat_map-append}
use Rattle.std.proofs.lemmas.Slice.Eq.{bytes_eq-Decides}
use Rattle.std.proofs.lemmas.List.{append-nil, map-append}
use Rattle.std.proofs.lemmas.List.Elements.{All-nil, All-cons, All-head, All-tail, filter-append, Contains-append_cases}
use Rattle.sap_terms.specs.Choice.{Choice, instance, instances}
use Rattle.sap_terms.specs.Ground.{IsGround}
use Rattle.sap_terms.specs.Modulo.{instance_facts}
use Rattle.sap_terms.specs.Subterms.{SomeSubterm, SomeSubtermWithin, itself, below, here, later}
use Rattle.sap_terms.specs.Tree.{Tree, variable, public, fresh, apply, Trees, none, more, trees_of}
use Rattle.sap_terms.specs.Variables.{tree_vars, trees_vars, facts_vars, is_known, new_vars}
use Rattle.sap_terms.specs.declared.fact.Fact.{Fact}
use Rattle.sap_terms.specs.declared.var.Var.{Var}
use Rattle.sap_process.specs.Heads.{facts_terms}
use Rattle.sap_process.specs.Sites.{var_names}
use Rattle.sap_heads.specs.code.Rules.{shape_of, shapes_of, together}
use Rattle.sap_heads.proofs.Chosen.{ground_vars}
use Rattle.sap_heads.proofs.Extended.{instance_twice}
use Rattle.sap_terms.proofs.PlainLaws.Items.{item_cases}

-- the variables of lists
terms_append : (xs ys : List Tree) → trees_vars (trees_of (xs ++ ys)) ≡ trees_vars (trees_of xs) ++ trees_vars (trees_of ys)
terms_append [] ys = refl
terms_append (x ∷ xs) ys = ap (λ vs. tree_vars x ++ vs) (terms_append xs ys) ∙ sym (append_assoc (tree_vars x) (trees_vars (trees_of xs)) (trees_vars (trees_of ys)))

pub together_vars : (fs : List Fact) → tree_vars (together fs) ≡ facts_vars fs
together_vars [] = refl
together_vars (f ∷ fs) = terms_append f.args (facts_terms fs) ∙ ap (λ vs. trees_vars (trees_of f.args) ++ vs) (together_vars fs)

pub vars_append : (fs hs : List Fact) → facts_vars (fs ++ hs) ≡ facts_vars fs ++ facts_vars hs
vars_append fs hs = flat_map-append (λ (f : Fact). trees_vars (trees_of f.args)) fs hs

pub facts_terms-append : (fs hs : List Fact) → facts_terms (fs ++ hs) ≡ facts_terms fs ++ facts_terms hs
facts_terms-append fs hs = flat_map-append (λ (f : Fact). f.args) fs hs

-- instances of lists
pub trees_instance : (σ : Choice) (ts : List Tree) → instances σ (trees_of ts) ≡ trees_of (map (instance σ) ts)
trees_instance σ [] = refl
trees_instance σ (t ∷ ts) = ap (λ us. more (instance σ t) us) (trees_instance σ ts)

pub terms_instance : (σ : Choice) (fs : List Fact) → map (instance σ) (facts_terms fs) ≡ facts_terms (instance_facts σ fs)
terms_instance σ [] = refl
terms_instance σ (f ∷ fs) = map-append (instance σ) f.args (facts_terms fs) ∙ ap (λ ts. map (instance σ) f.args ++ ts) (terms_instance σ fs)

pub together_instance : (σ : Choice) (fs : List Fact) → instance σ (together fs) ≡ together (instance_facts σ fs)
together_instance σ fs = ap (apply []) (trees_instance σ (facts_terms fs) ∙ ap trees_of (terms_instance σ fs))

args_twice : (σ γ : Choice) (ts : List Tree) → map (instance σ) (map (instance γ) ts) ≡ map (instance (λ v. instance σ (γ v))) ts
args_twice σ γ [] = refl
args_twice σ γ (t ∷ ts) = λ i. instance_twice σ γ t i ∷ args_twice σ γ ts i

pub facts_twice : (σ γ : Choice) (fs : List Fact) → instance_facts σ (instance_facts γ fs) ≡ instance_facts (λ v. instance σ (γ v)) fs
facts_twice σ γ [] = refl
facts_twice σ γ (f ∷ fs) =
    let args = args_twice σ γ f.args in
    λ i. record { name = f.name; persistent = f.persistent; args = args i } ∷ facts_twice σ γ fs i

-- facts of one shape with the same arguments are the same
pub length-map : {X Y : Type 0} (f : X → Y) (xs : List X) → length (map f xs) ≡ length xs
length-map f [] = refl
length-map f (x ∷ xs) = ap suc (length-map f xs)

pub shapes_instance : (σ : Choice) (fs : List Fact) → shapes_of (instance_facts σ fs) ≡ shapes_of fs
shapes_instance σ [] = refl
shapes_instance σ (f ∷ fs) =
    let count = length-map (instance σ) f.args in
    λ i. (f.name, (f.persistent, count i)) ∷ shapes_instance σ fs i

parted : {X : Type 0} (xs ys us vs : List X) → length xs ≡ length ys → xs ++ us ≡ ys ++ vs → (xs ≡ ys) × (us ≡ vs)
parted [] [] us vs l e = (refl, e)
parted [] (y ∷ ys) us vs l e = absurd (omega (arith, l))
parted (x ∷ xs) [] us vs l e = absurd (omega (arith, l))
parted (x ∷ xs) (y ∷ ys) us vs l e =
    let less : length xs ≡ length ys = omega (arith, l) in
    let first : x ≡ y = cc in
    let rest : xs ++ us ≡ ys ++ vs = cc in
    let both = parted xs ys us vs less rest in
    let same = both.0 in
    ((λ i. first i ∷ same i), both.1)

pub same_facts : (fs hs : List Fact) → shapes_of fs ≡ shapes_of hs → facts_terms fs ≡ facts_terms hs → fs ≡ hs
same_facts [] [] s e = refl
same_facts [] (h ∷ hs) s e = cc
same_facts (f ∷ fs) [] s e = cc
same_facts (f ∷ fs) (h ∷ hs) s e =
    let first : shape_of f ≡ shape_of h = cc in
    let later : shapes_of fs ≡ shapes_of hs = cc in
    let name : f.name ≡ h.name = ap (λ (x : List ℕ × (Bool × ℕ)). x.0) first in
    let persistent : f.persistent ≡ h.persistent = ap (λ (x : List ℕ × (Bool × ℕ)). x.1.0) first in
    let count : length f.args ≡ length h.args = ap (λ (x : List ℕ × (Bool × ℕ)). x.1.1) first in
    let both = parted f.args h.args (facts_terms fs) (facts_terms hs) count e in
    let args = both.0 in
    let rest = same_facts fs hs later both.1 in
    λ i. record { name = name i; persistent = persistent i; args = args i } ∷ rest i

trees_same : (ts us : List Tree) → trees_of ts ≡ trees_of us → ts ≡ us
trees_same [] [] e = refl
trees_same [] (u ∷ us) e = cc
trees_same (t ∷ ts) [] e = cc
trees_same (t ∷ ts) (u ∷ us) e =
    let first : t ≡ u = cc in
    let later : trees_of ts ≡ trees_of us = cc in
    let rest = trees_same ts us later in
    λ i. first i ∷ rest i

pub together_same : (fs hs : List Fact) → together fs ≡ together hs → facts_terms fs ≡ facts_terms hs
together_same fs hs e = let trees : trees_of (facts_terms fs) ≡ trees_of (facts_terms hs) = cc in trees_same (facts_terms fs) (facts_terms hs) trees

-- what all facts have, all arguments have
all_both : (P : Tree → Type 0) (xs ys : List Tree) → All P xs → All P ys → All P (xs ++ ys)
all_both P [] ys h i = i
all_both P (x ∷ xs) ys h i = All-cons P x (xs ++ ys) (All-head P x xs h) (all_both P xs ys (All-tail P x xs h) i)

pub args_all : (P : Tree → Type 0) (fs : List Fact) → All (λ (f : Fact). All P f.args) fs → All P (facts_terms fs)
args_all P [] h = All-nil P
args_all P (f ∷ fs) h = all_both P f.args (facts_terms fs) (All-head (λ (x : Fact). All P x.args) f fs h) (args_all P fs (All-tail (λ (x : Fact). All P x.args) f fs h))

-- known names
pub known_append : (xs ys : List (List ℕ)) (n : List ℕ) → is_known (xs ++ ys) n ≡ (is_known xs n || is_known ys n)
known_append [] ys n = refl
known_append (x ∷ xs) ys n = at (bytes_eq x n) (known_append xs ys n) where
  at : (b : Bool) → is_known (xs ++ ys) n ≡ (is_known xs n || is_known ys n) → (b || is_known (xs ++ ys) n) ≡ ((b || is_known xs n) || is_known ys n)
  at true e = refl
  at false e = e

pub new_same : (xs ys : List (List ℕ)) (vs : List Var) → ((n : List ℕ) → is_known xs n ≡ is_known ys n) → new_vars xs vs ≡ new_vars ys vs
new_same xs ys [] h = refl
new_same xs ys (v ∷ vs) h =
    let rest = new_same xs ys vs h in
    let others = new_same (xs ++ v.name ∷ []) (ys ++ v.name ∷ []) vs (λ n. known_append xs (v.name ∷ []) n ∙ ap (λ b. b || is_known (v.name ∷ []) n) (h n) ∙ sym (known_append ys (v.name ∷ []) n)) in
    (λ i. if h v.name i then rest i else v ∷ others i)

or_again : (a b c : Bool) → (b ≡ true → a ≡ true) → (a || c) ≡ (a || (b || c))
or_again true b c h = refl
or_again false true c h = absurd (let never : false ≡ true = h refl in cc)
or_again false false c h = refl

-- first occurrences in a list behind another
pub new_append : (ks : List (List ℕ)) (xs ys : List Var) → new_vars ks (xs ++ ys) ≡ new_vars ks xs ++ new_vars (ks ++ var_names xs) ys
new_append ks [] ys = ap (λ ns. new_vars ns ys) (sym (append-nil ks))
new_append ks (x ∷ xs) ys = at (is_known ks x.name) refl (new_append ks xs ys) (new_append (ks ++ x.name ∷ []) xs ys) where
  at : (b : Bool) → is_known ks x.name ≡ b → new_vars ks (xs ++ ys) ≡ new_vars ks xs ++ new_vars (ks ++ var_names xs) ys → new_vars (ks ++ x.name ∷ []) (xs ++ ys) ≡ new_vars (ks ++ x.name ∷ []) xs ++ new_vars ((ks ++ x.name ∷ []) ++ var_names xs) ys
      → (if b then new_vars ks (xs ++ ys) else x ∷ new_vars (ks ++ x.name ∷ []) (xs ++ ys)) ≡ (if b then new_vars ks xs else x ∷ new_vars (ks ++ x.name ∷ []) xs) ++ new_vars (ks ++ x.name ∷ var_names xs) ys
  at true known rest others = rest ∙ ap (λ vs. new_vars ks xs ++ vs) (new_same (ks ++ var_names xs) (ks ++ x.name ∷ var_names xs) ys (λ n. known_append ks (var_names xs) n ∙ or_again (is_known ks n) (bytes_eq x.name n) (is_known (var_names xs) n) (λ same. subst (λ m. is_known ks m ≡ true) ((bytes_eq-Decides x.name n).0 same) known) ∙ sym (known_append ks (x.name ∷ var_names xs) n)))
  at false new rest others = ap (λ vs. x ∷ vs) (others ∙ ap (λ ns. new_vars (ks ++ x.name ∷ []) xs ++ new_vars ns ys) (append_assoc ks (x.name ∷ []) (var_names xs)))

-- where known variables stand for ground trees and others for themselves
module _ (known : List (List ℕ)) (γ : Choice) (cases : (v : Var) → ((is_known known v.name ≡ true) × IsGround (γ v)) ⊎ ((is_known known v.name ≡ false) × (γ v ≡ variable v))) where
  abbrev free : Var → Bool
  free v = not (is_known known v.name)

  -- the others are left in an instance
  mutual
    vars_left : (t : Tree) → tree_vars (instance γ t) ≡ filter free (tree_vars t)
    vars_left (variable v) = elim (cases v) [
      | inl bound ↦ ground_vars (γ v) bound.1 ∙ sym (ap (λ b. if not b then v ∷ [] else []) bound.0)
      | inr other ↦ ap tree_vars other.1 ∙ sym (ap (λ b. if not b then v ∷ [] else []) other.0)
    ]
    vars_left (public m) = refl
    vars_left (fresh k) = refl
    vars_left (apply f ts) = all_left ts

    all_left : (ts : Trees) → trees_vars (instances γ ts) ≡ filter free (trees_vars ts)
    all_left none = refl
    all_left (more t ts) = (λ i. vars_left t i ++ all_left ts i) ∙ sym (filter-append free (tree_vars t) (trees_vars ts))

  facts_left : (fs : List Fact) → facts_vars (instance_facts γ fs) ≡ filter free (facts_vars fs)
  facts_left [] = refl
  facts_left (f ∷ fs) =
      let first : trees_vars (trees_of (map (instance γ) f.args)) ≡ filter free (trees_vars (trees_of f.args)) = ap trees_vars (sym (trees_instance γ f.args)) ∙ all_left (trees_of f.args) in
      (λ i. first i ++ facts_left fs i) ∙ sym (filter-append free (trees_vars (trees_of f.args)) (facts_vars fs))

  or_assoc : (a b c : Bool) → ((a || b) || c) ≡ (a || (b || c))
  or_assoc true b c = refl
  or_assoc false b c = refl

  -- one name more
  known_more : (js ks : List (List ℕ)) (m : List ℕ) → ((n : List ℕ) → is_known js n ≡ (is_known known n || is_known ks n)) → (n : List ℕ) → is_known (js ++ m ∷ []) n ≡ (is_known known n || is_known (ks ++ m ∷ []) n)
  known_more js ks m h n = known_append js (m ∷ []) n ∙ ap (λ b. b || is_known (m ∷ []) n) (h n) ∙ or_assoc (is_known known n) (is_known ks n) (is_known (m ∷ []) n) ∙ ap (λ b. is_known known n || b) (sym (known_append ks (m ∷ []) n))

  -- first occurrences among them
  new_left : (vs : List Var) (ks js : List (List ℕ)) → ((n : List ℕ) → is_known js n ≡ (is_known known n || is_known ks n)) → new_vars ks (filter free vs) ≡ new_vars js vs
  new_left [] ks js h = refl
  new_left (v ∷ vs) ks js h = at (is_known known v.name) refl (new_left vs ks js h) (new_left vs (ks ++ v.name ∷ []) (js ++ v.name ∷ []) (known_more js ks v.name h)) where
    at : (a : Bool) → is_known known v.name ≡ a → new_vars ks (filter free vs) ≡ new_vars js vs → new_vars (ks ++ v.name ∷ []) (filter free vs) ≡ new_vars (js ++ v.name ∷ []) vs → new_vars ks (filter free (v ∷ vs)) ≡ new_vars js (v ∷ vs)
    at true is rest others = let there : is_known js v.name ≡ true = h v.name ∙ ap (λ b. b || is_known ks v.name) is in rw (is, there) rest
    at false is rest others = let there : is_known js v.name ≡ is_known ks v.name = h v.name ∙ ap (λ b. b || is_known ks v.name) is in rw (is, there) (λ i. if is_known ks v.name then rest i else v ∷ others i)

  -- the names of those left are as known as all, beside what is known
  names_left : (vs : List Var) (n : List ℕ) → (is_known known n || is_known (var_names (filter free vs)) n) ≡ (is_known known n || is_known (var_names vs) n)
  names_left [] n = refl
  names_left (v ∷ vs) n = at (is_known known v.name) refl (names_left vs n) where
    or_skip : (a b c : Bool) → (b ≡ true → a ≡ true) → (a || c) ≡ (a || (b || c))
    or_skip a b c h = or_again a b c h

    or_keep : (a b c d : Bool) → (a || c) ≡ (a || d) → (a || (b || c)) ≡ (a || (b || d))
    or_keep true b c d e = refl
    or_keep false true c d e = refl
    or_keep false false c d e = e

    at : (a : Bool) → is_known known v.name ≡ a → (is_known known n || is_known (var_names (filter free vs)) n) ≡ (is_known known n || is_known (var_names vs) n) → (is_known known n || is_known (var_names (filter free (v ∷ vs))) n) ≡ (is_known known n || is_known (var_names (v ∷ vs)) n)
    at true is rest = rw is (rest ∙ or_skip (is_known known n) (bytes_eq v.name n) (is_known (var_names vs) n) (λ same. subst (λ m. is_known known m ≡ true) ((bytes_eq-Decides v.name n).0 same) is))
    at false is rest = rw is (or_keep (is_known known n) (bytes_eq v.name n) (is_known (var_names (filter free vs)) n) (is_known (var_names vs) n) rest)

  -- so what a rule's instance leaves open is what the rule leaves open
  pub left_is : (l e r : List Fact) → new_vars (var_names (facts_vars (instance_facts γ l))) (facts_vars (instance_facts γ e ++ instance_facts γ r)) ≡ new_vars (known ++ var_names (facts_vars l)) (facts_vars e ++ facts_vars r)
  left_is l e r =
      let others : facts_vars (instance_facts γ e ++ instance_facts γ r) ≡ filter free (facts_vars e ++ facts_vars r) = vars_append (instance_facts γ e) (instance_facts γ r) ∙ (λ i. facts_left e i ++ facts_left r i) ∙ sym (filter-append free (facts_vars e) (facts_vars r)) in
      (λ i. new_vars (var_names (facts_left l i)) (others i))
      ∙ new_left (facts_vars e ++ facts_vars r) (var_names (filter free (facts_vars l))) (known ++ var_names (facts_vars l)) (λ n. known_append known (var_names (facts_vars l)) n ∙ sym (names_left (facts_vars l) n))

-- what a variable of facts stands for is a subterm of the instance
mutual
  var_within : {Q : Tree → Type 0} (σ : Choice) (t : Tree) (v : Var) → Contains (tree_vars t) v → Q (σ v) → SomeSubterm Q (instance σ t)
  var_within {Q} σ (variable w) v m q = at (σ w) (subst (λ u. Q (σ u)) (sym (item_cases w v m)) q) where
    at : (t : Tree) → Q t → SomeSubterm Q t
    at t h = itself h
  var_within σ (public n) v m q = absurd (omega (arith, m.1))
  var_within σ (fresh k) v m q = absurd (omega (arith, m.1))
  var_within σ (apply f ts) v m q = below (var_among σ ts v m q)

  var_among : {Q : Tree → Type 0} (σ : Choice) (ts : Trees) (v : Var) → Contains (trees_vars ts) v → Q (σ v) → SomeSubtermWithin Q (instances σ ts)
  var_among σ none v m q = absurd (omega (arith, m.1))
  var_among σ (more t ts) v m q = elim (Contains-append_cases (tree_vars t) (trees_vars ts) v m) [ inl k ↦ here (var_within σ t v k q) | inr k ↦ later (var_among σ ts v k q) ]

pub var_below : {Q : Tree → Type 0} (σ : Choice) (fs : List Fact) (v : Var) → Contains (facts_vars fs) v → Q (σ v) → SomeSubtermWithin Q (trees_of (facts_terms (instance_facts σ fs)))
var_below {Q} σ fs v m q = subst (SomeSubtermWithin Q) (trees_instance σ (facts_terms fs) ∙ ap trees_of (terms_instance σ fs)) (var_among σ (trees_of (facts_terms fs)) v (subst (λ vs. Contains vs v) (sym (together_vars fs)) m) q)

-- some subterm of a list is one of a longer list
pub within_front : {Q : Tree → Type 0} (xs ys : List Tree) → SomeSubtermWithin Q (trees_of xs) → SomeSubtermWithin Q (trees_of (xs ++ ys))
within_front [] ys h = elim h [ ]
within_front (x ∷ xs) ys (here h) = here h
within_front (x ∷ xs) ys (later h) = later (within_front xs ys h)

pub within_back : {Q : Tree → Type 0} (xs ys : List Tree) → SomeSubtermWithin Q (trees_of ys) → SomeSubtermWithin Q (trees_of (xs ++ ys))
within_back [] ys h = h
within_back (x ∷ xs) ys h = later (within_back xs ys h)
