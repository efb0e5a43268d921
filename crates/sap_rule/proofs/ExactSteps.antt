-- What happened where a state goes on, by hand.
use Rattle.std.proofs.Common.{◌≡◌, ◌⊎◌, ◌<◌, ℕ, zero, suc, List, [], ◌∷◌, ◌++◌, length, Bool, true, false, Option, Some, None, refl, sym, ap, subst, ◌∙◌, inl, inr, slice_get, slice_set, arith}
use Rattle.std.specs.Prelude.{All, Contains, codes}
use Rattle.std.proofs.lemmas.List.{append_cancel_left}
use Rattle.std.proofs.lemmas.List.Elements.{All-nil, All-head, All-tail, All-weaker}
use Rattle.sap_rewrite.specs.Laws.{FormIsOne}
use Rattle.sap_terms.specs.AdversaryFacts.{linear, k_fact, in_fact, out_fact, fr_fact}
use Rattle.std.specs.Str.{bytes_eq}
use Rattle.sap_terms.specs.FactNames.{fr_name}
use Rattle.sap_terms.specs.Equal.{same}
use Rattle.sap_terms.specs.Equations.{Equations, equations, first}
use Rattle.sap_terms.specs.Normal.{IsNormal, AreNormal, IsNormalForm}
use Rattle.sap_terms.specs.Piles.{Pile, Takes, nothing, one, used}
use Rattle.sap_terms.specs.Signature.{Sig, IsPublic, arity_of}
use Rattle.sap_terms.specs.Tree.{Tree, public, fresh, apply, none, more, trees_of, list_of, list_of-trees_of}
use Rattle.sap_terms.specs.declared.fact.Fact.{Fact}
use Rattle.sap_rule.specs.RuleSteps.{RuleState, RuleStep, makes_name, learns, owns, knows_public, applies, gives, uses}
use Rattle.sap_rule.specs.StepExamples.{a, b, pair, first_of}
use Rattle.sap_rule.specs.declared.rule.Rule.{Rule}
use Rattle.sap_rule.proofs.StepForms.{leads, no_left_side, public_normal}

pub never : {X : Type 0} (x : X) → ¬ Contains [] x
never x h = let p : h.0 < 0 = h.1 in omega arith

pub alone : {X : Type 0} (x y : X) → Contains (x ∷ []) y → x ≡ y
alone x y (zero, l, e) = e
alone x y (suc k, l, e) = absurd (omega (arith, l))

-- a list isn't itself and one more
pub longer : {X : Type 0} (xs : List X) (x : X) → xs ≡ xs ++ x ∷ [] → ⊥
longer [] x e = cc
longer (y ∷ ys) x e = let t : ys ≡ ys ++ x ∷ [] = cc in longer ys x t

last_one : {X : Type 0} (xs : List X) (x y : X) → xs ++ x ∷ [] ≡ xs ++ y ∷ [] → x ≡ y
last_one xs x y e = let t : x ∷ [] ≡ y ∷ [] = append_cancel_left xs (x ∷ []) (y ∷ []) e in cc

-- setting what is there makes no list longer
set_not_longer : {X : Type 0} (xs : List X) (k : ℕ) (x y : X) → slice_set xs k x ≡ xs ++ y ∷ [] → ⊥
set_not_longer [] k x y e = cc
set_not_longer (z ∷ zs) zero x y e = let t : zs ≡ zs ++ y ∷ [] = cc in longer zs y t
set_not_longer (z ∷ zs) (suc k) x y e = let t : slice_set zs k x ≡ zs ++ y ∷ [] = cc in set_not_longer zs k x y t

pub taken_one : {facts rest : Pile} {k : ℕ} {f : Fact} → Takes facts (k ∷ []) (f ∷ []) rest → (slice_get facts k ≡ Some (Some f)) × (rest ≡ used facts k f)
taken_one (one at nothing) = (at, refl)

pub none_there : (k : ℕ) (f : Fact) → slice_get [] k ≡ Some (Some f) → ⊥
none_there k f e = cc

pub apart : false ≡ true → ⊥
apart e = cc

abbrev has_fr : Option Fact → Bool
has_fr (Some f) = bytes_eq f.name fr_name
has_fr None = false

-- a name that is drawn
abbrev pub Drawn : RuleState → RuleState → List Fact → ℕ → Type 0
Drawn s z acts n = (¬ Contains s.made n) × (acts ≡ []) × (z.facts ≡ s.facts ++ Some (fr_fact n) ∷ []) × (z.known ≡ s.known)

pub drawn : (g : Sig) (rules : List Rule) (s z : RuleState) (acts : List Fact) (n : ℕ) → RuleStep g rules s acts z → z.made ≡ s.made ++ n ∷ [] → Drawn s z acts n
drawn g rules s z acts n (makes_name m new) e =
    let is : m ≡ n = last_one s.made m n e in
    (subst (λ k. ¬ Contains s.made k) is new, refl, ap (λ k. s.facts ++ Some (fr_fact k) ∷ []) is, refl)
drawn g rules s z acts n (learns k t takes) e = absurd (longer s.made n e)
drawn g rules s z acts n (owns k m takes) e = absurd (longer s.made n e)
drawn g rules s z acts n (knows_public m) e = absurd (longer s.made n e)
drawn g rules s z acts n (applies f ts t is_public arity known form) e = absurd (longer s.made n e)
drawn g rules s z acts n (gives t known) e = absurd (longer s.made n e)
drawn g rules s z acts n (uses r ks σ left shown right among takes by) e = absurd (longer s.made n e)

pub drawn_alone : (g : Sig) (s z : RuleState) (acts : List Fact) (n : ℕ) → RuleStep g [] s acts z → z.facts ≡ s.facts ++ Some (fr_fact n) ∷ [] → z.made ≡ s.made ++ n ∷ []
drawn_alone g s z acts n (makes_name m new) e =
    let p : Some (fr_fact m) ≡ Some (fr_fact n) = last_one s.facts (Some (fr_fact m)) (Some (fr_fact n)) e in
    ap (λ k. s.made ++ k ∷ []) (ap number p)
  where
    number : Option Fact → ℕ
    number (Some f) = of f.args
      where
        of : List Tree → ℕ
        of (fresh k ∷ ts) = k
        of ts = 0
    number None = 0
drawn_alone g s z acts n (learns k t takes) e = absurd (set_not_longer s.facts k None (Some (fr_fact n)) (sym (taken_one takes).1 ∙ e))
drawn_alone g s z acts n (owns k m takes) e = absurd (set_not_longer s.facts k None (Some (fr_fact n)) (sym (taken_one takes).1 ∙ e))
drawn_alone g s z acts n (knows_public m) e = absurd (longer s.facts (Some (fr_fact n)) e)
drawn_alone g s z acts n (applies f ts t is_public arity known form) e = absurd (longer s.facts (Some (fr_fact n)) e)
drawn_alone g s z acts n (gives t known) e =
    absurd (apart (ap has_fr (last_one s.facts (Some (in_fact t)) (Some (fr_fact n)) e)))
drawn_alone g s z acts n (uses r ks σ left shown right among takes by) e = absurd (never r among)

-- what the adversary gives
abbrev pub Given : RuleState → RuleState → List Fact → Type 0
Given s z acts = (t : Tree) × Contains s.known t × (acts ≡ k_fact t ∷ []) × (z.facts ≡ s.facts ++ Some (in_fact t) ∷ []) × (z.known ≡ s.known) × (z.made ≡ s.made)

pub given : (g : Sig) (s z : RuleState) (acts fs : List Fact) (f : Fact) → RuleStep g [] s acts z → acts ≡ f ∷ fs → Given s z acts
given g s z acts fs f (makes_name m new) e = cc
given g s z acts fs f (learns k t takes) e = cc
given g s z acts fs f (owns k m takes) e = cc
given g s z acts fs f (knows_public m) e = cc
given g s z acts fs f (applies h ts t is_public arity known form) e = cc
given g s z acts fs f (gives t known) e = (t, known, refl, refl, refl, refl)
given g s z acts fs f (uses r ks σ left shown right among takes by) e = absurd (never r among)

pub given_alone : (g : Sig) (s z : RuleState) (acts : List Fact) (t : Tree) → RuleStep g [] s acts z → z.facts ≡ s.facts ++ Some (in_fact t) ∷ [] → acts ≡ k_fact t ∷ []
given_alone g s z acts u (makes_name m new) e =
    absurd (apart (sym (ap has_fr (last_one s.facts (Some (fr_fact m)) (Some (in_fact u)) e))))
given_alone g s z acts u (learns k t takes) e = absurd (set_not_longer s.facts k None (Some (in_fact u)) (sym (taken_one takes).1 ∙ e))
given_alone g s z acts u (owns k m takes) e = absurd (set_not_longer s.facts k None (Some (in_fact u)) (sym (taken_one takes).1 ∙ e))
given_alone g s z acts u (knows_public m) e = absurd (longer s.facts (Some (in_fact u)) e)
given_alone g s z acts u (applies f ts t is_public arity known form) e = absurd (longer s.facts (Some (in_fact u)) e)
given_alone g s z acts u (gives t known) e =
    let p : Some (in_fact t) ≡ Some (in_fact u) = last_one s.facts (Some (in_fact t)) (Some (in_fact u)) e in
    ap (λ x. k_fact x ∷ []) (ap argument p)
  where
    argument : Option Fact → Tree
    argument (Some f) = of f.args
      where
        of : List Tree → Tree
        of (x ∷ ts) = x
        of [] = t
    argument None = t
given_alone g s z acts u (uses r ks σ left shown right among takes by) e = absurd (never r among)

-- symbols on 'a' alone are their own normal forms
abbrev IsA : Tree → Type 0
IsA t = t ≡ a

all_normal : (e : Equations) (ts : List Tree) → All IsA ts → AreNormal e (trees_of ts)
all_normal e [] h = tt
all_normal e (t ∷ ts) h = (subst (λ u. IsNormal e u) (sym (All-head IsA t ts h)) (public_normal e (codes "a")), all_normal e ts (All-tail IsA t ts h))

not_led : (f : List ℕ) (ts : List Tree) → All IsA ts → leads (apply f (trees_of ts)) ≡ false
not_led f [] h = refl
not_led f (t ∷ ts) h = subst (λ u. leads (apply f (more u (trees_of ts))) ≡ false) (sym (All-head IsA t ts h)) refl

own : FormIsOne → (e : Equations) (f : List ℕ) (ts : List Tree) (t : Tree) → All IsA ts → IsNormalForm e (apply f (trees_of ts)) t → apply f (trees_of ts) ≡ t
own unique e f ts t h form =
    unique e (apply f (trees_of ts)) (apply f (trees_of ts)) t
    (record { equal = same; normal = (no_left_side e (apply f (trees_of ts)) (not_led f ts h), all_normal e ts h) }) form

from_none : (known ts : List Tree) → known ≡ [] → All (Contains known) ts → ts ≡ []
from_none known [] e h = refl
from_none known (t ∷ ts) e h = absurd (never t (subst (λ us. Contains us t) e (All-head (Contains known) t ts h)))

from_a : (known ts : List Tree) → known ≡ a ∷ [] → All (Contains known) ts → All IsA ts
from_a known ts e h = All-weaker (Contains known) IsA (λ u c. sym (alone a u (subst (λ us. Contains us u) e c))) ts h

all_none : (ts : List Tree) → ts ≡ [] → All IsA ts
all_none [] e = All-nil IsA
all_none (t ∷ ts) e = cc

-- a symbol without arguments
bare : FormIsOne → (g : Sig) (known : List Tree) (f : List ℕ) (ts : List Tree) (t : Tree) → known ≡ [] → arity_of g f ≡ Some (length ts) → All (Contains known) ts
    → IsNormalForm (equations g) (apply f (trees_of ts)) t → (t ≡ apply f none) × (arity_of g f ≡ Some 0)
bare unique g known f ts t e arity h form =
    let empty : ts ≡ [] = from_none known ts e h in
    (sym (own unique (equations g) f ts t (all_none ts empty) form) ∙ ap (λ us. apply f (trees_of us)) empty, arity ∙ ap (λ (us : List Tree). Some (length us)) empty)

-- what comes behind nothing
behind_none : (known : List Tree) (t u : Tree) → known ≡ [] → known ++ t ∷ [] ≡ u ∷ [] → t ≡ u
behind_none known t u k e = let p : t ∷ [] ≡ u ∷ [] = sym (ap (λ us. us ++ t ∷ []) k) ∙ e in cc

-- a fresh name comes to the adversary
abbrev pub Named : RuleState → RuleState → List Fact → ℕ → Type 0
Named s z acts n =
    (acts ≡ []) × (z.made ≡ s.made) × ((k : ℕ) × (z.facts ≡ slice_set s.facts k None)
    × ((slice_get s.facts k ≡ Some (Some (out_fact (fresh n)))) ⊎ (slice_get s.facts k ≡ Some (Some (fr_fact n)))))

pub named : FormIsOne → (g : Sig) (rules : List Rule) (s z : RuleState) (acts : List Fact) (n : ℕ) → RuleStep g rules s acts z → s.known ≡ [] → z.known ≡ fresh n ∷ [] → Named s z acts n
named unique g rules s z acts n (makes_name m new) unknown e = absurd (let p : [] ≡ fresh n ∷ [] = sym unknown ∙ e in cc)
named unique g rules s z acts n (learns k t takes) unknown e =
    let is = behind_none s.known t (fresh n) unknown e in
    let at = taken_one takes in
    (refl, refl, (k, at.1, inl (at.0 ∙ ap (λ u. Some (Some (out_fact u))) is)))
named unique g rules s z acts n (owns k m takes) unknown e =
    let is = behind_none s.known (fresh m) (fresh n) unknown e in
    let at = taken_one takes in
    (refl, refl, (k, at.1, inr (at.0 ∙ ap (λ u. Some (Some (linear (codes "Fr") (u ∷ [])))) is)))
named unique g rules s z acts n (knows_public m) unknown e = absurd (let p = behind_none s.known (public m) (fresh n) unknown e in cc)
named unique g rules s z acts n (applies f ts t is_public arity known form) unknown e =
    absurd (let p : apply f none ≡ fresh n = sym (bare unique g s.known f ts t unknown arity known form).0 ∙ behind_none s.known t (fresh n) unknown e in cc)
named unique g rules s z acts n (gives t known) unknown e = absurd (let p : [] ≡ fresh n ∷ [] = sym unknown ∙ e in cc)
named unique g rules s z acts n (uses r ks σ left shown right among takes by) unknown e = absurd (let p : [] ≡ fresh n ∷ [] = sym unknown ∙ e in cc)

-- the first term that it knows
abbrev pub First : Sig → RuleState → RuleState → List Fact → Tree → Type 0
First g s z acts t =
    (acts ≡ []) × (z.facts ≡ []) × (z.made ≡ s.made)
    × (((n : List ℕ) × (t ≡ public n)) ⊎ ((f : List ℕ) × (t ≡ apply f none) × IsPublic g f × (arity_of g f ≡ Some 0)))

pub known_first : FormIsOne → (g : Sig) (rules : List Rule) (s z : RuleState) (acts : List Fact) (u : Tree) → RuleStep g rules s acts z → s.known ≡ [] → s.facts ≡ [] → z.known ≡ u ∷ [] → First g s z acts u
known_first unique g rules s z acts u (makes_name m new) unknown empty e = absurd (let p : [] ≡ u ∷ [] = sym unknown ∙ e in cc)
known_first unique g rules s z acts u (learns k t takes) unknown empty e = absurd (none_there k (out_fact t) (subst (λ fs. slice_get fs k ≡ Some (Some (out_fact t))) empty (taken_one takes).0))
known_first unique g rules s z acts u (owns k m takes) unknown empty e = absurd (none_there k (fr_fact m) (subst (λ fs. slice_get fs k ≡ Some (Some (fr_fact m))) empty (taken_one takes).0))
known_first unique g rules s z acts u (knows_public m) unknown empty e = (refl, empty, refl, inl (m, sym (behind_none s.known (public m) u unknown e)))
known_first unique g rules s z acts u (applies f ts t is_public arity known form) unknown empty e =
    let q = bare unique g s.known f ts t unknown arity known form in
    (refl, empty, refl, inr (f, sym (behind_none s.known t u unknown e) ∙ q.0, is_public, q.1))
known_first unique g rules s z acts u (gives t known) unknown empty e = absurd (let p : [] ≡ u ∷ [] = sym unknown ∙ e in cc)
known_first unique g rules s z acts u (uses r ks σ left shown right among takes by) unknown empty e = absurd (let p : [] ≡ u ∷ [] = sym unknown ∙ e in cc)

behind_one : (known : List Tree) (x t u : Tree) → known ≡ x ∷ [] → known ++ t ∷ [] ≡ x ∷ u ∷ [] → t ≡ u
behind_one known x t u k e = let p : x ∷ t ∷ [] ≡ x ∷ u ∷ [] = sym (ap (λ us. us ++ t ∷ []) k) ∙ e in cc

not_behind : (known : List Tree) (x u : Tree) → known ≡ x ∷ [] → known ≡ x ∷ u ∷ [] → ⊥
not_behind known x u k e = let p : x ∷ [] ≡ x ∷ u ∷ [] = sym k ∙ e in cc

-- what is got from 'a' by a symbol of one argument
abbrev pub Applied : Sig → RuleState → RuleState → List Fact → List ℕ → Tree → Type 0
Applied g s z acts f t = (acts ≡ []) × (z.facts ≡ []) × (z.made ≡ s.made) × (t ≡ a) × IsPublic g f × (arity_of g f ≡ Some 1)

abbrev name_of : Tree → List ℕ
name_of (apply f ts) = f
name_of t = []

abbrev args_of : Tree → List Tree
args_of (apply f ts) = list_of ts
args_of t = []

pub applied : FormIsOne → (g : Sig) (rules : List Rule) (s z : RuleState) (acts : List Fact) (f : List ℕ) (t : Tree) → RuleStep g rules s acts z → s.known ≡ a ∷ [] → s.facts ≡ [] → z.known ≡ a ∷ apply f (more t none) ∷ []
    → Applied g s z acts f t
applied unique g rules s z acts f t (makes_name m new) only empty e = absurd (not_behind s.known a (apply f (more t none)) only e)
applied unique g rules s z acts f t (learns k u takes) only empty e = absurd (none_there k (out_fact u) (subst (λ fs. slice_get fs k ≡ Some (Some (out_fact u))) empty (taken_one takes).0))
applied unique g rules s z acts f t (owns k m takes) only empty e = absurd (none_there k (fr_fact m) (subst (λ fs. slice_get fs k ≡ Some (Some (fr_fact m))) empty (taken_one takes).0))
applied unique g rules s z acts f t (knows_public m) only empty e = absurd (let p = behind_one s.known a (public m) (apply f (more t none)) only e in cc)
applied unique g rules s z acts f t (applies h ts u is_public arity known form) only empty e =
    let all = from_a s.known ts only known in
    let is : apply h (trees_of ts) ≡ apply f (more t none) = own unique (equations g) h ts u all form ∙ behind_one s.known a u (apply f (more t none)) only e in
    let head : h ≡ f = ap name_of is in
    let args : ts ≡ t ∷ [] = sym (list_of-trees_of ts) ∙ ap args_of is in (
      refl,
      empty,
      refl,
      All-head IsA t [] (subst (λ us. All IsA us) args all),
      subst (λ n. IsPublic g n) head is_public,
      subst (λ n. arity_of g n ≡ Some 1) head (arity ∙ ap (λ (us : List Tree). Some (length us)) args),
    )
applied unique g rules s z acts f t (gives u known) only empty e = absurd (not_behind s.known a (apply f (more t none)) only e)
applied unique g rules s z acts f t (uses r ks σ left shown right among takes by) only empty e = absurd (not_behind s.known a (apply f (more t none)) only e)

abbrev pub unreduced : Tree
unreduced = first_of (pair a b)

pub normal_alone : (g : Sig) (rules : List Rule) (s z : RuleState) (acts : List Fact) → RuleStep g rules s acts z → s.known ≡ pair a b ∷ [] → s.facts ≡ [] → z.known ≡ pair a b ∷ unreduced ∷ [] → ⊥
normal_alone g rules s z acts (makes_name m new) only empty e = not_behind s.known (pair a b) unreduced only e
normal_alone g rules s z acts (learns k u takes) only empty e = none_there k (out_fact u) (subst (λ fs. slice_get fs k ≡ Some (Some (out_fact u))) empty (taken_one takes).0)
normal_alone g rules s z acts (owns k m takes) only empty e = none_there k (fr_fact m) (subst (λ fs. slice_get fs k ≡ Some (Some (fr_fact m))) empty (taken_one takes).0)
normal_alone g rules s z acts (knows_public m) only empty e = let p = behind_one s.known (pair a b) (public m) unreduced only e in cc
normal_alone g rules s z acts (applies h ts u is_public arity known form) only empty e =
    let normal : IsNormal (equations g) unreduced = subst (λ x. IsNormal (equations g) x) (behind_one s.known (pair a b) u unreduced only e) form.normal in
    normal.0 a first
normal_alone g rules s z acts (gives u known) only empty e = not_behind s.known (pair a b) unreduced only e
normal_alone g rules s z acts (uses r ks σ left shown right among takes by) only empty e = not_behind s.known (pair a b) unreduced only e
