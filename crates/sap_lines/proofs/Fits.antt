-- What fits, fits in one way.
use Rattle.std.proofs.Common.{◌≡◌, ℕ, Bool, true, false, List, [], ◌∷◌, ◌++◌, length, Some, map, refl, sym, ap, subst, ◌∙◌, slice_get, slice_set, zero, suc, Option, None, if◌then◌else◌, arith}
use Rattle.std.specs.Prelude.{All, Contains, slice_index_or}
use Rattle.std.specs.List.{AllZip}
use Rattle.std.proofs.lemmas.List.Elements.{All-nil, All-cons, All-head, All-tail, All-contains, Contains-get_or, Contains-append_left, Contains-append_right, Contains-append_cases}
use Rattle.sap_terms.specs.Choice.{Choice, instance}
use Rattle.sap_terms.specs.Equal.{IsTheoryEqual}
use Rattle.sap_terms.specs.Equations.{equations, app2, pair_name, IsDestructor}
use Rattle.sap_terms.specs.Message.{IsMessageChoice}
use Rattle.sap_terms.specs.Modulo.{instance_facts, IsEqualFact, AreEqualFacts, IsFormOfFact, AreFormsOfFacts}
use Rattle.sap_terms.specs.Normal.{IsNormal, IsNormalForm}
use Rattle.sap_terms.specs.Piles.{Pile, Takes, nothing, one, used}
use Rattle.sap_terms.specs.Signature.{Sig}
use Rattle.sap_terms.specs.Tree.{Tree, more, none, trees_of}
use Rattle.sap_terms.specs.Variables.{tree_vars, trees_vars, facts_vars}
use Rattle.sap_terms.specs.declared.fact.Fact.{Fact}
use Rattle.sap_rewrite.specs.Pattern.{IsPattern}
use Rattle.sap_process.specs.Heads.{facts_terms}
use Rattle.sap_lines.proofs.Premises.{Laws}
use Rattle.std.proofs.Common.{inl, inr}
use Rattle.sap_terms.proofs.PlainLaws.Choices.{Agree, tree_same}

module _ (laws : Laws) (g : Sig) where
  equal : Tree → Tree → Type 0
  equal t u = IsTheoryEqual (equations g) t u

  pair_no_destructor : IsDestructor (equations g) pair_name → ⊥
  pair_no_destructor d = let never = (laws.heads g pair_name).1 d in cc

  -- what a pair is theory-equal to, if that is normal, is the pair of the normal forms
  pub record PairParts (m k x : Tree) : Type 0 where
    pub first : Tree
    pub second : Tree
    pub is : x ≡ app2 pair_name first second
    pub first_form : IsNormalForm (equations g) m first
    pub second_form : IsNormalForm (equations g) k second

  pub pair_parts : (m k x : Tree) → IsNormal (equations g) x → IsTheoryEqual (equations g) (app2 pair_name m k) x → PairParts m k x
  pair_parts m k x n e =
      let y = laws.each (equations g) m in
      let z = laws.each (equations g) k in
      let same = laws.kept.under_symbols (equations g) pair_name (m ∷ k ∷ []) (y.0 ∷ z.0 ∷ []) (y.1.equal, (z.1.equal, tt)) in
      let normal : IsNormal (equations g) (app2 pair_name y.0 z.0) = laws.leaves.of_symbol (equations g) pair_name (more y.0 (more z.0 none)) pair_no_destructor (y.1.normal, (z.1.normal, tt)) in
      record {
        first = y.0;
        second = z.0;
        is = laws.one_form (equations g) (app2 pair_name m k) x (app2 pair_name y.0 z.0) (record { equal = e; normal = n }) (record { equal = same; normal = normal });
        first_form = y.1;
        second_form = z.1;
      }

  -- two choices under which a pattern is theory-equal to one normal term agree on its variables
  pub fits_agree : (σ τ : Choice) (p t : Tree) → IsMessageChoice g σ → IsMessageChoice g τ → IsPattern (equations g) p → IsNormal (equations g) t → IsTheoryEqual (equations g) (instance σ p) t → IsTheoryEqual (equations g) (instance τ p) t → Agree σ τ (tree_vars p)
  fits_agree σ τ p t m k h n a b =
      let left : instance σ p ≡ t = (laws.modulo (equations g) σ p t (λ v. (m v).normal) h n).0 a in
      let right : instance τ p ≡ t = (laws.modulo (equations g) τ p t (λ v. (k v).normal) h n).0 b in
      tree_same σ τ p (left ∙ sym right)

  args_agree : (σ τ : Choice) (ps ts : List Tree) → IsMessageChoice g σ → IsMessageChoice g τ → All (IsPattern (equations g)) ps → All (IsNormal (equations g)) ts → AllZip (IsTheoryEqual (equations g)) (map (instance σ) ps) ts → AllZip (IsTheoryEqual (equations g)) (map (instance τ) ps) ts → Agree σ τ (trees_vars (trees_of ps))
  args_agree σ τ [] ts m k h n a b v c = absurd (omega (arith, c.1))
  args_agree σ τ (p ∷ ps) [] m k h n a b v c = absurd a
  args_agree σ τ (p ∷ ps) (t ∷ ts) m k h n a b v c = elim (Contains-append_cases (tree_vars p) (trees_vars (trees_of ps)) v c) [
    | inl i ↦ fits_agree σ τ p t m k (All-head (IsPattern (equations g)) p ps h) (All-head (IsNormal (equations g)) t ts n) a.0 b.0 v i
    | inr i ↦ args_agree σ τ ps ts m k (All-tail (IsPattern (equations g)) p ps h) (All-tail (IsNormal (equations g)) t ts n) a.1 b.1 v i
  ]

  pub facts_fit_agree : (σ τ : Choice) (fs hs : List Fact) → IsMessageChoice g σ → IsMessageChoice g τ → All (λ (f : Fact). All (IsPattern (equations g)) f.args) fs → All (λ (f : Fact). All (IsNormal (equations g)) f.args) hs → AreEqualFacts (equations g) (instance_facts σ fs) hs → AreEqualFacts (equations g) (instance_facts τ fs) hs → Agree σ τ (facts_vars fs)
  facts_fit_agree σ τ [] hs m k h n a b v c = absurd (omega (arith, c.1))
  facts_fit_agree σ τ (f ∷ fs) [] m k h n a b v c = absurd a
  facts_fit_agree σ τ (f ∷ fs) (x ∷ xs) m k h n a b v c = elim (Contains-append_cases (trees_vars (trees_of f.args)) (facts_vars fs) v c) [
    | inl i ↦ args_agree σ τ f.args x.args m k (All-head (λ (y : Fact). All (IsPattern (equations g)) y.args) f fs h) (All-head (λ (y : Fact). All (IsNormal (equations g)) y.args) x xs n) a.0.args b.0.args v i
    | inr i ↦ facts_fit_agree σ τ fs xs m k (All-tail (λ (y : Fact). All (IsPattern (equations g)) y.args) f fs h) (All-tail (λ (y : Fact). All (IsNormal (equations g)) y.args) x xs n) a.1 b.1 v i
  ]

  -- facts have one normal form each
  args_one : (ts us vs : List Tree) → AllZip (IsNormalForm (equations g)) ts us → AllZip (IsNormalForm (equations g)) ts vs → us ≡ vs
  args_one [] [] [] a b = refl
  args_one [] (u ∷ us) vs a b = absurd a
  args_one [] [] (v ∷ vs) a b = absurd b
  args_one (t ∷ ts) [] vs a b = absurd a
  args_one (t ∷ ts) (u ∷ us) [] a b = absurd b
  args_one (t ∷ ts) (u ∷ us) (v ∷ vs) a b =
      let first : u ≡ v = laws.one_form (equations g) t u v a.0 b.0 in
      λ i. first i ∷ args_one ts us vs a.1 b.1 i

  pub fact_one : (f h k : Fact) → IsFormOfFact (equations g) f h → IsFormOfFact (equations g) f k → h ≡ k
  fact_one f h k a b =
      let name : h.name ≡ k.name = a.name ∙ sym b.name in
      let persistent : h.persistent ≡ k.persistent = a.persistent ∙ sym b.persistent in
      let args : h.args ≡ k.args = args_one f.args h.args k.args a.args b.args in
      λ i. record { name = name i; persistent = persistent i; args = args i }

  pub facts_one : (fs hs ks : List Fact) → AreFormsOfFacts (equations g) fs hs → AreFormsOfFacts (equations g) fs ks → hs ≡ ks
  facts_one [] [] [] a b = refl
  facts_one [] (h ∷ hs) ks a b = absurd a
  facts_one [] [] (k ∷ ks) a b = absurd b
  facts_one (f ∷ fs) [] ks a b = absurd a
  facts_one (f ∷ fs) (h ∷ hs) [] a b = absurd b
  facts_one (f ∷ fs) (h ∷ hs) (k ∷ ks) a b =
      let first : h ≡ k = fact_one f h k a.0 b.0 in
      λ i. first i ∷ facts_one fs hs ks a.1 b.1 i

-- facts with the same numbers are the same, and so is what is left
one_live : (facts : Pile) (k : ℕ) (f h : Fact) → slice_get facts k ≡ Some (Some f) → slice_get facts k ≡ Some (Some h) → f ≡ h
one_live facts k f h a b = cc

pub takes_one : {facts rest left : Pile} {ks : List ℕ} {fs hs : List Fact} → Takes facts ks fs rest → Takes facts ks hs left → (fs ≡ hs) × (rest ≡ left)
takes_one nothing nothing = (refl, refl)
takes_one {facts = facts} {left = left} (one {k = k} {ks = ks} {f = f} {fs = fs} a t) (one {f = h} {fs = hs} b u) =
    let e : f ≡ h = one_live facts k f h a b in
    let rest = takes_one t (subst (λ x. Takes (used facts k x) ks hs left) (sym e) u) in
    ((λ i. e i ∷ rest.0 i), rest.1)

pub takes_length : {facts rest : Pile} {ks : List ℕ} {fs : List Fact} → Takes facts ks fs rest → length ks ≡ length fs
takes_length nothing = refl
takes_length (one a t) = ap suc (takes_length t)

pub equal_length : (g : Sig) (fs hs : List Fact) → AllZip (IsEqualFact (equations g)) fs hs → length hs ≡ length fs
equal_length g [] [] a = refl
equal_length g (f ∷ fs) (h ∷ hs) a = ap suc (equal_length g fs hs a.1)
equal_length g [] (h ∷ hs) a = absurd a
equal_length g (f ∷ fs) [] a = absurd a

-- parts of what holds of all
pub all_each : {X : Type 0} (P : X → Type 0) (xs : List X) → ((x : X) → Contains xs x → P x) → All P xs
all_each P xs h k d below = h (slice_index_or xs k d) (Contains-get_or xs k d below)

pub all_left : {X : Type 0} (P : X → Type 0) (xs ys : List X) → All P (xs ++ ys) → All P xs
all_left P xs ys h = all_each P xs (λ x m. All-contains P (xs ++ ys) x h (Contains-append_left xs ys x m))

pub all_right : {X : Type 0} (P : X → Type 0) (xs ys : List X) → All P (xs ++ ys) → All P ys
all_right P xs ys h = all_each P ys (λ x m. All-contains P (xs ++ ys) x h (Contains-append_right xs ys x m))

-- the terms of facts and their arguments
pub facts_all : (P : Tree → Type 0) (fs : List Fact) → All P (facts_terms fs) → All (λ (f : Fact). All P f.args) fs
facts_all P [] h = All-nil (λ (f : Fact). All P f.args)
facts_all P (f ∷ fs) h = All-cons (λ (x : Fact). All P x.args) f fs (all_left P f.args (facts_terms fs) h) (facts_all P fs (all_right P f.args (facts_terms fs) h))

-- what is taken was in the pile
set_kept : {X : Type 0} (xs : List (Option X)) (k j : ℕ) (x : X) → slice_get (slice_set xs k None) j ≡ Some (Some x) → slice_get xs j ≡ Some (Some x)
set_kept [] k j x e = e
set_kept (y ∷ ys) zero zero x e = cc
set_kept (y ∷ ys) zero (suc j) x e = e
set_kept (y ∷ ys) (suc k) zero x e = e
set_kept (y ∷ ys) (suc k) (suc j) x e = set_kept ys k j x e

used_kept : (facts : Pile) (k : ℕ) (f x : Fact) (j : ℕ) → slice_get (used facts k f) j ≡ Some (Some x) → slice_get facts j ≡ Some (Some x)
used_kept facts k f x j e = at f.persistent e where
  at : (b : Bool) → slice_get (if b then facts else slice_set facts k None) j ≡ Some (Some x) → slice_get facts j ≡ Some (Some x)
  at true e = e
  at false e = set_kept facts k j x e

pub taken_all : (P : Fact → Type 0) {facts rest : Pile} {ks : List ℕ} {fs : List Fact} → ((j : ℕ) (f : Fact) → slice_get facts j ≡ Some (Some f) → P f) → Takes facts ks fs rest → All P fs
taken_all P h nothing = All-nil P
taken_all P {facts = facts} h (one {k = k} {f = f} {fs = fs} a t) = All-cons P f fs (h k f a) (taken_all P (λ j x e. h j x (used_kept facts k f x j e)) t)
