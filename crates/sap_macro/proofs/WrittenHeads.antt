-- What is written starts with one head at most, and with one where its names are defined.
use Rattle.std.proofs.Common.{◌≡◌, ℕ, true, false, List, [], ◌∷◌, refl, sym, ap, ◌∙◌, subst, ⊎_elim}
use Rattle.std.proofs.lemmas.Bool.{false≢true}
use Rattle.std.specs.Prelude.{Contains}
use Rattle.sap_terms.specs.Tree.{Tree}
use Rattle.sap_terms.specs.Variables.{is_known}
use Rattle.sap_terms.proofs.PlainLaws.Items.{cons_cases, first_item, later_item, none_contained}
use Rattle.sap_terms.proofs.PlainLaws.Known.{clash, in_head, in_tail, in_cases}
use Rattle.sap_process.specs.Head as head
use Rattle.sap_process.specs.Head.{Head}
use Rattle.sap_macro.specs.Expansion.{put, unchanged}
use Rattle.sap_macro.specs.Indexed.{defined}
use Rattle.sap_macro.specs.Instances.{instance_by}
use Rattle.sap_macro.specs.Order.{AreInOrder, UsesOnly}
use Rattle.sap_macro.specs.Written.{Written, nil, call, parallel, replicated, act, test, lookup, Definition}
use Rattle.sap_macro.specs.WrittenRuns.{StartsWith, itself, use_of, written_of}
use Rattle.sap_macro.proofs.Resolving.{apart_from}
use Rattle.sap_macro.proofs.OtherDefinitions.{instance_uses}

-- ---- of one name there is one definition

name_of : (ds : List Definition) (d : Definition) → Contains ds d → is_known (defined ds) d.name ≡ true
name_of [] d c = absurd (none_contained c)
name_of (e ∷ ds) d c =
    ⊎_elim (λ s. subst (λ (z : Definition). is_known (defined (e ∷ ds)) z.name ≡ true) s (in_head e.name (defined ds)))
    (λ k. in_tail d.name e.name (defined ds) (name_of ds d k)) (cons_cases e ds d c)

pub one_definition : (ds : List Definition) (known : List (List ℕ)) → AreInOrder known ds → (d e : Definition) → Contains ds d → Contains ds e → d.name ≡ e.name → d ≡ e
one_definition [] known h d e c k s = absurd (none_contained c)
one_definition (b ∷ ds) known h d e c k s =
    ⊎_elim
    (λ x. ⊎_elim (λ y. sym x ∙ y) (λ l. not_again e l (ap (λ (z : Definition). z.name) x ∙ s)) (cons_cases b ds e k))
    (λ l. ⊎_elim (λ y. not_again d l (ap (λ (z : Definition). z.name) y ∙ sym s)) (λ m. one_definition ds (b.name ∷ known) h.1.1 d e l m s) (cons_cases b ds e k))
    (cons_cases b ds d c)
  where
    not_again : {A : Type 0} (z : Definition) → Contains ds z → b.name ≡ z.name → A
    not_again z l same =
        clash (is_known (defined ds) z.name) (name_of ds z l)
        (subst (λ x. is_known (defined ds) x ≡ false) same (apart_from ds (b.name ∷ known) h.1.1 b.name (in_head b.name known)))

-- ---- one head at most

-- the head of what isn't a use
abbrev own_head : Written → Head Written
own_head nil = head.nil
own_head (call f ts) = head.nil
own_head (parallel p q) = head.parallel p q
own_head (replicated p) = head.replicated p
own_head (act a p) = head.act a p
own_head (test t u p q) = head.test t u p q
own_head (lookup t x p q) = head.lookup t x p q

own_head_is : (h : Head Written) → own_head (written_of h) ≡ h
own_head_is head.nil = refl
own_head_is (head.parallel p q) = refl
own_head_is (head.replicated p) = refl
own_head_is (head.act a p) = refl
own_head_is (head.test t u p q) = refl
own_head_is (head.lookup t x p q) = refl

pub not_a_use : (h : Head Written) (f : List ℕ) (ts : List Tree) → ¬ (written_of h ≡ call f ts)
not_a_use head.nil f ts e = cc
not_a_use (head.parallel p q) f ts e = cc
not_a_use (head.replicated p) f ts e = cc
not_a_use (head.act a p) f ts e = cc
not_a_use (head.test t u p q) f ts e = cc
not_a_use (head.lookup t x p q) f ts e = cc

-- ---- forms and uses

module _ (ds : List Definition) where
  starts_as : (w : Written) (h k : Head Written) → StartsWith ds w h → w ≡ written_of k → h ≡ k
  starts_as _ h k (itself _) e = sym (own_head_is h) ∙ ap own_head e ∙ own_head_is k
  starts_as _ h k (use_of d {ts = ts} c s) e = absurd (not_a_use k d.name ts (sym e))

  -- a form starts with itself alone
  pub form_alone : (h k : Head Written) → StartsWith ds (written_of k) h → h ≡ k
  form_alone h k s = starts_as (written_of k) h k s refl

  -- a definition of the name, whose instance starts with this
  pub record Defines (f : List ℕ) (ts : List Tree) (h : Head Written) : Type 0 where
    pub definition : Definition
    pub there : Contains ds definition
    pub named : definition.name ≡ f
    pub starts : StartsWith ds (instance_by definition ts) h

  starts_as_use : (w : Written) (h : Head Written) (f : List ℕ) (ts : List Tree) → StartsWith ds w h → w ≡ call f ts → Defines f ts h
  starts_as_use _ h f ts (itself _) e = absurd (not_a_use h f ts e)
  starts_as_use _ h f ts (use_of d {ts = us} c s) e =
      let same_name : d.name ≡ f = cc in
      let same_terms : us ≡ ts = cc in
      record { definition = d; there = c; named = same_name; starts = subst (λ xs. StartsWith ds (instance_by d xs) h) same_terms s }

  -- and a use with what a definition of its name starts with
  pub use_alone : (h : Head Written) (f : List ℕ) (ts : List Tree) → StartsWith ds (call f ts) h → Defines f ts h
  use_alone h f ts s = starts_as_use (call f ts) h f ts s refl

module _ (ds : List Definition) (order : AreInOrder [] ds) where
  one_head : (w v : Written) (h k : Head Written) → StartsWith ds w h → StartsWith ds v k → w ≡ v → h ≡ k
  one_head _ _ h k (itself _) (itself _) e = sym (own_head_is h) ∙ ap own_head e ∙ own_head_is k
  one_head _ _ h k (itself _) (use_of d {ts = ts} c s) e = absurd (not_a_use h d.name ts e)
  one_head _ _ h k (use_of d {ts = ts} c s) (itself _) e = absurd (not_a_use k d.name ts (sym e))
  one_head _ _ h k (use_of d {ts = ts} c s) (use_of b {ts = us} l r) e =
      let name : d.name ≡ b.name = cc in
      let args : ts ≡ us = cc in
      let same = one_definition ds [] order d b c l name in
      one_head (instance_by d ts) (instance_by b us) h k s r (λ i. instance_by (same i) (args i))

pub heads_are_one : (ds : List Definition) (w : Written) (h k : Head Written) → AreInOrder [] ds → StartsWith ds w h → StartsWith ds w k → h ≡ k
heads_are_one ds w h k order s r = one_head ds order w w h k s r refl

-- ---- one head, where names are defined

-- each use of what is written is of one of these names
pub uses_more : (known more : List (List ℕ)) → ((f : List ℕ) → is_known known f ≡ true → is_known more f ≡ true) → (w : Written) → UsesOnly known w → UsesOnly more w
uses_more known more m nil h = tt
uses_more known more m (call f ts) h = m f h
uses_more known more m (parallel p q) h = (uses_more known more m p h.0, uses_more known more m q h.1)
uses_more known more m (replicated p) h = uses_more known more m p h
uses_more known more m (act a p) h = uses_more known more m p h
uses_more known more m (test t u p q) h = (uses_more known more m p h.0, uses_more known more m q h.1)
uses_more known more m (lookup t x p q) h = (uses_more known more m p h.0, uses_more known more m q h.1)

-- the names of these definitions too
abbrev names_behind : List (List ℕ) → List Definition → List (List ℕ)
names_behind known [] = known
names_behind known (d ∷ ds) = names_behind (d.name ∷ known) ds

stays_known : (known : List (List ℕ)) (ds : List Definition) (f : List ℕ) → is_known known f ≡ true → is_known (names_behind known ds) f ≡ true
stays_known known [] f h = h
stays_known known (d ∷ ds) f h = stays_known (d.name ∷ known) ds f (in_tail f d.name known h)

defined_is_known : (known : List (List ℕ)) (ds : List Definition) (f : List ℕ) → is_known (defined ds) f ≡ true → is_known (names_behind known ds) f ≡ true
defined_is_known known [] f h = absurd (false≢true h)
defined_is_known known (d ∷ ds) f h =
    ⊎_elim (λ e. stays_known (d.name ∷ known) ds f (subst (λ z. is_known (d.name ∷ known) z ≡ true) e (in_head d.name known)))
    (λ k. defined_is_known (d.name ∷ known) ds f k) (in_cases f d.name (defined ds) h)

module _ (ds : List Definition) where
  -- what uses these names alone starts with a head
  abbrev HasHeads : List (List ℕ) → Type 0
  HasHeads known = (w : Written) → UsesOnly known w → (h : Head Written) × StartsWith ds w h

  nothing_known : HasHeads []
  nothing_known nil h = (head.nil, itself head.nil)
  nothing_known (call f ts) h = absurd (false≢true h)
  nothing_known (parallel p q) h = (head.parallel p q, itself (head.parallel p q))
  nothing_known (replicated p) h = (head.replicated p, itself (head.replicated p))
  nothing_known (act a p) h = (head.act a p, itself (head.act a p))
  nothing_known (test t v p q) h = (head.test t v p q, itself (head.test t v p q))
  nothing_known (lookup t x p q) h = (head.lookup t x p q, itself (head.lookup t x p q))

  one_known : (known : List (List ℕ)) (d : Definition) → Contains ds d → UsesOnly known d.body → HasHeads known → HasHeads (d.name ∷ known)
  one_known known d c u all nil h = (head.nil, itself head.nil)
  one_known known d c u all (call f ts) h =
      ⊎_elim
      (λ e.
      let r = all (instance_by d ts) (instance_uses known (put d.params ts unchanged) d.body u) in
      (r.0, subst (λ z. StartsWith ds (call z ts) r.0) e (use_of d c r.1)))
      (λ l. all (call f ts) l) (in_cases f d.name known h)
  one_known known d c u all (parallel p q) h = (head.parallel p q, itself (head.parallel p q))
  one_known known d c u all (replicated p) h = (head.replicated p, itself (head.replicated p))
  one_known known d c u all (act a p) h = (head.act a p, itself (head.act a p))
  one_known known d c u all (test t v p q) h = (head.test t v p q, itself (head.test t v p q))
  one_known known d c u all (lookup t x p q) h = (head.lookup t x p q, itself (head.lookup t x p q))

  all_known : (es : List Definition) (known : List (List ℕ)) → AreInOrder known es → ((d : Definition) → Contains es d → Contains ds d) → HasHeads known → HasHeads (names_behind known es)
  all_known [] known h inside all = all
  all_known (d ∷ es) known h inside all =
      all_known es (d.name ∷ known) h.1.1 (λ e c. inside e (later_item d es e c)) (one_known known d (inside d (first_item d es)) h.1.0 all)

pub heads_are_there : (ds : List Definition) (w : Written) → AreInOrder [] ds → UsesOnly (defined ds) w → (h : Head Written) × StartsWith ds w h
heads_are_there ds w order uses =
    all_known ds ds [] order (λ d c. c) (nothing_known ds) w (uses_more (defined ds) (names_behind [] ds) (defined_is_known [] ds) w uses)
