-- The name of a definition means its body, where each name means what it means behind all definitions.
use Rattle.std.proofs.Common.{◌≡◌, ℕ, zero, suc, ◌+◌, true, false, List, [], ◌∷◌, ◌⊎◌, inl, inr, Some, refl, sym, ap, ◌∙◌, subst, ⊎_elim}
use Rattle.std.proofs.lemmas.Bool.{cases_Bool, false≢true}
use Rattle.std.specs.Prelude.{if◌then◌else◌, slice_get}
use Rattle.std.specs.Str.{bytes_eq}
use Rattle.sap_terms.specs.Choice.{Choice}
use Rattle.sap_terms.specs.Tree.{Tree}
use Rattle.sap_terms.specs.Variables.{is_known}
use Rattle.sap_process.specs.Proc as whole
use Rattle.sap_process.specs.Proc.{Proc}
use Rattle.sap_macro.specs.Expansion.{Expanded, Meaning, Plain, binding, by_names, entered, expanded, expanded_as, meaning_after, no_meaning, own_names, plain_after, plain_bodies, put, where_none, with_definition, with_plain, with_uses}
use Rattle.sap_process.specs.Instance.{action_instance}
use Rattle.sap_terms.specs.Choice.{instance}
use Rattle.sap_macro.specs.NewNames.{renamed, taken_after}
use Rattle.sap_macro.specs.Order.{AreInOrder, UsesOnly}
use Rattle.sap_macro.specs.UpToNames.{named}
use Rattle.sap_macro.specs.Written.{Written, nil, call, parallel, replicated, act, test, lookup, Definition}
use Rattle.sap_macro.specs.Indexed.{defined}
use Rattle.sap_macro.specs.Walked.{Cost, steps, with_cost, cost_after}
use Rattle.sap_macro.specs.code.Steps.{IsResolved, IsResolvedBy, IsUnknown}
use Rattle.sap_terms.proofs.PlainLaws.Known.{own_name, clash, apart, in_head, in_tail, in_cases, not_in, out_of}

-- ---- a name that these don't define means what it meant before them

pub plain_stays : (ds : List Definition) (p : Plain) (f : List ℕ) (ts : List Tree) → is_known (defined ds) f ≡ false → plain_after p ds f ts ≡ p f ts
plain_stays [] p f ts h = refl
plain_stays (d ∷ ds) p f ts h =
    let other = not_in f d.name (defined ds) h in
    plain_stays ds (with_plain p d) f ts other.1
    ∙ ap (λ b. if b then where_none d.params (with_uses p d.body) (call f ts) else p f ts) other.0

abbrev pub with_body : Plain → Definition → Definition
with_body p d = record d { body = with_uses p d.body }

pub meaning_stays : (ds : List Definition) (p : Plain) (m : Meaning) (f : List ℕ) (ts : List Tree) (taken : List (List ℕ)) → is_known (defined ds) f ≡ false
    → meaning_after m (plain_bodies p ds) f ts taken ≡ m f ts taken
meaning_stays [] p m f ts taken h = refl
meaning_stays (d ∷ ds) p m f ts taken h =
    let other = not_in f d.name (defined ds) h in
    meaning_stays ds (with_plain p d) (with_definition m (with_body p d)) f ts taken other.1
    ∙ ap (λ b. if b then entered m (with_body p d) ts taken else m f ts taken) other.0

cost_stays : (ds : List Definition) (c : Cost) (f : List ℕ) → is_known (defined ds) f ≡ false → cost_after c ds f ≡ c f
cost_stays [] c f h = refl
cost_stays (d ∷ ds) c f h =
    let other = not_in f d.name (defined ds) h in
    cost_stays ds (with_cost c d) f other.1 ∙ ap (λ b. if b then steps c d.body else c f) other.0

-- names that are defined before aren't defined again
pub apart_from : (ds : List Definition) (known : List (List ℕ)) → AreInOrder known ds → (f : List ℕ) → is_known known f ≡ true → is_known (defined ds) f ≡ false
apart_from [] known h f k = refl
apart_from (d ∷ ds) known h f k =
    out_of f d.name (defined ds) (apart d.name f (λ e. clash (is_known known f) k (sym (ap (is_known known) e) ∙ h.0)))
    (apart_from ds (d.name ∷ known) h.1.1 f (in_tail f d.name known k))

-- ---- what uses names alone that mean the same means the same

pub uses_agree : (known : List (List ℕ)) (w : Written) (p q : Plain) → UsesOnly known w
    → ((f : List ℕ) (ts : List Tree) → is_known known f ≡ true → p f ts ≡ q f ts) → with_uses p w ≡ with_uses q w
uses_agree known nil p q h e = refl
uses_agree known (call f ts) p q h e = e f ts h
uses_agree known (parallel a b) p q h e = λ i. parallel (uses_agree known a p q h.0 e i) (uses_agree known b p q h.1 e i)
uses_agree known (replicated a) p q h e = ap replicated (uses_agree known a p q h e)
uses_agree known (act x a) p q h e = ap (act x) (uses_agree known a p q h e)
uses_agree known (test t u a b) p q h e = λ i. test t u (uses_agree known a p q h.0 e i) (uses_agree known b p q h.1 e i)
uses_agree known (lookup t x a b) p q h e = λ i. lookup t x (uses_agree known a p q h.0 e i) (uses_agree known b p q h.1 e i)

-- one behind the other
abbrev joined : (Proc → Proc → Proc) → Expanded → (List (List ℕ) → Expanded) → Expanded
joined c e f = expanded_as (c e.process (f e.taken).process) (f e.taken).taken

-- what one stands below
abbrev under : (Proc → Proc) → Expanded → Expanded
under c e = expanded_as (c e.process) e.taken

pub expanded_agree : (known : List (List ℕ)) (w : Written) (m n : Meaning) → UsesOnly known w
    → ((f : List ℕ) (ts : List Tree) (taken : List (List ℕ)) → is_known known f ≡ true → m f ts taken ≡ n f ts taken)
    → (r : Choice) (b : List ℕ → List ℕ) (taken : List (List ℕ)) → expanded m r b w taken ≡ expanded n r b w taken
expanded_agree known nil m n h e r b taken = refl
expanded_agree known (call f ts) m n h e r b taken = e f _ taken h
expanded_agree known (parallel p q) m n h e r b taken =
    λ i. joined whole.parallel (expanded_agree known p m n h.0 e r b taken i) (λ t. expanded_agree known q m n h.1 e r b t i)
expanded_agree known (replicated p) m n h e r b taken = ap (under whole.replicated) (expanded_agree known p m n h e r b taken)
expanded_agree known (act a p) m n h e r b taken =
    ap (under (whole.act (binding b (action_instance r a)))) (expanded_agree known p m n h e r b taken)
expanded_agree known (test t u p q) m n h e r b taken =
    λ i. joined (whole.test (instance r t) (instance r u)) (expanded_agree known p m n h.0 e r b taken i) (λ z. expanded_agree known q m n h.1 e r b z i)
expanded_agree known (lookup t x p q) m n h e r b taken =
    λ i. joined (whole.lookup (instance r t) (named (b x.name) x.sort)) (expanded_agree known p m n h.0 e r b taken i)
    (λ z. expanded_agree known q m n h.1 e r b z i)

steps_agree : (known : List (List ℕ)) (w : Written) (c d : Cost) → UsesOnly known w → ((f : List ℕ) → is_known known f ≡ true → c f ≡ d f) → steps c w ≡ steps d w
steps_agree known nil c d h e = refl
steps_agree known (call f ts) c d h e = ap (λ n. n + 1) (e f h)
steps_agree known (parallel p q) c d h e = λ i. steps_agree known p c d h.0 e i + steps_agree known q c d h.1 e i + 1
steps_agree known (replicated p) c d h e = ap (λ n. n + 1) (steps_agree known p c d h e)
steps_agree known (act a p) c d h e = ap (λ n. n + 1) (steps_agree known p c d h e)
steps_agree known (test t u p q) c d h e = λ i. steps_agree known p c d h.0 e i + steps_agree known q c d h.1 e i + 1
steps_agree known (lookup t x p q) c d h e = λ i. steps_agree known p c d h.0 e i + steps_agree known q c d h.1 e i + 1

-- ---- which names are used behind names without parameters

pub more_known : (x : List ℕ) (known : List (List ℕ)) (w : Written) → UsesOnly known w → UsesOnly (x ∷ known) w
more_known x known nil h = tt
more_known x known (call f ts) h = in_tail f x known h
more_known x known (parallel p q) h = (more_known x known p h.0, more_known x known q h.1)
more_known x known (replicated p) h = more_known x known p h
more_known x known (act a p) h = more_known x known p h
more_known x known (test t u p q) h = (more_known x known p h.0, more_known x known q h.1)
more_known x known (lookup t y p q) h = (more_known x known p h.0, more_known x known q h.1)

-- a name stands for what uses known names alone
abbrev pub AreClosedUses : List (List ℕ) → Plain → Type 0
AreClosedUses known p = (f : List ℕ) (ts : List Tree) → is_known known f ≡ true → UsesOnly known (p f ts)

pub uses_known : (known other : List (List ℕ)) (w : Written) (p : Plain) → UsesOnly known w
    → ((f : List ℕ) (ts : List Tree) → is_known known f ≡ true → UsesOnly other (p f ts)) → UsesOnly other (with_uses p w)
uses_known known other nil p h e = tt
uses_known known other (call f ts) p h e = e f ts h
uses_known known other (parallel a b) p h e = (uses_known known other a p h.0 e, uses_known known other b p h.1 e)
uses_known known other (replicated a) p h e = uses_known known other a p h e
uses_known known other (act x a) p h e = uses_known known other a p h e
uses_known known other (test t u a b) p h e = (uses_known known other a p h.0 e, uses_known known other b p h.1 e)
uses_known known other (lookup t x a b) p h e = (uses_known known other a p h.0 e, uses_known known other b p h.1 e)

where_none_known : (known : List (List ℕ)) (xs : List (List ℕ)) (p q : Written) → UsesOnly known p → UsesOnly known q → UsesOnly known (where_none xs p q)
where_none_known known [] p q h k = h
where_none_known known (x ∷ xs) p q h k = k

pub closed_more : (known : List (List ℕ)) (p : Plain) (d : Definition) → UsesOnly known d.body → AreClosedUses known p → AreClosedUses (d.name ∷ known) (with_plain p d)
closed_more known p d h e f ts k =
    ⊎_elim
    (λ s. subst (λ b. UsesOnly (d.name ∷ known) (if b then where_none d.params (with_uses p d.body) (call f ts) else p f ts)) (sym s)
    (where_none_known (d.name ∷ known) d.params (with_uses p d.body) (call f ts) (more_known d.name known (with_uses p d.body) (uses_known known known d.body p h e)) k))
    (λ s. subst (λ b. UsesOnly (d.name ∷ known) (if b then where_none d.params (with_uses p d.body) (call f ts) else p f ts)) (sym s)
    (more_known d.name known (p f ts) (e f ts (not_first s (in_cases f d.name known k)))))
    (cases_Bool (bytes_eq d.name f)) where
      not_first : bytes_eq d.name f ≡ false → (d.name ≡ f) ⊎ (is_known known f ≡ true) → is_known known f ≡ true
      not_first s (inl same) = clash (bytes_eq d.name f) (subst (λ z. bytes_eq d.name z ≡ true) same (own_name d.name)) s
      not_first s (inr there) = there

-- ---- the first of some definitions, and each

module _ (known : List (List ℕ)) (p : Plain) (m : Meaning) (c : Cost) (d : Definition) (ds : List Definition) (h : AreInOrder known (d ∷ ds)) (closed : AreClosedUses known p) where
  abbrev plain_there : Plain
  plain_there = plain_after p (d ∷ ds)

  abbrev meaning_there : Meaning
  meaning_there = meaning_after m (plain_bodies p (d ∷ ds))

  abbrev cost_there : Cost
  cost_there = cost_after c (d ∷ ds)

  none : is_known (defined ds) d.name ≡ false
  none = apart_from ds (d.name ∷ known) h.1.1 d.name (in_head d.name known)

  bodies : with_uses p d.body ≡ with_uses plain_there d.body
  bodies = uses_agree known d.body p plain_there h.1.0 (λ f ts k. sym (plain_stays (d ∷ ds) p f ts (apart_from (d ∷ ds) known h f k)))

  entered_there : (ts : List Tree) (taken : List (List ℕ)) → entered m (with_body p d) ts taken ≡ entered meaning_there (with_body p d) ts taken
  entered_there ts taken =
      let own = own_names (with_body p d) in
      expanded_agree known (with_uses p d.body) m meaning_there (uses_known known known d.body p h.1.0 closed)
      (λ f us z k. sym (meaning_stays (d ∷ ds) p m f us z (apart_from (d ∷ ds) known h f k)))
      (put d.params ts (by_names (renamed taken own))) (renamed taken own) (taken_after taken own)

  here : IsResolvedBy plain_there meaning_there cost_there d
  here = record {
    plain = λ ts.
        plain_stays ds (with_plain p d) d.name ts none
        ∙ ap (λ b. if b then where_none d.params (with_uses p d.body) (call d.name ts) else p d.name ts) (own_name d.name)
        ∙ ap (λ w. where_none d.params w (call d.name ts)) bodies;
    meaning = λ ts taken.
        meaning_stays ds (with_plain p d) (with_definition m (with_body p d)) d.name ts taken none
        ∙ ap (λ b. if b then entered m (with_body p d) ts taken else m d.name ts taken) (own_name d.name)
        ∙ entered_there ts taken
        ∙ ap (λ w. entered meaning_there (record d { body = w }) ts taken) bodies;
    cost =
        cost_stays ds (with_cost c d) d.name none
        ∙ ap (λ b. if b then steps c d.body else c d.name) (own_name d.name)
        ∙ steps_agree known d.body c cost_there h.1.0 (λ f k. sym (cost_stays (d ∷ ds) c f (apart_from (d ∷ ds) known h f k)));
  }

resolved_at : (ds : List Definition) (known : List (List ℕ)) (p : Plain) (m : Meaning) (c : Cost) → AreInOrder known ds → AreClosedUses known p
    → (k : ℕ) (e : Definition) → slice_get ds k ≡ Some e
    → IsResolvedBy (plain_after p ds) (meaning_after m (plain_bodies p ds)) (cost_after c ds) e
resolved_at [] known p m c h closed k e is = absurd (cc)
resolved_at (d ∷ ds) known p m c h closed zero e is =
    let same : d ≡ e = cc in
    subst (λ z. IsResolvedBy (plain_after p (d ∷ ds)) (meaning_after m (plain_bodies p (d ∷ ds))) (cost_after c (d ∷ ds)) z) same (here known p m c d ds h closed)
resolved_at (d ∷ ds) known p m c h closed (suc k) e is =
    resolved_at ds (d.name ∷ known) (with_plain p d) (with_definition m (with_body p d)) (with_cost c d) h.1.1 (closed_more known p d h.1.0 closed) k e is

pub resolved : (ds : List Definition) (k : ℕ) (d : Definition) → AreInOrder [] ds → slice_get ds k ≡ Some d → IsResolved ds d
resolved ds k d h is = resolved_at ds [] call no_meaning (λ f. 0) h (λ f ts k. absurd (false≢true k)) k d is

pub unknown : (ds : List Definition) (f : List ℕ) → is_known (defined ds) f ≡ false → IsUnknown ds f
unknown ds f h = record {
  plain = λ ts. plain_stays ds call f ts h;
  meaning = λ ts taken. meaning_stays ds call no_meaning f ts taken h;
}
