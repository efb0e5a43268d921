-- The nine flaws of a process.
use Rattle.std.specs.Prelude.{◌≡◌, ◌<◌, ◌⊎◌, ℕ, ◌+◌, true, not, List, [], ◌∷◌, ◌++◌, length, take, filter, slice_get, Option, Some, Contains, codes, nat_eq}
use Rattle.std.specs.List.{flat_map, starts_with, find}
use Rattle.std.specs.Str.{bytes_eq}
use Rattle.sap_terms.specs.Destructors.{HasDestructor}
use Rattle.sap_terms.specs.Message.{IsOver}
use Rattle.sap_terms.specs.Reserved.{is_reserved}
use Rattle.sap_terms.specs.Same.{same_sort}
use Rattle.sap_terms.specs.Signature.{Sig, arity_of}
use Rattle.sap_terms.specs.Tree.{Tree}
use Rattle.sap_terms.specs.Variables.{facts_vars, is_known, new_vars}
use Rattle.sap_terms.specs.declared.fact.Fact.{Fact}
use Rattle.sap_terms.specs.declared.limits.TheConstants.{MOST_SCOPE_NAMES}
use Rattle.sap_terms.specs.declared.var.Sort.TheVariants.{Msg, Pub}
use Rattle.sap_terms.specs.declared.var.Var.{Var}
use Rattle.sap_process.specs.declared.flaw.Flaw.{Flaw}
use Rattle.sap_process.specs.declared.flaw.Flaw.TheVariants.{BadFunction, ReservedVar, ReservedFact, FactClash, PatternDestructor, Unbound, Rebound, SortClash, ScopeFull}
use Rattle.sap_process.specs.Action.{Action, embedded}
use Rattle.sap_process.specs.Proc.{Proc, nil, parallel, replicated, act, test, lookup}
use Rattle.sap_process.specs.Heads.{terms_vars, head_terms, head_vars, binder, bound_as, patterns, stored_facts, shown_facts, action_used}
use Rattle.sap_process.specs.Sites.{var_names, bound_by, Site, sites_in}

-- a term at the head applies a symbol that isn't held, or not with its arity
pub record AppliesBadly (g : Sig) (s : Site) : Type 0 where
  pub term : Tree
  pub stands : Contains (head_terms s.body) term
  pub bad : ¬ IsOver g term

-- `new` or `lookup` binds a plain identifier that is a constant; `lookup` always binds a plain one
pub record BindsConstant (g : Sig) (s : Site) : Type 0 where
  pub var : Var
  pub stands : bound_as s.body ≡ Some var
  pub plain : var.sort ≡ Msg
  pub constant : arity_of g var.name ≡ Some 0

-- a variable's name begins as those that the rules use themselves
pub record HasReservedVar (s : Site) : Type 0 where
  pub var : Var
  pub stands : Contains (head_vars s.body) var
  pub reserved : starts_with nat_eq var.name (codes "sapic_") ≡ true

-- a fact that is shown, taken or added has a name that rules use themselves
pub record HasReservedFact (s : Site) : Type 0 where
  pub fact : Fact
  pub stands : Contains (stored_facts s.body ++ shown_facts s.body) fact
  pub reserved : is_reserved fact.name ≡ true

-- one of the facts has the name of one before it, of these or of those met, and differs from it
pub record HasClash (differ : Fact → Fact → Type 0) (met facts : List Fact) : Type 0 where
  pub at : ℕ
  pub fact : Fact
  pub stands : slice_get facts at ≡ Some fact
  pub earlier : Fact
  pub before : Contains (met ++ take at facts) earlier
  pub name : earlier.name ≡ fact.name
  pub other : differ earlier fact

-- they have different numbers of arguments
abbrev pub HasOtherArity : Fact → Fact → Type 0
HasOtherArity f h = ¬ (length f.args ≡ length h.args)

-- or one of them is persistent and the other not
abbrev pub HasOtherForm : Fact → Fact → Type 0
HasOtherForm f h = HasOtherArity f h ⊎ (¬ (f.persistent ≡ h.persistent))

-- a pattern has one
pub record HasPatternDestructor (g : Sig) (s : Site) : Type 0 where
  pub term : Tree
  pub stands : Contains (patterns s.body) term
  pub destructor : HasDestructor g term

-- the occurrences in these terms that nothing in scope binds
abbrev pub unbound_in : List Var → List Tree → List Var
unbound_in scope ts = filter (λ (v : Var). not (is_known (var_names scope) v.name)) (terms_vars ts)

-- those of an action: in an embedded rule the first ones of names that are neither in scope nor on its left side, but for
-- `$x`, which the rule binds itself
abbrev pub unbound_at : List Var → Action → List Var
unbound_at scope (embedded l e r) =
    filter (λ (v : Var). not (same_sort v.sort Pub))
    (new_vars (var_names (scope ++ facts_vars l)) (facts_vars (e ++ r)))
unbound_at scope a = unbound_in scope (action_used a)

-- those at the head of a process
abbrev pub unbound : List Var → Proc → List Var
unbound scope nil = []
unbound scope (parallel p q) = []
unbound scope (replicated p) = []
unbound scope (act a p) = unbound_at scope a
unbound scope (test t u p q) = unbound_in scope (t ∷ u ∷ [])
unbound scope (lookup t x p q) = unbound_in scope (t ∷ [])

-- the binder names what is in scope already
pub record Rebinds (s : Site) : Type 0 where
  pub var : Var
  pub stands : binder s.body ≡ Some var
  pub in_scope : is_known (var_names s.above.scope) var.name ≡ true

-- what is in scope at the head, with what a pattern or an embedded rule there binds
abbrev pub scope_at : List Var → Proc → List Var
scope_at scope (act a p) = scope ++ bound_by scope a
scope_at scope _ = scope

-- the binder of a name
abbrev pub binder_of : List Var → List ℕ → Option Var
binder_of scope n = find (λ (v : Var). bytes_eq v.name n) scope

-- a variable has a sign that isn't the sort of its binder
pub record HasSortClash (s : Site) : Type 0 where
  pub var : Var
  pub stands : Contains (terms_vars (head_terms s.body)) var
  pub signed : ¬ (var.sort ≡ Msg)
  pub bound : Var
  pub binder : binder_of (scope_at s.above.scope s.body) var.name ≡ Some bound
  pub other : ¬ (bound.sort ≡ var.sort)

-- the place has the flaw, where these places stand before it
abbrev pub HasFlaw : Sig → List Site → Site → Flaw → Type 0
HasFlaw g before s BadFunction = AppliesBadly g s ⊎ BindsConstant g s
HasFlaw g before s ReservedVar = HasReservedVar s
HasFlaw g before s ReservedFact = HasReservedFact s
HasFlaw g before s FactClash =
    HasClash HasOtherForm (flat_map (λ (b : Site). stored_facts b.body) before)
    (stored_facts s.body)
    ⊎ HasClash HasOtherArity (flat_map (λ (b : Site). shown_facts b.body) before)
    (shown_facts s.body)
HasFlaw g before s PatternDestructor = HasPatternDestructor g s
HasFlaw g before s Unbound = ¬ (unbound s.above.scope s.body ≡ [])
HasFlaw g before s Rebound = Rebinds s
HasFlaw g before s SortClash = HasSortClash s
HasFlaw g before s ScopeFull = MOST_SCOPE_NAMES < length s.above.scope + s.above.locks

-- place k, counted from 0 in preorder, has the flaw, where these variables are in scope at the root
pub record IsFlawedIn (g : Sig) (scope : List Var) (p : Proc) (w : Flaw) (k : ℕ) : Type 0 where
  pub site : Site
  pub stands : slice_get (sites_in scope p) k ≡ Some site
  pub flaw : HasFlaw g (take k (sites_in scope p)) site w

-- the same where nothing is
abbrev pub IsFlawedAt : Sig → Proc → Flaw → ℕ → Type 0
IsFlawedAt g p w k = IsFlawedIn g [] p w k

-- the flaws in the order in which they count
abbrev pub rank : Flaw → ℕ
rank BadFunction = 1
rank ReservedVar = 2
rank ReservedFact = 3
rank FactClash = 4
rank PatternDestructor = 5
rank Unbound = 6
rank Rebound = 7
rank SortClash = 8
rank ScopeFull = 9

-- the process has no flaw anywhere, where these are in scope at its root
abbrev pub IsWellFormedIn : Sig → List Var → Proc → Type 0
IsWellFormedIn g scope p = (w : Flaw) (k : ℕ) → ¬ IsFlawedIn g scope p w k

-- nor where nothing is
abbrev pub IsWellFormed : Sig → Proc → Type 0
IsWellFormed g p = IsWellFormedIn g [] p

-- the flaw counts, where these are in scope at the root: no place has one that counts before it, and this is the first place
-- that has it
pub record IsFirstFlawIn (g : Sig) (scope : List Var) (p : Proc) (w : Flaw)
    (path : List ℕ) : Type 0 where
  pub place : ℕ
  pub at : IsFlawedIn g scope p w place
  pub path_is : at.site.path ≡ path
  pub first : (k : ℕ) → k < place → ¬ IsFlawedIn g scope p w k
  pub least : (u : Flaw) → rank u < rank w → (k : ℕ) → ¬ IsFlawedIn g scope p u k

-- the same where nothing is
abbrev pub IsFirstFlaw : Sig → Proc → Flaw → List ℕ → Type 0
IsFirstFlaw g p w path = IsFirstFlawIn g [] p w path

-- the three flaws that scope alone decides
abbrev pub IsOfScope : Flaw → Type 0
IsOfScope Unbound = Unit {0}
IsOfScope Rebound = Unit {0}
IsOfScope SortClash = Unit {0}
IsOfScope _ = ⊥

-- no place has one of these three, where these variables are in scope at the root
abbrev pub HasNoScopeFlaw : Sig → List Var → Proc → Type 0
HasNoScopeFlaw g scope p = (w : Flaw) → IsOfScope w → (k : ℕ) → ¬ IsFlawedIn g scope p w k

-- of these three the flaw counts, where these variables are in scope at the root: no place has one that counts
-- before it, and this is the first place that has it
pub record IsFirstScopeFlaw (g : Sig) (scope : List Var) (p : Proc) (w : Flaw) (path : List ℕ)
    : Type 0 where
  pub of_scope : IsOfScope w
  pub place : ℕ
  pub at : IsFlawedIn g scope p w place
  pub path_is : at.site.path ≡ path
  pub first : (k : ℕ) → k < place → ¬ IsFlawedIn g scope p w k
  pub least : (u : Flaw) → IsOfScope u → rank u < rank w → (k : ℕ) → ¬ IsFlawedIn g scope p u k
