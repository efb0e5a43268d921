-- Processes that are equal up to names: the one comes from the other by renaming what it binds, sorts kept, so that each
-- occurrence keeps its binder.
use Rattle.std.specs.Prelude.{◌≡◌, ℕ, Bool, false, List, [], ◌∷◌, map}
use Rattle.sap_terms.specs.Tree.{Tree, variable, public, fresh, apply, Trees, none, more, trees_of}
use Rattle.sap_terms.specs.Variables.{is_known}
use Rattle.sap_terms.specs.declared.fact.Fact.{Fact}
use Rattle.sap_terms.specs.declared.var.Sort.{Sort}
use Rattle.sap_terms.specs.declared.var.Var.{Var}
use Rattle.sap_process.specs.Action.{Action, new, out, send, input, receive, event, insert, delete, lock, unlock, embedded}
use Rattle.sap_process.specs.Proc.{Proc, nil, parallel, replicated, act, test, lookup}

-- the variable of this name and sort
abbrev pub named : List ℕ → Sort → Var
named x s = record { name = x; sort = s }

-- the fact of this name, whether persistent, with these arguments
abbrev pub fact : List ℕ → Bool → List Tree → Fact
fact n b ts = record { name = n; persistent = b; args = ts }

-- a name on each side
pub record Pair : Type 0 where
  pub left : List ℕ
  pub right : List ℕ

abbrev pub pair_of : List ℕ → List ℕ → Pair
pair_of x y = record { left = x; right = y }

-- the names that are bound on a side, the last one first
abbrev pub lefts : List Pair → List (List ℕ)
lefts ρ = map (λ (p : Pair). p.left) ρ

abbrev pub rights : List Pair → List (List ℕ)
rights ρ = map (λ (p : Pair). p.right) ρ

-- both names have one binder: the last one of either name
pub data HaveOneBinder : List Pair → List ℕ → List ℕ → Type 0 where
  here : {x y : List ℕ} {ρ : List Pair} → HaveOneBinder (pair_of x y ∷ ρ) x y
  above : {a b x y : List ℕ} {ρ : List Pair} → ¬ (a ≡ x) → ¬ (b ≡ y) → HaveOneBinder ρ x y
      → HaveOneBinder (pair_of a b ∷ ρ) x y

mutual
  -- the terms are equal but for names, each with its binder; signs are kept
  pub data AreAlikeTerms (ρ : List Pair) : Tree → Tree → Type 0 where
    both_variable : {x y : List ℕ} {s : Sort} → HaveOneBinder ρ x y
        → AreAlikeTerms ρ (variable (named x s)) (variable (named y s))
    both_public : {n : List ℕ} → AreAlikeTerms ρ (public n) (public n)
    both_fresh : {k : ℕ} → AreAlikeTerms ρ (fresh k) (fresh k)
    both_apply : {f : List ℕ} {ts us : Trees} → AreAlikeLists ρ ts us
        → AreAlikeTerms ρ (apply f ts) (apply f us)

  -- so are these, one by one
  pub data AreAlikeLists (ρ : List Pair) : Trees → Trees → Type 0 where
    both_none : AreAlikeLists ρ none none
    both_more : {t u : Tree} {ts us : Trees} → AreAlikeTerms ρ t u → AreAlikeLists ρ ts us
        → AreAlikeLists ρ (more t ts) (more u us)

mutual
  -- so are patterns, where the first names are in scope; a name that isn't in scope on either side is bound where it first
  -- occurs; the last names are in scope behind
  pub data AreAlikePatterns : List Pair → Tree → Tree → List Pair → Type 0 where
    old_name : {ρ : List Pair} {x y : List ℕ} {s : Sort} → HaveOneBinder ρ x y
        → AreAlikePatterns ρ (variable (named x s)) (variable (named y s)) ρ
    new_name : {ρ : List Pair} {x y : List ℕ} {s : Sort} → is_known (lefts ρ) x ≡ false
        → is_known (rights ρ) y ≡ false
        → AreAlikePatterns ρ (variable (named x s)) (variable (named y s)) (pair_of x y ∷ ρ)
    one_public : {ρ : List Pair} {n : List ℕ} → AreAlikePatterns ρ (public n) (public n) ρ
    one_fresh : {ρ : List Pair} {k : ℕ} → AreAlikePatterns ρ (fresh k) (fresh k) ρ
    one_symbol : {ρ ξ : List Pair} {f : List ℕ} {ts us : Trees} → AreAlikeRows ρ ts us ξ
        → AreAlikePatterns ρ (apply f ts) (apply f us) ξ

  -- so are these, from left to right
  pub data AreAlikeRows : List Pair → Trees → Trees → List Pair → Type 0 where
    row_ends : {ρ : List Pair} → AreAlikeRows ρ none none ρ
    row_goes_on : {ρ ξ ζ : List Pair} {t u : Tree} {ts us : Trees} → AreAlikePatterns ρ t u ξ
        → AreAlikeRows ξ ts us ζ → AreAlikeRows ρ (more t ts) (more u us) ζ

-- so are facts, whose arguments are patterns, from left to right
pub data AreAlikeFacts : List Pair → List Fact → List Fact → List Pair → Type 0 where
  facts_end : {ρ : List Pair} → AreAlikeFacts ρ [] [] ρ
  facts_go_on : {ρ ξ ζ : List Pair} {n : List ℕ} {b : Bool} {ts us : List Tree}
      {fs hs : List Fact} → AreAlikeRows ρ (trees_of ts) (trees_of us) ξ
      → AreAlikeFacts ξ fs hs ζ → AreAlikeFacts ρ (fact n b ts ∷ fs) (fact n b us ∷ hs) ζ

-- so are actions, with what is in scope behind: `new` binds its name, an input its pattern, an embedded rule its three sides,
-- the left one first; labels of locks are not looked at
pub data AreAlikeActions : List Pair → Action → Action → List Pair → Type 0 where
  both_new : {ρ : List Pair} {x y : List ℕ} {s : Sort}
      → AreAlikeActions ρ (new (named x s)) (new (named y s)) (pair_of x y ∷ ρ)
  both_out : {ρ : List Pair} {t v : Tree} → AreAlikeTerms ρ t v
      → AreAlikeActions ρ (out t) (out v) ρ
  both_send : {ρ : List Pair} {t u v w : Tree} → AreAlikeTerms ρ t v → AreAlikeTerms ρ u w
      → AreAlikeActions ρ (send t u) (send v w) ρ
  both_input : {ρ ξ : List Pair} {t v : Tree} → AreAlikePatterns ρ t v ξ
      → AreAlikeActions ρ (input t) (input v) ξ
  both_receive : {ρ ξ : List Pair} {t u v w : Tree} → AreAlikeTerms ρ t v
      → AreAlikePatterns ρ u w ξ → AreAlikeActions ρ (receive t u) (receive v w) ξ
  both_event : {ρ : List Pair} {n : List ℕ} {b : Bool} {ts us : List Tree}
      → AreAlikeLists ρ (trees_of ts) (trees_of us)
      → AreAlikeActions ρ (event (fact n b ts)) (event (fact n b us)) ρ
  both_insert : {ρ : List Pair} {t u v w : Tree} → AreAlikeTerms ρ t v → AreAlikeTerms ρ u w
      → AreAlikeActions ρ (insert t u) (insert v w) ρ
  both_delete : {ρ : List Pair} {t v : Tree} → AreAlikeTerms ρ t v
      → AreAlikeActions ρ (delete t) (delete v) ρ
  both_lock : {ρ : List Pair} {t v : Tree} {i j : ℕ} → AreAlikeTerms ρ t v
      → AreAlikeActions ρ (lock t i) (lock v j) ρ
  both_unlock : {ρ : List Pair} {t v : Tree} {i j : ℕ} → AreAlikeTerms ρ t v
      → AreAlikeActions ρ (unlock t i) (unlock v j) ρ
  both_embedded : {ρ ξ ζ η : List Pair} {l e r k d q : List Fact} → AreAlikeFacts ρ l k ξ
      → AreAlikeFacts ξ e d ζ → AreAlikeFacts ζ r q η
      → AreAlikeActions ρ (embedded l e r) (embedded k d q) η

-- so are processes, where these names are bound above them; a look-up binds its name in its first branch alone
pub data AreAlike : List Pair → Proc → Proc → Type 0 where
  both_nil : {ρ : List Pair} → AreAlike ρ nil nil
  both_parallel : {ρ : List Pair} {p q a b : Proc} → AreAlike ρ p a → AreAlike ρ q b
      → AreAlike ρ (parallel p q) (parallel a b)
  both_replicated : {ρ : List Pair} {p a : Proc} → AreAlike ρ p a
      → AreAlike ρ (replicated p) (replicated a)
  both_act : {ρ ξ : List Pair} {c d : Action} {p a : Proc} → AreAlikeActions ρ c d ξ
      → AreAlike ξ p a → AreAlike ρ (act c p) (act d a)
  both_test : {ρ : List Pair} {t u v w : Tree} {p q a b : Proc} → AreAlikeTerms ρ t v
      → AreAlikeTerms ρ u w → AreAlike ρ p a → AreAlike ρ q b
      → AreAlike ρ (test t u p q) (test v w a b)
  both_lookup : {ρ : List Pair} {t v : Tree} {x y : List ℕ} {s : Sort} {p q a b : Proc}
      → AreAlikeTerms ρ t v → AreAlike (pair_of x y ∷ ρ) p a → AreAlike ρ q b
      → AreAlike ρ (lookup t (named x s) p q) (lookup v (named y s) a b)

-- the processes are equal up to names
abbrev pub AreSameUpToNames : Proc → Proc → Type 0
AreSameUpToNames p q = AreAlike [] p q
