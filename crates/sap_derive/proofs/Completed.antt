-- What is deducible from the entries is known, once all clauses are there and what is known is closed.
use Rattle.std.proofs.Common.{◌≡◌, ◌<◌, ◌≤◌, ℕ, zero, suc, List, [], ◌∷◌, length, Some, refl, sym, arith, subst}
use Rattle.std.specs.Prelude.{slice_get, All}
use Rattle.std.proofs.lemmas.List.Elements.{All-nil, All-cons}
use Rattle.std.proofs.lemmas.Option.{slice_get_within}
use Rattle.sap_terms.specs.Tree.{Tree}
use Rattle.sap_terms.specs.Deduce.{IsDeducible}
use Rattle.sap_terms.specs.Equations.{equations}
use Rattle.sap_terms.specs.Normal.{IsNormal}
use Rattle.sap_terms.specs.Signature.{HoldsBuiltins}
use Rattle.sap_rewrite.specs.Laws.{FormIsOne, SymbolsReduceOnce}
use Rattle.sap_share.specs.Shared.{Shared, tree_at, trees_at, AreBelow, HaveOneNumber}
use Rattle.sap_derive.specs.code.Lines.{premises_of}
use Rattle.sap_derive.specs.code.Clauses.{IsMaking, IsOpening, IsClosedOver, HasClause}
use Rattle.sap_derive.specs.code.Closed.{IsClosedUnder}
use Rattle.sap_derive.specs.code.Listed.{IsListed, AreListed}
use Rattle.sap_derive.specs.code.Saturated.{HaveParts}
use Rattle.sap_derive.specs.code.States.{IsStateOf}
use Rattle.sap_derive.specs.declared.closure.Closure.{Closure}
use Rattle.sap_derive.specs.declared.openers.Openers.{Openers}
use Rattle.sap_derive.specs.declared.grounds.Grounds.{Grounds}
use Rattle.sap_derive.specs.declared.grounds.Grounds.TheVariants.{Given, By}
use Rattle.sap_derive.proofs.Clausal.{closed-saturated}
use Rattle.sap_derive.proofs.Gets.{all-got}
use Rattle.sap_derive.proofs.Made.{deduced-known}
use Rattle.sap_derive.proofs.Parts.{tree-got}

-- an item stands at each index
pub got-at : {X : Type 0} (xs : List X) (k : ℕ) → k < length xs → (x : X) × (slice_get xs k ≡ Some x)
got-at [] k l = absurd (omega arith)
got-at (x ∷ xs) zero l = (x, refl)
got-at (x ∷ xs) (suc k) l = got-at xs k (omega arith)

-- what holds of the trees of all these numbers
pub all-trees : (P : Tree → Type 0) (trees : List Tree) (ks : List ℕ) → ((k n : ℕ) → slice_get ks k ≡ Some n → P (tree_at trees n)) → All P (trees_at trees ks)
all-trees P trees [] h = All-nil P
all-trees P trees (n ∷ ks) h = All-cons P (tree_at trees n) (trees_at trees ks) (h 0 n refl) (all-trees P trees ks (λ k m e. h (suc k) m e))

module _ (s : Shared) (entries terms : List ℕ) (brought given : ℕ) (closure : Closure) (openers : Openers) (state : IsStateOf s entries terms brought given closure openers) where
  -- what is known has a number of the table
  pub known-below : (n : ℕ) → IsListed closure.known n → n < length s.trees
  known-below n l = at (got-at closure.ways.items l.0 within) where
    within : l.0 < length closure.ways.items
    within = (let b = slice_get_within closure.known l.0 n l.1 in let c = state.closed.sound.count in omega arith)

    at : (w : Grounds) × (slice_get closure.ways.items l.0 ≡ Some w) → n < length s.trees
    at (Given, e) =
        let there = state.given_are n (record { rank = l.0; is = l.1; way = e }) in
        let term = state.entries_are there.0 n there.1 in
        (state.terms_are term.0 n term.1).below
    at (By c, e) =
        let step = state.closed.sound.steps l.0 c e in
        let here = step.gives in
        let known = l.1 in
        let same : step.clause.gives ≡ n = cc in
        subst (λ (i : ℕ). i < length s.trees) same (state.numbered c step.clause step.is).gives_below

  module _ (one : FormIsOne) (once : SymbolsReduceOnce) (builtins : HoldsBuiltins s.sig) (numbers : HaveOneNumber s.trees (length s.trees)) (all_brought : length terms ≤ brought) (all_given : length entries ≤ given) (closed : IsClosedUnder closure.clauses closure.known) where
    -- the terms that have numbers in the list
    abbrev A : Tree → Type 0
    A t = (n : ℕ) × IsListed terms n × (tree_at s.trees n ≡ t)

    abbrev K : Tree → Type 0
    K t = (n : ℕ) × IsListed closure.known n × (tree_at s.trees n ≡ t)

    -- where a clause's terms are known, what it gives is
    uses : (ts : List Tree) (t : Tree) → HasClause s.trees closure.clauses ts t → All K ts → K t
    uses ts t h all = (h.clause.gives, closed h.index h.clause h.at listed, h.gives) where
      is : AreBelow (length s.trees) (premises_of h.clause.line)
      is = (state.numbered h.index h.clause h.at).below

      listed : AreListed closure.known (premises_of h.clause.line)
      listed k n e =
          let known = all-got K (trees_at s.trees (premises_of h.clause.line)) k (tree_at s.trees n) (subst (λ (us : List Tree). All K us) (sym h.asks) all) (tree-got s.trees (premises_of h.clause.line) k n e) in
          let below = all-got (λ i. i < length s.trees) (premises_of h.clause.line) k n is e in
          let same = numbers known.0 n (known-below known.0 known.1) below known.2 in
          subst (λ (i : ℕ). IsListed closure.known i) same known.1

    among-brought : (k n : ℕ) → slice_get terms k ≡ Some n → k < brought
    among-brought k n e = (let l = slice_get_within terms k n e in omega arith)

    closed-over : IsClosedOver s.sig A K
    closed-over = record {
      made = λ ts t a m all.
          let b = state.brought_are a.1.0 a.0 (among-brought a.1.0 a.0 a.1.1) a.1.1 in
          uses ts t (subst (λ (u : Tree). HasClause s.trees closure.clauses ts u) a.2 (b.makings ts (subst (λ (u : Tree). IsMaking s.sig ts u) (sym a.2) m))) all;
      opened = λ h rest t a o all.
          let b = state.brought_are a.1.0 a.0 (among-brought a.1.0 a.0 a.1.1) a.1.1 in
          uses (h ∷ rest) t (subst (λ (u : Tree). HasClause s.trees closure.clauses (u ∷ rest) t) a.2 (b.openings rest t (subst (λ (u : Tree). IsOpening s.sig u rest t) (sym a.2) o))) all;
    }

    has-parts : HaveParts A
    has-parts f ts t a i =
        let b = state.brought_are a.1.0 a.0 (among-brought a.1.0 a.0 a.1.1) a.1.1 in
        b.parts f ts t a.2 i

    a-normal : (t : Tree) → A t → IsNormal (equations s.sig) t
    a-normal t a = subst (λ (u : Tree). IsNormal (equations s.sig) u) a.2 (state.terms_are a.1.0 a.0 a.1.1).normal

    sent : All A (trees_at s.trees entries)
    sent = all-trees A s.trees entries (λ k n e. (n, state.entries_are k n e, refl))

    sent-known : All K (trees_at s.trees entries)
    sent-known = all-trees K s.trees entries (λ k n e. (n, state.given_known k n (let l = slice_get_within entries k n e in omega arith) e, refl))

    -- what is deducible, of the terms that have numbers in the list, is known
    pub completed : (n : ℕ) → IsListed terms n → n < length s.trees → IsDeducible s.sig [] (trees_at s.trees entries) (tree_at s.trees n) → IsListed closure.known n
    completed n l below d =
        let saturated = closed-saturated one once s.sig A K builtins a-normal closed-over (trees_at s.trees entries) sent-known in
        let known = deduced-known one once s.sig [] (trees_at s.trees entries) A K builtins has-parts a-normal sent saturated (tree_at s.trees n) (n, l, refl) d in
        let same = numbers known.0 n (known-below known.0 known.1) below known.2 in
        subst (λ (i : ℕ). IsListed closure.known i) same known.1
