-- What a search holds, where the table grows, terms come, and clauses.
use Rattle.std.proofs.Common.{◌≡◌, ◌<◌, ◌≤◌, ◌+◌, ℕ, zero, suc, List, [], ◌∷◌, ◌++◌, length, Some, refl, sym, ap, ◌∙◌, ◌⊎◌, inl, inr, arith, subst}
use Rattle.std.specs.Prelude.{slice_get, All, Result, Ok, Err, OnOk, OnErr}
use Rattle.std.proofs.lemmas.List.{length-append, map_push}
use Rattle.std.proofs.lemmas.List.Elements.{All-nil, All-cons, All-head, All-tail, All-weaker}
use Rattle.std.proofs.lemmas.Option.{slice_get_within}
use Rattle.sap_terms.specs.Tree.{Tree, apply, trees_of, node_count}
use Rattle.sap_terms.specs.Equations.{equations}
use Rattle.sap_terms.specs.Normal.{IsNormal, IsNormalForm}
use Rattle.sap_terms.specs.Signature.{Sig}
use Rattle.sap_share.specs.Shared.{Shared, tree_at, trees_at, AreBelow, Keeps}
use Rattle.sap_derive.specs.Searched.{Searched}
use Rattle.sap_derive.specs.code.Lines.{premises_of}
use Rattle.sap_derive.specs.code.Brought.{Adds}
use Rattle.sap_derive.specs.code.Clauses.{IsMaking, IsOpening, IsLineOn, written, applied, IsOpeningClause, IsNumbered, AreNumbered, HasClause}
use Rattle.sap_derive.specs.code.Closed.{IsClosure, IsGiven, Grows}
use Rattle.sap_derive.specs.code.Listed.{IsListed}
use Rattle.sap_derive.specs.code.States.{IsTerm, IsBrought, IsStateOf, IsState, Stays, seen}
use Rattle.sap_derive.specs.declared.state.State.{State}
use Rattle.sap_derive.specs.declared.clause.Clause.{Clause}
use Rattle.sap_derive.specs.declared.closure.Closure.{Closure}
use Rattle.sap_derive.specs.declared.line.Line.{Line}
use Rattle.sap_derive.specs.declared.openers.Openers.{Openers}
use Rattle.sap_derive.specs.declared.grounds.Grounds.{Grounds}
use Rattle.sap_derive.specs.declared.grounds.Grounds.TheVariants.{Given}
use Rattle.std.specs.Prelude.{Vec}
use Rattle.std.specs.declared.alloc.Global.{Global}
use Rattle.std.proofs.lemmas.List.{append_assoc}
use Rattle.sap_derive.proofs.Completed.{got-at}
use Rattle.sap_derive.proofs.Gets.{same-or_not, append-none, get-more, get-last_cases}

-- a tree keeps its number
pub tree-more : (trees added : List Tree) (n : ℕ) → n < length trees → tree_at (trees ++ added) n ≡ tree_at trees n
tree-more [] added n l = absurd (omega arith)
tree-more (t ∷ trees) added zero l = refl
tree-more (t ∷ trees) added (suc n) l = tree-more trees added n (omega arith)

pub trees-more : (trees added : List Tree) (ks : List ℕ) → AreBelow (length trees) ks → trees_at (trees ++ added) ks ≡ trees_at trees ks
trees-more trees added [] b = refl
trees-more trees added (k ∷ ks) b =
    let here = tree-more trees added k (All-head (λ (i : ℕ). i < length trees) k ks b) in
    let rest = trees-more trees added ks (All-tail (λ (i : ℕ). i < length trees) k ks b) in
    λ i. here i ∷ rest i

module _ (g : Sig) (trees added : List Tree) where
  abbrev more : List Tree
  more = trees ++ added

  below-more : (n : ℕ) → n < length trees → n < length more
  below-more n l = (let e = length-append trees added in omega arith)

  pub term-more : (n : ℕ) → IsTerm g trees n → IsTerm g more n
  term-more n t =
      let e = sym (tree-more trees added n t.below) in
      record {
        below = below-more n t.below;
        normal = subst (λ (u : Tree). IsNormal (equations g) u) e t.normal;
        within = (let w = t.within in let q = ap node_count e in omega arith);
      }

  line-more : (l : Line) (t : Tree) → AreBelow (length trees) (premises_of l) → IsLineOn g trees l t → IsLineOn g more l t
  line-more _ _ b (written a) = written a
  line-more _ _ b (applied f ks t can form) =
      applied f ks t can (subst (λ (ts : List Tree). IsNormalForm (equations g) (apply f (trees_of ts)) t) (sym (trees-more trees added ks b)) form)

  opening-more : (clause : Clause) → AreBelow (length trees) (premises_of clause.line) → clause.gives < length trees → IsOpeningClause g trees clause → IsOpeningClause g more clause
  opening-more clause b l o =
      let below = subst (λ (ks : List ℕ). AreBelow (length trees) ks) o.premises b in
      let whole = sym (tree-more trees added o.whole (All-head (λ (i : ℕ). i < length trees) o.whole o.rest below)) in
      let rest = sym (trees-more trees added o.rest (All-tail (λ (i : ℕ). i < length trees) o.whole o.rest below)) in
      let gives = sym (tree-more trees added clause.gives l) in
      record {
        whole = o.whole;
        rest = o.rest;
        premises = o.premises;
        opening = subst (λ (t : Tree). IsOpening g (tree_at more o.whole) (trees_at more o.rest) t) gives
            (subst (λ (ts : List Tree). IsOpening g (tree_at more o.whole) ts (tree_at trees clause.gives)) rest
            (subst (λ (h : Tree). IsOpening g h (trees_at trees o.rest) (tree_at trees clause.gives)) whole o.opening));
      }

  pub numbered-more : (clause : Clause) → IsNumbered g trees clause → IsNumbered g more clause
  numbered-more clause n = record {
    below = All-weaker (λ (i : ℕ). i < length trees) (λ (i : ℕ). i < length more) below-more (premises_of clause.line) n.below;
    gives_below = below-more clause.gives n.gives_below;
    kind = kind n.kind;
    line = subst (λ (t : Tree). IsLineOn g more clause.line t) gives (line-more clause.line (tree_at trees clause.gives) n.below n.line);
  } where
    gives : tree_at trees clause.gives ≡ tree_at more clause.gives
    gives = sym (tree-more trees added clause.gives n.gives_below)

    kind : IsMaking g (trees_at trees (premises_of clause.line)) (tree_at trees clause.gives) ⊎ IsOpeningClause g trees clause
        → IsMaking g (trees_at more (premises_of clause.line)) (tree_at more clause.gives) ⊎ IsOpeningClause g more clause
    kind (inl m) =
        inl (subst (λ (t : Tree). IsMaking g (trees_at more (premises_of clause.line)) t) gives
        (subst (λ (ts : List Tree). IsMaking g ts (tree_at trees clause.gives)) (sym (trees-more trees added (premises_of clause.line) n.below)) m))
    kind (inr o) = inr (opening-more clause n.below n.gives_below o)

  has-more : (clauses : List Clause) (ts : List Tree) (t : Tree) → AreNumbered g trees clauses → HasClause trees clauses ts t → HasClause more clauses ts t
  has-more clauses ts t all h =
      let n = all h.index h.clause h.at in
      record {
        index = h.index;
        clause = h.clause;
        at = h.at;
        asks = trees-more trees added (premises_of h.clause.line) n.below ∙ h.asks;
        gives = tree-more trees added h.clause.gives n.gives_below ∙ h.gives;
      }

  pub brought-more : (terms : List ℕ) (closure : Closure) (n : ℕ) → ((k m : ℕ) → slice_get terms k ≡ Some m → m < length trees) → AreNumbered g trees closure.clauses → n < length trees
      → IsBrought g trees terms closure n → IsBrought g more terms closure n
  brought-more terms closure n below all l b =
      let e = tree-more trees added n l in
      record {
        parts = λ f us u q a.
            let p = b.parts f us u (sym e ∙ q) a in
            (p.0, p.1, tree-more trees added p.0 (below p.1.0 p.0 p.1.1) ∙ p.2);
        makings = λ ts m.
            subst (λ (t : Tree). HasClause more closure.clauses ts t) (sym e)
            (has-more closure.clauses ts (tree_at trees n) all (b.makings ts (subst (λ (t : Tree). IsMaking g ts t) e m)));
        openings = λ rest t o.
            subst (λ (h : Tree). HasClause more closure.clauses (h ∷ rest) t) (sym e)
            (has-more closure.clauses (tree_at trees n ∷ rest) t all (b.openings rest t (subst (λ (h : Tree). IsOpening g h rest t) e o)));
      }

-- what holds of all these numbers
pub all-numbers : (P : ℕ → Type 0) (ks : List ℕ) → ((k n : ℕ) → slice_get ks k ≡ Some n → P n) → All P ks
all-numbers P [] h = All-nil P
all-numbers P (n ∷ ks) h = All-cons P n ks (h 0 n refl) (all-numbers P ks (λ k m e. h (suc k) m e))

module _ (s : Shared) (entries terms : List ℕ) (brought given : ℕ) (closure : Closure) (openers : Openers) (state : IsStateOf s entries terms brought given closure openers) where
  state_more : (added : List Tree) → IsStateOf (record { sig = s.sig; trees = s.trees ++ added }) entries terms brought given closure openers
  state_more added = record {
    terms_are = λ k n e. term-more s.sig s.trees added n (state.terms_are k n e);
    entries_are = state.entries_are;
    brought_within = state.brought_within;
    brought_are = λ k n l e.
        brought-more s.sig s.trees added terms closure n (λ j m q. (state.terms_are j m q).below) state.numbered (state.terms_are k n e).below (state.brought_are k n l e);
    numbered = λ c k e. numbered-more s.sig s.trees added k (state.numbered c k e);
    closed = state.closed;
    given_are = state.given_are;
    given_within = state.given_within;
    given_known = state.given_known;
    openers_are = state.openers_are;
  }

  -- the table has grown
  pub state-grown : (t : Shared) → Keeps s t → IsStateOf t entries terms brought given closure openers
  state-grown t k =
      let grown : record { sig = s.sig; trees = s.trees ++ k.added } ≡ t = λ i. record { sig = sym k.sig i; trees = sym k.trees i } in
      subst (λ (u : Shared). IsStateOf u entries terms brought given closure openers) grown (state_more k.added)

  -- terms have come
  pub state-listed : (later : List ℕ) → ((k m : ℕ) → slice_get terms k ≡ Some m → slice_get later k ≡ Some m) → ((m : ℕ) → IsListed later m → IsListed terms m ⊎ IsTerm s.sig s.trees m)
      → IsStateOf s entries later brought given closure openers
  state-listed later places only = record {
    terms_are = λ k n e. elim (only n (k, e)) [ inl l ↦ state.terms_are l.0 n l.1 | inr t ↦ t ];
    entries_are = λ k n e. let l = state.entries_are k n e in (l.0, places l.0 n l.1);
    brought_within = within;
    brought_are = λ k n l e. still n (state.brought_are k n l (old k n l e));
    numbered = state.numbered;
    closed = state.closed;
    given_are = state.given_are;
    given_within = state.given_within;
    given_known = state.given_known;
    openers_are = state.openers_are;
  } where
    within : brought ≤ length later
    within = go terms (λ k m e. slice_get_within later k m (places k m e)) state.brought_within where
      go : (xs : List ℕ) → ((k m : ℕ) → slice_get xs k ≡ Some m → k < length later) → brought ≤ length xs → brought ≤ length later
      go [] h l = omega arith
      go (x ∷ xs) h l = let last = got-at (x ∷ xs) (length xs) (omega arith) in let q = h (length xs) last.0 last.1 in omega arith

    old : (k n : ℕ) → k < brought → slice_get later k ≡ Some n → slice_get terms k ≡ Some n
    old k n l e =
        let w = state.brought_within in
        let here = got-at terms k (omega arith) in
        let there = places k here.0 here.1 in
        let same : here.0 ≡ n = cc in
        subst (λ (i : ℕ). slice_get terms k ≡ Some i) same here.1

    still : (n : ℕ) → IsBrought s.sig s.trees terms closure n → IsBrought s.sig s.trees later closure n
    still n b = record {
      parts = λ f us u q a. let p = b.parts f us u q a in (p.0, (p.1.0, places p.1.0 p.0 p.1.1), p.2);
      makings = b.makings;
      openings = b.openings;
    }

  -- the closure has changed
  pub state-closure : (new : Closure) → IsClosure new → AreNumbered s.sig s.trees new.clauses → ((c : ℕ) (k : Clause) → slice_get closure.clauses c ≡ Some k → slice_get new.clauses c ≡ Some k)
      → ((n : ℕ) → IsListed closure.known n → IsListed new.known n) → ((n : ℕ) → IsGiven new n → IsListed entries n) → IsStateOf s entries terms brought given new openers
  state-closure new closed numbered kept known gives = record {
    terms_are = state.terms_are;
    entries_are = state.entries_are;
    brought_within = state.brought_within;
    brought_are = λ k n l e.
        let b = state.brought_are k n l e in
        record {
          parts = b.parts;
          makings = λ ts m. has ts (tree_at s.trees n) (b.makings ts m);
          openings = λ rest t o. has (tree_at s.trees n ∷ rest) t (b.openings rest t o);
        };
    numbered = numbered;
    closed = closed;
    given_are = gives;
    given_within = state.given_within;
    given_known = λ k n l e. known n (state.given_known k n l e);
    openers_are = state.openers_are;
  } where
    has : (ts : List Tree) (t : Tree) → HasClause s.trees closure.clauses ts t → HasClause s.trees new.clauses ts t
    has ts t h = record { index = h.index; clause = h.clause; at = kept h.index h.clause h.at; asks = h.asks; gives = h.gives }

  -- clauses have come
  pub state-added : (new : Closure) → IsClosure new → AreNumbered s.sig s.trees new.clauses → Adds closure new → IsStateOf s entries terms brought given new openers
  state-added new closed numbered adds =
      state-closure new closed numbered adds.kept
      (λ n l. subst (λ (ks : List ℕ). IsListed ks n) (sym adds.known) l)
      (λ n x. state.given_are n (record {
        rank = x.rank;
        is = subst (λ (ks : List ℕ). slice_get ks x.rank ≡ Some n) adds.known x.is;
        way = subst (λ (ws : List Grounds). slice_get ws x.rank ≡ Some Given) (ap (λ (v : Vec Grounds Global). v.items) adds.ways) x.way;
      }))

  -- more has become known
  pub state-grows : (new : Closure) → IsClosure new → Grows closure new → IsStateOf s entries terms brought given new openers
  state-grows new closed grows =
      state-closure new closed (subst (λ (cs : List Clause). AreNumbered s.sig s.trees cs) (sym grows.clauses) state.numbered)
      (λ c k e. subst (λ (cs : List Clause). slice_get cs c ≡ Some k) (sym grows.clauses) e) (λ n l. (l.0, grows.known l.0 n l.1)) (λ n x. state.given_are n (grows.given n x))

  -- one more term has brought its clauses
  pub state-brought : (n : ℕ) → slice_get terms brought ≡ Some n → IsBrought s.sig s.trees terms closure n → IsStateOf s entries terms (brought + 1) given closure openers
  state-brought n at b = record {
    terms_are = state.terms_are;
    entries_are = state.entries_are;
    brought_within = (let l = slice_get_within terms brought n at in omega arith);
    brought_are = λ k m l e.
        elim (same-or_not k brought) [
          | inl q ↦ let here = subst (λ (i : ℕ). slice_get terms i ≡ Some m) q e in
              let same : n ≡ m = cc in
              subst (λ (i : ℕ). IsBrought s.sig s.trees terms closure i) same b
          | inr q ↦ state.brought_are k m (omega arith) e
        ];
    numbered = state.numbered;
    closed = state.closed;
    given_are = state.given_are;
    given_within = state.given_within;
    given_known = state.given_known;
    openers_are = state.openers_are;
  }

  -- one more entry is known
  pub state-given : (n : ℕ) → slice_get entries given ≡ Some n → IsListed closure.known n → IsStateOf s entries terms brought (given + 1) closure openers
  state-given n at known = record {
    terms_are = state.terms_are;
    entries_are = state.entries_are;
    brought_within = state.brought_within;
    brought_are = state.brought_are;
    numbered = state.numbered;
    closed = state.closed;
    given_are = state.given_are;
    given_within = (let l = slice_get_within entries given n at in omega arith);
    given_known = λ k m l e.
        elim (same-or_not k given) [
          | inl q ↦ let here = subst (λ (i : ℕ). slice_get entries i ≡ Some m) q e in
              let same : n ≡ m = cc in
              subst (λ (i : ℕ). IsListed closure.known i) same known
          | inr q ↦ state.given_known k m (omega arith) e
        ];
    openers_are = state.openers_are;
  }

  -- an entry has come
  pub state-entered : (n : ℕ) → IsListed terms n → IsStateOf s (entries ++ n ∷ []) terms brought given closure openers
  state-entered n listed = record {
    terms_are = state.terms_are;
    entries_are = λ k m e. elim (get-last_cases entries n k m e) [ inl x ↦ state.entries_are k m x | inr x ↦ subst (λ (i : ℕ). IsListed terms i) (sym x.1) listed ];
    brought_within = state.brought_within;
    brought_are = state.brought_are;
    numbered = state.numbered;
    closed = state.closed;
    given_are = λ m x. let l = state.given_are m x in (l.0, get-more entries (n ∷ []) l.0 m l.1);
    given_within = (let l = length-append entries (n ∷ []) in let w = state.given_within in omega arith);
    given_known = λ k m l e.
        elim (get-last_cases entries n k m e) [ inl x ↦ state.given_known k m l x | inr x ↦ (let w = state.given_within in absurd (omega (arith, x.0))) ];
    openers_are = state.openers_are;
  }

  -- the entries' terms are as they were
  pub entries-stay : (t : Shared) → Keeps s t → trees_at t.trees entries ≡ trees_at s.trees entries
  entries-stay t k = ap (λ (ts : List Tree). trees_at ts entries) k.trees ∙ trees-more s.trees k.added entries below where
    below : AreBelow (length s.trees) entries
    below = all-numbers (λ (i : ℕ). i < length s.trees) entries (λ i n e. let l = state.entries_are i n e in (state.terms_are l.0 n l.1).below)

-- nothing was written
pub keeps-same : (s : Shared) → Keeps s s
keeps-same s = record { sig = refl; added = []; trees = append-none s.trees }

pub keeps-then : (s t u : Shared) → Keeps s t → Keeps t u → Keeps s u
keeps-then s t u a b = record {
  sig = b.sig ∙ a.sig;
  added = a.added ++ b.added;
  trees = b.trees ∙ ap (λ (ts : List Tree). ts ++ b.added) a.trees ∙ simp append_assoc;
}

-- a search stays itself, and what stays in turn stays
pub stays-same : (s : State) → Stays s s
stays-same s = record { table = keeps-same s.table; entries = refl; terms = λ n l. l }

pub stays-then : (s t u : State) → Stays s t → Stays t u → Stays s u
stays-then s t u a b = record {
  table = keeps-then s.table t.table u.table a.table b.table;
  entries = b.entries ∙ a.entries;
  terms = λ n l. b.terms n (a.terms n l);
}

-- what is seen of a search stays
pub seen-stays : (old new : State) → IsState old → Stays old new → seen new ≡ seen old
seen-stays old new state stays =
    let trees = ap (λ (es : List ℕ). trees_at new.table.trees es) stays.entries ∙ entries-stay old.table old.entries old.terms old.brought old.given old.closure old.openers state new.table stays.table in
    λ i. record { sig = stays.table.sig i; entries = trees i }

-- where an entry was put last or refused, it is a state
pub state-pushed : {T E : Type 0} (r : Result T E) (s : Shared) (entries more terms : List ℕ) (brought given : ℕ) (closure : Closure) (openers : Openers) (n : ℕ)
    → IsStateOf s entries terms brought given closure openers → IsListed terms n → OnOk r (more ≡ entries ++ n ∷ []) → OnErr r (more ≡ entries) → IsStateOf s more terms brought given closure openers
state-pushed (Ok t) s entries later terms brought given closure openers n state listed e f =
    subst (λ (es : List ℕ). IsStateOf s es terms brought given closure openers) (sym e) (state-entered s entries terms brought given closure openers state n listed)
state-pushed (Err t) s entries later terms brought given closure openers n state listed e f =
    subst (λ (es : List ℕ). IsStateOf s es terms brought given closure openers) (sym f) state

-- what is seen of a search that got an entry
pub seen-entered : (old new : State) (n : ℕ) (t : Tree) (v : Searched) → new.table ≡ old.table → new.entries ≡ old.entries ++ n ∷ [] → tree_at old.table.trees n ≡ t → seen old ≡ v
    → seen new ≡ record { sig = v.sig; entries = v.entries ++ t ∷ [] }
seen-entered old new n t v table entries tree is =
    let trees : trees_at new.table.trees new.entries ≡ trees_at old.table.trees (old.entries ++ n ∷ []) =
    ap (λ (x : Shared). trees_at x.trees new.entries) table ∙ ap (λ (es : List ℕ). trees_at old.table.trees es) entries in
    let pushed : trees_at old.table.trees (old.entries ++ n ∷ []) ≡ trees_at old.table.trees old.entries ++ tree_at old.table.trees n ∷ [] = rw map_push refl in
    let whole : trees_at new.table.trees new.entries ≡ v.entries ++ t ∷ [] =
    trees ∙ pushed ∙ ap (λ (u : Tree). trees_at old.table.trees old.entries ++ u ∷ []) tree ∙ ap (λ (x : Searched). x.entries ++ t ∷ []) is in
    let sig : new.table.sig ≡ v.sig = ap (λ (x : Shared). x.sig) table ∙ ap (λ (x : Searched). x.sig) is in
    λ i. record { sig = sig i; entries = whole i }

-- of one that got none
pub seen-same : (old new : State) (v : Searched) → new.table ≡ old.table → new.entries ≡ old.entries → seen old ≡ v → seen new ≡ v
seen-same old new v table entries is =
    let trees : trees_at new.table.trees new.entries ≡ trees_at old.table.trees old.entries = ap (λ (x : Shared). trees_at x.trees new.entries) table ∙ ap (λ (es : List ℕ). trees_at old.table.trees es) entries in
    let same : seen new ≡ seen old = λ i. record { sig = ap (λ (x : Shared). x.sig) table i; entries = trees i } in
    same ∙ is

-- a number means what it meant
pub tree-kept : (s t : Shared) (n : ℕ) → Keeps s t → n < length s.trees → tree_at t.trees n ≡ tree_at s.trees n
tree-kept s t n k l = ap (λ (ts : List Tree). tree_at ts n) k.trees ∙ tree-more s.trees k.added n l
