-- The lines that are written give what they say.
use Rattle.std.proofs.Common.{◌≡◌, ◌<◌, ◌≤◌, ◌+◌, ℕ, zero, suc, List, [], ◌∷◌, ◌++◌, length, map, take, Some, refl, sym, ap, ◌∙◌, inl, inr, arith, subst}
use Rattle.std.specs.Prelude.{slice_get}
use Rattle.std.proofs.lemmas.List.{length-append}
use Rattle.sap_terms.specs.Tree.{Tree, public, node_count}
use Rattle.sap_terms.specs.Signature.{Sig}
use Rattle.sap_terms.specs.declared.limits.TheConstants.{MOST_TERM_NODES}
use Rattle.sap_share.specs.Shared.{Shared, tree_at, trees_at, HaveOneNumber}
use Rattle.sap_derive.specs.Lines.{IsLine, writes, applies, Give, no_lines, one_more}
use Rattle.sap_derive.specs.Found.{NoneTwice, NoneInBoth, IsFoundBy}
use Rattle.sap_derive.specs.Near.{IsNear}
use Rattle.sap_derive.specs.code.Clauses.{IsLineOn, written, applied}
use Rattle.sap_derive.specs.code.Listed.{IsListed, StandOnce}
use Rattle.sap_derive.specs.code.Needed.{IsNeeded, ArePlaces, IsLineOver, IsWritten, no_lines as none_written, one_more as one_written}
use Rattle.sap_derive.specs.code.States.{IsStateOf}
use Rattle.sap_derive.specs.declared.closure.Closure.{Closure}
use Rattle.sap_derive.specs.declared.derivation.Derivation.{Derivation}
use Rattle.sap_derive.specs.declared.line.Line.{Line}
use Rattle.sap_derive.specs.declared.openers.Openers.{Openers}
use Rattle.sap_derive.proofs.Completed.{all-trees, known-below}
use Rattle.sap_derive.proofs.Gets.{get-more, get-behind, get-cases, get-last_cases}
use Rattle.sap_derive.proofs.Nearby.{near, near-listed}
use Rattle.sap_derive.proofs.Parts.{tree-got}
use Rattle.sap_derive.proofs.Pushed.{once-more}

-- the trees of two lists
pub trees-append : (trees : List Tree) (xs ys : List ℕ) → trees_at trees (xs ++ ys) ≡ trees_at trees xs ++ trees_at trees ys
trees-append trees [] ys = refl
trees-append trees (x ∷ xs) ys = ap (λ (ts : List Tree). tree_at trees x ∷ ts) (trees-append trees xs ys)

-- a tree of the numbers has one of them
number-got : (trees : List Tree) (ks : List ℕ) (k : ℕ) (t : Tree) → slice_get (trees_at trees ks) k ≡ Some t → (n : ℕ) × (slice_get ks k ≡ Some n) × (tree_at trees n ≡ t)
number-got trees [] k t e = absurd (cc)
number-got trees (n ∷ ks) zero t e = (n, refl, cc)
number-got trees (n ∷ ks) (suc k) t e = number-got trees ks k t e

-- the terms at the places are those of the numbers
places-map : (trees : List Tree) (items numbers places : List ℕ) → ArePlaces items numbers places → map (slice_get (trees_at trees items)) places ≡ map Some (trees_at trees numbers)
places-map trees items [] [] a = refl
places-map trees items [] (p ∷ places) a = let c = a.count in absurd (omega arith)
places-map trees items (n ∷ numbers) [] a = let c = a.count in absurd (omega arith)
places-map trees items (n ∷ numbers) (p ∷ places) a =
    let first = a.each 0 n refl in
    let e = first.1 in
    let same : first.0 ≡ p = cc in
    let here : slice_get (trees_at trees items) p ≡ Some (tree_at trees n) = tree-got trees items p n (subst (λ (i : ℕ). slice_get items i ≡ Some n) same first.2) in
    let c = a.count in
    let rest = places-map trees items numbers places (record { count = omega arith; each = λ k m q. a.each (suc k) m q }) in
    λ i. here i ∷ rest i

-- the line over places gives what the line over numbers gives
line-given : (g : Sig) (trees : List Tree) (items : List ℕ) (l m : Line) (t : Tree) → IsLineOver items l m → IsLineOn g trees l t → node_count t ≤ MOST_TERM_NODES → IsLine g (trees_at trees items) m t
line-given g trees items _ m _ over (written a) w = subst (λ (x : Line). IsLine g (trees_at trees items) x (public a)) (sym over) (writes a)
line-given g trees items _ m _ over (applied f ks t can form) w =
    subst (λ (x : Line). IsLine g (trees_at trees items) x t) (sym over.1)
    (applies f over.0 (trees_at trees ks) t can.public_symbol (can.arity ∙ ap (λ (i : ℕ). Some i) (sym over.2.count)) (places-map trees items ks over.0 over.2) form w)

-- the numbers that lines give: none twice, none an entry, all needed
record AreFound (s : Closure) (entries : List ℕ) (goal : ℕ) (found : List ℕ) : Type 0 where
  once : StandOnce found
  new : (k n : ℕ) → slice_get found k ≡ Some n → ¬ IsListed entries n
  needed : (k n : ℕ) → slice_get found k ≡ Some n → (rank : ℕ) × (slice_get s.known rank ≡ Some n) × IsNeeded s entries goal rank

one-found : (s : Closure) (entries : List ℕ) (goal : ℕ) (found : List ℕ) (m rank : ℕ) → AreFound s entries goal found → IsNeeded s entries goal rank → slice_get s.known rank ≡ Some m → ¬ IsListed (entries ++ found) m
    → AreFound s entries goal (found ++ m ∷ [])
one-found s entries goal found m rank are need known new = record { once = once-more found m are.once none; new = fresh; needed = needed } where
  none : ¬ IsListed found m
  none l = new (length entries + l.0, get-behind entries found l.0 ∙ l.1)

  fresh : (k n : ℕ) → slice_get (found ++ m ∷ []) k ≡ Some n → ¬ IsListed entries n
  fresh k n e =
      elim (get-last_cases found m k n e) [
        | inl x ↦ are.new k n x
        | inr x ↦ λ l. new (l.0, get-more entries found l.0 m (l.1 ∙ ap Some x.1))
      ]

  needed : (k n : ℕ) → slice_get (found ++ m ∷ []) k ≡ Some n → (rank : ℕ) × (slice_get s.known rank ≡ Some n) × IsNeeded s entries goal rank
  needed k n e = elim (get-last_cases found m k n e) [ inl x ↦ are.needed k n x | inr x ↦ (rank, known ∙ ap Some (sym x.1), need) ]

are-found : (s : Closure) (entries : List ℕ) (goal : ℕ) (lines : List Line) (found : List ℕ) → IsWritten s entries goal lines found → AreFound s entries goal found
are-found s entries goal _ _ none_written = record { once = λ i j n a b. absurd (cc); new = λ k n e. absurd (cc); needed = λ k n e. absurd (cc) }
are-found s entries goal _ _ (one_written lines found rank c clause line w need known is new over) =
    one-found s entries goal found clause.gives rank (are-found s entries goal lines found w) need known new

module _ (s : Shared) (entries terms : List ℕ) (brought given : ℕ) (closure : Closure) (openers : Openers) (state : IsStateOf s entries terms brought given closure openers)
    (numbers : HaveOneNumber s.trees (length s.trees)) (all_brought : length terms ≤ brought) (goal aim : ℕ) (at_goal : slice_get closure.known goal ≡ Some aim) (goal_listed : IsListed terms aim) where
  abbrev frame : List Tree
  frame = trees_at s.trees entries

  needed-near : (rank n : ℕ) → IsNeeded closure entries goal rank → slice_get closure.known rank ≡ Some n → IsNear frame (tree_at s.trees aim) (tree_at s.trees n)
  needed-near rank n need e = near s entries terms brought given closure openers state numbers goal aim at_goal rank need n e

  needed-listed : (rank n : ℕ) → IsNeeded closure entries goal rank → slice_get closure.known rank ≡ Some n → IsListed terms n
  needed-listed rank n need e =
      near-listed s entries terms brought given closure openers state numbers goal aim at_goal all_brought goal_listed n (rank, e) (needed-near rank n need e)

  -- what the lines give are among the terms
  pub found-listed : (lines : List Line) (found : List ℕ) → IsWritten closure entries goal lines found → (k n : ℕ) → slice_get found k ≡ Some n → IsListed terms n
  found-listed lines found w k n e = let r = (are-found closure entries goal lines found w).needed k n e in needed-listed r.0 n r.2 r.1

  gives : (lines : List Line) (found : List ℕ) → IsWritten closure entries goal lines found → Give s.sig frame lines (trees_at s.trees found)
  gives _ _ none_written = no_lines
  gives _ _ (one_written lines found rank c clause line w need known is new over) =
      let t : Tree = tree_at s.trees clause.gives in
      let l = needed-listed rank clause.gives need known in
      let possible = line-given s.sig s.trees (entries ++ found) clause.line line t over (state.numbered c clause is).line (state.terms_are l.0 clause.gives l.1).within in
      subst (λ (us : List Tree). Give s.sig frame (lines ++ line ∷ []) us) (sym (trees-append s.trees found (clause.gives ∷ [])))
      (one_more lines (trees_at s.trees found) line t (gives lines found w) (subst (λ (ts : List Tree). IsLine s.sig ts line t) (trees-append s.trees entries found) possible))

  -- the goal is found by the lines
  pub found-by : (d : Derivation) (found : List ℕ) → IsWritten closure entries goal d.lines found → slice_get (entries ++ found) d.entry ≡ Some aim
      → IsFoundBy s.sig frame (tree_at s.trees aim) d (trees_at s.trees found)
  found-by d found w at = record {
    lines = gives d.lines found w;
    goal_is = subst (λ (ts : List Tree). slice_get ts d.entry ≡ Some (tree_at s.trees aim)) (trees-append s.trees entries found) (tree-got s.trees (entries ++ found) d.entry aim at);
    near = all-trees (IsNear frame (tree_at s.trees aim)) s.trees found (λ k n e. let r = are.needed k n e in needed-near r.0 n r.2 r.1);
    once = once;
    new = new;
  } where
    are : AreFound closure entries goal found
    are = are-found closure entries goal d.lines found w

    below : (k n : ℕ) → slice_get found k ≡ Some n → n < length s.trees
    below k n e = let r = are.needed k n e in known-below s entries terms brought given closure openers state n (r.0, r.1)

    once : NoneTwice (trees_at s.trees found)
    once i j t a b =
        let m = number-got s.trees found i t a in
        let n = number-got s.trees found j t b in
        let same = numbers m.0 n.0 (below i m.0 m.1) (below j n.0 n.1) (m.2 ∙ sym n.2) in
        are.once i j n.0 (m.1 ∙ ap Some same) n.1

    new : NoneInBoth (trees_at s.trees found) frame
    new i j t a b =
        let m = number-got s.trees found i t a in
        let n = number-got s.trees entries j t b in
        let l = state.entries_are j n.0 n.1 in
        let same = numbers n.0 m.0 ((state.terms_are l.0 n.0 l.1).below) (below i m.0 m.1) (n.2 ∙ sym m.2) in
        are.new i m.0 m.1 (j, n.1 ∙ ap Some same)

  -- where they are entered, it is a state
  pub state-gained : (found : List ℕ) → ((k n : ℕ) → slice_get found k ≡ Some n → IsListed terms n) → IsStateOf s (entries ++ found) terms brought given closure openers
  state-gained found listed = record {
    terms_are = state.terms_are;
    entries_are = λ k m e. elim (get-cases entries found k m e) [ inl x ↦ state.entries_are k m x | inr x ↦ listed x.0 m x.2 ];
    brought_within = state.brought_within;
    brought_are = state.brought_are;
    numbered = state.numbered;
    closed = state.closed;
    given_are = λ m x. let l = state.given_are m x in (l.0, get-more entries found l.0 m l.1);
    given_within = (let l = length-append entries found in let w = state.given_within in omega arith);
    given_known = λ k m l e.
        elim (get-cases entries found k m e) [ inl x ↦ state.given_known k m l x | inr x ↦ (let w = state.given_within in absurd (omega (arith, x.1))) ];
    openers_are = state.openers_are;
  }

-- the first of two lists, cut out of both
take-first : (xs ys : List ℕ) → take (length xs) (xs ++ ys) ≡ xs
take-first [] [] = refl
take-first [] (y ∷ ys) = refl
take-first (x ∷ xs) ys = ap (λ (zs : List ℕ). x ∷ zs) (take-first xs ys)

pub cut-back : (xs ys zs : List ℕ) (count : ℕ) → zs ≡ xs ++ ys → count ≡ length xs → take count zs ≡ xs
cut-back xs ys zs count e c = rw (e, c) (take-first xs ys)
