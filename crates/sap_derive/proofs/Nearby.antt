-- What a derivation needs stands in an entry or in the goal.
use Rattle.std.proofs.Common.{◌≡◌, ◌<◌, ◌≤◌, ℕ, zero, suc, List, [], ◌∷◌, length, Some, refl, sym, ap, ◌∙◌, ◌⊎◌, inl, inr, arith, subst}
use Rattle.std.specs.Prelude.{slice_get, Contains}
use Rattle.std.proofs.lemmas.List.Elements.{All-contains}
use Rattle.std.proofs.lemmas.Option.{slice_get_within}
use Rattle.sap_terms.proofs.PlainLaws.Items.{contains_got, cons_cases, later_item}
use Rattle.sap_terms.specs.Tree.{Tree, apply, Trees, none, more, trees_of}
use Rattle.sap_terms.specs.Equations.{app1, app2, pair_name, senc_name, aenc_name, pk_name, reveal_sign_name}
use Rattle.sap_terms.specs.Signature.{Sig}
use Rattle.sap_share.specs.Shared.{Shared, tree_at, trees_at, HaveOneNumber}
use Rattle.sap_derive.specs.code.Lines.{premises_of}
use Rattle.sap_derive.specs.code.Clauses.{IsMaking, writes, composes, IsOpening, takes_first, takes_second, decrypts, decrypts_by_secret, reads_signed, IsOpeningClause}
use Rattle.sap_derive.specs.code.Closed.{IsStep}
use Rattle.sap_derive.specs.code.Listed.{IsListed}
use Rattle.sap_derive.specs.code.Needed.{IsNeeded, goal_itself, premise}
use Rattle.sap_derive.specs.code.States.{IsStateOf}
use Rattle.sap_derive.specs.declared.clause.Clause.{Clause}
use Rattle.sap_derive.specs.declared.closure.Closure.{Closure}
use Rattle.sap_derive.specs.declared.openers.Openers.{Openers}
use Rattle.sap_derive.specs.declared.grounds.Grounds.{Grounds}
use Rattle.sap_derive.specs.declared.grounds.Grounds.TheVariants.{Given, By}
use Rattle.sap_derive.specs.Near.{IsAmong, first_one, other, IsSubterm, whole, within, IsNear}
use Rattle.sap_derive.proofs.Completed.{got-at, all-trees, known-below}
use Rattle.sap_derive.proofs.Nearness.{part-stands, near-parts, near-goal}
use Rattle.sap_derive.proofs.Parts.{tree-got, among-got}

-- one of the terms under the symbol of the other
abbrev IsPart : Tree → Tree → Type 0
IsPart t h = (f : List ℕ) × (us : Trees) × (h ≡ apply f us) × IsAmong t us

among-at : (ts : List Tree) (k : ℕ) (u : Tree) → slice_get ts k ≡ Some u → IsAmong u (trees_of ts)
among-at [] k u e = absurd (cc)
among-at (t ∷ ts) zero u e = let s : t ≡ u = cc in subst (λ (x : Tree). IsAmong x (trees_of (t ∷ ts))) s first_one
among-at (t ∷ ts) (suc k) u e = other (among-at ts k u e)

-- what a term is opened to is a part of it, and what it is opened with stands in it
opened-part : (g : Sig) (h : Tree) (rest : List Tree) (t : Tree) → IsOpening g h rest t → IsPart t h
opened-part g _ _ _ (takes_first x y can) = (pair_name, more x (more y none), refl, first_one)
opened-part g _ _ _ (takes_second x y can) = (pair_name, more x (more y none), refl, other first_one)
opened-part g _ _ _ (decrypts m k on can) = (senc_name, more m (more k none), refl, first_one)
opened-part g _ _ _ (decrypts_by_secret m k on can) = (aenc_name, more m (more (app1 pk_name k) none), refl, first_one)
opened-part g _ _ _ (reads_signed m k on can) = (reveal_sign_name, more m (more k none), refl, first_one)

only-one : (P : Tree → Type 0) (x : Tree) (i : ℕ) (u : Tree) → slice_get (x ∷ []) i ≡ Some u → P x → P u
only-one P x zero u e p = let s : x ≡ u = cc in subst P s p
only-one P x (suc i) u e p = absurd (cc)

rest-stands : (g : Sig) (h : Tree) (rest : List Tree) (t : Tree) → IsOpening g h rest t → (i : ℕ) (u : Tree) → slice_get rest i ≡ Some u → IsSubterm u h
rest-stands g _ _ _ (takes_first x y can) i u e = absurd (cc)
rest-stands g _ _ _ (takes_second x y can) i u e = absurd (cc)
rest-stands g _ _ _ (decrypts m k on can) i u e = only-one (λ (v : Tree). IsSubterm v (app2 senc_name m k)) k i u e (within (other first_one) whole)
rest-stands g _ _ _ (decrypts_by_secret m k on can) i u e =
    only-one (λ (v : Tree). IsSubterm v (app2 aenc_name m (app1 pk_name k))) k i u e (within (other first_one) (within first_one whole))
rest-stands g _ _ _ (reads_signed m k on can) i u e = absurd (cc)

-- what a term is made of is a part of it, and each part of it is such
made-part : (g : Sig) (ts : List Tree) (h : Tree) → IsMaking g ts h → (k : ℕ) (u : Tree) → slice_get ts k ≡ Some u → IsPart u h
made-part g _ _ (writes n) k u e = absurd (cc)
made-part g _ _ (composes f ts can) k u e = (f, trees_of ts, refl, among-at ts k u e)

made-number : (g : Sig) (trees : List Tree) (ks : List ℕ) (ts : List Tree) (h t : Tree) → ts ≡ trees_at trees ks → IsMaking g ts h → IsPart t h
    → (k n : ℕ) × (slice_get ks k ≡ Some n) × (tree_at trees n ≡ t)
made-number g trees ks _ _ t q (writes n) p = let e = p.2 in absurd (cc)
made-number g trees ks _ _ t q (composes f ts can) p =
    let e = p.2 in
    let same : p.1 ≡ trees_of ts = cc in
    among-got trees ks p.1 t (same ∙ ap trees_of q) p.3

subterm-of : (t u v : Tree) → IsSubterm t u → IsSubterm u v → IsSubterm t v
subterm-of t u _ s whole = s
subterm-of t u _ s (within {u = w} i r) = within i (subterm-of t u w s r)

module _ (s : Shared) (entries terms : List ℕ) (brought given : ℕ) (closure : Closure) (openers : Openers) (state : IsStateOf s entries terms brought given closure openers)
    (numbers : HaveOneNumber s.trees (length s.trees)) where
  abbrev frame : List Tree
  frame = trees_at s.trees entries

  abbrev term : ℕ → Tree
  term n = tree_at s.trees n

  -- it stands in an entry
  abbrev InEntry : Tree → Type 0
  InEntry t = (u : Tree) × Contains frame u × IsSubterm t u

  -- it was made of what became known before
  record IsMadeAt (rank n : ℕ) : Type 0 where
    clause : Clause
    making : IsMaking s.sig (trees_at s.trees (premises_of clause.line)) (term n)
    before : (k m : ℕ) → slice_get (premises_of clause.line) k ≡ Some m → (j : ℕ) × (j < rank) × (slice_get closure.known j ≡ Some m)

  -- what is opened to something new wasn't made
  not-made : (rank c : ℕ) (step : IsStep closure.clauses closure.known rank c) (o : IsOpeningClause s.sig s.trees step.clause) (j : ℕ) → j < rank → IsMadeAt j o.whole → ⊥
  not-made rank c step o j l made =
      let part = opened-part s.sig (term o.whole) (trees_at s.trees o.rest) (term step.clause.gives) o.opening in
      let got = made-number s.sig s.trees (premises_of made.clause.line) (trees_at s.trees (premises_of made.clause.line)) (term o.whole) (term step.clause.gives) refl made.making part in
      let i = made.before got.0 got.1 got.2 in
      let below = known-below s entries terms brought given closure openers state in
      let same : got.1 ≡ step.clause.gives = numbers got.1 step.clause.gives (below got.1 (i.0, i.2)) (below step.clause.gives (rank, step.gives)) got.3 in
      let r = state.closed.sound.once i.0 rank step.clause.gives (subst (λ (x : ℕ). slice_get closure.known i.0 ≡ Some x) same i.2) step.gives in
      let h = i.1 in
      absurd (omega arith)

  whole-stands : (rank c : ℕ) (step : IsStep closure.clauses closure.known rank c) (o : IsOpeningClause s.sig s.trees step.clause)
      → ((j m : ℕ) → j < rank → slice_get closure.known j ≡ Some m → InEntry (term m) ⊎ IsMadeAt j m) → InEntry (term o.whole)
  whole-stands rank c step o how_before =
      let p = step.before 0 o.whole (subst (λ (ks : List ℕ). slice_get ks 0 ≡ Some o.whole) (sym o.premises) refl) in
      elim (how_before p.0 o.whole p.1 p.2) [ inl i ↦ i | inr made ↦ absurd (not-made rank c step o p.0 p.1 made) ]

  -- what is known stands in an entry, or was made
  how : (bound rank n : ℕ) → rank < bound → slice_get closure.known rank ≡ Some n → InEntry (term n) ⊎ IsMadeAt rank n
  how zero rank n l e = absurd (omega arith)
  how (suc bound) rank n l e = at (λ j m b q. how bound j m (omega (arith, b, l)) q) (got-at closure.ways.items rank there) where
    there : rank < length closure.ways.items
    there = (let b = slice_get_within closure.known rank n e in let c = state.closed.sound.count in omega arith)

    at : ((j m : ℕ) → j < rank → slice_get closure.known j ≡ Some m → InEntry (term m) ⊎ IsMadeAt j m) → (w : Grounds) × (slice_get closure.ways.items rank ≡ Some w) → InEntry (term n) ⊎ IsMadeAt rank n
    at how_before (Given, w) =
        let entry = state.given_are n (record { rank = rank; is = e; way = w }) in
        inl (term n, contains_got frame (term n) entry.0 (tree-got s.trees entries entry.0 n entry.1), whole)
    at how_before (By c, w) =
        let step = state.closed.sound.steps rank c w in
        let here = step.gives in
        let number : step.clause.gives ≡ n = cc in
        elim ((state.numbered c step.clause step.is).kind) [
          | inl m ↦ inr (record {
            clause = step.clause;
            making = subst (λ (i : ℕ). IsMaking s.sig (trees_at s.trees (premises_of step.clause.line)) (term i)) number m;
            before = step.before;
          })
          | inr o ↦ inl (
              let stands = whole-stands rank c step o how_before in
              let part = opened-part s.sig (term o.whole) (trees_at s.trees o.rest) (term step.clause.gives) o.opening in
              (stands.0, stands.1, subst (λ (i : ℕ). IsSubterm (term i) stands.0) number (part-stands part.0 part.1 (term step.clause.gives) (term o.whole) stands.0 part.2 part.3 stands.2)))
        ]

  module _ (goal aim : ℕ) (at_goal : slice_get closure.known goal ≡ Some aim) where
    abbrev Near : Tree → Type 0
    Near = IsNear frame (term aim)

    near-entry : (t : Tree) → InEntry t → Near t
    near-entry t i = record { above = i.0; among = later_item (term aim) frame i.0 i.1; stands = i.2 }

    near-opened : (rank c : ℕ) (step : IsStep closure.clauses closure.known rank c) (o : IsOpeningClause s.sig s.trees step.clause) (place n : ℕ)
        → slice_get (o.whole ∷ o.rest) place ≡ Some n → Near (term n)
    near-opened rank c step o place n e = go place e where
      stands : InEntry (term o.whole)
      stands = whole-stands rank c step o (λ j m b q. how rank j m b q)

      go : (k : ℕ) → slice_get (o.whole ∷ o.rest) k ≡ Some n → Near (term n)
      go zero q = let same : o.whole ≡ n = cc in subst (λ (i : ℕ). Near (term i)) same (near-entry (term o.whole) stands)
      go (suc i) q =
          let inside = rest-stands s.sig (term o.whole) (trees_at s.trees o.rest) (term step.clause.gives) o.opening i (term n) (tree-got s.trees o.rest i n q) in
          near-entry (term n) (stands.0, stands.1, subterm-of (term n) (term o.whole) stands.0 inside stands.2)

    near-made : (ks : List ℕ) (h : Tree) → IsMaking s.sig (trees_at s.trees ks) h → Near h → (k n : ℕ) → slice_get ks k ≡ Some n → Near (term n)
    near-made ks h m above k n q =
        let part = made-part s.sig (trees_at s.trees ks) h m k (term n) (tree-got s.trees ks k n q) in
        near-parts s.sig [] frame (term aim) part.0 part.1 (term n) (subst Near part.2 above) part.3

    -- what is needed is near
    pub near : (rank : ℕ) → IsNeeded closure entries goal rank → (n : ℕ) → slice_get closure.known rank ≡ Some n → Near (term n)
    near _ goal_itself n e = let same : aim ≡ n = cc in subst (λ (i : ℕ). Near (term i)) same (near-goal s.sig [] frame (term aim))
    near _ (premise rank j need on) n e =
        let above = near rank need on.by.number on.by.at in
        let step = state.closed.sound.steps rank on.by.index on.by.way in
        let a = step.is in
        let b = on.by.is in
        let same : on.clause ≡ step.clause = cc in
        let x = on.by.at in
        let y = step.gives in
        let number : on.by.number ≡ step.clause.gives = cc in
        let z = on.at in
        let this : on.number ≡ n = cc in
        let q : slice_get (premises_of step.clause.line) on.place ≡ Some n =
        subst (λ (i : ℕ). slice_get (premises_of step.clause.line) on.place ≡ Some i) this (subst (λ (k : Clause). slice_get (premises_of k.line) on.place ≡ Some on.number) same on.premise) in
        elim ((state.numbered on.by.index step.clause step.is).kind) [
          | inl m ↦ near-made (premises_of step.clause.line) (term step.clause.gives) m (subst (λ (i : ℕ). Near (term i)) number above) on.place n q
          | inr o ↦ near-opened rank on.by.index step o on.place n (subst (λ (ks : List ℕ). slice_get ks on.place ≡ Some n) o.premises q)
        ]

    module _ (all_brought : length terms ≤ brought) (goal_listed : IsListed terms aim) where
      -- the terms that have numbers in the list
      abbrev A : Tree → Type 0
      A t = (n : ℕ) × IsListed terms n × (term n ≡ t)

      subterm-listed : (t u : Tree) → IsSubterm t u → A u → A t
      subterm-listed t _ whole a = a
      subterm-listed t _ (within {f = f} {ts = ts} {u = u} i r) a =
          let l = slice_get_within terms a.1.0 a.0 a.1.1 in
          let b = state.brought_are a.1.0 a.0 (omega arith) a.1.1 in
          let p = b.parts f ts u a.2 i in
          subterm-listed t u r (p.0, p.1, p.2)

      -- what is near and known is among the terms
      pub near-listed : (n : ℕ) → IsListed closure.known n → Near (term n) → IsListed terms n
      near-listed n l a =
          let above : A a.above = elim (cons_cases (term aim) frame a.above a.among) [
            | inl e ↦ (aim, goal_listed, e)
            | inr c ↦ All-contains A frame a.above (all-trees A s.trees entries (λ k m e. (m, state.entries_are k m e, refl))) c
          ] in
          let here = subterm-listed (term n) a.above a.stands above in
          let same = numbers here.0 n ((state.terms_are here.1.0 here.0 here.1.1).below) (known-below s entries terms brought given closure openers state n l) here.2 in
          subst (λ (i : ℕ). IsListed terms i) same here.1
