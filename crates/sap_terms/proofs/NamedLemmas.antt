-- Items looked up by their places, one item more and one less.
use Rattle.std.proofs.Common.{◌≡◌, ℕ, zero, suc, ◌<◌, arith, Bool, true, false, List, [], ◌∷◌, ◌++◌, length, Option, Some, None, option_map, if◌then◌else◌, cond, unwrap_or, slice_get, refl, ap, sym, ◌∙◌}
use Rattle.std.specs.Str.{bytes_eq}
use Rattle.std.proofs.lemmas.Slice.Eq.{bytes_eq-Decides}
use Rattle.sap_terms.specs.Named.{first_named}
use Rattle.sap_terms.specs.code.Places.{index_of}

-- the first of the two that is there
abbrev or_place : Option ℕ → Option ℕ → Option ℕ
or_place None q = q
or_place (Some k) q = Some k

or_none : (o : Option ℕ) → o ≡ or_place o None
or_none None = refl
or_none (Some k) = refl

module _ {X : Type 0} (name : X → List ℕ) where
  -- where the name has no place, no item has it
  pub find-none : (ss : List X) (n : List ℕ) → index_of name ss n ≡ None → first_named name ss n ≡ None
  find-none [] n e = refl
  find-none (s ∷ ss) n e = by (bytes_eq (name s) n) (index_of name ss n) e (find-none ss n) where
    by : (b : Bool) (o : Option ℕ) → (if b then Some 0 else option_map suc o) ≡ None → (o ≡ None → first_named name ss n ≡ None) → (if b then Some s else first_named name ss n) ≡ None
    by true o e later = cc
    by false None e later = later refl
    by false (Some k) e later = cc

  -- at the name's place stands the first item that has it
  pub find-some : (ss : List X) (n : List ℕ) (k : ℕ) → index_of name ss n ≡ Some k → slice_get ss k ≡ first_named name ss n
  find-some [] n k e = cc
  find-some (s ∷ ss) n k e = by (bytes_eq (name s) n) (index_of name ss n) k e (find-some ss n) where
    by : (b : Bool) (o : Option ℕ) (k : ℕ) → (if b then Some 0 else option_map suc o) ≡ Some k → ((j : ℕ) → o ≡ Some j → slice_get ss j ≡ first_named name ss n) → slice_get (s ∷ ss) k ≡ (if b then Some s else first_named name ss n)
    by true o zero e later = refl
    by true o (suc k) e later = cc
    by false None k e later = cc
    by false (Some j) zero e later = cc
    by false (Some j) (suc k) e later = let same : j ≡ k = cc in later k (ap Some same)

  -- an item that comes last has the last place, unless its name has one
  index_of-push : (ss : List X) (s : X) (n : List ℕ) → index_of name (ss ++ s ∷ []) n ≡ or_place (index_of name ss n) (if bytes_eq (name s) n then Some (length ss) else None)
  index_of-push [] s n = refl
  index_of-push (r ∷ rs) s n = by (bytes_eq (name r) n) (bytes_eq (name s) n) (index_of name rs n) (index_of-push rs s n) where
    by : (b c : Bool) (o : Option ℕ) → index_of name (rs ++ s ∷ []) n ≡ or_place o (if c then Some (length rs) else None)
        → (if b then Some 0 else option_map suc (index_of name (rs ++ s ∷ []) n)) ≡ or_place (if b then Some 0 else option_map suc o) (if c then Some (suc (length rs)) else None)
    by true c o later = refl
    by false true None later = rw later refl
    by false false None later = rw later refl
    by false c (Some k) later = rw later refl

  -- with an item more its name has the place that it had, or else the last
  pub places-push : (places after : List ℕ → Option ℕ) (ss : List X) (s : X) (called : List ℕ) (last first : ℕ) → ((n : List ℕ) → places n ≡ index_of name ss n)
      → called ≡ name s → last ≡ length ss → first ≡ unwrap_or (places called) last
      → ((n : List ℕ) → after n ≡ cond (bytes_eq called n) (Some first) (places n)) → (n : List ℕ) → after n ≡ index_of name (ss ++ s ∷ []) n
  places-push places after ss s called last first tied e f is updates n = by (bytes_eq (name s) n) refl (index_of name ss n) refl where
    put : after n ≡ cond (bytes_eq (name s) n) (Some first) (places n)
    put = updates n ∙ ap (λ (m : List ℕ). cond (bytes_eq m n) (Some first) (places n)) e

    found : bytes_eq (name s) n ≡ true → first ≡ unwrap_or (index_of name ss n) (length ss)
    found d = is ∙ (λ i. unwrap_or (places (e i)) (f i)) ∙ ap (λ (o : Option ℕ). unwrap_or o (length ss)) (tied (name s) ∙ ap (index_of name ss) ((bytes_eq-Decides (name s) n).0 d))

    had : (o : Option ℕ) → Some (unwrap_or o (length ss)) ≡ or_place o (Some (length ss))
    had None = refl
    had (Some k) = refl

    by : (b : Bool) → bytes_eq (name s) n ≡ b → (o : Option ℕ) → index_of name ss n ≡ o → after n ≡ index_of name (ss ++ s ∷ []) n
    by true d o e = put ∙ rw (index_of-push ss s n, d, found d, e) (had o)
    by false d o e = put ∙ rw (index_of-push ss s n, d, tied n, e) (or_none o)

  -- the place of each name is below the length
  pub index_of-below : (ss : List X) (n : List ℕ) (k : ℕ) → index_of name ss n ≡ Some k → k < length ss
  index_of-below [] n k e = cc
  index_of-below (s ∷ ss) n k e = by (bytes_eq (name s) n) (index_of name ss n) k e (index_of-below ss n) where
    by : (b : Bool) (o : Option ℕ) (k : ℕ) → (if b then Some 0 else option_map suc o) ≡ Some k → ((j : ℕ) → o ≡ Some j → j < length ss) → k < suc (length ss)
    by true o zero e later = omega arith
    by true o (suc k) e later = cc
    by false None k e later = cc
    by false (Some j) zero e later = cc
    by false (Some j) (suc k) e later = let same : j ≡ k = cc in let below : k < length ss = later k (ap Some same) in omega (arith, below)

  -- the place of a name, or the length, tells whether it has one
  pub no_place : (ss : List X) (n : List ℕ) (last first : ℕ) → first ≡ unwrap_or (index_of name ss n) (length ss) → last ≡ length ss → first ≡ last → None ≡ index_of name ss n
  no_place ss n last first is f e = by (index_of name ss n) refl where
    by : (o : Option ℕ) → index_of name ss n ≡ o → None ≡ index_of name ss n
    by None p = sym p
    by (Some k) p =
        let below : k < length ss = index_of-below ss n k p in
        let at : first ≡ k = is ∙ ap (λ (o : Option ℕ). unwrap_or o (length ss)) p in
        absurd (omega arith)

  -- the last item's place is taken out where it is the first of its name
  pub places-less : (places after : List ℕ → Option ℕ) (ss rs : List X) (s : X) → ss ≡ rs ++ s ∷ [] → ((n : List ℕ) → places n ≡ index_of name ss n) → places (name s) ≡ Some (length rs)
      → ((n : List ℕ) → after n ≡ cond (bytes_eq (name s) n) None (places n)) → (n : List ℕ) → after n ≡ index_of name rs n
  places-less places after ss rs s whole tied first updates n = by (bytes_eq (name s) n) refl (index_of name rs n) refl where
    was : places n ≡ or_place (index_of name rs n) (if bytes_eq (name s) n then Some (length rs) else None)
    was = tied n ∙ ap (λ us. index_of name us n) whole ∙ index_of-push rs s n

    by : (b : Bool) → bytes_eq (name s) n ≡ b → (o : Option ℕ) → index_of name rs n ≡ o → after n ≡ o
    by true d None e = updates n ∙ rw d refl
    by true d (Some k) e =
        let same : (name s) ≡ n = (bytes_eq-Decides (name s) n).0 d in
        let here : places n ≡ Some k = was ∙ rw e refl in
        let there : places n ≡ Some (length rs) = ap places (sym same) ∙ first in
        let equal : Some k ≡ Some (length rs) = sym here ∙ there in
        let same_place : k ≡ length rs = cc in
        let below : k < length rs = index_of-below rs n k e in
        absurd (omega arith)
    by false d o e = updates n ∙ rw d (was ∙ rw (d, e) (sym (or_none o)))

  -- and stays where it isn't
  pub places-left : (places : List ℕ → Option ℕ) (ss rs : List X) (s : X) → ss ≡ rs ++ s ∷ [] → ((n : List ℕ) → places n ≡ index_of name ss n) → ¬ (places (name s) ≡ Some (length rs))
      → (n : List ℕ) → places n ≡ index_of name rs n
  places-left places ss rs s whole tied later n = by (bytes_eq (name s) n) refl (index_of name rs n) refl where
    was : places n ≡ or_place (index_of name rs n) (if bytes_eq (name s) n then Some (length rs) else None)
    was = tied n ∙ ap (λ us. index_of name us n) whole ∙ index_of-push rs s n

    by : (b : Bool) → bytes_eq (name s) n ≡ b → (o : Option ℕ) → index_of name rs n ≡ o → places n ≡ o
    by true d None e =
        let same : (name s) ≡ n = (bytes_eq-Decides (name s) n).0 d in
        let here : places n ≡ Some (length rs) = was ∙ rw (e, d) refl in
        absurd (later (ap places same ∙ here))
    by b d (Some k) e = was ∙ rw e refl
    by false d None e = was ∙ rw (d, e) refl

  -- so it is where the last item isn't the first of its name
  pub places-again : (places : List ℕ → Option ℕ) (ss rs : List X) (s : X) (last first : ℕ) → ss ≡ rs ++ s ∷ [] → ((n : List ℕ) → places n ≡ index_of name ss n)
      → first ≡ unwrap_or (index_of name rs (name s)) (length rs) → last ≡ length rs → ¬ (first ≡ last) → (n : List ℕ) → places n ≡ index_of name rs n
  places-again places ss rs s last first whole tied is f ne = places-left places ss rs s whole tied (λ h. by (index_of name rs (name s)) refl h) where
    here : places (name s) ≡ or_place (index_of name rs (name s)) (if bytes_eq (name s) (name s) then Some (length rs) else None)
    here = tied (name s) ∙ ap (λ us. index_of name us (name s)) whole ∙ index_of-push rs s (name s)

    by : (o : Option ℕ) → index_of name rs (name s) ≡ o → places (name s) ≡ Some (length rs) → ⊥
    by None p h = ne (is ∙ ap (λ (o : Option ℕ). unwrap_or o (length rs)) p ∙ sym f)
    by (Some k) p h =
        let at : first ≡ k = is ∙ ap (λ (o : Option ℕ). unwrap_or o (length rs)) p in
        let there : Some k ≡ Some (length rs) = sym (here ∙ rw p refl) ∙ h in
        let same : k ≡ length rs = cc in
        ne (at ∙ same ∙ sym f)
