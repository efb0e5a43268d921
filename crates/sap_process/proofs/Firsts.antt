-- The first place that has a flaw, and the flaw that counts.
use Rattle.std.proofs.Common.{◌≡◌, ℕ, zero, suc, ◌<◌, ◌≤◌, List, [], ◌∷◌, ◌++◌, Bool, true, false, Option, Some, None, option_map, Result, Ok, Err, length, take, inl, inr, arith, refl, sym, ap, subst, ◌∙◌}
use Rattle.std.specs.Prelude.{◌⊎◌, IsErrOf, get_or, slice_get, nat_lt, if◌then◌else◌}
use Rattle.std.proofs.lemmas.Bool.{cases_lt, lt-ltb, ltb-true}
use Rattle.std.proofs.lemmas.List.{append_assoc, append-nil, length-take-le}
use Rattle.std.proofs.lemmas.Option.{slice_get_within, slice_get-get_or}
use Rattle.sap_terms.specs.Signature.{Sig}
use Rattle.sap_terms.specs.declared.var.Var.{Var}
use Rattle.sap_process.specs.Proc.{Proc}
use Rattle.sap_process.specs.Sites.{Site, sites, sites_in}
use Rattle.sap_process.specs.Flaws.{HasFlaw, IsFlawedIn, IsFirstFlaw, IsWellFormed, rank}
use Rattle.sap_process.specs.code.Tests.{has_flaw, lacking}
use Rattle.sap_process.specs.code.Walks.{clashes, lacked, found_at, found_after, unmet, first_flaw, AreRanked, IsCounted}
use Rattle.sap_process.specs.declared.flaw.Flaw.{Flaw}
use Rattle.sap_process.specs.declared.flaw.Flaw.TheVariants.{BadFunction, ReservedVar, ReservedFact, FactClash, PatternDestructor, Unbound, Rebound, SortClash, ScopeFull}
use Rattle.sap_process.specs.declared.flaw.Ill.{Ill}
use Rattle.sap_process.specs.declared.flaw.Ill.TheVariants.{Mem, At}
use Rattle.sap_process.specs.declared.found.Found.{Found}
use Rattle.sap_process.specs.declared.met.Seen.{Seen}
use Rattle.sap_process.proofs.Flawed.{Kept, flaw-tells, kept-on, kept-none}
use Rattle.sap_process.proofs.OneFlaw.{one_rank}

-- the test of a flaw at a site
abbrev tested : Sig → Seen → Site → Flaw → Bool
tested g m s w = has_flaw g w (clashes m s.body) s.above.scope s.above.locks s.body

-- the place lacks so many of the flaws at most as there are
lacking-most : (g : Sig) (c : Bool) (scope : List Var) (k : ℕ) (p : Proc) (ws : List Flaw) → lacking g c scope k p ws ≤ length ws
lacking-most g c scope k p [] = omega arith
lacking-most g c scope k p (w ∷ ws) = by (has_flaw g w c scope k p) (lacking-most g c scope k p ws) where
  by : (b : Bool) → lacking g c scope k p ws ≤ length ws → (if b then 0 else suc (lacking g c scope k p ws)) ≤ suc (length ws)
  by true l = omega arith
  by false l = omega (arith, l)

-- it has none of these
lacking-none : (g : Sig) (c : Bool) (scope : List Var) (k : ℕ) (p : Proc) (ws : List Flaw) (j : ℕ) (u : Flaw) → j < lacking g c scope k p ws → slice_get ws j ≡ Some u → has_flaw g u c scope k p ≡ false
lacking-none g c scope k p [] j u l e = cc
lacking-none g c scope k p (w ∷ ws) j u l e = by (has_flaw g w c scope k p) refl j l e (lacking-none g c scope k p ws) where
  by : (b : Bool) → has_flaw g w c scope k p ≡ b → (j : ℕ) → j < (if b then 0 else suc (lacking g c scope k p ws)) → slice_get (w ∷ ws) j ≡ Some u
      → ((i : ℕ) (v : Flaw) → i < lacking g c scope k p ws → slice_get ws i ≡ Some v → has_flaw g v c scope k p ≡ false) → has_flaw g u c scope k p ≡ false
  by true d j l e later = absurd (omega (arith, l))
  by false d zero l e later = let same : w ≡ u = cc in subst (λ (z : Flaw). has_flaw g z c scope k p ≡ false) same d
  by false d (suc i) l e later = later i u (omega (arith, l)) e

-- and has the next
lacking-next : (g : Sig) (c : Bool) (scope : List Var) (k : ℕ) (p : Proc) (ws : List Flaw) (u : Flaw) → slice_get ws (lacking g c scope k p ws) ≡ Some u → has_flaw g u c scope k p ≡ true
lacking-next g c scope k p [] u e = cc
lacking-next g c scope k p (w ∷ ws) u e = by (has_flaw g w c scope k p) refl e (lacking-next g c scope k p ws u) where
  by : (b : Bool) → has_flaw g w c scope k p ≡ b → slice_get (w ∷ ws) (if b then 0 else suc (lacking g c scope k p ws)) ≡ Some u
      → (slice_get ws (lacking g c scope k p ws) ≡ Some u → has_flaw g u c scope k p ≡ true) → has_flaw g u c scope k p ≡ true
  by true d e later = let same : w ≡ u = cc in subst (λ (z : Flaw). has_flaw g z c scope k p ≡ true) same d
  by false d e later = later e

-- no place has the flaw, where these places stand before
abbrev NoneFlawed : Sig → Flaw → List Site → List Site → Type 0
NoneFlawed g w before ss = (k : ℕ) (s : Site) → slice_get ss k ≡ Some s → HasFlaw g (before ++ take k ss) s w → ⊥

none-more : (g : Sig) (w : Flaw) (before : List Site) (x : Site) (ss : List Site) → (HasFlaw g before x w → ⊥) → NoneFlawed g w (before ++ x ∷ []) ss → NoneFlawed g w before (x ∷ ss)
none-more g w before x ss here later zero s e f =
    let same : x ≡ s = cc in
    here (subst (λ (xs : List Site). HasFlaw g xs x w) (append-nil before) (subst (λ (z : Site). HasFlaw g (before ++ []) z w) (sym same) f))
none-more g w before x ss here later (suc k) s e f =
    later k s e (subst (λ (xs : List Site). HasFlaw g xs s w) (sym (append_assoc before (x ∷ []) (take k ss))) f)

-- the first place that has the flaw, with its path
record FirstOf (g : Sig) (w : Flaw) (before ss : List Site) (path : List ℕ) : Type 0 where
  place : ℕ
  site : Site
  stands : slice_get ss place ≡ Some site
  flaw : HasFlaw g (before ++ take place ss) site w
  path_is : site.path ≡ path
  first : (k : ℕ) (s : Site) → k < place → slice_get ss k ≡ Some s → HasFlaw g (before ++ take k ss) s w → ⊥

first-more : (g : Sig) (w : Flaw) (before : List Site) (x : Site) (ss : List Site) (path : List ℕ) → (HasFlaw g before x w → ⊥) → FirstOf g w (before ++ x ∷ []) ss path → FirstOf g w before (x ∷ ss) path
first-more g w before x ss path here of = record {
  place = suc of.place;
  site = of.site;
  stands = of.stands;
  flaw = subst (λ (xs : List Site). HasFlaw g xs of.site w) (append_assoc before (x ∷ []) (take of.place ss)) of.flaw;
  path_is = of.path_is;
  first = earlier;
}
  where
    earlier : (k : ℕ) (s : Site) → k < suc of.place → slice_get (x ∷ ss) k ≡ Some s → HasFlaw g (before ++ take k (x ∷ ss)) s w → ⊥
    earlier zero s l e f =
        let same : x ≡ s = cc in
        here (subst (λ (xs : List Site). HasFlaw g xs x w) (append-nil before) (subst (λ (z : Site). HasFlaw g (before ++ []) z w) (sym same) f))
    earlier (suc k) s l e f =
        of.first k s (omega arith) e (subst (λ (xs : List Site). HasFlaw g xs s w) (sym (append_assoc before (x ∷ []) (take k ss))) f)

-- the flaws that are looked for are the first of these
abbrev Begins : List Flaw → List Flaw → Type 0
Begins ws us = (j : ℕ) → j < length us → slice_get us j ≡ slice_get ws j

get-take : (us : List Flaw) (k j : ℕ) → j < k → slice_get (take k us) j ≡ slice_get us j
get-take [] zero j l = refl
get-take [] (suc k) j l = refl
get-take (u ∷ us) zero j l = absurd (omega (arith, l))
get-take (u ∷ us) (suc k) zero l = refl
get-take (u ∷ us) (suc k) (suc j) l = get-take us k j (omega (arith, l))

-- no more flaws are looked for once a place is met
sought-here : (g : Sig) (f : Found) (s : Site) → length (found_at g f s).sought ≡ lacked g f s
sought-here g f s = length-take-le (lacked g f s) f.sought (lacking-most g (clashes f.seen s.body) s.above.scope s.above.locks s.body f.sought)

lacked-most : (g : Sig) (f : Found) (s : Site) → lacked g f s ≤ length f.sought
lacked-most g f s = lacking-most g (clashes f.seen s.body) s.above.scope s.above.locks s.body f.sought

begins-here : (g : Sig) (ws : List Flaw) (f : Found) (s : Site) → Begins ws f.sought → Begins ws (found_at g f s).sought
begins-here g ws f s begins j l =
    let low : j < lacked g f s = subst (λ n. j < n) (sought-here g f s) l in
    get-take f.sought (lacked g f s) j low ∙ begins j (let most = lacked-most g f s in omega (arith, low, most))

-- the facts that were met are noted for each flaw that is looked for
abbrev AreKept : List Flaw → Found → List Site → Type 0
AreKept ws f before = (j : ℕ) (u : Flaw) → j < length f.sought → slice_get ws j ≡ Some u → Kept u f.seen before

-- a flaw that is still looked for isn't at the place
not-here : (g : Sig) (ws : List Flaw) (f : Found) (before : List Site) (s : Site) → Begins ws f.sought → (j : ℕ) (u : Flaw) → j < lacked g f s → slice_get ws j ≡ Some u → tested g f.seen s u ≡ false
not-here g ws f before s begins j u l e =
    let most = lacked-most g f s in
    lacking-none g (clashes f.seen s.body) s.above.scope s.above.locks s.body f.sought j u l (begins j (omega (arith, l, most)) ∙ e)

kept-here : (g : Sig) (ws : List Flaw) (f : Found) (before : List Site) (s : Site) → Begins ws f.sought → AreKept ws f before → AreKept ws (found_at g f s) (before ++ s ∷ [])
kept-here g ws f before s begins kept j u l e =
    let low : j < lacked g f s = subst (λ n. j < n) (sought-here g f s) l in
    let most = lacked-most g f s in
    kept-on g u f.seen before s (kept j u (omega (arith, low, most)) e) (not-here g ws f before s begins j u low e)

-- what a walk finds among places, where these stand before
record Finds (g : Sig) (ws : List Flaw) (before ss : List Site) (f h : Found) : Type 0 where
  less : length h.sought ≤ length f.sought
  none : (j : ℕ) (u : Flaw) → j < length h.sought → slice_get ws j ≡ Some u → NoneFlawed g u before ss
  some : (u : Flaw) → length h.sought < length f.sought → slice_get ws (length h.sought) ≡ Some u → FirstOf g u before ss h.path
  same : length h.sought ≡ length f.sought → h.path ≡ f.path

-- what a walk finds among the places after one, and so from it on
finds-more : (g : Sig) (ws : List Flaw) (before : List Site) (s : Site) (ss : List Site) (f : Found) → Begins ws f.sought → AreKept ws f before
    → Finds g ws (before ++ s ∷ []) ss (found_at g f s) (found_after g (found_at g f s) ss) → Finds g ws before (s ∷ ss) f (found_after g (found_at g f s) ss)
finds-more g ws before s ss f begins kept rest = record {
  less = omega (arith, rest.less, here, most);
  none = λ j u l e. none-more g u before s ss (apart j u (omega (arith, l, rest.less, here)) e) (rest.none j u l e);
  some = λ u l e. by (cases_lt (length h.sought) (lacked g f s)) u l e;
  same = λ e. rest.same (omega (arith, e, rest.less, here, most)) ∙ stays (omega (arith, e, rest.less, here, most));
}
  where
    f1 : Found
    f1 = found_at g f s

    h : Found
    h = found_after g f1 ss

    here : length f1.sought ≡ lacked g f s
    here = sought-here g f s

    most : lacked g f s ≤ length f.sought
    most = lacked-most g f s

    apart : (j : ℕ) (u : Flaw) → j < lacked g f s → slice_get ws j ≡ Some u → HasFlaw g before s u → ⊥
    apart j u l e = (flaw-tells g u f.seen before s (kept j u (omega (arith, l, most)) e)).1 (not-here g ws f before s begins j u l e)

    -- where the place has none of the flaws, the path stays
    stays : lacked g f s ≡ length f.sought → f1.path ≡ f.path
    stays e = path (nat_lt (lacked g f s) (length f.sought)) refl where
      path : (b : Bool) → nat_lt (lacked g f s) (length f.sought) ≡ b → (if b then s.path else f.path) ≡ f.path
      path true d = absurd (let l : lacked g f s < length f.sought = ltb-true (lacked g f s) (length f.sought) d in omega (arith, l, e))
      path false d = refl

    -- and else it is the place's
    moves : lacked g f s < length f.sought → f1.path ≡ s.path
    moves l = ap (λ (b : Bool). if b then s.path else f.path) (lt-ltb (lacked g f s) (length f.sought) l)

    by : (length h.sought < lacked g f s) ⊎ (lacked g f s ≤ length h.sought) → (u : Flaw) → length h.sought < length f.sought → slice_get ws (length h.sought) ≡ Some u → FirstOf g u before (s ∷ ss) h.path
    by (inl low) u l e =
        first-more g u before s ss h.path (apart (length h.sought) u low e) (rest.some u (omega (arith, low, here)) e)
    by (inr high) u l e =
        let equal : length h.sought ≡ lacked g f s = omega (arith, high, rest.less, here) in
        let below : lacked g f s < length f.sought = omega (arith, l, equal) in
        let at : slice_get f.sought (lacked g f s) ≡ Some u = begins (lacked g f s) below ∙ ap (slice_get ws) (sym equal) ∙ e in
        let has : tested g f.seen s u ≡ true = lacking-next g (clashes f.seen s.body) s.above.scope s.above.locks s.body f.sought u at in
        record {
          place = 0;
          site = s;
          stands = refl;
          flaw = subst (λ (xs : List Site). HasFlaw g xs s u) (sym (append-nil before)) ((flaw-tells g u f.seen before s (kept (lacked g f s) u below (ap (slice_get ws) (sym equal) ∙ e))).0 has);
          path_is = sym (rest.same (equal ∙ sym here) ∙ moves below);
          first = λ k t l e f. absurd (omega (arith, l));
        }

finds : (g : Sig) (ws : List Flaw) (before ss : List Site) (f : Found) → Begins ws f.sought → AreKept ws f before → Finds g ws before ss f (found_after g f ss)
finds g ws before [] f begins kept = record {
  less = omega arith;
  none = λ j u l e k s d x. cc;
  some = λ u l e. absurd (omega (arith, l));
  same = λ e. refl;
}
finds g ws before (s ∷ ss) f begins kept =
    finds-more g ws before s ss f begins kept (finds g ws (before ++ s ∷ []) ss (found_at g f s) (begins-here g ws f s begins) (kept-here g ws f before s begins kept))

-- the flaws stand in the order in which they count, none twice, from this rank on
abbrev AreAscending : ℕ → List Flaw → Type 0
AreAscending n [] = Unit {0}
AreAscending n (w ∷ ws) = (n ≤ rank w) × AreAscending (suc (rank w)) ws

rank-from : (n : ℕ) (ws : List Flaw) → AreAscending n ws → (k : ℕ) (w : Flaw) → slice_get ws k ≡ Some w → n ≤ rank w
rank-from n [] up k w e = cc
rank-from n (x ∷ ws) up zero w e = let same : x ≡ w = cc in subst (λ (v : Flaw). n ≤ rank v) same up.0
rank-from n (x ∷ ws) up (suc k) w e =
    let above = rank-from (suc (rank x)) ws up.1 k w e in
    let here = up.0 in
    omega (arith, above, here)

-- what counts before another stands before it
stands-before : (n : ℕ) (ws : List Flaw) → AreAscending n ws → (i j : ℕ) (u w : Flaw) → slice_get ws i ≡ Some u → slice_get ws j ≡ Some w → rank u < rank w → i < j
stands-before n [] up i j u w d e l = cc
stands-before n (x ∷ ws) up zero zero u w d e l = let same : u ≡ w = cc in let r = ap rank same in absurd (omega (arith, l, r))
stands-before n (x ∷ ws) up zero (suc j) u w d e l = omega arith
stands-before n (x ∷ ws) up (suc i) zero u w d e l =
    let same : x ≡ w = cc in
    let r = ap rank same in
    let above = rank-from (suc (rank x)) ws up.1 i u d in
    absurd (omega (arith, l, r, above))
stands-before n (x ∷ ws) up (suc i) (suc j) u w d e l = let less = stands-before (suc (rank x)) ws up.1 i j u w d e l in omega (arith, less)

-- what a walk over all places finds
whole : (g : Sig) (ws : List Flaw) (scope : List Var) (p : Proc) → Finds g ws [] (sites_in scope p) (unmet ws) (found_after g (unmet ws) (sites_in scope p))
whole g ws scope p = finds g ws [] (sites_in scope p) (unmet ws) (λ j l. refl) (λ j u l e. kept-none u)

abbrev found_in : Sig → List Flaw → List Var → Proc → Found
found_in g ws scope p = found_after g (unmet ws) (sites_in scope p)

no-flaw : (g : Sig) (ws : List Flaw) (scope : List Var) (p : Proc) (i : ℕ) (u : Flaw) → i < length (found_in g ws scope p).sought → slice_get ws i ≡ Some u → (k : ℕ)
    → ¬ IsFlawedIn g scope p u k
no-flaw g ws scope p i u l e k f = (whole g ws scope p).none i u l e k f.site f.stands f.flaw

-- where no flaw is found, no place has one of these
pub none-found : (g : Sig) (ws : List Flaw) (scope : List Var) (p : Proc) → first_flaw g ws (sites_in scope p) ≡ None → (i : ℕ) (u : Flaw) → slice_get ws i ≡ Some u → (k : ℕ)
    → ¬ IsFlawedIn g scope p u k
none-found g ws scope p h i u e k = by (slice_get ws (length (found_in g ws scope p).sought)) refl h where
  past : slice_get ws (length (found_in g ws scope p).sought) ≡ None → ¬ IsFlawedIn g scope p u k
  past d = no-flaw g ws scope p i u (all (cases_lt (length (found_in g ws scope p).sought) (length ws))) e k where
    all : (length (found_in g ws scope p).sought < length ws) ⊎ (length ws ≤ length (found_in g ws scope p).sought) → i < length (found_in g ws scope p).sought
    all (inl low) = absurd (let some : slice_get ws (length (found_in g ws scope p).sought) ≡ Some (get_or ws (length (found_in g ws scope p).sought) u) = slice_get-get_or ws (length (found_in g ws scope p).sought) u low in cc)
    all (inr high) = let l : i < length ws = slice_get_within ws i u e in omega (arith, high, l)

  by : (o : Option Flaw) → slice_get ws (length (found_in g ws scope p).sought) ≡ o → option_map {U = Flaw × List ℕ} (λ (w : Flaw). (w, (found_in g ws scope p).path)) o ≡ None
      → ¬ IsFlawedIn g scope p u k
  by None d n = past d
  by (Some w) d n = cc

abbrev flaw_in : Flaw → Option (Flaw × List ℕ) → Flaw
flaw_in w None = w
flaw_in w (Some found) = found.0

abbrev path_in : Option (Flaw × List ℕ) → List ℕ
path_in None = []
path_in (Some found) = found.1

-- of these flaws it counts, and this is the path of its first place
pub record IsFirstOf (g : Sig) (ws : List Flaw) (scope : List Var) (p : Proc) (w : Flaw) (path : List ℕ) : Type 0 where
  pub index : ℕ
  pub among : slice_get ws index ≡ Some w
  pub place : ℕ
  pub at : IsFlawedIn g scope p w place
  pub path_is : at.site.path ≡ path
  pub first : (k : ℕ) → k < place → ¬ IsFlawedIn g scope p w k
  pub least : (i : ℕ) (u : Flaw) → slice_get ws i ≡ Some u → rank u < rank w → (k : ℕ) → ¬ IsFlawedIn g scope p u k

-- the flaw that is found among some that stand in the order in which they count is that one
pub some-found : (g : Sig) (n : ℕ) (ws : List Flaw) → AreAscending n ws → (scope : List Var) (p : Proc) (w : Flaw) (path : List ℕ) → first_flaw g ws (sites_in scope p) ≡ Some (w, path)
    → IsFirstOf g ws scope p w path
some-found g n ws up scope p w path h = by (slice_get ws (length (found_in g ws scope p).sought)) refl h where
  at : slice_get ws (length (found_in g ws scope p).sought) ≡ Some w → (found_in g ws scope p).path ≡ path → IsFirstOf g ws scope p w path
  at e same =
      let below : length (found_in g ws scope p).sought < length ws = slice_get_within ws (length (found_in g ws scope p).sought) w e in
      let of = (whole g ws scope p).some w below e in
      record {
        index = length (found_in g ws scope p).sought;
        among = e;
        place = of.place;
        at = record { site = of.site; stands = of.stands; flaw = of.flaw };
        path_is = of.path_is ∙ same;
        first = λ k l f. of.first k f.site l f.stands f.flaw;
        least = λ i u d l. no-flaw g ws scope p i u (stands-before n ws up i (length (found_in g ws scope p).sought) u w d e l) d;
      }

  by : (o : Option Flaw) → slice_get ws (length (found_in g ws scope p).sought) ≡ o → option_map {U = Flaw × List ℕ} (λ (v : Flaw). (v, (found_in g ws scope p).path)) o ≡ Some (w, path)
      → IsFirstOf g ws scope p w path
  by None e d = cc
  by (Some v) e d = at (e ∙ ap Some (ap (flaw_in v) d)) (ap path_in d)

rank-low : (w : Flaw) → rank w < 10
rank-low BadFunction = omega arith
rank-low ReservedVar = omega arith
rank-low ReservedFact = omega arith
rank-low FactClash = omega arith
rank-low PatternDestructor = omega arith
rank-low Unbound = omega arith
rank-low Rebound = omega arith
rank-low SortClash = omega arith
rank-low ScopeFull = omega arith

-- all flaws from one rank on stand in ascending order
ranked-ascending : (n : ℕ) (ws : List Flaw) → AreRanked n ws → AreAscending n ws
ranked-ascending n [] at = tt
ranked-ascending n (w ∷ ws) at = (
  (let e = at.0 in omega (arith, e)),
  subst (λ k. AreAscending (suc k) ws) (sym at.0) (ranked-ascending (suc n) ws at.1),
)

-- and each stands there
ranked-all : (n : ℕ) (ws : List Flaw) → AreRanked n ws → (w : Flaw) → n ≤ rank w → (i : ℕ) × (slice_get ws i ≡ Some w)
ranked-all n [] at w l = absurd (let low = rank-low w in omega (arith, at, l, low))
ranked-all n (x ∷ ws) at w l = by (cases_lt n (rank w)) (λ low. ranked-all (suc n) ws at.1 w low) where
  by : (n < rank w) ⊎ (rank w ≤ n) → (suc n ≤ rank w → (i : ℕ) × (slice_get ws i ≡ Some w)) → (i : ℕ) × (slice_get (x ∷ ws) i ≡ Some w)
  by (inl low) later = let found = later (omega (arith, low)) in (suc found.0, found.1)
  by (inr high) later = (0, ap Some (one_rank x w (let e = at.0 in omega (arith, e, l, high))))

rank-one : (w : Flaw) → 1 ≤ rank w
rank-one BadFunction = omega arith
rank-one ReservedVar = omega arith
rank-one ReservedFact = omega arith
rank-one FactClash = omega arith
rank-one PatternDestructor = omega arith
rank-one Unbound = omega arith
rank-one Rebound = omega arith
rank-one SortClash = omega arith
rank-one ScopeFull = omega arith

-- a search for the flaws in the order in which they count finds the one that counts
pub counted : (g : Sig) (p : Proc) (ws : List Flaw) → AreRanked 1 ws → IsCounted g p (first_flaw g ws (sites p))
counted g p ws at = by (first_flaw g ws (sites p)) refl where
  each : (w : Flaw) → (i : ℕ) × (slice_get ws i ≡ Some w)
  each w = ranked-all 1 ws at w (rank-one w)

  by : (o : Option (Flaw × List ℕ)) → first_flaw g ws (sites p) ≡ o → IsCounted g p o
  by None h = λ w k. none-found g ws [] p h (each w).0 w (each w).1 k
  by (Some found) h =
      let of = some-found g 1 ws (ranked-ascending 1 ws at) [] p found.0 found.1 h in
      record {
        place = of.place;
        at = of.at;
        path_is = of.path_is;
        first = of.first;
        least = λ u l k. of.least (each u).0 u (each u).1 l k;
      }

abbrev flaws : List Flaw
flaws = BadFunction ∷ ReservedVar ∷ ReservedFact ∷ FactClash ∷ PatternDestructor ∷ Unbound ∷ Rebound ∷ SortClash ∷ ScopeFull ∷ []

ascending : AreRanked 1 flaws
ascending = (refl, (refl, (refl, (refl, (refl, (refl, (refl, (refl, (refl, refl)))))))))

abbrev flaw_told : Flaw → Ill → Flaw
flaw_told w Mem = w
flaw_told w (At u path) = u

abbrev path_told : Ill → List ℕ
path_told Mem = []
path_told (At u path) = path

abbrev told : {T : Type 0} → Result T Ill → Ill
told (Ok x) = Mem
told (Err e) = e

-- and one that counts is told
pub told-one : {T : Type 0} (g : Sig) (p : Proc) (u w : Flaw) (found path : List ℕ) → IsFirstFlaw g p u found → IsErrOf {T = T} {E = Ill} (Err (At u found)) (At w path) → IsFirstFlaw g p w path
told-one {T} g p u w found path h r =
    let e : At u found ≡ At w path = ap (told {T = T}) r in
    subst (λ (z : Flaw). IsFirstFlaw g p z path) (ap (flaw_told w) e) (subst (IsFirstFlaw g p u) (ap path_told e) h)

-- each process is well-formed, or has a flaw that counts
pub some-flaw : (g : Sig) (p : Proc) → IsWellFormed g p ⊎ ((w : Flaw) × (path : List ℕ) × IsFirstFlaw g p w path)
some-flaw g p = by (first_flaw g flaws (sites p)) (counted g p flaws ascending) where
  by : (o : Option (Flaw × List ℕ)) → IsCounted g p o → IsWellFormed g p ⊎ ((w : Flaw) × (path : List ℕ) × IsFirstFlaw g p w path)
  by None h = inl h
  by (Some found) h = inr (found.0, found.1, h)
