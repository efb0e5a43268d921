-- One flaw counts.
use Rattle.std.proofs.Common.{◌≡◌, ◌<◌, ℕ, List, Some, refl, sym, ap, ◌∙◌, subst}
use Rattle.std.specs.Prelude.{slice_get, ◌==◌, if◌then◌else◌}
use Rattle.sap_terms.specs.Signature.{Sig}
use Rattle.sap_process.specs.declared.flaw.Flaw.{Flaw}
use Rattle.sap_process.specs.declared.flaw.Flaw.TheVariants.{BadFunction, ReservedVar, ReservedFact, FactClash, PatternDestructor, Unbound, Rebound, SortClash, ScopeFull}
use Rattle.sap_process.specs.Proc.{Proc}
use Rattle.sap_terms.specs.declared.var.Var.{Var}
use Rattle.sap_process.specs.Sites.{Site, sites_in}
use Rattle.sap_process.specs.Flaws.{IsFirstFlawIn, IsFirstScopeFlaw, IsFlawedIn, IsWellFormedIn, rank}
use Rattle.sap_terms.proofs.PlainLaws.Numbers.{same_number}

-- the flaw of a rank
flaw_at : ℕ → Flaw
flaw_at n =
    if n == 1 then BadFunction else if n == 2 then ReservedVar else if n == 3 then ReservedFact else if n == 4 then FactClash else
    if n == 5 then PatternDestructor else if n == 6 then Unbound else if n == 7 then Rebound else if n == 8 then SortClash else ScopeFull

flaw_of_rank : (w : Flaw) → flaw_at (rank w) ≡ w
unfolding flaw_at
flaw_of_rank BadFunction = refl
flaw_of_rank ReservedVar = refl
flaw_of_rank ReservedFact = refl
flaw_of_rank FactClash = refl
flaw_of_rank PatternDestructor = refl
flaw_of_rank Unbound = refl
flaw_of_rank Rebound = refl
flaw_of_rank SortClash = refl
flaw_of_rank ScopeFull = refl

-- flaws of one rank are one
pub one_rank : (w v : Flaw) → rank w ≡ rank v → w ≡ v
one_rank w v e = sym (flaw_of_rank w) ∙ ap flaw_at e ∙ flaw_of_rank v

-- the first place that has a flaw
one_place : (g : Sig) (scope : List Var) (p : Proc) (w : Flaw) (j k : ℕ) (x : IsFlawedIn g scope p w j) (y : IsFlawedIn g scope p w k) → ((i : ℕ) → i < j → ¬ IsFlawedIn g scope p w i)
    → ((i : ℕ) → i < k → ¬ IsFlawedIn g scope p w i) → x.site.path ≡ y.site.path
one_place g scope p w j k x y before earlier = ap (λ (s : Site). s.path) site_is
  where
    place_is : j ≡ k
    place_is = same_number j k (λ l. earlier j l x) (λ l. before k l y)

    site_is : x.site ≡ y.site
    site_is =
        let same : Some x.site ≡ Some y.site = sym x.stands ∙ ap (slice_get (sites_in scope p)) place_is ∙ y.stands in
        cc

-- one flaw, at one place
pub one_flaw : (g : Sig) (scope : List Var) (p : Proc) (w v : Flaw) (path other : List ℕ) → IsFirstFlawIn g scope p w path → IsFirstFlawIn g scope p v other → (w ≡ v) × (path ≡ other)
one_flaw g scope p w v path other f h = at_one (one_rank w v (same_number (rank w) (rank v) (λ l. h.least w l f.place f.at) (λ l. f.least v l h.place h.at))) h
  where
    at_one : w ≡ v → IsFirstFlawIn g scope p v other → (w ≡ v) × (path ≡ other)
    at_one e k = let here : IsFirstFlawIn g scope p w other = subst (λ u. IsFirstFlawIn g scope p u other) (sym e) k in
        (e, sym f.path_is ∙ one_place g scope p w f.place here.place f.at here.at f.first here.first ∙ here.path_is)

-- the same of those that scope alone decides
pub one_scope_flaw : (g : Sig) (scope : List Var) (p : Proc) (w v : Flaw) (path other : List ℕ) → IsFirstScopeFlaw g scope p w path → IsFirstScopeFlaw g scope p v other
    → (w ≡ v) × (path ≡ other)
one_scope_flaw g scope p w v path other f h =
    at_one (one_rank w v (same_number (rank w) (rank v) (λ l. h.least w f.of_scope l f.place f.at) (λ l. f.least v h.of_scope l h.place h.at))) h
  where
    at_one : w ≡ v → IsFirstScopeFlaw g scope p v other → (w ≡ v) × (path ≡ other)
    at_one e k = let here : IsFirstScopeFlaw g scope p w other = subst (λ u. IsFirstScopeFlaw g scope p u other) (sym e) k in
        (e, sym f.path_is ∙ one_place g scope p w f.place here.place f.at here.at f.first here.first ∙ here.path_is)

-- a process with a flaw isn't well-formed
pub no_flaw : (g : Sig) (scope : List Var) (p : Proc) (w : Flaw) (path : List ℕ) → IsFirstFlawIn g scope p w path → IsWellFormedIn g scope p → ⊥
no_flaw g scope p w path f well = well w f.place f.at
