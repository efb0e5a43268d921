-- The flaw that counts of those that scope alone decides.
use Rattle.std.proofs.Common.{◌≡◌, ℕ, zero, suc, List, [], ◌∷◌, Option, Some, None, inl, inr, arith, refl, sym, subst}
use Rattle.std.specs.Prelude.{◌⊎◌, IfNone, IfSome, slice_get}
use Rattle.sap_terms.specs.Signature.{Sig}
use Rattle.sap_terms.specs.declared.var.Var.{Var}
use Rattle.sap_process.specs.Proc.{Proc}
use Rattle.sap_process.specs.Sites.{sites_in}
use Rattle.sap_process.specs.Flaws.{HasNoScopeFlaw, IsFirstScopeFlaw, IsFlawedIn, IsOfScope}
use Rattle.sap_process.specs.code.Walks.{first_flaw}
use Rattle.sap_process.specs.declared.flaw.Flaw.{Flaw}
use Rattle.sap_process.specs.declared.flaw.Flaw.TheVariants.{BadFunction, ReservedVar, ReservedFact, FactClash, PatternDestructor, Unbound, Rebound, SortClash, ScopeFull}
use Rattle.sap_process.proofs.Firsts.{none-found, some-found}

-- the three, in the order in which they count
abbrev pub scope_flaws : List Flaw
scope_flaws = Unbound ∷ Rebound ∷ SortClash ∷ []

stands-there : (w : Flaw) → IsOfScope w → (i : ℕ) × (slice_get scope_flaws i ≡ Some w)
stands-there BadFunction h = absurd h
stands-there ReservedVar h = absurd h
stands-there ReservedFact h = absurd h
stands-there FactClash h = absurd h
stands-there PatternDestructor h = absurd h
stands-there Unbound h = (0, refl)
stands-there Rebound h = (1, refl)
stands-there SortClash h = (2, refl)
stands-there ScopeFull h = absurd h

is-of-scope : (i : ℕ) (w : Flaw) → slice_get scope_flaws i ≡ Some w → IsOfScope w
is-of-scope zero w e = let same : Unbound ≡ w = cc in subst IsOfScope same tt
is-of-scope (suc zero) w e = let same : Rebound ≡ w = cc in subst IsOfScope same tt
is-of-scope (suc (suc zero)) w e = let same : SortClash ≡ w = cc in subst IsOfScope same tt
is-of-scope (suc (suc (suc k))) w e = cc

-- no signature counts
any-signature : (g h : Sig) (scope : List Var) (p : Proc) (w : Flaw) (k : ℕ) → IsOfScope w → IsFlawedIn g scope p w k → IsFlawedIn h scope p w k
any-signature g h scope p BadFunction k o f = absurd o
any-signature g h scope p ReservedVar k o f = absurd o
any-signature g h scope p ReservedFact k o f = absurd o
any-signature g h scope p FactClash k o f = absurd o
any-signature g h scope p PatternDestructor k o f = absurd o
any-signature g h scope p Unbound k o f = record { site = f.site; stands = f.stands; flaw = f.flaw }
any-signature g h scope p Rebound k o f = record { site = f.site; stands = f.stands; flaw = f.flaw }
any-signature g h scope p SortClash k o f = record { site = f.site; stands = f.stands; flaw = f.flaw }
any-signature g h scope p ScopeFull k o f = absurd o

-- a search for the three, with any signature, finds the one that counts
pub scope-found : (h g : Sig) (scope : List Var) (p : Proc) (w : Flaw) (path : List ℕ) → first_flaw h scope_flaws (sites_in scope p) ≡ Some (w, path) → IsFirstScopeFlaw g scope p w path
unfolding any-signature
scope-found h g scope p w path e =
    let of = some-found h 6 scope_flaws (omega arith, (omega arith, (omega arith, tt))) scope p w path e in
    let here = is-of-scope of.index w of.among in
    record {
      of_scope = here;
      place = of.place;
      at = any-signature h g scope p w of.place here of.at;
      path_is = path_of w here of.at of.path_is;
      first = λ k l f. of.first k l (any-signature g h scope p w k here f);
      least = λ u o l k f. of.least (stands-there u o).0 u (stands-there u o).1 l k (any-signature g h scope p u k o f);
    } where
      path_of : (v : Flaw) (o : IsOfScope v) {k : ℕ} (f : IsFlawedIn h scope p v k) → f.site.path ≡ path → (any-signature h g scope p v k o f).site.path ≡ path
      path_of BadFunction o f e = absurd o
      path_of ReservedVar o f e = absurd o
      path_of ReservedFact o f e = absurd o
      path_of FactClash o f e = absurd o
      path_of PatternDestructor o f e = absurd o
      path_of Unbound o f e = e
      path_of Rebound o f e = e
      path_of SortClash o f e = e
      path_of ScopeFull o f e = absurd o

-- or none
pub scope-none : (h g : Sig) (scope : List Var) (p : Proc) → first_flaw h scope_flaws (sites_in scope p) ≡ None → HasNoScopeFlaw g scope p
scope-none h g scope p e = λ w o k f. none-found h scope_flaws scope p e (stands-there w o).0 w (stands-there w o).1 k (any-signature g h scope p w k o f)

-- so what is found is told
pub scope-told : (h g : Sig) (scope : List Var) (p : Proc) (o : Option (Flaw × List ℕ)) → o ≡ first_flaw h scope_flaws (sites_in scope p)
    → IfSome o (λ (f : Flaw × List ℕ). IsFirstScopeFlaw g scope p f.0 f.1)
scope-told h g scope p None e = tt
scope-told h g scope p (Some f) e = scope-found h g scope p f.0 f.1 (sym e)

pub scope-untold : (h g : Sig) (scope : List Var) (p : Proc) (o : Option (Flaw × List ℕ)) → o ≡ first_flaw h scope_flaws (sites_in scope p)
    → IfNone o (HasNoScopeFlaw g scope p)
scope-untold h g scope p None e = scope-none h g scope p (sym e)
scope-untold h g scope p (Some f) e = tt

-- either is so
pub some-scope-flaw : (g : Sig) (scope : List Var) (p : Proc) → HasNoScopeFlaw g scope p ⊎ ((w : Flaw) × (path : List ℕ) × IsFirstScopeFlaw g scope p w path)
some-scope-flaw g scope p = by (first_flaw g scope_flaws (sites_in scope p)) refl where
  by : (o : Option (Flaw × List ℕ)) → first_flaw g scope_flaws (sites_in scope p) ≡ o → HasNoScopeFlaw g scope p ⊎ ((w : Flaw) × (path : List ℕ) × IsFirstScopeFlaw g scope p w path)
  by None e = inl (scope-none g g scope p e)
  by (Some found) e = inr (found.0, found.1, scope-found g g scope p found.0 found.1 e)
