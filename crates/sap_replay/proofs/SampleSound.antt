-- The process of the sample has no flaw.
use Rattle.std.proofs.Common.{◌≡◌, ◌≤◌, ◌+◌, ◌⊎◌, inl, inr, ℕ, zero, suc, List, [], ◌∷◌, ◌++◌, length, false, Option, Some, None, refl, sym, subst, arith, take, slice_get, nat_eq, append_assoc, append-nil, lit≤}
use Rattle.std.specs.Prelude.{codes, Contains, ⊤}
use Rattle.std.specs.List.{flat_map, starts_with}
use Rattle.sap_terms.proofs.PlainLaws.Items.{got_contained}
use Rattle.sap_terms.specs.Destructors.{HasDestructor}
use Rattle.sap_terms.specs.Message.{IsOver}
use Rattle.sap_terms.specs.Reserved.{is_reserved}
use Rattle.sap_terms.specs.Signature.{Sig}
use Rattle.sap_terms.specs.Variables.{is_known}
use Rattle.sap_terms.specs.declared.fact.Fact.{Fact}
use Rattle.sap_terms.specs.declared.var.Sort.{Sort}
use Rattle.sap_terms.specs.declared.var.Sort.TheVariants.{Msg, Fresh, Pub}
use Rattle.sap_terms.specs.declared.var.Var.{Var}
use Rattle.sap_process.specs.Flaws.{HasClash, HasOtherArity, HasOtherForm, unbound, HasSortClash, HasFlaw, IsWellFormed, binder_of, scope_at}
use Rattle.sap_process.specs.Heads.{bound_as, binder, head_terms, head_vars, patterns, shown_facts, stored_facts, terms_vars}
use Rattle.sap_process.specs.Proc.{Proc, replicated}
use Rattle.sap_process.specs.Sites.{Site, sites, var_names}
use Rattle.sap_process.specs.declared.flaw.Flaw.{Flaw}
use Rattle.sap_process.specs.declared.flaw.Flaw.TheVariants.{BadFunction, ReservedVar, ReservedFact, FactClash, PatternDestructor, Unbound, Rebound, SortClash, ScopeFull}
use Rattle.sap_replay.specs.Sample.{session_process, told_sample}

-- P holds of each of them, and of what there is
abbrev Each : {X : Type 0} → (X → Type 0) → List X → Type 0
Each P [] = ⊤
Each P (x ∷ xs) = P x × Each P xs

each_got : {X : Type 0} (P : X → Type 0) (xs : List X) (x : X) (k : ℕ) → Each P xs → slice_get xs k ≡ Some x → P x
each_got P [] x k h e = cc
each_got P (y ∷ ys) x zero h e = let same : y ≡ x = cc in subst P same h.0
each_got P (y ∷ ys) x (suc k) h e = each_got P ys x k h.1 e

each_contained : {X : Type 0} (P : X → Type 0) (xs : List X) (x : X) → Each P xs → Contains xs x → P x
each_contained P xs x h c = let at = got_contained xs x c in each_got P xs x at.0 h at.1

abbrev OfSome : {X : Type 0} → (X → Type 0) → Option X → Type 0
OfSome P None = ⊤
OfSome P (Some x) = P x

of_some : {X : Type 0} (P : X → Type 0) (o : Option X) (x : X) → OfSome P o → o ≡ Some x → P x
of_some P o x h e = subst (OfSome P) e h

-- it is none that an identifier binds as a constant
abbrev IsSigned : Sort → Type 0
IsSigned Msg = ⊥
IsSigned Fresh = ⊤
IsSigned Pub = ⊤

-- the facts name none of what was met, and there is one at most
abbrev IsAlone : List Fact → List Fact → Type 0
IsAlone met [] = ⊤
IsAlone met (f ∷ []) = met ≡ []
IsAlone met (f ∷ h ∷ fs) = ⊥

-- a variable is plain, or has the sort of its binder
abbrev IsSortedBy : List Var → Var → Type 0
IsSortedBy scope v = (v.sort ≡ Msg) ⊎ OfSome (λ (b : Var). b.sort ≡ v.sort) (binder_of scope v.name)

-- what keeps a place from each flaw, one after another
pub record IsClean (g : Sig) (before : List Site) (s : Site) : Type 0 where
  pub over : Each (IsOver g) (head_terms s.body)
  pub signed : OfSome (λ (v : Var). IsSigned v.sort) (bound_as s.body)
  pub names : Each (λ (v : Var). starts_with nat_eq v.name (codes "sapic_") ≡ false) (head_vars s.body)
  pub facts : Each (λ (f : Fact). is_reserved f.name ≡ false) (stored_facts s.body ++ shown_facts s.body)
  pub stored : IsAlone (flat_map (λ (b : Site). stored_facts b.body) before) (stored_facts s.body)
  pub shown : IsAlone (flat_map (λ (b : Site). shown_facts b.body) before) (shown_facts s.body)
  pub patterns : Each (λ t. ¬ HasDestructor g t) (patterns s.body)
  pub bound : unbound s.above.scope s.body ≡ []
  pub binds : OfSome (λ (v : Var). is_known (var_names s.above.scope) v.name ≡ false) (binder s.body)
  pub sorted : Each (IsSortedBy (scope_at s.above.scope s.body)) (terms_vars (head_terms s.body))
  pub few : length s.above.scope + s.above.locks ≤ 64

no_clash : (differ : Fact → Fact → Type 0) (met facts : List Fact) → IsAlone met facts → ¬ HasClash differ met facts
no_clash differ met [] h c = let e = c.stands in cc
no_clash differ met (f ∷ []) h c = first c.at c.stands c.before where
  first : (k : ℕ) → slice_get (f ∷ []) k ≡ Some c.fact → Contains (met ++ take k (f ∷ [])) c.earlier → ⊥
  first zero e held = let none : Contains [] c.earlier = subst (λ (fs : List Fact). Contains (fs ++ []) c.earlier) h held in omega (arith, none.1)
  first (suc k) e held = cc
no_clash differ met (f ∷ h ∷ fs) e c = e

module _ (g : Sig) (before : List Site) (s : Site) (clean : IsClean g before s) where
  not_signed : (v : Var) → v.sort ≡ Msg → IsSigned v.sort → ⊥
  not_signed v e h = subst IsSigned e h

  sort_fits : (c : HasSortClash s) → IsSortedBy (scope_at s.above.scope s.body) c.var → ⊥
  sort_fits c (inl plain) = c.signed plain
  sort_fits c (inr same) = c.other (of_some (λ (b : Var). b.sort ≡ c.var.sort) (binder_of (scope_at s.above.scope s.body) c.var.name) c.bound same c.binder)

  has_none : (w : Flaw) → ¬ HasFlaw g before s w
  has_none BadFunction (inl bad) = bad.bad (each_contained (IsOver g) (head_terms s.body) bad.term clean.over bad.stands)
  has_none BadFunction (inr binds) = not_signed binds.var binds.plain (of_some (λ (v : Var). IsSigned v.sort) (bound_as s.body) binds.var clean.signed binds.stands)
  has_none ReservedVar h = let e = each_contained (λ (v : Var). starts_with nat_eq v.name (codes "sapic_") ≡ false) (head_vars s.body) h.var clean.names h.stands in let z = h.reserved in cc
  has_none ReservedFact h = let e = each_contained (λ (f : Fact). is_reserved f.name ≡ false) (stored_facts s.body ++ shown_facts s.body) h.fact clean.facts h.stands in let z = h.reserved in cc
  has_none FactClash (inl c) = no_clash HasOtherForm (flat_map (λ (b : Site). stored_facts b.body) before) (stored_facts s.body) clean.stored c
  has_none FactClash (inr c) = no_clash HasOtherArity (flat_map (λ (b : Site). shown_facts b.body) before) (shown_facts s.body) clean.shown c
  has_none PatternDestructor h = each_contained (λ t. ¬ HasDestructor g t) (patterns s.body) h.term clean.patterns h.stands h.destructor
  has_none Unbound h = h clean.bound
  has_none Rebound h = let e = of_some (λ (v : Var). is_known (var_names s.above.scope) v.name ≡ false) (binder s.body) h.var clean.binds h.stands in let z = h.in_scope in cc
  has_none SortClash h = sort_fits h (each_contained (IsSortedBy (scope_at s.above.scope s.body)) (terms_vars (head_terms s.body)) h.var clean.sorted h.stands)
  has_none ScopeFull h = let few = clean.few in omega (arith, h, few)

-- each place is clean behind those before it
abbrev AreClean : Sig → List Site → List Site → Type 0
AreClean g before [] = ⊤
AreClean g before (s ∷ ss) = IsClean g before s × AreClean g (before ++ s ∷ []) ss

clean_at : (g : Sig) (before ss : List Site) (s : Site) (k : ℕ) → AreClean g before ss → slice_get ss k ≡ Some s → IsClean g (before ++ take k ss) s
clean_at g before [] s k h e = cc
clean_at g before (r ∷ rs) s zero h e =
    let same : r ≡ s = cc in subst (λ (xs : List Site). IsClean g xs s) (sym (append-nil before)) (subst (IsClean g before) same h.0)
clean_at g before (r ∷ rs) s (suc k) h e =
    subst (λ (xs : List Site). IsClean g xs s) (append_assoc before (r ∷ []) (take k rs)) (clean_at g (before ++ r ∷ []) rs s k h.1 e)

-- a process with clean places has no flaw
well_formed : (g : Sig) (p : Proc) → AreClean g [] (sites p) → IsWellFormed g p
well_formed g p h w k at = has_none g (take k (sites p)) at.site (clean_at g [] (sites p) at.site k h at.stands) w at.flaw

pub sample_well_formed : IsWellFormed told_sample.signature (replicated (session_process 0))
sample_well_formed =
    well_formed told_sample.signature (replicated (session_process 0)) (
      record { over = tt; signed = tt; names = tt; facts = tt; stored = tt; shown = tt; patterns = tt; bound = refl; binds = tt; sorted = tt; few = lit≤ tt },
      (
        record { over = tt; signed = tt; names = (refl, tt); facts = tt; stored = tt; shown = tt; patterns = tt; bound = refl; binds = refl; sorted = tt; few = lit≤ tt },
        (
          record { over = (tt, tt); signed = tt; names = tt; facts = tt; stored = tt; shown = tt; patterns = tt; bound = refl; binds = tt; sorted = tt; few = lit≤ tt },
          (
            record { over = (tt, (tt, tt)); signed = tt; names = (refl, tt); facts = tt; stored = tt; shown = tt; patterns = tt; bound = refl; binds = tt; sorted = (inr refl, tt); few = lit≤ tt },
            (
              record { over = (tt, tt); signed = tt; names = tt; facts = tt; stored = tt; shown = tt; patterns = tt; bound = refl; binds = tt; sorted = tt; few = lit≤ tt },
              (
                record { over = ((refl, (tt, tt)), tt); signed = tt; names = (refl, tt); facts = tt; stored = tt; shown = tt; patterns = tt; bound = refl; binds = tt; sorted = (inr refl, tt); few = lit≤ tt },
                (
                  record { over = (tt, tt); signed = tt; names = (refl, tt); facts = tt; stored = tt; shown = tt; patterns = ((λ h. h), tt); bound = refl; binds = tt; sorted = (inl refl, tt); few = lit≤ tt },
                  (
                    record { over = (tt, tt); signed = tt; names = (refl, tt); facts = (refl, tt); stored = tt; shown = refl; patterns = tt; bound = refl; binds = tt; sorted = (inl refl, tt); few = lit≤ tt },
                    (
                      record { over = tt; signed = tt; names = tt; facts = tt; stored = tt; shown = tt; patterns = tt; bound = refl; binds = tt; sorted = tt; few = lit≤ tt },
                      tt,
                    ),
                  ),
                ),
              ),
            ),
          ),
        ),
      ),
    )
