-- The flaws of small definitions, place by place.
use Rattle.std.proofs.Common.{◌≡◌, ◌<◌, ℕ, zero, suc, List, [], ◌∷◌, Some, None, take, refl, sym, ap, ◌∙◌, subst, arith}
use Rattle.std.specs.Prelude.{codes, slice_get, Contains}
use Rattle.sap_terms.specs.Signature.{Sig}
use Rattle.sap_terms.specs.Tree.{Tree, variable}
use Rattle.sap_terms.specs.declared.var.Sort.{Sort}
use Rattle.sap_terms.specs.declared.var.Sort.TheVariants.{Msg, Fresh}
use Rattle.sap_terms.specs.declared.var.Var.{Var}
use Rattle.sap_process.specs.Heads.{binder, head_terms, terms_vars}
use Rattle.sap_process.specs.Flaws.{HasFlaw, IsFirstScopeFlaw, IsFlawedIn, IsOfScope, rank, unbound}
use Rattle.sap_process.specs.Places.{place}
use Rattle.sap_process.specs.Proc.{Proc, nil}
use Rattle.sap_process.specs.Sites.{Site, above_of, sites_in}
use Rattle.sap_process.specs.declared.flaw.Flaw.{Flaw}
use Rattle.sap_process.specs.declared.flaw.Flaw.TheVariants.{BadFunction, ReservedVar, ReservedFact, FactClash, PatternDestructor, Unbound, Rebound, SortClash, ScopeFull}
use Rattle.sap_macro.specs.ExpansionExamples.{a, giving, giving_y}
use Rattle.sap_macro.specs.Expansion.{plain, plain_bodies}
use Rattle.sap_macro.specs.MacroCauses.{uses}
use Rattle.sap_macro.specs.UpToNames.{named}
use Rattle.sap_macro.specs.Written.{Written, call, Definition}
use Rattle.sap_macro.specs.Seen.{seen}
use Rattle.sap_uses.specs.ScopeFlaws.{IsFirstFlawedBehind, LeadsTo, at_once, further, params_in_scope}
use Rattle.sap_uses.specs.UseExamples.{apart, binding_again, empty_one, open_below, open_one, open_other, right_one, signing_as, use_of, using_c, using_open, x, y}

-- ---- a process of two places

module _ (g : Sig) (scope : List Var) (p : Proc) (w : Flaw) (one two : Site) (e : sites_in scope p ≡ one ∷ two ∷ []) (h : (b : List Site) → ¬ HasFlaw g b one w)
    (k : (b : List Site) → ¬ HasFlaw g b two w) where
  none_of_two : (n : ℕ) → ¬ IsFlawedIn g scope p w n
  none_of_two zero at =
      let got : Some one ≡ Some at.site = sym (ap (λ xs. slice_get xs 0) e) ∙ at.stands in
      let same : one ≡ at.site = cc in
      h (take 0 (sites_in scope p)) (subst (λ s. HasFlaw g (take 0 (sites_in scope p)) s w) (sym same) at.flaw)
  none_of_two (suc zero) at =
      let got : Some two ≡ Some at.site = sym (ap (λ xs. slice_get xs 1) e) ∙ at.stands in
      let same : two ≡ at.site = cc in
      k (take 1 (sites_in scope p)) (subst (λ s. HasFlaw g (take 1 (sites_in scope p)) s w) (sym same) at.flaw)
  none_of_two (suc (suc n)) at =
      let got : None ≡ Some at.site = sym (ap (λ xs. slice_get xs (suc (suc n))) e) ∙ at.stands in
      absurd (cc)

-- x, as a parameter is in scope
abbrev x_there : List Var
x_there = named (codes "x") Msg ∷ []

-- the root, and the end below it
abbrev root_of : Proc → Site
root_of p = place [] (above_of x_there 0) p

abbrev end_with : List Var → Site
end_with scope = place (1 ∷ []) (above_of scope 0) nil

-- no flaw counts before the first one
before_unbound : (u : Flaw) → IsOfScope u → rank u < rank Unbound → ⊥
before_unbound BadFunction o h = o
before_unbound ReservedVar o h = o
before_unbound ReservedFact o h = o
before_unbound FactClash o h = o
before_unbound PatternDestructor o h = o
before_unbound Unbound o h = omega (arith, h)
before_unbound Rebound o h = omega (arith, h)
before_unbound SortClash o h = omega (arith, h)
before_unbound ScopeFull o h = o

none_in : {X : Type 0} {v : X} → Contains [] v → ⊥
none_in c = let few = c.1 in omega (arith, few)

pub unbound_root : (g : Sig) → IsFirstFlawedBehind g (open_one ∷ []) (use_of 0 a) (codes "A") Unbound []
unbound_root g = record {
  at = 0;
  definition = open_one;
  stands = refl;
  name_is = refl;
  flawed = record {
    parameters = λ h. absurd (cc);
    reached = at_once {u = (codes "A", a ∷ [])} (0, omega arith, refl);
    flaw = record {
      of_scope = tt;
      place = 0;
      at = record { site = root_of (seen open_one.body); stands = refl; flaw = λ h. absurd (cc) };
      path_is = refl;
      first = λ k h. absurd (omega (arith, h));
      least = λ u o h. absurd (before_unbound u o h);
    };
  };
  first = λ k h. absurd (omega (arith, h));
}

-- ---- nothing unbound, nothing bound again at an output of x, and at `new x`

not_unbound : (g : Sig) (b : List Site) (s : Site) → unbound s.above.scope s.body ≡ [] → ¬ HasFlaw g b s Unbound
not_unbound g b s e h = h e

not_rebound : (g : Sig) (b : List Site) (s : Site) → binder s.body ≡ None → ¬ HasFlaw g b s Rebound
not_rebound g b s e h = let got : None ≡ Some h.var = sym e ∙ h.stands in absurd (cc)

binding_unbound : (g : Sig) (k : ℕ) → ¬ IsFlawedIn g x_there (seen binding_again.body) Unbound k
binding_unbound g =
    none_of_two g x_there (seen binding_again.body) Unbound (root_of (seen binding_again.body)) (end_with (named (codes "x") Msg ∷ named (codes "x") Fresh ∷ [])) refl
    (λ b. not_unbound g b (root_of (seen binding_again.body)) refl) (λ b. not_unbound g b (end_with (named (codes "x") Msg ∷ named (codes "x") Fresh ∷ [])) refl)

module _ (g : Sig) (t : Tree) where
  abbrev output : Proc
  output = seen (giving t)

  output_unbound : unbound x_there output ≡ [] → (k : ℕ) → ¬ IsFlawedIn g x_there output Unbound k
  output_unbound e =
      none_of_two g x_there output Unbound (root_of output) (end_with x_there) refl (λ b. not_unbound g b (root_of output) e) (λ b. not_unbound g b (end_with x_there) refl)

  output_rebound : (k : ℕ) → ¬ IsFlawedIn g x_there output Rebound k
  output_rebound =
      none_of_two g x_there output Rebound (root_of output) (end_with x_there) refl (λ b. not_rebound g b (root_of output) refl) (λ b. not_rebound g b (end_with x_there) refl)

before_rebound : (g : Sig) (p : Proc) → ((k : ℕ) → ¬ IsFlawedIn g x_there p Unbound k) → (u : Flaw) → IsOfScope u → rank u < rank Rebound → (k : ℕ) → ¬ IsFlawedIn g x_there p u k
before_rebound g p n BadFunction o h k = absurd o
before_rebound g p n ReservedVar o h k = absurd o
before_rebound g p n ReservedFact o h k = absurd o
before_rebound g p n FactClash o h k = absurd o
before_rebound g p n PatternDestructor o h k = absurd o
before_rebound g p n Unbound o h k = n k
before_rebound g p n Rebound o h k = absurd (omega (arith, h))
before_rebound g p n SortClash o h k = absurd (omega (arith, h))
before_rebound g p n ScopeFull o h k = absurd o

before_clash : (g : Sig) (p : Proc) → ((k : ℕ) → ¬ IsFlawedIn g x_there p Unbound k) → ((k : ℕ) → ¬ IsFlawedIn g x_there p Rebound k) → (u : Flaw) → IsOfScope u
    → rank u < rank SortClash → (k : ℕ) → ¬ IsFlawedIn g x_there p u k
before_clash g p n r BadFunction o h k = absurd o
before_clash g p n r ReservedVar o h k = absurd o
before_clash g p n r ReservedFact o h k = absurd o
before_clash g p n r FactClash o h k = absurd o
before_clash g p n r PatternDestructor o h k = absurd o
before_clash g p n r Unbound o h k = n k
before_clash g p n r Rebound o h k = r k
before_clash g p n r SortClash o h k = absurd (omega (arith, h))
before_clash g p n r ScopeFull o h k = absurd o

pub rebound_root : (g : Sig) → IsFirstFlawedBehind g (binding_again ∷ []) (use_of 0 a) (codes "A") Rebound []
rebound_root g = record {
  at = 0;
  definition = binding_again;
  stands = refl;
  name_is = refl;
  flawed = record {
    parameters = λ h. absurd (cc);
    reached = at_once {u = (codes "A", a ∷ [])} (0, omega arith, refl);
    flaw = record {
      of_scope = tt;
      place = 0;
      at = record {
        site = root_of (seen binding_again.body);
        stands = refl;
        flaw = record { var = named (codes "x") Fresh; stands = refl; in_scope = refl };
      };
      path_is = refl;
      first = λ k h. absurd (omega (arith, h));
      least = before_rebound g (seen binding_again.body) (binding_unbound g);
    };
  };
  first = λ k h. absurd (omega (arith, h));
}

pub signed_root : (g : Sig) (s : Sort) → ¬ (s ≡ Msg) → IsFirstFlawedBehind g (signing_as s ∷ []) (use_of 0 a) (codes "A") SortClash []
signed_root g s sign = record {
  at = 0;
  definition = signing_as s;
  stands = refl;
  name_is = refl;
  flawed = record {
    parameters = λ h. absurd (cc);
    reached = at_once {u = (codes "A", a ∷ [])} (0, omega arith, refl);
    flaw = record {
      of_scope = tt;
      place = 0;
      at = record {
        site = root_of (seen (signing_as s).body);
        stands = refl;
        flaw = record {
          var = named (codes "x") s;
          stands = (0, omega arith, refl);
          signed = sign;
          bound = named (codes "x") Msg;
          binder = refl;
          other = λ h. sign (sym h);
        };
      };
      path_is = refl;
      first = λ k h. absurd (omega (arith, h));
      least =
          before_clash g (seen (signing_as s).body) (output_unbound g (variable (named (codes "x") s)) refl)
          (output_rebound g (variable (named (codes "x") s)));
    };
  };
  first = λ k h. absurd (omega (arith, h));
}

-- B's body is `0`, which has no flaw
empty_right : (g : Sig) (w : Flaw) (path : List ℕ) → ¬ IsFirstScopeFlaw g (params_in_scope empty_one) nil w path
empty_right g w path h = by w h.of_scope h.place h.at where
  end : (k : ℕ) (s : Site) → slice_get (sites_in x_there nil) k ≡ Some s → s ≡ root_of nil
  end zero s e = let same : s ≡ root_of nil = cc in same
  end (suc k) s e = absurd (cc)

  by : (w : Flaw) → IsOfScope w → (k : ℕ) → IsFlawedIn g x_there nil w k → ⊥
  by BadFunction o k at = o
  by ReservedVar o k at = o
  by ReservedFact o k at = o
  by FactClash o k at = o
  by PatternDestructor o k at = o
  by Unbound o k at = at.flaw (ap (λ (s : Site). unbound s.above.scope s.body) (end k at.site at.stands))
  by Rebound o k at = not_rebound g [] at.site (ap (λ (s : Site). binder s.body) (end k at.site at.stands)) at.flaw
  by SortClash o k at =
      none_in (subst (λ (s : Site). Contains (terms_vars (head_terms s.body)) at.flaw.var) (end k at.site at.stands) at.flaw.stands)
  by ScopeFull o k at = o

pub used_root : (g : Sig) → IsFirstFlawedBehind g (empty_one ∷ using_open ∷ []) (use_of 0 a) (codes "A") Unbound []
used_root g = record {
  at = 1;
  definition = using_open;
  stands = refl;
  name_is = refl;
  flawed = record {
    parameters = λ h. absurd (cc);
    reached = at_once {u = (codes "A", a ∷ [])} (0, omega arith, refl);
    flaw = record {
      of_scope = tt;
      place = 0;
      at = record { site = root_of (seen using_open.body); stands = refl; flaw = λ h. absurd (cc) };
      path_is = refl;
      first = λ k h. absurd (omega (arith, h));
      least = λ u o h. absurd (before_unbound u o h);
    };
  };
  first = λ k h d is u q z. earlier k h d is u q z.flaw;
} where
  earlier : (k : ℕ) → k < 1 → (d : Definition) → slice_get (plain_bodies call (empty_one ∷ using_open ∷ [])) k ≡ Some d → (u : Flaw) (q : List ℕ)
      → ¬ IsFirstScopeFlaw g (params_in_scope d) (seen d.body) u q
  earlier zero h d is u q z =
      let same : d ≡ empty_one = cc in
      empty_right g u q (subst (λ (e : Definition). IsFirstScopeFlaw g (params_in_scope e) (seen e.body) u q) same z)
  earlier (suc k) h d is u q z = absurd (omega (arith, h))

-- ---- what has none

not_led : (ds : List Definition) (p : Written) (f : List ℕ) → uses p ≡ [] → LeadsTo ds p f → ⊥
not_led ds p _ e (at_once {u = u} c) = none_in (subst (λ us. Contains us u) e c)
not_led ds p _ e (further {d = d} l c k) = not_led ds p d.name e l

pub unreached_none : (g : Sig) (f : List ℕ) (w : Flaw) (path : List ℕ) → ¬ IsFirstFlawedBehind g (open_one ∷ []) apart f w path
unreached_none g f w path h = not_led (plain_bodies call (open_one ∷ [])) (plain (open_one ∷ []) apart) h.definition.name refl h.flawed.reached

one_var : (v : Var) → Contains (named (codes "x") Msg ∷ []) v → v ≡ named (codes "x") Msg
one_var v (zero, few, is) = sym is
one_var v (suc k, few, is) = absurd (omega (arith, few))

right_clash : (g : Sig) (k : ℕ) → ¬ IsFlawedIn g x_there (seen right_one.body) SortClash k
right_clash g =
    none_of_two g x_there (seen right_one.body) SortClash (root_of (seen right_one.body)) (end_with x_there) refl
    (λ b h. h.signed (ap (λ (v : Var). v.sort) (one_var h.var h.stands))) (λ b h. none_in h.stands)

right_body : (g : Sig) (w : Flaw) (path : List ℕ) → ¬ IsFirstScopeFlaw g (params_in_scope right_one) (seen right_one.body) w path
right_body g w path h = by w h.of_scope h.place h.at where
  by : (w : Flaw) → IsOfScope w → (k : ℕ) → IsFlawedIn g x_there (seen right_one.body) w k → ⊥
  by BadFunction o k at = o
  by ReservedVar o k at = o
  by ReservedFact o k at = o
  by FactClash o k at = o
  by PatternDestructor o k at = o
  by Unbound o k at = output_unbound g x refl k at
  by Rebound o k at = output_rebound g x k at
  by SortClash o k at = right_clash g k at
  by ScopeFull o k at = o

pub right_none : (g : Sig) (f : List ℕ) (w : Flaw) (path : List ℕ) → ¬ IsFirstFlawedBehind g (right_one ∷ []) (use_of 0 a) f w path
right_none g f w path h =
    right_body g w path (subst (λ (e : Definition). IsFirstScopeFlaw g (params_in_scope e) (seen e.body) w path) (only h.at h.definition h.stands) h.flawed.flaw) where
      only : (k : ℕ) (d : Definition) → slice_get (plain_bodies call (right_one ∷ [])) k ≡ Some d → d ≡ right_one
      only zero d is = let same : d ≡ right_one = cc in same
      only (suc k) d is = absurd (cc)

-- ---- below the root, the first in order, and by a name without parameters

pub unbound_below : (g : Sig) → IsFirstFlawedBehind g (open_below ∷ []) (use_of 0 a) (codes "A") Unbound (1 ∷ [])
unbound_below g = record {
  at = 0;
  definition = open_below;
  stands = refl;
  name_is = refl;
  flawed = record {
    parameters = λ h. absurd (cc);
    reached = at_once {u = (codes "A", a ∷ [])} (0, omega arith, refl);
    flaw = record {
      of_scope = tt;
      place = 1;
      at = record { site = place (1 ∷ []) (above_of (named (codes "x") Msg ∷ named (codes "n") Fresh ∷ []) 0) (seen (giving y)); stands = refl; flaw = λ h. absurd (cc) };
      path_is = refl;
      first = root_none;
      least = λ u o h. absurd (before_unbound u o h);
    };
  };
  first = λ k h. absurd (omega (arith, h));
} where
  root_none : (k : ℕ) → k < 1 → ¬ IsFlawedIn g x_there (seen open_below.body) Unbound k
  root_none zero h at =
      let got : Some (root_of (seen open_below.body)) ≡ Some at.site = at.stands in
      let same : root_of (seen open_below.body) ≡ at.site = cc in
      at.flaw (subst (λ (s : Site). unbound s.above.scope s.body ≡ []) same refl)
  root_none (suc k) h at = omega (arith, h)

pub first_in_order : (g : Sig) → IsFirstFlawedBehind g (open_other ∷ using_open ∷ []) (use_of 0 a) (codes "B") Unbound []
first_in_order g = record {
  at = 0;
  definition = open_other;
  stands = refl;
  name_is = refl;
  flawed = record {
    parameters = λ h. absurd (cc);
    reached = further {d = using_open} {u = (codes "B", y ∷ [])} (at_once {u = (codes "A", a ∷ [])} (0, omega arith, refl)) (1, omega arith, refl) (0, omega arith, refl);
    flaw = record {
      of_scope = tt;
      place = 0;
      at = record { site = root_of (seen open_other.body); stands = refl; flaw = λ h. absurd (cc) };
      path_is = refl;
      first = λ k h. absurd (omega (arith, h));
      least = λ u o h. absurd (before_unbound u o h);
    };
  };
  first = λ k h. absurd (omega (arith, h));
}

pub by_plain : (g : Sig) → IsFirstFlawedBehind g (giving_y ∷ using_c ∷ []) (use_of 0 a) (codes "A") Unbound []
by_plain g = record {
  at = 1;
  definition = open_one;
  stands = refl;
  name_is = refl;
  flawed = record {
    parameters = λ h. absurd (cc);
    reached = at_once {u = (codes "A", a ∷ [])} (0, omega arith, refl);
    flaw = record {
      of_scope = tt;
      place = 0;
      at = record { site = root_of (seen open_one.body); stands = refl; flaw = λ h. absurd (cc) };
      path_is = refl;
      first = λ k h. absurd (omega (arith, h));
      least = λ u o h. absurd (before_unbound u o h);
    };
  };
  first = λ k h d is u q z. earlier k h d is z.parameters;
} where
  earlier : (k : ℕ) → k < 1 → (d : Definition) → slice_get (plain_bodies call (giving_y ∷ using_c ∷ [])) k ≡ Some d → ¬ (d.params ≡ []) → ⊥
  earlier zero h d is some =
      let same : giving_y ≡ d = cc in
      some (sym (ap (λ (e : Definition). e.params) same))
  earlier (suc k) h d is some = omega (arith, h)
