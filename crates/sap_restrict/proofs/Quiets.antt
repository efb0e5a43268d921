-- A formula is true where the fact of its premise isn't shown; and which are needed.
use Rattle.std.proofs.Common.{ℕ, List, refl, sym, inl, inr, arith, [], ◌∷◌, map}
use Rattle.std.specs.Prelude.{Contains}
use Rattle.sap_formula.specs.Form.{RestrictionForm}
use Rattle.sap_formula.specs.HoldsOf.{AreTrueOn}
use Rattle.sap_formula.specs.Truth.{AnyIn, EachIn, IsTrueOn, Shows, bind, facts_at}
use Rattle.sap_restrict.proofs.Elements.{each_at, each_contains, kept_or_not, some_one}
use Rattle.sap_restrict.proofs.Shown.{unbound}
use Rattle.sap_restrict.specs.Laws.{EnoughLaw, NeededLaw, NeedsLaw, QuietLaw}
use Rattle.sap_restrict.specs.Needed.{needed, needs}
use Rattle.sap_shapes.specs.ReservedFacts.{eq_fact, init_fact, input_fact, is_in_fact, is_not_set_fact, lock_fact, not_eq_fact}
use Rattle.sap_restrict.specs.Restrictions.{named}
use Rattle.sap_restrict.specs.Shown.{NoneShows}
use Rattle.sap_restrict.specs.Standard.{every_which, standard}
use Rattle.sap_shapes.specs.Formulas.{L, M, X, Y}
use Rattle.sap_restrict.specs.declared.which.Which.{Which}
use Rattle.sap_restrict.specs.declared.which.Which.TheVariants.{Eq, In, InEv, Init, Lock, NotEq, NotIn}
use Rattle.sap_terms.specs.Choice.{Choice}
use Rattle.sap_terms.specs.Equations.{Equations, equations}
use Rattle.sap_terms.specs.Signature.{Sig}
use Rattle.sap_terms.specs.Trace.{Trace}
use Rattle.sap_terms.specs.Tree.{variable}
use Rattle.sap_terms.specs.declared.fact.Fact.{Fact}

none_shown : (e : Equations) (σ : Choice) (f : Fact) (tr : Trace) (k : ℕ) → NoneShows f.name tr → AnyIn (Shows e σ f) (facts_at tr k) → ⊥
none_shown e σ f tr k n h = let r = some_one (Shows e σ f) (facts_at tr k) h in n k r.0 r.1 (sym r.2.0)

pub quiet_law : QuietLaw
quiet_law Init g tr n = λ i p j q s. absurd (none_shown (equations g) unbound init_fact tr i n s.0)
quiet_law Eq g tr n = λ x p y q i l s. absurd (none_shown (equations g) (bind Y y (bind X x unbound)) (eq_fact (variable X) (variable Y)) tr i n s)
quiet_law NotEq g tr n = λ x p y q i l s. absurd (none_shown (equations g) (bind Y y (bind X x unbound)) (not_eq_fact (variable X) (variable Y)) tr i n s)
quiet_law In g tr n = λ x p y q i l s. absurd (none_shown (equations g) (bind Y y (bind X x unbound)) (is_in_fact (variable X) (variable Y)) tr i n s)
quiet_law NotIn g tr n = λ x p y q i l j k s. absurd (none_shown (equations g) (bind Y y (bind X x unbound)) (is_not_set_fact (variable X)) tr i n s.0.0)
quiet_law Lock g tr n = λ l p m q x r i a j b s. absurd (none_shown (equations g) (bind X x (bind M m (bind L l unbound))) (lock_fact (variable L) (variable X)) tr i n s.0.0)
quiet_law InEv g tr n = λ x p i l s. absurd (none_shown (equations g) (bind X x unbound) (input_fact (variable X)) tr i n s)

pub needed_law : NeededLaw
needed_law ws g tr cover =
    let P = λ (w : Which). IsTrueOn g (standard w) tr in (
      λ h. each_at P ws h,
      λ h w. elim (cover w) [ inl c ↦ each_contains P ws w h c | inr n ↦ quiet_law w g tr n ],
    )

-- it is one of the seven
one_of_seven : (w : Which) → Contains every_which w
one_of_seven Init = (0, omega arith, refl)
one_of_seven Eq = (1, omega arith, refl)
one_of_seven NotEq = (2, omega arith, refl)
one_of_seven In = (3, omega arith, refl)
one_of_seven NotIn = (4, omega arith, refl)
one_of_seven Lock = (5, omega arith, refl)
one_of_seven InEv = (6, omega arith, refl)

pub needs_law : NeedsLaw
needs_law w p = kept_or_not (λ v. needs v p) every_which w (one_of_seven w)

-- what is true of each is true of the formulas under their names, and the other way round
of_named : (g : Sig) (tr : Trace) (ws : List Which) → EachIn (λ w. IsTrueOn g (standard w) tr) ws → AreTrueOn g (map (λ (r : RestrictionForm). r.formula) (map named ws)) tr
of_named g tr [] h = tt
of_named g tr (w ∷ ws) h = (h.0, of_named g tr ws h.1)

named_of : (g : Sig) (tr : Trace) (ws : List Which) → AreTrueOn g (map (λ (r : RestrictionForm). r.formula) (map named ws)) tr → EachIn (λ w. IsTrueOn g (standard w) tr) ws
named_of g tr [] h = tt
named_of g tr (w ∷ ws) h = (h.0, named_of g tr ws h.1)

pub enough_law : EnoughLaw
enough_law p g tr none =
    let law = needed_law (needed p) g tr (λ w. elim (needs_law w p) [ inl c ↦ inl c | inr e ↦ inr (none w e) ]) in
    (λ h. of_named g tr (needed p) (law.0 h), λ h. law.1 (named_of g tr (needed p) h))
