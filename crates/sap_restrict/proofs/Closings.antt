-- The seven formulas are closed, and don't see empty times.
use Rattle.std.proofs.Common.{inl, inr, refl}
use Rattle.sap_formula.specs.Laws.{FilledLaw}
use Rattle.sap_restrict.specs.Laws.{AdmittedFilledLaw, StandardClosedLaw}
use Rattle.sap_restrict.specs.Standard.{standard}
use Rattle.sap_restrict.specs.declared.which.Which.TheVariants.{Eq, In, InEv, Init, Lock, NotEq, NotIn}

pub standard_closed : StandardClosedLaw
standard_closed g Init = ((inl (inl refl), (inr (inl refl), tt)), (((tt, tt, refl), (tt, tt, refl)), (refl, refl)))
standard_closed g Eq = ((inr (inl refl), (inr (inr (inl refl)), (inl refl, tt))), ((tt, (refl, (refl, tt)), refl), (refl, refl)))
standard_closed g NotEq = ((inr (inl refl), (inr (inr (inl refl)), (inl refl, tt))), ((tt, (refl, (refl, tt)), refl), (refl, refl)))
standard_closed g In = (
  (inr (inl refl), (inr (inr (inl refl)), (inl refl, tt))),
  (
    (tt, (refl, (refl, tt)), refl),
    (
      (inl (inl (inl (inl refl))), tt),
      (
        (
          ((tt, (refl, (refl, tt)), refl), (refl, refl)),
          ((inl refl, tt), ((tt, (refl, tt), refl), ((refl, refl), (refl, refl)))),
        ),
        ((inr (inr (inl refl)), (inl refl, tt)), ((tt, (refl, (refl, tt)), refl), (((refl, refl), (refl, refl)), (refl, refl)))),
      ),
    ),
  ),
)
standard_closed g NotIn = (
  (inl (inl (inr (inl refl))), (inl (inr (inr (inr (inl refl)))), (inl (inl (inl refl)), (inl (inr (inl refl)), tt)))),
  (
    (((tt, (refl, tt), refl), (tt, (refl, (refl, tt)), refl)), (refl, refl)),
    ((inl (inl (inl refl)), tt), (((tt, (refl, tt), refl), (refl, refl)), (refl, refl))),
  ),
)
standard_closed g Lock = (
  (inl (inl (inr (inl refl))), (inl (inr (inr (inl refl))), (inl (inl (inr (inr (inl refl)))), (inl (inl (inl refl)), (inl (inr (inl refl)), tt))))),
  (
    (((tt, (refl, (refl, tt)), refl), (tt, (refl, (refl, tt)), refl)), (refl, refl)),
    ((inl (inl (inl refl)), tt), (((tt, (refl, (refl, tt)), refl), (refl, refl)), (refl, refl))),
  ),
)
standard_closed g InEv = (
  (inr (inl refl), (inl refl, tt)),
  (
    (tt, (refl, tt), refl),
    (
      (inl (inl (inl (inl (inl refl)))), tt),
      (
        (
          (
            ((tt, (refl, tt), refl), (refl, refl)),
            ((inr (inl refl), (inl refl, tt)), ((tt, (refl, tt), refl), (((refl, refl), (refl, refl)), (refl, refl)))),
          ),
          ((inl refl, tt), ((tt, tt, refl), ((refl, refl), (refl, refl)))),
        ),
        ((inr (inl refl), (inl refl, tt)), ((tt, (refl, tt), refl), (((refl, refl), (refl, refl)), (refl, refl)))),
      ),
    ),
  ),
)

pub admitted_filled : FilledLaw → AdmittedFilledLaw
admitted_filled law g tr m = (
  λ a w. (law g (standard w) tr m (standard_closed g w)).0 (a w),
  λ a w. (law g (standard w) tr m (standard_closed g w)).1 (a w),
)
