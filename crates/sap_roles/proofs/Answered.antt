-- What the last step tells of the role along the path.
use Rattle.std.proofs.Common.{◌≡◌, ℕ, List, Option, Some, None, refl}
use Rattle.std.specs.Prelude.{MatchOption}
use Rattle.sap_macro.specs.Indexed.{IsIndex}
use Rattle.sap_macro.specs.Located.{Located}
use Rattle.sap_macro.specs.Written.{Definition}
use Rattle.sap_origin.specs.Definitions.{LocatedDefinition}
use Rattle.sap_roles.specs.Roles.{IsRoleAt}
use Rattle.sap_roles.specs.code.Going.{AreOne}
use Rattle.sap_roles.specs.code.Steps.{Tells}
use Rattle.sap_roles.specs.declared.role.Here.{Here}
use Rattle.sap_roles.specs.declared.role.Step.{Step}
use Rattle.sap_roles.specs.declared.role.Step.TheVariants.{There, Nowhere, On}
use Rattle.sap_roles.proofs.OneWay.{one_role}

module _ (es : List Definition) (ds : List LocatedDefinition) (path : List ℕ) (behind : ℕ) (p : Located) where
  -- what the call answers
  abbrev pub Answers : Option ℕ → Type 0
  Answers o = MatchOption o ((f : List ℕ) → IsRoleAt ds p behind path (Some f) → ⊥) (λ k. (f : List ℕ) × IsIndex es f (Some k) × IsRoleAt ds p behind path (Some f))

  pub there_answers : (o : Option ℕ) → Tells es ds path behind p (There o) → Answers o
  there_answers o t = by o t.0 t.1 t.2
    where
      by : (o : Option ℕ) (r : Option (List ℕ)) → AreOne es o r → IsRoleAt ds p behind path r → Answers o
      by None None one role = λ f other. absurd (cc (one_role role other))
      by None (Some f) one role = absurd one
      by (Some k) None one role = absurd one
      by (Some k) (Some f) one role = (f, one, role)

  pub nowhere_answers : Tells es ds path behind p Nowhere → Answers None
  nowhere_answers none = λ f h. none h.standing h.place h.reaches

  -- a step that comes neither there nor on
  pub other_answers : (step : Step) → Tells es ds path behind p step → ((o : Option ℕ) → step ≡ There o → ⊥) → ((h : Here) → step ≡ On h → ⊥) → Answers None
  other_answers (There o) t there on = absurd (there o refl)
  other_answers Nowhere t there on = nowhere_answers t
  other_answers (On h) t there on = absurd (on h refl)
