-- Why a formula is true on a trace, or isn't: the choices that show it.
use Rattle.std.specs.Prelude.{◌≡◌, ℕ, ◌<◌, ◌⊎◌, Bool, true, false, not, length, List, [], ◌∷◌, ◌++◌, Option, Some, None, map}
use Rattle.std.specs.List.{AllZip, flat_map}
use Rattle.sap_formula.specs.Checked.{premise}
use Rattle.sap_formula.specs.Form.{Form, action, both, earlier, either, equal, equivalent, every, exists, falsity, implies, negation, same_time, truth}
use Rattle.sap_formula.specs.Slim.{slim}
use Rattle.sap_formula.specs.Times.{IsTime}
use Rattle.sap_formula.specs.Truth.{EachIn, Exists, IsTrueOn, IsTrueUnder, Shows, Times}
use Rattle.sap_formula.specs.declared.binder.Binder.{Binder}
use Rattle.sap_formula.specs.declared.binder.Binder.TheVariants.{Message, Time}
use Rattle.sap_judge.specs.Guards.{Action, guards, sights}
use Rattle.sap_match.specs.Atoms.{Held, Sight, held_term, held_time}
use Rattle.sap_search.specs.Claims.{Chosen}
use Rattle.sap_terms.specs.Choice.{Choice}
use Rattle.sap_terms.specs.Equations.{Equations, equations}
use Rattle.sap_terms.specs.Message.{IsMessage}
use Rattle.sap_terms.specs.Signature.{Sig}
use Rattle.sap_terms.specs.Trace.{Trace}
use Rattle.sap_terms.specs.Tree.{Tree, variable}
use Rattle.sap_terms.specs.declared.var.Sort.{Sort}

-- what a binder's name stands for
abbrev pub value : Choice → Times → Binder → Held
value σ τ (Message v) = held_term (σ v)
value σ τ (Time m) = held_time (τ m)

-- what may stand for it: a message of its sort, or a time of the trace
abbrev pub Suits : Sig → Trace → Binder → Held → Type 0
Suits g tr (Message v) (held_term t) = IsMessage g v.sort t
Suits g tr (Message v) (held_time k) = ⊥
Suits g tr (Time m) (held_term t) = ⊥
Suits g tr (Time m) (held_time k) = k < length tr

-- so, or not so
abbrev pub Is : Bool → Type 0 → Type 0
Is true A = A
Is false A = A → ⊥

-- the guard picks this fact: it asks for it, at its time
abbrev pub IsPicked : Equations → Choice → Times → Action → Sight → Type 0
IsPicked e σ τ a s = (τ a.time ≡ s.time) × Shows e σ a.pattern s.fact

-- a fact of its name for each guard, in each way: by the first guard's fact, then by the next one's; facts by their times, and within
-- a time in order
abbrev pub picks : Trace → List Action → List (List Sight)
picks tr [] = [] ∷ []
picks tr (a ∷ acts) = flat_map (λ s. map (λ ss. s ∷ ss) (picks tr acts)) (sights a.pattern.name tr)

-- the first of these of which it is so
abbrev pub IsFirst : {X : Type 0} → (X → Type 0) → List X → X → Type 0
IsFirst {X} P xs x = (before : List X) × (after : List X) × (xs ≡ before ++ x ∷ after) × EachIn (λ y. P y → ⊥) before × P x

-- a choice for these binders under which each guard picks its fact and B is so
abbrev pub Shown : Equations → (Sort → Tree → Type 0) → (ℕ → Type 0) → List Binder → List Action → (Choice → Times → Type 0) → Choice → Times → List Sight → Type 0
Shown e D P bs acts B σ τ ss = Exists D P bs (λ σ' τ'. AllZip (IsPicked e σ' τ') acts ss × B σ' τ') σ τ

-- choices that are told
abbrev pub Reason : Type 1
Reason = List Chosen → Type 0

-- no choice
abbrev pub none : Reason
none out = out ≡ []

-- both reasons, one behind the other
abbrev pub joined : Reason → Reason → Reason
joined A B out = (cs : List Chosen) × (ds : List Chosen) × A cs × B ds × (out ≡ cs ++ ds)

-- the reason of the first part where P is so, else that of the second
abbrev pub first_of : Type 0 → Reason → Reason → Reason
first_of P A B out = (P × A out) ⊎ ((P → ⊥) × B out)

-- the binders with what they stand for, and then the reason under it
abbrev pub told : List Binder → Choice → Times → Reason → Reason
told bs σ τ R out = (cs : List Chosen) × R cs × (out ≡ map (λ b. record { binder = b; value = value σ τ b }) bs ++ cs)

-- the first choice under which B is so, by what the guards pick, and then the reason under it
abbrev pub choosing : Equations → Trace → (Sort → Tree → Type 0) → (ℕ → Type 0) → List Binder → List Action → (Choice → Times → Type 0) → (Choice → Times → Reason) → Choice → Times → Reason
choosing e tr D P bs acts B R σ τ out =
    (ss : List Sight) × IsFirst (Shown e D P bs acts B σ τ) (picks tr acts) ss × Shown e D P bs acts (λ σ' τ'. B σ' τ' × told bs σ' τ' (R σ' τ') out) σ τ ss

-- the choices that show that a formula that binds no name twice is true under these choices, or that it isn't
abbrev pub IsReasonUnder : Equations → Trace → (Sort → Tree → Type 0) → (ℕ → Type 0) → Form → Bool → Choice → Times → Reason
IsReasonUnder e tr D P truth b σ τ = none
IsReasonUnder e tr D P falsity b σ τ = none
IsReasonUnder e tr D P (action f i) b σ τ = none
IsReasonUnder e tr D P (equal s t) b σ τ = none
IsReasonUnder e tr D P (same_time i j) b σ τ = none
IsReasonUnder e tr D P (earlier i j) b σ τ = none
IsReasonUnder e tr D P (negation f) b σ τ = IsReasonUnder e tr D P f (not b) σ τ
IsReasonUnder e tr D P (both f g) true σ τ = joined (IsReasonUnder e tr D P f true σ τ) (IsReasonUnder e tr D P g true σ τ)
IsReasonUnder e tr D P (both f g) false σ τ = first_of (Is false (IsTrueUnder e tr D P f σ τ)) (IsReasonUnder e tr D P f false σ τ) (IsReasonUnder e tr D P g false σ τ)
IsReasonUnder e tr D P (either f g) true σ τ = first_of (Is true (IsTrueUnder e tr D P f σ τ)) (IsReasonUnder e tr D P f true σ τ) (IsReasonUnder e tr D P g true σ τ)
IsReasonUnder e tr D P (either f g) false σ τ = joined (IsReasonUnder e tr D P f false σ τ) (IsReasonUnder e tr D P g false σ τ)
IsReasonUnder e tr D P (implies f g) true σ τ = first_of (Is false (IsTrueUnder e tr D P f σ τ)) (IsReasonUnder e tr D P f false σ τ) (IsReasonUnder e tr D P g true σ τ)
IsReasonUnder e tr D P (implies f g) false σ τ = joined (IsReasonUnder e tr D P f true σ τ) (IsReasonUnder e tr D P g false σ τ)
IsReasonUnder e tr D P (equivalent f g) b σ τ = none
IsReasonUnder e tr D P (every bs f) true σ τ = none
IsReasonUnder e tr D P (every bs f) false σ τ = choosing e tr D P bs (guards (premise f)) (λ σ' τ'. Is false (IsTrueUnder e tr D P f σ' τ')) (IsReasonUnder e tr D P f false) σ τ
IsReasonUnder e tr D P (exists bs f) true σ τ = choosing e tr D P bs (guards f) (λ σ' τ'. Is true (IsTrueUnder e tr D P f σ' τ')) (IsReasonUnder e tr D P f true) σ τ
IsReasonUnder e tr D P (exists bs f) false σ τ = none

-- the choices that show that a closed formula is true on a trace, or that it isn't; binders that a later one of their quantifier hides
-- are left out
abbrev pub IsReason : Sig → Form → Trace → Bool → Reason
IsReason g f tr b = IsReasonUnder (equations g) tr (IsMessage g) (IsTime tr) (slim f) b (λ v. variable v) (λ n. 0)

-- no choices where the formula's truth isn't this, else those of the reason
abbrev pub Explains : Sig → Form → Trace → Bool → Option (List Chosen) → Type 0
Explains g f tr b None = Is b (IsTrueOn g f tr) → ⊥
Explains g f tr b (Some cs) = Is b (IsTrueOn g f tr) × IsReason g f tr b cs
