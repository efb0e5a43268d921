-- Truth of a formula on a trace.
use Rattle.std.specs.Prelude.{◌≡◌, ℕ, zero, suc, ◌<◌, ◌⊎◌, ◌↔◌, List, [], ◌∷◌, if◌then◌else◌}
use Rattle.std.specs.List.{AllZip}
use Rattle.std.specs.Str.{bytes_eq}
use Rattle.sap_terms.specs.Tree.{Tree, variable}
use Rattle.sap_terms.specs.Choice.{Choice, instance}
use Rattle.sap_terms.specs.Equal.{IsTheoryEqual}
use Rattle.sap_terms.specs.Signature.{Sig}
use Rattle.sap_terms.specs.Equations.{Equations, equations}
use Rattle.sap_terms.specs.declared.var.Var.{Var}
use Rattle.sap_terms.specs.declared.var.Sort.{Sort}
use Rattle.sap_terms.specs.declared.fact.Fact.{Fact}
use Rattle.sap_formula.specs.Form.{Form, truth, falsity, action, equal, same_time, earlier, negation, both, either, implies, equivalent, every, exists}
use Rattle.sap_terms.specs.Message.{IsMessage}
use Rattle.sap_terms.specs.Trace.{Trace}
use Rattle.sap_formula.specs.Times.{IsTime}
use Rattle.sap_formula.specs.declared.binder.Binder.{Binder}
use Rattle.sap_formula.specs.declared.binder.Binder.TheVariants.{Message, Time}

-- a time for each time variable, by its name
abbrev pub Times : Type 0
Times = List ℕ → ℕ

-- the choice, but that variables of this one's name stand for the tree
abbrev pub bind : Var → Tree → Choice → Choice
bind v t σ = λ (w : Var). if bytes_eq v.name w.name then t else σ w

-- the times, but that this name stands for time k
abbrev pub stamp : List ℕ → ℕ → Times → Times
stamp n k τ = λ m. if bytes_eq n m then k else τ m

-- the facts of a time, none past the end
abbrev pub facts_at : Trace → ℕ → List Fact
facts_at [] k = []
facts_at (p ∷ ps) zero = p
facts_at (p ∷ ps) (suc k) = facts_at ps k

-- some element has the property
abbrev pub AnyIn : {X : Type 0} → (X → Type 0) → List X → Type 0
AnyIn P [] = ⊥
AnyIn P (x ∷ xs) = P x ⊎ AnyIn P xs

-- each element has the property
abbrev pub EachIn : {X : Type 0} → (X → Type 0) → List X → Type 0
EachIn P [] = Unit {0}
EachIn P (x ∷ xs) = P x × EachIn P xs

-- the trace's fact x has the name of f and arguments theory-equal to those of f's instance, one by one
abbrev pub Shows : Equations → Choice → Fact → Fact → Type 0
Shows e σ f x = (f.name ≡ x.name) × AllZip (λ s t. IsTheoryEqual e (instance σ s) t) f.args x.args

-- for each term of D and each time of P in turn
abbrev pub Every : (Sort → Tree → Type 0) → (ℕ → Type 0) → List Binder → (Choice → Times → Type 0)
    → Choice → Times → Type 0
Every D P [] B σ τ = B σ τ
Every D P (Message v ∷ bs) B σ τ = (t : Tree) → D v.sort t → Every D P bs B (bind v t σ) τ
Every D P (Time n ∷ bs) B σ τ = (k : ℕ) → P k → Every D P bs B σ (stamp n k τ)

-- for some term of D and some time of P in turn
abbrev pub Exists : (Sort → Tree → Type 0) → (ℕ → Type 0) → List Binder → (Choice → Times → Type 0)
    → Choice → Times → Type 0
Exists D P [] B σ τ = B σ τ
Exists D P (Message v ∷ bs) B σ τ = (t : Tree) × D v.sort t × Exists D P bs B (bind v t σ) τ
Exists D P (Time n ∷ bs) B σ τ = (k : ℕ) × P k × Exists D P bs B σ (stamp n k τ)

-- truth on a trace, where message variables stand for what σ chooses and time variables for what τ says, and
-- quantifiers range over the terms of D, by sort, and the times of P
abbrev pub IsTrueUnder : Equations → Trace → (Sort → Tree → Type 0) → (ℕ → Type 0) → Form → Choice
    → Times → Type 0
IsTrueUnder e tr D P truth σ τ = Unit {0}
IsTrueUnder e tr D P falsity σ τ = ⊥
IsTrueUnder e tr D P (action f i) σ τ = AnyIn (Shows e σ f) (facts_at tr (τ i))
IsTrueUnder e tr D P (equal s t) σ τ = IsTheoryEqual e (instance σ s) (instance σ t)
IsTrueUnder e tr D P (same_time i j) σ τ = τ i ≡ τ j
IsTrueUnder e tr D P (earlier i j) σ τ = τ i < τ j
IsTrueUnder e tr D P (negation f) σ τ = IsTrueUnder e tr D P f σ τ → ⊥
IsTrueUnder e tr D P (both f g) σ τ = IsTrueUnder e tr D P f σ τ × IsTrueUnder e tr D P g σ τ
IsTrueUnder e tr D P (either f g) σ τ = IsTrueUnder e tr D P f σ τ ⊎ IsTrueUnder e tr D P g σ τ
IsTrueUnder e tr D P (implies f g) σ τ = IsTrueUnder e tr D P f σ τ → IsTrueUnder e tr D P g σ τ
IsTrueUnder e tr D P (equivalent f g) σ τ = IsTrueUnder e tr D P f σ τ ↔ IsTrueUnder e tr D P g σ τ
IsTrueUnder e tr D P (every bs f) σ τ = Every D P bs (IsTrueUnder e tr D P f) σ τ
IsTrueUnder e tr D P (exists bs f) σ τ = Exists D P bs (IsTrueUnder e tr D P f) σ τ

-- a closed formula is true on a trace: message variables range over the ground normal terms of their sort over the
-- signature, time variables over the times of the trace
abbrev pub IsTrueOn : Sig → Form → Trace → Type 0
IsTrueOn g f tr =
    IsTrueUnder (equations g) tr (IsMessage g) (IsTime tr) f (λ v. variable v) (λ n. 0)
