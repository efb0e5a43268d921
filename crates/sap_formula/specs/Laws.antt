-- The laws of checked formulas.
use Rattle.std.specs.Prelude.{◌≡◌, ℕ, Bool, true, false, ◌↔◌, ◌⊎◌, List, [], Some}
use Rattle.std.specs.List.{AllZip}
use Rattle.sap_formula.specs.Checked.{AreCheckedTerms, BindsOnce, IsApart, IsChecked, IsCheckedTerm, NoTwice, binder_name, enter, find_binder}
use Rattle.sap_formula.specs.Faults.{HasNoFault, IsFirstFault}
use Rattle.sap_formula.specs.Filled.{filled}
use Rattle.sap_formula.specs.Form.{Form}
use Rattle.sap_formula.specs.Hide.{hide, is_hidden}
use Rattle.sap_formula.specs.Messages.{HasMessages, IsNormalEnv}
use Rattle.sap_formula.specs.Slim.{slim}
use Rattle.sap_formula.specs.Sorted.{with_sorts}
use Rattle.sap_formula.specs.Subterms.{IsSeenMessage}
use Rattle.sap_formula.specs.Times.{IsTime}
use Rattle.sap_formula.specs.Truth.{EachIn, IsTrueOn, IsTrueUnder, facts_at}
use Rattle.sap_formula.specs.declared.binder.Binder.{Binder}
use Rattle.sap_formula.specs.declared.fault.FormulaFlaw.{FormulaFlaw}
use Rattle.sap_terms.specs.Choice.{Choice, instance, instances}
use Rattle.sap_terms.specs.Equal.{IsTheoryEqual}
use Rattle.sap_terms.specs.Equations.{equations}
use Rattle.sap_terms.specs.Message.{IsMessageTrace}
use Rattle.sap_terms.specs.Normal.{AreNormal, IsNormal}
use Rattle.sap_terms.specs.Signature.{Sig}
use Rattle.sap_terms.specs.Trace.{Trace}
use Rattle.sap_terms.specs.Tree.{Tree, trees_of, variable}

-- the names of facts that a check allows: where reserved ones are looked for, those that aren't hidden
abbrev pub Allowed : Bool → List ℕ → Type 0
Allowed true n = is_hidden n ≡ false
Allowed false n = Unit {0}

-- checked and closed, whatever the names of its facts
abbrev pub IsClosed : Sig → Form → Type 0
IsClosed g f = IsChecked g (Allowed false) [] f

-- checked and closed, and no fact of it is hidden
abbrev pub IsCheckedVisible : Sig → Form → Type 0
IsCheckedVisible g f = IsChecked g (Allowed true) [] f

-- message variables may range over the subterms of the trace's facts alone
abbrev pub SubtermLaw : Type 0
SubtermLaw =
    (g : Sig) (f : Form) (tr : Trace) → IsMessageTrace g tr → IsClosed g f → BindsOnce f → IsTrueOn g f tr ↔ IsTrueUnder (equations g) tr (IsSeenMessage g tr) (IsTime tr) f (λ v. variable v) (λ n. 0)

-- a binder that a later one of its quantifier hides doesn't change truth
abbrev pub HiddenBinderLaw : Type 0
HiddenBinderLaw = (g : Sig) (f : Form) (tr : Trace) → IsClosed g f → IsTrueOn g f tr ↔ IsTrueOn g (slim f) tr

-- hiding keeps the truth of a formula that doesn't speak of what is hidden
abbrev pub HideLaw : Type 0
HideLaw = (g : Sig) (f : Form) (tr : Trace) → IsMessageTrace g tr → IsCheckedVisible g f → IsTrueOn g f tr ↔ IsTrueOn g f (hide tr)

-- empty times aren't seen: a closed formula, whatever names it has, is true with them exactly where it is without
abbrev pub FilledLaw : Type 0
FilledLaw = (g : Sig) (f : Form) (tr : Trace) → IsMessageTrace g tr → IsClosed g f → IsTrueOn g f tr ↔ IsTrueOn g f (filled tr)

-- nor by hiding, which leaves none
abbrev pub HideFilledLaw : Type 0
HideFilledLaw = (tr : Trace) → hide (filled tr) ≡ hide tr

-- a formula without a fault is checked once it has the sorts of its binders
abbrev pub CheckLaw : Type 0
CheckLaw = (g : Sig) (r : Bool) (f : Form) → HasNoFault g r f → IsChecked g (Allowed r) [] (with_sorts [] f)

-- what was checked is closed, whatever names of facts it allows
abbrev pub ClosedLaw : Type 0
ClosedLaw = (g : Sig) (r : Bool) (f : Form) → IsChecked g (Allowed r) [] f → IsClosed g f

-- one fault counts, with one name
abbrev pub OneFaultLaw : Type 0
OneFaultLaw =
    (g : Sig) (r : Bool) (f : Form) (w v : FormulaFlaw) (name other : List ℕ) → IsFirstFault g r f w name → IsFirstFault g r f v other → (w ≡ v) × (name ≡ other)

-- and then the formula isn't without a fault
abbrev pub NoFaultLaw : Type 0
NoFaultLaw = (g : Sig) (r : Bool) (f : Form) (w : FormulaFlaw) (name : List ℕ) → IsFirstFault g r f w name → HasNoFault g r f → ⊥

-- a formula has no fault, or one that counts
abbrev pub SomeFaultLaw : Type 0
SomeFaultLaw = (g : Sig) (r : Bool) (f : Form) → HasNoFault g r f ⊎ ((w : FormulaFlaw) × (name : List ℕ) × IsFirstFault g r f w name)

-- a checked term is normal where its variables stand for normal terms
abbrev pub CheckedTermLaw : Type 0
CheckedTermLaw = (g : Sig) (scope : List Binder) (σ : Choice) (t : Tree) → IsCheckedTerm g scope t → IsNormalEnv (equations g) σ → IsNormal (equations g) (instance σ t)

-- so checked terms that are then theory-equal to normal ones, one by one, are these
abbrev pub CheckedArgsLaw : Type 0
CheckedArgsLaw =
    (g : Sig) (scope : List Binder) (σ : Choice) (ss ts : List Tree) → AreCheckedTerms g scope (trees_of ss) → IsNormalEnv (equations g) σ → AreNormal (equations g) (trees_of ts) → AllZip (λ s t. IsTheoryEqual (equations g) (instance σ s) t) ss ts → instances σ (trees_of ss) ≡ trees_of ts

-- each fact that a trace of messages shows at a time has messages
abbrev pub MessageFactsLaw : Type 0
MessageFactsLaw = (g : Sig) (tr : Trace) → IsMessageTrace g tr → (k : ℕ) → EachIn (HasMessages g) (facts_at tr k)

-- inside a quantifier that binds no name twice each of its binders is found under its name
abbrev pub OwnBinderLaw : Type 0
OwnBinderLaw = (bs scope : List Binder) → NoTwice bs → EachIn (λ b. find_binder (enter bs scope) (binder_name b) ≡ Some b) bs

-- and under a name that it doesn't bind what is found outside
abbrev pub OtherBinderLaw : Type 0
OtherBinderLaw = (bs scope : List Binder) (n : List ℕ) → IsApart bs n → find_binder (enter bs scope) n ≡ find_binder scope n

-- a closed formula stays closed without the binders that later ones of their quantifier hide
abbrev pub SlimClosedLaw : Type 0
SlimClosedLaw = (g : Sig) (f : Form) → IsClosed g f → IsClosed g (slim f)

-- and then no quantifier binds one name twice
abbrev pub SlimOnceLaw : Type 0
SlimOnceLaw = (f : Form) → BindsOnce (slim f)
