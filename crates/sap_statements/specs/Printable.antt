-- Formulas that are spelled as they are printed.
use Rattle.std.specs.Prelude.{◌≡◌, ℕ, Bool, false, List, [], ◌∷◌}
use Rattle.sap_terms.specs.declared.var.Sort.{Sort}
use Rattle.sap_terms.specs.declared.var.Sort.TheVariants.{Msg, Fresh, Pub}
use Rattle.sap_terms.specs.Tree.{Tree, variable, public, fresh, apply, none, more, trees_of}
use Rattle.sap_terms.specs.Signature.{Sig}
use Rattle.sap_terms.specs.Message.{IsOver, AreOver}
use Rattle.sap_formula.specs.Form.{Form, truth, falsity, action, equal, same_time, earlier, negation, both, either, implies, equivalent, every, exists}
use Rattle.sap_formula.specs.declared.binder.Binder.{Binder}
use Rattle.sap_formula.specs.declared.binder.Binder.TheVariants.{Message, Time}
use Rattle.sap_grammar.specs.ByteWords.{IsName}
use Rattle.sap_grammar.specs.Printable.{IsTidy, IsTidyFact, HasNames, FactHasNames}
use Rattle.sap_formula_grammar.specs.FormulaGrammar.{is_truth_name}
use Rattle.sap_statements.specs.Sorted.{plainly_sorted}

-- it is written as the name of a truth value
abbrev pub is_written_as_truth : Tree → Bool
is_written_as_truth (variable v) = is_plain_truth v.sort v.name
  where
    is_plain_truth : Sort → List ℕ → Bool
    is_plain_truth Msg x = is_truth_name x
    is_plain_truth Fresh x = false
    is_plain_truth Pub x = false
is_written_as_truth (public n) = false
is_written_as_truth (fresh i) = false
is_written_as_truth (apply f none) = is_truth_name f
is_written_as_truth (apply f (more t ts)) = false

-- at least one
abbrev pub AreSome : List Binder → Type 0
AreSome [] = ⊥
AreSome (b ∷ bs) = Unit {0}

-- action facts are linear and begin with a capital; no equation begins with `T` or `F`; a quantifier binds something
abbrev pub IsTidyForm : Sig → Form → Type 0
IsTidyForm g truth = Unit {0}
IsTidyForm g falsity = Unit {0}
IsTidyForm g (action f i) = (f.persistent ≡ false) × IsTidyFact g f
IsTidyForm g (equal t u) = (is_written_as_truth t ≡ false) × IsTidy g t × IsTidy g u
IsTidyForm g (same_time i j) = Unit {0}
IsTidyForm g (earlier i j) = Unit {0}
IsTidyForm g (negation f) = IsTidyForm g f
IsTidyForm g (both f h) = IsTidyForm g f × IsTidyForm g h
IsTidyForm g (either f h) = IsTidyForm g f × IsTidyForm g h
IsTidyForm g (implies f h) = IsTidyForm g f × IsTidyForm g h
IsTidyForm g (equivalent f h) = IsTidyForm g f × IsTidyForm g h
IsTidyForm g (every bs f) = AreSome bs × IsTidyForm g f
IsTidyForm g (exists bs f) = AreSome bs × IsTidyForm g f

-- the signature holds each symbol with its arity
abbrev pub IsFormOver : Sig → Form → Type 0
IsFormOver g truth = Unit {0}
IsFormOver g falsity = Unit {0}
IsFormOver g (action f i) = AreOver g (trees_of f.args)
IsFormOver g (equal t u) = IsOver g t × IsOver g u
IsFormOver g (same_time i j) = Unit {0}
IsFormOver g (earlier i j) = Unit {0}
IsFormOver g (negation f) = IsFormOver g f
IsFormOver g (both f h) = IsFormOver g f × IsFormOver g h
IsFormOver g (either f h) = IsFormOver g f × IsFormOver g h
IsFormOver g (implies f h) = IsFormOver g f × IsFormOver g h
IsFormOver g (equivalent f h) = IsFormOver g f × IsFormOver g h
IsFormOver g (every bs f) = IsFormOver g f
IsFormOver g (exists bs f) = IsFormOver g f

-- a bound name is one of at most so many bytes
abbrev pub BinderHasName : ℕ → Binder → Type 0
BinderHasName most (Message v) = IsName most v.name
BinderHasName most (Time i) = IsName most i

-- each of these
abbrev pub BindersHaveNames : ℕ → List Binder → Type 0
BindersHaveNames most [] = Unit {0}
BindersHaveNames most (b ∷ bs) = BinderHasName most b × BindersHaveNames most bs

-- what is written as a name is one
abbrev pub FormHasNames : ℕ → Form → Type 0
FormHasNames most truth = Unit {0}
FormHasNames most falsity = Unit {0}
FormHasNames most (action f i) = FactHasNames most f × IsName most i
FormHasNames most (equal t u) = HasNames most t × HasNames most u
FormHasNames most (same_time i j) = IsName most i × IsName most j
FormHasNames most (earlier i j) = IsName most i × IsName most j
FormHasNames most (negation f) = FormHasNames most f
FormHasNames most (both f h) = FormHasNames most f × FormHasNames most h
FormHasNames most (either f h) = FormHasNames most f × FormHasNames most h
FormHasNames most (implies f h) = FormHasNames most f × FormHasNames most h
FormHasNames most (equivalent f h) = FormHasNames most f × FormHasNames most h
FormHasNames most (every bs f) = BindersHaveNames most bs × FormHasNames most f
FormHasNames most (exists bs f) = BindersHaveNames most bs × FormHasNames most f

-- words can spell the formula, what is written in it as a name is one, and its plain variables have the sorts of their binders
pub record IsPrintableForm (most : ℕ) (g : Sig) (f : Form) : Type 0 where
  pub tidy : IsTidyForm g f
  pub names : FormHasNames most f
  pub sorted : f ≡ plainly_sorted [] f
