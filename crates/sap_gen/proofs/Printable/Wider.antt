-- What can be printed with short names can be printed where longer ones are allowed.
use Rattle.std.proofs.Common.{◌≤◌, ℕ, List, [], ◌∷◌, arith}
use Rattle.std.proofs.lemmas.List.Elements.{All-weaker}
use Rattle.sap_terms.specs.Signature.{Sig}
use Rattle.sap_terms.specs.Tree.{Tree, variable, public, fresh, apply, Trees, none, more, trees_of}
use Rattle.sap_terms.specs.declared.fact.Fact.{Fact}
use Rattle.sap_terms.specs.declared.signature.Symbol.{Symbol}
use Rattle.sap_formula.specs.Form.{Form, RestrictionForm, LemmaForm, truth, falsity, action, equal, same_time, earlier, negation, both, either, implies, equivalent, every, exists}
use Rattle.sap_formula.specs.declared.binder.Binder.{Binder}
use Rattle.sap_formula.specs.declared.binder.Binder.TheVariants.{Message, Time}
use Rattle.sap_process.specs.Action as act
use Rattle.sap_process.specs.Action.{Action}
use Rattle.sap_process.specs.Proc as whole
use Rattle.sap_process.specs.Proc.{Proc}
use Rattle.sap_grammar.specs.ByteWords.{IsName, IsContent}
use Rattle.sap_grammar.specs.Printable.{HasNames, HaveNames, FactHasNames, IsPrintableTerm, IsPrintableFact}
use Rattle.sap_statements.specs.Printable.{BindersHaveNames, FormHasNames, IsPrintableForm}
use Rattle.sap_read.specs.Printable.{IsPrintableAct, IsPrintableAction, IsPrintableProcess, IsDeclarable, IsPrintableRestriction, IsPrintableLemma}
use Rattle.sap_theory.specs.PrintableTheory as theory

module _ (most more_bytes : ℕ) (le : most ≤ more_bytes) where
  pub name_wider : (x : List ℕ) → IsName most x → IsName more_bytes x
  name_wider x h = record { is = h.is; no_grammar_word = h.no_grammar_word; short = omega (arith, h.short, le) }

  content_wider : (s : List ℕ) → IsContent most s → IsContent more_bytes s
  content_wider s h = record { is = h.is; short = omega (arith, h.short, le) }

  mutual
    names_wider : (t : Tree) → HasNames most t → HasNames more_bytes t
    names_wider (variable v) h = name_wider v.name h
    names_wider (public n) h = content_wider n h
    names_wider (fresh i) h = absurd h
    names_wider (apply f ts) h = (λ e. name_wider f (h.0 e), all_names_wider ts h.1)

    all_names_wider : (ts : Trees) → HaveNames most ts → HaveNames more_bytes ts
    all_names_wider none h = tt
    all_names_wider (more t ts) h = (names_wider t h.0, all_names_wider ts h.1)

  fact_names_wider : (f : Fact) → FactHasNames most f → FactHasNames more_bytes f
  fact_names_wider f h = (name_wider f.name h.0, all_names_wider (trees_of f.args) h.1)

  binders_wider : (bs : List Binder) → BindersHaveNames most bs → BindersHaveNames more_bytes bs
  binders_wider [] h = tt
  binders_wider (Message v ∷ bs) h = (name_wider v.name h.0, binders_wider bs h.1)
  binders_wider (Time i ∷ bs) h = (name_wider i h.0, binders_wider bs h.1)

  form_names_wider : (f : Form) → FormHasNames most f → FormHasNames more_bytes f
  form_names_wider truth h = tt
  form_names_wider falsity h = tt
  form_names_wider (action f i) h = (fact_names_wider f h.0, name_wider i h.1)
  form_names_wider (equal t u) h = (names_wider t h.0, names_wider u h.1)
  form_names_wider (same_time i j) h = (name_wider i h.0, name_wider j h.1)
  form_names_wider (earlier i j) h = (name_wider i h.0, name_wider j h.1)
  form_names_wider (negation f) h = form_names_wider f h
  form_names_wider (both f k) h = (form_names_wider f h.0, form_names_wider k h.1)
  form_names_wider (either f k) h = (form_names_wider f h.0, form_names_wider k h.1)
  form_names_wider (implies f k) h = (form_names_wider f h.0, form_names_wider k h.1)
  form_names_wider (equivalent f k) h = (form_names_wider f h.0, form_names_wider k h.1)
  form_names_wider (every bs f) h = (binders_wider bs h.0, form_names_wider f h.1)
  form_names_wider (exists bs f) h = (binders_wider bs h.0, form_names_wider f h.1)

  pub symbol_wider : (s : Symbol) → IsDeclarable most s → theory.IsPrintableSymbol more_bytes s
  symbol_wider s h = record { lower = h.lower; few = h.few; name = name_wider s.name h.name }

  module _ (g : Sig) where
    term_wider : (t : Tree) → IsPrintableTerm most g t → IsPrintableTerm more_bytes g t
    term_wider t h = record { tidy = h.tidy; names = names_wider t h.names }

    fact_wider : (f : Fact) → IsPrintableFact most g f → IsPrintableFact more_bytes g f
    fact_wider f h = record { tidy = h.tidy; names = fact_names_wider f h.names }

    act_wider : (f : Fact) → IsPrintableAct most g f → IsPrintableAct more_bytes g f
    act_wider f h = record { printable = fact_wider f h.printable; linear = h.linear }

    form_wider : (f : Form) → IsPrintableForm most g f → IsPrintableForm more_bytes g f
    form_wider f h = record { tidy = h.tidy; names = form_names_wider f h.names; sorted = h.sorted }

    pub restriction_wider : (r : RestrictionForm) → IsPrintableRestriction most g r → theory.IsPrintableRestriction more_bytes g r
    restriction_wider r h = record { name = name_wider r.name h.name; formula = form_wider r.formula h.formula }

    pub lemma_wider : (l : LemmaForm) → IsPrintableLemma most g l → theory.IsPrintableLemma more_bytes g l
    lemma_wider l h = record { name = name_wider l.name h.name; attributes = h.attributes; formula = form_wider l.formula h.formula }

    action_wider : (a : Action) → IsPrintableAction most g a → IsPrintableAction more_bytes g a
    action_wider (act.new x) h = term_wider (variable x) h
    action_wider (act.out t) h = term_wider t h
    action_wider (act.send t u) h = (term_wider t h.0, term_wider u h.1)
    action_wider (act.input t) h = term_wider t h
    action_wider (act.receive t u) h = (term_wider t h.0, term_wider u h.1)
    action_wider (act.event f) h = act_wider f h
    action_wider (act.insert t u) h = (term_wider t h.0, term_wider u h.1)
    action_wider (act.delete t) h = term_wider t h
    action_wider (act.lock t n) h = term_wider t h
    action_wider (act.unlock t n) h = term_wider t h
    action_wider (act.embedded l e r) h = (
      All-weaker (IsPrintableFact most g) (IsPrintableFact more_bytes g) fact_wider l h.0,
      All-weaker (IsPrintableAct most g) (IsPrintableAct more_bytes g) act_wider e h.1,
      All-weaker (IsPrintableFact most g) (IsPrintableFact more_bytes g) fact_wider r h.2,
    )

    pub process_wider : (p : Proc) → IsPrintableProcess most g p → IsPrintableProcess more_bytes g p
    process_wider whole.nil h = tt
    process_wider (whole.parallel p q) h = (process_wider p h.0, process_wider q h.1)
    process_wider (whole.replicated p) h = process_wider p h
    process_wider (whole.act a p) h = (action_wider a h.0, process_wider p h.1)
    process_wider (whole.test t u p q) h = (term_wider t h.0, term_wider u h.1, process_wider p h.2, process_wider q h.3)
    process_wider (whole.lookup t x p q) h = (term_wider t h.0, term_wider (variable x) h.1, process_wider p h.2, process_wider q h.3)
