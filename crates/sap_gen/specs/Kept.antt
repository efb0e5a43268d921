-- What a theory keeps of its file: what is shown, and which lemmas hold.
use Rattle.std.specs.Prelude.{◌≡◌, ◌↔◌, List, [], ◌++◌}
use Rattle.std.specs.List.{AllZip}
use Rattle.sap_terms.specs.Trace.{Trace}
use Rattle.sap_formula.specs.Form.{Form, RestrictionForm, LemmaForm}
use Rattle.sap_formula.specs.HoldsOf.{HoldsOf}
use Rattle.sap_formula.specs.Laws.{IsClosed}
use Rattle.sap_formula.specs.Truth.{EachIn}
use Rattle.sap_process.specs.ProcessSteps.{IsProcessTrace}
use Rattle.sap_restrict.specs.Inline.{formulas, inlined}
use Rattle.sap_restrict.specs.Restrictions.{needed_restrictions}
use Rattle.sap_rule.specs.RuleSteps.{IsFullTrace}
use Rattle.sap_rule.specs.declared.theory.Theory.{Theory}
use Rattle.sap_read.specs.Files.{FileContent}
use Rattle.sap_translate.specs.Faithful.{AreRestrictionsTrue, IsShownBy, IsVisibleTrace}
use Rattle.sap_gen.specs.Theories.{inlined_lemma, inlined_theory_of, theory_of}

-- the lemma holds of the file: of the traces of its process, among those on which its restrictions are true
abbrev pub HoldsOfFile : FileContent → LemmaForm → Type 0
HoldsOfFile f l =
    HoldsOf f.signature (IsProcessTrace f.signature f.process)
    (formulas f.restrictions) l.mode l.formula

-- the lemma holds of the theory: of the full traces of all finite runs of its rules, among those on which its restrictions are true
abbrev pub HoldsOfTheory : Theory → LemmaForm → Type 0
HoldsOfTheory t l =
    HoldsOf t.signature (IsFullTrace t.signature t.rules) (formulas t.restrictions) l.mode l.formula

-- m is what the theory has of the file's lemma l: its name, attributes and mode, with this formula; and m holds of the theory
-- exactly where l holds of the file
pub record IsKept (f : FileContent) (t : Theory) (formula_of : LemmaForm → Form)
    (l m : LemmaForm) : Type 0 where
  pub name : m.name ≡ l.name
  pub attributes : m.attributes ≡ l.attributes
  pub mode : m.mode ≡ l.mode
  pub formula : m.formula ≡ formula_of l
  pub holds : HoldsOfFile f l ↔ HoldsOfTheory t m

-- admitted runs of the theory's rules show what the file's process shows, and nothing else
abbrev pub ShowsFile : FileContent → Theory → Type 0
ShowsFile f t = (tr : Trace) → IsProcessTrace f.signature f.process tr
    ↔ IsVisibleTrace t.signature t.rules tr

-- where all of its restrictions are true, they show the traces of the process on which the file's restrictions are
abbrev pub ShowsRestricted : FileContent → Theory → Type 0
ShowsRestricted f t = (tr : Trace)
    → (IsProcessTrace f.signature f.process tr × AreRestrictionsTrue f.signature f.restrictions tr)
    ↔ IsShownBy t tr

-- the restrictions that the file's process needs, and then its own
abbrev pub all_restrictions : FileContent → List RestrictionForm
all_restrictions f = needed_restrictions f.process ++ f.restrictions

-- the theory of a file
abbrev pub file_theory : FileContent → Theory
file_theory f = theory_of f.name f.signature f.process f.restrictions f.lemmas

-- the one whose lemmas carry the restrictions
abbrev pub inlined_file_theory : FileContent → Theory
inlined_file_theory f = inlined_theory_of f.name f.signature f.process f.restrictions f.lemmas

-- a lemma of the file as it stands there
abbrev pub inlined_file_lemma : FileContent → LemmaForm → LemmaForm
inlined_file_lemma f l = inlined_lemma (formulas (all_restrictions f)) l

-- the theory shows what the file does; it has all those restrictions, and the file's lemmas in their order, each as it is
pub record KeepsFile (f : FileContent) (t : Theory) : Type 0 where
  pub name : t.name ≡ f.name
  pub signature : t.signature ≡ f.signature
  pub restrictions : t.restrictions ≡ all_restrictions f
  pub shows : ShowsFile f t
  pub shows_restricted : ShowsRestricted f t
  pub lemmas : AllZip (IsKept f t (λ (l : LemmaForm). l.formula)) f.lemmas t.lemmas

-- the theory shows what the file's process does; it has no restrictions, and the file's lemmas in their order, each with all those
-- restrictions in its formula
pub record KeepsFileInlined (f : FileContent) (t : Theory) : Type 0 where
  pub name : t.name ≡ f.name
  pub signature : t.signature ≡ f.signature
  pub restrictions : t.restrictions ≡ []
  pub shows : ShowsFile f t
  pub lemmas : AllZip (IsKept f t (λ (l : LemmaForm). inlined l.mode (formulas (all_restrictions f)) l.formula)) f.lemmas t.lemmas

-- each formula of the theory is checked, where facts may have any names
pub record IsClosedTheory (t : Theory) : Type 0 where
  pub restrictions : EachIn (λ (r : RestrictionForm). IsClosed t.signature r.formula) t.restrictions
  pub lemmas : EachIn (λ (l : LemmaForm). IsClosed t.signature l.formula) t.lemmas
