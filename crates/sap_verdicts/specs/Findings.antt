-- What is found of a file's formulas on a trace: of each its verdict, and why.
use Rattle.std.specs.Prelude.{◌≡◌, ℕ, true, false, List, [], ◌++◌, map}
use Rattle.std.specs.List.{AllZip}
use Rattle.sap_formula.specs.Form.{Form, LemmaForm, RestrictionForm}
use Rattle.sap_judge.specs.Reasons.{IsReason}
use Rattle.sap_judge.specs.Verdict.{IsVerdict}
use Rattle.sap_judge.specs.declared.verdict.Verdict.{Verdict}
use Rattle.sap_judge.specs.declared.verdict.Verdict.TheVariants.{Holds, Fails, TooCostly}
use Rattle.sap_search.specs.Claims.{Chosen}
use Rattle.sap_terms.specs.Signature.{Sig}
use Rattle.sap_terms.specs.Trace.{Trace}
use Rattle.sap_verdicts.specs.declared.statement.Statement.{Statement}
use Rattle.sap_verdicts.specs.declared.statement.Statement.TheVariants.{Restriction, Lemma}

-- a formula of a file under its name, and what it is
pub record Stated : Type 0 where
  pub name : List ℕ
  pub what : Statement
  pub formula : Form

abbrev pub stated_restriction : RestrictionForm → Stated
stated_restriction r = record { name = r.name; what = Restriction; formula = r.formula }

abbrev pub stated_lemma : LemmaForm → Stated
stated_lemma l = record { name = l.name; what = Lemma l.mode; formula = l.formula }

-- each restriction, and then each lemma, in order
abbrev pub all_stated : List RestrictionForm → List LemmaForm → List Stated
all_stated rs ls = map stated_restriction rs ++ map stated_lemma ls

-- what is found of one: its verdict, and the choices of the reason for it
pub record Found : Type 0 where
  pub name : List ℕ
  pub what : Statement
  pub verdict : Verdict
  pub reason : List Chosen

-- the choices are the reason for the truth value of the verdict; there are none where it has none
abbrev pub IsReasonFor : Sig → Form → Trace → Verdict → List Chosen → Type 0
IsReasonFor g f tr Holds cs = IsReason g f tr true cs
IsReasonFor g f tr Fails cs = IsReason g f tr false cs
IsReasonFor g f tr (TooCostly cost) cs = cs ≡ []

-- this is found of the formula on the trace
pub record IsFound (g : Sig) (tr : Trace) (x : Stated) (y : Found) : Type 0 where
  pub name : y.name ≡ x.name
  pub what : y.what ≡ x.what
  pub verdict : IsVerdict g x.formula tr y.verdict
  pub reason : IsReasonFor g x.formula tr y.verdict y.reason

-- and so of each, in order
abbrev pub AreFound : Sig → Trace → List Stated → List Found → Type 0
AreFound g tr xs ys = AllZip (IsFound g tr) xs ys
