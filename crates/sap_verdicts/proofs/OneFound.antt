-- One thing is found of each formula, and some.
use Rattle.std.proofs.Common.{◌≡◌, List, [], ◌∷◌, refl, sym, ap, subst, ◌∙◌, true, false}
use Rattle.sap_formula.specs.Form.{Form}
use Rattle.sap_formula.specs.Laws.{IsClosed}
use Rattle.sap_formula.specs.Truth.{EachIn}
use Rattle.sap_judge.specs.Laws.{OneReasonLaw, OneVerdictLaw, SomeReasonLaw, SomeVerdictLaw}
use Rattle.sap_judge.specs.Verdict.{IsVerdict}
use Rattle.sap_judge.specs.declared.verdict.Verdict.{Verdict}
use Rattle.sap_judge.specs.declared.verdict.Verdict.TheVariants.{Holds, Fails, TooCostly}
use Rattle.sap_search.specs.Claims.{Chosen}
use Rattle.sap_terms.specs.Message.{IsMessageTrace}
use Rattle.sap_terms.specs.Signature.{Sig}
use Rattle.sap_terms.specs.Trace.{Trace}
use Rattle.sap_verdicts.specs.Findings.{AreFound, Found, IsFound, IsReasonFor, Stated}
use Rattle.sap_verdicts.specs.OneFinding.{OneFinding}

-- the laws of the judge
pub record Laws : Type 0 where
  pub verdict : OneVerdictLaw
  pub some_verdict : SomeVerdictLaw
  pub reason : OneReasonLaw
  pub some_reason : SomeReasonLaw

module _ (laws : Laws) (g : Sig) (tr : Trace) (messages : IsMessageTrace g tr) where
  one_reason : (f : Form) → IsClosed g f → (v : Verdict) (cs ds : List Chosen) → IsReasonFor g f tr v cs → IsReasonFor g f tr v ds → cs ≡ ds
  one_reason f closed Holds cs ds r s = laws.reason g f tr true messages closed cs ds r s
  one_reason f closed Fails cs ds r s = laws.reason g f tr false messages closed cs ds r s
  one_reason f closed (TooCostly c) cs ds r s = r ∙ sym s

  one_found : (x : Stated) → IsClosed g x.formula → (y z : Found) → IsFound g tr x y → IsFound g tr x z → y ≡ z
  one_found x closed y z a b =
      let verdict = laws.verdict g x.formula tr y.verdict z.verdict a.verdict b.verdict in
      let reason = one_reason x.formula closed z.verdict y.reason z.reason (subst (λ (v : Verdict). IsReasonFor g x.formula tr v y.reason) verdict a.reason) b.reason in
      λ i. record {
        name = (a.name ∙ sym b.name) i;
        what = (a.what ∙ sym b.what) i;
        verdict = verdict i;
        reason = reason i;
      }

  one_list : (xs : List Stated) (ys zs : List Found) → EachIn (λ (x : Stated). IsClosed g x.formula) xs → AreFound g tr xs ys → AreFound g tr xs zs → ys ≡ zs
  one_list [] [] [] c a b = refl
  one_list [] [] (z ∷ zs) c a b = absurd b
  one_list [] (y ∷ ys) zs c a b = absurd a
  one_list (x ∷ xs) [] zs c a b = absurd a
  one_list (x ∷ xs) (y ∷ ys) [] c a b = absurd b
  one_list (x ∷ xs) (y ∷ ys) (z ∷ zs) c a b =
      ap (λ (w : Found). w ∷ ys) (one_found x c.0 y z a.0 b.0) ∙ ap (λ (ws : List Found). z ∷ ws) (one_list xs ys zs c.1 a.1 b.1)

  some_reason : (f : Form) → IsClosed g f → (v : Verdict) → IsVerdict g f tr v → (cs : List Chosen) × IsReasonFor g f tr v cs
  some_reason f closed Holds is = laws.some_reason g f tr true messages closed is.1
  some_reason f closed Fails is = laws.some_reason g f tr false messages closed is.1
  some_reason f closed (TooCostly c) is = ([], refl)

  some_list : (xs : List Stated) → EachIn (λ (x : Stated). IsClosed g x.formula) xs → (ys : List Found) × AreFound g tr xs ys
  some_list [] c = ([], tt)
  some_list (x ∷ xs) c =
      let v = laws.some_verdict g x.formula tr messages c.0 in
      let r = some_reason x.formula c.0 v.0 v.1 in
      let rest = some_list xs c.1 in
      (record { name = x.name; what = x.what; verdict = v.0; reason = r.0 } ∷ rest.0, (record { name = refl; what = refl; verdict = v.1; reason = r.1 }, rest.1))

pub one_finding : Laws → OneFinding
one_finding laws = record {
  one = λ g tr xs ys zs messages closed a b. one_list laws g tr messages xs ys zs closed a b;
  some = λ g tr xs messages closed. some_list laws g tr messages xs closed;
}
