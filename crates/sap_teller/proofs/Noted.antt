-- The names that are noted are those that were drawn behind the line.
use Rattle.std.proofs.Common.{◌≡◌, ℕ, List, Option, Some, None, refl, sym, ap, ◌∙◌}
use Rattle.std.specs.Global.{Box}
use Rattle.sap_called.specs.Names.{Draw, draw, with_draw}
use Rattle.sap_lines.specs.Lines as lines
use Rattle.sap_lines.specs.Lines.{IsProcessLine}
use Rattle.sap_lines.specs.Places.{form_proc}
use Rattle.sap_lines.specs.declared.form.Form.{Form}
use Rattle.sap_process.specs.Action as action
use Rattle.sap_process.specs.Configuration.{Config, Runs}
use Rattle.sap_process.specs.Proc.{Proc, act}
use Rattle.sap_runs.specs.Inner.{InnerAction}
use Rattle.sap_runs.specs.Limits.{HasFewNodes}
use Rattle.sap_runs.specs.declared.process_step.PStep.{PStep}
use Rattle.sap_runs.specs.declared.process_step.PStep.TheVariants as line
use Rattle.sap_terms.specs.Signature.{Sig}
use Rattle.sap_terms.specs.Tree.{Tree}
use Rattle.sap_terms.specs.declared.fact.Fact.{Fact}
use Rattle.sap_terms.specs.declared.var.Var.{Var}
use Rattle.sap_tell.specs.Draws.{draws_after, word_at}
use Rattle.sap_teller.specs.code.Heads.{IsHead, form_at, head_of, noted}
use Rattle.sap_teller.proofs.Inverted.{new_form}

one_thread : (c : Config) (t : ℕ) (p q : Proc) → Runs c t p → Runs c t q → p ≡ q
one_thread c t p q a b = cc

-- a thread's name is noted by the variable that stands at its head
made_noted : (ds : List Draw) (c : Config) (t n : ℕ) (v : Var) (p : Proc) (o : Option (Box Form)) → IsHead c (Some t) o → Runs c t (act (action.new v) p)
    → noted ds (line.New t n) (form_at o) ≡ draws_after ds c (line.New t n)
made_noted ds c t n v p None none_is r = absurd (none_is (act (action.new v) p) r)
made_noted ds c t n v p (Some a) h r =
    let head = new_form a.value v p h.first h.second (one_thread c t (form_proc a.value h.first h.second) (act (action.new v) p) h.runs r) in
    ap (noted ds (line.New t n)) head ∙ sym (ap (λ w. with_draw ds (draw n (word_at w))) r)

pub noted_is : {g : Sig} {c d : Config} {es fs : List Tree} {step : PStep} {inner : List InnerAction} {label : List Fact} (ds : List Draw) (o : Option (Box Form)) → IsHead c (head_of step) o
    → IsProcessLine g HasFewNodes c es step inner label d fs → noted ds step (form_at o) ≡ draws_after ds c step
noted_is ds o h (lines.ends t r) = refl
noted_is ds o h (lines.splits t r) = refl
noted_is ds o h (lines.copies t r) = refl
noted_is {c = c} ds o h (lines.makes_name {x = v} {p = p} t n r u) = made_noted ds c t n v p o h r
noted_is ds o h (lines.outputs t r f w) = refl
noted_is ds o h (lines.outputs_on t k r e f i w) = refl
noted_is ds o h (lines.inputs t k σ r e f) = refl
noted_is ds o h (lines.inputs_on t k σ r e m q w) = refl
noted_is ds o h (lines.meets s t σ r u q f w) = refl
noted_is ds o h (lines.agrees t r f u e w) = refl
noted_is ds o h (lines.differs t r f u e w) = refl
noted_is ds o h (lines.shows t r f w) = refl
noted_is ds o h (lines.inserts t r f u w) = refl
noted_is ds o h (lines.deletes t r f w) = refl
noted_is ds o h (lines.finds t r f e w) = refl
noted_is ds o h (lines.misses t r f e w) = refl
noted_is ds o h (lines.locks t r f e w) = refl
noted_is ds o h (lines.unlocks t r f w) = refl
noted_is ds o h (lines.embeds t ks b σ left acts right r m v a l k e q w) = refl
noted_is ds o h (lines.names n u) = refl
noted_is ds o h (lines.writes a) = refl
noted_is ds o h (lines.applies f ks ts x p a m n w) = refl
noted_is ds o h (lines.knows k x e) = refl
