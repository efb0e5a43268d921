-- Lines of threads that run, and how many facts there are behind a line.
use Rattle.std.proofs.Common.{◌≡◌, ◌+◌, ℕ, List, length, Option, Some, None, map, ap, subst, ◌∙◌, arith}
use Rattle.std.proofs.lemmas.List.{length-map}
use Rattle.std.proofs.Common.{length-append}
use Rattle.std.specs.Global.{Box}
use Rattle.sap_calc.specs.ThreadHeads.{HasHead}
use Rattle.sap_lines.specs.Lines as lines
use Rattle.sap_lines.specs.Lines.{IsProcessLine}
use Rattle.sap_lines.specs.Places.{form_proc}
use Rattle.sap_lines.specs.declared.form.Form.{Form}
use Rattle.sap_process.specs.Action as action
use Rattle.sap_process.specs.Configuration.{Config, Runs}
use Rattle.sap_process.specs.Proc.{Proc, act}
use Rattle.sap_runs.specs.Inner.{InnerAction}
use Rattle.sap_runs.specs.Limits.{HasFewNodes}
use Rattle.sap_runs.specs.declared.process_step.PStep.{PStep}
use Rattle.sap_runs.specs.declared.process_step.PStep.TheVariants as line
use Rattle.sap_terms.specs.Modulo.{instance_facts}
use Rattle.sap_terms.specs.Piles.{Pile, adds}
use Rattle.sap_terms.specs.Signature.{Sig}
use Rattle.sap_terms.specs.Tree.{Tree}
use Rattle.sap_terms.specs.declared.fact.Fact.{Fact}
use Rattle.sap_teller.specs.code.Heads.{head_of, IsHead, added_by, count_added, form_at}
use Rattle.sap_teller.specs.declared.doing.Doing.{Doing}
use Rattle.sap_teller.proofs.Does.{DoesHere}
use Rattle.sap_teller.proofs.Embeds.{left_length, forms_length, length_instances}
use Rattle.sap_teller.proofs.Inverted.{rule_form}

-- some process runs as the thread
abbrev pub IsSomebody : Config → ℕ → Type 0
IsSomebody c t = (p : Proc) × Runs c t p

somebody : (c : Config) (s t : ℕ) (p : Proc) → Runs c s p → Some s ≡ Some t → IsSomebody c t
somebody c s t p r e = let same : s ≡ t = cc in (p, subst (λ (k : ℕ). Runs c k p) same r)

pub runs_some : {g : Sig} {c d : Config} {es fs : List Tree} {step : PStep} {inner : List InnerAction} {label : List Fact} (t : ℕ) → IsProcessLine g HasFewNodes c es step inner label d fs → head_of step ≡ Some t → IsSomebody c t
runs_some t (lines.ends s r) e = absurd (cc)
runs_some t (lines.splits s r) e = absurd (cc)
runs_some t (lines.copies s r) e = absurd (cc)
runs_some {c = c} t (lines.makes_name s n r u) e = somebody c s t _ r e
runs_some {c = c} t (lines.outputs s r f w) e = somebody c s t _ r e
runs_some {c = c} t (lines.outputs_on s k r i f h w) e = somebody c s t _ r e
runs_some {c = c} t (lines.inputs s k σ r i f) e = somebody c s t _ r e
runs_some {c = c} t (lines.inputs_on s k σ r i m q w) e = somebody c s t _ r e
runs_some {c = c} t (lines.meets s u σ q r i f w) e = somebody c u t _ r e
runs_some {c = c} t (lines.agrees s r f u i w) e = somebody c s t _ r e
runs_some {c = c} t (lines.differs s r f u i w) e = somebody c s t _ r e
runs_some {c = c} t (lines.shows s r f w) e = somebody c s t _ r e
runs_some {c = c} t (lines.inserts s r f u w) e = somebody c s t _ r e
runs_some {c = c} t (lines.deletes s r f w) e = somebody c s t _ r e
runs_some {c = c} t (lines.finds s r f i w) e = somebody c s t _ r e
runs_some {c = c} t (lines.misses s r f i w) e = somebody c s t _ r e
runs_some {c = c} t (lines.locks s r f i w) e = somebody c s t _ r e
runs_some {c = c} t (lines.unlocks s r f w) e = somebody c s t _ r e
runs_some {c = c} t (lines.embeds s ks b σ left acts right r m v a l k i q w) e = somebody c s t _ r e
runs_some t (lines.names n u) e = absurd (cc)
runs_some t (lines.writes a) e = absurd (cc)
runs_some t (lines.applies f ks ts x p a m n w) e = absurd (cc)
runs_some t (lines.knows k x i) e = absurd (cc)

-- so a line by the head of its thread has that head
pub by_head : {g : Sig} {c d : Config} {es fs : List Tree} {step : PStep} (x : Doing) (t : ℕ) (o : Option (Box Form)) (f : Form) → form_at o ≡ f → head_of step ≡ Some t → IsHead c (Some t) o → (HasHead c t f → DoesHere g c es d fs step x) → DoesHere g c es d fs step x
by_head x t None f here e none_is k ds inner label l = let some = runs_some t l e in absurd (none_is some.0 some.1)
by_head {c = c} x t (Some a) f here e h k ds inner label l = k (subst (λ (y : Form). HasHead c t y) here h) ds inner label l

pub by_sender : {g : Sig} {c d : Config} {es fs : List Tree} (x : Doing) (s t : ℕ) (o : Option (Box Form)) (f : Form) → form_at o ≡ f → IsHead c (Some s) o → (HasHead c s f → DoesHere g c es d fs (line.Sync s t) x) → DoesHere g c es d fs (line.Sync s t) x
by_sender x s t None f here none_is k ds inner label (lines.meets {m = m} {n = n} {p = p} _ _ σ q r i h w) = absurd (none_is (act (action.send m n) p) q)
by_sender {c = c} x s t (Some a) f here h k ds inner label l = k (subst (λ (y : Form). HasHead c s y) here h) ds inner label l

none_added : (facts : Pile) → length facts ≡ length facts + 0
none_added facts = omega arith

-- the facts behind a line
pub facts_grow : {g : Sig} {c d : Config} {es fs : List Tree} {step : PStep} {inner : List InnerAction} {label : List Fact} (o : Option (Box Form)) → IsHead c (head_of step) o → IsProcessLine g HasFewNodes c es step inner label d fs → length d.facts ≡ length c.facts + added_by step (form_at o)
facts_grow {c = c} o h (lines.ends s r) = none_added c.facts
facts_grow {c = c} o h (lines.splits s r) = none_added c.facts
facts_grow {c = c} o h (lines.copies s r) = none_added c.facts
facts_grow {c = c} o h (lines.makes_name s n r u) = none_added c.facts
facts_grow {c = c} o h (lines.outputs s r i w) = none_added c.facts
facts_grow {c = c} o h (lines.outputs_on s k r i a b w) = none_added c.facts
facts_grow {c = c} o h (lines.inputs s k σ r i a) = none_added c.facts
facts_grow {c = c} o h (lines.inputs_on s k σ r i m q w) = none_added c.facts
facts_grow {c = c} o h (lines.meets s u σ q r i a w) = none_added c.facts
facts_grow {c = c} o h (lines.agrees s r a u i w) = none_added c.facts
facts_grow {c = c} o h (lines.differs s r a u i w) = none_added c.facts
facts_grow {c = c} o h (lines.shows s r a w) = none_added c.facts
facts_grow {c = c} o h (lines.inserts s r a u w) = none_added c.facts
facts_grow {c = c} o h (lines.deletes s r a w) = none_added c.facts
facts_grow {c = c} o h (lines.finds s r a i w) = none_added c.facts
facts_grow {c = c} o h (lines.misses s r a i w) = none_added c.facts
facts_grow {c = c} o h (lines.locks s r a i w) = none_added c.facts
facts_grow {c = c} o h (lines.unlocks s r a w) = none_added c.facts
facts_grow {g = g} {c = c} None none_is (lines.embeds {l = l} {e = e} {r = r} {p = p} s ks b σ left acts right run m v a q takes i j w) = absurd (none_is (act (action.embedded l e r) p) run)
facts_grow {g = g} {c = c} (Some f) h (lines.embeds {l = l} {e = e} {r = r} {rest = rest} {p = p} s ks b σ left acts right run m v a q takes i j w) =
    let process : form_proc f.value h.first h.second ≡ act (action.embedded l e r) p = cc (h.runs, run) in
    let form_is = rule_form f.value l e r p h.first h.second process in
    let count : count_added f.value ≡ length r = ap count_added form_is in
    let many : length right ≡ length r = forms_length g (instance_facts σ r) right j ∙ length_instances σ r in
    let start : length rest ≡ length c.facts = left_length takes in
    let all : length (adds rest right) ≡ length rest + length (map (λ (x : Fact). Some x) right) = length-append rest (map (λ (x : Fact). Some x) right) in
    let mapped : length (map (λ (x : Fact). Some x) right) ≡ length right = length-map right (λ (x : Fact). Some x) in
    omega (arith, all, mapped, start, many, count)
facts_grow {c = c} o h (lines.names n u) = none_added c.facts
facts_grow {c = c} o h (lines.writes a) = none_added c.facts
facts_grow {c = c} o h (lines.applies s ks ts x p a m n w) = none_added c.facts
facts_grow {c = c} o h (lines.knows k x i) = none_added c.facts
