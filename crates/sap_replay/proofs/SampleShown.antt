-- At how many times a run of the sample shows something.
use Rattle.std.proofs.Common.{◌≡◌, ◌+◌, ◌*◌, ℕ, zero, suc, List, [], ◌∷◌, ◌++◌, length, refl, ◌∙◌, arith}
use Rattle.std.specs.Prelude.{⊤}
use Rattle.std.proofs.lemmas.List.{length-append}
use Rattle.sap_terms.specs.Signature.{Sig}
use Rattle.sap_terms.specs.Trace.{Trace, shown}
use Rattle.sap_terms.specs.Tree.{Tree}
use Rattle.sap_terms.specs.declared.fact.Fact.{Fact}
use Rattle.sap_process.specs.Configuration.{Config}
use Rattle.sap_process.specs.Proc.{Proc}
use Rattle.sap_runs.specs.Inner.{InnerAction}
use Rattle.sap_runs.specs.Marks.{Mark}
use Rattle.sap_runs.specs.declared.process_step.PStep.{PStep}
use Rattle.sap_runs.specs.declared.process_step.PStep.TheVariants as line
use Rattle.sap_lines.specs.Lines.{IsProcessLine}
use Rattle.sap_lines.specs.Runs.{IsLegalProcessRun}
use Rattle.sap_replay.specs.Sample.{session, sample_lines}

-- at how many times a line shows something; what an embedded rule shows, its facts say
abbrev times : PStep → ℕ
times (line.Send t k) = 1
times (line.In t k) = 1
times (line.Event t) = 1
times (line.Know k) = 1
times _ = 0

-- the line uses no embedded rule
abbrev IsPlain : PStep → Type 0
IsPlain (line.Embedded t ks b) = ⊥
IsPlain _ = ⊤

abbrev AllPlain : List PStep → Type 0
AllPlain [] = ⊤
AllPlain (step ∷ lines) = IsPlain step × AllPlain lines

abbrev times_of : List PStep → ℕ
times_of [] = 0
times_of (step ∷ lines) = times step + times_of lines

plain_both : (xs ys : List PStep) → AllPlain xs → AllPlain ys → AllPlain (xs ++ ys)
plain_both [] ys h k = k
plain_both (x ∷ xs) ys h k = (h.0, plain_both xs ys h.1 k)

plain_first : (xs ys : List PStep) → AllPlain (xs ++ ys) → AllPlain xs
plain_first [] ys h = tt
plain_first (x ∷ xs) ys h = (h.0, plain_first xs ys h.1)

plain_last : (xs ys : List PStep) → AllPlain (xs ++ ys) → AllPlain ys
plain_last [] ys h = h
plain_last (x ∷ xs) ys h = plain_last xs ys h.1

times_both : (xs ys : List PStep) → times_of (xs ++ ys) ≡ times_of xs + times_of ys
times_both [] ys = omega arith
times_both (x ∷ xs) ys = let h = times_both xs ys in omega arith

module _ {g : Sig} {W : Tree → Type 0} where
  -- what one line shows
  shown_by : {c d : Config} {es fs : List Tree} {step : PStep} {inner : List InnerAction} {label : List Fact} → IsProcessLine g W c es step inner label d fs → IsPlain step → length (shown label) ≡ times step
  shown_by (IsProcessLine.ends t runs) plain = refl
  shown_by (IsProcessLine.splits t runs) plain = refl
  shown_by (IsProcessLine.copies t runs) plain = refl
  shown_by (IsProcessLine.makes_name t n runs unused) plain = refl
  shown_by (IsProcessLine.outputs t runs form within) plain = refl
  shown_by (IsProcessLine.outputs_on t k runs at form form_too within) plain = refl
  shown_by (IsProcessLine.inputs t k σ runs at fits) plain = refl
  shown_by (IsProcessLine.inputs_on t k σ runs at messages equal within) plain = refl
  shown_by (IsProcessLine.meets s t σ runs runs_too equal fits within) plain = refl
  shown_by (IsProcessLine.agrees t runs form form_too same within) plain = refl
  shown_by (IsProcessLine.differs t runs form form_too other within) plain = refl
  shown_by (IsProcessLine.shows t runs form within) plain = refl
  shown_by (IsProcessLine.inserts t runs form form_too within) plain = refl
  shown_by (IsProcessLine.deletes t runs form within) plain = refl
  shown_by (IsProcessLine.finds t runs form at within) plain = refl
  shown_by (IsProcessLine.misses t runs form at within) plain = refl
  shown_by (IsProcessLine.locks t runs form free within) plain = refl
  shown_by (IsProcessLine.unlocks t runs form within) plain = refl
  shown_by (IsProcessLine.embeds t ks b σ left acts right runs messages vars agrees equal takes forms forms_too within) plain = absurd plain
  shown_by (IsProcessLine.names n unused) plain = refl
  shown_by (IsProcessLine.writes a) plain = refl
  shown_by (IsProcessLine.applies f ks ts x is_public arity at form within) plain = refl
  shown_by (IsProcessLine.knows k x at) plain = refl

  -- what lines show
  shown_by_all : {p : Proc} {lines : List PStep} {c : Config} {es : List Tree} {tr : Trace} {marks : List Mark} → IsLegalProcessRun g W p lines c es tr marks → AllPlain lines → length tr ≡ times_of lines
  shown_by_all IsLegalProcessRun.starts plain = refl
  shown_by_all (IsLegalProcessRun.further {lines} {c} {d} {es} {fs} {tr} {marks} step inner label run possible) plain =
      let h = shown_by_all run (plain_first lines (step ∷ []) plain) in
      let now = shown_by possible (plain_last lines (step ∷ []) plain).0 in
      let l = length-append tr (shown label) in
      let t = times_both lines (step ∷ []) in
      omega arith

plain_session : (m : ℕ) → AllPlain (session m)
plain_session m = (tt, (tt, (tt, (tt, (tt, (tt, (tt, (tt, (tt, tt)))))))))

plain_sample : (n : ℕ) → AllPlain (sample_lines n)
plain_sample zero = tt
plain_sample (suc m) = plain_both (sample_lines m) (session m) (plain_sample m) (plain_session m)

times_of_sample : (n : ℕ) → times_of (sample_lines n) ≡ 2 * n
times_of_sample zero = refl
times_of_sample (suc m) = let h = times_of_sample m in let t = times_both (sample_lines m) (session m) in omega arith

-- twice a session
pub shown_by_sample : (g : Sig) (W : Tree → Type 0) (p : Proc) (n : ℕ) (c : Config) (es : List Tree) (tr : Trace) (marks : List Mark) → IsLegalProcessRun g W p (sample_lines n) c es tr marks → length tr ≡ 2 * n
shown_by_sample g W p n c es tr marks run = shown_by_all run (plain_sample n) ∙ times_of_sample n
