-- What a step of a short run means. It is said of configurations alone: the adversary's entries are not
-- written down in a short run.
use Rattle.std.specs.Prelude.{ℕ, List, [], ◌∷◌}
use Rattle.sap_terms.specs.AdversaryFacts.{k_fact}
use Rattle.sap_terms.specs.Equations.{equations}
use Rattle.sap_terms.specs.Message.{IsOver}
use Rattle.sap_terms.specs.Normal.{IsNormalForm}
use Rattle.sap_terms.specs.Signature.{Sig}
use Rattle.sap_terms.specs.Tree.{Tree}
use Rattle.sap_terms.specs.View.{tree}
use Rattle.sap_terms.specs.declared.fact.Fact.{Fact}
use Rattle.sap_terms.specs.declared.term.Term.{Term}
use Rattle.sap_process.specs.Configuration.{Config, CanGive}
use Rattle.sap_runs.specs.Inner.{InnerAction}
use Rattle.sap_runs.specs.Short.{MayStand}
use Rattle.sap_runs.specs.declared.process_step.PStep.{PStep}
use Rattle.sap_runs.specs.declared.process_step.PStep.TheVariants as line
use Rattle.sap_runs.specs.declared.short_step.SStep.{SStep}
use Rattle.sap_runs.specs.declared.short_step.SStep.TheVariants as short
use Rattle.sap_lines.specs.Lines.{IsProcessLine}

-- the written term is over the signature, this is its normal form, and the adversary can give that
pub record IsGiven (g : Sig) (c : Config) (u : Term) (x : Tree) : Type 0 where
  pub over : IsOver g (tree u)
  pub form : IsNormalForm (equations g) (tree u) x
  pub gives : CanGive g c x

-- The configuration before, the step, what is done inside, the label, and the configuration behind it.
-- Each normal form that is evaluated is as W says.
pub data IsShortLine (g : Sig) (W : Tree → Type 0) (c : Config)
    : SStep → List InnerAction → List Fact → Config → Type 0 where
  -- the line is possible as it stands, without entries
  acts : {d : Config} {s : PStep} {inner : List InnerAction} {label : List Fact} {fs : List Tree}
      → MayStand s → IsProcessLine g W c [] s inner label d fs
      → IsShortLine g W c (short.Act s) inner label d
  -- the thread takes what the term is, which the adversary can give
  takes : {d : Config} {t : ℕ} {u : Term} {x : Tree} {inner : List InnerAction} {label : List Fact}
      {fs : List Tree} → IsGiven g c u x
      → IsProcessLine g W c (x ∷ []) (line.In t 0) inner label d fs
      → IsShortLine g W c (short.In t u) inner label d
  -- the thread sends on its channel, which the adversary can give
  sends : {d : Config} {t : ℕ} {x : Tree} {inner : List InnerAction} {label : List Fact}
      {fs : List Tree} → CanGive g c x
      → IsProcessLine g W c (x ∷ []) (line.Send t 0) inner label d fs
      → IsShortLine g W c (short.Send t) inner label d
  -- the adversary shows what the term is, which it can give
  knows : {u : Term} {x : Tree} → IsGiven g c u x
      → IsShortLine g W c (short.Know u) [] (k_fact x ∷ []) c
