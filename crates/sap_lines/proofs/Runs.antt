-- Lines are steps, and written runs are runs.
use Rattle.std.proofs.Common.{◌≡◌, ℕ, List, [], ◌∷◌, ◌++◌, Some, refl, sym, ap, ◌∙◌, subst, append-nil, arith}
use Rattle.std.specs.Prelude.{Contains, slice_index_or}
use Rattle.std.proofs.lemmas.List.Elements.{Contains-push, Contains-append_left}
use Rattle.sap_terms.specs.Equations.{equations}
use Rattle.sap_terms.specs.Laws.{LeavesAreNormal}
use Rattle.sap_terms.specs.Normal.{IsNormal}
use Rattle.sap_terms.specs.Signature.{Sig}
use Rattle.sap_terms.specs.Trace.{Trace, shown}
use Rattle.sap_terms.specs.Tree.{Tree, public, fresh}
use Rattle.sap_terms.specs.declared.fact.Fact.{Fact}
use Rattle.sap_rewrite.specs.Laws.{FormIsOne, FormsDecide}
use Rattle.sap_process.specs.Configuration.{Config, initial}
use Rattle.sap_process.specs.ProcessSteps.{ProcessStep, ProcessRun}
use Rattle.sap_runs.specs.declared.process_step.PStep.{PStep}
use Rattle.sap_runs.specs.declared.process_step.PStep.TheVariants as line
use Rattle.sap_lines.specs.Lines.{IsProcessLine}
use Rattle.sap_lines.specs.Runs.{IsLegalProcessRun, IsStepOf, CanGiveEach, ProcessLinesAreSteps, ProcessLinesAreRuns, SmallProcessLinesAreLines, SmallProcessRunsAreLegal}
use Rattle.sap_lines.proofs.Given.{gives_more, gives_push, gives_public, gives_name, gives_sent, gives_applied}
use Rattle.sap_lines.proofs.Named.{contains_numbers}
use Rattle.sap_terms.proofs.PlainLaws.Items.{contains_got}

-- what is sent is one entry more
sent : (g : Sig) (c d : Config) (es : List Tree) (y : Tree) → d.own ≡ c.own → d.frame ≡ c.frame ++ y ∷ [] → CanGiveEach g c es → IsNormal (equations g) y → CanGiveEach g d (es ++ y ∷ [])
sent g c d es y o f e n =
    gives_push g d es y (gives_more g c d es (λ i m. subst (λ ns. Contains ns i) (sym o) m) (λ x m. subst (λ ts. Contains ts x) (sym f) (Contains-append_left c.frame (y ∷ []) x m)) e)
    (gives_sent g d y (subst (λ ts. Contains ts y) (sym f) (Contains-push c.frame y)) n)

module _ (one_form : FormIsOne) (decide : FormsDecide) (leaves : LeavesAreNormal) where
  -- the entries stay, and so do the names and what was sent
  abbrev stays : (g : Sig) (c d : Config) (es : List Tree) → ((n : ℕ) → Contains c.own n → Contains d.own n) → ((x : Tree) → Contains c.frame x → Contains d.frame x) → CanGiveEach g c es → CanGiveEach g d es
  stays = gives_more

  pub line_step : (W : Tree → Type 0) → ProcessLinesAreSteps W
  line_step W g c d es fs step inner label e (IsProcessLine.ends t r) = (ProcessStep.ends t r, stays g c d es (λ n m. m) (λ x m. m) e)
  line_step W g c d es fs step inner label e (IsProcessLine.splits t r) = (ProcessStep.splits t r, stays g c d es (λ n m. m) (λ x m. m) e)
  line_step W g c d es fs step inner label e (IsProcessLine.copies t r) = (ProcessStep.copies t r, stays g c d es (λ n m. m) (λ x m. m) e)
  line_step W g c d es fs step inner label e (IsProcessLine.makes_name t n r u) = (ProcessStep.makes_name t n r u, stays g c d es (λ n m. m) (λ x m. m) e)
  line_step W g c d es fs step inner label e (IsProcessLine.outputs {n = n} t r f v) = (ProcessStep.outputs t r f, sent g c d es n refl refl e f.normal)
  line_step W g c d es fs step inner label e (IsProcessLine.outputs_on {x = x} {u = u} t k r h f i v) =
      (ProcessStep.outputs_on t r f (e x (contains_got es x k h)) i, sent g c d es u refl refl e i.normal)
  line_step W g c d es fs step inner label e (IsProcessLine.inputs {x = x} t k σ r h f) =
      (ProcessStep.inputs t σ r (e x (contains_got es x k h)) f, stays g c d es (λ n m. m) (λ x m. m) e)
  line_step W g c d es fs step inner label e (IsProcessLine.inputs_on {x = x} t k σ r h m q v) =
      (ProcessStep.inputs_on t σ r (e x (contains_got es x k h)) m q, stays g c d es (λ n m. m) (λ x m. m) e)
  line_step W g c d es fs step inner label e (IsProcessLine.meets s t σ r q h f v) = (ProcessStep.meets s t σ r q h f, stays g c d es (λ n m. m) (λ x m. m) e)
  line_step W g c d es fs step inner label e (IsProcessLine.agrees {m = m} {n = n} {x = x} {y = y} t r f h same v) =
      (ProcessStep.agrees t r ((decide (equations g) m n x y f h).1 same), stays g c d es (λ n m. m) (λ x m. m) e)
  line_step W g c d es fs step inner label e (IsProcessLine.differs {m = m} {n = n} {x = x} {y = y} t r f h differ v) =
      (ProcessStep.differs t r (λ k. differ ((decide (equations g) m n x y f h).0 k)), stays g c d es (λ n m. m) (λ x m. m) e)
  line_step W g c d es fs step inner label e (IsProcessLine.shows t r f v) = (ProcessStep.shows t r f, stays g c d es (λ n m. m) (λ x m. m) e)
  line_step W g c d es fs step inner label e (IsProcessLine.inserts t r f h v) = (ProcessStep.inserts t r f h, stays g c d es (λ n m. m) (λ x m. m) e)
  line_step W g c d es fs step inner label e (IsProcessLine.deletes t r f v) = (ProcessStep.deletes t r f, stays g c d es (λ n m. m) (λ x m. m) e)
  line_step W g c d es fs step inner label e (IsProcessLine.finds t r f h v) = (ProcessStep.finds t r f h, stays g c d es (λ n m. m) (λ x m. m) e)
  line_step W g c d es fs step inner label e (IsProcessLine.misses t r f h v) = (ProcessStep.misses t r f h, stays g c d es (λ n m. m) (λ x m. m) e)
  line_step W g c d es fs step inner label e (IsProcessLine.locks t r f h v) = (ProcessStep.locks t r f h, stays g c d es (λ n m. m) (λ x m. m) e)
  line_step W g c d es fs step inner label e (IsProcessLine.unlocks t r f v) = (ProcessStep.unlocks t r f, stays g c d es (λ n m. m) (λ x m. m) e)
  line_step W g c d es fs step inner label e (IsProcessLine.embeds t ks b σ left acts right r m q a i j k l v) =
      (ProcessStep.embeds t ks σ left acts right r m i j k l, stays g c d es (λ n m. m) (λ x m. m) e)
  line_step W g c d es fs step inner label e (IsProcessLine.names n u) =
      (ProcessStep.adversary_makes n u, gives_push g d es (fresh n) (stays g c d es (λ i m. Contains-append_left c.own (n ∷ []) i m) (λ x m. m) e) (gives_name leaves g d n (Contains-push c.own n)))
  line_step W g c d es fs step inner label e (IsProcessLine.writes a) = ((refl, refl), gives_push g c es (public a) e (gives_public leaves g c a))
  line_step W g c d es fs step inner label e (IsProcessLine.applies f ks ts x p a h n v) =
      let at = contains_numbers es ks ts h in
      ((refl, refl), gives_push g c es x e (gives_applied one_form g c f ts x p (a ∙ ap Some at.1) (λ k z below. e (slice_index_or ts k z) (at.0 k z below)) n))
  line_step W g c d es fs step inner label e (IsProcessLine.knows k x h) = (ProcessStep.knows x (e x (contains_got es x k h)), e)

  -- what a line stands for leads a run on
  goes_on : (g : Sig) (origin c d : Config) (tr : Trace) (step : PStep) (label : List Fact) → ProcessRun g origin c tr → IsStepOf g c step label d → ProcessRun g origin d (tr ++ shown label)
  goes_on g origin c d tr (line.Public a) label run h = rw (h.0, h.1, append-nil tr) run
  goes_on g origin c d tr (line.Apply f ks) label run h = rw (h.0, h.1, append-nil tr) run
  goes_on g origin c d tr _ label run h = ProcessRun.further run h

  pub legal_run : (W : Tree → Type 0) → ProcessLinesAreRuns W
  legal_run W g p lines c es tr marks IsLegalProcessRun.starts = (ProcessRun.starts, λ x m. absurd (omega (arith, m.1)))
  legal_run W g p lines d fs full marks (IsLegalProcessRun.further {lines = before} {c = c} {es = es} {tr = tr} {marks = earlier} step inner label run is) =
      let h = legal_run W g p before c es tr earlier run in
      let k = line_step W g c d es fs step inner label h.1 is in
      (goes_on g (initial p) c d tr step label h.0 k.0, k.1)

-- the limit only excludes
pub small_line : SmallProcessLinesAreLines
small_line g c d es fs step inner label (IsProcessLine.ends t r) = IsProcessLine.ends t r
small_line g c d es fs step inner label (IsProcessLine.splits t r) = IsProcessLine.splits t r
small_line g c d es fs step inner label (IsProcessLine.copies t r) = IsProcessLine.copies t r
small_line g c d es fs step inner label (IsProcessLine.makes_name t n r u) = IsProcessLine.makes_name t n r u
small_line g c d es fs step inner label (IsProcessLine.outputs t r f v) = IsProcessLine.outputs t r f (λ n h. tt)
small_line g c d es fs step inner label (IsProcessLine.outputs_on t k r h f i v) = IsProcessLine.outputs_on t k r h f i (λ n h. tt)
small_line g c d es fs step inner label (IsProcessLine.inputs t k σ r h f) = IsProcessLine.inputs t k σ r h f
small_line g c d es fs step inner label (IsProcessLine.inputs_on t k σ r h m q v) = IsProcessLine.inputs_on t k σ r h m q (λ n h. tt)
small_line g c d es fs step inner label (IsProcessLine.meets s t σ r q h f v) = IsProcessLine.meets s t σ r q h f (λ n h. tt)
small_line g c d es fs step inner label (IsProcessLine.agrees t r f h same v) = IsProcessLine.agrees t r f h same (λ n h. tt)
small_line g c d es fs step inner label (IsProcessLine.differs t r f h differ v) = IsProcessLine.differs t r f h differ (λ n h. tt)
small_line g c d es fs step inner label (IsProcessLine.shows t r f v) = IsProcessLine.shows t r f (λ n h. tt)
small_line g c d es fs step inner label (IsProcessLine.inserts t r f h v) = IsProcessLine.inserts t r f h (λ n h. tt)
small_line g c d es fs step inner label (IsProcessLine.deletes t r f v) = IsProcessLine.deletes t r f (λ n h. tt)
small_line g c d es fs step inner label (IsProcessLine.finds t r f h v) = IsProcessLine.finds t r f h (λ n h. tt)
small_line g c d es fs step inner label (IsProcessLine.misses t r f h v) = IsProcessLine.misses t r f h (λ n h. tt)
small_line g c d es fs step inner label (IsProcessLine.locks t r f h v) = IsProcessLine.locks t r f h (λ n h. tt)
small_line g c d es fs step inner label (IsProcessLine.unlocks t r f v) = IsProcessLine.unlocks t r f (λ n h. tt)
small_line g c d es fs step inner label (IsProcessLine.embeds t ks b σ left acts right r m q a i j k l v) = IsProcessLine.embeds t ks b σ left acts right r m q a i j k l (λ n h. tt)
small_line g c d es fs step inner label (IsProcessLine.names n u) = IsProcessLine.names n u
small_line g c d es fs step inner label (IsProcessLine.writes a) = IsProcessLine.writes a
small_line g c d es fs step inner label (IsProcessLine.applies f ks ts x p a h n v) = IsProcessLine.applies f ks ts x p a h n tt
small_line g c d es fs step inner label (IsProcessLine.knows k x h) = IsProcessLine.knows k x h

pub small_run : SmallProcessRunsAreLegal
small_run g p lines c es tr marks IsLegalProcessRun.starts = IsLegalProcessRun.starts
small_run g p lines d fs full all (IsLegalProcessRun.further {lines = before} {c = c} {es = es} {tr = tr} {marks = marks} step inner label run is) =
    IsLegalProcessRun.further step inner label (small_run g p before c es tr marks run) (small_line g c d es fs step inner label is)
