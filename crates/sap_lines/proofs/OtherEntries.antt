-- Lines that ask the same of their entries do the same, and are refused for the same causes.
use Rattle.std.proofs.Common.{◌≡◌, ℕ, Bool, List, [], ◌∷◌, ◌++◌, Some, None, slice_get, refl, sym, ap, subst, ◌∙◌, append-nil}
use Rattle.sap_terms.specs.Signature.{Sig}
use Rattle.sap_terms.specs.Tree.{Tree}
use Rattle.sap_terms.specs.declared.fact.Fact.{Fact}
use Rattle.sap_process.specs.Configuration.{Config}
use Rattle.sap_process.specs.Proc.{Proc}
use Rattle.sap_runs.specs.Inner.{InnerAction}
use Rattle.sap_runs.specs.Short.{MayStand}
use Rattle.sap_runs.specs.declared.process_step.PStep.{PStep}
use Rattle.sap_runs.specs.declared.process_step.PStep.TheVariants as line
use Rattle.sap_lines.specs.Faults.{IsRefused, IsUnfit, not_running, other_form, HasEntry, has_form}
use Rattle.sap_lines.specs.Lines.{IsProcessLine}
use Rattle.sap_lines.specs.OtherEntries.{ask_nothing, send_on, take_in, show_known, IsDoneToo, LinesThatAskTheSameDoTheSame, LinesThatAskTheSameAreRefusedTheSame}
use Rattle.sap_lines.specs.declared.fault.PFault.{PFault}
use Rattle.sap_lines.proofs.Outcomes.{one_entry}

-- ---- lines that are possible

-- a line that adds nothing
kept : {g : Sig} {W : Tree → Type 0} {c d : Config} {us : List Tree} {step : PStep} {inner : List InnerAction} {label : List Fact} (es : List Tree)
    → IsProcessLine g W c us step inner label d us → IsDoneToo g W c es us step inner label d es
kept {g = g} {W = W} {c = c} {d = d} {us = us} {step = step} {inner = inner} {label = label} es h = record {
  added = [];
  first = sym (append-nil es);
  second = subst (λ (ts : List Tree). IsProcessLine g W c us step inner label d ts) (sym (append-nil us)) h;
}

-- a line that adds one entry
pushed : {g : Sig} {W : Tree → Type 0} {c d : Config} {us : List Tree} {step : PStep} {inner : List InnerAction} {label : List Fact} (es : List Tree) (x : Tree)
    → IsProcessLine g W c us step inner label d (us ++ x ∷ []) → IsDoneToo g W c es us step inner label d (es ++ x ∷ [])
pushed es x h = record { added = x ∷ []; first = refl; second = h }

alone_done : (g : Sig) (W : Tree → Type 0) (c d : Config) (es us fs : List Tree) (step : PStep) (inner : List InnerAction) (label : List Fact) → MayStand step
    → IsProcessLine g W c es step inner label d fs → IsDoneToo g W c es us step inner label d fs
alone_done g W c d es us fs step inner label m (IsProcessLine.ends t r) = kept es (IsProcessLine.ends t r)
alone_done g W c d es us fs step inner label m (IsProcessLine.splits t r) = kept es (IsProcessLine.splits t r)
alone_done g W c d es us fs step inner label m (IsProcessLine.copies t r) = kept es (IsProcessLine.copies t r)
alone_done g W c d es us fs step inner label m (IsProcessLine.makes_name t n r u) = kept es (IsProcessLine.makes_name t n r u)
alone_done g W c d es us fs step inner label m (IsProcessLine.outputs {n = n} t r f v) = pushed es n (IsProcessLine.outputs t r f v)
alone_done g W c d es us fs step inner label m (IsProcessLine.outputs_on t k r h f i v) = absurd m
alone_done g W c d es us fs step inner label m (IsProcessLine.inputs t k σ r h f) = absurd m
alone_done g W c d es us fs step inner label m (IsProcessLine.inputs_on t k σ r h n q v) = absurd m
alone_done g W c d es us fs step inner label m (IsProcessLine.meets s t σ r q h f v) = kept es (IsProcessLine.meets s t σ r q h f v)
alone_done g W c d es us fs step inner label m (IsProcessLine.agrees t r f h same v) = kept es (IsProcessLine.agrees t r f h same v)
alone_done g W c d es us fs step inner label m (IsProcessLine.differs t r f h differ v) = kept es (IsProcessLine.differs t r f h differ v)
alone_done g W c d es us fs step inner label m (IsProcessLine.shows t r f v) = kept es (IsProcessLine.shows t r f v)
alone_done g W c d es us fs step inner label m (IsProcessLine.inserts t r f h v) = kept es (IsProcessLine.inserts t r f h v)
alone_done g W c d es us fs step inner label m (IsProcessLine.deletes t r f v) = kept es (IsProcessLine.deletes t r f v)
alone_done g W c d es us fs step inner label m (IsProcessLine.finds t r f h v) = kept es (IsProcessLine.finds t r f h v)
alone_done g W c d es us fs step inner label m (IsProcessLine.misses t r f h v) = kept es (IsProcessLine.misses t r f h v)
alone_done g W c d es us fs step inner label m (IsProcessLine.locks t r f h v) = kept es (IsProcessLine.locks t r f h v)
alone_done g W c d es us fs step inner label m (IsProcessLine.unlocks t r f v) = kept es (IsProcessLine.unlocks t r f v)
alone_done g W c d es us fs step inner label m (IsProcessLine.embeds t ks b σ left acts right r i q a n j k l v) =
    kept es (IsProcessLine.embeds t ks b σ left acts right r i q a n j k l v)
alone_done g W c d es us fs step inner label m (IsProcessLine.names n u) = pushed es _ (IsProcessLine.names n u)
alone_done g W c d es us fs step inner label m (IsProcessLine.writes a) = absurd m
alone_done g W c d es us fs step inner label m (IsProcessLine.applies f ks ts x p a h n v) = absurd m
alone_done g W c d es us fs step inner label m (IsProcessLine.knows k x h) = absurd m

module _ (g : Sig) (W : Tree → Type 0) (c : Config) (es us : List Tree) (k i : ℕ) (x : Tree) (here : slice_get es k ≡ Some x) (there : slice_get us i ≡ Some x) where
  -- the entry's term stands at the other number
  other : (y : Tree) → slice_get es k ≡ Some y → slice_get us i ≡ Some y
  other y h = there ∙ ap Some (one_entry es k x y here h)

  sent_done : (t : ℕ) (d : Config) (fs : List Tree) (inner : List InnerAction) (label : List Fact) → IsProcessLine g W c es (line.Send t k) inner label d fs
      → IsDoneToo g W c es us (line.Send t i) inner label d fs
  sent_done t d fs inner label (IsProcessLine.outputs_on {x = y} {u = u} _ _ r h f n v) = pushed es u (IsProcessLine.outputs_on t i r (other y h) f n v)

  taken_done : (t : ℕ) (d : Config) (fs : List Tree) (inner : List InnerAction) (label : List Fact) → IsProcessLine g W c es (line.In t k) inner label d fs
      → IsDoneToo g W c es us (line.In t i) inner label d fs
  taken_done t d fs inner label (IsProcessLine.inputs {x = y} _ _ σ r h f) = kept es (IsProcessLine.inputs t i σ r (other y h) f)
  taken_done t d fs inner label (IsProcessLine.inputs_on {x = y} _ _ σ r h n q v) = kept es (IsProcessLine.inputs_on t i σ r (other y h) n q v)

  shown_done : (d : Config) (fs : List Tree) (inner : List InnerAction) (label : List Fact) → IsProcessLine g W c es (line.Know k) inner label d fs
      → IsDoneToo g W c es us (line.Know i) inner label d fs
  shown_done d fs inner label (IsProcessLine.knows _ y h) = kept es (IsProcessLine.knows i y (other y h))

pub lines_do_the_same : (W : Tree → Type 0) → LinesThatAskTheSameDoTheSame W
lines_do_the_same W g c d es us fs _ _ inner label (ask_nothing step m) h = alone_done g W c d es us fs step inner label m h
lines_do_the_same W g c d es us fs _ _ inner label (send_on t k i x a b) h = sent_done g W c es us k i x a b t d fs inner label h
lines_do_the_same W g c d es us fs _ _ inner label (take_in t k i x a b) h = taken_done g W c es us k i x a b t d fs inner label h
lines_do_the_same W g c d es us fs _ _ inner label (show_known k i x a b) h = shown_done g W c es us k i x a b d fs inner label h

-- ---- lines that are refused

-- a line that may stand in a short run names no entry
no_entry : (us : List Tree) (step : PStep) → MayStand step → HasEntry us step
no_entry us (line.Nil t) m = tt
no_entry us (line.Par t) m = tt
no_entry us (line.Rep t) m = tt
no_entry us (line.New t n) m = tt
no_entry us (line.Out t) m = tt
no_entry us (line.Send t k) m = absurd m
no_entry us (line.In t k) m = absurd m
no_entry us (line.Sync s t) m = tt
no_entry us (line.Then t) m = tt
no_entry us (line.Else t) m = tt
no_entry us (line.Event t) m = tt
no_entry us (line.Insert t) m = tt
no_entry us (line.Delete t) m = tt
no_entry us (line.Found t) m = tt
no_entry us (line.Missing t) m = tt
no_entry us (line.Lock t) m = tt
no_entry us (line.Unlock t) m = tt
no_entry us (line.Embedded t ks b) m = tt
no_entry us (line.Name n) m = tt
no_entry us (line.Public a) m = absurd m
no_entry us (line.Apply f ks) m = absurd m
no_entry us (line.Know k) m = absurd m

alone_refused : (g : Sig) (c : Config) (es us : List Tree) (step : PStep) (e : PFault) → MayStand step → IsRefused g c es step e → IsRefused g c us step e
alone_refused g c es us step e m (IsRefused.no_memory _) = IsRefused.no_memory step
alone_refused g c es us step e m (IsRefused.unfit t n u) = IsRefused.unfit t n u
alone_refused g c es us step e m (IsRefused.unfit_sender s t u) = IsRefused.unfit_sender s t u
alone_refused g c es us step e m (IsRefused.unfit_receiver s t r u) = IsRefused.unfit_receiver s t r u
alone_refused g c es us step e m (IsRefused.used_name t n r f u) = IsRefused.used_name t n r f u
alone_refused g c es us step e m (IsRefused.used_own n u) = IsRefused.used_own n u
alone_refused g c es us step e m (IsRefused.unknown_channel t k r f none) = absurd m
alone_refused g c es us step e m (IsRefused.unknown_input t k r f none) = absurd m
alone_refused g c es us step e m (IsRefused.unknown_shown k none) = absurd m
alone_refused g c es us step e m (IsRefused.large r h l) = IsRefused.large r (no_entry us step m) l
alone_refused g c es us step e m (IsRefused.large_meeting s t r q l) = IsRefused.large_meeting s t r q l
alone_refused g c es us step e m (IsRefused.other_channel t k r h v n) = absurd m
alone_refused g c es us step e m (IsRefused.unfitting t k r h n) = absurd m
alone_refused g c es us step e m (IsRefused.unfitting_part t k r h v n) = absurd m
alone_refused g c es us step e m (IsRefused.other_part t k σ r h v is f n) = absurd m
alone_refused g c es us step e m (IsRefused.unfitting_message s t r q v n) = IsRefused.unfitting_message s t r q v n
alone_refused g c es us step e m (IsRefused.channels_differ s t σ r q v f n) = IsRefused.channels_differ s t σ r q v f n
alone_refused g c es us step e m (IsRefused.terms_differ t r v n) = IsRefused.terms_differ t r v n
alone_refused g c es us step e m (IsRefused.terms_agree t r v n) = IsRefused.terms_agree t r v n
alone_refused g c es us step e m (IsRefused.unset t r v f n) = IsRefused.unset t r v f n
alone_refused g c es us step e m (IsRefused.set t r v f n) = IsRefused.set t r v f n
alone_refused g c es us step e m (IsRefused.held t r v f n) = IsRefused.held t r v f n
alone_refused g c es us step e m (IsRefused.fact_count t ks b r n) = IsRefused.fact_count t ks b r n
alone_refused g c es us step e m (IsRefused.fact_missing t ks b index r n f) = IsRefused.fact_missing t ks b index r n f
alone_refused g c es us step e m (IsRefused.bad_binding t ks b r n k f) = IsRefused.bad_binding t ks b r n k f
alone_refused g c es us step e m (IsRefused.unfitting_facts t ks b r n k f never) = IsRefused.unfitting_facts t ks b r n k f never
alone_refused g c es us step e m (IsRefused.large_rule t ks b σ r n k f l) = IsRefused.large_rule t ks b σ r n k f l
alone_refused g c es us step e m (IsRefused.not_public f ks n) = absurd m
alone_refused g c es us step e m (IsRefused.other_arity f ks p n) = absurd m
alone_refused g c es us step e m (IsRefused.unknown_argument f ks k p n u) = absurd m
alone_refused g c es us step e m (IsRefused.large_application f ks ts x p n h k l) = absurd m

-- the same forms are asked for
same_unfit : (c : Config) (t : ℕ) (form asked : Proc → Bool) (e : PFault) → ((p : Proc) → form p ≡ asked p) → IsUnfit c t form e → IsUnfit c t asked e
same_unfit c t form asked e same (not_running n) = not_running n
same_unfit c t form asked e same (other_form {p = p} r is) = other_form r (sym (same p) ∙ is)

send_form : (t k i : ℕ) (p : Proc) → has_form (line.Send t k) p ≡ has_form (line.Send t i) p
send_form t k i p = refl

in_form : (t k i : ℕ) (p : Proc) → has_form (line.In t k) p ≡ has_form (line.In t i) p
in_form t k i p = refl

module _ (g : Sig) (c : Config) (es us : List Tree) (k i : ℕ) (x : Tree) (here : slice_get es k ≡ Some x) (there : slice_get us i ≡ Some x) where
  moved : (y : Tree) → slice_get es k ≡ Some y → slice_get us i ≡ Some y
  moved y h = there ∙ ap Some (one_entry es k x y here h)

  -- it isn't missing
  not_missing : slice_get es k ≡ None → ⊥
  not_missing none = absurd (cc (here, none))

  sent_refused : (t : ℕ) (e : PFault) → IsRefused g c es (line.Send t k) e → IsRefused g c us (line.Send t i) e
  sent_refused t e (IsRefused.no_memory _) = IsRefused.no_memory (line.Send t i)
  sent_refused t e (IsRefused.unfit s n u) = IsRefused.unfit s n (same_unfit c s (has_form (line.Send t k)) (has_form (line.Send t i)) e (send_form t k i) u)
  sent_refused t e (IsRefused.unknown_channel _ _ r f none) = absurd (not_missing none)
  sent_refused t e (IsRefused.large {p = p} r h l) =
      IsRefused.large (record { thread = r.thread; named = r.named; runs = r.runs; form = sym (send_form t k i p) ∙ r.form }) (x, there) l
  sent_refused t e (IsRefused.other_channel {x = y} _ _ r h v n) = IsRefused.other_channel t i r (moved y h) v n

  taken_refused : (t : ℕ) (e : PFault) → IsRefused g c es (line.In t k) e → IsRefused g c us (line.In t i) e
  taken_refused t e (IsRefused.no_memory _) = IsRefused.no_memory (line.In t i)
  taken_refused t e (IsRefused.unfit s n u) = IsRefused.unfit s n (same_unfit c s (has_form (line.In t k)) (has_form (line.In t i)) e (in_form t k i) u)
  taken_refused t e (IsRefused.unknown_input _ _ r f none) = absurd (not_missing none)
  taken_refused t e (IsRefused.large {p = p} r h l) =
      IsRefused.large (record { thread = r.thread; named = r.named; runs = r.runs; form = sym (in_form t k i p) ∙ r.form }) (x, there) l
  taken_refused t e (IsRefused.unfitting {x = y} _ _ r h n) = IsRefused.unfitting t i r (moved y h) n
  taken_refused t e (IsRefused.unfitting_part {x = y} _ _ r h v n) = IsRefused.unfitting_part t i r (moved y h) v n
  taken_refused t e (IsRefused.other_part {x = y} _ _ σ r h v is f n) = IsRefused.other_part t i σ r (moved y h) v is f n

  shown_refused : (e : PFault) → IsRefused g c es (line.Know k) e → IsRefused g c us (line.Know i) e
  shown_refused e (IsRefused.no_memory _) = IsRefused.no_memory (line.Know i)
  shown_refused e (IsRefused.unfit s n u) = absurd (cc)
  shown_refused e (IsRefused.unknown_shown _ none) = absurd (not_missing none)
  shown_refused e (IsRefused.large r h l) = let named = r.named in absurd (cc)

pub refused_the_same : LinesThatAskTheSameAreRefusedTheSame
refused_the_same g c es us _ _ e (ask_nothing step m) h = alone_refused g c es us step e m h
refused_the_same g c es us _ _ e (send_on t k i x a b) h = sent_refused g c es us k i x a b t e h
refused_the_same g c es us _ _ e (take_in t k i x a b) h = taken_refused g c es us k i x a b t e h
refused_the_same g c es us _ _ e (show_known k i x a b) h = shown_refused g c es us k i x a b e h
