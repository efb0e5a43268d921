-- One step of a short run, filled or refused.
use Rattle.std.proofs.Common.{◌≡◌, ℕ, Bool, List, [], ◌∷◌, ◌++◌, append_assoc, Some, None, length, map, slice_get, refl, sym, ap, subst, ◌∙◌}
use Rattle.sap_terms.specs.Equations.{equations}
use Rattle.sap_terms.specs.Message.{IsOver}
use Rattle.sap_terms.specs.Normal.{IsNormalForm}
use Rattle.sap_terms.specs.Signature.{Sig}
use Rattle.sap_terms.specs.Trace.{shown}
use Rattle.sap_terms.specs.Tree.{Tree}
use Rattle.sap_terms.specs.View.{tree}
use Rattle.sap_terms.specs.declared.term.Term.{Term}
use Rattle.sap_derive.specs.declared.line.Line.{Line}
use Rattle.sap_rewrite.specs.Large.{itself, here}
use Rattle.sap_rewrite.specs.Laws.{FormIsOne}
use Rattle.sap_process.specs.Action as action
use Rattle.sap_process.specs.Configuration.{Config}
use Rattle.sap_process.specs.Proc.{Proc, nil, parallel, replicated, act, test, lookup}
use Rattle.sap_runs.specs.Limits.{HasFewNodes}
use Rattle.sap_runs.specs.Marks.{marks_of}
use Rattle.sap_runs.specs.Short.{MayStand}
use Rattle.sap_runs.specs.declared.process_step.PStep.{PStep}
use Rattle.sap_runs.specs.declared.process_step.PStep.TheVariants as line
use Rattle.sap_runs.specs.declared.short_step.SStep.{SStep}
use Rattle.sap_runs.specs.declared.short_step.SStep.TheVariants as short
use Rattle.sap_lines.specs.Channels.{SendsOn, HasNoChannel, ChannelsHaveOneAnswer}
use Rattle.sap_lines.specs.Faults.{IsRefused, IsUnfit, not_running, other_form, has_form}
use Rattle.sap_lines.specs.Lines.{IsProcessLine}
use Rattle.sap_lines.specs.OtherEntries.{ask_nothing, send_on, take_in, LinesThatAskTheSameAreRefusedTheSame}
use Rattle.sap_lines.specs.declared.fault.PFault.{PFault}
use Rattle.sap_lines.specs.declared.fault.PFault.TheVariants as fault
use Rattle.sap_calc.specs.Running.{configuration, IsDenied}
use Rattle.sap_intruder.specs.FilledRuns.{Cites, Fills, input, sending, knowing, AsksFor, to_take, to_send, to_show, AreFoundFor, none_found, all_found, line_step, IsSparingRun, goes_on}
use Rattle.sap_intruder.specs.FilledRuns.{same as as_it_is}
use Rattle.sap_intruder.specs.Refusals.{IsNotGiven, IsShortRefused, line_refused, unfit_taker, input_not_given, input_refused, no_channel, known_not_given}
use Rattle.sap_intruder.specs.code.Filled.{HasEntered, HasGiven, IsBlamed, out_of_memory, other_fault, IsBlamedFor, IsFilledOn, IsFollowed, IsGrown, IsNoEntry, IsTaker, IsTied, IsUnfitTaker, OrMem, entries_of}
use Rattle.sap_intruder.specs.declared.fill_fault.FillFault.{FillFault}
use Rattle.sap_intruder.specs.declared.fill_fault.FillFault.TheVariants as fill
use Rattle.sap_intruder.specs.declared.filling.Filling.{Filling}
use Rattle.sap_intruder.specs.declared.unfilled.Unfilled.{Unfilled}
use Rattle.sap_intruder.specs.declared.unfilled.Unfilled.TheVariants as unfilled
use Rattle.sap_intruder.proofs.Entering.{grown_not, none_behind}
use Rattle.sap_intruder.proofs.Refused.{missing}

-- ---- causes

pub or_mem : (P Q : FillFault → Type 0) → ((f : FillFault) → P f → Q f) → (u : Unfilled) → OrMem P u → OrMem Q u
or_mem P Q h unfilled.Mem p = tt
or_mem P Q h (unfilled.Fault f) p = h f p

-- what a fault of a line is blamed for
pub blame : (P : FillFault → Type 0) (e : PFault) (u : Unfilled) → IsBlamed e u → (¬ (e ≡ fault.Mem) → P (fill.Process e)) → OrMem P u
blame P _ _ out_of_memory h = tt
blame P e _ (other_fault n) h = h n

pub blamed_for : (a : Filling) (step : PStep) (e : PFault) (u : Unfilled) → IsDenied a.config step e → IsBlamed e u → OrMem (IsBlamedFor a step) u
blamed_for a step e u denied is = blame (IsBlamedFor a step) e u is (λ other. record { cause = e; is = refl; denied = denied; other = other })

-- ---- a step and its own line

-- lines that are found for a step, and then its own line
pub filled_on : (a b d : Filling) (s : SStep) (step : PStep) (found : List Line) (given : List Tree) → IsGrown a b found given → AreFoundFor a.config.sig (configuration a.config) (entries_of a) s found given
    → IsFollowed b d step → Fills b.config.sig (entries_of b) s step → IsFilledOn a d s
filled_on a b d s step found given grown are h fills = record {
  sig = h.done.sig ∙ grown.sig;
  tied = h.tied;
  run = λ p ss tr ms filled.
      let g : Sig = a.config.sig in
      let es : List Tree = entries_of a ++ given in
      let fills_here : Fills g es s step = subst (λ (ts : List Tree). Fills g ts s step) grown.entries (subst (λ (x : Sig). Fills x (entries_of b) s step) grown.sig fills) in
      let line_here : IsProcessLine g HasFewNodes (configuration a.config) es step h.done.inner h.label (configuration d.config) (entries_of d) =
      subst (λ (c : Config). IsProcessLine g HasFewNodes c es step h.done.inner h.label (configuration d.config) (entries_of d)) grown.config
      (subst (λ (ts : List Tree). IsProcessLine g HasFewNodes (configuration b.config) ts step h.done.inner h.label (configuration d.config) (entries_of d)) grown.entries
      (subst (λ (x : Sig). IsProcessLine x HasFewNodes (configuration b.config) (entries_of b) step h.done.inner h.label (configuration d.config) (entries_of d)) grown.sig h.done.line)) in
      let further : IsSparingRun g p (ss ++ s ∷ []) (a.lines ++ (map line_step found ++ step ∷ [])) (configuration d.config) (entries_of d) (tr ++ shown h.label) (ms ++ marks_of h.done.inner h.label) =
      goes_on s step found given h.done.inner h.label filled are fills_here line_here in
      let lines_are : d.lines ≡ a.lines ++ (map line_step found ++ step ∷ []) =
      h.lines ∙ (ap (λ zs. zs ++ step ∷ []) grown.lines_are ∙ append_assoc a.lines (map line_step found) (step ∷ [])) in
      record {
        inner = h.done.inner;
        label = h.label;
        run = subst (λ (ls : List PStep). IsSparingRun g p (ss ++ s ∷ []) ls (configuration d.config) (entries_of d) (tr ++ shown h.label) (ms ++ marks_of h.done.inner h.label)) (sym lines_are) further;
      };
}

-- what is refused behind lines that a short run leaves out is refused before them
denied_before : (a b : Filling) (step : PStep) (e : PFault) (found : List Line) (given : List Tree) → IsGrown a b found given → IsDenied b.config step e
    → IsRefused a.config.sig (configuration a.config) (entries_of b) step e
denied_before a b step e found given grown denied =
    subst (λ (c : Config). IsRefused a.config.sig c (entries_of b) step e) grown.config
    (subst (λ (g : Sig). IsRefused g (configuration b.config) (entries_of b) step e) grown.sig denied)

-- ---- a line as it stands

pub act_filled : (a d : Filling) (s : PStep) → MayStand s → IsFollowed a d s → IsFilledOn a d (short.Act s)
act_filled a d s stands h = filled_on a a d (short.Act s) s [] [] (grown_not a) none_found h (as_it_is stands)

pub act_refused : LinesThatAskTheSameAreRefusedTheSame → (a : Filling) (s : PStep) (u : Unfilled) → MayStand s → OrMem (IsBlamedFor a s) u
    → OrMem (IsShortRefused a.config.sig (configuration a.config) (short.Act s)) u
act_refused alike a s u stands h =
    or_mem _ _
    (λ f b.
    let none : IsRefused a.config.sig (configuration a.config) [] s b.cause = alike a.config.sig (configuration a.config) (entries_of a) [] s s b.cause (ask_nothing s stands) b.denied in
    subst (IsShortRefused a.config.sig (configuration a.config) (short.Act s)) (sym b.is) (line_refused stands none b.other))
    u h

-- ---- what the adversary gives

pub has_given : (a b : Filling) (u : Term) (x : Tree) (k : ℕ) → HasEntered a b x k → IsOver a.config.sig (tree u) → IsNormalForm (equations a.config.sig) (tree u) x → HasGiven a b u k
has_given a b u x k h over form = record { term = x; entered = h; given = record { over = over; form = form; gives = h.gives } }

cites : (a b : Filling) (u : Term) (k : ℕ) → HasGiven a b u k → Cites b.config.sig (entries_of b) u k
cites a b u k h =
    subst (λ (g : Sig). Cites g (entries_of b) u k) (sym h.entered.grown.sig)
    (record { term = h.term; entry = h.entered.entry; over = h.given.over; form = h.given.form })

-- what the step asks for was found, and then its own line was done
entered_on : (a b d : Filling) (s : SStep) (step : PStep) (x : Tree) (k : ℕ) → (h : HasEntered a b x k) → AsksFor a.config.sig (configuration a.config) s x → IsFollowed b d step
    → Fills b.config.sig (entries_of b) s step → IsFilledOn a d s
entered_on a b d s step x k h asks is fills = filled_on a b d s step h.derivation.lines h.given h.grown (all_found asks h.found) is fills

-- ---- the adversary shows

pub know_filled : (a b d : Filling) (u : Term) (k : ℕ) → HasGiven a b u k → IsFollowed b d (line.Know k) → IsFilledOn a d (short.Know u)
know_filled a b d u k h is = entered_on a b d (short.Know u) (line.Know k) h.term k h.entered (to_show h.given.form) is (knowing (cites a b u k h))

-- an entry is shown, but for want of memory
know_mem : (g : Sig) (c : Config) (es : List Tree) (k : ℕ) (x : Tree) (e : PFault) → slice_get es k ≡ Some x → IsRefused g c es (line.Know k) e → e ≡ fault.Mem
know_mem g c es k x _ at (IsRefused.no_memory _) = refl
know_mem g c es k x e at (IsRefused.unfit t named h) = absurd (cc)
know_mem g c es k x _ at (IsRefused.unknown_shown _ gone) = absurd (cc (at, gone))
know_mem g c es k x _ at (IsRefused.large running has_entry big) = absurd (let named = running.named in cc)

pub know_refused : (a b : Filling) (u : Term) (k : ℕ) (v : Unfilled) → HasGiven a b u k → OrMem (IsBlamedFor b (line.Know k)) v
    → OrMem (IsShortRefused a.config.sig (configuration a.config) (short.Know u)) v
know_refused a b u k v h is =
    or_mem _ _ (λ f blame. absurd (blame.other (know_mem b.config.sig (configuration b.config) (entries_of b) k h.term blame.cause h.entered.entry blame.denied))) v is

pub know_not_given : (g : Sig) (c : Config) (u : Term) (v : Unfilled) → OrMem (IsNotGiven g c u) v → OrMem (IsShortRefused g c (short.Know u)) v
know_not_given g c u v h = or_mem _ _ (λ f n. known_not_given n) v h

-- ---- a thread takes

pub input_filled : (a b d : Filling) (t : ℕ) (u : Term) (k : ℕ) → HasGiven a b u k → IsFollowed b d (line.In t k) → IsFilledOn a d (short.In t u)
input_filled a b d t u k h is = entered_on a b d (short.In t u) (line.In t k) h.term k h.entered (to_take h.given.form) is (input (cites a b u k h))

pub input_line_refused : LinesThatAskTheSameAreRefusedTheSame → (a b : Filling) (t : ℕ) (u : Term) (k : ℕ) (v : Unfilled) → HasGiven a b u k → OrMem (IsBlamedFor b (line.In t k)) v
    → OrMem (IsShortRefused a.config.sig (configuration a.config) (short.In t u)) v
input_line_refused alike a b t u k v h is =
    or_mem _ _
    (λ f blame.
    let there = denied_before a b (line.In t k) blame.cause h.entered.derivation.lines h.entered.given h.entered.grown blame.denied in
    let alone : IsRefused a.config.sig (configuration a.config) (h.term ∷ []) (line.In t 0) blame.cause =
    alike a.config.sig (configuration a.config) (entries_of b) (h.term ∷ []) (line.In t k) (line.In t 0) blame.cause (take_in t k 0 h.term h.entered.entry refl) there in
    subst (IsShortRefused a.config.sig (configuration a.config) (short.In t u)) (sym blame.is) (input_refused h.given alone blame.other))
    v is

pub input_term_refused : (g : Sig) (c : Config) (t : ℕ) (u : Term) (v : Unfilled) → IsTaker c t → OrMem (IsNotGiven g c u) v → OrMem (IsShortRefused g c (short.In t u)) v
input_term_refused g c t u v taker h = or_mem _ _ (λ f n. input_not_given taker.runs taker.form n) v h

pub taker_refused : (g : Sig) (c : Config) (t : ℕ) (u : Term) (v : Unfilled) → OrMem (IsUnfitTaker c t) v → OrMem (IsShortRefused g c (short.In t u)) v
taker_refused g c t u v h = or_mem _ _ (λ f n. subst (IsShortRefused g c (short.In t u)) (sym n.is) (unfit_taker n.unfit)) v h

-- whether a thread takes something doesn't go by the entry
in_form : (t k i : ℕ) (p : Proc) → has_form (line.In t k) p ≡ has_form (line.In t i) p
in_form t k i nil = refl
in_form t k i (parallel p q) = refl
in_form t k i (replicated p) = refl
in_form t k i (act (action.new x) p) = refl
in_form t k i (act (action.out m) p) = refl
in_form t k i (act (action.send m n) p) = refl
in_form t k i (act (action.input n) p) = refl
in_form t k i (act (action.receive m n) p) = refl
in_form t k i (act (action.event f) p) = refl
in_form t k i (act (action.insert m n) p) = refl
in_form t k i (act (action.delete m) p) = refl
in_form t k i (act (action.lock m n) p) = refl
in_form t k i (act (action.unlock m n) p) = refl
in_form t k i (act (action.embedded l e r) p) = refl
in_form t k i (test m n p q) = refl
in_form t k i (lookup m x p q) = refl

unfit_too : (c : Config) (t k i : ℕ) (e : PFault) → IsUnfit c t (has_form (line.In t k)) e → IsUnfit c t (has_form (line.In t i)) e
unfit_too c t k i _ (not_running never) = not_running never
unfit_too c t k i _ (other_form {p = p} r f) = other_form r (sym (in_form t k i p) ∙ f)

-- being unfit is no missing entry
unfit_no_entry : (c : Config) (t : ℕ) (form : Proc → Bool) (e : PFault) → IsUnfit c t form e → IsNoEntry e → ⊥
unfit_no_entry c t form _ (not_running never) (k, is) = absurd (cc (is))
unfit_no_entry c t form _ (other_form r f) (k, is) = absurd (cc (is))

-- what is said of a line that gives a thread an entry which isn't there
pub data IsTakersFault (c : Config) (t k : ℕ) (e : PFault) : Type 0 where
  no_room : e ≡ fault.Mem → IsTakersFault c t k e
  not_fit : IsUnfit c t (has_form (line.In t 0)) e → IsTakersFault c t k e
  no_entry : e ≡ fault.NoEntry k → IsTaker c t → IsTakersFault c t k e

takers_fault : (g : Sig) (c : Config) (es : List Tree) (t k : ℕ) (e : PFault) → slice_get es k ≡ None → IsRefused g c es (line.In t k) e → IsTakersFault c t k e
takers_fault g c es t k _ none (IsRefused.no_memory _) = no_room refl
takers_fault g c es t k e none (IsRefused.unfit u named h) =
    let is : t ≡ u = cc in
    not_fit (unfit_too c t k 0 e (subst (λ (v : ℕ). IsUnfit c v (has_form (line.In t k)) e) (sym is) h))
takers_fault g c es t k _ none (IsRefused.unknown_input {p = p} _ _ r f gone) = no_entry refl (record { runs_as = p; runs = r; form = sym (in_form t k 0 p) ∙ f })
takers_fault g c es t k _ none (IsRefused.large running (x, at) big) = absurd (cc (at, none))
takers_fault g c es t k _ none (IsRefused.unfitting _ _ r at fits) = absurd (cc (at, none))
takers_fault g c es t k _ none (IsRefused.unfitting_part _ _ r at small never) = absurd (cc (at, none))
takers_fault g c es t k _ none (IsRefused.other_part _ _ σ r at small is fits differs) = absurd (cc (at, none))

none_there : (a : Filling) → IsTied a → slice_get (entries_of a) a.count ≡ None
none_there a tied =
    subst (λ (n : ℕ). slice_get (entries_of a) n ≡ None) (sym (tied.count ∙ ap length tied.entries)) (none_behind (entries_of a))

pub taker : (a : Filling) (t : ℕ) (e : PFault) → IsTied a → IsDenied a.config (line.In t a.count) e → IsNoEntry e → IsTaker (configuration a.config) t
taker a t e tied denied missing_entry = at (takers_fault a.config.sig (configuration a.config) (entries_of a) t a.count e (none_there a tied) denied) where
  at : IsTakersFault (configuration a.config) t a.count e → IsTaker (configuration a.config) t
  at (no_room is) = absurd (let other : e ≡ fault.NoEntry missing_entry.0 = missing_entry.1 in cc (is, other))
  at (not_fit h) = absurd (unfit_no_entry (configuration a.config) t (has_form (line.In t 0)) e h missing_entry)
  at (no_entry is h) = h

pub no_taker : (a : Filling) (t : ℕ) (e : PFault) (u : Unfilled) → IsTied a → IsDenied a.config (line.In t a.count) e → ¬ IsNoEntry e → IsBlamed e u → OrMem (IsUnfitTaker (configuration a.config) t) u
no_taker a t e u tied denied other is = blame (IsUnfitTaker (configuration a.config) t) e u is (at (takers_fault a.config.sig (configuration a.config) (entries_of a) t a.count e (none_there a tied) denied)) where
  at : IsTakersFault (configuration a.config) t a.count e → ¬ (e ≡ fault.Mem) → IsUnfitTaker (configuration a.config) t (fill.Process e)
  at (no_room is_mem) n = absurd (n is_mem)
  at (not_fit h) n = record { cause = e; is = refl; unfit = h }
  at (no_entry is_none h) n = absurd (other (a.count, is_none))

-- ---- a thread sends

pub send_filled : (a b d : Filling) (t : ℕ) (x : Tree) (k : ℕ) → HasEntered a b x k → SendsOn a.config.sig (configuration a.config) t x → IsFollowed b d (line.Send t k) → IsFilledOn a d (short.Send t)
send_filled a b d t x k h on is = entered_on a b d (short.Send t) (line.Send t k) x k h (to_send on) is sending

pub send_refused : FormIsOne → ChannelsHaveOneAnswer → LinesThatAskTheSameAreRefusedTheSame → (a b : Filling) (t : ℕ) (x : Tree) (k : ℕ) (v : Unfilled) → HasEntered a b x k
    → SendsOn a.config.sig (configuration a.config) t x → OrMem (IsBlamedFor b (line.Send t k)) v
    → OrMem (IsShortRefused a.config.sig (configuration a.config) (short.Send t)) v
send_refused one answer alike a b t x k v h on is =
    or_mem _ _
    (λ f blame.
    let there = denied_before a b (line.Send t k) blame.cause h.derivation.lines h.given h.grown blame.denied in
    let alone : IsRefused a.config.sig (configuration a.config) (x ∷ []) (line.Send t 0) blame.cause =
    alike a.config.sig (configuration a.config) (entries_of b) (x ∷ []) (line.Send t k) (line.Send t 0) blame.cause (send_on t k 0 x h.entry refl) there in
    let none = missing one a.config.sig (configuration a.config) t on.channel on.message x on.behind blame.cause on.runs on.form alone blame.other in
    absurd (blame.other (answer a.config.sig (configuration a.config) t x blame.cause on none)))
    v is

pub channel_refused : (g : Sig) (c : Config) (t : ℕ) (e : PFault) (v : Unfilled) → HasNoChannel g c t e → IsBlamed e v → OrMem (IsShortRefused g c (short.Send t)) v
channel_refused g c t e v none is = blame (IsShortRefused g c (short.Send t)) e v is (λ other. no_channel none other)

pub channel_few : (g : Sig) (c : Config) (t : ℕ) (x : Tree) → SendsOn g c t x → HasFewNodes x
channel_few g c t x on = on.small x (here (itself on.form))
