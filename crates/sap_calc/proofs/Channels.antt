-- Threads that send on a channel, and that show a fact.
use Rattle.std.proofs.Common.{◌≡◌, ◌<◌, ℕ, List, [], ◌∷◌, ◌++◌, length, Some, None, refl, sym, ap, subst, ◌∙◌}
use Rattle.std.specs.Prelude.{slice_get, All}
use Rattle.std.proofs.lemmas.List.{append-nil}
use Rattle.sap_rewrite.specs.Laws.{FormIsOne}
use Rattle.sap_terms.specs.AdversaryFacts.{k_fact}
use Rattle.sap_terms.specs.Choice.{instance}
use Rattle.sap_terms.specs.Equations.{equations}
use Rattle.sap_terms.specs.Ground.{IsGround}
use Rattle.sap_terms.specs.Normal.{IsNormalForm}
use Rattle.sap_terms.specs.View.{tree}
use Rattle.sap_terms.specs.Modulo.{instance_fact}
use Rattle.sap_terms.specs.declared.fact.Fact.{Fact}
use Rattle.sap_terms.specs.declared.term.Term.{Term}
use Rattle.sap_deduce.specs.Entries.{Entries, AreNumbered, Gains, terms_of}
use Rattle.sap_deduce.specs.declared.origin.Origin.TheVariants.{Output}
use Rattle.sap_process.specs.Action as action
use Rattle.sap_process.specs.Configuration.{Runs, becomes, sends_out}
use Rattle.sap_process.specs.Instance.{process_instance}
use Rattle.sap_process.specs.Proc.{act}
use Rattle.sap_process.specs.Sites.{above_of, var_names}
use Rattle.sap_runs.specs.declared.process_step.PStep.TheVariants as line
use Rattle.sap_share.specs.Env.{given}
use Rattle.sap_share.specs.Shared.{Shared, tree_at, Keeps, HaveOneNumber}
use Rattle.sap_lines.specs.Faults.{EvaluateSmall, unknown_channel, other_channel}
use Rattle.sap_lines.specs.Lines.{outputs_on, shows}
use Rattle.sap_calc.specs.Running.{configuration, IsDone, IsDenied}
use Rattle.sap_lines.specs.Places.{proc_at, procs_of}
use Rattle.sap_calc.specs.code.Parts.{Parts, AreTied, seen}
use Rattle.sap_calc.specs.code.Sound.{IsSoundFrom}
use Rattle.sap_calc.specs.code.Threads.{live, IsThread}
use Rattle.sap_heads.specs.Values.{IsSmallNumber}
use Rattle.sap_heads.specs.Values.{CanEvaluate, AreValues, IsValueFault, IsShown}
use Rattle.sap_calc.specs.code.Given.{IsEntryNumber}
use Rattle.sap_lines.specs.declared.fault.PFault.{PFault}
use Rattle.sap_lines.specs.declared.fault.PFault.TheVariants as fault
use Rattle.sap_lines.specs.declared.form.Form.TheVariants.{Nil, Send, Event}
use Rattle.sap_lines.specs.declared.place.Place.{Place}
use Rattle.sap_calc.specs.declared.thread.Thread.{Thread}
use Rattle.sap_calc.proofs.Goes.{gone, gone_tied, gone_is, can_first, can_second, can_each, denied_value}
use Rattle.sap_calc.proofs.Lines.{thread_tied, children_below, moved, runs_form, sound_form}
use Rattle.sap_calc.proofs.Moves.{tree_stays, small_stays}
use Rattle.sap_calc.proofs.Evaluable.{first_of, second_of}
use Rattle.sap_calc.proofs.Sends.{sent_is, sent_tied, terms_more}
use Rattle.sap_calc.proofs.Sounds.{sound_head, sound_behind}

pub entry_below : (s u : Shared) (e : ℕ) → Keeps s u → IsSmallNumber s e → e < length u.trees
entry_below s u e keeps small = (small_stays s u keeps e small).below

-- a thread behind an action that binds nothing
pub behind : (P : Parts) (t : ℕ) (th : Thread) (x : Place) (tied : AreTied P) (is : Some th ≡ live P.threads t) (count : ℕ) → x.first < length P.places
    → IsSoundFrom P.table.sig (above_of ((thread_tied P t th tied is).above.scope ++ []) count) (proc_at (procs_of P.places) x.first) → IsThread P.table P.places (record th { place = x.first })
behind P t th x tied is count lt sound =
    let above = (thread_tied P t th tied is).above in
    moved P t th tied is x.first (above_of (above.scope ++ []) count) lt sound (ap var_names (sym (append-nil above.scope)))

module _ (P : Parts) (t : ℕ) (th : Thread) (x : Place) (tied : AreTied P) (is : Some th ≡ live P.threads t) (at : slice_get P.places th.place ≡ Some x) (m n : Term) (form : x.form ≡ Send m n) where
  pub send_sound : IsSoundFrom P.table.sig (thread_tied P t th tied is).above (act (action.send (tree m) (tree n)) (proc_at (procs_of P.places) x.first))
  send_sound = sound_form P t th x tied is at (Send m n) form

  pub send_runs : Runs (configuration (seen P)) t (act (action.send (instance (given P.table.trees th.env) (tree m)) (instance (given P.table.trees th.env) (tree n))) (process_instance (given P.table.trees th.env) (proc_at (procs_of P.places) x.first)))
  send_runs = runs_form P t th x tied is at (Send m n) form

  pub send_below : (x.first < length P.places) × (x.second < length P.places)
  send_below = children_below P t th x tied is at (λ leaf. let e : Send m n ≡ Nil = sym form ∙ leaf in cc)

  pub send_can_left : ((k : ℕ) → k < length P.table.trees → IsGround (tree_at P.table.trees k)) → CanEvaluate P.table th.env (tree m)
  send_can_left grounds =
      let here = sound_head P.table.sig _ _ send_sound in
      can_first P t th tied is grounds send_sound.path (act (action.send (tree m) (tree n)) (proc_at (procs_of P.places) x.first)) here (tree m) (tree n) here.bound (first_of (tree m) (tree n ∷ []))

  pub send_can_right : ((k : ℕ) → k < length P.table.trees → IsGround (tree_at P.table.trees k)) → CanEvaluate P.table th.env (tree n)
  send_can_right grounds =
      let here = sound_head P.table.sig _ _ send_sound in
      can_second P t th tied is grounds send_sound.path (act (action.send (tree m) (tree n)) (proc_at (procs_of P.places) x.first)) here (tree m) (tree n) here.bound (second_of (tree m) (tree n) [])

  pub send_unknown : (k : ℕ) → slice_get (terms_of P.known.entries) k ≡ None → IsDenied (seen P) (line.Send t k) (fault.NoEntry k)
  send_unknown k none = unknown_channel t k send_runs refl none

  module _ (k e : ℕ) (entry : IsEntryNumber P.table P.known k e) where
    pub send_large : (f : PFault) → IsValueFault P.table.sig ((instance (given P.table.trees th.env) (tree m)) ∷ (instance (given P.table.trees th.env) (tree n)) ∷ []) f → IsDenied (seen P) (line.Send t k) f
    send_large f h = denied_value P (line.Send t k) t _ f tied refl send_runs refl (tree_at P.table.trees e, entry.at) h

    module _ (u : Shared) (keeps : Keeps P.table u) (i j : ℕ) (v : AreValues P.table u th.env (tree m) (tree n) i j) where
      channel_form : IsNormalForm (equations P.known.sig) (instance (given P.table.trees th.env) (tree m)) (tree_at u.trees i)
      channel_form = rw tied.numbered.sig at v.first_form

      message_form : IsNormalForm (equations P.known.sig) (instance (given P.table.trees th.env) (tree n)) (tree_at u.trees j)
      message_form = rw tied.numbered.sig at v.second_form

      send_small : EvaluateSmall P.known.sig ((instance (given P.table.trees th.env) (tree m)) ∷ (instance (given P.table.trees th.env) (tree n)) ∷ [])
      send_small = rw tied.numbered.sig at v.small

      entry_stays : tree_at u.trees e ≡ tree_at P.table.trees e
      entry_stays = tree_stays P.table u keeps e entry.small.below

      pub send_denied : FormIsOne → HaveOneNumber u.trees (length u.trees) → e < length u.trees → (¬ (i ≡ e)) → IsDenied (seen P) (line.Send t k) fault.Unequal
      send_denied one once below other =
          other_channel t k send_runs entry.at send_small (λ form. other (once i e v.first_number.below below (one (equations P.known.sig) (instance (given P.table.trees th.env) (tree m)) (tree_at u.trees i) (tree_at P.table.trees e) channel_form form ∙ sym entry_stays)))

      module _ (known : Entries) (gains : Gains P.known known Output (tree_at u.trees j)) (numbered : AreNumbered u known) where
        pub send_tied : AreTied (record (gone P u t th x.first) { known = known })
        send_tied = sent_tied (gone P u t th x.first) known (tree_at u.trees j) gains numbered (gone_tied P u t th x.first keeps tied (behind P t th x tied is _ send_below.0 (sound_behind P.table.sig _ _ _ send_sound)))

        pub send_line : i ≡ e → (label : List Fact) → label ≡ k_fact (tree_at u.trees e) ∷ [] → IsDone (seen P) (seen (record (gone P u t th x.first) { known = known })) (line.Send t k) label
        send_line same label shown =
            let after : configuration (seen (record (gone P u t th x.first) { known = known })) ≡ sends_out (becomes (configuration (seen P)) t (Some (process_instance (given P.table.trees th.env) (proc_at (procs_of P.places) x.first)))) (tree_at u.trees j) =
            sent_is (gone P u t th x.first) known (tree_at u.trees j) gains ∙ ap (λ c. sends_out c (tree_at u.trees j)) (gone_is P u t th x.first keeps tied is) in
            let entries : terms_of known.entries ≡ terms_of P.known.entries ++ tree_at u.trees j ∷ [] = ap terms_of gains.entries ∙ terms_more P.known.entries (tree_at u.trees j) Output in
            let channel : IsNormalForm (equations P.known.sig) (instance (given P.table.trees th.env) (tree m)) (tree_at P.table.trees e) = subst (IsNormalForm (equations P.known.sig) (instance (given P.table.trees th.env) (tree m))) (ap (tree_at u.trees) same ∙ entry_stays) channel_form in
            rw (shown, entry_stays) (record { inner = []; line = rw (after, entries) (outputs_on t k send_runs entry.at channel message_form send_small); sig = gains.sig })

module _ (P : Parts) (t : ℕ) (th : Thread) (x : Place) (tied : AreTied P) (is : Some th ≡ live P.threads t) (at : slice_get P.places th.place ≡ Some x) (f : Fact) (form : x.form ≡ Event f) where
  event_sound : IsSoundFrom P.table.sig (thread_tied P t th tied is).above (act (action.event f) (proc_at (procs_of P.places) x.first))
  event_sound = sound_form P t th x tied is at (Event f) form

  event_runs : Runs (configuration (seen P)) t (act (action.event (instance_fact (given P.table.trees th.env) f)) (process_instance (given P.table.trees th.env) (proc_at (procs_of P.places) x.first)))
  event_runs = runs_form P t th x tied is at (Event f) form

  event_below : (x.first < length P.places) × (x.second < length P.places)
  event_below = children_below P t th x tied is at (λ leaf. let e : Event f ≡ Nil = sym form ∙ leaf in cc)

  pub event_can : ((k : ℕ) → k < length P.table.trees → IsGround (tree_at P.table.trees k)) → All (CanEvaluate P.table th.env) f.args
  event_can grounds =
      let here = sound_head P.table.sig _ _ event_sound in
      can_each P t th tied is grounds event_sound.path (act (action.event f) (proc_at (procs_of P.places) x.first)) here f.args here.bound (λ m stands. stands)

  pub event_large : (d : PFault) → IsValueFault P.table.sig (instance_fact (given P.table.trees th.env) f).args d → IsDenied (seen P) (line.Event t) d
  event_large d h = denied_value P (line.Event t) t _ d tied refl event_runs refl tt h

  module _ (u : Shared) (keeps : Keeps P.table u) where
    pub event_tied : AreTied (gone P u t th x.first)
    event_tied = gone_tied P u t th x.first keeps tied (behind P t th x tied is _ event_below.0 (sound_behind P.table.sig _ _ _ event_sound))

    pub event_line : (label : List Fact) → IsShown P.table th.env f label → IsDone (seen P) (seen (gone P u t th x.first)) (line.Event t) label
    event_line label h =
        let small : EvaluateSmall P.known.sig (instance_fact (given P.table.trees th.env) f).args = rw tied.numbered.sig at h.small in
        rw h.alone (record {
          inner = [];
          line = rw (gone_is P u t th x.first keeps tied is) (shows t event_runs (rw tied.numbered.sig at h.form) small);
          sig = refl;
        })
