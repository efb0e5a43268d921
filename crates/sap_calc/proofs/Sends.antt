-- A thread sends a message to the adversary.
use Rattle.std.proofs.Common.{◌≡◌, ◌<◌, ◌+◌, ℕ, List, [], ◌∷◌, ◌++◌, length, filter, Some, refl, sym, ap, ◌∙◌}
use Rattle.std.specs.Prelude.{slice_get}
use Rattle.std.proofs.lemmas.List.{append-nil, map-append}
use Rattle.std.proofs.lemmas.List.Elements.{filter_map-append, filter-append}
use Rattle.sap_terms.specs.Choice.{instance}
use Rattle.sap_terms.specs.Equations.{equations}
use Rattle.sap_terms.specs.Ground.{IsGround}
use Rattle.sap_terms.specs.Normal.{IsNormalForm}
use Rattle.sap_terms.specs.Tree.{Tree}
use Rattle.sap_terms.specs.View.{tree}
use Rattle.sap_terms.specs.declared.fact.Fact.{Fact}
use Rattle.sap_terms.specs.declared.term.Term.{Term}
use Rattle.sap_deduce.specs.Entries.{Entry, Entries, AreNumbered, Gains, terms_of, names_given, outputs_given, name_of, is_output}
use Rattle.sap_deduce.specs.declared.origin.Origin.{Origin}
use Rattle.sap_deduce.specs.declared.origin.Origin.TheVariants.{Output}
use Rattle.sap_process.specs.Action.{out}
use Rattle.sap_process.specs.Configuration.{Runs, becomes, sends_out}
use Rattle.sap_process.specs.Instance.{process_instance}
use Rattle.sap_process.specs.Proc.{act}
use Rattle.sap_process.specs.Sites.{above_of, var_names}
use Rattle.sap_runs.specs.declared.process_step.PStep.TheVariants as line
use Rattle.sap_share.specs.Env.{given}
use Rattle.sap_share.specs.Shared.{Shared, tree_at, Keeps}
use Rattle.sap_lines.specs.Faults.{EvaluateSmall}
use Rattle.sap_lines.specs.Lines.{outputs}
use Rattle.sap_calc.specs.Running.{configuration, IsDone, IsDenied}
use Rattle.sap_lines.specs.Places.{proc_at, procs_of}
use Rattle.sap_calc.specs.code.Parts.{Parts, AreTied, seen}
use Rattle.sap_calc.specs.code.Sound.{IsSoundFrom}
use Rattle.sap_calc.specs.code.Threads.{live, IsThread}
use Rattle.sap_heads.specs.Values.{CanEvaluate, IsValue, IsValueFault}
use Rattle.sap_lines.specs.declared.fault.PFault.{PFault}
use Rattle.sap_lines.specs.declared.form.Form.TheVariants.{Nil, Out}
use Rattle.sap_lines.specs.declared.place.Place.{Place}
use Rattle.sap_calc.specs.declared.thread.Thread.{Thread}
use Rattle.sap_calc.proofs.Goes.{gone, gone_tied, gone_is, can_one, denied_value}
use Rattle.sap_calc.proofs.Lines.{thread_tied, children_below, moved, runs_form, sound_form}
use Rattle.sap_calc.proofs.Evaluable.{first_of}
use Rattle.sap_calc.proofs.Sounds.{sound_head, sound_behind}

abbrev pub entry : Tree → Origin → Entry
entry t o = record { term = t; origin = o }

names_output : (es : List Entry) (t : Tree) → names_given (es ++ entry t Output ∷ []) ≡ names_given es
names_output es t = filter_map-append (λ (e : Entry). name_of e.origin) es (entry t Output ∷ []) ∙ append-nil (names_given es)

outputs_output : (es : List Entry) (t : Tree) → outputs_given (es ++ entry t Output ∷ []) ≡ outputs_given es ++ t ∷ []
outputs_output es t = ap terms_of (filter-append (λ (e : Entry). is_output e.origin) es (entry t Output ∷ [])) ∙ map-append (λ (e : Entry). e.term) (filter (λ (e : Entry). is_output e.origin) es) (entry t Output ∷ [])

pub terms_more : (es : List Entry) (t : Tree) (o : Origin) → terms_of (es ++ entry t o ∷ []) ≡ terms_of es ++ t ∷ []
terms_more es t o = map-append (λ (e : Entry). e.term) es (entry t o ∷ [])

-- what is sent is the next entry
pub sent_is : (P : Parts) (k : Entries) (t : Tree) → Gains P.known k Output t → configuration (seen (record P { known = k })) ≡ sends_out (configuration (seen P)) t
sent_is P k t gains =
    let own = ap names_given gains.entries ∙ names_output P.known.entries t in
    let frame = ap outputs_given gains.entries ∙ outputs_output P.known.entries t in
    λ i. record (configuration (seen P)) { own = own i; frame = frame i }

pub sent_tied : (P : Parts) (k : Entries) (t : Tree) → Gains P.known k Output t → AreNumbered P.table k → AreTied P → AreTied (record P { known = k })
sent_tied P k t gains numbered tied = record {
  numbered = numbered;
  places = tied.places;
  threads = tied.threads;
  keys = tied.keys;
  values = tied.values;
  held = tied.held;
  own = tied.own ∙ sym (names_output P.known.entries t) ∙ ap names_given (sym gains.entries);
  slots = tied.slots;
  facts = tied.facts;
}

module _ (P : Parts) (t : ℕ) (th : Thread) (x : Place) (tied : AreTied P) (is : Some th ≡ live P.threads t) (at : slice_get P.places th.place ≡ Some x) (m : Term) (form : x.form ≡ Out m) where
  sound : IsSoundFrom P.table.sig (thread_tied P t th tied is).above (act (out (tree m)) (proc_at (procs_of P.places) x.first))
  sound = sound_form P t th x tied is at (Out m) form

  pub can_send : ((k : ℕ) → k < length P.table.trees → IsGround (tree_at P.table.trees k)) → CanEvaluate P.table th.env (tree m)
  can_send grounds =
      let here = sound_head P.table.sig _ _ sound in
      can_one P t th tied is grounds sound.path (act (out (tree m)) (proc_at (procs_of P.places) x.first)) here (tree m) here.bound (first_of (tree m) [])

  runs : Runs (configuration (seen P)) t (act (out (instance (given P.table.trees th.env) (tree m))) (process_instance (given P.table.trees th.env) (proc_at (procs_of P.places) x.first)))
  runs = runs_form P t th x tied is at (Out m) form

  pub out_large : (f : PFault) → IsValueFault P.table.sig (instance (given P.table.trees th.env) (tree m) ∷ []) f → IsDenied (seen P) (line.Out t) f
  out_large f h = denied_value P (line.Out t) t _ f tied refl runs refl tt h

  module _ (u : Shared) (keeps : Keeps P.table u) (k : ℕ) (v : IsValue P.table u th.env (tree m) k) (known : Entries) (gains : Gains P.known known Output (tree_at u.trees k)) (numbered : AreNumbered u known) where
    first : IsThread P.table P.places (record th { place = x.first })
    first =
        let below = children_below P t th x tied is at (λ leaf. let e : Out m ≡ Nil = sym form ∙ leaf in cc) in
        let above = (thread_tied P t th tied is).above in
        moved P t th tied is x.first (above_of (above.scope ++ []) (above.locks + 0)) below.0 (sound_behind P.table.sig _ _ _ sound) (ap var_names (sym (append-nil above.scope)))

    pub out_tied : AreTied (record (gone P u t th x.first) { known = known })
    out_tied = sent_tied (gone P u t th x.first) known (tree_at u.trees k) gains numbered (gone_tied P u t th x.first keeps tied first)

    pub out_line : (label : List Fact) → label ≡ [] → IsDone (seen P) (seen (record (gone P u t th x.first) { known = known })) (line.Out t) label
    out_line label silent =
        let value : IsNormalForm (equations P.known.sig) (instance (given P.table.trees th.env) (tree m)) (tree_at u.trees k) = rw tied.numbered.sig at v.form in
        let small : EvaluateSmall P.known.sig (instance (given P.table.trees th.env) (tree m) ∷ []) = rw tied.numbered.sig at v.small in
        let after : configuration (seen (record (gone P u t th x.first) { known = known })) ≡ sends_out (becomes (configuration (seen P)) t (Some (process_instance (given P.table.trees th.env) (proc_at (procs_of P.places) x.first)))) (tree_at u.trees k) =
        sent_is (gone P u t th x.first) known (tree_at u.trees k) gains ∙ ap (λ c. sends_out c (tree_at u.trees k)) (gone_is P u t th x.first keeps tied is) in
        let entries : terms_of known.entries ≡ terms_of P.known.entries ++ tree_at u.trees k ∷ [] = ap terms_of gains.entries ∙ terms_more P.known.entries (tree_at u.trees k) Output in
        rw silent (record { inner = []; line = rw (after, entries) (outputs t runs value small); sig = gains.sig })
