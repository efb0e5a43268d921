-- What is written where a thread makes a name or takes a lock, and where it and the adversary exchange terms.
use Rattle.std.proofs.Common.{◌≡◌, ℕ, ◌+◌, true, false, List, [], ◌∷◌, ◌++◌, refl, sym, ap, subst, ◌∙◌}
use Rattle.std.specs.Prelude.{codes}
use Rattle.sap_terms.specs.Tree.{Tree, fresh}
use Rattle.sap_terms.specs.Variables.{tree_vars}
use Rattle.sap_process.specs.Action.{new, out, send, input, receive, lock}
use Rattle.sap_process.specs.Proc.{Proc, act}
use Rattle.sap_process.specs.Scopes.{lock_var}
use Rattle.sap_process.specs.Sites.{fresh_var}
use Rattle.sap_runs.specs.declared.process_step.PStep.TheVariants as line
use Rattle.sap_runs.specs.declared.rule_step.RStep.{RStep}
use Rattle.sap_runs.specs.declared.rule_step.RStep.TheVariants.{Fresh, Learn, Know}
use Rattle.sap_lines.specs.Places.{form_proc}
use Rattle.sap_lines.specs.declared.form.Form.{Form}
use Rattle.sap_lines.specs.declared.form.Form.TheVariants.{Nil, Par, Rep, New, Out, Send, In, Recv, If, Event, Insert, Delete, Lookup, Lock, Unlock, Embedded}
use Rattle.sap_lines.specs.declared.place.Place.{Place}
use Rattle.sap_translate.specs.relation.Answers.{widened}
use Rattle.sap_translate.specs.relation.Envs.{just, join}
use Rattle.sap_forward.specs.LinesFor.{uses}
use Rattle.sap_forward.specs.Written.{IsWrittenAsRules, gives}
use Rattle.sap_forward.specs.code.Desk.{Keeps}
use Rattle.sap_forward.specs.code.Steps.{IsAt, HasNone, Goes, GivesName, WritesAny, has_channel}
use Rattle.sap_forward.specs.declared.desk.Desk.{Desk}
use Rattle.sap_forward.specs.declared.seats.Seat.{Seat}
use Rattle.sap_forward.proofs.Keeping.{has_seat, one_seat, moves_on, gives_kept, given_next}

pub writes_new : (d e : Desk) (t n : ℕ) (before after : List RStep) → Goes d e t 1 (λ x. x.first) 1 before after (λ path k i. Fresh n ∷ uses (codes "New_") path (k ∷ i ∷ []) [] ∷ []) → WritesAny d e (line.New t n) before after
writes_new d e t n before after moves found g start drawn agents later c tables behind ls keeps (IsWrittenAsRules.makes_name t' k n' path env x p seated) binds =
    moves_on start drawn agents tables d keeps t' k 1 path env (join env (just (fresh_var x) (fresh n'))) (act (new x) p) p e before after (λ ds j i. Fresh n' ∷ uses (codes "New_") ds (j ∷ i ∷ []) [] ∷ []) seated refl moves

pub writes_out : (d e : Desk) (t : ℕ) (before after : List RStep) → Goes d e t 1 (λ x. x.first) 1 before after (λ path k i. uses (codes "Out_") path (k ∷ []) [] ∷ Learn i ∷ []) → WritesAny d e (line.Out t) before after
writes_out d e t before after moves found g start drawn agents later c tables behind ls keeps (IsWrittenAsRules.outputs t' k path env m p seated) binds =
    moves_on start drawn agents tables d keeps t' k 1 path env env (act (out m) p) p e before after (λ ds j i. uses (codes "Out_") ds (j ∷ []) [] ∷ Learn i ∷ []) seated refl moves

pub writes_send : (d e : Desk) (t k : ℕ) (before after : List RStep)
    → Goes d e t 1 (λ x. x.first) 2 before after (λ path j i. Know k ∷ uses (codes "OutAdv_") path (j ∷ i ∷ []) [] ∷ Learn (i + 1) ∷ []) → WritesAny d e (line.Send t k) before after
writes_send d e t k before after moves found g start drawn agents later c tables behind ls keeps (IsWrittenAsRules.outputs_on t' j k' path env m n p seated) binds =
    moves_on start drawn agents tables d keeps t' j 2 path env env (act (send m n) p) p e before after (λ ds h i. Know k' ∷ uses (codes "OutAdv_") ds (h ∷ i ∷ []) [] ∷ Learn (i + 1) ∷ []) seated refl moves

-- the form of an input

input_without : (f : Form) (p q r : Proc) (m : Tree) → form_proc f p q ≡ act (input m) r → has_channel f ≡ true → ⊥
input_without (Recv t u) p q r m h e = cc
input_without Nil p q r m h e = cc
input_without Par p q r m h e = cc
input_without Rep p q r m h e = cc
input_without (New x) p q r m h e = cc
input_without (Out t) p q r m h e = cc
input_without (Send t u) p q r m h e = cc
input_without (In t) p q r m h e = cc
input_without (If t u) p q r m h e = cc
input_without (Event f) p q r m h e = cc
input_without (Insert t u) p q r m h e = cc
input_without (Delete t) p q r m h e = cc
input_without (Lookup t x) p q r m h e = cc
input_without (Lock t n) p q r m h e = cc
input_without (Unlock t n) p q r m h e = cc
input_without (Embedded a b c) p q r m h e = cc

input_with : (f : Form) (p q r : Proc) (m n : Tree) → form_proc f p q ≡ act (receive m n) r → has_channel f ≡ false → ⊥
input_with (Recv t u) p q r m n h e = cc
input_with Nil p q r m n h e = cc
input_with Par p q r m n h e = cc
input_with Rep p q r m n h e = cc
input_with (New x) p q r m n h e = cc
input_with (Out t) p q r m n h e = cc
input_with (Send t u) p q r m n h e = cc
input_with (In t) p q r m n h e = cc
input_with (If t u) p q r m n h e = cc
input_with (Event f) p q r m n h e = cc
input_with (Insert t u) p q r m n h e = cc
input_with (Delete t) p q r m n h e = cc
input_with (Lookup t x) p q r m n h e = cc
input_with (Lock t n') p q r m n h e = cc
input_with (Unlock t n') p q r m n h e = cc
input_with (Embedded a b c) p q r m n h e = cc

-- an input on a channel
pub writes_input_on : (d e : Desk) (t k : ℕ) (s : Seat) (x : Place) (before after : List RStep) → IsAt d t s x → has_channel x.form ≡ true
    → Goes d e t 1 (λ x. x.first) 1 before after (λ path j i. Know k ∷ uses (codes "InAdv_") path (j ∷ i ∷ []) [] ∷ []) → WritesAny d e (line.In t k) before after
writes_input_on d e t k s x before after at is moves found g start drawn agents later c tables behind ls keeps (IsWrittenAsRules.inputs t' j k' path env m σ p seated) binds =
    let h = has_seat start drawn agents tables d keeps t' j path env (act (input m) p) seated in
    let same = one_seat d t' h.seat s h.place x h.at at in
    absurd (input_without h.place.form _ _ p m (sym (keeps.places.places.procs h.seat.place h.place h.at.1) ∙ h.sits.proc) (ap (λ (y : Place). has_channel y.form) same.1 ∙ is))
writes_input_on d e t k s x before after at is moves found g start drawn agents later c tables behind ls keeps (IsWrittenAsRules.inputs_on t' j k' path env m n σ p seated) binds =
    moves_on start drawn agents tables d keeps t' j 1 path env (widened env σ (tree_vars n)) (act (receive m n) p) p e before after (λ ds h i. Know k' ∷ uses (codes "InAdv_") ds (h ∷ i ∷ []) [] ∷ []) seated refl moves

-- an input from the public channel
pub writes_input : (d e : Desk) (t k : ℕ) (s : Seat) (x : Place) (before after : List RStep) → IsAt d t s x → has_channel x.form ≡ false
    → Goes d e t 1 (λ x. x.first) 1 before after (λ path j i. Know k ∷ uses (codes "In_") path (j ∷ i ∷ []) [] ∷ []) → WritesAny d e (line.In t k) before after
writes_input d e t k s x before after at not moves found g start drawn agents later c tables behind ls keeps (IsWrittenAsRules.inputs_on t' j k' path env m n σ p seated) binds =
    let h = has_seat start drawn agents tables d keeps t' j path env (act (receive m n) p) seated in
    let same = one_seat d t' h.seat s h.place x h.at at in
    absurd (input_with h.place.form _ _ p m n (sym (keeps.places.places.procs h.seat.place h.place h.at.1) ∙ h.sits.proc) (ap (λ (y : Place). has_channel y.form) same.1 ∙ not))
writes_input d e t k s x before after at not moves found g start drawn agents later c tables behind ls keeps (IsWrittenAsRules.inputs t' j k' path env m σ p seated) binds =
    moves_on start drawn agents tables d keeps t' j 1 path env (widened env σ (tree_vars m)) (act (input m) p) p e before after (λ ds h i. Know k' ∷ uses (codes "In_") ds (h ∷ i ∷ []) [] ∷ []) seated refl moves

-- where a name was given first
pub writes_lock : (d f e : Desk) (t n : ℕ) (before after : List RStep) → GivesName d f n
    → Goes f e t 1 (λ x. x.first) 1 before after (λ path k i. Fresh n ∷ uses (codes "Lock_") path (k ∷ i ∷ []) [] ∷ []) → WritesAny d e (line.Lock t) before after
writes_lock d f e t n before after given moves found g start drawn agents later c tables behind ls keeps (IsWrittenAsRules.locks t' k m path env r l p seated next) binds =
    let same = given_next start drawn agents tables d keeps m n next given.0 in
    let held = subst (Keeps start drawn agents (gives tables m)) (sym given.1) (gives_kept start drawn agents tables d keeps m n same) in
    let w = moves_on start drawn agents (gives tables m) f held t' k 1 path env (join env (just (lock_var l) (fresh m))) (act (lock r l) p) p e before after
    (λ ds j i. Fresh n ∷ uses (codes "Lock_") ds (j ∷ i ∷ []) [] ∷ []) (record { thread = seated.thread; number = seated.number }) refl moves in
    (w.0 ∙ ap (λ z. before ++ Fresh z ∷ uses (codes "Lock_") path (k ∷ tables.count ∷ []) [] ∷ []) (sym same), w.1)

-- a thread without a seat takes nothing
pub no_input : (d : Desk) (t k : ℕ) (before : List RStep) → HasNone d t → WritesAny d d (line.In t k) before before
no_input d t k before none found g start drawn agents later c tables behind ls keeps (IsWrittenAsRules.inputs t' j k' path env m σ p seated) binds =
    let h = has_seat start drawn agents tables d keeps t' j path env (act (input m) p) seated in absurd (none h.seat h.place h.at)
no_input d t k before none found g start drawn agents later c tables behind ls keeps (IsWrittenAsRules.inputs_on t' j k' path env m n σ p seated) binds =
    let h = has_seat start drawn agents tables d keeps t' j path env (act (receive m n) p) seated in absurd (none h.seat h.place h.at)
