-- What is written where two threads meet.
use Rattle.std.proofs.Common.{◌≡◌, ℕ, ◌+◌, List, [], ◌∷◌, ◌++◌, Option, Some, refl, sym, ap, subst, ◌∙◌}
use Rattle.std.specs.Prelude.{slice_get, codes}
use Rattle.sap_terms.specs.Tree.{Tree}
use Rattle.sap_terms.specs.Variables.{tree_vars}
use Rattle.sap_process.specs.Action.{send, receive}
use Rattle.sap_process.specs.Proc.{Proc, act}
use Rattle.sap_runs.specs.declared.process_step.PStep.TheVariants as line
use Rattle.sap_runs.specs.declared.rule_step.RStep.{RStep}
use Rattle.sap_runs.specs.declared.rule_step.RStep.TheVariants.{Fresh}
use Rattle.sap_translate.specs.relation.Agents.{Agent, running}
use Rattle.sap_translate.specs.relation.Answers.{goes_on, widened}
use Rattle.sap_translate.specs.relation.Envs.{Env}
use Rattle.sap_forward.specs.LinesFor.{uses}
use Rattle.sap_forward.specs.Written.{IsWrittenAsRules, gives, moved}
use Rattle.sap_forward.specs.code.Desk.{Keeps}
use Rattle.sap_forward.specs.code.Steps.{IsAt, GivesName, Meets, WritesAny, goes, meeting_lines}
use Rattle.sap_lines.specs.declared.place.Place.{Place}
use Rattle.sap_forward.specs.declared.desk.Desk.{Desk}
use Rattle.sap_forward.specs.declared.seats.Seat.{Seat}
use Rattle.sap_forward.proofs.Lists.{some_same}
use Rattle.sap_forward.proofs.Seated.{first_stands}
use Rattle.sap_forward.proofs.Tabled.{get_other}
use Rattle.sap_forward.proofs.Keeping.{has_seat, one_seat, gives_kept, given_next, go_kept}

-- a sender and a receiver are two threads
apart : (agents : List (Option Agent)) (a b : ℕ) (path at : List ℕ) (env other : Env) (m u l r : Tree) (p q : Proc)
    → slice_get agents a ≡ Some (Some (running path env (act (send m u) p))) → slice_get agents b ≡ Some (Some (running at other (act (receive l r) q))) → ¬ a ≡ b
apart agents a b path at env other m u l r p q h i same =
    let e : running path env (act (send m u) p) ≡ running at other (act (receive l r) q) = some_same (some_same (sym h ∙ ap (slice_get agents) same ∙ i)) in
    cc

pub writes_sync : (d f e : Desk) (a b n : ℕ) (before after : List RStep) → GivesName d f n → Meets f e a b n before after → WritesAny d e (line.Sync a b) before after
writes_sync d f e a b n before after given meets found g start drawn agents later c tables behind ls keeps (IsWrittenAsRules.meets a' b' j k n' path at env other m u l r σ p q sender receiver next) binds =
    let same = given_next start drawn agents tables d keeps n' n next given.0 in
    let tables2 = gives tables n' in
    let held = subst (Keeps start drawn agents tables2) (sym given.1) (gives_kept start drawn agents tables d keeps n' n same) in
    let s = has_seat start drawn agents tables2 f held a' j path env (act (send m u) p) (record { thread = sender.thread; number = sender.number }) in
    let t = has_seat start drawn agents tables2 f held b' k at other (act (receive l r) q) (record { thread = receiver.thread; number = receiver.number }) in
    let met = meets s.seat t.seat s.place t.place s.at t.at (apart agents a' b' path at env other m u l r p q sender.thread receiver.thread) in
    let first = first_stands f.places held.places.places s.seat.place s.place s.at.1 (act (send m u) p) s.sits.proc p refl in
    let there = first_stands f.places held.places.places t.seat.place t.place t.at.1 (act (receive l r) q) t.sits.proc q refl in
    let wider = widened other σ (tree_vars r) in
    let gone = go_kept start drawn agents tables2 f held b' k 1 t.place.first 4 at wider (act (receive l r) q) q t.seat t.sits there in
    let both = go_kept start drawn (goes_on agents b' at wider q) (moved tables2 b' 4) (goes f b' t.seat 1 t.place.first 4) gone a' j 1 s.place.first 0 path env (act (send m u) p) p s.seat s.sits first in
    let x = s.sits.way in let y = s.sits.number in let z = t.sits.way in let w = t.sits.number in let v = held.count in (
      met.1 ∙ (λ i. before ++ Fresh (sym same i) ∷ uses (codes "OutMsg_") (x i) (y i ∷ v i ∷ []) [] ∷ uses (codes "InMsg_") (z i) (w i ∷ (v i + 1) ∷ []) []
          ∷ uses (codes "OutAck_") (x i) ((v i + 2) ∷ (v i + 3) ∷ []) [] ∷ []),
      subst (Keeps start drawn (goes_on (goes_on agents b' at wider q) a' path env p) (gives (moved (moved tables b' 4) a' 0) n')) (sym met.0) both,
    )

-- two that have seats meet: the receiver goes on first
pub meets_then : (d m e : Desk) (a b n : ℕ) (before after : List RStep) (u v : Seat) (y z : Place) → IsAt d a u y → IsAt d b v z
    → ((s : Seat) → slice_get d.seats b ≡ Some (Some s) → m ≡ goes d b s 1 z.first 4) → ((s : Seat) → slice_get m.seats a ≡ Some (Some s) → e ≡ goes m a s 1 y.first 0)
    → after ≡ before ++ meeting_lines n u v d.count → Meets d e a b n before after
meets_then d m e a b n before after u v y z at there first second put s w x o is that apart =
    let one = one_seat d a u s y x at is in
    let two = one_seat d b v w z o there that in
    let mb : m ≡ goes d b w 1 z.first 4 = first w that.0 in
    let still : slice_get m.seats a ≡ Some (Some s) = ap (λ (q : Desk). slice_get q.seats a) mb ∙ get_other d.seats b a _ (λ h. apart (sym h)) ∙ is.0 in
    let p = one.1 in let q = two.1 in let f = one.0 in let g = two.0 in (
      second s still ∙ ap (λ k. goes k a s 1 y.first 0) mb ∙ (λ i. goes (goes d b w 1 (q i).first 4) a s 1 (p i).first 0),
      put ∙ (λ i. before ++ meeting_lines n (f i) (g i) d.count),
    )
