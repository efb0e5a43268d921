-- What is written where threads end and come.
use Rattle.std.proofs.Common.{◌≡◌, ℕ, true, false, List, [], ◌∷◌, ◌++◌, Some, None, refl, sym, ap, subst, ◌∙◌}
use Rattle.std.specs.Prelude.{slice_get, slice_set, codes}
use Rattle.std.proofs.lemmas.Bool.{false≢true}
use Rattle.sap_process.specs.Proc.{nil, parallel, replicated}
use Rattle.sap_runs.specs.declared.process_step.PStep.TheVariants as line
use Rattle.sap_runs.specs.declared.rule_step.RStep.{RStep}
use Rattle.sap_lines.specs.declared.place.Place.{Place}
use Rattle.sap_templates.specs.Templates.{first_of, second_of}
use Rattle.sap_translate.specs.relation.Agents.{running, copying}
use Rattle.sap_translate.specs.relation.Answers.{goes_on}
use Rattle.sap_forward.specs.LinesFor.{uses}
use Rattle.sap_forward.specs.Written.{IsWrittenAsRules, moved, with_thread_fact}
use Rattle.sap_forward.specs.code.Desk.{Keeps}
use Rattle.sap_forward.specs.code.Steps.{IsAt, HasNone, Ends, Splits, Copies, StartsCopying, WritesAny, goes, joins, starts}
use Rattle.sap_forward.specs.declared.desk.Desk.{Desk}
use Rattle.sap_forward.specs.declared.seats.Seat.{Seat}
use Rattle.sap_forward.proofs.Lists.{lists_last}
use Rattle.sap_forward.proofs.Seated.{first_stands, second_stands}
use Rattle.sap_forward.proofs.Tabled.{get_set}
use Rattle.sap_forward.proofs.Keeping.{has_seat, has_copying, one_seat, end_kept, go_kept, join_kept, starts_kept}

pub writes_nil : (d e : Desk) (t : ℕ) (before after : List RStep) → Ends d e t before after → WritesAny d e (line.Nil t) before after
writes_nil d e t before after ended found g start drawn agents later c tables behind ls keeps (IsWrittenAsRules.ends t' k path env seated) binds =
    let h = has_seat start drawn agents tables d keeps t' k path env nil seated in
    let m = ended h.seat h.place h.at in
    let a = h.sits.way in let b = h.sits.number in
    (m.1 ∙ (λ i. before ++ uses (codes "Nil_") (a i) (b i ∷ []) [] ∷ []), subst (Keeps start drawn (slice_set agents t' None) tables) (sym m.0) (end_kept start drawn agents tables d keeps t'))

pub writes_par : (d e : Desk) (t : ℕ) (before after : List RStep) → Splits d e t before after → WritesAny d e (line.Par t) before after
writes_par d e t before after splits found g start drawn agents later c tables behind ls keeps (IsWrittenAsRules.splits t' k path env p q seated) binds =
    let h = has_seat start drawn agents tables d keeps t' k path env (parallel p q) seated in
    let m = splits h.seat h.place h.at in
    let a = h.sits.way in let b = h.sits.number in
    let first = first_stands d.places keeps.places.places h.seat.place h.place h.at.1 (parallel p q) h.sits.proc p refl in
    let second = second_stands d.places keeps.places.places h.seat.place h.place h.at.1 (parallel p q) h.sits.proc q refl in
    let gone = go_kept start drawn agents tables d keeps t' k 1 h.place.first 0 path env (parallel p q) p h.seat h.sits first in
    let came = join_kept start drawn (goes_on agents t' path env p) (moved tables t' 0) (goes d t' h.seat 1 h.place.first 0) gone h.place.second (second_of path) env q second in
    let there : e ≡ joins (goes d t' h.seat 1 h.place.first 0) (second_of path) h.place.second = m.0 ∙ ap (λ ds. joins (goes d t' h.seat 1 h.place.first 0) (ds ++ 2 ∷ []) h.place.second) a in (
      m.1 ∙ (λ i. before ++ uses (codes "Par_") (a i) (b i ∷ []) [] ∷ []),
      subst (Keeps start drawn (goes_on agents t' path env p ++ Some (running (second_of path) env q) ∷ []) (with_thread_fact (moved tables t' 0))) (sym there) came,
    )

-- a replication that has started
pub writes_copy : (d e : Desk) (t : ℕ) (s : Seat) (x : Place) (before after : List RStep) → IsAt d t s x → s.copying ≡ true → Copies d e t before after → WritesAny d e (line.Rep t) before after
writes_copy d e t s x before after at is copies found g start drawn agents later c tables behind ls keeps (IsWrittenAsRules.copies_first t' k path env p seated) binds =
    let h = has_seat start drawn agents tables d keeps t' k path env (replicated p) seated in
    absurd (false≢true (sym h.copying ∙ ap (λ (u : Seat). u.copying) (one_seat d t' h.seat s h.place x h.at at).0 ∙ is))
writes_copy d e t s x before after at is copies found g start drawn agents later c tables behind ls keeps (IsWrittenAsRules.copies_more t' k path env p seated) binds =
    let h = has_copying start drawn agents tables d keeps t' k path env p seated in
    let m = copies h.seat h.place h.at in
    let a = h.sits.way in let b = h.sits.number in
    let first = first_stands d.places keeps.places.places h.seat.place h.place h.at.1 (replicated p) h.sits.proc p refl in
    let came = join_kept start drawn agents tables d keeps h.place.first (first_of path) env p first in
    let there : e ≡ joins d (first_of path) h.place.first = m.0 ∙ ap (λ ds. joins d (ds ++ 1 ∷ []) h.place.first) a in (
      m.1 ∙ (λ i. before ++ uses (codes "RepCopy_") (a i) (b i ∷ []) [] ∷ []),
      subst (Keeps start drawn (agents ++ Some (running (first_of path) env p) ∷ []) (with_thread_fact tables)) (sym there) came,
    )

-- one that starts
pub writes_first_copy : (d e : Desk) (t : ℕ) (s : Seat) (x : Place) (before after : List RStep) → IsAt d t s x → s.copying ≡ false → StartsCopying d e t before after → WritesAny d e (line.Rep t) before after
writes_first_copy d e t s x before after at not copies found g start drawn agents later c tables behind ls keeps (IsWrittenAsRules.copies_more t' k path env p seated) binds =
    let h = has_copying start drawn agents tables d keeps t' k path env p seated in
    absurd (false≢true (sym not ∙ ap (λ (u : Seat). u.copying) (one_seat d t' s h.seat x h.place at h.at).0 ∙ h.copying))
writes_first_copy d e t s x before after at not copies found g start drawn agents later c tables behind ls keeps (IsWrittenAsRules.copies_first t' k path env p seated) binds =
    let h = has_seat start drawn agents tables d keeps t' k path env (replicated p) seated in
    let m = copies h.seat h.place h.at in
    let a = h.sits.way in let b = h.sits.number in let n = keeps.count in
    let first = first_stands d.places keeps.places.places h.seat.place h.place h.at.1 (replicated p) h.sits.proc p refl in
    let begun = starts_kept start drawn agents tables d keeps t' k path env p h.seat h.sits in
    let came = join_kept start drawn (slice_set agents t' (Some (copying path env p))) (moved tables t' 0) (starts d t' h.seat) begun h.place.first (first_of path) env p first in
    let there : e ≡ joins (starts d t' h.seat) (first_of path) h.place.first = m.0 ∙ ap (λ ds. joins (starts d t' h.seat) (ds ++ 1 ∷ []) h.place.first) a in (
      m.1 ∙ (λ i. before ++ uses (codes "RepStart_") (a i) (b i ∷ []) [] ∷ uses (codes "RepCopy_") (a i) (n i ∷ []) [] ∷ []),
      subst (Keeps start drawn (slice_set agents t' (Some (copying path env p)) ++ Some (running (first_of path) env p) ∷ []) (with_thread_fact (moved tables t' 0))) (sym there) came,
    )

-- a thread without a seat gives none
pub no_copy : (d : Desk) (t : ℕ) (before : List RStep) → HasNone d t → WritesAny d d (line.Rep t) before before
no_copy d t before none found g start drawn agents later c tables behind ls keeps (IsWrittenAsRules.copies_first t' k path env p seated) binds =
    let h = has_seat start drawn agents tables d keeps t' k path env (replicated p) seated in absurd (none h.seat h.place h.at)
no_copy d t before none found g start drawn agents later c tables behind ls keeps (IsWrittenAsRules.copies_more t' k path env p seated) binds =
    let h = has_copying start drawn agents tables d keeps t' k path env p seated in absurd (none h.seat h.place h.at)

-- one that starts gives the first then
pub starts_then : (d m e : Desk) (t : ℕ) (before middle after : List RStep) (u : Seat) (y : Place) → IsAt d t u y
    → ((s : Seat) → slice_get d.seats t ≡ Some (Some s) → m ≡ starts d t s) → middle ≡ before ++ uses (codes "RepStart_") u.path (u.number ∷ []) [] ∷ [] → Copies m e t middle after → StartsCopying d e t before after
starts_then d m e t before middle after u y at begun put copies s x is =
    let same = one_seat d t u s y x at is in
    let ms : m ≡ starts d t s = begun s is.0 in
    let there : IsAt (starts d t s) t (record s { number = d.count; copying = true }) x = (get_set d.seats t (Some s) (Some (record s { number = d.count; copying = true })) is.0, is.1) in
    let w = copies (record s { number = d.count; copying = true }) x (subst (λ (z : Desk). IsAt z t (record s { number = d.count; copying = true }) x) (sym ms) there) in (
      w.0 ∙ ap (λ z. joins z (s.path ++ 1 ∷ []) x.first) ms,
      lists_last before middle after (uses (codes "RepStart_") s.path (s.number ∷ []) [] ∷ []) (uses (codes "RepCopy_") s.path (d.count ∷ []) [])
          (put ∙ ap (λ (z : Seat). before ++ uses (codes "RepStart_") z.path (z.number ∷ []) [] ∷ []) same.0) w.1,
    )
