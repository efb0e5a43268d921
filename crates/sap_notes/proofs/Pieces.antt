-- Lists that are made piece by piece.
use Rattle.std.proofs.Common.{◌≡◌, ◌<◌, ◌+◌, ℕ, Bool, true, false, ◌||◌, List, [], ◌∷◌, ◌++◌, length, drop, Some, refl, sym, ap, ◌∙◌, append_assoc}
use Rattle.std.proofs.lemmas.Option.{slice_get-get_or}
use Rattle.std.specs.Prelude.{Contains, get_or, if◌then◌else◌}
use Rattle.sap_stretches.specs.Stretches.{bytes_in}
use Rattle.sap_terms.proofs.PlainLaws.Lists.{drop_got}
use Rattle.sap_notes.specs.NotesTold.{event_names, is_of_event, with_one_event, without_events}
use Rattle.sap_notes.specs.code.Once.{once, told_behind}
use Rattle.sap_notes.specs.declared.note.Note.{Note}

-- one piece more, of an item that a loop goes over
pub piece_more : {X Y : Type 0} (all : List X → List Y) (one : X → List Y) → ((x : X) (xs : List X) → all (x ∷ xs) ≡ one x ++ all xs)
    → (items : List X) (k : ℕ) (x : X) → k < length items → x ≡ get_or items k x → (made next last : List Y) → next ≡ made ++ one x
    → made ++ all (drop k items) ≡ last → next ++ all (drop (k + 1) items) ≡ last
piece_more all one law items k x lt is made next last e whole =
    let rest = all (drop (k + 1) items) in
    let got = slice_get-get_or items k x lt ∙ ap Some (sym is) in
    let here = ap all (drop_got items k x got) ∙ law x (drop (k + 1) items) in
    ap (λ m. m ++ rest) e ∙ (append_assoc made (one x) rest ∙ (sym (ap (λ m. made ++ m) here) ∙ whole))

-- an item that a loop goes over is one of the list
pub item_there : {X : Type 0} (items : List X) (k : ℕ) (x : X) → k < length items → x ≡ get_or items k x → Contains items x
item_there items k x lt is = (k, lt, sym is)

pub one_name : (z : List ℕ) (n : Note) (ns : List Note) → event_names z (n ∷ ns) ≡ event_names z (n ∷ []) ++ event_names z ns
one_name z n ns = by (is_of_event n.kind) where
  by : (b : Bool) → (if b then bytes_in z n.word ∷ event_names z ns else event_names z ns) ≡ (if b then bytes_in z n.word ∷ [] else []) ++ event_names z ns
  by true = refl
  by false = refl

-- one note more
pub once_more : (met : Bool) (n : Note) (ns : List Note) → told_behind met (n ∷ ns) ≡ once met n ++ told_behind (met || is_of_event n.kind) ns
once_more true n ns = by (is_of_event n.kind) where
  by : (b : Bool) → (if b then without_events ns else n ∷ without_events ns) ≡ (if b then [] else n ∷ []) ++ without_events ns
  by true = refl
  by false = refl
once_more false n ns = by (is_of_event n.kind) where
  by : (b : Bool) → (if b then n ∷ without_events ns else n ∷ with_one_event ns) ≡ n ∷ told_behind b ns
  by true = refl
  by false = refl

pub told_more : (items : List Note) (k : ℕ) (n : Note) → k < length items → n ≡ get_or items k n → (met now : Bool) (made next last : List Note) → next ≡ made ++ once met n
    → now ≡ (met || is_of_event n.kind) → made ++ told_behind met (drop k items) ≡ last → next ++ told_behind now (drop (k + 1) items) ≡ last
told_more items k n lt is met now made next last e f whole =
    let rest = told_behind (met || is_of_event n.kind) (drop (k + 1) items) in
    let got = slice_get-get_or items k n lt ∙ ap Some (sym is) in
    let here = ap (told_behind met) (drop_got items k n got) ∙ once_more met n (drop (k + 1) items) in
    ap (λ b. next ++ told_behind b (drop (k + 1) items)) f
    ∙ (ap (λ m. m ++ rest) e ∙ (append_assoc made (once met n) rest ∙ (sym (ap (λ m. made ++ m) here) ∙ whole)))
