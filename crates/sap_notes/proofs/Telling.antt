-- What is told of notes, one after another, and that of a file one text is told.
use Rattle.std.proofs.Common.{◌≡◌, ◌≤◌, ◌<◌, ℕ, zero, suc, ◌+◌, List, [], ◌∷◌, ◌++◌, length, take, drop, add-one, refl, sym, ap, subst, ◌∙◌, append_assoc, ⊎_elim, arith}
use Rattle.std.proofs.lemmas.List.{append-nil, take_all, take_more}
use Rattle.std.specs.Prelude.{Bool, true, false, if◌then◌else◌, Contains, OnOk, Result, Ok, Err, slice_index_or}
use Rattle.sap_terms.proofs.PlainLaws.Items.{cons_cases, first_item, later_item}
use Rattle.sap_stretches.specs.Positions.{IsPlaceText}
use Rattle.sap_stretches.specs.Stretches.{IsInBytes, bytes_in}
use Rattle.sap_stretches.specs.declared.line.Line.{Line}
use Rattle.sap_stretches.specs.declared.stretch.Stretch.{Stretch}
use Rattle.sap_notes.specs.Notes.{AreAscending, IsBefore}
use Rattle.sap_notes.specs.NotesTold.{AreNotesTold, IsNoteTold, IsNotesText, event_names, is_of_event, is_told, more_told, none_told, sentence, with_one_event, without_events}
use Rattle.sap_notes.specs.declared.note.Note.{Note}
use Rattle.sap_notes.proofs.Ascending.{one_list}

-- ---- one note

pub note_is : {A E : Type 0} (z : List ℕ) (es : List (List ℕ)) (old placed said new : List ℕ) (n : Note) (r : Result A E) → (t : List ℕ) × (placed ≡ old ++ t) × IsPlaceText z n.word t
    → said ≡ placed ++ sentence es n.kind (bytes_in z n.word) → OnOk r (new ≡ said ++ (10 ∷ [])) → OnOk r ((t : List ℕ) × (new ≡ old ++ t) × IsNoteTold z es n t)
note_is z es old placed said new n (Ok v) (t, is, place) more last =
    let what = sentence es n.kind (bytes_in z n.word) in (
      t ++ (what ++ (10 ∷ [])),
      last ∙ ap (λ (m : List ℕ). m ++ (10 ∷ [])) (more ∙ ap (λ (m : List ℕ). m ++ what) is)
          ∙ (append_assoc (old ++ t) what (10 ∷ []) ∙ append_assoc old t (what ++ (10 ∷ []))),
      is_told place,
    )
note_is z es old placed said new n (Err m) place more last = tt

-- three texts come last
pub three_pushed : {A E : Type 0} (old a b new x y w : List ℕ) (r : Result A E) → a ≡ old ++ x → b ≡ a ++ y → OnOk r (new ≡ b ++ w) → OnOk r (new ≡ old ++ (x ++ (y ++ w)))
three_pushed old a b new x y w (Ok v) e f g =
    g ∙ ap (λ (m : List ℕ). m ++ w) (f ∙ ap (λ (m : List ℕ). m ++ y) e)
    ∙ (append_assoc (old ++ x) y w ∙ append_assoc old x (y ++ w))
three_pushed old a b new x y w (Err m) e f g = tt

-- ---- so many notes

told_more : {z : List ℕ} {es : List (List ℕ)} {ns : List Note} {t x : List ℕ} (n : Note) → AreNotesTold z es ns t → IsNoteTold z es n x → AreNotesTold z es (ns ++ n ∷ []) (t ++ x)
told_more {z = z} {es = es} {x = x} n none_told is = subst (λ (y : List ℕ). AreNotesTold z es (n ∷ []) y) (append-nil x) (more_told is none_told)
told_more {z = z} {es = es} {ns = m ∷ ns} {x = x} n (more_told {t = a} {u = b} first more) is =
    subst (λ (y : List ℕ). AreNotesTold z es (m ∷ (ns ++ n ∷ [])) y) (sym (append_assoc a b x)) (more_told first (told_more n more is))

-- the texts of so many notes come last
abbrev pub HasNotes : List ℕ → List (List ℕ) → List ℕ → List ℕ → List Note → Type 0
HasNotes z es old new ns = (t : List ℕ) × (new ≡ old ++ t) × AreNotesTold z es ns t

pub no_notes : (z : List ℕ) (es : List (List ℕ)) (old : List ℕ) → HasNotes z es old old []
no_notes z es old = ([], sym (append-nil old), none_told)

pub notes_more : (z : List ℕ) (es : List (List ℕ)) (old mid new : List ℕ) (ns : List Note) (k : ℕ) (d : Note) → k < length ns → HasNotes z es old mid (take k ns)
    → (x : List ℕ) × (new ≡ mid ++ x) × IsNoteTold z es (slice_index_or ns k d) x → HasNotes z es old new (take (k + 1) ns)
notes_more z es old mid new ns k d lt h more =
    subst (λ (vs : List Note). HasNotes z es old new vs) (sym (take_more ns k d lt))
    (h.0 ++ more.0, more.1 ∙ ap (λ (m : List ℕ). m ++ more.0) h.1 ∙ append_assoc old h.0 more.0, told_more (slice_index_or ns k d) h.2 more.2)

pub all_notes : (z : List ℕ) (es : List (List ℕ)) (old new : List ℕ) (ns : List Note) (k : ℕ) → length ns ≤ k → HasNotes z es old new (take k ns) → HasNotes z es old new ns
all_notes z es old new ns k end h = subst (λ (vs : List Note). HasNotes z es old new vs) (take_all k ns end) h

-- ---- lines ascend with notes

not_behind : (n m : Note) → IsBefore n m → n.word.from ≤ m.word.from
not_behind n m b = ⊎_elim (λ lt. omega (arith, lt)) (λ s. let e = s.0 in omega (arith, e)) b

pub first_inside : (z : List ℕ) (s : Stretch) → IsInBytes (length z) s → s.from ≤ length z
first_inside z s inside =
    let first = inside.0 in
    let last = inside.1 in
    omega (arith, first, last)

pub item_here : (ns : List Note) (k : ℕ) (d : Note) → k < length ns → Contains ns (slice_index_or ns k d)
item_here [] k d lt = absurd (omega (arith, lt))
item_here (n ∷ ns) zero d lt = first_item n ns
item_here (n ∷ ns) (suc k) d lt = later_item n ns (slice_index_or ns k d) (item_here ns k d (omega (arith, lt)))

pub item_ahead : (ns : List Note) (k : ℕ) (d : Note) → k < length ns → Contains (drop k ns) (slice_index_or ns k d)
item_ahead [] k d lt = absurd (omega (arith, lt))
item_ahead (n ∷ ns) zero d lt = first_item n ns
item_ahead (n ∷ ns) (suc k) d lt = item_ahead ns k d (omega (arith, lt))

pub ahead : (ns : List Note) (k : ℕ) (d m : Note) → AreAscending ns → k < length ns → Contains (drop (k + 1) ns) m → (slice_index_or ns k d).word.from ≤ m.word.from
ahead ns k d m a lt c = later ns k a lt (rw add-one at c) where
  later : (ns : List Note) (k : ℕ) → AreAscending ns → k < length ns → Contains (drop (suc k) ns) m → (slice_index_or ns k d).word.from ≤ m.word.from
  later [] k a lt c = absurd (omega (arith, lt))
  later (n ∷ ns) zero a lt c = not_behind n m (a.0 m c)
  later (n ∷ ns) (suc k) a lt c = later ns k a.1 (omega (arith, lt)) c

pub ahead_next : (ns : List Note) (k : ℕ) (d : Note) (line : Line) (m : Note) → line.at ≡ (slice_index_or ns k d).word.from → AreAscending ns → k < length ns
    → Contains (drop (k + 1) ns) m → line.at ≤ m.word.from
ahead_next ns k d line m e a lt c = let le = ahead ns k d m a lt c in omega (arith, e, le)

-- ---- one text

module _ (z : List ℕ) (es : List (List ℕ)) (one : (s : Stretch) (t u : List ℕ) → IsPlaceText z s t → IsPlaceText z s u → t ≡ u) where
  same_note : (n : Note) (t u : List ℕ) → IsNoteTold z es n t → IsNoteTold z es n u → t ≡ u
  same_note n _ _ (is_told {t = a} p) (is_told {t = b} q) = ap (λ (x : List ℕ). x ++ (sentence es n.kind (bytes_in z n.word) ++ (10 ∷ []))) (one n.word a b p q)

  pub same_told : (ns : List Note) (t u : List ℕ) → AreNotesTold z es ns t → AreNotesTold z es ns u → t ≡ u
  same_told [] _ _ none_told none_told = refl
  same_told (n ∷ ns) _ _ (more_told {t = a} {u = b} p ps) (more_told {t = c} {u = d} q qs) =
      let first = same_note n a c p q in
      let rest = same_told ns b d ps qs in
      λ i. first i ++ rest i

pub same_text : (z : List ℕ) → ((s : Stretch) (t u : List ℕ) → IsPlaceText z s t → IsPlaceText z s u → t ≡ u) → (t u : List ℕ) → IsNotesText z t → IsNotesText z u → t ≡ u
same_text z one t u a b =
    let lists = one_list z a.notes b.notes a.are b.are in
    same_told z (event_names z b.notes) one (with_one_event b.notes) t u (subst (λ (ns : List Note). AreNotesTold z (event_names z ns) (with_one_event ns) t) lists a.told) b.told

-- ---- events in one

less_contained : (ns : List Note) (n : Note) → Contains (without_events ns) n → Contains ns n
less_contained [] n c = c
less_contained (m ∷ ns) n c = by (is_of_event m.kind) (λ d. less_contained ns n d) c where
  by : (b : Bool) → (Contains (without_events ns) n → Contains ns n) → Contains (if b then without_events ns else m ∷ without_events ns) n → Contains (m ∷ ns) n
  by true rest d = later_item m ns n (rest d)
  by false rest d = ⊎_elim (λ e. subst (Contains (m ∷ ns)) e (first_item m ns)) (λ later. later_item m ns n (rest later)) (cons_cases m (without_events ns) n d)

pub one_contained : (ns : List Note) (n : Note) → Contains (with_one_event ns) n → Contains ns n
one_contained [] n c = c
one_contained (m ∷ ns) n c = by (is_of_event m.kind) (λ d. one_contained ns n d) c where
  first : Contains (m ∷ ns) m
  first = first_item m ns

  by : (b : Bool) → (Contains (with_one_event ns) n → Contains ns n) → Contains (if b then m ∷ without_events ns else m ∷ with_one_event ns) n → Contains (m ∷ ns) n
  by true rest d = ⊎_elim (λ e. subst (Contains (m ∷ ns)) e first) (λ later. later_item m ns n (less_contained ns n later)) (cons_cases m (without_events ns) n d)
  by false rest d = ⊎_elim (λ e. subst (Contains (m ∷ ns)) e first) (λ later. later_item m ns n (rest later)) (cons_cases m (with_one_event ns) n d)

less_ascend : (ns : List Note) → AreAscending ns → AreAscending (without_events ns)
less_ascend [] a = tt
less_ascend (m ∷ ns) a = by (is_of_event m.kind) (less_ascend ns a.1) where
  by : (b : Bool) → AreAscending (without_events ns) → AreAscending (if b then without_events ns else m ∷ without_events ns)
  by true rest = rest
  by false rest = ((λ n c. a.0 n (less_contained ns n c)), rest)

pub one_ascend : (ns : List Note) → AreAscending ns → AreAscending (with_one_event ns)
one_ascend [] a = tt
one_ascend (m ∷ ns) a = by (is_of_event m.kind) (one_ascend ns a.1) where
  by : (b : Bool) → AreAscending (with_one_event ns) → AreAscending (if b then m ∷ without_events ns else m ∷ with_one_event ns)
  by true rest = ((λ n c. a.0 n (less_contained ns n c)), less_ascend ns a.1)
  by false rest = ((λ n c. a.0 n (one_contained ns n c)), rest)
