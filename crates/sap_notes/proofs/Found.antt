-- The notes that are found word by word are those that are true of the file.
use Rattle.std.proofs.Common.{◌≡◌, ◌<◌, ℕ, zero, suc, Bool, true, false, ◌⊎◌, inl, inr, List, [], ◌∷◌, Option, Some, None, length, refl, sym, ap, ◌∙◌, subst, ⊎_elim, arith}
use Rattle.std.proofs.lemmas.Bool.{cases_lt, false≢true, true≢false}
use Rattle.std.proofs.lemmas.List.Elements.{Contains-append_cases, Contains-append_left, Contains-append_right}
use Rattle.std.specs.List.{list_any}
use Rattle.std.specs.Prelude.{if◌then◌else◌, Contains, codes, drop}
use Rattle.std.specs.Str.{bytes_eq}
use Rattle.sap_terms.proofs.PlainLaws.Items.{first_item, item_cases, none_contained}
use Rattle.sap_terms.proofs.PlainLaws.Known.{one_name, own_name}
use Rattle.sap_text.specs.Spans.{InOrder}
use Rattle.sap_text.specs.declared.token.Token.{Token}
use Rattle.sap_grammar.specs.Reading.{is_name, name_at, names}
use Rattle.sap_grammar.specs.Words.{words_of}
use Rattle.sap_stretches.specs.Stretches.{stretch_at}
use Rattle.sap_stretches.specs.declared.stretch.Stretch.{Stretch}
use Rattle.sap_where.specs.FileDeclarations.{in_item, is_next}
use Rattle.sap_uses.specs.ScopeFlaws.{LeadsTo}
use Rattle.sap_notes.specs.Contents.{Content, HasContent, content_symbols}
use Rattle.sap_notes.specs.NotedWords.{IsDeclaredAt, IsDefinedAt, IsFirstDeclaredAt, is_behind_let}
use Rattle.sap_notes.specs.Notes.{AreAscending, IsBefore, IsNote, captured_name, compared_name, note_at, other_symbol, rank, unshown_fact, unspoken_event, unused_definition, unused_symbol}
use Rattle.sap_notes.specs.OtherSymbols.{IsAnother}
use Rattle.sap_notes.specs.code.Led.{AreLedTo, IsAmong}
use Rattle.sap_notes.specs.code.Others.{is_another}
use Rattle.sap_notes.specs.code.Walk.{declared_name, declared_names, declared_notes, defined_name, defined_notes, name_if, note_if, note_unless, notes_at, notes_before, symbol_notes, with_named}
use Rattle.sap_notes.specs.declared.note.Kind.{Kind}
use Rattle.sap_notes.specs.declared.note.Kind.TheVariants.{OtherSymbol, UnusedDefinition, UnusedSymbol}
use Rattle.sap_notes.specs.declared.note.Note.{Note}
use Rattle.sap_notes.proofs.Ascending.{joined}
use Rattle.sap_notes.proofs.Gathered.{none_among, one_kept, one_only, one_there}
use Rattle.sap_notes.proofs.Others.{another_is, is_another_is}
use Rattle.sap_notes.proofs.Spans.{ascends, named_within}

-- ---- names at words

pub if_some : (b : Bool) (o : Option (List ℕ)) (x : List ℕ) → name_if b o ≡ Some x → (b ≡ true) × (o ≡ Some x)
if_some true o x e = (refl, e)
if_some false o x e = absurd (cc)

pub some_if : (b : Bool) (o : Option (List ℕ)) (x : List ℕ) → b ≡ true → o ≡ Some x → name_if b o ≡ Some x
some_if true o x e f = f
some_if false o x e f = absurd (false≢true e)

is_named : (o : Option (List ℕ)) (x : List ℕ) → o ≡ Some x → is_name x o ≡ true
is_named o x e = ap (is_name x) e ∙ own_name x

named_is : (o : Option (List ℕ)) (x : List ℕ) → is_name x o ≡ true → o ≡ Some x
named_is None x e = absurd (false≢true e)
named_is (Some y) x e = ap Some (one_name y x e)

module _ (z : List ℕ) (ts : List Token) (k : ℕ) (x : List ℕ) where
  declared_is : declared_name z ts k ≡ Some x → IsDeclaredAt z ts x k
  declared_is e =
      let outer = if_some (is_next z ts k) (name_if (in_item z ts (codes "functions") k) (name_at (words_of z (drop k ts)))) x e in
      let inner = if_some (in_item z ts (codes "functions") k) (name_at (words_of z (drop k ts))) x outer.1 in
      record { is = is_named (name_at (words_of z (drop k ts))) x inner.1; item = inner.0; next = outer.0 }

  is_declared : IsDeclaredAt z ts x k → declared_name z ts k ≡ Some x
  is_declared d =
      some_if (is_next z ts k) (name_if (in_item z ts (codes "functions") k) (name_at (words_of z (drop k ts)))) x d.next
      (some_if (in_item z ts (codes "functions") k) (name_at (words_of z (drop k ts))) x d.item (named_is (name_at (words_of z (drop k ts))) x d.is))

  pub defined_is : defined_name z ts k ≡ Some x → IsDefinedAt z ts x k
  defined_is e =
      let parts = if_some (is_behind_let z ts k) (name_at (words_of z (drop k ts))) x e in
      record { is = is_named (name_at (words_of z (drop k ts))) x parts.1; behind = parts.0 }

  pub is_defined : IsDefinedAt z ts x k → defined_name z ts k ≡ Some x
  is_defined d = some_if (is_behind_let z ts k) (name_at (words_of z (drop k ts))) x d.behind (named_is (name_at (words_of z (drop k ts))) x d.is)

  within : (b : Bool) → names x (words_of z (drop k ts)) ≡ b → b ≡ true → k < length ts
  within b e t = named_within z ts k x (named_is (name_at (words_of z (drop k ts))) x (e ∙ t))

-- ---- names that were declared before

pub named_kept : (known : List (List ℕ)) (o : Option (List ℕ)) (x : List ℕ) → IsAmong known x → IsAmong (with_named known o) x
named_kept known None x h = h
named_kept known (Some y) x h = one_kept known y x h

pub named_there : (known : List (List ℕ)) (o : Option (List ℕ)) (x : List ℕ) → o ≡ Some x → IsAmong (with_named known o) x
named_there known o x e = subst (λ (p : Option (List ℕ)). IsAmong (with_named known p) x) (sym e) (one_there known x)

pub named_only : (known : List (List ℕ)) (o : Option (List ℕ)) (x : List ℕ) → IsAmong (with_named known o) x → IsAmong known x ⊎ (o ≡ Some x)
named_only known None x h = inl h
named_only known (Some y) x h = ⊎_elim (λ old. inl old) (λ e. inr (ap Some e)) (one_only known y x h)

module _ (z : List ℕ) (ts : List Token) (x : List ℕ) where
  among_before : (k i : ℕ) → i < k → IsDeclaredAt z ts x i → IsAmong (declared_names z ts k) x
  among_before zero i lt d = absurd (omega (arith, lt))
  among_before (suc k) i lt d =
      ⊎_elim (λ less. named_kept (declared_names z ts k) (declared_name z ts k) x (among_before k i less d))
      (λ le. let same : i ≡ k = omega (arith, lt, le) in
      named_there (declared_names z ts k) (declared_name z ts k) x (is_declared z ts k x (subst (IsDeclaredAt z ts x) same d))) (cases_lt i k)

  before_among : (k : ℕ) → IsAmong (declared_names z ts k) x → (i : ℕ) × (i < k) × IsDeclaredAt z ts x i
  before_among zero h = absurd (none_among x h)
  before_among (suc k) h =
      ⊎_elim (λ old. let one = before_among k old in (one.0, (let lt = one.1 in omega (arith, lt)), one.2))
      (λ e. (k, (omega arith), declared_is z ts k x e)) (named_only (declared_names z ts k) (declared_name z ts k) x h)

  first_is : (k : ℕ) → declared_name z ts k ≡ Some x → list_any (bytes_eq x) (declared_names z ts k) ≡ false → IsFirstDeclaredAt z ts x k
  first_is k e new = record { here = declared_is z ts k x e; none_before = λ i lt d. true≢false (sym (among_before k i lt d) ∙ new) }

  is_new : (k : ℕ) → IsFirstDeclaredAt z ts x k → list_any (bytes_eq x) (declared_names z ts k) ≡ false
  is_new k first = by (list_any (bytes_eq x) (declared_names z ts k)) refl where
    by : (b : Bool) → list_any (bytes_eq x) (declared_names z ts k) ≡ b → b ≡ false
    by true e = let one = before_among k e in absurd (first.none_before one.0 one.1 one.2)
    by false e = refl

-- ---- notes where a test is true, or false

if_note : (b : Bool) (kind : Kind) (s : Stretch) (n : Note) → Contains (note_if b kind s) n → (b ≡ true) × (record { kind = kind; word = s } ≡ n)
if_note true kind s n c = (refl, item_cases (record { kind = kind; word = s }) n c)
if_note false kind s n c = absurd (none_contained c)

pub unless_note : (b : Bool) (kind : Kind) (s : Stretch) (n : Note) → Contains (note_unless b kind s) n → (b ≡ false) × (record { kind = kind; word = s } ≡ n)
unless_note true kind s n c = absurd (none_contained c)
unless_note false kind s n c = (refl, item_cases (record { kind = kind; word = s }) n c)

note_there : (b : Bool) (kind : Kind) (s : Stretch) → b ≡ true → Contains (note_if b kind s) (record { kind = kind; word = s })
note_there true kind s e = first_item (record { kind = kind; word = s }) []
note_there false kind s e = absurd (false≢true e)

pub note_left : (b : Bool) (kind : Kind) (s : Stretch) → b ≡ false → Contains (note_unless b kind s) (record { kind = kind; word = s })
note_left true kind s e = absurd (true≢false e)
note_left false kind s e = first_item (record { kind = kind; word = s }) []

no_note : AreAscending []
no_note = tt

pub one_note : (n : Note) → AreAscending (n ∷ [])
one_note n = ((λ m c. absurd (none_contained c)), tt)

if_ascending : (b : Bool) (kind : Kind) (s : Stretch) → AreAscending (note_if b kind s)
if_ascending true kind s = one_note (record { kind = kind; word = s })
if_ascending false kind s = tt

unless_ascending : (b : Bool) (kind : Kind) (s : Stretch) → AreAscending (note_unless b kind s)
unless_ascending true kind s = tt
unless_ascending false kind s = one_note (record { kind = kind; word = s })

-- the note stands at this word, and is of this kind
abbrev IsOf : Stretch → Kind → Note → Type 0
IsOf s kind n = record { kind = kind; word = s } ≡ n

-- an earlier kind stands before a later one at one word
ranked : (s : Stretch) (a b : Kind) (n m : Note) → rank a < rank b → IsOf s a n → IsOf s b m → IsBefore n m
ranked s a b n m lt e f = subst (λ (k : Note). IsBefore k m) e (subst (IsBefore (record { kind = a; word = s })) f (inr (refl, lt)))

-- ---- one word

module _ (z : List ℕ) (ts : List Token) (f : Content) (has : HasContent z ts f) (symbols led : List (List ℕ))
    (used : (x : List ℕ) → IsAmong symbols x → Contains (content_symbols f) x) (all_used : (x : List ℕ) → Contains (content_symbols f) x → IsAmong symbols x)
    (leads : AreLedTo f.definitions f.process led) where
  -- the notes on a function that is declared first here
  module _ (k : ℕ) (x : List ℕ) (first : IsFirstDeclaredAt z ts x k) where
    symbol_true : (n : Note) → Contains (symbol_notes f.signature symbols x (stretch_at ts k)) n → IsNote z n
    symbol_true n c =
        ⊎_elim
        (λ l. let e = if_note (is_another f.signature x) OtherSymbol (stretch_at ts k) n l in
        subst (IsNote z) e.1 (other_symbol has first (another_is f.signature x e.0)))
        (λ r. let e = unless_note (list_any (bytes_eq x) symbols) UnusedSymbol (stretch_at ts k) n r in
        subst (IsNote z) e.1 (unused_symbol has first (λ there. true≢false (sym (all_used x there) ∙ e.0))))
        (Contains-append_cases (note_if (is_another f.signature x) OtherSymbol (stretch_at ts k)) (note_unless (list_any (bytes_eq x) symbols) UnusedSymbol (stretch_at ts k)) n c)

  symbols_ascend : (x : List ℕ) (s : Stretch) → AreAscending (symbol_notes f.signature symbols x s)
  symbols_ascend x s =
      joined (note_if (is_another f.signature x) OtherSymbol s) (note_unless (list_any (bytes_eq x) symbols) UnusedSymbol s)
      (if_ascending (is_another f.signature x) OtherSymbol s) (unless_ascending (list_any (bytes_eq x) symbols) UnusedSymbol s)
      (λ n m c d. ranked s OtherSymbol UnusedSymbol n m (omega arith) (if_note (is_another f.signature x) OtherSymbol s n c).1 (unless_note (list_any (bytes_eq x) symbols) UnusedSymbol s m d).1)

  -- a note on a function is of one of the two kinds
  of_symbol : (x : List ℕ) (s : Stretch) (n : Note) → Contains (symbol_notes f.signature symbols x s) n → IsOf s OtherSymbol n ⊎ IsOf s UnusedSymbol n
  of_symbol x s n c =
      ⊎_elim (λ l. inl (if_note (is_another f.signature x) OtherSymbol s n l).1) (λ r. inr (unless_note (list_any (bytes_eq x) symbols) UnusedSymbol s n r).1)
      (Contains-append_cases (note_if (is_another f.signature x) OtherSymbol s) (note_unless (list_any (bytes_eq x) symbols) UnusedSymbol s) n c)

  module _ (s : Stretch) (known : List (List ℕ)) where
    declared_ascend : (o : Option (List ℕ)) → AreAscending (declared_notes f.signature symbols known o s)
    declared_ascend None = tt
    declared_ascend (Some x) = by (list_any (bytes_eq x) known) where
      by : (b : Bool) → AreAscending (if b then [] else symbol_notes f.signature symbols x s)
      by true = tt
      by false = symbols_ascend x s

    of_declared : (o : Option (List ℕ)) (n : Note) → Contains (declared_notes f.signature symbols known o s) n
        → (IsOf s OtherSymbol n ⊎ IsOf s UnusedSymbol n) × ((x : List ℕ) × (o ≡ Some x) × (list_any (bytes_eq x) known ≡ false) × Contains (symbol_notes f.signature symbols x s) n)
    of_declared None n c = absurd (none_contained c)
    of_declared (Some x) n c = by (list_any (bytes_eq x) known) refl c where
      by : (b : Bool) → list_any (bytes_eq x) known ≡ b → Contains (if b then [] else symbol_notes f.signature symbols x s) n
          → (IsOf s OtherSymbol n ⊎ IsOf s UnusedSymbol n) × ((y : List ℕ) × (Some x ≡ Some y) × (list_any (bytes_eq y) known ≡ false) × Contains (symbol_notes f.signature symbols y s) n)
      by true e h = absurd (none_contained h)
      by false e h = (of_symbol x s n h, (x, refl, e, h))

    defined_ascend : (o : Option (List ℕ)) → AreAscending (defined_notes led o s)
    defined_ascend None = tt
    defined_ascend (Some x) = unless_ascending (list_any (bytes_eq x) led) UnusedDefinition s

    of_defined : (o : Option (List ℕ)) (n : Note) → Contains (defined_notes led o s) n → IsOf s UnusedDefinition n × ((x : List ℕ) × (o ≡ Some x) × (list_any (bytes_eq x) led ≡ false))
    of_defined None n c = absurd (none_contained c)
    of_defined (Some x) n c =
        let e = unless_note (list_any (bytes_eq x) led) UnusedDefinition s n c in
        (e.1, (x, refl, e.0))

  -- ---- the notes at a word

  -- the notes there
  abbrev here : ℕ → List Note
  here k = notes_at f.signature symbols led z ts k

  here_cases : (k : ℕ) (n : Note) → Contains (here k) n
      → Contains (declared_notes f.signature symbols (declared_names z ts k) (declared_name z ts k) (stretch_at ts k)) n ⊎ Contains (defined_notes led (defined_name z ts k) (stretch_at ts k)) n
  here_cases k n c = Contains-append_cases (declared_notes f.signature symbols (declared_names z ts k) (declared_name z ts k) (stretch_at ts k))
      (defined_notes led (defined_name z ts k) (stretch_at ts k)) n c

  here_true : (k : ℕ) (n : Note) → Contains (here k) n → IsNote z n
  here_true k n c = ⊎_elim
      (λ l. let of = of_declared (stretch_at ts k) (declared_names z ts k) (declared_name z ts k) n l in
      symbol_true k of.1.0 (first_is z ts of.1.0 k of.1.1 of.1.2) n of.1.3)
      (λ r. let of = of_defined (stretch_at ts k) (declared_names z ts k) (defined_name z ts k) n r in
      subst (IsNote z) of.0 (unused_definition has (defined_is z ts k of.1.0 of.1.1) (λ l. true≢false (sym (leads.all of.1.0 l) ∙ of.1.2)))) (here_cases k n c)

  -- it is the word of the note, and a name
  here_word : (k : ℕ) (n : Note) → Contains (here k) n → (stretch_at ts k ≡ n.word) × (k < length ts)
  here_word k n c = ⊎_elim
      (λ l. let of = of_declared (stretch_at ts k) (declared_names z ts k) (declared_name z ts k) n l in
      (⊎_elim (λ e. ap (λ (m : Note). m.word) e) (λ e. ap (λ (m : Note). m.word) e) of.0, within z ts k of.1.0 true (declared_is z ts k of.1.0 of.1.1).is refl))
      (λ r. let of = of_defined (stretch_at ts k) (declared_names z ts k) (defined_name z ts k) n r in
      (ap (λ (m : Note). m.word) of.0, within z ts k of.1.0 true (defined_is z ts k of.1.0 of.1.1).is refl)) (here_cases k n c)

  -- it is of one of the first kinds
  here_kind : (k : ℕ) (n : Note) → Contains (here k) n → rank n.kind < 3
  here_kind k n c = ⊎_elim
      (λ l. ⊎_elim (λ e. subst (λ (m : Note). rank m.kind < 3) e (omega arith)) (λ e. subst (λ (m : Note). rank m.kind < 3) e (omega arith))
      (of_declared (stretch_at ts k) (declared_names z ts k) (declared_name z ts k) n l).0)
      (λ r. subst (λ (m : Note). rank m.kind < 3) (of_defined (stretch_at ts k) (declared_names z ts k) (defined_name z ts k) n r).0 (omega arith)) (here_cases k n c)

  here_ascend : (k : ℕ) → AreAscending (here k)
  here_ascend k = joined (declared_notes f.signature symbols (declared_names z ts k) (declared_name z ts k) (stretch_at ts k)) (defined_notes led (defined_name z ts k) (stretch_at ts k))
      (declared_ascend (stretch_at ts k) (declared_names z ts k) (declared_name z ts k)) (defined_ascend (stretch_at ts k) (declared_names z ts k) (defined_name z ts k))
      (λ n m c d. let later = (of_defined (stretch_at ts k) (declared_names z ts k) (defined_name z ts k) m d).0 in
      ⊎_elim (λ e. ranked (stretch_at ts k) OtherSymbol UnusedDefinition n m (omega arith) e later) (λ e. ranked (stretch_at ts k) UnusedSymbol UnusedDefinition n m (omega arith) e later)
      (of_declared (stretch_at ts k) (declared_names z ts k) (declared_name z ts k) n c).0)

  -- ---- all words

  abbrev before : ℕ → List Note
  before k = notes_before f.signature symbols led z ts k

  into : (k i : ℕ) (n : Note) → i < k → Contains (here i) n → Contains (before k) n
  into zero i n lt c = absurd (omega (arith, lt))
  into (suc k) i n lt c = ⊎_elim (λ less. Contains-append_left (before k) (here k) n (into k i n less c))
      (λ le. let same : i ≡ k = omega (arith, lt, le) in
      Contains-append_right (before k) (here k) n (subst (λ j. Contains (here j) n) same c)) (cases_lt i k)

  out_of : (k : ℕ) (n : Note) → Contains (before k) n → (i : ℕ) × (i < k) × Contains (here i) n
  out_of zero n c = absurd (none_contained c)
  out_of (suc k) n c = ⊎_elim (λ l. let one = out_of k n l in (one.0, (let lt = one.1 in omega (arith, lt)), one.2)) (λ r. (k, (omega arith), r))
      (Contains-append_cases (before k) (here k) n c)

  module _ (end : ℕ) (order : InOrder 0 end ts) where
    pub before_ascend : (k : ℕ) → AreAscending (before k)
    before_ascend zero = tt
    before_ascend (suc k) = joined (before k) (here k) (before_ascend k) (here_ascend k)
        (λ n m c d. let one = out_of k n c in
        let first = here_word one.0 n one.2 in
        let second = here_word k m d in
        let less = ascends end ts one.0 k order one.1 second.1 in
        let left : (stretch_at ts one.0).from ≡ n.word.from = ap (λ (s : Stretch). s.from) first.0 in
        let right : (stretch_at ts k).from ≡ m.word.from = ap (λ (s : Stretch). s.from) second.0 in
        inl (omega (arith, less, left, right)))

    -- all that are true are found, where the file says one thing alone
    module _ (one : (us : List Token) (h : Content) → HasContent z us h → (us ≡ ts) × (h ≡ f)) where
      new_there : (k : ℕ) (x : List ℕ) (n : Note) → IsFirstDeclaredAt z ts x k → Contains (symbol_notes f.signature symbols x (stretch_at ts k)) n → Contains (before (length ts)) n
      new_there k x n first c = into (length ts) k n (within z ts k x true first.here.is refl)
          (Contains-append_left (declared_notes f.signature symbols (declared_names z ts k) (declared_name z ts k) (stretch_at ts k)) (defined_notes led (defined_name z ts k) (stretch_at ts k)) n
          (subst (λ (o : Option (List ℕ)). Contains (declared_notes f.signature symbols (declared_names z ts k) o (stretch_at ts k)) n) (sym (is_declared z ts k x first.here))
          (subst (λ (b : Bool). Contains (if b then [] else symbol_notes f.signature symbols x (stretch_at ts k)) n) (sym (is_new z ts x k first)) c)))

      other_there : (k : ℕ) (x : List ℕ) → IsFirstDeclaredAt z ts x k → IsAnother f.signature x → Contains (before (length ts)) (note_at OtherSymbol ts k)
      other_there k x first another = new_there k x (note_at OtherSymbol ts k) first
          (Contains-append_left (note_if (is_another f.signature x) OtherSymbol (stretch_at ts k)) (note_unless (list_any (bytes_eq x) symbols) UnusedSymbol (stretch_at ts k)) (note_at OtherSymbol ts k)
          (note_there (is_another f.signature x) OtherSymbol (stretch_at ts k) (is_another_is f.signature x another)))

      unused_there : (k : ℕ) (x : List ℕ) → IsFirstDeclaredAt z ts x k → (Contains (content_symbols f) x → ⊥) → Contains (before (length ts)) (note_at UnusedSymbol ts k)
      unused_there k x first never = new_there k x (note_at UnusedSymbol ts k) first
          (Contains-append_right (note_if (is_another f.signature x) OtherSymbol (stretch_at ts k)) (note_unless (list_any (bytes_eq x) symbols) UnusedSymbol (stretch_at ts k)) (note_at UnusedSymbol ts k)
          (note_left (list_any (bytes_eq x) symbols) UnusedSymbol (stretch_at ts k) (by (list_any (bytes_eq x) symbols) refl))) where
            by : (b : Bool) → list_any (bytes_eq x) symbols ≡ b → b ≡ false
            by true e = absurd (never (used x e))
            by false e = refl

      definition_there : (k : ℕ) (x : List ℕ) → IsDefinedAt z ts x k → (LeadsTo f.definitions f.process x → ⊥) → Contains (before (length ts)) (note_at UnusedDefinition ts k)
      definition_there k x defined never = into (length ts) k (note_at UnusedDefinition ts k) (within z ts k x true defined.is refl)
          (Contains-append_right (declared_notes f.signature symbols (declared_names z ts k) (declared_name z ts k) (stretch_at ts k)) (defined_notes led (defined_name z ts k) (stretch_at ts k))
          (note_at UnusedDefinition ts k)
          (subst (λ (o : Option (List ℕ)). Contains (defined_notes led o (stretch_at ts k)) (note_at UnusedDefinition ts k)) (sym (is_defined z ts k x defined))
          (note_left (list_any (bytes_eq x) led) UnusedDefinition (stretch_at ts k) (by (list_any (bytes_eq x) led) refl)))) where
            by : (b : Bool) → list_any (bytes_eq x) led ≡ b → b ≡ false
            by true e = absurd (never (leads.sound x e))
            by false e = refl

      pub all_there : (n : Note) → IsNote z n → rank n.kind < 3 → Contains (before (length ts)) n
      all_there _ (other_symbol {ts = us} {f = h} {x = x} {k = k} content first another) lt =
          let same = one us h content in
          subst (λ (vs : List Token). Contains (before (length ts)) (note_at OtherSymbol vs k)) (sym same.0)
          (other_there k x (subst (λ (vs : List Token). IsFirstDeclaredAt z vs x k) same.0 first) (subst (λ (g : Content). IsAnother g.signature x) same.1 another))
      all_there _ (unused_symbol {ts = us} {f = h} {x = x} {k = k} content first never) lt =
          let same = one us h content in
          subst (λ (vs : List Token). Contains (before (length ts)) (note_at UnusedSymbol vs k)) (sym same.0)
          (unused_there k x (subst (λ (vs : List Token). IsFirstDeclaredAt z vs x k) same.0 first) (subst (λ (g : Content). Contains (content_symbols g) x → ⊥) same.1 never))
      all_there _ (unused_definition {ts = us} {f = h} {x = x} {k = k} content defined never) lt =
          let same = one us h content in
          subst (λ (vs : List Token). Contains (before (length ts)) (note_at UnusedDefinition vs k)) (sym same.0)
          (definition_there k x (subst (λ (vs : List Token). IsDefinedAt z vs x k) same.0 defined) (subst (λ (g : Content). LeadsTo g.definitions g.process x → ⊥) same.1 never))
      all_there _ (unshown_fact content first never) lt = absurd (omega (arith, lt))
      all_there _ (unspoken_event content first some never) lt = absurd (omega (arith, lt))
      all_there _ (captured_name c) lt = absurd (omega (arith, lt))
      all_there _ (compared_name c) lt = absurd (omega (arith, lt))

      pub all_true : (n : Note) → Contains (before (length ts)) n → IsNote z n
      all_true n c = let one = out_of (length ts) n c in here_true one.0 n one.2

      pub all_kinds : (n : Note) → Contains (before (length ts)) n → rank n.kind < 3
      all_kinds n c = let one = out_of (length ts) n c in here_kind one.0 n one.2

      -- and each is the word of a token
      pub are_tokens : (n : Note) → Contains (before (length ts)) n → (k : ℕ) × (k < length ts) × (stretch_at ts k ≡ n.word)
      are_tokens n c =
          let one = out_of (length ts) n c in
          let word = here_word one.0 n one.2 in
          (one.0, word.1, word.0)
