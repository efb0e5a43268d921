-- The notes on facts, by what is written in a file.
use Rattle.std.proofs.Common.{◌≡◌, ◌≤◌, ◌<◌, ℕ, Option, Some, List, [], length, sym, ap, subst, arith}
use Rattle.std.proofs.lemmas.List.{length-map}
use Rattle.std.specs.Prelude.{Contains}
use Rattle.sap_statements.specs.Statements.{formula_of}
use Rattle.sap_terms.proofs.PlainLaws.Items.{none_contained}
use Rattle.sap_process.specs.Proc.{Proc}
use Rattle.sap_macro.specs.Sources.{definitions, written}
use Rattle.sap_read.specs.FileExpansions.{IsFileExpansion}
use Rattle.sap_read.specs.FileTokens.{HasTokens}
use Rattle.sap_read.specs.WrittenFiles.{IsWrittenFile}
use Rattle.sap_read.specs.declared.written.WrittenFile.{WrittenFile}
use Rattle.sap_stretches.specs.Stretches.{IsInBytes}
use Rattle.sap_text.specs.Spans.{AreTokens, InOrder}
use Rattle.sap_text.specs.declared.token.Token.{Token}
use Rattle.sap_notes.specs.Contents.{Content, HasContent, content_facts}
use Rattle.sap_notes.specs.FactWords.{IsFirstSaidAt, IsFirstShownAt}
use Rattle.sap_notes.specs.Facts.{all_shown}
use Rattle.sap_notes.specs.Notes.{IsNote, captured_name, compared_name, note_at, other_symbol, rank, unshown_fact, unspoken_event, unused_definition, unused_symbol}
use Rattle.sap_notes.specs.code.FirstNotes.{first_notes, said_key, shown_key}
use Rattle.sap_notes.specs.code.Gathered.{gathered}
use Rattle.sap_notes.specs.code.Led.{AreLedTo, IsAmong}
use Rattle.sap_notes.specs.code.Ranked.{AreRanked}
use Rattle.sap_notes.specs.declared.note.Kind.{Kind}
use Rattle.sap_notes.specs.declared.note.Kind.TheVariants.{UnshownFact, UnspokenEvent}
use Rattle.sap_notes.specs.declared.note.Note.{Note}
use Rattle.sap_notes.proofs.Content.{AreOnce, content_of}
use Rattle.sap_notes.proofs.FactsAt.{AreRead, fact_within, is_said, is_shown_at, said_is, shown_is}
use Rattle.sap_notes.proofs.FirstFound.{all_ascend, first_only, first_there}
use Rattle.sap_notes.proofs.Whole.{among_there, has, in_order, one, there_among, token_inside}

module _ (once : AreOnce) (spans : (z : List ℕ) (ts : List Token) → AreTokens z ts → InOrder 0 (length z) ts) (read : AreRead) (z : List ℕ) (ts : List Token) (w : WrittenFile) (p : Proc)
    (tokens : HasTokens z ts) (is : IsWrittenFile z w) (expanded : IsFileExpansion w p) (led known : List (List ℕ)) where
  abbrev content : Content
  content = content_of w p

  here_has : HasContent z ts content
  here_has = has once spans z ts w p tokens is expanded

  same_here : (us : List Token) (h : Content) → HasContent z us h → (us ≡ ts) × (h ≡ content)
  same_here us h c = one once spans z ts w p tokens is expanded us h c

  ordered : InOrder 0 (length z) ts
  ordered = in_order once spans z ts w p tokens is expanded

  -- a note at a token stands in the bytes
  stands_inside : (kind : Kind) (k : ℕ) (n : Note) → note_at kind ts k ≡ n → k < length ts → IsInBytes (length z) n.word
  stands_inside kind k n e lt = subst (IsInBytes (length z)) (ap (λ (m : Note). m.word) e) (token_inside (length z) ts k tokens.within lt)

  -- ---- facts of restrictions and lemmas

  abbrev said_at : ℕ → Option (List ℕ)
  said_at k = said_key w.declared.signature z ts k

  abbrev said : List Note
  said = first_notes said_at known UnshownFact ts (length ts)

  module _ (gathers : known ≡ gathered [] (all_shown p)) where
    said_true : (n : Note) → Contains said n → IsNote z n
    said_true n c =
        let found = first_only said_at known UnshownFact ts n c in
        let first : IsFirstSaidAt z ts content found.1 found.0 = record {
          here = said_is read z ts content led found.1 found.0 found.2;
          none_before = λ i lt s. found.4 i lt (is_said read z ts content led found.1 i s);
        } in
        subst (IsNote z) found.5 (unshown_fact here_has first (λ i. found.3 (there_among known (all_shown p) gathers found.1 i)))

    said_there : (k : ℕ) (x : List ℕ) → IsFirstSaidAt z ts content x k → (Contains (all_shown p) x → ⊥) → Contains said (note_at UnshownFact ts k)
    said_there k x first never = first_there said_at known UnshownFact ts k x (fact_within read z ts w.declared.signature x k first.here.is) (is_said read z ts content led x k first.here)
        (λ h. never (among_there known (all_shown p) gathers x h)) (λ i lt e. first.none_before i lt (said_is read z ts content led x i e))

    said_all : (n : Note) → IsNote z n → 3 ≤ rank n.kind → rank n.kind < 4 → Contains said n
    said_all _ (other_symbol c first another) low high = absurd (omega (arith, low))
    said_all _ (unused_symbol c first never) low high = absurd (omega (arith, low))
    said_all _ (unused_definition c defined never) low high = absurd (omega (arith, low))
    said_all _ (unshown_fact {ts = us} {f = h} {x = x} {k = k} c first never) low high =
        let same = same_here us h c in
        subst (λ (vs : List Token). Contains said (note_at UnshownFact vs k)) (sym same.0)
        (said_there k x (subst (λ (g : Content). IsFirstSaidAt z ts g x k) same.1 (subst (λ (vs : List Token). IsFirstSaidAt z vs h x k) same.0 first))
        (subst (λ (g : Content). Contains (all_shown g.whole) x → ⊥) same.1 never))
    said_all _ (unspoken_event c first some never) low high = absurd (omega (arith, high))
    said_all _ (captured_name c) low high = absurd (omega (arith, high))
    said_all _ (compared_name c) low high = absurd (omega (arith, high))

    said_here : AreRanked 3 4 z said
    said_here = record {
      order = all_ascend said_at known UnshownFact ts (length z) ordered (λ k x e. fact_within read z ts w.declared.signature x k (said_is read z ts content led x k e).is);
      are = said_true;
      kinds = λ n c. subst (λ (m : Note). (3 ≤ rank m.kind) × (rank m.kind < 4)) (first_only said_at known UnshownFact ts n c).5 (omega arith, omega arith);
      all = said_all;
      inside = λ n c. let found = first_only said_at known UnshownFact ts n c in stands_inside UnshownFact found.0 n found.5 found.6;
    }

    pub said_ranked : (ns : List Note) → ns ≡ said → AreRanked 3 4 z ns
    said_ranked ns e = subst (AreRanked 3 4 z) (sym e) said_here

  -- ---- events

  abbrev shown_at : ℕ → Option (List ℕ)
  shown_at k = shown_key w.declared.signature led z ts k

  abbrev shown : List Note
  shown = first_notes shown_at known UnspokenEvent ts (length ts)

  module _ (leads : AreLedTo (definitions w.processes.definitions) (written w.processes.main.value) led) (some : 0 < length w.statements) (gathers : known ≡ gathered [] (content_facts content)) where
    some_formula : 0 < length content.formulas
    some_formula = let same = length-map w.statements formula_of in omega (arith, same, some)

    shown_true : (n : Note) → Contains shown n → IsNote z n
    shown_true n c =
        let found = first_only shown_at known UnspokenEvent ts n c in
        let first : IsFirstShownAt z ts content found.1 found.0 = record {
          here = shown_is read z ts content led found.1 found.0 leads found.2;
          none_before = λ i lt s. found.4 i lt (is_shown_at read z ts content led found.1 i leads s);
        } in
        subst (IsNote z) found.5 (unspoken_event here_has first some_formula (λ i. found.3 (there_among known (content_facts content) gathers found.1 i)))

    shown_there : (k : ℕ) (x : List ℕ) → IsFirstShownAt z ts content x k → (Contains (content_facts content) x → ⊥) → Contains shown (note_at UnspokenEvent ts k)
    shown_there k x first never = first_there shown_at known UnspokenEvent ts k x (fact_within read z ts w.declared.signature x k first.here.is) (is_shown_at read z ts content led x k leads first.here)
        (λ h. never (among_there known (content_facts content) gathers x h)) (λ i lt e. first.none_before i lt (shown_is read z ts content led x i leads e))

    shown_all : (n : Note) → IsNote z n → 4 ≤ rank n.kind → rank n.kind < 5 → Contains shown n
    shown_all _ (other_symbol c first another) low high = absurd (omega (arith, low))
    shown_all _ (unused_symbol c first never) low high = absurd (omega (arith, low))
    shown_all _ (unused_definition c defined never) low high = absurd (omega (arith, low))
    shown_all _ (unshown_fact c first never) low high = absurd (omega (arith, low))
    shown_all _ (unspoken_event {ts = us} {f = h} {x = x} {k = k} c first some never) low high =
        let same = same_here us h c in
        subst (λ (vs : List Token). Contains shown (note_at UnspokenEvent vs k)) (sym same.0)
        (shown_there k x (subst (λ (g : Content). IsFirstShownAt z ts g x k) same.1 (subst (λ (vs : List Token). IsFirstShownAt z vs h x k) same.0 first))
        (subst (λ (g : Content). Contains (content_facts g) x → ⊥) same.1 never))
    shown_all _ (captured_name c) low high = absurd (omega (arith, high))
    shown_all _ (compared_name c) low high = absurd (omega (arith, high))

    shown_here : AreRanked 4 5 z shown
    shown_here = record {
      order = all_ascend shown_at known UnspokenEvent ts (length z) ordered (λ k x e. fact_within read z ts w.declared.signature x k (shown_is read z ts content led x k leads e).is);
      are = shown_true;
      kinds = λ n c. subst (λ (m : Note). (4 ≤ rank m.kind) × (rank m.kind < 5)) (first_only shown_at known UnspokenEvent ts n c).5 (omega arith, omega arith);
      all = shown_all;
      inside = λ n c. let found = first_only shown_at known UnspokenEvent ts n c in stands_inside UnspokenEvent found.0 n found.5 found.6;
    }

    pub shown_ranked : (ns : List Note) → ns ≡ shown → AreRanked 4 5 z ns
    shown_ranked ns e = subst (AreRanked 4 5 z) (sym e) shown_here

  -- where there is no formula
  pub none_ranked : length w.statements ≡ 0 → (ns : List Note) → ns ≡ [] → AreRanked 4 5 z ns
  none_ranked none ns e = subst (AreRanked 4 5 z) (sym e) (record {
    order = tt;
    are = λ n c. absurd (none_contained c);
    kinds = λ n c. absurd (none_contained c);
    all = none_all;
    inside = λ n c. absurd (none_contained c);
  }) where
    none_all : (n : Note) → IsNote z n → 4 ≤ rank n.kind → rank n.kind < 5 → Contains [] n
    none_all _ (other_symbol c first another) low high = absurd (omega (arith, low))
    none_all _ (unused_symbol c first never) low high = absurd (omega (arith, low))
    none_all _ (unused_definition c defined never) low high = absurd (omega (arith, low))
    none_all _ (unshown_fact c first never) low high = absurd (omega (arith, low))
    none_all _ (unspoken_event {ts = us} {f = h} c first some never) low high =
        let same = same_here us h c in
        let more : 0 < length content.formulas = subst (λ (g : Content). 0 < length g.formulas) same.1 some in
        let as_many = length-map w.statements formula_of in
        absurd (omega (arith, more, none, as_many))
    none_all _ (captured_name c) low high = absurd (omega (arith, high))
    none_all _ (compared_name c) low high = absurd (omega (arith, high))
