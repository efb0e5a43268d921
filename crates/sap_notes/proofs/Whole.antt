-- The notes on a file, by what is written in it.
use Rattle.std.proofs.Common.{◌≡◌, ◌≤◌, ◌<◌, ◌++◌, ℕ, List, [], length, sym, ap, subst, ⊎_elim, arith}
use Rattle.std.proofs.lemmas.Option.{get_or_from_slice_get}
use Rattle.std.specs.List.{All}
use Rattle.std.specs.Prelude.{Contains, IfOk, OnOk, Result, Ok, Err}
use Rattle.sap_macro.specs.Sources.{definitions, written}
use Rattle.sap_process.specs.Proc.{Proc}
use Rattle.sap_read.specs.FileExpansions.{IsFileExpansion}
use Rattle.sap_read.specs.FileTokens.{HasTokens}
use Rattle.sap_read.specs.WrittenFiles.{IsWrittenFile}
use Rattle.sap_read.specs.declared.written.WrittenFile.{WrittenFile}
use Rattle.sap_stretches.specs.Stretches.{IsInBytes, stretch_at, stretch_of}
use Rattle.sap_text.specs.Spans.{AreTokens, InOrder, IsWithin}
use Rattle.sap_text.specs.declared.token.Token.{Token}
use Rattle.sap_terms.specs.declared.limits.TheConstants.{MOST_FILE_NAME_BYTES}
use Rattle.sap_notes.specs.Contents.{Content, HasContent, content_symbols}
use Rattle.sap_notes.specs.Notes.{AreNotes, rank}
use Rattle.sap_notes.specs.NotesTold.{AreNotesTold, IsNotesText, event_names, with_one_event}
use Rattle.sap_notes.specs.code.Gathered.{gathered}
use Rattle.sap_notes.specs.code.Led.{AreLedTo, IsAmong}
use Rattle.sap_notes.specs.code.Ranked.{AreRanked}
use Rattle.sap_notes.specs.code.Walk.{notes_before}
use Rattle.sap_notes.specs.declared.note.Kind.{Kind}
use Rattle.sap_notes.specs.declared.note.Kind.TheVariants.{OtherSymbol, UnusedSymbol, UnusedDefinition, UnshownFact, UnspokenEvent, CapturedName, ComparedName}
use Rattle.sap_notes.specs.declared.note.Note.{Note}
use Rattle.sap_notes.proofs.Content.{AreOnce, content_of, has_content, one_content, one_tokens}
use Rattle.sap_notes.proofs.Found.{all_kinds, all_there, all_true, are_tokens, before_ascend}
use Rattle.sap_notes.proofs.Gathered.{none_among, only, there}
use Rattle.sap_notes.proofs.Spans.{token_at}

-- what a value has that is there
pub on_ok : {A E : Type 0} (r : Result A E) (P Q : A → Type 0) → ((x : A) → P x → Q x) → IfOk r P → IfOk r Q
on_ok (Ok x) P Q f p = f x p
on_ok (Err e) P Q f p = tt

-- the stretch of a token is inside the bytes
pub token_inside : (size : ℕ) (ts : List Token) (k : ℕ) → All (IsWithin size) ts → k < length ts → IsInBytes size (stretch_at ts k)
token_inside size ts k all lt =
    let one = token_at ts k lt in
    let same = ap (stretch_of ts) one.1 in
    let in_it = subst (IsWithin size) (get_or_from_slice_get ts k one.0 one.0 one.1) (all k one.0 lt) in
    let first = in_it.0 in
    subst (IsInBytes size) (sym same) ((omega (arith, first)), in_it.1)

-- what is gathered is what is there
module _ (names xs : List (List ℕ)) (gathers : names ≡ gathered [] xs) (x : List ℕ) where
  pub among_there : IsAmong names x → Contains xs x
  among_there h = ⊎_elim (λ o. absurd (none_among x o)) (λ c. c) (only [] xs x (subst (λ (m : List (List ℕ)). IsAmong m x) gathers h))

  pub there_among : Contains xs x → IsAmong names x
  there_among c = subst (λ (m : List (List ℕ)). IsAmong m x) (sym gathers) (there [] xs x c)

module _ (once : AreOnce) (spans : (z : List ℕ) (ts : List Token) → AreTokens z ts → InOrder 0 (length z) ts) (z : List ℕ) (ts : List Token) (w : WrittenFile) (p : Proc) (tokens : HasTokens z ts)
    (is : IsWrittenFile z w) (expanded : IsFileExpansion w p) where
  pub has : HasContent z ts (content_of w p)
  has = has_content z ts w p tokens is expanded

  pub one : (us : List Token) (h : Content) → HasContent z us h → (us ≡ ts) × (h ≡ content_of w p)
  one us h c = (one_tokens once z us ts h (content_of w p) c has, one_content once z us ts h (content_of w p) c has)

  pub in_order : InOrder 0 (length z) ts
  in_order = spans z ts (MOST_FILE_NAME_BYTES, tokens.are)

  module _ (symbols led : List (List ℕ)) (gathers : symbols ≡ gathered [] (content_symbols (content_of w p)))
      (leads : AreLedTo (definitions w.processes.definitions) (written w.processes.main.value) led) where
    used : (x : List ℕ) → IsAmong symbols x → Contains (content_symbols (content_of w p)) x
    used x h = among_there symbols (content_symbols (content_of w p)) gathers x h

    all_used : (x : List ℕ) → Contains (content_symbols (content_of w p)) x → IsAmong symbols x
    all_used x c = there_among symbols (content_symbols (content_of w p)) gathers x c

    there_ranked : AreRanked 0 3 z (notes_before w.declared.signature symbols led z ts (length ts))
    there_ranked = record {
      order = before_ascend z ts (content_of w p) has symbols led used all_used leads (length z) in_order (length ts);
      are = all_true z ts (content_of w p) has symbols led used all_used leads (length z) in_order one;
      kinds = λ n c. (omega arith, all_kinds z ts (content_of w p) has symbols led used all_used leads (length z) in_order one n c);
      all = λ n i low high. all_there z ts (content_of w p) has symbols led used all_used leads (length z) in_order one n i high;
      inside = λ n c. let token = are_tokens z ts (content_of w p) has symbols led used all_used leads (length z) in_order one n c in
          subst (IsInBytes (length z)) token.2 (token_inside (length z) ts token.0 tokens.within token.1);
    }

    pub words_ranked : (ns : List Note) → ns ≡ notes_before w.declared.signature symbols led z ts (length ts) → AreRanked 0 3 z ns
    words_ranked ns e = subst (AreRanked 0 3 z) (sym e) there_ranked

-- all notes of all kinds are those of the file
pub all_ranked : (z : List ℕ) (ns : List Note) → AreRanked 0 7 z ns → AreNotes z ns
all_ranked z ns a = record { order = a.order; are = a.are; all = λ n i. a.all n i (omega arith) (below n.kind) } where
  below : (kind : Kind) → rank kind < 7
  below OtherSymbol = omega arith
  below UnusedSymbol = omega arith
  below UnusedDefinition = omega arith
  below UnshownFact = omega arith
  below UnspokenEvent = omega arith
  below CapturedName = omega arith
  below ComparedName = omega arith

-- the text of these notes is that of the notes on the file
pub text_is : {A E : Type 0} (z old new : List ℕ) (ns : List Note) (r : Result A E) → AreNotes z ns
    → OnOk r ((t : List ℕ) × (new ≡ old ++ t) × AreNotesTold z (event_names z ns) (with_one_event ns) t) → OnOk r ((t : List ℕ) × (new ≡ old ++ t) × IsNotesText z t)
text_is z old new ns (Ok v) are (t, e, told) = (t, e, record { notes = ns; are = are; told = told })
text_is z old new ns (Err m) are h = tt
