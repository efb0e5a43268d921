-- What is written of a run that can be written is read as this run, and what was read can be written.
use Rattle.std.proofs.Common.{◌≡◌, ℕ, ◌≤◌, ◌+◌, Bool, true, false, ◌&&◌, List, [], ◌∷◌, ◌++◌, append-nil, map, refl, sym, ap, subst, ◌∙◌, Some, Ok, Err, arith, IsUtf8, IfOk}
use Rattle.std.specs.Prelude.{codes, option_map, Result}
use Rattle.std.specs.List.{list_all}
use Rattle.std.proofs.lemmas.Bool.{and_parts}
use Rattle.std.proofs.lemmas.List.Folds.{list_all-append}
use Rattle.std.proofs.lemmas.Str.{IsUtf8-append}
use Rattle.json.specs.Print.{quoted}
use Rattle.json.specs.Tree as tree
use Rattle.json.proofs.Printed.Decimals.{IsNumber-decimal}
use Rattle.json.proofs.Printed.Utf8.{are_ascii, IsUtf8-are_ascii, IsUtf8-quoted}
use Rattle.serde_json.specs.Data.{Data, string, array, object, unsigned, Items, no_items, item, member, no_members}
use Rattle.serde_json.specs.Data as datum
use Rattle.serde_json.specs.Read.{read, of_json, of_items}
use Rattle.serde_json.specs.View.{items_of}
use Rattle.serde_json.specs.Written.{outline, items_outline, compact_text, items_text, comma_if}
use Rattle.serde_json.proofs.Numbers.{number_of-decimal}
use Rattle.sap_text.specs.Tokens.{ident}
use Rattle.sap_terms.specs.declared.binding.Binding.{Binding}
use Rattle.sap_terms.specs.Tree.{Tree}
use Rattle.sap_grammar.specs.TermText.{variable_text, tree_text}
use Rattle.sap_runs.specs.declared.process_step.PStep.{PStep}
use Rattle.sap_runs.specs.declared.process_step.PStep.TheVariants as step
use Rattle.sap_runs.specs.declared.rule_step.RStep.{RStep}
use Rattle.sap_runs.specs.declared.rule_step.RStep.TheVariants as rstep
use Rattle.sap_run_lines.specs.RunTerms.{IsRunTerm}
use Rattle.sap_run_lines.specs.LineWords.{LineWord, identifier, number, fresh_name, public_name, bound}
use Rattle.sap_run_lines.specs.StepLines.{bound_word, with_words, process_words, rule_words}
use Rattle.sap_run_lines.specs.LineText.{word_text}
use Rattle.sap_run_lines.specs.Spellable.{IsWritable, IsWritableWord, AreWritableWords, IsWritableProcess, IsWritableRule}
use Rattle.sap_run_lines.specs.WholeWords.{is_ascii, IsAsciiText}
use Rattle.sap_run_texts.specs.declared.run.Run.{Run}
use Rattle.sap_run_texts.specs.declared.run.Run.TheVariants as run
use Rattle.sap_run_texts.specs.RunTexts.{process_head, rule_head}
use Rattle.sap_run_texts.specs.RunPrinted.{Each}
use Rattle.sap_json.specs.Arrays.{Cell, one, many, process_cells, rule_cells, AreEach, IsWordData, IsCellData, IsProcessArray, IsRuleArray}
use Rattle.sap_json.specs.RunValues.{run_object, AreSteps, all_steps, IsJsonRead, not_json, not_run, of_process, of_rules}
use Rattle.sap_json.specs.declared.json_fault.JsonFault.{JsonFault}
use Rattle.sap_json.specs.Written.{word_data, cell_data, process_data, rule_data, json_text, CanBeWritten, HasFewSteps}
use Rattle.sap_json.proofs.ReadBack.{read_with_feed}

-- ---- what can be written

abbrev CanCell : Cell → Type 0
CanCell (one w) = IsWritableWord w
CanCell (many ws) = AreWritableWords ws

abbrev CanCells : List Cell → Type 0
CanCells [] = Unit {0}
CanCells (c ∷ cs) = CanCell c × CanCells cs

ones_can : (ws : List LineWord) → AreWritableWords ws → CanCells (map one ws)
ones_can [] h = tt
ones_can (w ∷ ws) h = (h.0, ones_can ws h.1)

front_can : (ws us : List LineWord) → AreWritableWords (ws ++ us) → AreWritableWords ws
front_can [] us h = tt
front_can (w ∷ ws) us h = (h.0, front_can ws us h.1)

back_can : (ws us : List LineWord) → AreWritableWords (ws ++ us) → AreWritableWords us
back_can [] us h = h
back_can (w ∷ ws) us h = back_can ws us h.1

bindings_can : (bs : List Binding) → AreWritableWords (with_words bs) → AreWritableWords (map bound_word bs)
bindings_can [] h = tt
bindings_can (b ∷ bs) h = h.1

process_can : (s : PStep) → AreWritableWords (process_words s) → CanCells (process_cells s)
process_can (step.Nil t) h = ones_can (process_words (step.Nil t)) h
process_can (step.Par t) h = ones_can (process_words (step.Par t)) h
process_can (step.Rep t) h = ones_can (process_words (step.Rep t)) h
process_can (step.New t n) h = ones_can (process_words (step.New t n)) h
process_can (step.Out t) h = ones_can (process_words (step.Out t)) h
process_can (step.Send a b) h = ones_can (process_words (step.Send a b)) h
process_can (step.In a b) h = ones_can (process_words (step.In a b)) h
process_can (step.Sync a b) h = ones_can (process_words (step.Sync a b)) h
process_can (step.Then t) h = ones_can (process_words (step.Then t)) h
process_can (step.Else t) h = ones_can (process_words (step.Else t)) h
process_can (step.Event t) h = ones_can (process_words (step.Event t)) h
process_can (step.Insert t) h = ones_can (process_words (step.Insert t)) h
process_can (step.Delete t) h = ones_can (process_words (step.Delete t)) h
process_can (step.Found t) h = ones_can (process_words (step.Found t)) h
process_can (step.Missing t) h = ones_can (process_words (step.Missing t)) h
process_can (step.Lock t) h = ones_can (process_words (step.Lock t)) h
process_can (step.Unlock t) h = ones_can (process_words (step.Unlock t)) h
process_can (step.Embedded t facts bindings) h = (h.0, (h.1.0, (front_can (map number facts) (with_words bindings) h.1.1, (bindings_can bindings (back_can (map number facts) (with_words bindings) h.1.1), tt))))
process_can (step.Name n) h = ones_can (process_words (step.Name n)) h
process_can (step.Public s) h = ones_can (process_words (step.Public s)) h
process_can (step.Apply f ks) h = (h.0, (h.1.0, (h.1.1, tt)))
process_can (step.Know t) h = ones_can (process_words (step.Know t)) h

rule_can : (s : RStep) → AreWritableWords (rule_words s) → CanCells (rule_cells s)
rule_can (rstep.Fresh n) h = ones_can (rule_words (rstep.Fresh n)) h
rule_can (rstep.Learn t) h = ones_can (rule_words (rstep.Learn t)) h
rule_can (rstep.Own t) h = ones_can (rule_words (rstep.Own t)) h
rule_can (rstep.Public s) h = ones_can (rule_words (rstep.Public s)) h
rule_can (rstep.Apply f ks) h = (h.0, (h.1.0, (h.1.1, tt)))
rule_can (rstep.Know t) h = ones_can (rule_words (rstep.Know t)) h
rule_can (rstep.Rule name facts bindings) h = (h.0, (h.1.0, (front_can (map number facts) (with_words bindings) h.1.1, (bindings_can bindings (back_can (map number facts) (with_words bindings) h.1.1), tt))))

-- ---- each datum is written as it is read

-- it is read as itself, has numbers alone, and is at most so deep
record IsFine (deep : ℕ) (d : Data) : Type 0 where
  same : of_json (outline d) ≡ Some d
  numbers : tree.HasNumbers (outline d)
  shallow : tree.depth (outline d) ≤ deep

abbrev AreFine : ℕ → List Data → Type 0
AreFine deep [] = Unit {0}
AreFine deep (d ∷ ds) = IsFine deep d × AreFine deep ds

items_same : (deep : ℕ) (ds : List Data) → AreFine deep ds → of_items (items_outline (items_of ds)) ≡ Some (items_of ds)
items_same deep [] h = refl
items_same deep (d ∷ ds) h = rw (h.0.same) (rw (items_same deep ds h.1) refl)

items_numbers : (deep : ℕ) (ds : List Data) → AreFine deep ds → tree.ItemsHaveNumbers (items_outline (items_of ds))
items_numbers deep [] h = tt
items_numbers deep (d ∷ ds) h = (h.0.numbers, items_numbers deep ds h.1)

items_shallow : (deep : ℕ) (ds : List Data) → AreFine deep ds → tree.items_depth (items_outline (items_of ds)) ≤ deep
items_shallow deep [] h = omega arith
items_shallow deep (d ∷ ds) h = omega (arith, h.0.shallow, items_shallow deep ds h.1)

array_fine : (deep : ℕ) (ds : List Data) → AreFine deep ds → IsFine (deep + 1) (array (items_of ds))
array_fine deep ds h = record {
  same = ap (option_map array) (items_same deep ds h);
  numbers = items_numbers deep ds h;
  shallow = omega (arith, items_shallow deep ds h);
}

string_fine : (deep : ℕ) (z : List ℕ) → IsFine deep (string z)
string_fine deep z = record { same = refl; numbers = tt; shallow = omega arith }

word_fine : (w : LineWord) → IsWritableWord w → IsFine 1 (word_data w)
word_fine (identifier x) h = string_fine 1 _
word_fine (number n) h = record { same = ap (option_map datum.number) (number_of-decimal n h); numbers = IsNumber-decimal n h; shallow = omega arith }
word_fine (fresh_name n) h = string_fine 1 _
word_fine (public_name s) h = string_fine 1 _
word_fine (bound v t) h = array_fine 0 (string (variable_text v) ∷ string (tree_text t) ∷ []) (string_fine 0 _, (string_fine 0 _, tt))

deeper : (deep : ℕ) (d : Data) → IsFine deep d → IsFine (deep + 1) d
deeper deep d h = record { same = h.same; numbers = h.numbers; shallow = omega (arith, h.shallow) }

words_fine : (ws : List LineWord) → AreWritableWords ws → AreFine 1 (map word_data ws)
words_fine [] h = tt
words_fine (w ∷ ws) h = (word_fine w h.0, words_fine ws h.1)

cell_fine : (c : Cell) → CanCell c → IsFine 2 (cell_data c)
cell_fine (one w) h = deeper 1 (word_data w) (word_fine w h)
cell_fine (many ws) h = array_fine 1 (map word_data ws) (words_fine ws h)

cells_fine : (cs : List Cell) → CanCells cs → AreFine 2 (map cell_data cs)
cells_fine [] h = tt
cells_fine (c ∷ cs) h = (cell_fine c h.0, cells_fine cs h.1)

process_fine : (ss : List PStep) → Each IsWritableProcess ss → AreFine 3 (map process_data ss)
process_fine [] h = tt
process_fine (s ∷ ss) h = (array_fine 2 (map cell_data (process_cells s)) (cells_fine (process_cells s) (process_can s h.0.words)), process_fine ss h.1)

rule_fine : (ss : List RStep) → Each IsWritableRule ss → AreFine 3 (map rule_data ss)
rule_fine [] h = tt
rule_fine (s ∷ ss) h = (array_fine 2 (map cell_data (rule_cells s)) (cells_fine (rule_cells s) (rule_can s h.0.words)), rule_fine ss h.1)

run_reads : (kind : List ℕ) (ds : List Data) → AreFine 3 ds → read (compact_text (run_object kind ds) ++ 10 ∷ []) ≡ Some (run_object kind ds)
run_reads kind ds h =
    let fine = array_fine 3 ds h in
    read_with_feed (run_object kind ds) (rw (items_same 3 ds h) refl) (tt, (fine.numbers, tt)) (omega (arith, items_shallow 3 ds h))

-- ---- and is UTF-8

ascii_utf8 : (z : List ℕ) → IsAsciiText z → IsUtf8 z
ascii_utf8 z h = IsUtf8-are_ascii z (same z ∙ h) where
  same : (z : List ℕ) → are_ascii z ≡ list_all is_ascii z
  same [] = refl
  same (b ∷ z) = ap (λ x. is_ascii b && x) (same z)

bytes : (z : List ℕ) → are_ascii z ≡ true → IsUtf8 z
bytes z e = IsUtf8-are_ascii z e

-- the text of a datum is UTF-8, behind a comma or not, and before what is
abbrev AreTexts : List Data → Type 0
AreTexts [] = Unit {0}
AreTexts (d ∷ ds) = IsUtf8 (compact_text d) × AreTexts ds

comma_utf8 : (later : Bool) → IsUtf8 (comma_if later)
comma_utf8 true = bytes (44 ∷ []) refl
comma_utf8 false = bytes [] refl

items_utf8 : (later : Bool) (ds : List Data) → AreTexts ds → IsUtf8 (items_text later (items_of ds))
items_utf8 later [] h = bytes (93 ∷ []) refl
items_utf8 later (d ∷ ds) h = IsUtf8-append (comma_if later) _ (comma_utf8 later) (IsUtf8-append (compact_text d) _ h.0 (items_utf8 true ds h.1))

array_utf8 : (ds : List Data) → AreTexts ds → IsUtf8 (compact_text (array (items_of ds)))
array_utf8 ds h = IsUtf8-append (91 ∷ []) _ (bytes (91 ∷ []) refl) (items_utf8 false ds h)

string_utf8 : (z : List ℕ) → IsAsciiText z → IsUtf8 (compact_text (string z))
string_utf8 z h = IsUtf8-quoted z (ascii_utf8 z h)

module _ (ascii : (w : LineWord) → IsWritableWord w → IsAsciiText (word_text w)) where
  word_utf8 : (w : LineWord) → IsWritableWord w → IsUtf8 (compact_text (word_data w))
  word_utf8 (identifier x) h = string_utf8 (word_text (identifier x)) (ascii (identifier x) h)
  word_utf8 (number n) h = ascii_utf8 (word_text (number n)) (ascii (number n) h)
  word_utf8 (fresh_name n) h = string_utf8 (word_text (fresh_name n)) (ascii (fresh_name n) h)
  word_utf8 (public_name s) h = string_utf8 (word_text (public_name s)) (ascii (public_name s) h)
  word_utf8 (bound v t) h =
      let parts = and_parts _ _ (sym (list_all-append is_ascii (variable_text v) (codes "=" ++ tree_text t)) ∙ ascii (bound v t) h) in
      array_utf8 (string (variable_text v) ∷ string (tree_text t) ∷ []) (string_utf8 (variable_text v) parts.0, (string_utf8 (tree_text t) parts.1, tt))

  words_utf8 : (ws : List LineWord) → AreWritableWords ws → AreTexts (map word_data ws)
  words_utf8 [] h = tt
  words_utf8 (w ∷ ws) h = (word_utf8 w h.0, words_utf8 ws h.1)

  cell_utf8 : (c : Cell) → CanCell c → IsUtf8 (compact_text (cell_data c))
  cell_utf8 (one w) h = word_utf8 w h
  cell_utf8 (many ws) h = array_utf8 (map word_data ws) (words_utf8 ws h)

  cells_utf8 : (cs : List Cell) → CanCells cs → AreTexts (map cell_data cs)
  cells_utf8 [] h = tt
  cells_utf8 (c ∷ cs) h = (cell_utf8 c h.0, cells_utf8 cs h.1)

  process_utf8 : (ss : List PStep) → Each IsWritableProcess ss → AreTexts (map process_data ss)
  process_utf8 [] h = tt
  process_utf8 (s ∷ ss) h = (array_utf8 (map cell_data (process_cells s)) (cells_utf8 (process_cells s) (process_can s h.0.words)), process_utf8 ss h.1)

  rule_utf8 : (ss : List RStep) → Each IsWritableRule ss → AreTexts (map rule_data ss)
  rule_utf8 [] h = tt
  rule_utf8 (s ∷ ss) h = (array_utf8 (map cell_data (rule_cells s)) (cells_utf8 (rule_cells s) (rule_can s h.0.words)), rule_utf8 ss h.1)

run_utf8 : (kind : List ℕ) (ds : List Data) → IsAsciiText kind → AreTexts ds → IsUtf8 (compact_text (run_object kind ds) ++ 10 ∷ [])
run_utf8 kind ds k h =
    let end = bytes (125 ∷ []) refl in
    let steps = IsUtf8-append (quoted (codes "steps")) _ (string_utf8 (codes "steps") refl) (IsUtf8-append (58 ∷ []) _ (bytes (58 ∷ []) refl) (IsUtf8-append (compact_text (array (items_of ds))) (125 ∷ []) (array_utf8 ds h) end)) in
    let kinds = IsUtf8-append (quoted (codes "kind")) _ (string_utf8 (codes "kind") refl) (IsUtf8-append (58 ∷ []) _ (bytes (58 ∷ []) refl) (IsUtf8-append (quoted kind) _ (string_utf8 kind k) (IsUtf8-append (44 ∷ []) _ (bytes (44 ∷ []) refl) steps))) in
    IsUtf8-append (compact_text (run_object kind ds)) (10 ∷ []) (IsUtf8-append (123 ∷ []) _ (bytes (123 ∷ []) refl) kinds) (bytes (10 ∷ []) refl)

-- ---- each step's array is its own

module _ (term : (t : Tree) (k : List ℕ) → IsWritable t → IsRunTerm t (tree_text t ++ k) k) where
  word_is : (w : LineWord) → IsWritableWord w → IsWordData w (word_data w)
  word_is (identifier x) h = (h, refl)
  word_is (number n) h = (h, refl)
  word_is (fresh_name n) h = (word_text (fresh_name n), (h, refl), refl)
  word_is (public_name s) h = (word_text (public_name s), (h, refl), refl)
  word_is (bound v t) h =
      (variable_text v, tree_text t, (h.0, refl), (subst (λ (z : List ℕ). IsRunTerm t z []) (append-nil (tree_text t)) (term t [] h.1), h.2), refl)

  words_are : (ws : List LineWord) → AreWritableWords ws → AreEach IsWordData ws (map word_data ws)
  words_are [] h = tt
  words_are (w ∷ ws) h = (word_is w h.0, words_are ws h.1)

  many_is : (ws : List LineWord) → AreWritableWords ws → IsCellData (many ws) (cell_data (many ws))
  many_is ws h = (map word_data ws, refl, words_are ws h)

  process_are : (s : PStep) → AreWritableWords (process_words s) → AreEach IsCellData (process_cells s) (map cell_data (process_cells s))
  process_are (step.Nil t) h = (word_is (identifier (codes "nil")) h.0, (word_is (number t) h.1.0, tt))
  process_are (step.Par t) h = (word_is (identifier (codes "par")) h.0, (word_is (number t) h.1.0, tt))
  process_are (step.Rep t) h = (word_is (identifier (codes "rep")) h.0, (word_is (number t) h.1.0, tt))
  process_are (step.New t n) h = (word_is (identifier (codes "new")) h.0, (word_is (number t) h.1.0, (word_is (fresh_name n) h.1.1.0, tt)))
  process_are (step.Out t) h = (word_is (identifier (codes "out")) h.0, (word_is (number t) h.1.0, tt))
  process_are (step.Send a b) h = (word_is (identifier (codes "send")) h.0, (word_is (number a) h.1.0, (word_is (number b) h.1.1.0, tt)))
  process_are (step.In a b) h = (word_is (identifier (codes "in")) h.0, (word_is (number a) h.1.0, (word_is (number b) h.1.1.0, tt)))
  process_are (step.Sync a b) h = (word_is (identifier (codes "sync")) h.0, (word_is (number a) h.1.0, (word_is (number b) h.1.1.0, tt)))
  process_are (step.Then t) h = (word_is (identifier (codes "then")) h.0, (word_is (number t) h.1.0, tt))
  process_are (step.Else t) h = (word_is (identifier (codes "else")) h.0, (word_is (number t) h.1.0, tt))
  process_are (step.Event t) h = (word_is (identifier (codes "event")) h.0, (word_is (number t) h.1.0, tt))
  process_are (step.Insert t) h = (word_is (identifier (codes "insert")) h.0, (word_is (number t) h.1.0, tt))
  process_are (step.Delete t) h = (word_is (identifier (codes "delete")) h.0, (word_is (number t) h.1.0, tt))
  process_are (step.Found t) h = (word_is (identifier (codes "found")) h.0, (word_is (number t) h.1.0, tt))
  process_are (step.Missing t) h = (word_is (identifier (codes "missing")) h.0, (word_is (number t) h.1.0, tt))
  process_are (step.Lock t) h = (word_is (identifier (codes "lock")) h.0, (word_is (number t) h.1.0, tt))
  process_are (step.Unlock t) h = (word_is (identifier (codes "unlock")) h.0, (word_is (number t) h.1.0, tt))
  process_are (step.Embedded t facts bindings) h = (word_is (identifier (codes "rule")) h.0, (word_is (number t) h.1.0, (many_is (map number facts) (front_can (map number facts) (with_words bindings) h.1.1), (many_is (map bound_word bindings) (bindings_can bindings (back_can (map number facts) (with_words bindings) h.1.1)), tt))))
  process_are (step.Name n) h = (word_is (identifier (codes "name")) h.0, (word_is (fresh_name n) h.1.0, tt))
  process_are (step.Public s) h = (word_is (identifier (codes "pub")) h.0, (word_is (public_name s) h.1.0, tt))
  process_are (step.Apply f ks) h = (word_is (identifier (codes "app")) h.0, (word_is (identifier f) h.1.0, (many_is (map number ks) h.1.1, tt)))
  process_are (step.Know t) h = (word_is (identifier (codes "know")) h.0, (word_is (number t) h.1.0, tt))

  process_array : (s : PStep) → IsWritableProcess s → IsProcessArray s (process_data s)
  process_array s h = record { named = h.named; items = map cell_data (process_cells s); is = refl; are = process_are s h.words }

  process_arrays : (ss : List PStep) → Each IsWritableProcess ss → AreEach IsProcessArray ss (map process_data ss)
  process_arrays [] h = tt
  process_arrays (s ∷ ss) h = (process_array s h.0, process_arrays ss h.1)

  rule_are : (s : RStep) → AreWritableWords (rule_words s) → AreEach IsCellData (rule_cells s) (map cell_data (rule_cells s))
  rule_are (rstep.Fresh n) h = (word_is (identifier (codes "fresh")) h.0, (word_is (fresh_name n) h.1.0, tt))
  rule_are (rstep.Learn t) h = (word_is (identifier (codes "learn")) h.0, (word_is (number t) h.1.0, tt))
  rule_are (rstep.Own t) h = (word_is (identifier (codes "own")) h.0, (word_is (number t) h.1.0, tt))
  rule_are (rstep.Public s) h = (word_is (identifier (codes "pub")) h.0, (word_is (public_name s) h.1.0, tt))
  rule_are (rstep.Apply f ks) h = (word_is (identifier (codes "app")) h.0, (word_is (identifier f) h.1.0, (many_is (map number ks) h.1.1, tt)))
  rule_are (rstep.Know t) h = (word_is (identifier (codes "know")) h.0, (word_is (number t) h.1.0, tt))
  rule_are (rstep.Rule name facts bindings) h = (word_is (identifier (codes "rule")) h.0, (word_is (identifier name) h.1.0, (many_is (map number facts) (front_can (map number facts) (with_words bindings) h.1.1), (many_is (map bound_word bindings) (bindings_can bindings (back_can (map number facts) (with_words bindings) h.1.1)), tt))))

  rule_array : (s : RStep) → IsWritableRule s → IsRuleArray s (rule_data s)
  rule_array s h = record { named = h.named; items = map cell_data (rule_cells s); is = refl; are = rule_are s h.words }

  rule_arrays : (ss : List RStep) → Each IsWritableRule ss → AreEach IsRuleArray ss (map rule_data ss)
  rule_arrays [] h = tt
  rule_arrays (s ∷ ss) h = (rule_array s h.0, rule_arrays ss h.1)

pub written_is_read : ((t : Tree) (k : List ℕ) → IsWritable t → IsRunTerm t (tree_text t ++ k) k) → ((w : LineWord) → IsWritableWord w → IsAsciiText (word_text w))
    → (r : Run) → CanBeWritten r → HasFewSteps r → IsJsonRead (json_text r) (Ok r)
written_is_read term ascii (run.Process ss) h few =
    of_process (map process_data ss) (record { utf8 = run_utf8 process_head (map process_data ss) refl (process_utf8 ascii ss h); value = run_reads process_head (map process_data ss) (process_fine ss h) })
    (all_steps (process_arrays term ss h) few)
written_is_read term ascii (run.Rules ss) h few =
    of_rules (map rule_data ss) (record { utf8 = run_utf8 rule_head (map rule_data ss) refl (rule_utf8 ascii ss h); value = run_reads rule_head (map rule_data ss) (rule_fine ss h) })
    (all_steps (rule_arrays term ss h) few)

-- ---- what was read can be written

module _ (spelled : (t : Tree) (z k : List ℕ) → IsRunTerm t z k → IsWritable t) where
  word_back : (w : LineWord) (d : Data) → IsWordData w d → IsWritableWord w
  word_back (identifier x) d h = h.0
  word_back (number n) d h = h.0
  word_back (fresh_name n) d h = h.1.0
  word_back (public_name s) d h = h.1.0
  word_back (bound v t) d h = (h.2.0, spelled t h.1 [] h.3.0, h.3.1)

  words_back : (ws : List LineWord) (ds : List Data) → AreEach IsWordData ws ds → AreWritableWords ws
  words_back [] ds h = tt
  words_back (w ∷ ws) [] h = absurd h
  words_back (w ∷ ws) (d ∷ ds) h = (word_back w d h.0, words_back ws ds h.1)

  cell_back : (c : Cell) (d : Data) → IsCellData c d → CanCell c
  cell_back (one (identifier x)) d h = word_back (identifier x) d h
  cell_back (one (number n)) d h = word_back (number n) d h
  cell_back (one (fresh_name n)) d h = word_back (fresh_name n) d h
  cell_back (one (public_name s)) d h = word_back (public_name s) d h
  cell_back (one (bound v t)) d h = absurd h
  cell_back (many ws) d h = words_back ws h.0 h.2

  cells_back : (cs : List Cell) (ds : List Data) → AreEach IsCellData cs ds → CanCells cs
  cells_back [] ds h = tt
  cells_back (c ∷ cs) [] h = absurd h
  cells_back (c ∷ cs) (d ∷ ds) h = (cell_back c d h.0, cells_back cs ds h.1)

  ones_back : (ws : List LineWord) → CanCells (map one ws) → AreWritableWords ws
  ones_back [] h = tt
  ones_back (w ∷ ws) h = (h.0, ones_back ws h.1)

  join_can : (ws us : List LineWord) → AreWritableWords ws → AreWritableWords us → AreWritableWords (ws ++ us)
  join_can [] us h k = k
  join_can (w ∷ ws) us h k = (h.0, join_can ws us h.1 k)

  bindings_back : (bs : List Binding) → AreWritableWords (map bound_word bs) → AreWritableWords (with_words bs)
  bindings_back [] h = tt
  bindings_back (b ∷ bs) h = (ident refl refl, h)

  process_words_back : (s : PStep) → CanCells (process_cells s) → AreWritableWords (process_words s)
  process_words_back (step.Nil t) h = ones_back (process_words (step.Nil t)) h
  process_words_back (step.Par t) h = ones_back (process_words (step.Par t)) h
  process_words_back (step.Rep t) h = ones_back (process_words (step.Rep t)) h
  process_words_back (step.New t n) h = ones_back (process_words (step.New t n)) h
  process_words_back (step.Out t) h = ones_back (process_words (step.Out t)) h
  process_words_back (step.Send a b) h = ones_back (process_words (step.Send a b)) h
  process_words_back (step.In a b) h = ones_back (process_words (step.In a b)) h
  process_words_back (step.Sync a b) h = ones_back (process_words (step.Sync a b)) h
  process_words_back (step.Then t) h = ones_back (process_words (step.Then t)) h
  process_words_back (step.Else t) h = ones_back (process_words (step.Else t)) h
  process_words_back (step.Event t) h = ones_back (process_words (step.Event t)) h
  process_words_back (step.Insert t) h = ones_back (process_words (step.Insert t)) h
  process_words_back (step.Delete t) h = ones_back (process_words (step.Delete t)) h
  process_words_back (step.Found t) h = ones_back (process_words (step.Found t)) h
  process_words_back (step.Missing t) h = ones_back (process_words (step.Missing t)) h
  process_words_back (step.Lock t) h = ones_back (process_words (step.Lock t)) h
  process_words_back (step.Unlock t) h = ones_back (process_words (step.Unlock t)) h
  process_words_back (step.Embedded t facts bindings) h = (h.0, (h.1.0, join_can (map number facts) (with_words bindings) h.1.1.0 (bindings_back bindings h.1.1.1.0)))
  process_words_back (step.Name n) h = ones_back (process_words (step.Name n)) h
  process_words_back (step.Public s) h = ones_back (process_words (step.Public s)) h
  process_words_back (step.Apply f ks) h = (h.0, (h.1.0, h.1.1.0))
  process_words_back (step.Know t) h = ones_back (process_words (step.Know t)) h

  process_steps_back : (ss : List PStep) (ds : List Data) → AreEach IsProcessArray ss ds → Each IsWritableProcess ss
  process_steps_back [] ds h = tt
  process_steps_back (s ∷ ss) [] h = absurd h
  process_steps_back (s ∷ ss) (d ∷ ds) h =
      (record { named = h.0.named; words = process_words_back s (cells_back (process_cells s) h.0.items h.0.are) }, process_steps_back ss ds h.1)

  rule_words_back : (s : RStep) → CanCells (rule_cells s) → AreWritableWords (rule_words s)
  rule_words_back (rstep.Fresh n) h = ones_back (rule_words (rstep.Fresh n)) h
  rule_words_back (rstep.Learn t) h = ones_back (rule_words (rstep.Learn t)) h
  rule_words_back (rstep.Own t) h = ones_back (rule_words (rstep.Own t)) h
  rule_words_back (rstep.Public s) h = ones_back (rule_words (rstep.Public s)) h
  rule_words_back (rstep.Apply f ks) h = (h.0, (h.1.0, h.1.1.0))
  rule_words_back (rstep.Know t) h = ones_back (rule_words (rstep.Know t)) h
  rule_words_back (rstep.Rule name facts bindings) h = (h.0, (h.1.0, join_can (map number facts) (with_words bindings) h.1.1.0 (bindings_back bindings h.1.1.1.0)))

  rule_steps_back : (ss : List RStep) (ds : List Data) → AreEach IsRuleArray ss ds → Each IsWritableRule ss
  rule_steps_back [] ds h = tt
  rule_steps_back (s ∷ ss) [] h = absurd h
  rule_steps_back (s ∷ ss) (d ∷ ds) h =
      (record { named = h.0.named; words = rule_words_back s (cells_back (rule_cells s) h.0.items h.0.are) }, rule_steps_back ss ds h.1)

  read_process : (most : ℕ) (ds : List Data) (ss : List PStep) → AreSteps IsProcessArray most ds (Ok ss) → Each IsWritableProcess ss
  read_process most ds ss (all_steps h few) = process_steps_back ss ds h

  read_rule : (most : ℕ) (ds : List Data) (ss : List RStep) → AreSteps IsRuleArray most ds (Ok ss) → Each IsWritableRule ss
  read_rule most ds ss (all_steps h few) = rule_steps_back ss ds h

  read_all_can : (z : List ℕ) (o : Result Run JsonFault) → IsJsonRead z o → IfOk o CanBeWritten
  read_all_can z _ (not_json never) = tt
  read_all_can z _ (not_run d v none) = tt
  read_all_can z _ (of_process {o = Ok ss} ds v h) = read_process _ ds ss h
  read_all_can z _ (of_process {o = Err e} ds v h) = tt
  read_all_can z _ (of_rules {o = Ok ss} ds v h) = read_rule _ ds ss h
  read_all_can z _ (of_rules {o = Err e} ds v h) = tt

  pub read_can : (z : List ℕ) (r : Run) → IsJsonRead z (Ok r) → CanBeWritten r
  read_can z r h = read_all_can z (Ok r) h
