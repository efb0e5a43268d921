-- One more entry is parted.
use Rattle.std.proofs.Common.{◌≡◌, ℕ, arith, length, List, [], ◌∷◌, ◌++◌, append_assoc, append-nil, Bool, true, false, Some, refl, sym, ap, ◌∙◌, map}
use Rattle.std.specs.Prelude.{if◌then◌else◌, is_none, OnOk, Result, Ok, Err}
use Rattle.std.specs.Option.{option_or}
use Rattle.sap_read.specs.declared.entry.Entry.{Entry}
use Rattle.sap_read.specs.FileProcess.{defined_as, definitions_of, main_of}
use Rattle.sap_macro.specs.Sources.{located}
use Rattle.sap_macro.specs.declared.definition.Definition.{Definition}
use Rattle.sap_origin.specs.Definitions.{LocatedDefinition, located_definitions}
use Rattle.sap_read.specs.LocatedItems.{defined_at, definitions_at, main_at}
use Rattle.sap_read.specs.Entries.{body, located_body}

pub definitions_more : (es : List Entry) (e : Entry) → definitions_of (map body (es ++ e ∷ [])) ≡ definitions_of (map body es) ++ defined_as e.label (body e)
definitions_more [] e = append-nil (defined_as e.label (body e))
definitions_more (f ∷ es) e =
    ap (λ ds. defined_as f.label (body f) ++ ds) (definitions_more es e) ∙ sym (append_assoc (defined_as f.label (body f)) (definitions_of (map body es)) (defined_as e.label (body e)))

pub main_more : (es : List Entry) (e : Entry) → main_of (map body (es ++ e ∷ [])) ≡ option_or (main_of (map body es)) (main_of (body e ∷ []))
main_more [] e = refl
main_more (f ∷ es) e = by (is_none f.label) (main_more es e) where
  by : (t : Bool) → main_of (map body (es ++ e ∷ [])) ≡ option_or (main_of (map body es)) (main_of (body e ∷ []))
      → (if t then Some (body f).content else main_of (map body (es ++ e ∷ []))) ≡ option_or (if t then Some (body f).content else main_of (map body es)) (main_of (body e ∷ []))
  by true h = refl
  by false h = h

-- the same with the words of their places

pub definitions_at_more : (es : List Entry) (e : Entry) → definitions_at (map located_body (es ++ e ∷ [])) ≡ definitions_at (map located_body es) ++ defined_at e.label (located_body e)
definitions_at_more [] e = append-nil (defined_at e.label (located_body e))
definitions_at_more (f ∷ es) e =
    ap (λ ds. defined_at f.label (located_body f) ++ ds) (definitions_at_more es e)
    ∙ sym (append_assoc (defined_at f.label (located_body f)) (definitions_at (map located_body es)) (defined_at e.label (located_body e)))

pub main_at_more : (es : List Entry) (e : Entry) → main_at (map located_body (es ++ e ∷ [])) ≡ option_or (main_at (map located_body es)) (main_at (located_body e ∷ []))
main_at_more [] e = refl
main_at_more (f ∷ es) e = by (is_none f.label) (main_at_more es e) where
  by : (t : Bool) → main_at (map located_body (es ++ e ∷ [])) ≡ option_or (main_at (map located_body es)) (main_at (located_body e ∷ []))
      → (if t then Some (record { process = (located_body f).content; behind = (located_body f).behind }) else main_at (map located_body (es ++ e ∷ [])))
      ≡ option_or (if t then Some (record { process = (located_body f).content; behind = (located_body f).behind }) else main_at (map located_body es)) (main_at (located_body e ∷ []))
  by true h = refl
  by false h = h

-- one more definition, with how many words are behind it
pub located_more : (ds : List Definition) (ns : List ℕ) (d : Definition) (n : ℕ) → length ns ≡ length ds
    → located_definitions (ds ++ d ∷ []) (ns ++ n ∷ []) ≡ located_definitions ds ns ++ located_definitions (d ∷ []) (n ∷ [])
located_more [] [] d n e = refl
located_more [] (m ∷ ns) d n e = absurd (omega arith)
located_more (c ∷ ds) [] d n e = absurd (omega arith)
located_more (c ∷ ds) (m ∷ ns) d n e =
    let less : length ns ≡ length ds = omega arith in
    ap (λ (rest : List LocatedDefinition). record { name = c.name; params = c.params; body = located c.body.value; behind = m } ∷ rest) (located_more ds ns d n less)

-- the same, where putting the definition last may fail
pub located_tried : {A E : Type 0} (r : Result A E) (ds new : List Definition) (ns ms : List ℕ) (d : Definition) (n : ℕ) → OnOk r (new ≡ ds ++ d ∷ []) → ms ≡ ns ++ n ∷ [] → length ns ≡ length ds
    → OnOk r (located_definitions new ms ≡ located_definitions ds ns ++ located_definitions (d ∷ []) (n ∷ []))
located_tried (Ok v) ds new ns ms d n e f same = rw (e, f) (located_more ds ns d n same)
located_tried (Err v) ds new ns ms d n e f same = tt

pub ruleset parts_more = (definitions_more, main_more, definitions_at_more, main_at_more)
