use Rattle.std.proofs.Common.{◌≡◌, ℕ, List, [], ◌∷◌, drop, Some, sym, ap, subst, ◌∙◌}
use Rattle.std.specs.Option.{option_copied}
use Rattle.sap_terms.specs.Signature.{Sig}
use Rattle.sap_grammar.specs.Words.{Word, words_of}
use Rattle.sap_grammar.specs.Reading.{name_at}
use Rattle.sap_macro.specs.Sources.{located, written}
use Rattle.sap_macro.specs.Written.{Written}
use Rattle.sap_draft.specs.LocatedProcesses.{par_located}
use Rattle.sap_draft.specs.ProcessGrammar.{IsProcess}
use Rattle.sap_read.specs.Item.{Item}
use Rattle.sap_read.specs.ItemGrammar.{HasParameters, IsItem}
use Rattle.sap_read.specs.LocatedItems.{located_by}
use Rattle.sap_read.proofs.LocatedItems.{definition_located}
use Rattle.sap_read.proofs.ItemTurns.{words-beyond, definition_read, no_definition, no_head}
use Rattle.sap_read.proofs.items.read_definition.Goals as goal

pub returns-in_default-2 : goal.returns-in_default-2
returns-in_default-2 c = λ it.
    let never : (xs : List (List ℕ)) (b : List Word) → HasParameters xs (words_of c.args.bytes.now c.beyond-2.result.now) b → ⊥ = rw c.in_default-2.is at c.in_ok-params.ensures.none in
    let behind = words-beyond c.args.bytes.now 2 c.args.item.now c.beyond-2.result.now c.beyond-2.ensures in
    no_head c.requires (rw behind at never) it.is

pub returns-in-None : goal.returns-in-None
returns-in-None c =
    let none : (g : Sig) (p : Written) → IsProcess g p (words_of c.args.bytes.now c.in-Some-2.rest.now) → ⊥ = rw c.in-None.is at c.in_ok-read_process.ensures.none in
    let head : HasParameters c.in-Some-2.params (words_of c.args.bytes.now c.beyond-2.result.now) (words_of c.args.bytes.now c.in-Some-2.rest.now) = rw c.in-Some-2.is at c.in_ok-params.ensures.found in
    let behind = words-beyond c.args.bytes.now 2 c.args.item.now c.beyond-2.result.now c.beyond-2.ensures in
    no_definition (words_of c.args.bytes.now c.args.item.now) c.in-Some-2.params (words_of c.args.bytes.now c.in-Some-2.rest.now) c.requires (rw behind at head) none

pub returns-in-Some-3 : goal.returns-in-Some-3
returns-in-Some-3 c =
    let found : IsProcess c.args.sig.now (written c.in-Some-3.source.value) (words_of c.args.bytes.now c.in-Some-2.rest.now) = rw c.in-Some-3.is at c.in_ok-read_process.ensures.found in
    let head : HasParameters c.in-Some-2.params (words_of c.args.bytes.now c.beyond-2.result.now) (words_of c.args.bytes.now c.in-Some-2.rest.now) = rw c.in-Some-2.is at c.in_ok-params.ensures.found in
    let behind = words-beyond c.args.bytes.now 2 c.args.item.now c.beyond-2.result.now c.beyond-2.ensures in
    let first = words-beyond c.args.bytes.now 1 c.args.item.now c.beyond.result.now c.beyond.ensures in
    let name : name_at (drop 1 (words_of c.args.bytes.now c.args.item.now)) ≡ Some c.in-Some.name.now = ap name_at (sym first) ∙ sym c.name_at.ensures ∙ ap option_copied c.in-Some.is in
    let places : par_located found.spelled ≡ located c.in-Some-3.source.value = (rw c.in-Some-3.is at c.in_ok-read_process.ensures.places) found.levels found.spelled in
    let line = c.line_of.ensures c.args.bytes.now in
    rw c.in_ok-label.ensures (
      (definition_read c.args.sig.now c.args.bytes.now c.args.item.now c.in-Some.name.now c.in-Some-2.params (written c.in-Some-3.source.value) (words_of c.args.bytes.now c.in-Some-2.rest.now) c.line_of.result
          c.requires name (rw behind at head) found line),
      (subst (λ (l : ℕ). (v : Item) (r : IsItem c.args.sig.now v (words_of c.args.bytes.now c.args.item.now)) → located_by r l c.args.behind
          ≡ record { label = Some c.in-Some.name.now; params = c.in-Some-2.params; content = located c.in-Some-3.source.value; line = c.line_of.result; behind = c.args.behind } ∷ []) line
          (definition_located c.located_processes.ensures.whole c.args.sig.now (words_of c.args.bytes.now c.args.item.now) c.in-Some.name.now c.in-Some-2.params (words_of c.args.bytes.now c.in-Some-2.rest.now) (written c.in-Some-3.source.value) found
          (located c.in-Some-3.source.value) c.line_of.result c.args.behind c.requires name (rw behind at head) places)),
    )
