use Rattle.std.proofs.Common.{◌≡◌, ℕ, List, [], ◌∷◌, None, drop, true, subst}
use Rattle.std.specs.Prelude.{codes}
use Rattle.sap_terms.specs.Signature.{Sig}
use Rattle.sap_grammar.specs.Words.{Word, words_of, starts}
use Rattle.sap_macro.specs.Written.{Written}
use Rattle.sap_draft.specs.LocatedProcesses.{par_located}
use Rattle.sap_draft.specs.ProcessGrammar.{IsProcess}
use Rattle.sap_macro.specs.Sources.{located, written}
use Rattle.sap_read.specs.Item.{Item}
use Rattle.sap_read.specs.ItemGrammar.{IsItem}
use Rattle.sap_read.specs.LocatedItems.{located_by}
use Rattle.sap_read.proofs.LocatedItems.{process_located}
use Rattle.sap_read.proofs.ItemTurns.{words-beyond, process_read, no_process}
use Rattle.sap_read.proofs.items.read_main.Goals as goal

pub returns-in-None : goal.returns-in-None
returns-in-None c =
    let none : (g : Sig) (p : Written) → IsProcess g p (words_of c.args.bytes.now c.beyond-2.result.now) → ⊥ = rw c.in-None.is at c.in_ok-read_process.ensures.none in
    let behind = words-beyond c.args.bytes.now 2 c.args.item.now c.beyond-2.result.now c.beyond-2.ensures in
    no_process (words_of c.args.bytes.now c.args.item.now) c.requires (rw behind at none)

pub returns-in-Some : goal.returns-in-Some
returns-in-Some c =
    let found : IsProcess c.args.sig.now (written c.in-Some.source.value) (words_of c.args.bytes.now c.beyond-2.result.now) = rw c.in-Some.is at c.in_ok-read_process.ensures.found in
    let behind = words-beyond c.args.bytes.now 2 c.args.item.now c.beyond-2.result.now c.beyond-2.ensures in
    let colon : starts (codes ":") (drop 1 (words_of c.args.bytes.now c.args.item.now)) ≡ true =
    cc (words-beyond c.args.bytes.now 1 c.args.item.now c.beyond.result.now c.beyond.ensures, c.starts.ensures, c.if-not-starts.false) in
    let places : par_located found.spelled ≡ located c.in-Some.source.value = (rw c.in-Some.is at c.in_ok-read_process.ensures.places) found.levels found.spelled in
    let there : (r : IsProcess c.args.sig.now (written c.in-Some.source.value) (drop 2 (words_of c.args.bytes.now c.args.item.now))) × (par_located r.spelled ≡ located c.in-Some.source.value) =
    subst (λ (w : List Word). (r : IsProcess c.args.sig.now (written c.in-Some.source.value) w) × (par_located r.spelled ≡ located c.in-Some.source.value)) behind (found, places) in
    let line = c.line_of.ensures c.args.bytes.now in
    rw c.new.ensures (
      (process_read c.args.sig.now c.args.bytes.now c.args.item.now (written c.in-Some.source.value) c.line_of.result c.requires colon there.0 line),
      (subst (λ (l : ℕ). (v : Item) (r : IsItem c.args.sig.now v (words_of c.args.bytes.now c.args.item.now)) → located_by r l c.args.behind
          ≡ record { label = None; params = []; content = located c.in-Some.source.value; line = c.line_of.result; behind = c.args.behind } ∷ []) line
          (process_located c.located_processes.ensures.whole c.args.sig.now (words_of c.args.bytes.now c.args.item.now) (written c.in-Some.source.value) there.0
          (located c.in-Some.source.value) c.line_of.result c.args.behind c.requires there.1)),
    )
