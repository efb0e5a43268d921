use Rattle.std.proofs.Common.{sym, ◌∙◌, true}
use Rattle.sap_read_places.proofs.PartFound.{fault_differs, name_differs, word_is_found, word_is_there}
use Rattle.sap_read_places.proofs.part.word_of_fault.Goals as goal

pub returns-then-not-is_same_name : goal.returns-then-not-is_same_name
returns-then-not-is_same_name c =
    name_differs c.args.sig.now c.args.statement.now c.requires.0 c.requires.1 c.requires.3 c.one_fault.ensures.none c.args.bytes.now c.args.item.now c.args.behind c.args.name.now c.args.fault.now (λ e. absurd (cc (c.is_same_name.ensures.1 (c.name.ensures ∙ e), c.if-not-is_same_name.true)))

pub returns-then-not-is_same_fault : goal.returns-then-not-is_same_fault
returns-then-not-is_same_fault c =
    fault_differs c.args.sig.now c.args.statement.now c.requires.0 c.requires.1 c.requires.3 c.one_fault.ensures.none c.args.bytes.now c.args.item.now c.args.behind c.args.name.now c.args.fault.now c.one_fault.ensures.fault (λ e. absurd (cc (c.is_same_fault.ensures.1 (c.requires.2 ∙ e), c.if-not-is_same_fault.true)))

pub returns-in-Some : goal.returns-in-Some
returns-in-Some c =
    word_is_found c.args.sig.now c.args.statement.now c.requires.0 c.requires.1 c.requires.3 c.one_fault.ensures.none c.args.bytes.now c.args.item.now c.args.behind c.args.name.now c.args.fault.now c.in-Some.left (λ h m r. sym c.in-Some.is ∙ c.faulty_word.ensures h m true c.requires.0 c.requires.1 r c.requires.2 c.requires.3)
    (sym c.name.ensures ∙ c.is_same_name.ensures.0 c.if-not-is_same_name.false) (sym c.requires.2 ∙ c.is_same_fault.ensures.0 c.if-not-is_same_fault.false)

pub returns-in-None : goal.returns-in-None
returns-in-None c =
    word_is_there c.args.sig.now c.args.statement.now c.requires.0 c.requires.1 c.requires.3 c.one_fault.ensures.none c.args.bytes.now c.args.item.now c.args.behind c.args.name.now c.args.fault.now c.statements_and_words.ensures.parts (λ h m r. sym c.in-None.is ∙ c.faulty_word.ensures h m true c.requires.0 c.requires.1 r c.requires.2 c.requires.3)
