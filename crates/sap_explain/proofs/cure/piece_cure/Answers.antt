use Rattle.sap_explain.proofs.Cures.{file_says, word_says}
use Rattle.sap_explain.proofs.cure.piece_cure.Goals as goal

pub returns-in-Some : goal.returns-in-Some
returns-in-Some c = λ e is.
    let h = rw c.in-Some.is at c.requires.wrong in
    word_says c.args.bytes.now c.args.tokens.now c.in-Some.wrong.number c.word_cure.result c.requires.tokens.are c.requires.tokens.only h.first c.word_cure.ensures e is

pub returns-in-None : goal.returns-in-None
returns-in-None c = λ e is t.
    file_says c.args.bytes.now c.args.tokens.now c.requires.tokens.only (rw c.in-None.is at c.requires.wrong) e is t
