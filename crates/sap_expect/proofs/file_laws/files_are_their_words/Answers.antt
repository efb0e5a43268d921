use Rattle.sap_terms.specs.Signature.{Sig}
use Rattle.sap_grammar.specs.Words.{Word}
use Rattle.sap_read.specs.Item.{Item}
use Rattle.sap_read.specs.ItemGrammar.{IsItem}
use Rattle.std.proofs.Common.{List}
use Rattle.sap_expect.proofs.FileParts.{file_words, not_of_refused, of_read, some_of, words_parted}
use Rattle.sap_expect.proofs.FreeItems.{item_free}
use Rattle.sap_expect.proofs.file_laws.files_are_their_words.Goals as goal

pub returns : goal.returns
returns c =
    let free = λ (g : Sig) (i : Item) (a : List Word) (s : IsItem g i a). item_free c.printed_words.ensures c.formulas_are_printable.ensures.free s in
    let one_cut = c.one_list_of_items.ensures.cut in
    let one_answer = c.one_answer.ensures in
    record {
      parted = file_words;
      items = λ g cut is h. some_of h;
      words = words_parted free one_cut one_answer;
      refused = not_of_refused free one_cut one_answer;
      otherwise = of_read free one_cut one_answer;
    }
