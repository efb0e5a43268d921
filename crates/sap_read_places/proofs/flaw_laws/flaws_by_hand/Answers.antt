use Rattle.std.proofs.Common.{List, refl, sym, subst}
use Rattle.sap_grammar.specs.Words.{Word}
use Rattle.sap_head_words.specs.Examples.{out_head, three}
use Rattle.sap_head_words.specs.HeadWords.{HeadWords}
use Rattle.sap_read_places.specs.FlawExamples.{second_node, second_told}
use Rattle.sap_read_places.specs.FlawPlaces.{IsStemTold}
use Rattle.sap_read_places.proofs.FlawOne.{one_stem_told}
use Rattle.sap_read_places.proofs.flaw_laws.flaws_by_hand.Goals as goal

pub returns-clause-node : goal.returns-clause-node
returns-clause-node c = λ g z ts e.
    record {
      numbers = three 7 6 3;
      head = subst (λ (a : List Word). HeadWords g out_head a (three 7 6 3)) (sym e) (c.heads_by_hand.ensures.out g);
      number = 6;
      stands = refl;
      word_is = refl;
      uses_are = refl;
    }

pub returns-clause-nothing_else : goal.returns-clause-nothing_else
returns-clause-nothing_else c = λ g z ts t e a.
    let there : IsStemTold g z ts second_node (second_told ts) =
    record {
      numbers = three 7 6 3;
      head = subst (λ (a : List Word). HeadWords g out_head a (three 7 6 3)) (sym e) (c.heads_by_hand.ensures.out g);
      number = 6;
      stands = refl;
      word_is = refl;
      uses_are = refl;
    } in
    one_stem_told c.one_head.ensures g g z ts second_node t (second_told ts) a there

pub returns-clause-lock : goal.returns-clause-lock
returns-clause-lock c = λ g z ts ds m path t a. a
