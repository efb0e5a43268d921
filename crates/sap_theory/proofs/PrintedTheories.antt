-- Where some bytes spell a theory over its signature, those that are printed do.
use Rattle.std.proofs.Common.{◌≤◌, max, ℕ, List, arith}
use Rattle.std.specs.Prelude.{Ok}
use Rattle.sap_text.specs.declared.token.Token.{Token}
use Rattle.sap_text.specs.Tokens.{IsLexed}
use Rattle.sap_rule.specs.declared.theory.Theory.{Theory}
use Rattle.sap_grammar.specs.Words.{Word, words_of}
use Rattle.sap_grammar.specs.ByteWords.{AreWords, AreTokenWords, AreWritten}
use Rattle.sap_grammar.specs.Printed.{ArePrinted}
use Rattle.sap_theory.specs.TheoryText.{theory_text}
use Rattle.sap_theory.specs.TheoryOver.{IsTheoryOver}
use Rattle.sap_theory.specs.TheoryGrammar.{SpellsTheory}
use Rattle.sap_theory.specs.PrintableTheory.{IsPrintable}
use Rattle.sap_theory.proofs.FreeItems.{FormsAreFree}
use Rattle.sap_theory.proofs.PrintableTheories.{WordsHaveTokens, text_spells_theory}
use Rattle.sap_theory.proofs.SpelledTheories.{FormLaws, spelled_is_printable}

-- what the law of words says
pub record WordLaws : Type 0 where
  pub tokens : (most : ℕ) (z : List ℕ) (ts : List Token) → IsLexed most 0 1 z (Ok ts) → AreWords most z (words_of z ts)
  pub lexed : WordsHaveTokens
  pub room : (m k : ℕ) (z : List ℕ) (ws : List Word) → m ≤ k → AreWords m z ws → AreWords k z ws
  pub held : (most : ℕ) (z : List ℕ) (ws : List Word) → AreWords most z ws → AreTokenWords most ws

pub printed_spells : ArePrinted → FormLaws → FormsAreFree → ((most : ℕ) → AreWritten most) → WordLaws
    → (z : List ℕ) (t : Theory) → SpellsTheory z t → IsTheoryOver t → SpellsTheory (theory_text t) t
printed_spells printed forms free written laws z t r over =
    let m = max r.most 13 in
    let wide : AreWords m z (words_of z r.tokens) = laws.room r.most m z (words_of z r.tokens) (omega arith) (laws.tokens r.most z r.tokens r.lexed) in
    let can : IsPrintable m t = spelled_is_printable printed forms m (omega arith) z t r (laws.held m z (words_of z r.tokens) wide) over in
    text_spells_theory printed free written laws.lexed m t can
