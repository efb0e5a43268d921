-- A word more in front of bytes that are words.
use Rattle.std.proofs.Common.{◌≡◌, ◌≤◌, ℕ, true, List, ◌∷◌, ◌++◌, length, refl}
use Rattle.sap_text.specs.declared.token.Kind.TheVariants as kind
use Rattle.sap_text.specs.Tokens.{IsToken}
use Rattle.sap_grammar.specs.Words.{Word, mark, name, is_grammar_word}
use Rattle.sap_grammar.specs.ByteWords.{AreWords, IsName, Ends, AreWritten}
use Rattle.sap_theory.proofs.Alone.{IsTaken}

module _ (most : ℕ) (written : AreWritten most) where
  pub add_name : (x z : List ℕ) (k : List Word) → IsName most x → Ends z → AreWords most z k → AreWords most (x ++ z) (name x ∷ k)
  add_name = written.names

  pub add_word : (x z : List ℕ) (k : List Word) → IsToken kind.Ident x → is_grammar_word x ≡ true → length x ≤ most → Ends z → AreWords most z k → AreWords most (x ++ z) (mark x ∷ k)
  add_word = written.grammar_words

  pub add_symbol : (b : ℕ) (s z : List ℕ) (k : List Word) → IsTaken (b ∷ s) z → AreWords most z k → AreWords most (b ∷ (s ++ z)) (mark (b ∷ s) ∷ k)
  add_symbol b s z k e r = written.symbols (b ∷ s) z k e.is r

  pub add_blank : (z : List ℕ) (k : List Word) → AreWords most z k → AreWords most (32 ∷ z) k
  add_blank z k r = written.blanks 32 z k refl r

  pub add_feed : (z : List ℕ) (k : List Word) → AreWords most z k → AreWords most (10 ∷ z) k
  add_feed z k r = written.blanks 10 z k refl r
