-- What to change where a file is refused: what another way of writing stands for, or the sentence of the cause.
use Rattle.std.specs.Prelude.{◌≡◌, ℕ, Bool, true, false, List, Option, Some, None}
use Rattle.sap_text.specs.declared.fault.Lex.{Lex}
use Rattle.sap_text.specs.declared.fault.Lex.TheVariants.{BadByte}
use Rattle.sap_text.specs.declared.token.Token.{Token}
use Rattle.sap_grammar.specs.Words.{words_of}
use Rattle.sap_read.specs.Files.{AreTokens}
use Rattle.sap_read.specs.declared.fault.ReadFault.{ReadFault}
use Rattle.sap_read.specs.declared.fault.ReadFault.TheVariants.{Lex as LexFault, Syntax}
use Rattle.sap_expect.specs.FileWords.{IsFileWords}
use Rattle.sap_expect.specs.FirstWrong.{IsFirstWrong}
use Rattle.sap_cures.specs.ByteCures.{byte_cure}
use Rattle.sap_cures.specs.WordCures.{word_cure}
use Rattle.sap_explain.specs.Advice.{advice}

-- the byte that begins no token, where that is the cause
abbrev pub bad_byte_of : Lex → Option ℕ
bad_byte_of (BadByte at) = Some at
bad_byte_of f = None

abbrev pub bad_byte : ReadFault → Option ℕ
bad_byte (LexFault f) = bad_byte_of f
bad_byte e = None

-- the cause is a piece that is in no grammar
abbrev pub is_syntax : ReadFault → Bool
is_syntax (Syntax line) = true
is_syntax e = false

-- a row says this where the cause stands: at the byte that begins no token, or at the first word with which no file goes on
pub data IsCure (z : List ℕ) (e : ReadFault) (t : List ℕ) : Type 0 where
  at_byte : {at : ℕ} → bad_byte e ≡ Some at → byte_cure z at ≡ Some t → IsCure z e t
  at_word : {ts : List Token} {k : ℕ} → is_syntax e ≡ true → AreTokens z ts
      → IsFirstWrong IsFileWords (words_of z ts) k → word_cure (words_of z ts) k ≡ Some t
      → IsCure z e t

-- what to change: what the row says, or, where none fits, the sentence of the cause
pub data IsAdvice (z : List ℕ) (e : ReadFault) : List ℕ → Type 0 where
  cured : {t : List ℕ} → IsCure z e t → IsAdvice z e t
  uncured : ((t : List ℕ) → IsCure z e t → ⊥) → IsAdvice z e (advice e)
