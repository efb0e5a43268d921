-- What is told of a word with which no file goes on: what is expected in its place, and what is open there.
use Rattle.std.specs.Prelude.{◌≡◌, ℕ, Bool, true, false, codes, decimal, List, [], ◌∷◌, ◌++◌, Option, Some, None, take}
use Rattle.sap_text.specs.declared.token.Token.{Token}
use Rattle.sap_grammar.specs.Words.{words_of}
use Rattle.sap_read.specs.Files.{AreTokens}
use Rattle.sap_read.specs.declared.fault.ReadFault.{ReadFault}
use Rattle.sap_read.specs.declared.fault.ReadFault.TheVariants as fault
use Rattle.sap_expect.specs.Expected.{Expected, IsExpected, fewer_levels, one_of}
use Rattle.sap_expect.specs.ExpectedText.{expected_text}
use Rattle.sap_expect.specs.FileWords.{IsFileWords}
use Rattle.sap_expect.specs.FirstWrong.{IsFirstWrong}
use Rattle.sap_expect.specs.Kinds.{Kind}
use Rattle.sap_expect.specs.OpenMarks.{innermost_open}
use Rattle.sap_expect.specs.declared.nested.Nested.{Nested}
use Rattle.sap_stretches.specs.Positions.{IsPosition}
use Rattle.sap_stretches.specs.Stretches.{stretch_at}
use Rattle.sap_stretches.specs.declared.position.Position.{Position}
use Rattle.sap_explain.specs.BytesIn.{bytes_in}

-- the cause is a word with which no file goes on
abbrev pub is_of_words : ReadFault → Bool
is_of_words fault.Header = true
is_of_words (fault.Syntax line) = true
is_of_words e = false

abbrev pub position_text : Position → List ℕ
position_text p = codes " at line " ++ (decimal p.line ++ (codes ", column " ++ (decimal p.column ++ (10 ∷ []))))

-- that the token of this number is open, with its line and column; nothing, where there is none
pub data IsOpenText (z : List ℕ) (ts : List Token) : Option ℕ → List ℕ → Type 0 where
  none_open : IsOpenText z ts None []
  one_open : {k : ℕ} {p : Position} → IsPosition z (stretch_at ts k).from p
      → IsOpenText z ts (Some k) (codes "Open is " ++ (bytes_in z (stretch_at ts k) ++ position_text p))

-- what is expected at token number k, on a line of its own; and behind kinds of words, on another, the innermost bracket or quotation mark
-- that is open behind the tokens before it
pub data IsExpectedText (z : List ℕ) (ts : List Token) (k : ℕ) : Expected → List ℕ → Type 0 where
  of_levels : {c : Nested}
      → IsExpectedText z ts k (fewer_levels c) (expected_text (fewer_levels c) ++ (10 ∷ []))
  of_kinds : {ks : List Kind} {o : List ℕ} → IsOpenText z ts (innermost_open (take k (words_of z ts))) o
      → IsExpectedText z ts k (one_of ks) (expected_text (one_of ks) ++ ((10 ∷ []) ++ o))

-- of such a cause what is expected at the first word with which the tokens of the bytes begin no file's any more; of any other nothing
pub data IsExpectedTold (z : List ℕ) (e : ReadFault) : List ℕ → Type 0 where
  at_word : {ts : List Token} {k : ℕ} {x : Expected} {t : List ℕ} → is_of_words e ≡ true → AreTokens z ts
      → IsFirstWrong IsFileWords (words_of z ts) k → IsExpected (words_of z ts) k x → IsExpectedText z ts k x t
      → IsExpectedTold z e t
  no_word : ((ts : List Token) (k : ℕ) → AreTokens z ts → IsFirstWrong IsFileWords (words_of z ts) k → ⊥)
      → IsExpectedTold z e []
  no_such : is_of_words e ≡ false → IsExpectedTold z e []
