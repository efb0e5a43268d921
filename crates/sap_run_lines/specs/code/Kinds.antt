-- Which bytes are counted from the left.
use Rattle.std.specs.Prelude.{ℕ, Bool}
use Rattle.std.specs.Char.{is_ascii_digit}
use Rattle.sap_text.specs.Tokens.{is_word, is_content}
use Rattle.sap_run_lines.specs.declared.take.Kind.{Kind}
use Rattle.sap_run_lines.specs.declared.take.Kind.TheVariants as kind

-- the byte is of the kind
abbrev pub is_of : Kind → ℕ → Bool
is_of kind.Word = is_word
is_of kind.Digit = is_ascii_digit
is_of kind.Content = is_content
