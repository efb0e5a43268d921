-- The tests and rows of the code, as plain values.
use Rattle.std.specs.Prelude.{ℕ, List, map}
use Rattle.std.specs.Borrow.{Bor}
use Rattle.sap_cures.specs.declared.test.Test.{Test as code_test}
use Rattle.sap_cures.specs.declared.test.Test.TheVariants.{Is, OneOf, Name, Small, Capital, Number, Quoted, Simple, Any, End}
use Rattle.sap_cures.specs.declared.test.WordRow.{WordRow as code_word_row}
use Rattle.sap_cures.specs.declared.test.ByteRow.{ByteRow as code_byte_row}
use Rattle.sap_cures.specs.Tests.{ByteRow, Test, WordRow, this, one_of, any_name, small_name, capital_name, any_number, any_quoted, simple, any_word, no_word}

abbrev pub text_of : Bor (List ℕ) → List ℕ
text_of w = w.now

abbrev pub test_of : code_test → Test
test_of (Is w) = this w.now
test_of (OneOf ws) = one_of (map text_of ws.now)
test_of Name = any_name
test_of Small = small_name
test_of Capital = capital_name
test_of Number = any_number
test_of Quoted = any_quoted
test_of Simple = simple
test_of Any = any_word
test_of End = no_word

abbrev pub row_of : code_word_row → WordRow
row_of r = (map test_of r.before.now, map test_of r.from.now, r.cure.now)

abbrev pub byte_row_of : code_byte_row → ByteRow
byte_row_of r = (r.before.now, r.from.now, r.cure.now)
