-- What the code wants, as a plain value.
use Rattle.std.specs.Prelude.{ℕ, List, map, Option, Some, None, reverse}
use Rattle.std.specs.Borrow.{Bor}
use Rattle.std.specs.Option.{option_map}
use Rattle.sap_expect.specs.declared.nested.Nested.{Nested}
use Rattle.sap_expect.specs.declared.wanted.Test.{Test}
use Rattle.sap_expect.specs.declared.wanted.Wanted as code
use Rattle.sap_expect.specs.declared.wanted.Wanted.TheVariants.{Mark, Named, Name, Lower, Upper, Quoted, Zero, Arity, A, Level}
use Rattle.sap_expect.specs.FileTable.{Counting, Open, Row, Turn, Wanted, all_but, any_name, arity, capital, every_level, in_quotes, level, nil, part, sign, small, word}

abbrev pub wanted : code.Wanted → Wanted
wanted (Mark m) = sign m.now
wanted (Named x) = word x.now
wanted Name = any_name
wanted Lower = small
wanted Upper = capital
wanted Quoted = in_quotes
wanted Zero = nil
wanted Arity = arity
wanted (A p l) = part p l
wanted (Level c) = level c

-- of each of them; of a row; of what a part is; of that, where it may be missing
abbrev pub all_wanted : List code.Wanted → List Wanted
all_wanted vs = map wanted vs

abbrev pub row_of : (code.Wanted × Test × Bor (List code.Wanted)) → Row
row_of r = (wanted r.0, r.1, all_wanted r.2.now)

abbrev pub turn_of : (Test × Bor (List code.Wanted)) → Turn
turn_of t = (t.0, all_wanted t.1.now)

abbrev pub turn_there : Option (Test × Bor (List code.Wanted)) → Option Turn
turn_there o = option_map turn_of o

-- whose levels don't count
abbrev pub counting : Option Nested → Counting
counting None = every_level
counting (Some c) = all_but c

-- of what is open; of a stack, whose last is topmost
abbrev pub open_of : (code.Wanted × ℕ) → Open
open_of o = (wanted o.0, o.1)

abbrev pub stacked : List (code.Wanted × ℕ) → List Open
stacked vs = reverse (map open_of vs)
