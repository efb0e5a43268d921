-- Rows of words for formulas.
use Rattle.std.specs.Prelude.{codes, List, [], ◌∷◌}
use Rattle.sap_cures.specs.Tests.{WordRow, any_name, any_quoted, any_word, capital_name, one_of, simple, small_name, this}

-- of quantifiers, inequalities and arrows
unfoldable pub sign_rows : List WordRow
sign_rows =
    (one_of (codes "forall" ∷ codes "exists" ∷ []) ∷ [], one_of (codes "#" ∷ codes "~" ∷ codes "$" ∷ []) ∷ [], codes "Write All or Ex for this quantifier.") ∷
    (one_of (codes "forall" ∷ codes "exists" ∷ []) ∷ [], any_name ∷ [], codes "Write All or Ex for this quantifier.") ∷
    (one_of (codes "All" ∷ codes "Ex" ∷ []) ∷ any_name ∷ [], this (codes ",") ∷ [], codes "Leave the comma out: All x y #i.") ∷
    (one_of (codes "All" ∷ codes "Ex" ∷ []) ∷ one_of (codes "#" ∷ codes "~" ∷ codes "$" ∷ []) ∷ any_name ∷ [], this (codes ",") ∷ [], codes "Leave the comma out: All x y #i.") ∷
    (any_name ∷ one_of (codes "#" ∷ codes "~" ∷ codes "$" ∷ []) ∷ any_name ∷ [], this (codes ",") ∷ [], codes "Leave the comma out: All x y #i.") ∷
    (any_name ∷ any_name ∷ [], this (codes ",") ∷ [], codes "Leave the comma out: All x y #i.") ∷
    (this (codes "last") ∷ this (codes "(") ∷ [], this (codes "#") ∷ [], codes "Leave last out: no formula asks which time is the last.") ∷
    (one_of (codes "if" ∷ codes "=" ∷ []) ∷ any_name ∷ [], this (codes "!") ∷ this (codes "=") ∷ [], codes "Turn the branches round: if t = u then 0 else P.") ∷
    (this (codes "if") ∷ one_of (codes "~" ∷ codes "$" ∷ []) ∷ any_name ∷ [], this (codes "!") ∷ this (codes "=") ∷ [], codes "Turn the branches round: if t = u then 0 else P.") ∷
    ([], this (codes "!") ∷ this (codes "=") ∷ [], codes "Write not (t = u) in a formula, and turn the branches of an if round.") ∷
    (one_of (codes "&" ∷ codes "==>" ∷ codes "<=>" ∷ codes "not" ∷ codes "." ∷ codes "\"" ∷ []) ∷ [], this (codes "!") ∷ capital_name ∷ [], codes "Leave the ! out: an action in a formula has none.") ∷
    ([], this (codes ">") ∷ this (codes "=") ∷ [], codes "Write not (#j < #i) for #j >= #i.") ∷
    (any_name ∷ this (codes "<") ∷ [], this (codes "=") ∷ [], codes "Write not (#j < #i) for #i <= #j.") ∷
    (this (codes "]") ∷ [], this (codes "-") ∷ this (codes ">") ∷ [], codes "Write --> for the arrow of a rule.") ∷
    ([], this (codes "=") ∷ this (codes ">") ∷ [], codes "Write ==> for an implication.") ∷
    (this (codes "=") ∷ [], this (codes ">") ∷ [], codes "Write ==> for an implication.") ∷
    ([], this (codes "-") ∷ this (codes ">") ∷ [], codes "Write ==> for an implication.") ∷
    (this (codes "=") ∷ [], this (codes "=") ∷ [], codes "Write one = between two terms.") ∷
    (this (codes "&") ∷ [], this (codes "&") ∷ [], codes "Write one & between two formulas.") ∷
    (this (codes "~") ∷ [], this (codes "(") ∷ [], codes "Write not for it: a ~ stands before a name.") ∷
    []

-- of orders, tuples, locations and facts
unfoldable pub fact_rows : List WordRow
fact_rows =
    (this (codes "<") ∷ simple ∷ [], this (codes ">") ∷ [], codes "Write a second part behind a comma, or the term without < and >.") ∷
    (this (codes "<") ∷ this (codes "~") ∷ any_name ∷ [], this (codes ">") ∷ [], codes "Write a second part behind a comma, or the term without < and >.") ∷
    (this (codes "if") ∷ any_name ∷ [], one_of (codes "<" ∷ codes ">" ∷ []) ∷ [], codes "Write = between the two terms: a condition is an equation.") ∷
    (any_name ∷ [], this (codes ">") ∷ this (codes "#") ∷ [], codes "Write #i < #j for #j > #i.") ∷
    (any_name ∷ [], this (codes ">") ∷ any_name ∷ [], codes "Write #i < #j for #j > #i.") ∷
    (one_of (codes "out" ∷ codes "in" ∷ []) ∷ this (codes "(") ∷ any_word ∷ this (codes ")") ∷ [], this (codes "@") ∷ [], codes "Leave the @ and its term out: an action has no location.") ∷
    (this (codes "event") ∷ capital_name ∷ this (codes "(") ∷ this (codes ")") ∷ [], this (codes "@") ∷ [], codes "Leave the @ and its term out: an action has no location.") ∷
    (this (codes "event") ∷ capital_name ∷ this (codes "(") ∷ any_word ∷ this (codes ")") ∷ [], this (codes "@") ∷ [], codes "Leave the @ and its term out: an action has no location.") ∷
    ([], this (codes "@") ∷ any_quoted ∷ [], codes "Leave the @ and its term out: an action has no location.") ∷
    (small_name ∷ this (codes "(") ∷ this (codes ")") ∷ [], this (codes "@") ∷ [], codes "Begin the name of a fact with a capital letter.") ∷
    (small_name ∷ this (codes "(") ∷ any_word ∷ this (codes ")") ∷ [], this (codes "@") ∷ [], codes "Begin the name of a fact with a capital letter.") ∷
    (small_name ∷ this (codes "(") ∷ any_word ∷ this (codes ",") ∷ any_word ∷ this (codes ")") ∷ [], this (codes "@") ∷ [], codes "Begin the name of a fact with a capital letter.") ∷
    (this (codes "last") ∷ this (codes "(") ∷ any_name ∷ this (codes ")") ∷ [], any_word ∷ [], codes "Leave last out: no formula asks which time is the last.") ∷
    (capital_name ∷ this (codes "(") ∷ any_word ∷ this (codes ")") ∷ [], one_of (codes "&" ∷ codes "==>" ∷ codes "<=>" ∷ []) ∷ [], codes "Write a time behind the fact, as A(x) @ #i.") ∷
    (capital_name ∷ this (codes "(") ∷ any_word ∷ this (codes ",") ∷ any_word ∷ this (codes ")") ∷ [], one_of (codes "&" ∷ codes "==>" ∷ codes "<=>" ∷ []) ∷ [], codes "Write a time behind the fact, as A(x) @ #i.") ∷
    (one_of (codes "true" ∷ codes "false" ∷ []) ∷ [], one_of (codes "\"" ∷ codes ")" ∷ codes "&" ∷ codes "==>" ∷ codes "<=>" ∷ []) ∷ [], codes "Write T or F for this truth value.") ∷
    []
