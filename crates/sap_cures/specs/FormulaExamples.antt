-- Words of formulas round a place, and what to write there, by hand: what a row says, and what looks alike and is said by another or by none.
use Rattle.std.specs.Prelude.{codes, List, [], ◌∷◌, Some, None}
use Rattle.sap_cures.specs.Examples.{WordExample}

abbrev pub quantifiers : List WordExample
quantifiers =
    (codes "begin builtins : hashing lemma a : \" forall", codes "x # i", Some (codes "Write All or Ex for this quantifier."))
    ∷ (codes "begin builtins : hashing lemma a : \" exists", codes "# i .", Some (codes "Write All or Ex for this quantifier."))
    ∷ (codes "exists", codes "- trace", None)
    ∷ (codes "builtins : hashing lemma a : \" All x", codes ", y ,", Some (codes "Leave the comma out: All x y #i."))
    ∷ (codes "new NAME ( x", codes ", y", None)
    ∷ (codes ": hashing lemma a : \" All # i", codes ", # j", Some (codes "Leave the comma out: All x y #i."))
    ∷ (codes "( ~ k", codes ", m", None)
    ∷ (codes "hashing lemma a : \" All x # i", codes ", # j", Some (codes "Leave the comma out: All x y #i."))
    ∷ (codes ", ~ k", codes ", m", None)
    ∷ (codes ": hashing lemma a : \" All x y", codes ", z .", Some (codes "Leave the comma out: All x y #i."))
    ∷ (codes "( x", codes ", y", None)
    ∷ []

abbrev pub inequalities : List WordExample
inequalities =
    (codes "A ( x ) @ i ==> last (", codes "# i )", Some (codes "Leave last out: no formula asks which time is the last."))
    ∷ (codes "first (", codes "# i )", None)
    ∷ (codes "k ; in ( m ) ; if m", codes "! = 'a'", Some (codes "Turn the branches round: if t = u then 0 else P."))
    ∷ (codes "if m", codes "! A", None)
    ∷ (codes "; in ( m ) ; if ~ k", codes "! = m", Some (codes "Turn the branches round: if t = u then 0 else P."))
    ∷ (codes "lock ~ k", codes "!", None)
    ∷ (codes ". A ( x ) @ i ==> x", codes "! = 'a'", Some (codes "Write not (t = u) in a formula, and turn the branches of an if round."))
    ∷ (codes "let A =", codes "! B", None)
    ∷ (codes "lemma a : \" All x # i .", codes "! A (", Some (codes "Leave the ! out: an action in a formula has none."))
    ∷ (codes "=", codes "! A ( x )", None)
    ∷ (codes "A ( x ) @ i ==> # i", codes "> = #", Some (codes "Write not (#j < #i) for #j >= #i."))
    ∷ (codes "x", codes "> y", Some (codes "Write #i < #j for #j > #i."))
    ∷ (codes "( x ) @ i ==> # i <", codes "= # j", Some (codes "Write not (#j < #i) for #i <= #j."))
    ∷ (codes "( <", codes "= x", Some (codes "Leave the = out: a name that is bound above is compared as it stands."))
    ∷ []

abbrev pub arrows : List WordExample
arrows =
    (codes "k ; in ( m ) ; [ ]", codes "- > [", Some (codes "Write --> for the arrow of a rule."))
    ∷ (codes "]", codes "- x", None)
    ∷ (codes "# i . A ( x ) @ i", codes "= > F", Some (codes "Write ==> for an implication."))
    ∷ (codes "x", codes "= y", None)
    ∷ (codes "lemma a : \" All x . x =", codes "> F \"", Some (codes "Write ==> for an implication."))
    ∷ (codes "x", codes "> )", None)
    ∷ (codes "# i . A ( x ) @ i", codes "- > F", Some (codes "Write ==> for an implication."))
    ∷ (codes "i", codes "- x", None)
    ∷ (codes "; in ( m ) ; if m =", codes "= 'a' then", Some (codes "Write one = between two terms."))
    ∷ (codes "if x", codes "= y", None)
    ∷ (codes "x", codes "= = ", None)
    ∷ (codes "i . A ( x ) @ i &", codes "& A (", Some (codes "Write one & between two formulas."))
    ∷ (codes "x", codes "& & ", None)
    ∷ (codes "begin builtins : hashing lemma a : \" ~", codes "( All x", Some (codes "Write not for it: a ~ stands before a name."))
    ∷ (codes "$", codes "( x", None)
    ∷ []

abbrev pub orders : List WordExample
orders =
    (codes "in ( m ) ; out ( < m", codes "> ) end", Some (codes "Write a second part behind a comma, or the term without < and >."))
    ∷ (codes "( x", codes "> )", None)
    ∷ (codes "( m ) ; out ( < ~ k", codes "> ) end", Some (codes "Write a second part behind a comma, or the term without < and >."))
    ∷ (codes "< ~", codes "> )", None)
    ∷ (codes "k ; in ( m ) ; if m", codes "> 'a' then", Some (codes "Write = between the two terms: a condition is an equation."))
    ∷ (codes "lock m", codes "> 'a'", None)
    ∷ (codes "A ( x ) @ i ==> # j", codes "> # i", Some (codes "Write #i < #j for #j > #i."))
    ∷ (codes ". A ( x ) @ i ==> j", codes "> i \"", Some (codes "Write #i < #j for #j > #i."))
    ∷ (codes ")", codes "> # i", None)
    ∷ []

abbrev pub locations : List WordExample
locations =
    (codes "in ( m ) ; out ( m )", codes "@ l end", Some (codes "Leave the @ and its term out: an action has no location."))
    ∷ (codes "In ( m", codes "@ l", None)
    ∷ (codes "in ( m ) ; event A ( )", codes "@ l end", Some (codes "Leave the @ and its term out: an action has no location."))
    ∷ (codes "A ( )", codes "; l", None)
    ∷ (codes "( m ) ; event A ( m )", codes "@ l end", Some (codes "Leave the @ and its term out: an action has no location."))
    ∷ (codes "A ( m )", codes "; l", None)
    ∷ (codes "; in ( m ) ; new ~ n", codes "@ 'here' end", Some (codes "Leave the @ and its term out: an action has no location."))
    ∷ (codes "x", codes "@ y", None)
    ∷ []

abbrev pub small_facts : List WordExample
small_facts =
    (codes ": \" All # i . a ( )", codes "@ i ==>", Some (codes "Begin the name of a fact with a capital letter."))
    ∷ (codes "A ( )", codes "@ i", None)
    ∷ (codes "All x # i . a ( x )", codes "@ i ==>", Some (codes "Begin the name of a fact with a capital letter."))
    ∷ (codes "All x # i . last ( x )", codes "@ i ==>", Some (codes "Begin the name of a fact with a capital letter."))
    ∷ (codes "A ( x )", codes "@ i", None)
    ∷ (codes "# i . a ( x , y )", codes "@ i ==>", Some (codes "Begin the name of a fact with a capital letter."))
    ∷ (codes "A ( x , y )", codes "@ i", None)
    ∷ (codes "x ) @ i ==> last ( i )", codes "\" process :", Some (codes "Leave last out: no formula asks which time is the last."))
    ∷ (codes "first ( i )", codes "\"", None)
    ∷ (codes "All x # i . A ( x )", codes "& A (", Some (codes "Write a time behind the fact, as A(x) @ #i."))
    ∷ (codes "a ( x )", codes "& A", None)
    ∷ (codes "x y . A ( x , y )", codes "==> F \"", Some (codes "Write a time behind the fact, as A(x) @ #i."))
    ∷ (codes "a ( x , y )", codes "==> F", None)
    ∷ (codes "begin builtins : hashing lemma a : \" true", codes "\" process :", Some (codes "Write T or F for this truth value."))
    ∷ (codes "truth", codes "\"", None)
    ∷ []
