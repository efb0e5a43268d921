-- Bytes before a place and from it on, and what to write there, by hand: what a row says, and what looks alike and is said by another or by
-- none. Signs beyond ASCII stand as their bytes.
use Rattle.std.specs.Prelude.{codes, List, [], ◌∷◌, ◌++◌, Some, None}
use Rattle.sap_cures.specs.Examples.{ByteExample}

abbrev pub braces_and_choices : List ByteExample
braces_and_choices =
    (codes "text", codes "{* A *}", Some (codes "Write a comment, /* and */ for text{* and *}."))
    ∷ (codes "tex", codes "} A", None)
    ∷ (codes "section", codes "{* A *}", Some (codes "Write a comment, /* and */ for section{* and *}."))
    ∷ (codes "section", codes " *", None)
    ∷ (codes "chapter", codes "{* A *}", Some (codes "Write a comment, /* and */ for {* and *}."))
    ∷ ([], codes "}*", None)
    ∷ (codes "out(senc", codes "{m}k)", Some (codes "Write the arguments in parentheses, as senc(m, k)."))
    ∷ (codes "out(senc", codes "}m", None)
    ∷ (codes "(event A() ", codes "+ event B())", Some (codes "Let the adversary choose: in(x); if x = 'a' then P else Q."))
    ∷ (codes "(event A() ", codes "- event", None)
    ∷ (codes "(event A() ", codes "+ out(m))", Some (codes "Let the adversary choose: in(x); if x = 'a' then P else Q."))
    ∷ (codes "f(y ", codes "+ x)", Some (codes "Write a pair for a sum: there are no multisets."))
    ∷ (codes "(event A() ", codes "+ in(m))", Some (codes "Let the adversary choose: in(x); if x = 'a' then P else Q."))
    ∷ (codes "f(y ", codes "+ n)", Some (codes "Write a pair for a sum: there are no multisets."))
    ∷ (codes "(event A() ", codes "+ new m; 0)", Some (codes "Let the adversary choose: in(x); if x = 'a' then P else Q."))
    ∷ (codes "f(y ", codes "+ x, new)", Some (codes "Write a pair for a sum: there are no multisets."))
    ∷ (codes "(event A() ", codes "+ if x = y then 0)", Some (codes "Let the adversary choose: in(x); if x = 'a' then P else Q."))
    ∷ (codes "f(y ", codes "+ i)", Some (codes "Write a pair for a sum: there are no multisets."))
    ∷ (codes "((0) ", codes "+ (0))", Some (codes "Let the adversary choose: in(x); if x = 'a' then P else Q."))
    ∷ (codes "f((x) ", codes "+ y)", Some (codes "Write a pair for a sum: there are no multisets."))
    ∷ (codes "(0 ", codes "+ ! P)", Some (codes "Let the adversary choose: in(x); if x = 'a' then P else Q."))
    ∷ (codes "f(y ", codes "+!)", Some (codes "Write a pair for a sum: there are no multisets."))
    ∷ (codes "out(x ", codes "+ y)", Some (codes "Write a pair for a sum: there are no multisets."))
    ∷ (codes "out('x ", codes "+ y')", None)
    ∷ []

abbrev pub operators : List ByteExample
operators =
    (codes "out(g", codes "^x)", Some (codes "Write a symbol of a builtin: there are no exponents."))
    ∷ (codes "out(g", codes "|x)", None)
    ∷ (codes "out(x ", codes "* y)", Some (codes "Write a symbol of a builtin: there are no products."))
    ∷ (codes "{", codes "{*", Some (codes "Write a comment, /* and */ for {* and *}."))
    ∷ (codes "out(x ", codes "%+ y)", Some (codes "Write symbols of your own: there are no natural numbers."))
    ∷ (codes "out(x ", codes "%y)", None)
    ∷ (codes "out(", codes "%1)", Some (codes "Write symbols of your own: there are no natural numbers."))
    ∷ (codes "out(", codes "%2)", None)
    ∷ (codes "--[ ", codes "_restrict(x = y)", Some (codes "Write the condition as an if before the rule: a rule shows facts alone."))
    ∷ (codes "--[ ", codes "_restraint", Some (codes "Begin the name with a letter."))
    ∷ (codes "in(", codes "_)", Some (codes "Begin the name with a letter."))
    ∷ (codes "in('", codes "_')", None)
    ∷ (codes "A /", codes "\\ B", Some (codes "Write & for this sign."))
    ∷ (codes "A ", codes "\\ B", None)
    ∷ (codes "A ", codes "\\/ B", Some (codes "Write | for this sign."))
    ∷ (codes "A / ", codes "\\ / B", None)
    ∷ []

abbrev pub signs_of_formulas : List ByteExample
signs_of_formulas =
    (codes "\"", (226 ∷ 136 ∷ 128 ∷ []) ++ codes " x.", Some (codes "Write All for this sign."))
    ∷ (codes "'", (226 ∷ 136 ∷ 128 ∷ []) ++ codes " x'", None)
    ∷ (codes "\"", (226 ∷ 136 ∷ 131 ∷ []) ++ codes " x.", Some (codes "Write Ex for this sign."))
    ∷ (codes "'y'; '", (226 ∷ 136 ∷ 131 ∷ []) ++ codes " x'", None)
    ∷ (codes "\"", (194 ∷ 172 ∷ []) ++ codes " (x = y)", Some (codes "Write not for this sign."))
    ∷ (codes "out('a", (194 ∷ 172 ∷ []) ++ codes "')", None)
    ∷ (codes "A ", (226 ∷ 136 ∷ 167 ∷ []) ++ codes " B", Some (codes "Write & for this sign."))
    ∷ (codes "x = 'a'", (226 ∷ 136 ∷ 167 ∷ []) ++ codes " B", Some (codes "Write & for this sign."))
    ∷ (codes "A ", (226 ∷ 136 ∷ 168 ∷ []) ++ codes " B", Some (codes "Write | for this sign."))
    ∷ (codes "'A ", (226 ∷ 136 ∷ 168 ∷ []) ++ codes " B'", None)
    ∷ (codes "A ", (226 ∷ 135 ∷ 146 ∷ []) ++ codes " B", Some (codes "Write ==> for this sign."))
    ∷ (codes "A ", (226 ∷ 135 ∷ 145 ∷ []) ++ codes " B", None)
    ∷ (codes "A ", (226 ∷ 134 ∷ 146 ∷ []) ++ codes " B", Some (codes "Write ==> for this sign."))
    ∷ (codes "A ", (226 ∷ 134 ∷ 144 ∷ []) ++ codes " B", None)
    ∷ (codes "A ", (226 ∷ 135 ∷ 148 ∷ []) ++ codes " B", Some (codes "Write <=> for this sign."))
    ∷ (codes "'A ", (226 ∷ 135 ∷ 148 ∷ []) ++ codes " B'", None)
    ∷ (codes "A ", (226 ∷ 134 ∷ 148 ∷ []) ++ codes " B", Some (codes "Write <=> for this sign."))
    ∷ (codes "'A ", (226 ∷ 134 ∷ 148 ∷ []) ++ codes " B'", None)
    ∷ (codes "\"", (226 ∷ 138 ∷ 164 ∷ []), Some (codes "Write T for this sign."))
    ∷ (codes "'", (226 ∷ 138 ∷ 164 ∷ []), None)
    ∷ (codes "\"", (226 ∷ 138 ∷ 165 ∷ []), Some (codes "Write F for this sign."))
    ∷ (codes "'", (226 ∷ 138 ∷ 165 ∷ []), None)
    ∷ []

abbrev pub other_signs : List ByteExample
other_signs =
    (codes "if x ", (226 ∷ 137 ∷ 160 ∷ []) ++ codes " y", Some (codes "Write not (t = u) in a formula, and turn the branches of an if round."))
    ∷ (codes "if x ", (226 ∷ 137 ∷ 161 ∷ []) ++ codes " y", None)
    ∷ (codes "#i ", (226 ∷ 137 ∷ 164 ∷ []) ++ codes " #j", Some (codes "Write not (#j < #i) for #i before #j or at it."))
    ∷ (codes "#i ", (226 ∷ 137 ∷ 165 ∷ []) ++ codes " #j", None)
    ∷ (codes "out('a' ", (226 ∷ 138 ∷ 149 ∷ []) ++ codes " 'b')", Some (codes "Write a symbol of a builtin: there is no exclusive or."))
    ∷ (codes "out('a ", (226 ∷ 138 ∷ 149 ∷ []) ++ codes " b')", None)
    ∷ (codes "out(", (226 ∷ 128 ∷ 152 ∷ []) ++ (codes "a" ++ ((226 ∷ 128 ∷ 153 ∷ []) ++ codes ")")), Some (codes "Write ' for this sign."))
    ∷ (codes "out('", (226 ∷ 128 ∷ 152 ∷ []) ++ codes "a')", None)
    ∷ (codes "out(" ++ ((226 ∷ 128 ∷ 152 ∷ []) ++ codes "a"), (226 ∷ 128 ∷ 153 ∷ []) ++ codes ")", Some (codes "Write ' for this sign."))
    ∷ (codes "out('a", (226 ∷ 128 ∷ 153 ∷ []) ++ codes ")", None)
    ∷ (codes "lemma a: ", (226 ∷ 128 ∷ 156 ∷ []) ++ (codes "T" ++ (226 ∷ 128 ∷ 157 ∷ [])), Some (codes "Write the sign of ASCII for this quotation mark."))
    ∷ (codes "lemma a: '", (226 ∷ 128 ∷ 156 ∷ []) ++ codes "T", None)
    ∷ (codes "lemma a: \"T", (226 ∷ 128 ∷ 157 ∷ []), Some (codes "Write the sign of ASCII for this quotation mark."))
    ∷ (codes "lemma a: 'T", (226 ∷ 128 ∷ 157 ∷ []), None)
    ∷ (codes "out(", (226 ∷ 159 ∷ 168 ∷ []) ++ (codes "a, b" ++ ((226 ∷ 159 ∷ 169 ∷ []) ++ codes ")")), Some (codes "Write < for this sign."))
    ∷ (codes "out('", (226 ∷ 159 ∷ 168 ∷ []) ++ codes "a')", None)
    ∷ (codes "out(<a, b", (226 ∷ 159 ∷ 169 ∷ []) ++ codes ")", Some (codes "Write > for this sign."))
    ∷ (codes "out('a, b", (226 ∷ 159 ∷ 169 ∷ []) ++ codes "')", None)
    ∷ []
