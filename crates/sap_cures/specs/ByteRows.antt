-- Rows of bytes. Signs beyond ASCII stand as their bytes.
use Rattle.std.specs.Prelude.{codes, List, [], ◌∷◌}
use Rattle.sap_cures.specs.Tests.{ByteRow}

-- of signs of ASCII
unfoldable pub mark_rows : List ByteRow
mark_rows =
    (codes "text", codes "{*", codes "Write a comment, /* and */ for text{* and *}.") ∷
    (codes "section", codes "{*", codes "Write a comment, /* and */ for section{* and *}.") ∷
    ([], codes "{*", codes "Write a comment, /* and */ for {* and *}.") ∷
    ([], codes "{", codes "Write the arguments in parentheses, as senc(m, k).") ∷
    ([], codes "+ event", codes "Let the adversary choose: in(x); if x = 'a' then P else Q.") ∷
    ([], codes "+ out", codes "Let the adversary choose: in(x); if x = 'a' then P else Q.") ∷
    ([], codes "+ in", codes "Let the adversary choose: in(x); if x = 'a' then P else Q.") ∷
    ([], codes "+ new", codes "Let the adversary choose: in(x); if x = 'a' then P else Q.") ∷
    ([], codes "+ if", codes "Let the adversary choose: in(x); if x = 'a' then P else Q.") ∷
    ([], codes "+ (", codes "Let the adversary choose: in(x); if x = 'a' then P else Q.") ∷
    ([], codes "+ !", codes "Let the adversary choose: in(x); if x = 'a' then P else Q.") ∷
    ([], codes "+", codes "Write a pair for a sum: there are no multisets.") ∷
    ([], codes "^", codes "Write a symbol of a builtin: there are no exponents.") ∷
    ([], codes "*", codes "Write a symbol of a builtin: there are no products.") ∷
    ([], codes "%+", codes "Write symbols of your own: there are no natural numbers.") ∷
    ([], codes "%1", codes "Write symbols of your own: there are no natural numbers.") ∷
    ([], codes "_restrict", codes "Write the condition as an if before the rule: a rule shows facts alone.") ∷
    ([], codes "_", codes "Begin the name with a letter.") ∷
    (codes "/", codes "\\", codes "Write & for this sign.") ∷
    ([], codes "\\/", codes "Write | for this sign.") ∷
    []

-- of others
unfoldable pub sign_rows : List ByteRow
sign_rows =
    ([], 226 ∷ 136 ∷ 128 ∷ [], codes "Write All for this sign.") ∷
    ([], 226 ∷ 136 ∷ 131 ∷ [], codes "Write Ex for this sign.") ∷
    ([], 194 ∷ 172 ∷ [], codes "Write not for this sign.") ∷
    ([], 226 ∷ 136 ∷ 167 ∷ [], codes "Write & for this sign.") ∷
    ([], 226 ∷ 136 ∷ 168 ∷ [], codes "Write | for this sign.") ∷
    ([], 226 ∷ 135 ∷ 146 ∷ [], codes "Write ==> for this sign.") ∷
    ([], 226 ∷ 134 ∷ 146 ∷ [], codes "Write ==> for this sign.") ∷
    ([], 226 ∷ 135 ∷ 148 ∷ [], codes "Write <=> for this sign.") ∷
    ([], 226 ∷ 134 ∷ 148 ∷ [], codes "Write <=> for this sign.") ∷
    ([], 226 ∷ 138 ∷ 164 ∷ [], codes "Write T for this sign.") ∷
    ([], 226 ∷ 138 ∷ 165 ∷ [], codes "Write F for this sign.") ∷
    ([], 226 ∷ 137 ∷ 160 ∷ [], codes "Write not (t = u) in a formula, and turn the branches of an if round.") ∷
    ([], 226 ∷ 137 ∷ 164 ∷ [], codes "Write not (#j < #i) for #i before #j or at it.") ∷
    ([], 226 ∷ 138 ∷ 149 ∷ [], codes "Write a symbol of a builtin: there is no exclusive or.") ∷
    ([], 226 ∷ 128 ∷ 152 ∷ [], codes "Write ' for this sign.") ∷
    ([], 226 ∷ 128 ∷ 153 ∷ [], codes "Write ' for this sign.") ∷
    ([], 226 ∷ 128 ∷ 156 ∷ [], codes "Write the sign of ASCII for this quotation mark.") ∷
    ([], 226 ∷ 128 ∷ 157 ∷ [], codes "Write the sign of ASCII for this quotation mark.") ∷
    ([], 226 ∷ 159 ∷ 168 ∷ [], codes "Write < for this sign.") ∷
    ([], 226 ∷ 159 ∷ 169 ∷ [], codes "Write > for this sign.") ∷
    []
