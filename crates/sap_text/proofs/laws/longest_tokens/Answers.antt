use Rattle.sap_text.proofs.Longest.{name_longest, number_longest, quoted_longest, symbol_longest}
use Rattle.sap_text.proofs.laws.longest_tokens.Goals as goal

pub returns-clause-names : goal.returns-clause-names
returns-clause-names c = name_longest

pub returns-clause-numbers : goal.returns-clause-numbers
returns-clause-numbers c = number_longest

pub returns-clause-quoted : goal.returns-clause-quoted
returns-clause-quoted c = quoted_longest

pub returns-clause-symbols : goal.returns-clause-symbols
returns-clause-symbols c = symbol_longest
