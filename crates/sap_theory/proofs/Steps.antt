-- What the readers of rules are proved with.
use Rattle.sap_grammar.proofs.ReadingLaws.Tokens.{words-drop}

pub ruleset steps = (words-drop)
