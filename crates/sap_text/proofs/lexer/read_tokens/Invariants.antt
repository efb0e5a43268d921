use Rattle.std.proofs.Common.{length, ◌-◌, ◌≤◌, ◌+◌, drop}
use Rattle.sap_text.specs.Tokens.{IsLexed, Lexed}
use Rattle.sap_text.specs.code.Front.{all_before}
use Rattle.sap_text.proofs.lexer.read_tokens.Given as goal

abbrev pub invariant-loop-at : goal.invariant-loop-at
invariant-loop-at l = record {
  inside : l.at ≤ length l.bytes;
  few : l.line ≤ l.at + 1;
  joined : (o : Lexed) → IsLexed l.longest l.at l.line (drop l.at l.bytes) o → IsLexed l.longest 0 1 l.bytes (all_before l.out.items o);
}

abbrev pub decreases-loop-at : goal.decreases-loop-at
decreases-loop-at l = length l.bytes - l.at
