-- The answer is what the bytes give; of want of memory nothing is said.
use Rattle.std.specs.Prelude.{ℕ, List, Result, Ok, Err, ⊤, Vec}
use Rattle.std.specs.declared.alloc.Global.{Global}
use Rattle.sap_text.specs.declared.token.Token.{Token}
use Rattle.sap_text.specs.declared.fault.Lex.{Lex}
use Rattle.sap_text.specs.declared.fault.Lex.TheVariants as fault
use Rattle.sap_text.specs.Tokens.{IsLexed}

abbrev pub Told : ℕ → List ℕ → Result (Vec Token Global) Lex → Type 0
Told most z (Ok v) = IsLexed most 0 1 z (Ok v.items)
Told most z (Err fault.Mem) = ⊤
Told most z (Err f) = IsLexed most 0 1 z (Err f)
