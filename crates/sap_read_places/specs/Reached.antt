-- How far a file was read before it was refused.
use Rattle.std.specs.Prelude.{◌≡◌, ℕ, List}
use Rattle.sap_text.specs.declared.fault.Lex.{Lex}
use Rattle.sap_text.specs.declared.token.Token.{Token}
use Rattle.sap_process.specs.Proc.{proc}
use Rattle.sap_read.specs.FileExpansions.{IsFileExpansion}
use Rattle.sap_read.specs.FileTokens.{HasTokens}
use Rattle.sap_read.specs.SaidFiles.{IsJudged, IsOfItems, IsOfUses, IsOfWords, IsSaidFile}
use Rattle.sap_read.specs.WrittenFiles.{IsWrittenFile}
use Rattle.sap_read.specs.declared.fault.ReadFault.{ReadFault}
use Rattle.sap_read.specs.declared.fault.ReadFault.TheVariants.{Lex as LexFault}
use Rattle.sap_read_places.specs.declared.reached.Reached.{Reached}
use Rattle.sap_read_places.specs.declared.reached.Reached.TheVariants.{Bytes, Tokens, Items, Written, Expanded}

-- the bytes are a file of these tokens, this is what is there of it, and the cause is one of those that are looked for in that; of
-- bytes that are no tokens nothing is said of these
abbrev pub IsReached : List ℕ → List Token → ReadFault → Reached → Type 0
IsReached z ts e Bytes = (f : Lex) × (e ≡ LexFault f)
IsReached z ts e Tokens = HasTokens z ts × IsOfWords e
IsReached z ts e (Items f) = HasTokens z ts × IsSaidFile z f.now × IsOfItems e
IsReached z ts e (Written w) = HasTokens z ts × IsWrittenFile z w.now × IsOfUses e
IsReached z ts e (Expanded w p) =
    HasTokens z ts × IsWrittenFile z w.now × IsFileExpansion w.now (proc p.now) × IsJudged e
