-- Which words of a file spell its processes.
use Rattle.std.specs.Prelude.{◌≡◌, ◌≤◌, ℕ, ◌+◌, ◌-◌, List, [], length, take, drop}
use Rattle.sap_terms.specs.Signature.{Sig}
use Rattle.sap_grammar.specs.Words.{Word}
use Rattle.sap_macro.specs.Written.{Written}
use Rattle.sap_draft.specs.LocatedProcesses.{par_located}
use Rattle.sap_draft.specs.ProcessGrammar.{IsPar}
use Rattle.sap_draft.specs.declared.limits.TheConstants.{FILE_LIMITS}
use Rattle.sap_read.specs.LocatedItems.{LocatedBody}

-- the last so many words of an item behind which so many of these words are
abbrev pub item_end : List Word → (left behind : ℕ) → List Word
item_end ws left behind = take left (drop (length ws - (left + behind)) ws)

-- The process is spelled by words that are the last of its item; so what is left of it from any word on is left of these.
pub record IsSpelledIn (g : Sig) (ws : List Word) (b : LocatedBody) : Type 0 where
  pub written : Written
  pub levels : ℕ
  pub words : List Word
  pub spelled : IsPar g FILE_LIMITS written levels words []
  pub places : par_located spelled ≡ b.content
  pub inside : length words + b.behind ≤ length ws
  pub stand : (k : ℕ) → k ≤ length words → item_end ws k b.behind ≡ drop (length words - k) words
