-- What the program tells without reading anything.
use Rattle.std.specs.Prelude.{◌≡◌, ℕ, codes, List, [], ◌∷◌}
use Rattle.sap_pages.specs.Pages.{IsPageOf}
use Rattle.sap_pages.specs.Texts.{commands_text, version_text}
use Rattle.sap_replay.specs.Sample.{IsSample, sample_text}

-- the words ask how the program is called, and this text tells it: the list of commands, the page of one, or the version
pub data IsHelp (words : List (List ℕ)) : List ℕ → Type 0 where
  flag : words ≡ codes "--help" ∷ [] → IsHelp words commands_text
  list : words ≡ codes "help" ∷ [] → IsHelp words commands_text
  page : (word text : List ℕ) → words ≡ codes "help" ∷ word ∷ [] → IsPageOf word text
      → IsHelp words text
  version : words ≡ codes "--version" ∷ [] → IsHelp words version_text

-- the words ask for this text, and nothing is read for it: what is told of a sample, or help
pub data IsToldAtOnce (words : List (List ℕ)) : List ℕ → Type 0 where
  sample : (n : ℕ) → IsSample words n → IsToldAtOnce words (sample_text n)
  help : (text : List ℕ) → IsHelp words text → IsToldAtOnce words text
