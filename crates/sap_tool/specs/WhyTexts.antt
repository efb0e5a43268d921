-- What is told of a file: that it is accepted, with notes; or why it isn't, where that stands, and what to change.
use Rattle.std.specs.Prelude.{◌≡◌, ◌<◌, ◌≤◌, ℕ, codes, List, [], ◌∷◌, ◌++◌, length, Err}
use Rattle.sap_read.specs.Files.{FileContent, IsRead}
use Rattle.sap_read.specs.declared.fault.ReadFault.{ReadFault}
use Rattle.sap_refusals.specs.Refusals.{fault_text, refused_line}
use Rattle.sap_explain.specs.Advice.{length_advice}
use Rattle.sap_explain.specs.Explained.{IsExplanation}
use Rattle.sap_notes.specs.NotesTold.{IsNotesText}
use Rattle.sap_replay.specs.AcceptedFile.{most_bytes, IsAcceptedFile, IsRefusedWith}

-- what is told of an accepted file, before the notes on it
abbrev pub accepted_text : List ℕ
accepted_text = codes "accepted\n"

-- what is told of bytes that are too many
abbrev pub long_text : List ℕ
long_text = refused_line (codes "longer than 1048576 bytes") ++ (length_advice ++ (10 ∷ []))

-- the text says that the bytes are an accepted file, and tells the notes on it; or it is the line with the cause that refuses them, and
-- behind it where this stands and what to change
pub data IsWhyText (bytes : List ℕ) : List ℕ → Type 0 where
  of_file : {told : FileContent} {t : List ℕ} → IsAcceptedFile bytes told → IsNotesText bytes t
      → IsWhyText bytes (accepted_text ++ t)
  of_length : most_bytes < length bytes → IsWhyText bytes long_text
  of_fault : {e : ReadFault} {t : List ℕ} → length bytes ≤ most_bytes → IsRead bytes (Err e)
      → IsExplanation bytes e t → IsWhyText bytes (refused_line (fault_text e) ++ t)

-- What such a text means: that it says the bytes are accepted where they are, and no cause refuses them, and then tells the notes on the
-- file; else it begins with the line of the one cause that refuses them, and they aren't accepted.
pub data IsToldWhy (bytes : List ℕ) : List ℕ → Type 0 where
  told_accepted : (told : FileContent) (notes : List ℕ) → IsAcceptedFile bytes told
      → IsNotesText bytes notes → ((why : List ℕ) → IsRefusedWith bytes why → ⊥)
      → IsToldWhy bytes (accepted_text ++ notes)
  told_refused : (why rest : List ℕ) → IsRefusedWith bytes why
      → ((other : List ℕ) → IsRefusedWith bytes other → other ≡ why)
      → ((told : FileContent) → IsAcceptedFile bytes told → ⊥)
      → IsToldWhy bytes (refused_line why ++ rest)
