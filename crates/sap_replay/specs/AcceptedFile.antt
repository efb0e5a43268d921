-- The files that are accepted, why other bytes are refused, and the texts of their theories.
use Rattle.std.specs.Prelude.{◌≡◌, ◌<◌, ◌≤◌, ℕ, codes, List, length, Ok, Err}
use Rattle.sap_gen.specs.ShortTheories.{IsShortTheory}
use Rattle.sap_gen.specs.Kept.{file_theory, inlined_file_theory}
use Rattle.sap_read.specs.Files.{FileContent, IsRead}
use Rattle.sap_read.specs.declared.fault.ReadFault.{ReadFault}
use Rattle.sap_refusals.specs.Refusals.{fault_text, refused_line}
use Rattle.sap_rule.specs.declared.theory.Theory.{Theory}
use Rattle.sap_theory.specs.TheoryText.{theory_text}
use Rattle.sap_replay.specs.declared.way.Way.{Way}
use Rattle.sap_replay.specs.declared.way.Way.TheVariants.{Plain, Inlined, Short}

-- how many bytes a file may have
abbrev pub most_bytes : ℕ
most_bytes = 1048576

-- the bytes aren't too many, and they are read as a file that tells this
pub record IsAcceptedFile (bytes : List ℕ) (told : FileContent) : Type 0 where
  pub short : length bytes ≤ most_bytes
  pub read : IsRead bytes (Ok told)

-- the bytes are refused for this cause: they are too many; else they are read as no file
pub data IsRefusedWith (bytes : List ℕ) : List ℕ → Type 0 where
  too_long : most_bytes < length bytes → IsRefusedWith bytes (codes "longer than 1048576 bytes")
  unread : {e : ReadFault} → length bytes ≤ most_bytes → IsRead bytes (Err e)
      → IsRefusedWith bytes (fault_text e)

-- the line says why the bytes are refused
pub record IsRefusal (bytes line : List ℕ) : Type 0 where
  pub why : List ℕ
  pub refused : IsRefusedWith bytes why
  pub layout : line ≡ refused_line why

-- the theory is that of what a file tells: its name and signature, the rules of its process, and its lemmas; the restrictions that
-- the process needs, and then the file's own, stand beside these lemmas, or in each of them; or they stand beside them, and the rules
-- are short
abbrev pub IsCompiledTheory : Way → FileContent → Theory → Type 0
IsCompiledTheory Plain told t = t ≡ file_theory told
IsCompiledTheory Inlined told t = t ≡ inlined_file_theory told
IsCompiledTheory Short told t = IsShortTheory told t

-- the bytes are an accepted file, and the text is that of its theory
pub record IsTheoryOf (way : Way) (bytes text : List ℕ) : Type 0 where
  pub told : FileContent
  pub file : IsAcceptedFile bytes told
  pub theory : Theory
  pub compiled : IsCompiledTheory way told theory
  pub layout : text ≡ theory_text theory
