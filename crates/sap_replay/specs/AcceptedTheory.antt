-- The theories that are accepted, and why other bytes are refused.
use Rattle.std.specs.Prelude.{◌≡◌, ◌<◌, ◌≤◌, ℕ, codes, List, length, Ok, Err}
use Rattle.sap_rule.specs.declared.theory.Theory.{Theory}
use Rattle.sap_theory.specs.ReadTheory.{IsTheoryRead}
use Rattle.sap_theory.specs.declared.fault.TheoryFault.{TheoryFault}
use Rattle.sap_outside.specs.RunPieces.{most_run_bytes}
use Rattle.sap_refusals.specs.Refusals.{refused_line}
use Rattle.sap_refusals.specs.TheoryRefusals.{theory_fault_text}

-- how many bytes a theory may have
abbrev pub most_theory_bytes : ℕ
most_theory_bytes = most_run_bytes

-- the bytes aren't too many, and they are read as this theory
pub record IsAcceptedTheory (bytes : List ℕ) (t : Theory) : Type 0 where
  pub short : length bytes ≤ most_theory_bytes
  pub read : IsTheoryRead bytes (Ok t)

-- the bytes are refused for this cause: they are too many; else they are read as no theory
pub data IsTheoryRefusedWith (bytes : List ℕ) : List ℕ → Type 0 where
  too_long : most_theory_bytes < length bytes
      → IsTheoryRefusedWith bytes (codes "longer than 16777216 bytes")
  unread : {e : TheoryFault} → length bytes ≤ most_theory_bytes → IsTheoryRead bytes (Err e)
      → IsTheoryRefusedWith bytes (theory_fault_text e)

-- the line says why the bytes are refused
pub record IsTheoryRefusal (bytes line : List ℕ) : Type 0 where
  pub why : List ℕ
  pub refused : IsTheoryRefusedWith bytes why
  pub layout : line ≡ refused_line why
