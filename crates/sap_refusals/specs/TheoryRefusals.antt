-- Why a theory is refused, in words.
use Rattle.std.specs.Prelude.{ℕ, codes, decimal, List, ◌++◌}
use Rattle.sap_theory.specs.declared.fault.TheoryFault.{TheoryFault}
use Rattle.sap_theory.specs.declared.fault.TheoryFault.TheVariants as fault
use Rattle.sap_refusals.specs.Refusals.{between, formula_text, lex_text}

-- why bytes are read as no theory; that memory was wanting refuses none
abbrev pub theory_fault_text : TheoryFault → List ℕ
theory_fault_text fault.Mem = codes "out of memory"
theory_fault_text (fault.Lex f) = lex_text (codes " is longer than 400 bytes") f
theory_fault_text fault.Header = codes "no theory header"
theory_fault_text (fault.Syntax line) =
    between (codes "line ") (decimal line) (codes ": not in the grammar")
theory_fault_text (fault.DuplicateName name) = between (codes "name ") name (codes " stands twice")
theory_fault_text (fault.FunctionClash name) =
    between (codes "function ") name (codes " is declared otherwise")
theory_fault_text (fault.BadFunction name) = between (codes "rule ") name (codes ": bad function")
theory_fault_text (fault.BadRule name) = between (codes "rule ") name (codes ": bad rule")
theory_fault_text (fault.Formula name f) = name ++ (codes ": " ++ formula_text f)
