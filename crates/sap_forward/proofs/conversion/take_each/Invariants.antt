use Rattle.std.proofs.Common.{[], take}
use Rattle.sap_terms.specs.Signature.{Sig}
use Rattle.sap_process.specs.Proc.{Proc}
use Rattle.sap_rule_lines.specs.Least.{names_drawn}
use Rattle.sap_forward.specs.code.Begun.{GoesOn, IsBegun}
use Rattle.sap_forward.proofs.conversion.take_each.Given as goal

-- the lines so far are taken
abbrev pub invariant-loop-k : goal.invariant-loop-k
invariant-loop-k l = (g : Sig) (q : Proc) → GoesOn g q → IsBegun g q (names_drawn l.run) [] l.initial.config l.initial.desk l.initial.lines → IsBegun g q (names_drawn l.run) (take l.k l.run) l.config l.desk l.lines
