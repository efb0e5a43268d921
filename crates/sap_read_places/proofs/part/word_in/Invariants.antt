use Rattle.std.proofs.Common.{Option, length}
use Rattle.sap_origin.specs.declared.origin.FileWord.{FileWord}
use Rattle.sap_read_places.specs.code.PartWalk.{IsFoundIn}
use Rattle.sap_read_places.proofs.part.word_in.Given as goal

abbrev pub invariant-loop-rest : goal.invariant-loop-rest
invariant-loop-rest l =
    (o : Option FileWord) → IsFoundIn l.fn.sig l.fn.bytes l.rest l.later l.fn.name l.fn.fault o → IsFoundIn l.fn.sig l.fn.bytes l.fn.tokens l.fn.statements l.fn.name l.fn.fault o

abbrev pub decreases-loop-rest : goal.decreases-loop-rest
decreases-loop-rest l = length l.rest
