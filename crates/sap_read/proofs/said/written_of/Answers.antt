use Rattle.std.proofs.Common.{map, refl}
use Rattle.sap_read.specs.Entries.{body}
use Rattle.sap_read.specs.declared.written.WrittenFile.{WrittenFile}
use Rattle.sap_read.proofs.SaidFiles.{is_written, one_of_none}
use Rattle.sap_read.proofs.said.written_of.Goals as goal

pub file_processes-requires : goal.file_processes-requires
file_processes-requires c = one_of_none (map body c.args.file.entries) c.args.file.statements c.args.file.declared.clash c.requires

pub returns : goal.returns
returns c = λ z is.
    let f = c.args.file in
    let w : WrittenFile = record { name = f.name; declared = f.declared; identifiers = f.identifiers; processes = c.in_ok-processes.processes; statements = f.statements } in
    is_written z f w is c.requires refl refl refl refl (c.in_ok-processes.ensures.parts f.statements f.declared.clash c.requires) c.in_ok-processes.ensures.places
