use Rattle.std.proofs.Common.{sym, subst}
use Rattle.sap_read.specs.declared.fault.ReadFault.{ReadFault}
use Rattle.sap_where.specs.Where.{IsWhere, at_header, at_process, at_name}
use Rattle.sap_where.proofs.Nowhere.{header_nowhere, name_nowhere, other_nowhere, process_nowhere}
use Rattle.sap_where.proofs.walk.place_among.Goals as goal

pub returns-in-Some-clause-place : goal.returns-in-Some-clause-place
returns-in-Some-clause-place c =
    subst (λ (e : ReadFault). IsWhere c.args.bytes.now e c.stretch_at.result) (sym c.in-Header.is)
    (at_header c.requires.tokens.are c.in-Some.ensures c.stretch_at.ensures.is)

pub returns-in-Some-second-clause-place : goal.returns-in-Some-second-clause-place
returns-in-Some-second-clause-place c =
    subst (λ (e : ReadFault). IsWhere c.args.bytes.now e c.stretch_at-in-Some-second.result) (sym c.in-TwoProcesses.is)
    (at_process c.requires.tokens.are c.in-Some-second.ensures c.stretch_at-in-Some-second.ensures.is)

pub returns-in-Some-taken-clause-place : goal.returns-in-Some-taken-clause-place
returns-in-Some-taken-clause-place c =
    let t = rw c.as_bytes.ensures at c.in-Some-taken.ensures in
    subst (λ (e : ReadFault). IsWhere c.args.bytes.now e c.stretch_at-in-Some-taken.result) (sym c.in-DuplicateName.is)
    (at_name c.requires.tokens.are t c.stretch_at-in-Some-taken.ensures.is)

pub returns-in-None-clause-none : goal.returns-in-None-clause-none
returns-in-None-clause-none c = λ e s.
    subst (λ (f : ReadFault). IsWhere c.args.bytes.now f s → ⊥) (sym c.in-Header.is)
    (header_nowhere c.args.bytes.now c.args.tokens.now c.requires.tokens.only c.in-None.ensures s)

pub returns-in-None-second-clause-none : goal.returns-in-None-second-clause-none
returns-in-None-second-clause-none c = λ e s.
    subst (λ (f : ReadFault). IsWhere c.args.bytes.now f s → ⊥) (sym c.in-TwoProcesses.is)
    (process_nowhere c.args.bytes.now c.args.tokens.now c.requires.tokens.only c.in-None-second.ensures _ s)

pub returns-in-None-taken-clause-none : goal.returns-in-None-taken-clause-none
returns-in-None-taken-clause-none c = λ e s.
    let t = rw c.as_bytes.ensures at c.in-None-taken.ensures in
    subst (λ (f : ReadFault). IsWhere c.args.bytes.now f s → ⊥) (sym c.in-DuplicateName.is)
    (name_nowhere c.args.bytes.now c.args.tokens.now _ c.requires.tokens.only t s)

pub returns-in_default : goal.returns-in_default
returns-in_default c = record {
  place = tt;
  inside = tt;
  header = λ h n. absurd (c.in_default.not-Header h);
  none = λ n s. other_nowhere c.args.bytes.now c.args.fault.now c.requires.no_byte c.requires.no_item c.requires.no_clash c.in_default.not-Header
      c.in_default.not-TwoProcesses c.requires.no_parameter c.in_default.not-DuplicateName s;
}
