use Rattle.std.proofs.Common.{sym, subst}
use Rattle.sap_read.specs.declared.fault.ReadFault.{ReadFault}
use Rattle.sap_where.specs.OtherPlaces.{IsOtherWhere, first_name, first_process, its_definition}
use Rattle.sap_where.proofs.OtherNowhere.{no_definition, no_name, no_other, no_process}
use Rattle.sap_where.proofs.other.other_item.Goals as goal

pub returns-in-Some-clause-place : goal.returns-in-Some-clause-place
returns-in-Some-clause-place c =
    subst (λ (e : ReadFault). IsOtherWhere c.args.bytes.now e c.stretch_at.result) (sym c.in-TwoProcesses.is)
    (first_process c.requires.tokens.are c.in-Some.ensures.1 c.in-Some.ensures.2 c.stretch_at.ensures.is)

pub returns-in-None-clause-none : goal.returns-in-None-clause-none
returns-in-None-clause-none c = λ e s.
    subst (λ (f : ReadFault). IsOtherWhere c.args.bytes.now f s → ⊥) (sym c.in-TwoProcesses.is)
    (no_process c.args.bytes.now c.args.tokens.now c.requires.tokens.only c.in-None.ensures _ s)

pub returns-in-Some-taken_first-clause-place : goal.returns-in-Some-taken_first-clause-place
returns-in-Some-taken_first-clause-place c =
    let t = rw c.as_bytes.ensures at c.in-Some-taken_first.ensures in
    subst (λ (e : ReadFault). IsOtherWhere c.args.bytes.now e c.stretch_at-in-Some-taken_first.result) (sym c.in-DuplicateName.is)
    (first_name c.requires.tokens.are t c.stretch_at-in-Some-taken_first.ensures.is)

pub returns-in-None-taken_first-clause-none : goal.returns-in-None-taken_first-clause-none
returns-in-None-taken_first-clause-none c = λ e s.
    let t = rw c.as_bytes.ensures at c.in-None-taken_first.ensures in
    subst (λ (f : ReadFault). IsOtherWhere c.args.bytes.now f s → ⊥) (sym c.in-DuplicateName.is)
    (no_name c.args.bytes.now c.args.tokens.now _ c.requires.tokens.only t s)

pub returns-in-Some-first-clause-place : goal.returns-in-Some-first-clause-place
returns-in-Some-first-clause-place c =
    let t = rw c.as_bytes-in-Arguments.ensures at c.in-Some-first.ensures in
    subst (λ (e : ReadFault). IsOtherWhere c.args.bytes.now e c.stretch_at-in-Some-first.result) (sym c.in-Arguments.is)
    (its_definition c.requires.tokens.are t c.stretch_at-in-Some-first.ensures.is)

pub returns-in-None-first-clause-none : goal.returns-in-None-first-clause-none
returns-in-None-first-clause-none c = λ e s.
    let t = rw c.as_bytes-in-Arguments.ensures at c.in-None-first.ensures in
    subst (λ (f : ReadFault). IsOtherWhere c.args.bytes.now f s → ⊥) (sym c.in-Arguments.is)
    (no_definition c.args.bytes.now c.args.tokens.now _ c.requires.tokens.only t s)

pub returns-in_default-clause-none : goal.returns-in_default-clause-none
returns-in_default-clause-none c = λ n s. no_other c.args.bytes.now c.args.fault.now c.in_default.not-TwoProcesses c.in_default.not-DuplicateName c.requires.no_parameter c.requires.no_clash
    c.in_default.not-Arguments s
