use Rattle.std.proofs.Common.{sym, ◌∙◌}
use Rattle.std.proofs.lemmas.Bool.{false≢true}
use Rattle.sap_explain.proofs.Nowhere.{lock_nowhere, lock_place, lock_stands, read_nowhere, read_place, read_stands, words_stand}
use Rattle.sap_explain.proofs.ReachedFiles.{reached_lock, tokens_reached}
use Rattle.sap_explain.proofs.ReadPlaces.{no_path}
use Rattle.sap_explain.proofs.told.place_of.Goals as goal

pub lock_told-requires : goal.lock_told-requires
lock_told-requires c = reached_lock c.args.bytes.now c.args.tokens.now c.args.fault.now c.in-Lock.lock c.args.reached c.in-Lock.is c.requires.reached

pub returns-in-Lock-clause-place : goal.returns-in-Lock-clause-place
returns-in-Lock-clause-place c = lock_place c.args.bytes.now c.args.fault.now c.in-Lock.lock c.in-Lock.is c.lock_told.result c.lock_told.ensures.place

pub returns-in-Lock-clause-none : goal.returns-in-Lock-clause-none
returns-in-Lock-clause-none c = lock_nowhere c.args.bytes.now c.args.fault.now c.in-Lock.lock c.in-Lock.is c.lock_told.result c.lock_told.ensures.none

pub returns-in-Lock-clause-told : goal.returns-in-Lock-clause-told
returns-in-Lock-clause-told c = λ h.
    lock_stands c.args.bytes.now c.args.fault.now c.in-Lock.lock c.in-Lock.is c.lock_told.result
    (lock_nowhere c.args.bytes.now c.args.fault.now c.in-Lock.lock c.in-Lock.is c.lock_told.result c.lock_told.ensures.none)
    (λ path. c.path_places.ensures.refused c.args.bytes.now c.args.fault.now path) h c.requires.refused

pub returns-then-is_read_cause-clause-place : goal.returns-then-is_read_cause-clause-place
returns-then-is_read_cause-clause-place c =
    read_place c.args.bytes.now c.args.fault.now (c.is_read_cause.ensures.0 c.if-is_read_cause.true) c.read_told.result c.read_told.ensures.place

pub returns-then-is_read_cause-clause-none : goal.returns-then-is_read_cause-clause-none
returns-then-is_read_cause-clause-none c =
    read_nowhere c.args.bytes.now c.args.fault.now (c.is_read_cause.ensures.0 c.if-is_read_cause.true) c.read_told.result c.read_told.ensures.none

pub returns-then-is_read_cause-clause-told : goal.returns-then-is_read_cause-clause-told
returns-then-is_read_cause-clause-told c = λ h.
    read_stands c.args.bytes.now c.args.fault.now (c.is_read_cause.ensures.0 c.if-is_read_cause.true) c.read_told.result c.read_told.ensures.none
    (c.read_places.ensures.some c.args.bytes.now c.args.fault.now) c.requires.refused

pub told_by_words-requires-clause-tokens : goal.told_by_words-requires-clause-tokens
told_by_words-requires-clause-tokens c = tokens_reached c.args.bytes.now c.args.tokens.now c.args.fault.now c.args.reached c.requires.reached

pub told_by_words-requires-clause-no_path : goal.told_by_words-requires-clause-no_path
told_by_words-requires-clause-no_path c = no_path c.args.fault.now c.in_default.not-Lock

pub told_by_words-requires-clause-unread : goal.told_by_words-requires-clause-unread
told_by_words-requires-clause-unread c = λ h. false≢true (sym c.if-is_read_cause.false ∙ c.is_read_cause.ensures.1 h)

pub returns-else-is_read_cause-clause-told : goal.returns-else-is_read_cause-clause-told
returns-else-is_read_cause-clause-told c = λ h.
    c.told_by_words.ensures.told
    (words_stand c.args.fault.now c.in_default.not-Lock (λ is. false≢true (sym c.if-is_read_cause.false ∙ c.is_read_cause.ensures.1 is)) h) c.requires.refused
