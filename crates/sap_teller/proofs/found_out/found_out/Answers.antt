use Rattle.std.proofs.Common.{sym}
use Rattle.std.specs.Global.{Box}
use Rattle.sap_teller.specs.code.Heads.{form_of}
use Rattle.sap_teller.specs.declared.doing.Doing.{Doing}
use Rattle.sap_teller.proofs.Found.{if_ok, found_ends, found_splits, found_copies, found_made, found_sends, found_sends_on, found_takes, found_meets, found_agrees, found_differs, found_shows, found_inserts, found_deletes, found_finds, found_misses, found_locks, found_unlocks, found_embeds, found_names, found_writes, found_applies, found_knows}
use Rattle.sap_teller.proofs.found_out.found_out.Goals as goal

pub returns-in-Nil : goal.returns-in-Nil
returns-in-Nil c =
    rw c.in-Nil.is (if_ok c.boxed.result _ _ (λ (x : Box Doing). found_ends c.laws_below.ensures c.args.before.now c.args.config.now x.value c.in-Nil.t) c.boxed.ensures)

pub returns-in-Par : goal.returns-in-Par
returns-in-Par c =
    rw c.in-Par.is (if_ok c.boxed-in-Par.result _ _ (λ (x : Box Doing). found_splits c.laws_below.ensures c.args.before.now c.args.config.now x.value _) c.boxed-in-Par.ensures)

pub returns-in-Rep : goal.returns-in-Rep
returns-in-Rep c =
    rw c.in-Rep.is (if_ok c.boxed-in-Rep.result _ _ (λ (x : Box Doing). found_copies c.laws_below.ensures c.args.before.now c.args.config.now x.value _) c.boxed-in-Rep.ensures)

pub returns-in-New : goal.returns-in-New
returns-in-New c =
    rw c.in-New.is (if_ok c.made.result _ _ (λ (x : Box Doing). found_made c.laws_below.ensures c.args.before.now c.args.config.now x.value (form_of c.lent-head.result) (sym c.lent-head.ensures) _ c.in-New.n) c.made.ensures)

pub returns-in-Out : goal.returns-in-Out
returns-in-Out c =
    rw c.in-Out.is (if_ok c.sent.result _ _ (λ (x : Box Doing). found_sends c.laws_below.ensures c.args.before.now c.args.config.now x.value (form_of c.lent-head.result) (sym c.lent-head.ensures) _) c.sent.ensures)

pub returns-in-Send : goal.returns-in-Send
returns-in-Send c =
    rw c.in-Send.is (if_ok c.sent_on.result _ _ (λ (x : Box Doing). found_sends_on c.laws_below.ensures c.args.before.now c.args.config.now x.value (form_of c.lent-head.result) (sym c.lent-head.ensures) _ c.in-Send.k) c.sent_on.ensures)

pub returns-in-In : goal.returns-in-In
returns-in-In c =
    rw c.in-In.is (if_ok c.taken_at.result _ _ (λ (x : Box Doing). found_takes c.laws_below.ensures c.args.before.now c.args.config.now x.value (form_of c.lent-head.result) (sym c.lent-head.ensures) _ c.in-In.k) c.taken_at.ensures)

pub returns-in-Sync : goal.returns-in-Sync
returns-in-Sync c =
    rw c.in-Sync.is (if_ok c.met.result _ _ (λ (x : Box Doing). found_meets c.laws_below.ensures c.args.before.now c.args.config.now x.value (form_of c.lent-head.result) (sym c.lent-head.ensures) c.args.sig.now c.requires (form_of c.lent.result) (sym c.lent.ensures) _ _) c.met.ensures)

pub returns-in-Then : goal.returns-in-Then
returns-in-Then c =
    rw c.in-Then.is (if_ok c.compared.result _ _ (λ (x : Box Doing). found_agrees c.laws_below.ensures c.args.before.now c.args.config.now x.value (form_of c.lent-head.result) (sym c.lent-head.ensures) c.args.sig.now c.requires _) c.compared.ensures)

pub returns-in-Else : goal.returns-in-Else
returns-in-Else c =
    rw c.in-Else.is (if_ok c.compared-in-Else.result _ _ (λ (x : Box Doing). found_differs c.laws_below.ensures c.args.before.now c.args.config.now x.value (form_of c.lent-head.result) (sym c.lent-head.ensures) c.args.sig.now c.requires _) c.compared-in-Else.ensures)

pub returns-in-Event : goal.returns-in-Event
returns-in-Event c =
    rw c.in-Event.is (if_ok c.shown.result _ _ (λ (x : Box Doing). found_shows c.laws_below.ensures c.args.before.now c.args.config.now x.value (form_of c.lent-head.result) (sym c.lent-head.ensures) _) c.shown.ensures)

pub returns-in-Insert : goal.returns-in-Insert
returns-in-Insert c =
    rw c.in-Insert.is (if_ok c.inserted.result _ _ (λ (x : Box Doing). found_inserts c.laws_below.ensures c.args.before.now c.args.config.now x.value (form_of c.lent-head.result) (sym c.lent-head.ensures) c.args.sig.now c.requires _) c.inserted.ensures)

pub returns-in-Delete : goal.returns-in-Delete
returns-in-Delete c =
    rw c.in-Delete.is (if_ok c.deleted.result _ _ (λ (x : Box Doing). found_deletes c.laws_below.ensures c.args.before.now c.args.config.now x.value (form_of c.lent-head.result) (sym c.lent-head.ensures) c.args.sig.now c.requires _) c.deleted.ensures)

pub returns-in-Found : goal.returns-in-Found
returns-in-Found c =
    rw c.in-Found.is (if_ok c.looked.result _ _ (λ (x : Box Doing). found_finds c.laws_below.ensures c.args.before.now c.args.config.now x.value (form_of c.lent-head.result) (sym c.lent-head.ensures) c.args.sig.now c.requires c.as_ref.result c.as_ref.ensures.value _) c.looked.ensures)

pub returns-in-Missing : goal.returns-in-Missing
returns-in-Missing c =
    rw c.in-Missing.is (if_ok c.looked-in-Missing.result _ _ (λ (x : Box Doing). found_misses c.laws_below.ensures c.args.before.now c.args.config.now x.value (form_of c.lent-head.result) (sym c.lent-head.ensures) c.args.sig.now c.requires _) c.looked-in-Missing.ensures)

pub returns-in-Lock : goal.returns-in-Lock
returns-in-Lock c =
    rw c.in-Lock.is (if_ok c.locked.result _ _ (λ (x : Box Doing). found_locks c.laws_below.ensures c.args.before.now c.args.config.now x.value (form_of c.lent-head.result) (sym c.lent-head.ensures) c.args.sig.now c.requires _) c.locked.ensures)

pub returns-in-Unlock : goal.returns-in-Unlock
returns-in-Unlock c =
    rw c.in-Unlock.is (if_ok c.unlocked.result _ _ (λ (x : Box Doing). found_unlocks c.laws_below.ensures c.args.before.now c.args.config.now x.value (form_of c.lent-head.result) (sym c.lent-head.ensures) c.args.sig.now c.requires _) c.unlocked.ensures)

pub returns-in-Embedded : goal.returns-in-Embedded
returns-in-Embedded c =
    rw c.in-Embedded.is (if_ok c.used_at.result _ _ (λ (x : Box Doing). found_embeds c.laws_below.ensures c.args.before.now c.args.config.now x.value (form_of c.lent-head.result) (sym c.lent-head.ensures) _ _ _) c.used_at.ensures)

pub returns-in-Name : goal.returns-in-Name
returns-in-Name c =
    rw c.in-Name.is (if_ok c.boxed-in-Name.result _ _ (λ (x : Box Doing). found_names c.laws_below.ensures c.args.before.now c.args.config.now x.value c.in-Name.n) c.boxed-in-Name.ensures)

pub returns-in-Public : goal.returns-in-Public
returns-in-Public c =
    rw c.in-Public.is (if_ok c.written.result _ _ (λ (x : Box Doing). found_writes c.laws_below.ensures c.args.before.now c.args.config.now x.value _) c.written.ensures)

pub returns-in-Apply : goal.returns-in-Apply
returns-in-Apply c =
    rw c.in-Apply.is (if_ok c.applied.result _ _ (λ (x : Box Doing). found_applies c.laws_below.ensures c.args.before.now c.args.config.now x.value _ _) c.applied.ensures)

pub returns-in-Know : goal.returns-in-Know
returns-in-Know c =
    rw c.in-Know.is (if_ok c.given.result _ _ (λ (x : Box Doing). found_knows c.laws_below.ensures c.args.before.now c.args.config.now x.value c.in-Know.k) c.given.ensures)
