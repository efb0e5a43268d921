use Rattle.sap_share.specs.Env.{given}
use Rattle.sap_calc.proofs.Replaced.{nil_under, par_under, rep_under, out_under, send_under, in_under, recv_under, if_under, insert_under, delete_under, lookup_under, lock_under, unlock_under}
use Rattle.sap_calc.proofs.under.form_under.Goals as goal

pub returns-in-Nil : goal.returns-in-Nil
returns-in-Nil c = rw c.in-Nil.is (nil_under (given c.args.table.now.trees c.args.env.now))

pub returns-in-Par : goal.returns-in-Par
returns-in-Par c = rw c.in-Par.is (par_under (given c.args.table.now.trees c.args.env.now))

pub returns-in-Rep : goal.returns-in-Rep
returns-in-Rep c = rw c.in-Rep.is (rep_under (given c.args.table.now.trees c.args.env.now))

pub returns-in_ok-term_under-in-Out : goal.returns-in_ok-term_under-in-Out
returns-in_ok-term_under-in-Out c = rw c.in-Out.is (out_under (given c.args.table.now.trees c.args.env.now) c.in-Out.t c.in_ok-term_under-in-Out.field-0 c.in_ok-term_under-in-Out.ensures)

pub returns-in_ok-term_under-in-In : goal.returns-in_ok-term_under-in-In
returns-in_ok-term_under-in-In c = rw c.in-In.is (in_under (given c.args.table.now.trees c.args.env.now) c.in-In.t c.in_ok-term_under-in-In.field-0 c.in_ok-term_under-in-In.ensures)

pub returns-in_ok-term_under-in-Delete : goal.returns-in_ok-term_under-in-Delete
returns-in_ok-term_under-in-Delete c = rw c.in-Delete.is (delete_under (given c.args.table.now.trees c.args.env.now) c.in-Delete.t c.in_ok-term_under-in-Delete.field-0 c.in_ok-term_under-in-Delete.ensures)

pub returns-in_ok-t-in-Send : goal.returns-in_ok-t-in-Send
returns-in_ok-t-in-Send c = rw c.in-Send.is (send_under (given c.args.table.now.trees c.args.env.now) c.in-Send.t c.in_ok-t-in-Send.t c.in_ok-t-in-Send.ensures.0 c.in-Send.u c.in_ok-t-in-Send.u c.in_ok-t-in-Send.ensures.1)

pub returns-in_ok-t-in-Recv : goal.returns-in_ok-t-in-Recv
returns-in_ok-t-in-Recv c = rw c.in-Recv.is (recv_under (given c.args.table.now.trees c.args.env.now) c.in-Recv.t c.in_ok-t-in-Recv.t c.in_ok-t-in-Recv.ensures.0 c.in-Recv.u c.in_ok-t-in-Recv.u c.in_ok-t-in-Recv.ensures.1)

pub returns-in_ok-t-in-If : goal.returns-in_ok-t-in-If
returns-in_ok-t-in-If c = rw c.in-If.is (if_under (given c.args.table.now.trees c.args.env.now) c.in-If.t c.in_ok-t-in-If.t c.in_ok-t-in-If.ensures.0 c.in-If.u c.in_ok-t-in-If.u c.in_ok-t-in-If.ensures.1)

pub returns-in_ok-t-in-Insert : goal.returns-in_ok-t-in-Insert
returns-in_ok-t-in-Insert c = rw c.in-Insert.is (insert_under (given c.args.table.now.trees c.args.env.now) c.in-Insert.t c.in_ok-t-in-Insert.t c.in_ok-t-in-Insert.ensures.0 c.in-Insert.u c.in_ok-t-in-Insert.u c.in_ok-t-in-Insert.ensures.1)

pub returns-in_ok-t-in-Lookup : goal.returns-in_ok-t-in-Lookup
returns-in_ok-t-in-Lookup c = rw c.in-Lookup.is (lookup_under (given c.args.table.now.trees c.args.env.now) c.in-Lookup.t c.in_ok-t-in-Lookup.t c.in_ok-t-in-Lookup.ensures.0 c.in-Lookup.x c.in_ok-t-in-Lookup.x c.in_ok-t-in-Lookup.ensures.1)

pub returns-in_ok-term_under-in-Lock : goal.returns-in_ok-term_under-in-Lock
returns-in_ok-term_under-in-Lock c = rw c.in-Lock.is (lock_under (given c.args.table.now.trees c.args.env.now) c.in-Lock.t c.in_ok-term_under-in-Lock.field-0 c.in_ok-term_under-in-Lock.ensures c.in-Lock.n)

pub returns-in_ok-term_under-in-Unlock : goal.returns-in_ok-term_under-in-Unlock
returns-in_ok-term_under-in-Unlock c = rw c.in-Unlock.is (unlock_under (given c.args.table.now.trees c.args.env.now) c.in-Unlock.t c.in_ok-term_under-in-Unlock.field-0 c.in_ok-term_under-in-Unlock.ensures c.in-Unlock.n)
