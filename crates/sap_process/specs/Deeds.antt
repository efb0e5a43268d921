-- What is done with one term or two before a process goes on.
use Rattle.sap_terms.specs.Tree.{Tree}
use Rattle.sap_process.specs.Action.{Action, out, send, input, receive, insert, delete, lock, unlock}
use Rattle.sap_process.specs.declared.replacing.Deed.{Deed}
use Rattle.sap_process.specs.declared.replacing.Deed.TheVariants.{Out, In, Delete, Lock, Unlock}
use Rattle.sap_process.specs.declared.replacing.Transfer.{Transfer}
use Rattle.sap_process.specs.declared.replacing.Transfer.TheVariants.{Send, Recv, Insert}

abbrev pub on_term : Deed → Tree → Action
on_term Out t = out t
on_term In t = input t
on_term Delete t = delete t
on_term (Lock n) t = lock t n
on_term (Unlock n) t = unlock t n

abbrev pub on_terms : Transfer → Tree → Tree → Action
on_terms Send t u = send t u
on_terms Recv t u = receive t u
on_terms Insert t u = insert t u
