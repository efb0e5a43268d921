-- What is spelled doesn't depend on the signature, but for which identifiers are constants.
use Rattle.std.proofs.Common.{ℕ, Bool, List, []}
use Rattle.sap_terms.specs.declared.fact.Fact.{Fact}
use Rattle.sap_terms.specs.declared.var.Sort.TheVariants.{Msg, Fresh}
use Rattle.sap_terms.specs.Tree.{Tree}
use Rattle.sap_terms.specs.Signature.{Sig}
use Rattle.sap_grammar.specs.declared.limits.Limits.{Limits}
use Rattle.sap_grammar.specs.Words.{Word}
use Rattle.sap_grammar.specs.TermGrammar.{IsShort}
use Rattle.sap_grammar.specs.FactGrammar.{IsShortFact, AreFacts}
use Rattle.sap_process.specs.Action.{Action, new, out, send, input, receive, event, insert, delete, lock, unlock, embedded}
use Rattle.sap_macro.specs.Written.{Written, nil, call, parallel, replicated, act, test, lookup}
use Rattle.sap_draft.specs.ProcessGrammar.{var, IsAction, IsSeq, IsPar, Ending, action_acts, action_delete, action_event, action_input, action_insert, action_lock, action_new, action_new_fresh, action_out, action_receive, action_rule, action_send, action_unlock, par_more, par_one, seq_action, seq_call, seq_if, seq_if_else, seq_lookup, seq_lookup_else, seq_nil, seq_parentheses, seq_replicated, seq_then, seq_use}
use Rattle.sap_grammar.specs.TermLaws.{AreSpelled}
use Rattle.sap_draft.proofs.Arguments.{arguments_too}

module _ (laws : AreSpelled) (h : Sig) where
  short_too : {g : Sig} {m : Limits} {t : Tree} {a b : List Word} → IsShort g m t a b → (u : Tree) × IsShort h m u a b
  short_too {g = g} {m = m} {t = t} {a = a} {b = b} r = laws.term_too g h m t a b r

  short_fact_too : {g : Sig} {m : Limits} {s : Bool} {f : Fact} {a b : List Word} → IsShortFact g m s f a b → (u : Fact) × IsShortFact h m s u a b
  short_fact_too {g = g} {m = m} {s = s} {f = f} {a = a} {b = b} r = laws.fact_too g h m s f a b r

  facts_too : {g : Sig} {m : Limits} {s : Bool} {w : List ℕ} {fs : List Fact} {a b : List Word} → AreFacts g m s w fs a b → (us : List Fact) × AreFacts h m s w us a b
  facts_too {g = g} {m = m} {s = s} {w = w} {fs = fs} {a = a} {b = b} r = laws.facts_too g h m s w fs a b r

  action_too : {g : Sig} {m : Limits} {k : Action} {a b : List Word} → IsAction g m k a b → (j : Action) × IsAction h m j a b
  action_too (action_new {x = x}) = (new (var Msg x), action_new)
  action_too (action_new_fresh {x = x}) = (new (var Fresh x), action_new_fresh)
  action_too (action_out r) = let u = short_too r in (out u.0, action_out u.1)
  action_too (action_send r s) = let u = short_too r in let v = short_too s in (send u.0 v.0, action_send u.1 v.1)
  action_too (action_input r) = let u = short_too r in (input u.0, action_input u.1)
  action_too (action_receive r s) = let u = short_too r in let v = short_too s in (receive u.0 v.0, action_receive u.1 v.1)
  action_too (action_event r) = let f = short_fact_too r in (event f.0, action_event f.1)
  action_too (action_insert r s) = let u = short_too r in let v = short_too s in (insert u.0 v.0, action_insert u.1 v.1)
  action_too (action_delete r) = let u = short_too r in (delete u.0, action_delete u.1)
  action_too (action_lock r) = let u = short_too r in (lock u.0 0, action_lock u.1)
  action_too (action_unlock r) = let u = short_too r in (unlock u.0 0, action_unlock u.1)
  action_too (action_rule l r) = let u = facts_too l in let v = facts_too r in (embedded u.0 [] v.0, action_rule u.1 v.1)
  action_too (action_acts l e r) = let u = facts_too l in let v = facts_too e in let w = facts_too r in (embedded u.0 v.0 w.0, action_acts u.1 v.1 w.1)

  mutual
    seq_too : {g : Sig} {m : Limits} {n : ℕ} {e : Ending} {p : Written} {a b : List Word} → IsSeq g m e p n a b → (q : Written) × IsSeq h m e q n a b
    seq_too seq_nil = (nil, seq_nil)
    seq_too (seq_call {x = x}) = (call x [], seq_call)
    seq_too {m = m} (seq_use {x = x} r small) = let us = arguments_too laws h {m = m} r small in (call x us.0, seq_use us.1 us.2)
    seq_too (seq_parentheses r) = let q = par_too r in (q.0, seq_parentheses q.1)
    seq_too (seq_replicated r) = let q = seq_too r in (replicated q.0, seq_replicated q.1)
    seq_too (seq_action r) = let j = action_too r in (act j.0 nil, seq_action j.1)
    seq_too (seq_then r s) = let j = action_too r in let q = seq_too s in (act j.0 q.0, seq_then j.1 q.1)
    seq_too (seq_if t u r) = let v = short_too t in let w = short_too u in let q = seq_too r in (test v.0 w.0 q.0 nil, seq_if v.1 w.1 q.1)
    seq_too (seq_if_else t u r s) =
        let v = short_too t in
        let w = short_too u in
        let q = seq_too r in
        let k = seq_too s in
        (test v.0 w.0 q.0 k.0, seq_if_else v.1 w.1 q.1 k.1)
    seq_too (seq_lookup {x = x} t r) = let v = short_too t in let q = seq_too r in (lookup v.0 (var Msg x) q.0 nil, seq_lookup v.1 q.1)
    seq_too (seq_lookup_else {x = x} t r s) = let v = short_too t in let q = seq_too r in let k = seq_too s in (lookup v.0 (var Msg x) q.0 k.0, seq_lookup_else v.1 q.1 k.1)

    pub par_too : {g : Sig} {m : Limits} {n : ℕ} {p : Written} {a b : List Word} → IsPar g m p n a b → (q : Written) × IsPar h m q n a b
    par_too (par_one r) = let q = seq_too r in (q.0, par_one q.1)
    par_too (par_more bar r s) = let q = seq_too r in let k = par_too s in (parallel q.0 k.0, par_more bar q.1 k.1)
