-- Whatever words of tokens spell can be printed, where it is over the signature.
use Rattle.std.proofs.Common.{◌≡◌, ℕ, Bool, true, false, List, [], refl}
use Rattle.std.specs.Prelude.{All}
use Rattle.std.proofs.lemmas.List.Elements.{All-nil, All-cons}
use Rattle.sap_terms.specs.declared.fact.Fact.{Fact}
use Rattle.sap_terms.specs.Signature.{Sig}
use Rattle.sap_terms.specs.Tree.{Tree}
use Rattle.sap_grammar.specs.Words.{Word}
use Rattle.sap_grammar.specs.declared.limits.Limits.{Limits}
use Rattle.sap_grammar.specs.TermGrammar.{IsTerm, IsShort, IsList, list_last, list_more}
use Rattle.sap_grammar.specs.FactGrammar.{IsShortFact, AreSomeFacts, AreFacts, facts_last, facts_more, facts_none, facts_some}
use Rattle.sap_grammar.specs.ByteWords.{AreTokenWords}
use Rattle.sap_grammar.specs.Printed.{ArePrinted}
use Rattle.sap_process.specs.Action.{Action}
use Rattle.sap_macro.specs.Written.{Written}
use Rattle.sap_draft.specs.ProcessGrammar.{IsAction, action_new, action_new_fresh, action_out, action_send, action_input, action_receive, action_event, action_insert, action_delete, action_lock, action_unlock, action_rule, action_acts, Ending, IsSeq, seq_nil, seq_call, seq_use, seq_parentheses, seq_replicated, seq_action, seq_then, seq_if, seq_if_else, seq_lookup, seq_lookup_else, IsPar, par_one, par_more}
use Rattle.sap_draft.specs.Printable.{IsSpelledTerm, IsSpelledFact, IsSpelledAct, IsSpelledAction, IsSpelledWritten}

module _ (printed : ArePrinted) (most : ℕ) (g : Sig) (m : Limits) where
  -- what is spelled by words of tokens, which stand behind it too
  spelled_printable : {t : Tree} {a b : List Word} → IsTerm g t a b → AreTokenWords most a → IsSpelledTerm most g t × AreTokenWords most b
  spelled_printable {t = t} {a = a} {b = b} s h =
      let n = printed.term_names most g t a b s h in (λ o. record { tidy = printed.term_tidy g t a b s o; names = n.0 }, n.1)

  term_printable : {t : Tree} {a b : List Word} → IsShort g m t a b → AreTokenWords most a → IsSpelledTerm most g t × AreTokenWords most b
  term_printable s h = spelled_printable s.spelled h

  -- each of the terms in parentheses
  list_printable : {ts : List Tree} {a b : List Word} → IsList g ts a b → AreTokenWords most a → All (IsSpelledTerm most g) ts × AreTokenWords most b
  list_printable (list_last {t = t} r) h =
      let n = spelled_printable r h in (All-cons (IsSpelledTerm most g) t [] n.0 (All-nil (IsSpelledTerm most g)), n.1.1)
  list_printable (list_more {t = t} {ts = ts} r s) h =
      let n = spelled_printable r h in let k = list_printable s n.1.1 in (All-cons (IsSpelledTerm most g) t ts n.0 k.0, k.1)

  fact_printable : {allowed : Bool} {f : Fact} {a b : List Word} → IsShortFact g m allowed f a b → AreTokenWords most a → IsSpelledFact most g f × AreTokenWords most b
  fact_printable {f = f} {a = a} {b = b} s h =
      let n = printed.fact_names most g f a b s.spelled h in (λ o. record { tidy = printed.fact_tidy g f a b s.spelled o; names = n.0 }, n.1)

  -- a fact that may not be persistent
  act_printable : {f : Fact} {a b : List Word} → IsShortFact g m false f a b → AreTokenWords most a → IsSpelledAct most g f × AreTokenWords most b
  act_printable {f = f} s h = let n = fact_printable s h in (λ o. record { printable = n.0 o; linear = by f.persistent refl }, n.1)
    where
      by : (c : Bool) → f.persistent ≡ c → f.persistent ≡ false
      by true e = absurd (let no : false ≡ true = s.sign e in cc (no))
      by false e = e

  -- lists of facts, each of which is so
  module _ (allowed : Bool) (closing : List ℕ) (P : Fact → Type 0)
      (one : (f : Fact) (a b : List Word) → IsShortFact g m allowed f a b → AreTokenWords most a → P f × AreTokenWords most b) where
    some_facts : {fs : List Fact} {a b : List Word} → AreSomeFacts g m allowed closing fs a b → AreTokenWords most a → All P fs × AreTokenWords most b
    some_facts (facts_last {f = f} r) h = let n = one _ _ _ r h in (All-cons P f [] n.0 (All-nil P), n.1.1)
    some_facts (facts_more {f = f} {fs = fs} r s) h =
        let n = one _ _ _ r h in let k = some_facts s n.1.1 in (All-cons P f fs n.0 k.0, k.1)

    facts : {fs : List Fact} {a b : List Word} → AreFacts g m allowed closing fs a b → AreTokenWords most a → All P fs × AreTokenWords most b
    facts facts_none h = (All-nil P, h.1)
    facts (facts_some r) h = some_facts r h

  facts_printable : {closing : List ℕ} {fs : List Fact} {a b : List Word} → AreFacts g m true closing fs a b → AreTokenWords most a
      → All (IsSpelledFact most g) fs × AreTokenWords most b
  facts_printable {closing = closing} r h = facts true closing (IsSpelledFact most g) (λ f a b s k. fact_printable s k) r h

  acts_printable : {closing : List ℕ} {fs : List Fact} {a b : List Word} → AreFacts g m false closing fs a b → AreTokenWords most a
      → All (IsSpelledAct most g) fs × AreTokenWords most b
  acts_printable {closing = closing} r h = facts false closing (IsSpelledAct most g) (λ f a b s k. act_printable s k) r h

  action_printable : {x : Action} {a b : List Word} → IsAction g m x a b → AreTokenWords most a → IsSpelledAction most g x × AreTokenWords most b
  action_printable action_new h = (h.1.0, h.1.1)
  action_printable action_new_fresh h = (h.1.1.0, h.1.1.1)
  action_printable (action_out r) h = let t = term_printable r h.1.1 in (t.0, t.1.1)
  action_printable (action_send r s) h = let t = term_printable r h.1.1 in let u = term_printable s t.1.1 in ((t.0, u.0), u.1.1)
  action_printable (action_input r) h = let t = term_printable r h.1.1 in (t.0, t.1.1)
  action_printable (action_receive r s) h = let t = term_printable r h.1.1 in let u = term_printable s t.1.1 in ((t.0, u.0), u.1.1)
  action_printable (action_event r) h = act_printable r h.1
  action_printable (action_insert r s) h = let t = term_printable r h.1 in let u = term_printable s t.1.1 in ((t.0, u.0), u.1)
  action_printable (action_delete r) h = term_printable r h.1
  action_printable (action_lock r) h = term_printable r h.1
  action_printable (action_unlock r) h = term_printable r h.1
  action_printable (action_rule r s) h =
      let l = facts_printable r h.1 in let k = facts_printable s l.1.1.1 in ((l.0, All-nil (IsSpelledAct most g), k.0), k.1)
  action_printable (action_acts r s t) h =
      let l = facts_printable r h.1 in
      let e = acts_printable s l.1.1 in
      let k = facts_printable t e.1.1 in
      ((l.0, e.0, k.0), k.1)

  mutual
    seq_printable : {e : Ending} {p : Written} {n : ℕ} {a b : List Word} → IsSeq g m e p n a b → AreTokenWords most a → IsSpelledWritten most g p × AreTokenWords most b
    seq_printable seq_nil h = (tt, h.1)
    seq_printable seq_call h = ((h.0, All-nil (IsSpelledTerm most g)), h.1)
    seq_printable (seq_use r small) h = let ts = list_printable r h.1.1 in ((h.0, ts.0), ts.1)
    seq_printable (seq_parentheses r) h = let p = par_printable r h.1 in (p.0, p.1.1)
    seq_printable (seq_replicated r) h = seq_printable r h.1
    seq_printable (seq_action r) h = let x = action_printable r h in ((x.0, tt), x.1)
    seq_printable (seq_then r s) h = let x = action_printable r h in let p = seq_printable s x.1.1 in ((x.0, p.0), p.1)
    seq_printable (seq_if r s w) h =
        let t = term_printable r h.1 in
        let u = term_printable s t.1.1 in
        let p = seq_printable w u.1.1 in
        ((t.0, u.0, p.0, tt), p.1)
    seq_printable (seq_if_else r s w v) h =
        let t = term_printable r h.1 in
        let u = term_printable s t.1.1 in
        let p = seq_printable w u.1.1 in
        let q = seq_printable v p.1.1 in
        ((t.0, u.0, p.0, q.0), q.1)
    seq_printable (seq_lookup r w) h =
        let t = term_printable r h.1 in
        let p = seq_printable w t.1.1.1.1 in
        ((t.0, t.1.1.0, p.0, tt), p.1)
    seq_printable (seq_lookup_else r w v) h =
        let t = term_printable r h.1 in
        let p = seq_printable w t.1.1.1.1 in
        let q = seq_printable v p.1.1 in
        ((t.0, t.1.1.0, p.0, q.0), q.1)

    pub par_printable : {p : Written} {n : ℕ} {a b : List Word} → IsPar g m p n a b → AreTokenWords most a → IsSpelledWritten most g p × AreTokenWords most b
    par_printable (par_one r) h = seq_printable r h
    par_printable (par_more w r s) h = let p = seq_printable r h in let q = par_printable s p.1.1 in ((p.0, q.0), q.1)
