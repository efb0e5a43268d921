-- Where the words of actions and processes end, and the last of some words.
use Rattle.std.proofs.Common.{◌≡◌, ◌≤◌, ◌-◌, ◌+◌, ℕ, Bool, List, length, drop, refl, ap, ◌∙◌, arith}
use Rattle.std.proofs.lemmas.List.{drop-drop, length-drop}
use Rattle.sap_terms.specs.declared.fact.Fact.{Fact}
use Rattle.sap_terms.specs.Signature.{Sig}
use Rattle.sap_terms.specs.Tree.{Tree}
use Rattle.sap_grammar.specs.Words.{Word}
use Rattle.sap_grammar.specs.declared.limits.Limits.{Limits}
use Rattle.sap_grammar.specs.TermGrammar.{IsList, list_last, list_more}
use Rattle.sap_grammar.specs.FactGrammar.{AreSomeFacts, AreFacts, facts_last, facts_more, facts_none, facts_some}
use Rattle.sap_grammar.proofs.ReadingLaws.Ends.{IsEnd, one_more, mark_end, end_end, then_end, term_end, fact_end}
use Rattle.sap_node_words.specs.NodeWords.{last_words}
use Rattle.sap_process.specs.Action.{Action}
use Rattle.sap_macro.specs.Written.{Written}
use Rattle.sap_draft.specs.ProcessGrammar.{Ending, IsAction, IsSeq, IsPar, action_new, action_new_fresh, action_out, action_send, action_input, action_receive, action_event, action_insert, action_delete, action_lock, action_unlock, action_rule, action_acts, seq_nil, seq_call, seq_use, seq_parentheses, seq_replicated, seq_action, seq_then, seq_if, seq_if_else, seq_lookup, seq_lookup_else, par_one, par_more}

list_end : {g : Sig} {ts : List Tree} {a b : List Word} → IsList g ts a b → IsEnd a b
list_end (list_last r) = mark_end (term_end r)
list_end (list_more r s) = then_end (term_end r) (list_end s)

some_end : {g : Sig} {m : Limits} {s : Bool} {w : List ℕ} {fs : List Fact} {a b : List Word} → AreSomeFacts g m s w fs a b → IsEnd a b
some_end (facts_last r) = mark_end (fact_end r.spelled)
some_end (facts_more r s) = then_end (fact_end r.spelled) (some_end s)

pub facts_end : {g : Sig} {m : Limits} {s : Bool} {w : List ℕ} {fs : List Fact} {a b : List Word} → AreFacts g m s w fs a b → IsEnd a b
facts_end facts_none = (1, omega arith, omega arith, refl)
facts_end (facts_some r) = some_end r

pub action_end : {g : Sig} {m : Limits} {x : Action} {a b : List Word} → IsAction g m x a b → IsEnd a b
action_end action_new = (2, omega arith, omega arith, refl)
action_end action_new_fresh = (3, omega arith, omega arith, refl)
action_end (action_out r) = one_more (one_more (mark_end (term_end r.spelled)))
action_end (action_send r s) = one_more (one_more (then_end (term_end r.spelled) (mark_end (term_end s.spelled))))
action_end (action_input r) = one_more (one_more (mark_end (term_end r.spelled)))
action_end (action_receive r s) = one_more (one_more (then_end (term_end r.spelled) (mark_end (term_end s.spelled))))
action_end (action_event r) = one_more (fact_end r.spelled)
action_end (action_insert r s) = one_more (then_end (term_end r.spelled) (term_end s.spelled))
action_end (action_delete r) = one_more (term_end r.spelled)
action_end (action_lock r) = one_more (term_end r.spelled)
action_end (action_unlock r) = one_more (term_end r.spelled)
action_end (action_rule r s) = one_more (end_end (mark_end (mark_end (facts_end r))) (facts_end s))
action_end (action_acts r s o) = one_more (then_end (facts_end r) (then_end (facts_end s) (facts_end o)))

mutual
  pub seq_end : {g : Sig} {m : Limits} {e : Ending} {p : Written} {n : ℕ} {a b : List Word} → IsSeq g m e p n a b → IsEnd a b
  seq_end seq_nil = (1, omega arith, omega arith, refl)
  seq_end seq_call = (1, omega arith, omega arith, refl)
  seq_end (seq_use r small) = one_more (one_more (list_end r))
  seq_end (seq_parentheses r) = one_more (mark_end (par_end r))
  seq_end (seq_replicated r) = one_more (seq_end r)
  seq_end (seq_action r) = action_end r
  seq_end (seq_then r s) = then_end (action_end r) (seq_end s)
  seq_end (seq_if l r s) = one_more (then_end (term_end l.spelled) (then_end (term_end r.spelled) (seq_end s)))
  seq_end (seq_if_else l r s o) = one_more (then_end (term_end l.spelled) (then_end (term_end r.spelled) (then_end (seq_end s) (seq_end o))))
  seq_end (seq_lookup r s) = one_more (end_end (mark_end (mark_end (mark_end (term_end r.spelled)))) (seq_end s))
  seq_end (seq_lookup_else r s o) = one_more (end_end (mark_end (mark_end (mark_end (term_end r.spelled)))) (then_end (seq_end s) (seq_end o)))

  pub par_end : {g : Sig} {m : Limits} {p : Written} {n : ℕ} {a b : List Word} → IsPar g m p n a b → IsEnd a b
  par_end (par_one r) = seq_end r
  par_end (par_more bar r s) = then_end (seq_end r) (par_end s)

-- all words
pub all_words : (a : List Word) → last_words (length a) a ≡ a
all_words a = let e : length a - length a ≡ 0 = omega arith in rw e refl

pub no_longer : {a b : List Word} → IsEnd a b → length b ≤ length a
no_longer {a} {b} ends =
    let long : length b ≡ length a - ends.0 = ap (λ (y : List Word). length y) ends.3 ∙ length-drop ends.0 a in
    omega (arith, long)

-- the last words of an end
pub last_of_end : (a b : List Word) (k : ℕ) → IsEnd a b → k ≤ length b → last_words k b ≡ last_words k a
last_of_end a b k ends few =
    let long : length b ≡ length a - ends.0 = ap (λ (y : List Word). length y) ends.3 ∙ length-drop ends.0 a in
    let same : drop (length b - k) b ≡ drop (ends.0 + (length b - k)) a = ap (λ (y : List Word). drop (length b - k) y) ends.3 ∙ drop-drop (length b - k) ends.0 a in
    let at : ends.0 + (length b - k) ≡ length a - k = omega (arith, long, ends.2, few) in
    same ∙ ap (λ n. drop n a) at
