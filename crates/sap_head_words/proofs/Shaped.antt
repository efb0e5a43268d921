-- Words that begin with a head are what its kind wants.
use Rattle.std.proofs.Common.{◌≡◌, ℕ, List, [], ◌∷◌, ◌++◌, drop, refl}
use Rattle.std.specs.Prelude.{codes}
use Rattle.sap_terms.specs.declared.var.Var.{Var}
use Rattle.sap_terms.specs.Signature.{Sig}
use Rattle.sap_terms.specs.Tree.{Tree}
use Rattle.sap_grammar.specs.Words.{Word, mark, name}
use Rattle.sap_grammar.specs.declared.limits.Limits.{Limits}
use Rattle.sap_grammar.specs.TermGrammar.{args_some, list_last, list_more}
use Rattle.sap_node_words.specs.FactWords.{facts_words}
use Rattle.sap_process.specs.Action.{Action}
use Rattle.sap_macro.specs.Located.{Located, nil_at, call_at, parallel_at, replicated_at, act_at, test_at, lookup_at}
use Rattle.sap_draft.specs.ProcessGrammar.{IsAction, action_new, action_new_fresh, action_out, action_send, action_input, action_receive, action_event, action_insert, action_delete, action_lock, action_unlock, action_rule, action_acts}
use Rattle.sap_head_words.specs.HeadWords.{HeadWords, action_words, words_nil, words_call, words_use, words_parallel, words_replicated, words_act, words_test, words_lookup}
use Rattle.sap_head_words.specs.code.Shapes.{Shape, TwoTerms, TermAndName, UseOf}

action_shape : {g : Sig} {m : Limits} {x : Action} {a b : List Word} (r : IsAction g m x a b) → Shape g x a (action_words r)
action_shape action_new = refl
action_shape action_new_fresh = refl
action_shape (action_out r) = record { behind = _; spelled = r.spelled; numbers = refl }
action_shape (action_send r s) = record { word = mark (codes ","); middle = _; behind = _; first = r.spelled; apart = refl; second = s.spelled; numbers = refl }
action_shape (action_input r) = record { behind = _; spelled = r.spelled; numbers = refl }
action_shape (action_receive r s) = record { word = mark (codes ","); middle = _; behind = _; first = r.spelled; apart = refl; second = s.spelled; numbers = refl }
action_shape (action_event r) = record { behind = _; spelled = r.spelled; numbers = refl }
action_shape (action_insert r s) = record { word = mark (codes ","); middle = _; behind = _; first = r.spelled; apart = refl; second = s.spelled; numbers = refl }
action_shape (action_delete r) = record { behind = _; spelled = r.spelled; numbers = refl }
action_shape (action_lock r) = record { behind = _; spelled = r.spelled; numbers = refl }
action_shape (action_unlock r) = record { behind = _; spelled = r.spelled; numbers = refl }
action_shape {m = m} (action_rule r s) =
    record {
      middle = _;
      before = facts_words r;
      after = facts_words s;
      taken = record { limits = m; allowed = _; closing = _; spelled = r; numbers = refl };
      others = record { behind = _; facts = record { limits = m; allowed = _; closing = _; spelled = s; numbers = refl } };
      numbers = refl;
    }
action_shape {m = m} (action_acts r s o) =
    record {
      middle = _;
      before = facts_words r;
      after = facts_words s ++ facts_words o;
      taken = record { limits = m; allowed = _; closing = _; spelled = r; numbers = refl };
      others = record {
        middle = _;
        before = facts_words s;
        after = facts_words o;
        shown = record { limits = m; allowed = _; closing = _; spelled = s; numbers = refl };
        added = record { behind = _; facts = record { limits = m; allowed = _; closing = _; spelled = o; numbers = refl } };
        numbers = refl;
      };
      numbers = refl;
    }

pub act_shape : {g : Sig} {k : ℕ} {x : Action} {p : Located} {a : List Word} {ns : List ℕ} → HeadWords g (act_at k x p) a ns → Shape g x a ns
act_shape (words_act r) = action_shape r

pub test_shape : {g : Sig} {k : ℕ} {t u : Tree} {p q : Located} {a : List Word} {ns : List ℕ} → HeadWords g (test_at k t u p q) a ns → TwoTerms g t u (drop 1 a) ns
test_shape (words_test r s) = record { word = mark (codes "="); middle = _; behind = _; first = r; apart = refl; second = s; numbers = refl }

pub lookup_shape : {g : Sig} {k : ℕ} {t : Tree} {x : Var} {p q : Located} {a : List Word} {ns : List ℕ} → HeadWords g (lookup_at k t x p q) a ns → TermAndName g t (drop 1 a) ns
lookup_shape (words_lookup {x = x} {b = b} r) = record { word = mark (codes "as"); middle = name x ∷ mark (codes "in") ∷ b; first = r; apart = refl; numbers = refl }

pub use_shape : {g : Sig} {k : ℕ} {f : List ℕ} {ts : List Tree} {a : List Word} {ns : List ℕ} → HeadWords g (call_at k f ts) a ns → UseOf g ts a ns
use_shape words_call = refl
use_shape (words_use (list_last r)) = record { behind = _; spelled = args_some (list_last r); numbers = refl }
use_shape (words_use (list_more r s)) = record { behind = _; spelled = args_some (list_more r s); numbers = refl }

-- heads without nodes
pub nil_shape : {g : Sig} {k : ℕ} {a : List Word} {ns : List ℕ} → HeadWords g (nil_at k) a ns → ns ≡ []
nil_shape words_nil = refl

pub parallel_shape : {g : Sig} {k : ℕ} {p q : Located} {a : List Word} {ns : List ℕ} → HeadWords g (parallel_at k p q) a ns → ns ≡ []
parallel_shape (words_parallel bar) = refl

pub replicated_shape : {g : Sig} {k : ℕ} {p : Located} {a : List Word} {ns : List ℕ} → HeadWords g (replicated_at k p) a ns → ns ≡ []
replicated_shape words_replicated = refl
