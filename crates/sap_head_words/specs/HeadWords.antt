-- The nodes of what stands at the head of a written process, in the order in which they are written, each with the words that are left
-- from the one that tells it: of a variable, a symbol and a fact its name, also behind a sign; of a tuple its `<`; of what `new` and
-- `lookup` bind its name.
use Rattle.std.specs.Prelude.{ℕ, suc, codes, List, [], ◌∷◌, ◌++◌, length}
use Rattle.sap_terms.specs.Signature.{Sig}
use Rattle.sap_terms.specs.Tree.{Tree}
use Rattle.sap_terms.specs.declared.var.Sort.TheVariants.{Msg}
use Rattle.sap_grammar.specs.Words.{Word, mark, name}
use Rattle.sap_grammar.specs.declared.limits.Limits.{Limits}
use Rattle.sap_grammar.specs.TermGrammar.{IsTerm, IsList}
use Rattle.sap_node_words.specs.NodeWords.{term_words, list_words}
use Rattle.sap_node_words.specs.FactWords.{fact_words, facts_words}
use Rattle.sap_process.specs.Action.{Action}
use Rattle.sap_macro.specs.Located.{Located, nil_at, call_at, parallel_at, replicated_at, act_at, test_at, lookup_at}
use Rattle.sap_draft.specs.ProcessGrammar.{var, IsBar, IsAction, action_new, action_new_fresh, action_out, action_send, action_input, action_receive, action_event, action_insert, action_delete, action_lock, action_unlock, action_rule, action_acts}

-- of each node of an action the number of words from its own on, to the end of all words
abbrev pub action_words : {g : Sig} {m : Limits} {x : Action} {a b : List Word} → IsAction g m x a b → List ℕ
action_words (action_new {a = a}) = suc (length a) ∷ []
action_words (action_new_fresh {a = a}) = suc (length a) ∷ []
action_words (action_out r) = term_words r.spelled
action_words (action_send r s) = term_words r.spelled ++ term_words s.spelled
action_words (action_input r) = term_words r.spelled
action_words (action_receive r s) = term_words r.spelled ++ term_words s.spelled
action_words (action_event r) = fact_words r.spelled
action_words (action_insert r s) = term_words r.spelled ++ term_words s.spelled
action_words (action_delete r) = term_words r.spelled
action_words (action_lock r) = term_words r.spelled
action_words (action_unlock r) = term_words r.spelled
action_words (action_rule r s) = facts_words r ++ facts_words s
action_words (action_acts r s o) = facts_words r ++ (facts_words s ++ facts_words o)

-- Some words begin with the head of what is written, and its nodes have these numbers of words from their own on. The words are those
-- from the one that tells the place: of a use from its name on, whose nodes are those of its arguments, and of a parallel from its sign
-- on. What is missing has no words of its own.
pub data HeadWords (g : Sig) : Located → List Word → List ℕ → Type 0 where
  words_nil : {k : ℕ} {a : List Word} → HeadWords g (nil_at k) a []
  words_call : {k : ℕ} {f : List ℕ} {a : List Word} → HeadWords g (call_at k f []) (name f ∷ a) []
  words_use : {k : ℕ} {f : List ℕ} {ts : List Tree} {a b : List Word} (r : IsList g ts a b)
      → HeadWords g (call_at k f ts) (name f ∷ mark (codes "(") ∷ a) (list_words r)
  words_parallel : {k : ℕ} {p q : Located} {w : List ℕ} {a : List Word} → IsBar w
      → HeadWords g (parallel_at k p q) (mark w ∷ a) []
  words_replicated : {k : ℕ} {p : Located} {a : List Word}
      → HeadWords g (replicated_at k p) (mark (codes "!") ∷ a) []
  words_act : {k : ℕ} {x : Action} {p : Located} {m : Limits} {a b : List Word}
      (r : IsAction g m x a b) → HeadWords g (act_at k x p) a (action_words r)
  words_test : {k : ℕ} {t u : Tree} {p q : Located} {a b c : List Word}
      (r : IsTerm g t a (mark (codes "=") ∷ b)) (s : IsTerm g u b (mark (codes "then") ∷ c))
      → HeadWords g (test_at k t u p q) (mark (codes "if") ∷ a) (term_words r ++ term_words s)
  words_lookup : {k : ℕ} {t : Tree} {x : List ℕ} {p q : Located} {a b : List Word}
      (r : IsTerm g t a (mark (codes "as") ∷ name x ∷ mark (codes "in") ∷ b))
      → HeadWords g (lookup_at k t (var Msg x) p q) (mark (codes "lookup") ∷ a)
      (term_words r ++ suc (suc (length b)) ∷ [])
