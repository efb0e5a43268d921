-- Which words spell a process under a signature, where terms are within the limits: the process as written, the levels
-- of its text, the words from its first on, the words behind its last.
use Rattle.std.specs.Prelude.{◌≡◌, ◌≤◌, ℕ, ◌+◌, max, true, false, codes, List, [], ◌∷◌}
use Rattle.sap_terms.specs.declared.fact.Fact.{Fact}
use Rattle.sap_terms.specs.declared.var.Sort.{Sort}
use Rattle.sap_terms.specs.declared.var.Sort.TheVariants.{Msg, Fresh}
use Rattle.sap_terms.specs.declared.var.Var.{Var}
use Rattle.sap_terms.specs.Tree.{Tree}
use Rattle.sap_terms.specs.Signature.{Sig}
use Rattle.sap_grammar.specs.Words.{Word, mark, name, number, starts}
use Rattle.sap_grammar.specs.declared.limits.Limits.{Limits}
use Rattle.sap_grammar.specs.Sizes.{AreSmall}
use Rattle.sap_grammar.specs.TermGrammar.{IsShort, IsList}
use Rattle.sap_grammar.specs.FactGrammar.{IsShortFact, AreFacts}
use Rattle.sap_process.specs.Action.{Action, new, out, send, input, receive, event, insert, delete, lock, unlock, embedded}
use Rattle.sap_terms.specs.declared.limits.TheConstants.{MOST_PROCESS_LEVELS}
use Rattle.sap_draft.specs.declared.limits.TheConstants.{FILE_LIMITS}
use Rattle.sap_macro.specs.Written.{Written, nil, call, parallel, replicated, act, test, lookup}

-- the variable of this name and sort
abbrev pub var : Sort → List ℕ → Var
var s x = record { name = x; sort = s }

-- an action; locks have no label yet
pub data IsAction (g : Sig) (m : Limits) : Action → List Word → List Word → Type 0 where
  action_new : {x : List ℕ} {a : List Word}
      → IsAction g m (new (var Msg x)) (mark (codes "new") ∷ name x ∷ a) a
  action_new_fresh : {x : List ℕ} {a : List Word}
      → IsAction g m (new (var Fresh x)) (mark (codes "new") ∷ mark (codes "~") ∷ name x ∷ a) a
  action_out : {t : Tree} {a b : List Word} → IsShort g m t a (mark (codes ")") ∷ b)
      → IsAction g m (out t) (mark (codes "out") ∷ mark (codes "(") ∷ a) b
  action_send : {t u : Tree} {a b c : List Word} → IsShort g m t a (mark (codes ",") ∷ b)
      → IsShort g m u b (mark (codes ")") ∷ c)
      → IsAction g m (send t u) (mark (codes "out") ∷ mark (codes "(") ∷ a) c
  action_input : {t : Tree} {a b : List Word} → IsShort g m t a (mark (codes ")") ∷ b)
      → IsAction g m (input t) (mark (codes "in") ∷ mark (codes "(") ∷ a) b
  action_receive : {t u : Tree} {a b c : List Word} → IsShort g m t a (mark (codes ",") ∷ b)
      → IsShort g m u b (mark (codes ")") ∷ c)
      → IsAction g m (receive t u) (mark (codes "in") ∷ mark (codes "(") ∷ a) c
  action_event : {f : Fact} {a b : List Word} → IsShortFact g m false f a b
      → IsAction g m (event f) (mark (codes "event") ∷ a) b
  action_insert : {t u : Tree} {a b c : List Word} → IsShort g m t a (mark (codes ",") ∷ b)
      → IsShort g m u b c
      → IsAction g m (insert t u) (mark (codes "insert") ∷ a) c
  action_delete : {t : Tree} {a b : List Word} → IsShort g m t a b
      → IsAction g m (delete t) (mark (codes "delete") ∷ a) b
  action_lock : {t : Tree} {a b : List Word} → IsShort g m t a b
      → IsAction g m (lock t 0) (mark (codes "lock") ∷ a) b
  action_unlock : {t : Tree} {a b : List Word} → IsShort g m t a b
      → IsAction g m (unlock t 0) (mark (codes "unlock") ∷ a) b
  action_rule : {l r : List Fact} {a b c : List Word}
      → AreFacts g m true (codes "]") l a (mark (codes "-->") ∷ mark (codes "[") ∷ b)
      → AreFacts g m true (codes "]") r b c
      → IsAction g m (embedded l [] r) (mark (codes "[") ∷ a) c
  action_acts : {l e r : List Fact} {a b c d : List Word}
      → AreFacts g m true (codes "]") l a (mark (codes "--[") ∷ b)
      → AreFacts g m false (codes "]->") e b (mark (codes "[") ∷ c)
      → AreFacts g m true (codes "]") r c d
      → IsAction g m (embedded l e r) (mark (codes "[") ∷ a) d

-- how the words of a process end: in an `if` or `lookup` without `else`, to which an `else` behind it would belong, or not
pub data Ending : Type 0 where
  closed : Ending
  dangling : Ending

-- the two signs of the parallel
pub data IsBar : List ℕ → Type 0 where
  one_bar : IsBar (codes "|")
  two_bars : IsBar (codes "||")

mutual
  -- a process that is no parallel without parentheses; the name of a process stands alone, or with terms in parentheses, one
  -- or more; what is missing behind an action or for `else` is `0`, and counts as one level
  pub data IsSeq (g : Sig) (m : Limits)
      : Ending → Written → ℕ → List Word → List Word → Type 0 where
    seq_nil : {a : List Word} → IsSeq g m closed nil 1 (number (codes "0") ∷ a) a
    seq_call : {x : List ℕ} {a : List Word} → IsSeq g m closed (call x []) 1 (name x ∷ a) a
    seq_use : {x : List ℕ} {ts : List Tree} {a b : List Word} → IsList g ts a b → AreSmall m ts
        → IsSeq g m closed (call x ts) 1 (name x ∷ mark (codes "(") ∷ a) b
    seq_parentheses : {p : Written} {n : ℕ} {a b : List Word}
        → IsPar g m p n a (mark (codes ")") ∷ b)
        → IsSeq g m closed p (n + 1) (mark (codes "(") ∷ a) b
    seq_replicated : {e : Ending} {p : Written} {n : ℕ} {a b : List Word} → IsSeq g m e p n a b
        → IsSeq g m e (replicated p) (n + 1) (mark (codes "!") ∷ a) b
    seq_action : {x : Action} {a b : List Word} → IsAction g m x a b
        → IsSeq g m closed (act x nil) 2 a b
    seq_then : {e : Ending} {x : Action} {p : Written} {n : ℕ} {a b c : List Word}
        → IsAction g m x a (mark (codes ";") ∷ b) → IsSeq g m e p n b c
        → IsSeq g m e (act x p) (n + 1) a c
    seq_if : {e : Ending} {t u : Tree} {p : Written} {n : ℕ} {a b c d : List Word}
        → IsShort g m t a (mark (codes "=") ∷ b) → IsShort g m u b (mark (codes "then") ∷ c)
        → IsSeq g m e p n c d
        → IsSeq g m dangling (test t u p nil) (max n 1 + 1) (mark (codes "if") ∷ a) d
    seq_if_else : {e : Ending} {t u : Tree} {p q : Written} {n k : ℕ} {a b c d f : List Word}
        → IsShort g m t a (mark (codes "=") ∷ b)
        → IsShort g m u b (mark (codes "then") ∷ c)
        → IsSeq g m closed p n c (mark (codes "else") ∷ d) → IsSeq g m e q k d f
        → IsSeq g m e (test t u p q) (max n k + 1) (mark (codes "if") ∷ a) f
    seq_lookup : {e : Ending} {t : Tree} {x : List ℕ} {p : Written} {n : ℕ} {a b c : List Word}
        → IsShort g m t a (mark (codes "as") ∷ name x ∷ mark (codes "in") ∷ b)
        → IsSeq g m e p n b c
        → IsSeq g m dangling (lookup t (var Msg x) p nil) (max n 1 + 1)
        (mark (codes "lookup") ∷ a) c
    seq_lookup_else : {e : Ending} {t : Tree} {x : List ℕ} {p q : Written} {n k : ℕ}
        {a b c d : List Word} → IsShort g m t a (mark (codes "as") ∷ name x ∷ mark (codes "in") ∷ b)
        → IsSeq g m closed p n b (mark (codes "else") ∷ c) → IsSeq g m e q k c d
        → IsSeq g m e (lookup t (var Msg x) p q) (max n k + 1) (mark (codes "lookup") ∷ a) d

  -- a process, where a parallel groups to the right
  pub data IsPar (g : Sig) (m : Limits) : Written → ℕ → List Word → List Word → Type 0 where
    par_one : {e : Ending} {p : Written} {n : ℕ} {a b : List Word} → IsSeq g m e p n a b
        → IsPar g m p n a b
    par_more : {e : Ending} {p q : Written} {n k : ℕ} {w : List ℕ} {a b c : List Word} → IsBar w
        → IsSeq g m e p n a (mark w ∷ b) → IsPar g m q k b c
        → IsPar g m (parallel p q) (max n k + 1) a c

-- nothing goes on with a process that ends here: the words are at their end, or begin with something else
pub record EndsProcess (b : List Word) : Type 0 where
  pub no_parenthesis : starts (codes "(") b ≡ false
  pub no_semicolon : starts (codes ";") b ≡ false
  pub no_else : starts (codes "else") b ≡ false
  pub no_bar : starts (codes "|") b ≡ false
  pub no_bars : starts (codes "||") b ≡ false

-- a process in at most MOST_PROCESS_LEVELS levels, whose terms keep to a file's limits, and nothing else
pub record IsProcess (g : Sig) (p : Written) (a : List Word) : Type 0 where
  pub levels : ℕ
  pub spelled : IsPar g FILE_LIMITS p levels a []
  pub few_levels : levels ≤ MOST_PROCESS_LEVELS
