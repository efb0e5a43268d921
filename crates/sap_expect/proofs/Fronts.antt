-- What words spell they spell whatever is behind them: the words that are a part stand alone.
use Rattle.std.proofs.Common.{◌≡◌, ℕ, Bool, List, [], ◌∷◌, ◌++◌, append_assoc, refl, sym, ap, subst, ◌∙◌}
use Rattle.std.specs.Prelude.{codes}
use Rattle.sap_terms.specs.declared.fact.Fact.{Fact}
use Rattle.sap_terms.specs.Signature.{Sig}
use Rattle.sap_terms.specs.Tree.{Tree}
use Rattle.sap_grammar.specs.declared.limits.Limits.{Limits}
use Rattle.sap_grammar.specs.Words.{Word, mark, name, number, quoted}
use Rattle.sap_grammar.specs.TermGrammar.{IsArgs, IsList, IsRest, IsShort, IsTerm, args_none, args_some, list_last, list_more, rest_last, rest_more, term_constant, term_fresh, term_message, term_pub, term_quoted, term_symbol, term_tuple}
use Rattle.sap_grammar.specs.FactGrammar.{AreFacts, AreSomeFacts, IsFact, IsShortFact, fact_linear, fact_persistent, facts_last, facts_more, facts_none, facts_some}
use Rattle.sap_process.specs.Action.{Action}
use Rattle.sap_macro.specs.Written.{Written}
use Rattle.sap_draft.specs.ProcessGrammar.{Ending, IsAction, IsPar, IsSeq, action_acts, action_delete, action_event, action_input, action_insert, action_lock, action_new, action_new_fresh, action_out, action_receive, action_rule, action_send, action_unlock, par_more, par_one, seq_action, seq_call, seq_if, seq_if_else, seq_lookup, seq_lookup_else, seq_nil, seq_parentheses, seq_replicated, seq_then, seq_use}
use Rattle.sap_statements.specs.Statements.{AreAttributes, HasAttributes, attributes_last, attributes_more, with_attributes, without_attributes}
use Rattle.sap_read.specs.ItemGrammar.{AreParameters, HasParameters, parameters_last, parameters_more, with_parameters, without_parameters}

abbrev pub Spelling : Type 1
Spelling = List Word → List Word → Type 0

-- words up to those behind, that spell the same before any others
pub record Front (X : Spelling) (a b : List Word) : Type 0 where
  pub words : List Word
  pub is : a ≡ words ++ b
  pub all : (c : List Word) → X (words ++ c) c

-- one behind the other; with a word behind
abbrev pub Both : Spelling → Spelling → Spelling
Both X Y a c = (b : List Word) × X a b × Y b c

abbrev pub Before : Spelling → Word → Spelling
Before X w a b = X a (w ∷ b)

-- these words alone; words behind these
pub alone : {Y : Spelling} {a : List Word} (ps : List Word) → ((c : List Word) → Y (ps ++ c) c) → Front Y (ps ++ a) a
alone ps g = record { words = ps; is = refl; all = g }

pub front : {X Y : Spelling} {a b : List Word} (ps : List Word) → Front X a b → ((c d : List Word) → X c d → Y (ps ++ c) d) → Front Y (ps ++ a) b
front {Y = Y} {b = b} ps f g = record {
  words = ps ++ f.words;
  is = ap (λ (x : List Word). ps ++ x) f.is ∙ sym (append_assoc ps f.words b);
  all = λ c. subst (λ (x : List Word). Y x c) (sym (append_assoc ps f.words c)) (g (f.words ++ c) c (f.all c));
}

pub before : {X : Spelling} {a b : List Word} (w : Word) → Front X a (w ∷ b) → Front (Before X w) a b
before {X = X} {b = b} w f = record {
  words = f.words ++ (w ∷ []);
  is = f.is ∙ sym (append_assoc f.words (w ∷ []) b);
  all = λ c. subst (λ (x : List Word). X x (w ∷ c)) (sym (append_assoc f.words (w ∷ []) c)) (f.all (w ∷ c));
}

pub both : {X Y : Spelling} {a b c : List Word} → Front X a b → Front Y b c → Front (Both X Y) a c
both {X = X} {c = c} x y = record {
  words = x.words ++ y.words;
  is = x.is ∙ (ap (λ (v : List Word). x.words ++ v) y.is ∙ sym (append_assoc x.words y.words c));
  all = λ d. (y.words ++ d, subst (λ (v : List Word). X v (y.words ++ d)) (sym (append_assoc x.words y.words d)) (x.all (y.words ++ d)), y.all d);
}

mutual
  pub term_front : {g : Sig} {t : Tree} {a b : List Word} → IsTerm g t a b → Front (IsTerm g t) a b
  term_front (term_constant {x = x} is) = alone (name x ∷ []) (λ c. term_constant is)
  term_front (term_message {x = x} free) = alone (name x ∷ []) (λ c. term_message free)
  term_front (term_fresh {x = x}) = alone (mark (codes "~") ∷ name x ∷ []) (λ c. term_fresh)
  term_front (term_pub {x = x}) = alone (mark (codes "$") ∷ name x ∷ []) (λ c. term_pub)
  term_front (term_quoted {s = s}) = alone (quoted s ∷ []) (λ c. term_quoted)
  term_front (term_symbol {f = f} low s) = front (name f ∷ mark (codes "(") ∷ []) (args_front s) (λ c d q. term_symbol low q)
  term_front (term_tuple s q) = front (mark (codes "<") ∷ []) (both (before (mark (codes ",")) (term_front s)) (rest_front q)) (λ c d p. term_tuple p.1 p.2)

  pub rest_front : {g : Sig} {t : Tree} {a b : List Word} → IsRest g t a b → Front (IsRest g t) a b
  rest_front (rest_last s) = front [] (before (mark (codes ">")) (term_front s)) (λ c d p. rest_last p)
  rest_front (rest_more s q) = front [] (both (before (mark (codes ",")) (term_front s)) (rest_front q)) (λ c d p. rest_more p.1 p.2)

  pub list_front : {g : Sig} {ts : List Tree} {a b : List Word} → IsList g ts a b → Front (IsList g ts) a b
  list_front (list_last s) = front [] (before (mark (codes ")")) (term_front s)) (λ c d p. list_last p)
  list_front (list_more s q) = front [] (both (before (mark (codes ",")) (term_front s)) (list_front q)) (λ c d p. list_more p.1 p.2)

  pub args_front : {g : Sig} {ts : List Tree} {a b : List Word} → IsArgs g ts a b → Front (IsArgs g ts) a b
  args_front args_none = alone (mark (codes ")") ∷ []) (λ c. args_none)
  args_front (args_some s) = front [] (list_front s) (λ c d p. args_some p)

pub fact_front : {g : Sig} {f : Fact} {a b : List Word} → IsFact g f a b → Front (IsFact g f) a b
fact_front (fact_linear {f = f} up s) = front (name f ∷ mark (codes "(") ∷ []) (args_front s) (λ c d p. fact_linear up p)
fact_front (fact_persistent {f = f} up s) = front (mark (codes "!") ∷ name f ∷ mark (codes "(") ∷ []) (args_front s) (λ c d p. fact_persistent up p)

module _ (g : Sig) (m : Limits) where
  short_front : {t : Tree} {a b : List Word} → IsShort g m t a b → Front (IsShort g m t) a b
  short_front s = front [] (term_front s.spelled) (λ c d p. record { spelled = p; small = s.small })

  short_fact_front : {o : Bool} {f : Fact} {a b : List Word} → IsShortFact g m o f a b → Front (IsShortFact g m o f) a b
  short_fact_front s = front [] (fact_front s.spelled) (λ c d p. record { spelled = p; small = s.small; sign = s.sign })

  some_facts_front : {o : Bool} {x : List ℕ} {fs : List Fact} {a b : List Word} → AreSomeFacts g m o x fs a b → Front (AreSomeFacts g m o x fs) a b
  some_facts_front {x = x} (facts_last s) = front [] (before (mark x) (short_fact_front s)) (λ c d p. facts_last p)
  some_facts_front (facts_more s q) = front [] (both (before (mark (codes ",")) (short_fact_front s)) (some_facts_front q)) (λ c d p. facts_more p.1 p.2)

  facts_front : {o : Bool} {x : List ℕ} {fs : List Fact} {a b : List Word} → AreFacts g m o x fs a b → Front (AreFacts g m o x fs) a b
  facts_front {x = x} facts_none = alone (mark x ∷ []) (λ c. facts_none)
  facts_front (facts_some s) = front [] (some_facts_front s) (λ c d p. facts_some p)

  action_front : {x : Action} {a b : List Word} → IsAction g m x a b → Front (IsAction g m x) a b
  action_front (action_new {x = x}) = alone (mark (codes "new") ∷ name x ∷ []) (λ c. action_new)
  action_front (action_new_fresh {x = x}) = alone (mark (codes "new") ∷ mark (codes "~") ∷ name x ∷ []) (λ c. action_new_fresh)
  action_front (action_out s) = front (mark (codes "out") ∷ mark (codes "(") ∷ []) (before (mark (codes ")")) (short_front s)) (λ c d p. action_out p)
  action_front (action_send s q) =
      front (mark (codes "out") ∷ mark (codes "(") ∷ []) (both (before (mark (codes ",")) (short_front s)) (before (mark (codes ")")) (short_front q))) (λ c d p. action_send p.1 p.2)
  action_front (action_input s) = front (mark (codes "in") ∷ mark (codes "(") ∷ []) (before (mark (codes ")")) (short_front s)) (λ c d p. action_input p)
  action_front (action_receive s q) =
      front (mark (codes "in") ∷ mark (codes "(") ∷ []) (both (before (mark (codes ",")) (short_front s)) (before (mark (codes ")")) (short_front q))) (λ c d p. action_receive p.1 p.2)
  action_front (action_event s) = front (mark (codes "event") ∷ []) (short_fact_front s) (λ c d p. action_event p)
  action_front (action_insert s q) = front (mark (codes "insert") ∷ []) (both (before (mark (codes ",")) (short_front s)) (short_front q)) (λ c d p. action_insert p.1 p.2)
  action_front (action_delete s) = front (mark (codes "delete") ∷ []) (short_front s) (λ c d p. action_delete p)
  action_front (action_lock s) = front (mark (codes "lock") ∷ []) (short_front s) (λ c d p. action_lock p)
  action_front (action_unlock s) = front (mark (codes "unlock") ∷ []) (short_front s) (λ c d p. action_unlock p)
  action_front (action_rule s q) =
      front (mark (codes "[") ∷ []) (both (before (mark (codes "[")) (before (mark (codes "-->")) (facts_front s))) (facts_front q)) (λ c d p. action_rule p.1 p.2)
  action_front (action_acts s e q) =
      front (mark (codes "[") ∷ []) (both (before (mark (codes "--[")) (facts_front s)) (both (before (mark (codes "[")) (facts_front e)) (facts_front q)))
      (λ c d p. action_acts p.1 p.2.1 p.2.2)

  mutual
    pub seq_front : {e : Ending} {p : Written} {k : ℕ} {a b : List Word} → IsSeq g m e p k a b → Front (IsSeq g m e p k) a b
    seq_front seq_nil = alone (number (codes "0") ∷ []) (λ c. seq_nil)
    seq_front (seq_call {x = x}) = alone (name x ∷ []) (λ c. seq_call)
    seq_front (seq_use {x = x} s small) = front (name x ∷ mark (codes "(") ∷ []) (list_front s) (λ c d q. seq_use q small)
    seq_front (seq_parentheses s) = front (mark (codes "(") ∷ []) (before (mark (codes ")")) (par_front s)) (λ c d q. seq_parentheses q)
    seq_front (seq_replicated s) = front (mark (codes "!") ∷ []) (seq_front s) (λ c d q. seq_replicated q)
    seq_front (seq_action s) = front [] (action_front s) (λ c d q. seq_action q)
    seq_front (seq_then s q) = front [] (both (before (mark (codes ";")) (action_front s)) (seq_front q)) (λ c d q. seq_then q.1 q.2)
    seq_front (seq_if s u q) =
        front (mark (codes "if") ∷ []) (both (before (mark (codes "=")) (short_front s)) (both (before (mark (codes "then")) (short_front u)) (seq_front q))) (λ c d q. seq_if q.1 q.2.1 q.2.2)
    seq_front (seq_if_else s u q v) =
        front (mark (codes "if") ∷ [])
        (both (before (mark (codes "=")) (short_front s)) (both (before (mark (codes "then")) (short_front u)) (both (before (mark (codes "else")) (seq_front q)) (seq_front v))))
        (λ c d q. seq_if_else q.1 q.2.1 q.2.2.1 q.2.2.2)
    seq_front (seq_lookup {x = x} s q) =
        front (mark (codes "lookup") ∷ []) (both (before (mark (codes "in")) (before (name x) (before (mark (codes "as")) (short_front s)))) (seq_front q)) (λ c d q. seq_lookup q.1 q.2)
    seq_front (seq_lookup_else {x = x} s q v) =
        front (mark (codes "lookup") ∷ [])
        (both (before (mark (codes "in")) (before (name x) (before (mark (codes "as")) (short_front s)))) (both (before (mark (codes "else")) (seq_front q)) (seq_front v)))
        (λ c d q. seq_lookup_else q.1 q.2.1 q.2.2)

    pub par_front : {p : Written} {k : ℕ} {a b : List Word} → IsPar g m p k a b → Front (IsPar g m p k) a b
    par_front (par_one s) = front [] (seq_front s) (λ c d q. par_one q)
    par_front (par_more {w = w} x s q) = front [] (both (before (mark w) (seq_front s)) (par_front q)) (λ c d q. par_more x q.1 q.2)

pub parameters_front : {xs : List (List ℕ)} {a b : List Word} → AreParameters xs a b → Front (AreParameters xs) a b
parameters_front (parameters_last {x = x}) = alone (name x ∷ mark (codes ")") ∷ []) (λ c. parameters_last)
parameters_front (parameters_more {x = x} s) = front (name x ∷ mark (codes ",") ∷ []) (parameters_front s) (λ c d p. parameters_more p)

pub heading_front : {xs : List (List ℕ)} {a b : List Word} → HasParameters xs a b → Front (HasParameters xs) a b
heading_front without_parameters = alone (mark (codes "=") ∷ []) (λ c. without_parameters)
heading_front (with_parameters s) = front (mark (codes "(") ∷ []) (before (mark (codes "=")) (parameters_front s)) (λ c d p. with_parameters p)

pub attributes_front : {xs : List (List ℕ)} {a b : List Word} → AreAttributes xs a b → Front (AreAttributes xs) a b
attributes_front (attributes_last {x = x} s) = alone (name x ∷ mark (codes "]") ∷ []) (λ c. attributes_last s)
attributes_front (attributes_more {x = x} s q) = front (name x ∷ mark (codes ",") ∷ []) (attributes_front q) (λ c d p. attributes_more s p)

pub has_attributes_front : {xs : List (List ℕ)} {a b : List Word} → HasAttributes xs a b → Front (HasAttributes xs) a b
has_attributes_front without_attributes = alone [] (λ c. without_attributes)
has_attributes_front (with_attributes q) = front (mark (codes "[") ∷ []) (attributes_front q) (λ c d p. with_attributes p)
