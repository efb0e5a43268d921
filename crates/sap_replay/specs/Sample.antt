-- The sample that the program converts by itself: a file, and its run of so many sessions.
use Rattle.std.specs.Prelude.{◌≡◌, ◌≤◌, ◌+◌, ◌*◌, ℕ, zero, suc, List, [], ◌∷◌, ◌++◌, codes, decimal}
use Rattle.sap_terms.specs.AdversaryFacts.{linear}
use Rattle.sap_terms.specs.Equations.{app1}
use Rattle.sap_terms.specs.Signature.{pairs_alone, added}
use Rattle.sap_terms.specs.Tree.{Tree, variable, public}
use Rattle.sap_terms.specs.declared.fact.Fact.{Fact}
use Rattle.sap_terms.specs.declared.signature.Builtin.TheVariants.{Hashing}
use Rattle.sap_terms.specs.declared.var.Sort.TheVariants.{Msg, Fresh}
use Rattle.sap_terms.specs.declared.var.Var.{Var}
use Rattle.sap_process.specs.Action.{new, out, input, event, insert, lock, unlock}
use Rattle.sap_process.specs.Proc.{Proc, nil, replicated, act}
use Rattle.sap_read.specs.Files.{FileContent}
use Rattle.sap_runs.specs.declared.process_step.PStep.{PStep}
use Rattle.sap_runs.specs.declared.process_step.PStep.TheVariants.{Rep, New, Lock, Insert, Unlock, Out, In, Event, Nil}

-- the text of the file
abbrev pub sample_file_text : List ℕ
sample_file_text =
    codes "theory Sample begin\nbuiltins: hashing\nprocess: ! (new ~k; lock 'r'; insert 'r', ~k; unlock 'r'; out(h(~k)); in(x); event Got(x))\nend\n"

-- ~k, the name that a session makes, and x, the message that it takes, each with the sort of its binder
abbrev pub session_name : Var
session_name = record { name = codes "k"; sort = Fresh }

abbrev pub session_message : Var
session_message = record { name = codes "x"; sort = Msg }

-- 'r', the key of the store, and what is locked
abbrev pub store_key : Tree
store_key = public (codes "r")

-- h(t)
abbrev pub hash_of : Tree → Tree
hash_of t = app1 (codes "h") t

-- Got(x)
abbrev pub got_message : Fact
got_message = linear (codes "Got") (variable session_message ∷ [])

-- what a session does, with this label at its lock
abbrev pub session_process : ℕ → Proc
session_process n =
    act (new session_name)
    (act (lock store_key n)
    (act (insert store_key (variable session_name))
    (act (unlock store_key n)
    (act (out (hash_of (variable session_name)))
    (act (input (variable session_message))
    (act (event got_message) nil))))))

-- what the file tells
abbrev pub told_sample : FileContent
told_sample = record {
  name = codes "Sample";
  signature = added pairs_alone Hashing;
  process = replicated (session_process 1);
  restrictions = [];
  lemmas = [];
}

-- the greatest number of sessions
abbrev pub most_sessions : ℕ
most_sessions = 500

-- the lines of the session behind so many others
abbrev pub session : ℕ → List PStep
session m = Rep 0 ∷ New (suc m) (suc m) ∷ Lock (suc m) ∷ Insert (suc m) ∷ Unlock (suc m)
    ∷ Out (suc m) ∷ In (suc m) m ∷ Event (suc m) ∷ Nil (suc m) ∷ []

-- the run of so many sessions, one behind the other
abbrev pub sample_lines : ℕ → List PStep
sample_lines zero = []
sample_lines (suc m) = sample_lines m ++ session m

-- the words that ask for it
abbrev pub sample_words : ℕ → List (List ℕ)
sample_words n = codes "sample" ∷ decimal n ∷ []

-- the words ask for the sample of so many sessions
pub record IsSample (words : List (List ℕ)) (n : ℕ) : Type 0 where
  pub some : 1 ≤ n
  pub most : n ≤ most_sessions
  pub spelled : words ≡ sample_words n

-- a number behind a text, on a line
abbrev pub count_line : List ℕ → ℕ → List ℕ
count_line what n = what ++ (decimal n ++ codes "\n")

-- so many sessions, lines of the process, of rules, and of the process again, and times at which something is shown
abbrev pub counts_text : ℕ → ℕ → ℕ → ℕ → ℕ → List ℕ
counts_text n lines rule_lines back_lines shown =
    count_line (codes "sample ") n
    ++ (count_line (codes "process steps ") lines ++ (count_line (codes "rule steps ") rule_lines
    ++ (count_line (codes "back steps ") back_lines ++ count_line (codes "visible events ") shown)))

-- what is told of the sample of so many sessions
abbrev pub sample_text : ℕ → List ℕ
sample_text n = counts_text n (9 * n) (13 * n + 2) (9 * n) (2 * n)
