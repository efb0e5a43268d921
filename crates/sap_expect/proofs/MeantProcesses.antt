-- What the words of processes are that the table takes, with their levels.
use Rattle.std.proofs.Common.{◌≡◌, ◌≤◌, ◌+◌, ◌-◌, max, ℕ, Bool, true, false, List, [], ◌∷◌, subst, arith}
use Rattle.std.specs.Prelude.{codes}
use Rattle.sap_terms.specs.declared.fact.Fact.{Fact}
use Rattle.sap_terms.specs.declared.var.Sort.TheVariants.{Msg}
use Rattle.sap_terms.specs.Signature.{Sig}
use Rattle.sap_terms.specs.Tree.{Tree}
use Rattle.sap_grammar.specs.Sizes.{AreSmall}
use Rattle.sap_grammar.specs.Words.{Word, mark, name, number, starts}
use Rattle.sap_grammar.specs.TermGrammar.{IsList, IsShort}
use Rattle.sap_grammar.specs.FactGrammar.{AreFacts}
use Rattle.sap_process.specs.Action.{Action}
use Rattle.sap_macro.specs.Written.{Written, nil, call, parallel, replicated, act, test, lookup}
use Rattle.sap_draft.specs.declared.limits.TheConstants.{FILE_LIMITS}
use Rattle.sap_draft.specs.ProcessGrammar.{Ending, IsAction, IsBar, IsPar, IsSeq, action_acts, action_input, action_new, action_new_fresh, action_out, action_receive, action_rule, action_send, closed, dangling, par_more, par_one, seq_action, seq_call, seq_if, seq_if_else, seq_lookup, seq_lookup_else, seq_nil, seq_parentheses, seq_replicated, seq_then, seq_use, var}
use Rattle.sap_expect.proofs.FollowProcess.{seq_levels}

-- a term within a file's limits
abbrev pub FileTerm : Sig → List Word → List Word → Type 0
FileTerm g a b = (t : Tree) × IsShort g FILE_LIMITS t a b

-- what `new` binds
pub data IsNewName : List Word → List Word → Type 0 where
  new_message : {x : List ℕ} {a : List Word} → IsNewName (name x ∷ a) a
  new_fresh : {x : List ℕ} {a : List Word} → IsNewName (mark (codes "~") ∷ name x ∷ a) a

-- behind the first term of an output or input
pub data HasMessage (g : Sig) : List Word → List Word → Type 0 where
  message_end : {a : List Word} → HasMessage g (mark (codes ")") ∷ a) a
  message_second : {t : Tree} {a b : List Word} → IsShort g FILE_LIMITS t a (mark (codes ")") ∷ b) → HasMessage g (mark (codes ",") ∷ a) b

-- facts within a file's limits, up to this mark
abbrev pub FileFacts : Sig → Bool → List ℕ → List Word → List Word → Type 0
FileFacts g o c a b = (fs : List Fact) × AreFacts g FILE_LIMITS o c fs a b

-- what is behind the left side of a rule
pub data HasArrow (g : Sig) : List Word → List Word → Type 0 where
  arrow_plain : {a b : List Word} → FileFacts g true (codes "]") a b → HasArrow g (mark (codes "-->") ∷ mark (codes "[") ∷ a) b
  arrow_shows : {a b c : List Word} → FileFacts g false (codes "]->") a (mark (codes "[") ∷ b) → FileFacts g true (codes "]") b c → HasArrow g (mark (codes "--[") ∷ a) c

-- an action
abbrev pub SomeAction : Sig → List Word → List Word → Type 0
SomeAction g a b = (x : Action) × IsAction g FILE_LIMITS x a b

pub new_action : {g : Sig} {a b : List Word} → IsNewName a b → SomeAction g (mark (codes "new") ∷ a) b
new_action new_message = (_, action_new)
new_action new_fresh = (_, action_new_fresh)

pub out_action : {g : Sig} {t : Tree} {a b c : List Word} → IsShort g FILE_LIMITS t a b → HasMessage g b c → SomeAction g (mark (codes "out") ∷ mark (codes "(") ∷ a) c
out_action s message_end = (_, action_out s)
out_action s (message_second q) = (_, action_send s q)

pub in_action : {g : Sig} {t : Tree} {a b c : List Word} → IsShort g FILE_LIMITS t a b → HasMessage g b c → SomeAction g (mark (codes "in") ∷ mark (codes "(") ∷ a) c
in_action s message_end = (_, action_input s)
in_action s (message_second q) = (_, action_receive s q)

pub rule_action : {g : Sig} {a b c : List Word} → FileFacts g true (codes "]") a b → HasArrow g b c → SomeAction g (mark (codes "[") ∷ a) c
rule_action l (arrow_plain r) = (_, action_rule l.1 r.1)
rule_action l (arrow_shows e r) = (_, action_acts l.1 e.1 r.1)

-- no `else` stands behind what it would belong to
abbrev pub NoElse : Ending → List Word → Type 0
NoElse closed b = Unit {0}
NoElse dangling b = starts (codes "else") b ≡ false

-- a process of so many levels that is no parallel without parentheses, in at most m
pub record HasSequence (g : Sig) (m : ℕ) (a : List Word) (k : ℕ) (b : List Word) : Type 0 where
  pub ending : Ending
  pub process : Written
  pub is : IsSeq g FILE_LIMITS ending process k a b
  pub few : k ≤ m
  pub no_else : NoElse ending b

pub nil_sequence : {g : Sig} {m : ℕ} {a : List Word} → 1 ≤ m → HasSequence g m (number (codes "0") ∷ a) 1 a
nil_sequence one = record { ending = closed; process = nil; is = seq_nil; few = one; no_else = tt }

-- what may be behind the name of a process
pub data HasArguments (g : Sig) : List Word → ℕ → List Word → Type 0 where
  without_arguments : {a : List Word} → HasArguments g a 1 a
  with_arguments : {ts : List Tree} {a b : List Word} → IsList g ts a b → AreSmall FILE_LIMITS ts → HasArguments g (mark (codes "(") ∷ a) 1 b

pub use_sequence : {g : Sig} {m k : ℕ} (x : List ℕ) {a b : List Word} → 1 ≤ m → HasArguments g a k b → HasSequence g m (name x ∷ a) k b
use_sequence x one without_arguments = record { ending = closed; process = call x []; is = seq_call; few = one; no_else = tt }
use_sequence x one (with_arguments {ts = ts} s small) = record { ending = closed; process = call x ts; is = seq_use s small; few = one; no_else = tt }

pub replicated_sequence : {g : Sig} {m k : ℕ} {a b : List Word} → 2 ≤ m → HasSequence g (m - 1) a k b → HasSequence g m (mark (codes "!") ∷ a) (k + 1) b
replicated_sequence two h =
    let few = h.few in
    record { ending = h.ending; process = replicated h.process; is = seq_replicated h.is; few = omega (arith, two, few); no_else = h.no_else }

-- behind an action
pub data HasThen (g : Sig) (m : ℕ) : List Word → ℕ → List Word → Type 0 where
  then_none : {a : List Word} → HasThen g m a 2 a
  then_some : {k : ℕ} {a b : List Word} → HasSequence g (m - 1) a k b → HasThen g m (mark (codes ";") ∷ a) (k + 1) b

pub act_sequence : {g : Sig} {m k : ℕ} {a b c : List Word} → 2 ≤ m → SomeAction g a b → HasThen g m b k c → HasSequence g m a k c
act_sequence two x then_none = record { ending = closed; process = act x.0 nil; is = seq_action x.1; few = two; no_else = tt }
act_sequence two x (then_some q) =
    let few = q.few in
    record { ending = q.ending; process = act x.0 q.process; is = seq_then x.1 q.is; few = omega (arith, two, few); no_else = q.no_else }

-- behind a branch of n levels
pub data HasElse (g : Sig) (m n : ℕ) : List Word → ℕ → List Word → Type 0 where
  else_none : {a : List Word} → starts (codes "else") a ≡ false → HasElse g m n a (n + 1) a
  else_some : {k : ℕ} {a b : List Word} → HasSequence g (m - 1) a k b → HasElse g m n (mark (codes "else") ∷ a) (max n k + 1) b

-- what `else` stands behind doesn't dangle
closed_branch : {g : Sig} {m k : ℕ} {a b : List Word} (h : HasSequence g m a k (mark (codes "else") ∷ b)) → IsSeq g FILE_LIMITS closed h.process k a (mark (codes "else") ∷ b)
closed_branch {g = g} {k = k} {a = a} {b = b} h = by h.ending h.no_else h.is
  where
    by : (e : Ending) → NoElse e (mark (codes "else") ∷ b) → IsSeq g FILE_LIMITS e h.process k a (mark (codes "else") ∷ b) → IsSeq g FILE_LIMITS closed h.process k a (mark (codes "else") ∷ b)
    by closed n s = s
    by dangling n s = absurd (cc (n))

-- one branch has a level at least
one_branch : (n : ℕ) → 1 ≤ n → max n 1 + 1 ≡ n + 1
one_branch n one = omega (arith, one)

pub if_sequence : {g : Sig} {m n k : ℕ} {t u : Tree} {a b c d e : List Word} → 2 ≤ m → IsShort g FILE_LIMITS t a (mark (codes "=") ∷ b) → IsShort g FILE_LIMITS u b (mark (codes "then") ∷ c)
    → HasSequence g (m - 1) c n d → HasElse g m n d k e → HasSequence g m (mark (codes "if") ∷ a) k e
if_sequence {g = g} {m = m} {n = n} {t = t} {u = u} {a = a} {e = e} two s q h (else_none o) =
    let one = seq_levels h.is in
    let few = h.few in
    record {
      ending = dangling;
      process = test t u h.process nil;
      is = subst (λ (j : ℕ). IsSeq g FILE_LIMITS dangling (test t u h.process nil) j (mark (codes "if") ∷ a) e) (one_branch n one) (seq_if s q h.is);
      few = omega (arith, two, few);
      no_else = o;
    }
if_sequence {t = t} {u = u} two s q h (else_some i) =
    let few = h.few in
    let more = i.few in
    record { ending = i.ending; process = test t u h.process i.process; is = seq_if_else s q (closed_branch h) i.is; few = omega (arith, two, few, more); no_else = i.no_else }

pub lookup_sequence : {g : Sig} {m n k : ℕ} {t : Tree} (x : List ℕ) {a b c d : List Word} → 2 ≤ m → IsShort g FILE_LIMITS t a (mark (codes "as") ∷ name x ∷ mark (codes "in") ∷ b)
    → HasSequence g (m - 1) b n c → HasElse g m n c k d → HasSequence g m (mark (codes "lookup") ∷ a) k d
lookup_sequence {g = g} {m = m} {n = n} {t = t} x {a = a} {d = d} two s h (else_none o) =
    let one = seq_levels h.is in
    let few = h.few in
    record {
      ending = dangling;
      process = lookup t (var Msg x) h.process nil;
      is = subst (λ (j : ℕ). IsSeq g FILE_LIMITS dangling (lookup t (var Msg x) h.process nil) j (mark (codes "lookup") ∷ a) d) (one_branch n one) (seq_lookup s h.is);
      few = omega (arith, two, few);
      no_else = o;
    }
lookup_sequence {t = t} x two s h (else_some i) =
    let few = h.few in
    let more = i.few in
    record { ending = i.ending; process = lookup t (var Msg x) h.process i.process; is = seq_lookup_else s (closed_branch h) i.is; few = omega (arith, two, few, more); no_else = i.no_else }

-- a process of so many levels, in at most m
pub record HasProcess (g : Sig) (m : ℕ) (a : List Word) (k : ℕ) (b : List Word) : Type 0 where
  pub process : Written
  pub is : IsPar g FILE_LIMITS process k a b
  pub few : k ≤ m

-- behind a part of a parallel, of n levels
pub data HasBars (g : Sig) (m n : ℕ) : List Word → ℕ → List Word → Type 0 where
  bars_none : {a : List Word} → HasBars g m n a n a
  bars_more : {w : List ℕ} {k : ℕ} {a b : List Word} → n + 1 ≤ m → IsBar w → HasProcess g (m - 1) a k b → HasBars g m n (mark w ∷ a) (max n k + 1) b

pub process_of : {g : Sig} {m n k : ℕ} {a b c : List Word} → HasSequence g m a n b → HasBars g m n b k c → HasProcess g m a k c
process_of h bars_none = record { process = h.process; is = par_one h.is; few = h.few }
process_of h (bars_more on w q) =
    let few = q.few in
    record { process = parallel h.process q.process; is = par_more w h.is q.is; few = omega (arith, on, few) }

pub group_sequence : {g : Sig} {m k : ℕ} {a b : List Word} → 2 ≤ m → HasProcess g (m - 1) a k (mark (codes ")") ∷ b) → HasSequence g m (mark (codes "(") ∷ a) (k + 1) b
group_sequence two h =
    let few = h.few in
    record { ending = closed; process = h.process; is = seq_parentheses h.is; few = omega (arith, two, few); no_else = tt }
