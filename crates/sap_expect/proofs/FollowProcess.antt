-- The words of processes follow the table, with their levels.
use Rattle.std.proofs.Common.{◌≡◌, ◌≤◌, ◌+◌, ◌-◌, max, ℕ, Bool, true, false, List, [], ◌∷◌, ◌++◌, Some, None, refl, subst, arith}
use Rattle.std.specs.Prelude.{codes, if◌then◌else◌}
use Rattle.sap_terms.specs.Signature.{Sig}
use Rattle.sap_grammar.specs.Words.{Word, is_mark, mark}
use Rattle.sap_grammar.proofs.ReadingLaws.Limits.{fits}
use Rattle.sap_process.specs.Action.{Action}
use Rattle.sap_macro.specs.Written.{Written}
use Rattle.sap_draft.specs.declared.limits.TheConstants.{FILE_LIMITS}
use Rattle.sap_draft.specs.ProcessGrammar.{Ending, IsAction, IsBar, IsPar, IsSeq, action_acts, action_delete, action_event, action_input, action_insert, action_lock, action_new, action_new_fresh, action_out, action_receive, action_rule, action_send, action_unlock, closed, dangling, one_bar, par_more, par_one, seq_action, seq_call, seq_if, seq_if_else, seq_lookup, seq_lookup_else, seq_nil, seq_parentheses, seq_replicated, seq_then, seq_use, two_bars}
use Rattle.sap_expect.specs.declared.wanted.Limit.{Limit}
use Rattle.sap_expect.specs.declared.wanted.Change.TheVariants.{Joined}
use Rattle.sap_expect.specs.declared.wanted.Limit.TheVariants.{Below, Same}
use Rattle.sap_expect.specs.declared.wanted.Part.TheVariants.{Application, Arguments, Bars, Else, Process, Sequence, Then}
use Rattle.sap_expect.specs.declared.wanted.Test.TheVariants.{HasRoom}
use Rattle.sap_expect.specs.FileTable.{Open, Reads, Turn, holds, level, part}
use Rattle.sap_expect.proofs.OnRows.{NoRow, NotNone, instead, on_level, on_row, on_word}
use Rattle.sap_expect.proofs.FollowTerms.{IsPlain, args_follow, facts_follow, list_follows, plain, plain_of, shown_follow, small_levels, term_follows}

-- what no `else` may stand behind, where the process ends so
abbrev pub NoElse : Ending → List Word → Type 0
NoElse closed ws = Unit {0}
NoElse dangling ws = NoRow Else ws

-- what may stand behind a sequence that ends so
pub record Behind (e : Ending) (ws : List Word) : Type 0 where
  pub no_parenthesis : NoRow Application ws
  pub no_semicolon : NoRow Then ws
  pub no_else : NoElse e ws

-- where no parenthesis stands, no arguments do
no_arguments : (ws : List Word) → NoRow Application ws → NoRow Arguments ws
no_arguments [] n = n
no_arguments (w ∷ ws) n = by _ _ (is_mark (codes "(") w) n
  where
    by : (xs ys : Turn) (c : Bool) → (if c then Some xs else None) ≡ None → (if c then Some ys else None) ≡ None
    by xs ys true e = absurd (cc (e))
    by xs ys false e = refl

-- there is a word
some_word : (ws : List Word) → NoRow Application ws → NotNone ws
some_word [] n = n
some_word (w ∷ ws) n = tt

no_process_row : (ws : List Word) → NotNone ws → NoRow Process ws
no_process_row [] n = n
no_process_row (w ∷ ws) n = refl

mutual
  pub seq_levels : {g : Sig} {e : Ending} {p : Written} {n : ℕ} {a b : List Word} → IsSeq g FILE_LIMITS e p n a b → 1 ≤ n
  seq_levels seq_nil = omega arith
  seq_levels seq_call = omega arith
  seq_levels (seq_use s small) = omega arith
  seq_levels (seq_parentheses s) = omega arith
  seq_levels (seq_replicated s) = omega arith
  seq_levels (seq_action s) = omega arith
  seq_levels (seq_then s q) = omega arith
  seq_levels (seq_if s u q) = omega arith
  seq_levels (seq_if_else s u q v) = omega arith
  seq_levels (seq_lookup s q) = omega arith
  seq_levels (seq_lookup_else s q v) = omega arith

  pub par_levels : {g : Sig} {p : Written} {n : ℕ} {a b : List Word} → IsPar g FILE_LIMITS p n a b → 1 ≤ n
  par_levels (par_one s) = seq_levels s
  par_levels (par_more x s q) = omega arith

action_word : {g : Sig} {x : Action} {a b : List Word} (r : List Word) → IsAction g FILE_LIMITS x a b → NotNone (a ++ r)
action_word r action_new = tt
action_word r action_new_fresh = tt
action_word r (action_out s) = tt
action_word r (action_send s q) = tt
action_word r (action_input s) = tt
action_word r (action_receive s q) = tt
action_word r (action_event s) = tt
action_word r (action_insert s q) = tt
action_word r (action_delete s) = tt
action_word r (action_lock s) = tt
action_word r (action_unlock s) = tt
action_word r (action_rule s q) = tt
action_word r (action_acts s e q) = tt

seq_word : {g : Sig} {e : Ending} {p : Written} {n : ℕ} {a b : List Word} (r : List Word) → IsSeq g FILE_LIMITS e p n a b → NotNone (a ++ r)
seq_word r seq_nil = tt
seq_word r seq_call = tt
seq_word r (seq_use s small) = tt
seq_word r (seq_parentheses s) = tt
seq_word r (seq_replicated s) = tt
seq_word r (seq_action s) = action_word r s
seq_word r (seq_then s q) = action_word r s
seq_word r (seq_if s u q) = tt
seq_word r (seq_if_else s u q v) = tt
seq_word r (seq_lookup s q) = tt
seq_word r (seq_lookup_else s q v) = tt

-- levels of one branch
one_branch : (j : ℕ) → 1 ≤ j → max j 1 + 1 ≡ j + 1
one_branch j one = omega (arith, one)

has_room : (m n : ℕ) → 2 ≤ m → holds HasRoom m n ≡ true
has_room m n le = fits 2 m le

module _ (r : List Word) where
  event_follows : {g : Sig} {a b : List Word} {n m : ℕ} {l : Limit} {vs : List Open} → 2 ≤ m → IsPlain g a b → ((k : ℕ) → Reads k ((part Then Same, m) ∷ vs) (b ++ r))
      → Reads n ((part Sequence l, m) ∷ vs) (mark (codes "event") ∷ (a ++ r))
  event_follows {n = n} {m = m} two (plain up few s) h = on_row refl (has_room m n two) (on_word up (on_word refl (args_follow r s few (h _))))

  action_follows : {g : Sig} {x : Action} {a b : List Word} {n m : ℕ} {l : Limit} {vs : List Open} → IsAction g FILE_LIMITS x a b → 2 ≤ m → NoRow Application (b ++ r)
      → ((k : ℕ) → Reads k ((part Then Same, m) ∷ vs) (b ++ r)) → Reads n ((part Sequence l, m) ∷ vs) (a ++ r)
  action_follows {n = n} {m = m} action_new two o h = on_row refl (has_room m n two) (on_row refl refl (h _))
  action_follows {n = n} {m = m} action_new_fresh two o h = on_row refl (has_room m n two) (on_row refl refl (on_word refl (h _)))
  action_follows {n = n} {m = m} (action_out s) two o h =
      on_row refl (has_room m n two) (on_word refl (term_follows r s.spelled s.small.few_levels refl (on_row refl refl (h _))))
  action_follows {n = n} {m = m} (action_send s q) two o h =
      on_row refl (has_room m n two) (on_word refl (term_follows r s.spelled s.small.few_levels refl (on_row refl refl
      (term_follows r q.spelled q.small.few_levels refl (on_word refl (h _))))))
  action_follows {n = n} {m = m} (action_input s) two o h =
      on_row refl (has_room m n two) (on_word refl (term_follows r s.spelled s.small.few_levels refl (on_row refl refl (h _))))
  action_follows {n = n} {m = m} (action_receive s q) two o h =
      on_row refl (has_room m n two) (on_word refl (term_follows r s.spelled s.small.few_levels refl (on_row refl refl
      (term_follows r q.spelled q.small.few_levels refl (on_word refl (h _))))))
  action_follows (action_event s) two o h = event_follows two (plain_of s) h
  action_follows {n = n} {m = m} (action_insert s q) two o h =
      on_row refl (has_room m n two) (term_follows r s.spelled s.small.few_levels refl (on_word refl (term_follows r q.spelled q.small.few_levels o (h _))))
  action_follows {n = n} {m = m} (action_delete s) two o h = on_row refl (has_room m n two) (term_follows r s.spelled s.small.few_levels o (h _))
  action_follows {n = n} {m = m} (action_lock s) two o h = on_row refl (has_room m n two) (term_follows r s.spelled s.small.few_levels o (h _))
  action_follows {n = n} {m = m} (action_unlock s) two o h = on_row refl (has_room m n two) (term_follows r s.spelled s.small.few_levels o (h _))
  action_follows {n = n} {m = m} (action_rule s q) two o h =
      on_row refl (has_room m n two) (facts_follow r s (λ j. on_row refl refl (on_word refl (facts_follow r q h))))
  action_follows {n = n} {m = m} (action_acts s e q) two o h =
      on_row refl (has_room m n two) (facts_follow r s (λ j. on_row refl refl (shown_follow r e (λ i. on_word refl (facts_follow r q h)))))

  -- both signs of the parallel may stand behind a sequence
  behind_bar : {w : List ℕ} {e : Ending} {ws : List Word} → IsBar w → Behind e (mark w ∷ ws)
  behind_bar {e = closed} one_bar = record { no_parenthesis = refl; no_semicolon = refl; no_else = tt }
  behind_bar {e = dangling} one_bar = record { no_parenthesis = refl; no_semicolon = refl; no_else = refl }
  behind_bar {e = closed} two_bars = record { no_parenthesis = refl; no_semicolon = refl; no_else = tt }
  behind_bar {e = dangling} two_bars = record { no_parenthesis = refl; no_semicolon = refl; no_else = refl }

  behind_parenthesis : {ws : List Word} (e : Ending) → Behind e (mark (codes ")") ∷ ws)
  behind_parenthesis closed = record { no_parenthesis = refl; no_semicolon = refl; no_else = tt }
  behind_parenthesis dangling = record { no_parenthesis = refl; no_semicolon = refl; no_else = refl }

  behind_else : {ws : List Word} → Behind closed (mark (codes "else") ∷ ws)
  behind_else = record { no_parenthesis = refl; no_semicolon = refl; no_else = tt }

  -- a branch that no `else` follows, however it ends
  branch : (e : Ending) (ws : List Word) → Behind dangling ws → Behind e ws
  branch closed ws b = record { no_parenthesis = b.no_parenthesis; no_semicolon = b.no_semicolon; no_else = tt }
  branch dangling ws b = b

  bar_follows : {w : List ℕ} {n m : ℕ} {l : Limit} {vs : List Open} {ws : List Word} → IsBar w → n + 1 ≤ m
      → Reads n ((part Process Below, m - 1) ∷ (level Joined, n) ∷ vs) ws → Reads n ((part Bars l, m) ∷ vs) (mark w ∷ ws)
  bar_follows {n = n} {m = m} one_bar le h = on_row refl (fits (n + 1) m le) h
  bar_follows {n = n} {m = m} two_bars le h = on_row refl (fits (n + 1) m le) h

  at_levels : {n k : ℕ} {vs : List Open} {ws : List Word} → n ≡ k → Reads n vs ws → Reads k vs ws
  at_levels {vs = vs} {ws = ws} e h = subst (λ (j : ℕ). Reads j vs ws) e h

  mutual
    pub seq_follows : {g : Sig} {e : Ending} {p : Written} {k : ℕ} {a b : List Word} {n m : ℕ} {l : Limit} {vs : List Open} → IsSeq g FILE_LIMITS e p k a b → k ≤ m → Behind e (b ++ r)
        → Reads k vs (b ++ r) → Reads n ((part Sequence l, m) ∷ vs) (a ++ r)
    seq_follows (seq_nil {a = a}) le o h = on_row refl refl (on_level (a ++ r) (some_word (a ++ r) o.no_parenthesis) h)
    seq_follows (seq_call {a = a}) le o h =
        on_row refl refl (instead (a ++ r) refl refl (no_arguments (a ++ r) o.no_parenthesis) (on_level (a ++ r) (some_word (a ++ r) o.no_parenthesis) h))
    seq_follows (seq_use {b = b} s small) le o h =
        on_row refl refl (on_row refl refl (list_follows r s (small_levels _ small) (on_level (b ++ r) (some_word (b ++ r) o.no_parenthesis) h)))
    seq_follows {n = n} {m = m} (seq_parentheses {n = j} {b = b} s) le o h =
        let one = par_levels s in
        on_row refl (has_room m n (omega (arith, one, le)))
        (par_follows s (omega (arith, le)) behind_parenthesis refl (on_word refl (on_level (b ++ r) (some_word (b ++ r) o.no_parenthesis) h)))
    seq_follows {n = n} {m = m} (seq_replicated {b = b} s) le o h =
        let one = seq_levels s in
        on_row refl (has_room m n (omega (arith, one, le))) (seq_follows s (omega (arith, le)) o (on_level (b ++ r) (some_word (b ++ r) o.no_parenthesis) h))
    seq_follows (seq_action {b = b} s) le o h =
        action_follows s le o.no_parenthesis (λ j. instead (b ++ r) refl refl o.no_semicolon (on_level (b ++ r) (some_word (b ++ r) o.no_parenthesis) h))
    seq_follows (seq_then {c = c} s q) le o h =
        let one = seq_levels q in
        action_follows s (omega (arith, one, le)) refl (λ j. on_row refl refl (seq_follows q (omega (arith, le)) o (on_level (c ++ r) (some_word (c ++ r) o.no_parenthesis) h)))
    seq_follows {n = n} {m = m} (seq_if {e = e} {n = j} {d = d} s u q) le o h =
        let one = seq_levels q in
        on_row refl (has_room m n (omega (arith, one, le))) (term_follows r s.spelled s.small.few_levels refl (on_word refl (term_follows r u.spelled u.small.few_levels refl (on_word refl
        (seq_follows q (omega (arith, le)) (branch e (d ++ r) o)
        (instead (d ++ r) refl refl o.no_else (on_level (d ++ r) (some_word (d ++ r) o.no_parenthesis) (at_levels (one_branch j one) h))))))))
    seq_follows {n = n} {m = m} (seq_if_else {f = f} s u q v) le o h =
        let one = seq_levels q in
        on_row refl (has_room m n (omega (arith, one, le))) (term_follows r s.spelled s.small.few_levels refl (on_word refl (term_follows r u.spelled u.small.few_levels refl (on_word refl
        (seq_follows q (omega (arith, le)) behind_else
        (on_row refl refl (seq_follows v (omega (arith, le)) o (on_level (f ++ r) (some_word (f ++ r) o.no_parenthesis) h))))))))
    seq_follows {n = n} {m = m} (seq_lookup {e = e} {n = j} {c = c} s q) le o h =
        let one = seq_levels q in
        on_row refl (has_room m n (omega (arith, one, le))) (term_follows r s.spelled s.small.few_levels refl (on_word refl (on_word refl (on_word refl
        (seq_follows q (omega (arith, le)) (branch e (c ++ r) o)
        (instead (c ++ r) refl refl o.no_else (on_level (c ++ r) (some_word (c ++ r) o.no_parenthesis) (at_levels (one_branch j one) h))))))))
    seq_follows {n = n} {m = m} (seq_lookup_else {d = d} s q v) le o h =
        let one = seq_levels q in
        on_row refl (has_room m n (omega (arith, one, le))) (term_follows r s.spelled s.small.few_levels refl (on_word refl (on_word refl (on_word refl
        (seq_follows q (omega (arith, le)) behind_else
        (on_row refl refl (seq_follows v (omega (arith, le)) o (on_level (d ++ r) (some_word (d ++ r) o.no_parenthesis) h))))))))

    pub par_follows : {g : Sig} {p : Written} {k : ℕ} {a b : List Word} {n m : ℕ} {l : Limit} {vs : List Open} → IsPar g FILE_LIMITS p k a b → k ≤ m → ((e : Ending) → Behind e (b ++ r))
        → NoRow Bars (b ++ r) → Reads k vs (b ++ r) → Reads n ((part Process l, m) ∷ vs) (a ++ r)
    par_follows (par_one {e = e} {a = a} {b = b} s) le o none h =
        instead (a ++ r) refl refl (no_process_row (a ++ r) (seq_word r s))
        (seq_follows s le (o e) (instead (b ++ r) refl refl none h))
    par_follows (par_more {a = a} {c = c} w s q) le o none h =
        instead (a ++ r) refl refl (no_process_row (a ++ r) (seq_word r s))
        (seq_follows s (omega (arith, le)) (behind_bar w)
        (bar_follows w (omega (arith, le)) (par_follows q (omega (arith, le)) o none (on_level (c ++ r) (some_word (c ++ r) (o closed).no_parenthesis) h))))
