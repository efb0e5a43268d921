-- Rows of the table for processes, backwards.
use Rattle.std.proofs.Common.{◌≡◌, ◌≤◌, ◌+◌, ◌-◌, ℕ, Bool, true, false, inl, inr, List, ◌∷◌, Some, None, refl, arith}
use Rattle.std.specs.Prelude.{codes, if◌then◌else◌}
use Rattle.sap_terms.specs.Signature.{Sig}
use Rattle.sap_grammar.specs.Words.{Word, is_mark, mark}
use Rattle.sap_grammar.proofs.ReadingLaws.Limits.{le_of}
use Rattle.sap_draft.specs.ProcessGrammar.{action_delete, action_event, action_insert, action_lock, action_unlock, one_bar, two_bars}
use Rattle.sap_expect.specs.declared.wanted.Part.TheVariants.{Arguments, Arrow, Bars, Else, Message, NewName, Process, Sequence, Then}
use Rattle.sap_expect.specs.FileTable.{Turn, otherwise, row, rows}
use Rattle.sap_expect.proofs.FollowProcess.{seq_levels}
use Rattle.sap_expect.proofs.Meant.{AreOther, AreRow, Meaning, ends_there, first, is_any, is_capital, is_changed, is_sign, is_zero, same}
use Rattle.sap_expect.proofs.MeantProcesses.{HasArguments, HasArrow, HasBars, HasElse, HasMessage, HasProcess, HasSequence, HasThen, IsNewName, act_sequence, arrow_plain, arrow_shows, bars_more, bars_none, else_none, else_some, group_sequence, if_sequence, in_action, lookup_sequence, message_end, message_second, new_action, new_fresh, new_message, nil_sequence, out_action, process_of, replicated_sequence, rule_action, then_none, then_some, use_sequence, with_arguments, without_arguments}
use Rattle.sap_expect.proofs.FactRows.{linear_fact, of_facts, short_of, small_list}

abbrev pub of_processes : Sig → Meaning
of_processes g NewName m n a k b = IsNewName a b
of_processes g Message m n a k b = HasMessage g a b
of_processes g Arrow m n a k b = HasArrow g a b
of_processes g Arguments m n a k b = HasArguments g a k b
of_processes g Then m n a k b = 2 ≤ m → HasThen g m a k b
of_processes g Else m n a k b = 2 ≤ m → HasElse g m n a k b
of_processes g Sequence m n a k b = 1 ≤ m → HasSequence g m a k b
of_processes g Process m n a k b = 1 ≤ m → HasProcess g m a k b
of_processes g Bars m n a k b = 1 ≤ n → HasBars g m n a k b
of_processes g p m n a k b = of_facts g p m n a k b

below : (m : ℕ) → 2 ≤ m → 1 ≤ m - 1
below m two = omega (arith, two)

above : (m : ℕ) → 2 ≤ m → 1 ≤ m
above m two = omega (arith, two)

below_bar : (n m : ℕ) → n + 1 ≤ m → 1 ≤ n → 1 ≤ m - 1
below_bar n m on one = omega (arith, on, one)

-- a word that begins no row
not_first : (t : Turn) (c : Bool) → (if c then Some t else None) ≡ None → c ≡ false
not_first t true e = absurd (cc (e))
not_first t false e = refl

module _ (g : Sig) (m n : ℕ) where
  pub new_name_row : {w : Word} {a : List Word} {k : ℕ} {b : List Word} → AreRow (of_processes g) (rows NewName) m n w a k b → IsNewName (w ∷ a) b
  new_name_row (inl (is_sign, o, (i, c, first is_any, same))) = new_fresh
  new_name_row (inr (_, inl (is_any, o, same))) = new_message
  new_name_row (inr (_, inr (_, h))) = absurd h

  pub message_row : {w : Word} {a : List Word} {k : ℕ} {b : List Word} → AreRow (of_processes g) (rows Message) m n w a k b → HasMessage g (w ∷ a) b
  message_row (inl (is_sign, o, same)) = message_end
  message_row (inr (_, inl (is_sign, o, (i, c, t, (j, d, first is_sign, same))))) = message_second (short_of t).1
  message_row (inr (_, inr (_, h))) = absurd h

  pub arrow_row : {w : Word} {a : List Word} {k : ℕ} {b : List Word} → AreRow (of_processes g) (rows Arrow) m n w a k b → HasArrow g (w ∷ a) b
  arrow_row (inl (is_sign, o, (i, c, first is_sign, (j, d, fs, same)))) = arrow_plain fs
  arrow_row (inr (_, inl (is_sign, o, (i, c, es, (j, d, first is_sign, (x, e, fs, same)))))) = arrow_shows es fs
  arrow_row (inr (_, inr (_, h))) = absurd h

  pub arguments_row : {w : Word} {a : List Word} {k : ℕ} {b : List Word} → AreRow (of_processes g) (rows Arguments) m n w a k b → HasArguments g (w ∷ a) k b
  arguments_row (inl (is_sign, o, (i, c, t, (j, d, more, (x, e, is_changed, same))))) = let l = small_list t more in with_arguments l.1 l.2
  arguments_row (inr (_, h)) = absurd h

  pub arguments_other : {w : Word} {a : List Word} {k : ℕ} {b : List Word} → AreOther (of_processes g) (otherwise Arguments) m n (w ∷ a) k b → HasArguments g (w ∷ a) k b
  arguments_other (o, (i, c, is_changed, same)) = without_arguments

  pub then_row : {w : Word} {a : List Word} {k : ℕ} {b : List Word} → AreRow (of_processes g) (rows Then) m n w a k b → 2 ≤ m → HasThen g m (w ∷ a) k b
  then_row {a = a} (inl (is_sign, o, (i, c, s, (j, d, is_changed, e)))) two = ends_there (HasThen g m (mark (codes ";") ∷ a)) e (then_some (s (below m two)))
  then_row (inr (_, h)) two = absurd h

  pub then_other : {w : Word} {a : List Word} {k : ℕ} {b : List Word} → AreOther (of_processes g) (otherwise Then) m n (w ∷ a) k b → 2 ≤ m → HasThen g m (w ∷ a) k b
  then_other (o, (i, c, is_changed, same)) two = then_none

  pub else_row : {w : Word} {a : List Word} {k : ℕ} {b : List Word} → AreRow (of_processes g) (rows Else) m n w a k b → 2 ≤ m → HasElse g m n (w ∷ a) k b
  else_row {a = a} (inl (is_sign, o, (i, c, s, (j, d, is_changed, e)))) two = ends_there (HasElse g m n (mark (codes "else") ∷ a)) e (else_some (s (below m two)))
  else_row (inr (_, h)) two = absurd h

  pub else_other : {w : Word} {a : List Word} {k : ℕ} {b : List Word} → row Else w ≡ None → AreOther (of_processes g) (otherwise Else) m n (w ∷ a) k b → 2 ≤ m → HasElse g m n (w ∷ a) k b
  else_other {w = w} e (o, (i, c, is_changed, same)) two = else_none (not_first _ (is_mark (codes "else") w) e)

  pub process_other : {w : Word} {a : List Word} {k : ℕ} {b : List Word} → AreOther (of_processes g) (otherwise Process) m n (w ∷ a) k b → 1 ≤ m → HasProcess g m (w ∷ a) k b
  process_other (o, (i, c, s, (j, d, bars, same))) one =
      let h = s one in
      process_of h (bars (seq_levels h.is))

  pub bars_row : {w : Word} {a : List Word} {k : ℕ} {b : List Word} → AreRow (of_processes g) (rows Bars) m n w a k b → 1 ≤ n → HasBars g m n (w ∷ a) k b
  bars_row {a = a} (inl (is_sign, o, (i, c, p, (j, d, is_changed, e)))) one =
      let on = le_of (n + 1) m o in
      ends_there (HasBars g m n (mark (codes "|") ∷ a)) e (bars_more on one_bar (p (below_bar n m on one)))
  bars_row {a = a} (inr (_, inl (is_sign, o, (i, c, p, (j, d, is_changed, e))))) one =
      let on = le_of (n + 1) m o in
      ends_there (HasBars g m n (mark (codes "||") ∷ a)) e (bars_more on two_bars (p (below_bar n m on one)))
  bars_row (inr (_, inr (_, h))) one = absurd h

  pub bars_other : {w : Word} {a : List Word} {k : ℕ} {b : List Word} → AreOther (of_processes g) (otherwise Bars) m n (w ∷ a) k b → 1 ≤ n → HasBars g m n (w ∷ a) k b
  bars_other (o, same) one = bars_none

  pub sequence_row : {w : Word} {a : List Word} {k : ℕ} {b : List Word} → AreRow (of_processes g) (rows Sequence) m n w a k b → 1 ≤ m → HasSequence g m (w ∷ a) k b
  sequence_row (inl (is_zero, o, (i, c, is_changed, same))) one = nil_sequence one
  sequence_row (inr (_, inl (is_any, o, (i, c, s, same)))) one = use_sequence _ one s
  sequence_row {a = a} (inr (_, inr (_, inl (is_sign, o, (i, c, p, (j, d, first is_sign, (x, y, is_changed, e))))))) one =
      let two = le_of 2 m o in
      ends_there (HasSequence g m (mark (codes "(") ∷ a)) e (group_sequence two (p (below m two)))
  sequence_row {a = a} (inr (_, inr (_, inr (_, inl (is_sign, o, (i, c, s, (j, d, is_changed, e))))))) one =
      let two = le_of 2 m o in
      ends_there (HasSequence g m (mark (codes "!") ∷ a)) e (replicated_sequence two (s (below m two)))
  sequence_row (inr (_, inr (_, inr (_, inr (_, inl (is_sign, o, (i, c, x, (j, d, q, same)))))))) one =
      let two = le_of 2 m o in
      act_sequence two (new_action x) (q two)
  sequence_row (inr (_, inr (_, inr (_, inr (_, inr (_, inl (is_sign, o, (i, c, first is_sign, (j, d, t, (x, e, u, (y, f, q, same))))))))))) one =
      let two = le_of 2 m o in
      act_sequence two (out_action (short_of t).1 u) (q two)
  sequence_row (inr (_, inr (_, inr (_, inr (_, inr (_, inr (_, inl (is_sign, o, (i, c, first is_sign, (j, d, t, (x, e, u, (y, f, q, same)))))))))))) one =
      let two = le_of 2 m o in
      act_sequence two (in_action (short_of t).1 u) (q two)
  sequence_row (inr (_, inr (_, inr (_, inr (_, inr (_, inr (_, inr (_, inl (is_sign, o, (i, c, first (is_capital up), (j, d, first is_sign, (x, e, s, (y, f, q, same))))))))))))) one =
      let two = le_of 2 m o in
      act_sequence two (_, action_event (linear_fact false up s).1) (q two)
  sequence_row (inr (_, inr (_, inr (_, inr (_, inr (_, inr (_, inr (_, inr (_, inl (is_sign, o, (i, c, t, (j, d, first is_sign, (x, e, u, (y, f, q, same)))))))))))))) one =
      let two = le_of 2 m o in
      act_sequence two (_, action_insert (short_of t).1 (short_of u).1) (q two)
  sequence_row (inr (_, inr (_, inr (_, inr (_, inr (_, inr (_, inr (_, inr (_, inr (_, inl (is_sign, o, (i, c, t, (j, d, q, same))))))))))))) one =
      let two = le_of 2 m o in
      act_sequence two (_, action_delete (short_of t).1) (q two)
  sequence_row (inr (_, inr (_, inr (_, inr (_, inr (_, inr (_, inr (_, inr (_, inr (_, inr (_, inl (is_sign, o, (i, c, t, (j, d, q, same)))))))))))))) one =
      let two = le_of 2 m o in
      act_sequence two (_, action_lock (short_of t).1) (q two)
  sequence_row (inr (_, inr (_, inr (_, inr (_, inr (_, inr (_, inr (_, inr (_, inr (_, inr (_, inr (_, inl (is_sign, o, (i, c, t, (j, d, q, same))))))))))))))) one =
      let two = le_of 2 m o in
      act_sequence two (_, action_unlock (short_of t).1) (q two)
  sequence_row (inr (_, inr (_, inr (_, inr (_, inr (_, inr (_, inr (_, inr (_, inr (_, inr (_, inr (_, inr (_, inl (is_sign, o, (i, c, fs, (j, d, x, (y, e, q, same))))))))))))))))) one =
      let two = le_of 2 m o in
      act_sequence two (rule_action fs x) (q two)
  sequence_row (inr (_, inr (_, inr (_, inr (_, inr (_, inr (_, inr (_, inr (_, inr (_, inr (_, inr (_, inr (_, inr (_, inl (is_sign, o, (i, c, t, (j, d, first is_sign, (x, e, u, (y, f, first is_sign, (z, p, s, (v, q, r, same))))))))))))))))))))) one =
      let two = le_of 2 m o in
      if_sequence two (short_of t).1 (short_of u).1 (s (below m two)) (r two)
  sequence_row (inr (_, inr (_, inr (_, inr (_, inr (_, inr (_, inr (_, inr (_, inr (_, inr (_, inr (_, inr (_, inr (_, inr (_, inl (is_sign, o, (i, c, t, (j, d, first is_sign, (x, e, first is_any, (y, f, first is_sign, (z, p, s, (v, q, r, same)))))))))))))))))))))) one =
      let two = le_of 2 m o in
      lookup_sequence _ two (short_of t).1 (s (below m two)) (r two)
  sequence_row (inr (_, inr (_, inr (_, inr (_, inr (_, inr (_, inr (_, inr (_, inr (_, inr (_, inr (_, inr (_, inr (_, inr (_, inr (_, h)))))))))))))))) one = absurd h
