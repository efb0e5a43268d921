-- Processes that follow the table are spelled by the grammar, with their levels.
use Rattle.std.proofs.Common.{◌≤◌, ℕ, List, [], ◌∷◌, None}
use Rattle.std.specs.Prelude.{◌≡◌}
use Rattle.sap_terms.specs.Signature.{Sig}
use Rattle.sap_grammar.specs.Words.{Word}
use Rattle.sap_macro.specs.Written.{Written}
use Rattle.sap_draft.specs.declared.limits.TheConstants.{FILE_LIMITS}
use Rattle.sap_draft.specs.ProcessGrammar.{Ending, IsPar, IsSeq}
use Rattle.sap_expect.specs.declared.wanted.Limit.{Limit}
use Rattle.sap_expect.specs.declared.wanted.Part.{Part}
use Rattle.sap_expect.specs.declared.wanted.Part.TheVariants.{Application, Arguments, Arrow, Bars, Else, Fact, Facts, Message, MoreFacts, MoreParts, MoreShown, MoreTerms, NewName, Pair, Process, Sequence, Shown, Term, Terms, Then}
use Rattle.sap_expect.specs.FileTable.{Open, Reads, otherwise, part, row, rows}
use Rattle.sap_expect.proofs.Meant.{AreOther, AreRow, Each, Parted, parted, reads_of}
use Rattle.sap_expect.proofs.SequenceRows.{arguments_other, arguments_row, arrow_row, bars_other, bars_row, else_other, else_row, message_row, new_name_row, of_processes, process_other, sequence_row, then_other, then_row}
use Rattle.sap_expect.proofs.SpelledTerms.{fact_others, fact_rows}

-- any word
abbrev Free : Word → Type 0
Free w = Unit {0}

module _ (g : Sig) where
  process_rows : (p : Part) (m n : ℕ) (w : Word) (a : List Word) (k : ℕ) (b : List Word) → AreRow (of_processes g) (rows p) m n w a k b → of_processes g p m n (w ∷ a) k b
  process_rows NewName m n w a k b h = new_name_row g m n h
  process_rows Message m n w a k b h = message_row g m n h
  process_rows Arrow m n w a k b h = arrow_row g m n h
  process_rows Arguments m n w a k b h = arguments_row g m n h
  process_rows Then m n w a k b h = then_row g m n h
  process_rows Else m n w a k b h = else_row g m n h
  process_rows Sequence m n w a k b h = sequence_row g m n h
  process_rows Process m n w a k b h = absurd h
  process_rows Bars m n w a k b h = bars_row g m n h
  process_rows Term m n w a k b h = fact_rows g Term m n w a k b h
  process_rows Application m n w a k b h = fact_rows g Application m n w a k b h
  process_rows Terms m n w a k b h = fact_rows g Terms m n w a k b h
  process_rows MoreTerms m n w a k b h = fact_rows g MoreTerms m n w a k b h
  process_rows Pair m n w a k b h = fact_rows g Pair m n w a k b h
  process_rows MoreParts m n w a k b h = fact_rows g MoreParts m n w a k b h
  process_rows Fact m n w a k b h = fact_rows g Fact m n w a k b h
  process_rows Facts m n w a k b h = fact_rows g Facts m n w a k b h
  process_rows MoreFacts m n w a k b h = fact_rows g MoreFacts m n w a k b h
  process_rows Shown m n w a k b h = fact_rows g Shown m n w a k b h
  process_rows MoreShown m n w a k b h = fact_rows g MoreShown m n w a k b h
  process_rows p m n w a k b h = tt

  process_others : (p : Part) (m n : ℕ) (w : Word) (a : List Word) (k : ℕ) (b : List Word) → row p w ≡ None → AreOther (of_processes g) (otherwise p) m n (w ∷ a) k b → of_processes g p m n (w ∷ a) k b
  process_others NewName m n w a k b e h = absurd h
  process_others Message m n w a k b e h = absurd h
  process_others Arrow m n w a k b e h = absurd h
  process_others Arguments m n w a k b e h = arguments_other g m n h
  process_others Then m n w a k b e h = then_other g m n h
  process_others Else m n w a k b e h = else_other g m n e h
  process_others Sequence m n w a k b e h = absurd h
  process_others Process m n w a k b e h = process_other g m n h
  process_others Bars m n w a k b e h = bars_other g m n h
  process_others Term m n w a k b e h = absurd h
  process_others Application m n w a k b e h = fact_others g Application m n w a k b e h
  process_others Terms m n w a k b e h = fact_others g Terms m n w a k b e h
  process_others MoreTerms m n w a k b e h = absurd h
  process_others Pair m n w a k b e h = absurd h
  process_others MoreParts m n w a k b e h = absurd h
  process_others Fact m n w a k b e h = absurd h
  process_others Facts m n w a k b e h = fact_others g Facts m n w a k b e h
  process_others MoreFacts m n w a k b e h = absurd h
  process_others Shown m n w a k b e h = absurd h
  process_others MoreShown m n w a k b e h = absurd h
  process_others p m n w a k b e h = tt

  each_free : (ws : List Word) → Each (of_processes g) Free ws
  each_free [] = tt
  each_free (w ∷ ws) = (tt, each_free ws)

  parts : (n : ℕ) (vs : List Open) (ws : List Word) → Reads n vs ws → Parted (of_processes g) n vs ws
  parts n vs ws r = parted (of_processes g) Free (λ p m n w a k b l h. process_rows p m n w a k b h) (λ p m n w a k b l e h. process_others p m n w a k b e h) r (each_free ws)

  pub sequence_spelled : (n m : ℕ) (l : Limit) (vs : List Open) (ws : List Word) → 1 ≤ m → Reads n ((part Sequence l, m) ∷ vs) ws
      → (e : Ending) × (p : Written) × (k : ℕ) × (b : List Word) × IsSeq g FILE_LIMITS e p k ws b × (k ≤ m) × Reads k vs b
  sequence_spelled n m l vs ws one r =
      let h = parts n ((part Sequence l, m) ∷ vs) ws r in
      let s = h.1.2 one in
      (s.ending, s.process, h.1.0, h.1.1, s.is, s.few, reads_of (of_processes g) h.1.0 vs h.1.1 h.1.3)

  pub process_spelled : (n m : ℕ) (l : Limit) (vs : List Open) (ws : List Word) → 1 ≤ m → Reads n ((part Process l, m) ∷ vs) ws
      → (p : Written) × (k : ℕ) × (b : List Word) × IsPar g FILE_LIMITS p k ws b × (k ≤ m) × Reads k vs b
  process_spelled n m l vs ws one r =
      let h = parts n ((part Process l, m) ∷ vs) ws r in
      let s = h.1.2 one in
      (s.process, h.1.0, h.1.1, s.is, s.few, reads_of (of_processes g) h.1.0 vs h.1.1 h.1.3)
