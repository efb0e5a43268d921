-- Bytes are one run, or refused.
use Rattle.std.proofs.Common.{◌≡◌, ℕ, List, Result, Ok, Err, arith}
use Rattle.sap_run_texts.specs.RunTexts.{IsRunRead}
use Rattle.sap_run_texts.specs.declared.run.Kinds.{Kinds}
use Rattle.sap_run_texts.specs.declared.run.Run.{Run}
use Rattle.sap_run_texts.specs.declared.run_fault.RunFault.{RunFault}
use Rattle.sap_outside.specs.RunPieces.{IsRunAnswer, is_run, too_long, bad_head, bad_line, too_many_of_process, too_many_of_rules}
use Rattle.sap_outside.specs.declared.run_refusal.RunRefusal.{RunRefusal}

-- bytes are read as one run, or refused for one cause
abbrev pub OneRun : Type 0
OneRun = (k : Kinds) (z : List ℕ) (o r : Result Run RunFault) → IsRunRead k z o → IsRunRead k z r → o ≡ r

module _ (one : OneRun) (k : Kinds) (z : List ℕ) where
  clash : (r : Run) (e : RunFault) → IsRunRead k z (Ok r) → IsRunRead k z (Err e) → ⊥
  clash r e a b = let same : ◌≡◌ {A = Result Run RunFault} (Ok r) (Err e) = one k z (Ok r) (Err e) a b in cc (same)

  -- what is answered is a run, or a refusal
  pub not_both : (r : Run) (e : RunRefusal) → IsRunAnswer k z (Ok r) → IsRunAnswer k z (Err e) → ⊥
  not_both r e (is_run l a) (too_long m) = omega (arith, l, m)
  not_both r e (is_run l a) (bad_head m b) = clash r _ a b
  not_both r e (is_run l a) (bad_line m b) = clash r _ a b
  not_both r e (is_run l a) (too_many_of_process m h b) = clash r _ a b
  not_both r e (is_run l a) (too_many_of_rules m h b) = clash r _ a b

  -- and one run
  pub same_run : (r s : Run) → IsRunAnswer k z (Ok r) → IsRunAnswer k z (Ok s) → r ≡ s
  same_run r s (is_run l a) (is_run m b) = let same : ◌≡◌ {A = Result Run RunFault} (Ok r) (Ok s) = one k z (Ok r) (Ok s) a b in cc
