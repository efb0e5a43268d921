-- What is written where a thread goes on by one rule.
use Rattle.std.specs.Prelude.{ℕ, List, [], ◌∷◌, codes, refl}
use Rattle.sap_process.specs.Action.{event, insert, delete, unlock}
use Rattle.sap_process.specs.Proc.{act, test, lookup}
use Rattle.sap_runs.specs.declared.process_step.PStep.TheVariants as line
use Rattle.sap_runs.specs.declared.rule_step.RStep.{RStep}
use Rattle.sap_forward.specs.LinesFor.{uses}
use Rattle.sap_forward.specs.Written.{IsWrittenAsRules}
use Rattle.sap_forward.specs.code.Steps.{Goes, WritesAny}
use Rattle.sap_forward.specs.declared.desk.Desk.{Desk}
use Rattle.sap_forward.proofs.Keeping.{moves_on, moves_aside}

pub writes_then : (d e : Desk) (t : ℕ) (before after : List RStep) → Goes d e t 1 (λ x. x.first) 0 before after (λ path k n. uses (codes "Then_") path (k ∷ []) [] ∷ []) → WritesAny d e (line.Then t) before after
writes_then d e t before after moves found g start drawn agents later c tables behind ls keeps (IsWrittenAsRules.agrees t' k path env m n p q seated) binds =
    moves_on start drawn agents tables d keeps t' k 0 path env env (test m n p q) p e before after (λ ds j i. uses (codes "Then_") ds (j ∷ []) [] ∷ []) seated refl moves

pub writes_otherwise : (d e : Desk) (t : ℕ) (before after : List RStep) → Goes d e t 2 (λ x. x.second) 0 before after (λ path k n. uses (codes "Else_") path (k ∷ []) [] ∷ []) → WritesAny d e (line.Else t) before after
writes_otherwise d e t before after moves found g start drawn agents later c tables behind ls keeps (IsWrittenAsRules.differs t' k path env m n p q seated) binds =
    moves_aside start drawn agents tables d keeps t' k 0 path env env (test m n p q) q e before after (λ ds j i. uses (codes "Else_") ds (j ∷ []) [] ∷ []) seated refl moves

pub writes_event : (d e : Desk) (t : ℕ) (before after : List RStep) → Goes d e t 1 (λ x. x.first) 0 before after (λ path k n. uses (codes "Event_") path (k ∷ []) [] ∷ []) → WritesAny d e (line.Event t) before after
writes_event d e t before after moves found g start drawn agents later c tables behind ls keeps (IsWrittenAsRules.shows t' k path env f p seated) binds =
    moves_on start drawn agents tables d keeps t' k 0 path env env (act (event f) p) p e before after (λ ds j i. uses (codes "Event_") ds (j ∷ []) [] ∷ []) seated refl moves

pub writes_insert : (d e : Desk) (t : ℕ) (before after : List RStep) → Goes d e t 1 (λ x. x.first) 0 before after (λ path k n. uses (codes "Insert_") path (k ∷ []) [] ∷ []) → WritesAny d e (line.Insert t) before after
writes_insert d e t before after moves found g start drawn agents later c tables behind ls keeps (IsWrittenAsRules.inserts t' k path env m n p seated) binds =
    moves_on start drawn agents tables d keeps t' k 0 path env env (act (insert m n) p) p e before after (λ ds j i. uses (codes "Insert_") ds (j ∷ []) [] ∷ []) seated refl moves

pub writes_delete : (d e : Desk) (t : ℕ) (before after : List RStep) → Goes d e t 1 (λ x. x.first) 0 before after (λ path k n. uses (codes "Delete_") path (k ∷ []) [] ∷ []) → WritesAny d e (line.Delete t) before after
writes_delete d e t before after moves found g start drawn agents later c tables behind ls keeps (IsWrittenAsRules.deletes t' k path env m p seated) binds =
    moves_on start drawn agents tables d keeps t' k 0 path env env (act (delete m) p) p e before after (λ ds j i. uses (codes "Delete_") ds (j ∷ []) [] ∷ []) seated refl moves

pub writes_missing : (d e : Desk) (t : ℕ) (before after : List RStep) → Goes d e t 2 (λ x. x.second) 0 before after (λ path k n. uses (codes "Missing_") path (k ∷ []) [] ∷ []) → WritesAny d e (line.Missing t) before after
writes_missing d e t before after moves found g start drawn agents later c tables behind ls keeps (IsWrittenAsRules.misses t' k path env m y p q seated) binds =
    moves_aside start drawn agents tables d keeps t' k 0 path env env (lookup m y p q) q e before after (λ ds j i. uses (codes "Missing_") ds (j ∷ []) [] ∷ []) seated refl moves

pub writes_unlock : (d e : Desk) (t : ℕ) (before after : List RStep) → Goes d e t 1 (λ x. x.first) 0 before after (λ path k n. uses (codes "Unlock_") path (k ∷ []) [] ∷ []) → WritesAny d e (line.Unlock t) before after
writes_unlock d e t before after moves found g start drawn agents later c tables behind ls keeps (IsWrittenAsRules.unlocks t' k path env m l p seated) binds =
    moves_on start drawn agents tables d keeps t' k 0 path env env (act (unlock m l) p) p e before after (λ ds j i. uses (codes "Unlock_") ds (j ∷ []) [] ∷ []) seated refl moves
