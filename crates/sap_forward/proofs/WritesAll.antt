-- What is written for a line that isn't `found`.
use Rattle.std.proofs.Common.{◌≡◌, ℕ, List, refl}
use Rattle.sap_runs.specs.declared.process_step.PStep.{PStep}
use Rattle.sap_runs.specs.declared.process_step.PStep.TheVariants as line
use Rattle.sap_runs.specs.declared.rule_step.RStep.{RStep}
use Rattle.sap_forward.specs.code.Steps.{WritesAny, WritesPlain}
use Rattle.sap_forward.specs.declared.desk.Desk.{Desk}

pub plain_writes : (d e : Desk) (step : PStep) (before after : List RStep) → ((t : ℕ) → step ≡ line.Found t → ⊥) → WritesPlain d e step before after → WritesAny d e step before after
plain_writes d e (line.Nil t) before after other h = h
plain_writes d e (line.Par t) before after other h = h
plain_writes d e (line.Rep t) before after other h = h
plain_writes d e (line.New t n) before after other h = h
plain_writes d e (line.Out t) before after other h = h
plain_writes d e (line.Send t k) before after other h = h
plain_writes d e (line.In t k) before after other h = h
plain_writes d e (line.Sync s t) before after other h = h
plain_writes d e (line.Then t) before after other h = h
plain_writes d e (line.Else t) before after other h = h
plain_writes d e (line.Event t) before after other h = h
plain_writes d e (line.Insert t) before after other h = h
plain_writes d e (line.Delete t) before after other h = h
plain_writes d e (line.Found t) before after other h = absurd (other t refl)
plain_writes d e (line.Missing t) before after other h = h
plain_writes d e (line.Lock t) before after other h = h
plain_writes d e (line.Unlock t) before after other h = h
plain_writes d e (line.Embedded t ks b) before after other h = h
plain_writes d e (line.Name n) before after other h = h
plain_writes d e (line.Public a) before after other h = h
plain_writes d e (line.Apply f ks) before after other h = h
plain_writes d e (line.Know k) before after other h = h
