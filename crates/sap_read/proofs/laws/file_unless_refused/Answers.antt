use Rattle.std.proofs.Common.{Ok, Err}
use Rattle.std.specs.Prelude.{ℕ, List, Result}
use Rattle.sap_read.specs.declared.fault.ReadFault.{ReadFault}
use Rattle.sap_read.specs.Files.{FileContent, IsRead}
use Rattle.sap_read.proofs.laws.file_unless_refused.Goals as goal

read_whole : (z : List ℕ) → ((e : ReadFault) → IsRead z (Err e) → ⊥) → (o : Result FileContent ReadFault) → IsRead z o → (f : FileContent) × IsRead z (Ok f)
read_whole z never (Ok f) r = (f, r)
read_whole z never (Err e) r = absurd (never e r)

pub returns : goal.returns
returns c = λ z never. let o = c.some_file.ensures z in read_whole z never o.0 o.1
