-- Ground processes, and configurations of ground processes and messages.
use Rattle.std.specs.Prelude.{◌≡◌, ℕ, [], Some, Contains}
use Rattle.sap_terms.specs.Message.{IsMessage}
use Rattle.sap_terms.specs.Signature.{Sig}
use Rattle.sap_terms.specs.Tree.{Tree}
use Rattle.sap_terms.specs.declared.fact.Fact.{Fact}
use Rattle.sap_terms.specs.declared.var.Sort.TheVariants.{Msg}
use Rattle.sap_process.specs.Configuration.{Config, Runs}
use Rattle.sap_process.specs.Flaws.{unbound}
use Rattle.sap_process.specs.Proc.{Proc}
use Rattle.sap_process.specs.Sites.{Site, sites}

-- at no place a name is used that nothing above binds
abbrev pub IsGroundProcess : Proc → Type 0
IsGroundProcess p = (s : Site) → Contains (sites p) s → unbound s.above.scope s.body ≡ []

-- each argument of the fact is a message
abbrev pub HoldsMessages : Sig → Fact → Type 0
HoldsMessages g f = (t : Tree) → Contains f.args t → IsMessage g Msg t

-- each running process is ground; what was sent, each key of the store with what it has, and the arguments of the facts are
-- messages
pub record IsGroundConfig (g : Sig) (c : Config) : Type 0 where
  pub threads : (t : ℕ) (p : Proc) → Runs c t p → IsGroundProcess p
  pub frame : (x : Tree) → Contains c.frame x → IsMessage g Msg x
  pub store : (k v : Tree) → c.store k ≡ Some v → IsMessage g Msg k × IsMessage g Msg v
  pub facts : (f : Fact) → Contains c.facts (Some f) → HoldsMessages g f
