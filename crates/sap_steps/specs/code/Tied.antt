-- What the parts of a state have to do with each other.
use Rattle.std.specs.Prelude.{List, All}
use Rattle.sap_deduce.specs.Entries.{Entries, AreNumbered}
use Rattle.sap_sides.specs.Messages.{HoldsSmallMessages}
use Rattle.sap_steps.specs.code.Piled.{Piled, table_of}
use Rattle.sap_steps.specs.code.Ready.{IsReady}
use Rattle.sap_steps.specs.declared.prepared.Prepared.{Prepared}

-- the rules can be run over the signature of the entries, facts hold messages over it of at most 256 nodes, and the entries
-- have their numbers in the table of the facts
pub record IsTied (rules : List Prepared) (facts : Piled) (entries : Entries) : Type 0 where
  pub ready : All (IsReady entries.sig) rules
  pub held : HoldsSmallMessages entries.sig facts.slots
  pub numbered : AreNumbered (table_of facts) entries
