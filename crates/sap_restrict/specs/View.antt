-- What a guard keeps, as maps from terms.
use Rattle.std.specs.Prelude.{option_map}
use Rattle.sap_restrict.specs.Stands.{Machine}
use Rattle.sap_restrict.specs.declared.guard.Guard.{Guard}
use Rattle.sap_term_map.specs.Values.{value_at}
use Rattle.sap_terms.specs.View.{tree}

-- what the guard keeps
abbrev pub machine : Guard → Machine
machine g = record { started = g.started; stored = value_at g.stored; held = value_at g.held; usable = option_map tree g.usable }
