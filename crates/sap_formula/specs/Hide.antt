-- A trace without its hidden facts and the times that they leave empty.
use Rattle.std.specs.Prelude.{ℕ, Bool, ◌&&◌, not, List, codes, filter}
use Rattle.std.specs.List.{flat_map}
use Rattle.std.specs.Str.{bytes_eq}
use Rattle.sap_terms.specs.Reserved.{is_reserved}
use Rattle.sap_terms.specs.Trace.{Trace, shown}
use Rattle.sap_terms.specs.declared.fact.Fact.{Fact}

-- reserved, and not K
abbrev pub is_hidden : List ℕ → Bool
is_hidden name = is_reserved name && not (bytes_eq name (codes "K"))

-- those of these facts that are seen
abbrev pub visible : List Fact → List Fact
visible facts = filter (λ f. not (is_hidden f.name)) facts

-- the trace without the hidden facts, and then without the empty times
abbrev pub hide : Trace → Trace
hide tr = flat_map (λ facts. shown (visible facts)) tr
