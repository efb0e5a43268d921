-- The marks of runs: what they do inside, and what they show that the adversary doesn't know by itself.
use Rattle.std.specs.Prelude.{not, List, ◌++◌, map, filter, codes}
use Rattle.std.specs.Str.{bytes_eq}
use Rattle.sap_terms.specs.Trace.{shown}
use Rattle.sap_terms.specs.declared.fact.Fact.{Fact}
use Rattle.sap_runs.specs.Inner.{InnerAction}

-- an inner action, or facts that are seen at one time
pub data Mark : Type 0 where
  inside : InnerAction → Mark
  showing : List Fact → Mark

-- the facts that aren't K
abbrev pub without_k : List Fact → List Fact
without_k facts = filter (λ f. not (bytes_eq f.name (codes "K"))) facts

-- the marks of a step that does this inside and lets this be seen: the inner actions, and then what isn't K
abbrev pub marks_of : List InnerAction → List Fact → List Mark
marks_of inner seen = map inside inner ++ map showing (shown (without_k seen))
