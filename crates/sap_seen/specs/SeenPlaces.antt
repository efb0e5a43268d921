-- By which written place one comes to a place of what is seen of a body, where names without parameters are replaced and no others.
use Rattle.std.specs.Prelude.{ℕ, List, map}
use Rattle.sap_process.specs.Proc.{Proc}
use Rattle.sap_macro.specs.Expansion.{plain}
use Rattle.sap_macro.specs.Located.{Located, without_numbers}
use Rattle.sap_macro.specs.Seen.{seen}
use Rattle.sap_origin.specs.Definitions.{LocatedDefinition, plain_definition}
use Rattle.sap_origin.specs.Reached.{ReachesBy, Standing}
use Rattle.sap_origin.specs.declared.trail.Replaced.TheVariants.{Plain}

-- along this path one comes from what is written to this place
abbrev pub ComesSeen : List LocatedDefinition → Standing → Located → List ℕ → Standing → Located → Type 0
ComesSeen ds s p path z q = ReachesBy ds Plain s p path z q

-- what flaws of scope see of what is written, names without parameters replaced
abbrev pub seen_of : List LocatedDefinition → Located → Proc
seen_of ds p = seen (plain (map plain_definition ds) (without_numbers p))
