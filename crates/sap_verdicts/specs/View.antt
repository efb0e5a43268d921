-- What is found, as plain values without the addresses of their parts.
use Rattle.std.specs.Prelude.{map}
use Rattle.sap_search.specs.View.{chosen_value}
use Rattle.sap_verdicts.specs.Findings.{Found}
use Rattle.sap_verdicts.specs.declared.finding.Finding.{Finding}

-- what is found of a formula
abbrev pub found : Finding → Found
found y = record { name = y.name.now; what = y.what; verdict = y.verdict; reason = map chosen_value y.reason.items }
