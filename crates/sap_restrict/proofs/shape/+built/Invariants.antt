use Rattle.std.proofs.Common.{◌+◌}
use Rattle.sap_restrict.specs.code.Shapes.{size}
use Rattle.sap_restrict.proofs.shape.+built.Given as goal

abbrev pub decreases-built : goal.decreases-built
decreases-built l = size l.shape.now

abbrev pub decreases-built_both : goal.decreases-built_both
decreases-built_both l = size l.f.now + size l.g.now + 1
