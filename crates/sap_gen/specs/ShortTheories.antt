-- Short theories.
use Rattle.std.specs.Prelude.{◌≡◌}
use Rattle.sap_gen.specs.Kept.{file_theory}
use Rattle.sap_read.specs.Files.{FileContent}
use Rattle.sap_rule.specs.declared.theory.Theory.{Theory}
use Rattle.sap_gen.specs.Short.{AreShortRulesOf}

-- the theory is that of the file, but that its rules are short
pub record IsShortTheory (f : FileContent) (t : Theory) : Type 0 where
  pub rules : AreShortRulesOf f.process t.rules
  pub others : t ≡ record (file_theory f) { rules = t.rules }
