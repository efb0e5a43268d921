-- The short theory of a file that can be run.
use Rattle.std.proofs.Common.{◌≡◌, ◌<◌, ◌^◌, subst, arith}
use Rattle.sap_process.specs.Proc.{node_count}
use Rattle.sap_read.specs.Files.{FileContent, IsRunnable}
use Rattle.sap_rule.specs.declared.theory.Theory.{Theory}
use Rattle.sap_templates.specs.Templates.{rules_of}
use Rattle.sap_gen.specs.Kept.{file_theory}
use Rattle.sap_gen.specs.ShortTheories.{IsShortTheory}
use Rattle.sap_gen.specs.code.Shorter.{HasShortRules}
use Rattle.sap_gen.specs.code.Takers.{NamesTell}
use Rattle.sap_gen.proofs.Telling.{names_tell}
use Rattle.sap_gen.proofs.Theories.{PlaceLaws}

module _ (laws : PlaceLaws) (f : FileContent) (run : IsRunnable f) where
  -- names tell of the rules of its process
  pub file_names_tell : NamesTell f.process (rules_of f.process)
  file_names_tell =
      let small : node_count run.process < 2 ^ 64 = omega (arith, run.small) in
      let sound = laws.sound f.signature run.process f.process run.ready small run.annotation in
      names_tell f.signature f.process sound.0 (laws.origin f.process) (laws.placed f.process)

  -- the file's theory with short rules is its short theory
  pub short_of : (t s : Theory) → t ≡ file_theory f → HasShortRules t s → IsShortTheory f s
  short_of t s e h =
      let k : HasShortRules (file_theory f) s = subst (λ (z : Theory). HasShortRules z s) e h in
      record { rules = k.rules f.process file_names_tell; others = k.others }
