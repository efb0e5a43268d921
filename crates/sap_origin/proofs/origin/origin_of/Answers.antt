use Rattle.std.proofs.Common.{ℕ, List, map, refl, ap, ◌∙◌, take}
use Rattle.std.specs.Prelude.{reverse}
use Rattle.sap_terms.proofs.PlainLaws.Lists.{front_self}
use Rattle.sap_macro.specs.Sources.{located}
use Rattle.sap_origin.specs.Definitions.{located_definitions}
use Rattle.sap_origin.specs.Origins.{words_left}
use Rattle.sap_origin.specs.Trails.{IsTrail, use_word}
use Rattle.sap_origin.specs.declared.origin.FileWord.{FileWord}
use Rattle.sap_origin.specs.declared.trail.Replaced.TheVariants.{Every}
use Rattle.sap_origin.specs.declared.trail.Use.{Use}
use Rattle.sap_origin.proofs.origin.origin_of.Goals as goal

pub returns-in-None : goal.returns-in-None
returns-in-None c = rw c.in-None.is at c.in_ok-trail_of.ensures

pub returns-in_ok-uses-in-Some : goal.returns-in_ok-uses-in-Some
returns-in_ok-uses-in-Some c =
    let ds = located_definitions c.args.defs.now c.args.behind.now in
    let main = located c.args.main.now in
    let trail = c.in-Some.trail in
    let h : IsTrail ds main c.args.behind_main c.args.path.now trail = rw c.in-Some.is at c.in_ok-trail_of.ensures in
    record {
      standing = h.standing;
      place = located trail.source.now;
      reaches = h.reaches;
      word_is = rw (c.number_of.ensures, h.behind_is) refl;
      uses_are =
          ap (λ (ws : List FileWord). reverse (map words_left ws))
          (c.in_ok-uses-in-Some.ensures ∙ ap (λ (n : ℕ). map use_word (take n trail.uses)) c.len.ensures ∙ ap (λ (us : List Use). map use_word us) (front_self trail.uses))
          ∙ c.trails_are_uses.ensures.words ds Every main c.args.behind_main c.args.path.now trail h;
    }
