use Rattle.std.proofs.Common.{ℕ, List, map, ap, ◌∙◌, take}
use Rattle.std.specs.Prelude.{reverse}
use Rattle.sap_terms.proofs.PlainLaws.Lists.{front_self}
use Rattle.sap_macro.specs.Sources.{located}
use Rattle.sap_origin.specs.Definitions.{located_definitions}
use Rattle.sap_origin.specs.Origins.{words_left}
use Rattle.sap_origin.specs.Trails.{IsTrailBy, use_word}
use Rattle.sap_origin.specs.declared.origin.FileWord.{FileWord}
use Rattle.sap_origin.specs.declared.trail.Replaced.TheVariants.{Plain}
use Rattle.sap_origin.specs.declared.trail.Use.{Use}
use Rattle.sap_seen.proofs.seen.seen_at.Goals as goal

pub returns-in-None : goal.returns-in-None
returns-in-None c = rw c.in-None.is at c.in_ok-trail_of.ensures

pub returns-in_ok-uses-in-Some : goal.returns-in_ok-uses-in-Some
returns-in_ok-uses-in-Some c =
    let ds = located_definitions c.args.defs.now c.args.behind.now in
    let body = located c.args.body.now in
    let trail = c.in-Some.trail in
    let h : IsTrailBy ds Plain body c.args.behind_body c.args.path.now trail = rw c.in-Some.is at c.in_ok-trail_of.ensures in
    record {
      standing = h.standing;
      comes = h.reaches;
      behind_is = h.behind_is;
      uses_are =
          ap (λ (ws : List FileWord). reverse (map words_left ws))
          (c.in_ok-uses-in-Some.ensures ∙ ap (λ (n : ℕ). map use_word (take n trail.uses)) c.len.ensures ∙ ap (λ (us : List Use). map use_word us) (front_self trail.uses))
          ∙ c.trails_are_uses.ensures.words ds Plain body c.args.behind_body c.args.path.now trail h;
    }
