use Rattle.std.proofs.Common.{◌≡◌, ◌<◌, ◌^◌, length, ◌∙◌, sym, arith}
use Rattle.std.proofs.lemmas.Grind.{common_steps}
use Rattle.sap_text.proofs.Digits.{front_fits, digit_written, last_written, ends_within}
use Rattle.sap_text.proofs.text.write_digits.Goals as goal

pub loop-rest-preserved : goal.loop-rest-preserved
loop-rest-preserved c =
    let i = c.loop-rest.invariant in
    let high = c.loop-rest-test.true in
    let size : length c.loop-rest.digits ≡ 20 = grind (arith, common_steps) in
    let word : c.loop-rest.rest < 2 ^ 64 = grind arith in
    record {
      some = ends_within c.loop-rest.at c.loop-rest.rest high i.some i.fits;
      within = omega (arith, i.within);
      fits = front_fits c.loop-rest.at c.loop-rest.rest i.some i.fits;
      joined = i.joined ∙ digit_written c.loop-rest.rest c.loop-rest.at c.loop-rest.digits high word i.some (omega (arith, size, i.within));
    }

pub returns-clause-decimal : goal.returns-clause-decimal
returns-clause-decimal c =
    let i = c.loop-rest.invariant in
    let size : length c.loop-rest.digits ≡ 20 = grind (arith, common_steps) in
    sym (i.joined ∙ last_written c.loop-rest.rest c.loop-rest.at c.loop-rest.digits c.loop-rest-test.false i.some (omega (arith, size, i.within)))
