use Rattle.std.proofs.Common.{arith}
use Rattle.std.proofs.lemmas.Grind.{common_steps}
use Rattle.sap_text.proofs.Sound.{stands_whole, fits_whole}
use Rattle.sap_text.proofs.front.front_of.Goals as goal

pub returns-clause-within : goal.returns-clause-within
returns-clause-within c = fits_whole c.args.at c.args.bytes.now c.front_by_byte.ensures (grind (arith, common_steps))

pub returns-clause-stands : goal.returns-clause-stands
returns-clause-stands c = stands_whole c.args.at c.args.bytes.now c.front_by_byte.ensures (grind (arith, common_steps))
