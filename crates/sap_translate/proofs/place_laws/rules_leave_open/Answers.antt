use Rattle.std.proofs.Common.{refl}
use Rattle.sap_translate.proofs.Opened.Embedded.{instance_open}
use Rattle.sap_translate.proofs.Opened.Ready.{embedded_choices, places_opened}
use Rattle.sap_translate.proofs.place_laws.rules_leave_open.Goals as goal

pub returns : goal.returns
returns c = record {
  init = λ g. refl;
  places = places_opened;
  instances = λ g env l a r good. instance_open env good.ground l a r;
  choices = embedded_choices;
}
