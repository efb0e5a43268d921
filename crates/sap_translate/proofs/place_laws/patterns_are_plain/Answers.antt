use Rattle.sap_process.specs.Places.{place}
use Rattle.sap_translate.proofs.Opened.Plain.{plain_patterns}
use Rattle.sap_translate.proofs.place_laws.patterns_are_plain.Goals as goal

pub returns : goal.returns
returns c = λ g p path v b t fine stands. plain_patterns g p fine path (place path v b) stands t
