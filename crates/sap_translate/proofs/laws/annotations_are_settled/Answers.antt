use Rattle.sap_translate.proofs.Settled.{annotation_plain, annotation_small}
use Rattle.sap_translate.proofs.laws.annotations_are_settled.Goals as goal

pub returns : goal.returns
returns c = record { labels = annotation_small; lookups = annotation_plain }
