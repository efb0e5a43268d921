use Rattle.sap_read.proofs.laws.files_are_ready.Goals as goal

pub returns : goal.returns
returns c z f h = let r = c.files_are_runnable.ensures z f h in c.annotations_are_ready.ensures.ready f.signature r.process f.process r.ready r.annotation
