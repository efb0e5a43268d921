use Rattle.sap_tool.proofs.WhyMeant.{same_why_text}
use Rattle.sap_tool.proofs.why_laws.one_why_text.Goals as goal

pub returns : goal.returns
returns c bytes text other t u = same_why_text c.one_file.ensures bytes c.one_explanation.ensures c.one_notes_text.ensures text other t u
