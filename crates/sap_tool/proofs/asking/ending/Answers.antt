use Rattle.std.proofs.Common.{refl}
use Rattle.sap_tool.specs.Answers.{usage, told_at_once}
use Rattle.sap_tool.specs.ToldAtOnce.{help}
use Rattle.sap_tool.specs.Call.{bytes_of}
use Rattle.sap_tool.proofs.Asked.{unknown_of}
use Rattle.sap_tool.proofs.AtOnce.{ends_of_sample}
use Rattle.sap_tool.proofs.asking.ending.Goals as goal

pub returns-in-None : goal.returns-in-None
returns-in-None g c = λ out err. usage (unknown_of (bytes_of c.args.words.now.items) c.in-None.ensures) refl

pub returns-in-Some-File : goal.returns-in-Some-File
returns-in-Some-File g c = λ out err. c.end_file.ensures (bytes_of c.args.words.now.items) out err (rw c.in-Some-File.field-0-is at c.in-Some-File.ensures)

pub returns-in-Some-Run : goal.returns-in-Some-Run
returns-in-Some-Run g c = λ out err. c.end_run.ensures (bytes_of c.args.words.now.items) out err (rw c.in-Some-Run.field-0-is at c.in-Some-Run.ensures)

pub returns-in-Some-ToJson : goal.returns-in-Some-ToJson
returns-in-Some-ToJson g c = λ out err. c.end_to_json.ensures (bytes_of c.args.words.now.items) out err (rw c.in-Some-ToJson.field-0-is at c.in-Some-ToJson.ensures)

pub returns-in-Some-Sample : goal.returns-in-Some-Sample
returns-in-Some-Sample g c = λ out err.
    ends_of_sample _ _ c.end_sample.result (rw c.in-Some-Sample.field-0-is at c.in-Some-Sample.ensures) refl c.end_sample.ensures

pub returns-in-Some-Help : goal.returns-in-Some-Help
returns-in-Some-Help g c = λ out err. told_at_once _ (help _ (rw c.in-Some-Help.field-0-is at c.in-Some-Help.ensures)) refl
