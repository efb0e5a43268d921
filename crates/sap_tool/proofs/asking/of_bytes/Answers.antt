use Rattle.sap_tool.proofs.Endings.{compile_ends, from_json_ends, why_ends}
use Rattle.sap_tool.proofs.asking.of_bytes.Goals as goal

pub returns-in-Compile : goal.returns-in-Compile
returns-in-Compile c = λ name.
    rw c.in-Compile.is
    (rw c.of_file.ensures
    (compile_ends c.in-Compile.way name c.args.bytes.now _ c.theory_text_of.ensures.given c.theory_text_of.ensures.refused))

pub returns-in-FromJson : goal.returns-in-FromJson
returns-in-FromJson c = λ name.
    rw c.in-FromJson.is
    (rw c.of_run.ensures
    (from_json_ends name c.args.bytes.now _ c.run_of_json.ensures.given c.run_of_json.ensures.refused))

pub returns-in-Explain : goal.returns-in-Explain
returns-in-Explain c = λ name.
    rw c.in-Explain.is
    (rw c.of_text.ensures
    (why_ends name c.args.bytes.now _ c.why_text.ensures))
