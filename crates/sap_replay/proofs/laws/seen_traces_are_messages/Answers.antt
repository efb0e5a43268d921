use Rattle.sap_replay.proofs.SeenMessages.{seen_messages}
use Rattle.sap_replay.proofs.laws.seen_traces_are_messages.Goals as goal

pub returns : goal.returns
returns c = λ f r tr runnable seen.
    let over = c.sound_processes_are_shown.ensures.over f.signature runnable.process f.process runnable.ready runnable.annotation in
    seen_messages c.process_lines.ensures.runs c.rule_lines.ensures.runs c.rules_show_the_process.ensures.all f runnable
    (λ full run. c.sound_processes_are_shown.ensures.messages f.signature f.process full runnable.builtins over run) r tr seen
