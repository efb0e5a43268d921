use Rattle.sap_expect.proofs.KindsAtLimits.{after_builtins, after_event, after_file, after_new, after_no_file, after_slash, no_early_end, no_end_missing, no_name_beside, no_other_order}
use Rattle.sap_expect.proofs.KindsOfFiles.{after_header, after_out, after_part, after_process, after_second_part, after_variable}
use Rattle.sap_expect.proofs.kind_laws.kinds_by_hand.Goals as goal

pub returns : goal.returns
returns c = record {
  begin = after_header;
  process = after_process;
  out = (after_out, after_variable);
  tuple = (after_part, after_second_part);
  names = (after_builtins, after_slash, after_event, after_new);
  nothing = (after_file, after_no_file);
  not_these = (no_end_missing, no_name_beside, no_early_end, no_other_order);
}
