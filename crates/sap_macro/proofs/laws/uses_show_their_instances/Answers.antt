use Rattle.std.proofs.Common.{map}
use Rattle.sap_terms.specs.Choice.{instance}
use Rattle.sap_macro.specs.UsesAreInstances.{instance_behind, use_under}
use Rattle.sap_macro.proofs.laws.uses_show_their_instances.Goals as goal

pub returns : goal.returns
returns c = λ names ds d ts s taken other all uses closed ground keeps own.
    let alike = c.uses_are_instances.ensures names ds d ts s taken other all uses closed ground keeps own in
    record {
      names = alike;
      traces = λ g tr.
          c.same_up_to_names_show_the_same.ensures g (use_under s ds d ts taken) (instance_behind ds d (map (instance s) ts) other) tr alike;
    }
