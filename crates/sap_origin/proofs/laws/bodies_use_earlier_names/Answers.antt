use Rattle.std.specs.Prelude.{[], take}
use Rattle.sap_macro.specs.Indexed.{defined}
use Rattle.sap_origin.proofs.Ordered.{body_uses, known_in_all}
use Rattle.sap_origin.proofs.laws.bodies_use_earlier_names.Goals as goal

pub returns-clause-earlier : goal.returns-clause-earlier
returns-clause-earlier c = λ ds k d order e. body_uses [] ds k d (defined (take k ds)) order e (λ f none. absurd (cc (none))) (λ f known. known)

pub returns-clause-defined : goal.returns-clause-defined
returns-clause-defined c = λ ds k d order e. body_uses [] ds k d (defined ds) order e (λ f none. absurd (cc (none))) (known_in_all ds k)
