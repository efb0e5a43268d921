use Rattle.std.proofs.Common.{◌∙◌, sym, ap, drop}
use Rattle.sap_share.specs.code.Found.{number_of_name}
use Rattle.sap_share.proofs.Indexed.{first, found_parts, rest_is}
use Rattle.sap_share.proofs.index.Index.number_of.Goals as goal

pub returns-in-Some : goal.returns-in-Some
returns-in-Some c =
    let rest = number_of_name (drop c.args.self.now.count c.args.bound.now) c.args.name.now in
    ap (λ o. first o rest) c.in-Some.ensures ∙ sym (found_parts c.args.self.now c.args.bound.now c.requires c.args.name.now)

pub returns-in-None : goal.returns-in-None
returns-in-None c =
    let rest = number_of_name (drop c.args.self.now.count c.args.bound.now) c.args.name.now in
    c.first_number.ensures ∙ ap (λ ds. number_of_name ds c.args.name.now) (rest_is c.args.self.now.count c.args.bound.now) ∙ ap (λ o. first o rest) c.in-None.ensures ∙ sym (found_parts c.args.self.now c.args.bound.now c.requires c.args.name.now)
