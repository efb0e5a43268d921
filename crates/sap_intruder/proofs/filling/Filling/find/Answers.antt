use Rattle.std.proofs.Common.{◌≡◌, ◌+◌, refl, rules, length, subst, sym, Option, IfSome}
use Rattle.sap_terms.specs.Message.{IsMessage}
use Rattle.sap_terms.specs.Signature.{Sig}
use Rattle.sap_terms.specs.View.{tree}
use Rattle.sap_terms.specs.declared.var.Sort.TheVariants.{Msg}
use Rattle.sap_derive.specs.Found.{IsFoundIn}
use Rattle.sap_derive.specs.declared.derivation.Derivation.{Derivation}
use Rattle.sap_intruder.specs.declared.filling.Filling.{Filling}
use Rattle.sap_intruder.proofs.Entering.{found_entered, found_leads}
use Rattle.sap_intruder.proofs.filling.Filling.find.Goals as goal

pub returns-clause-some : goal.returns-clause-some
returns-clause-some c =
    let a = c.args.self.now in
    let found = c.in-Some.found in
    let b : Filling = record { config = a.config; search = c.find.new.self; count = a.count; lines = a.lines } in
    let carried = c.carry_out.new.self in
    let d : Filling = record { config = carried.config; search = carried.search; count = c.in_ok-self.field-0; lines = carried.lines } in
    let is : IsFoundIn a.search (tree c.args.goal.now) found c.find.new.self =
    subst (λ (o : Option Derivation). IfSome o (λ (x : Derivation). IsFoundIn a.search (tree c.args.goal.now) x c.find.new.self)) c.in-Some.is c.in_ok-found.ensures.some in
    let more : c.in_ok-self.field-0 ≡ carried.count + length found.lines = search rules in
    found_entered c.deducing_is_transitive.ensures.entries a b carried d (tree c.args.goal.now) found c.find.new.self c.requires.tied is
    (record { config = refl; lines = refl; search = refl; count = refl }) c.in_ok-carry_out.ensures (record { config = refl; lines = refl; search = refl; count = more }) c.requires.message.normal
    c.each_entry_came-2.ensures.entered

pub carry_out-requires : goal.carry_out-requires
carry_out-requires c =
    let a = c.args.self.now in
    let found = c.in-Some.found in
    let b : Filling = record { config = a.config; search = c.find.new.self; count = a.count; lines = a.lines } in
    let is : IsFoundIn a.search (tree c.args.goal.now) found c.find.new.self =
    subst (λ (o : Option Derivation). IfSome o (λ (x : Derivation). IsFoundIn a.search (tree c.args.goal.now) x c.find.new.self)) c.in-Some.is c.in_ok-found.ensures.some in
    found_leads a b (tree c.args.goal.now) found c.find.new.self c.requires.tied is refl

pub find-requires-clause-message : goal.find-requires-clause-message
find-requires-clause-message c = subst (λ (g : Sig). IsMessage g Msg (tree c.args.goal.now)) (sym c.requires.tied.sig) c.requires.message
