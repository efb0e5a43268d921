use Rattle.std.proofs.Common.{ℕ, List, Some, subst}
use Rattle.sap_terms.specs.NameMap.{Puts}
use Rattle.sap_macro.proofs.Choices.{kept_then}
use Rattle.sap_macro.proofs.chosen.Chosen.keep.Goals as goal

pub invariant_of-self-2 : goal.invariant_of-self-2
invariant_of-self-2 c =
    let s = c.self.inside in
    (kept_then s.identifiers s.known s.chosen c.args.self.now c.insert-2.new.self s.begins c.insert.new.self c.args.x.now c.args.name.now c.args.number
    c.self.invariant c.self.view_is c.requires
    (subst (λ (n : List ℕ). Puts s.begins c.insert.new.self n (Some c.args.number)) c.in_ok-copy.ensures c.in_ok-insert.ensures.ok)
    c.in_ok-insert-2.ensures.ok).0

pub returns : goal.returns
returns c =
    let s = c.self.inside in
    (kept_then s.identifiers s.known s.chosen c.args.self.now c.insert-2.new.self s.begins c.insert.new.self c.args.x.now c.args.name.now c.args.number
    c.self.invariant c.self.view_is c.requires
    (subst (λ (n : List ℕ). Puts s.begins c.insert.new.self n (Some c.args.number)) c.in_ok-copy.ensures c.in_ok-insert.ensures.ok)
    c.in_ok-insert-2.ensures.ok).1
