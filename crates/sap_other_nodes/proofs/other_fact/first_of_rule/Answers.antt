use Rattle.std.proofs.Common.{◌≡◌, Some, None, ap, sym, ◌∙◌}
use Rattle.std.specs.Prelude.{option_map}
use Rattle.std.specs.List.{find}
use Rattle.sap_nodes.specs.declared.part.Part.TheVariants.{Pattern, Shown, Given}
use Rattle.sap_other_nodes.specs.code.FactSearches.{entry_of, is_sought, numbered_facts, past}
use Rattle.sap_other_nodes.proofs.FactNodes.{find_first, find_second, find_third}
use Rattle.sap_other_nodes.proofs.other_fact.first_of_rule.Goals as goal

pub returns-in-Some : goal.returns-in-Some
returns-in-Some c =
    let l = numbered_facts 0 Pattern c.args.l.now in
    let e = numbered_facts (past 0 c.args.l.now) Shown c.args.e.now in
    let r = numbered_facts (past (past 0 c.args.l.now) c.args.e.now) Given c.args.r.now in
    let here : Some (entry_of c.in-Some.entry) ≡ find (is_sought c.args.sought) l = ap (option_map entry_of) (sym c.in-Some.is) ∙ c.first_in.ensures in
    find_first (is_sought c.args.sought) l e r (entry_of c.in-Some.entry) here

pub returns-in-Some-first_in : goal.returns-in-Some-first_in
returns-in-Some-first_in c =
    let l = numbered_facts 0 Pattern c.args.l.now in
    let e = numbered_facts (past 0 c.args.l.now) Shown c.args.e.now in
    let r = numbered_facts (past (past 0 c.args.l.now) c.args.e.now) Given c.args.r.now in
    let none : None ≡ find (is_sought c.args.sought) l = ap (option_map entry_of) (sym c.in-None.is) ∙ c.first_in.ensures in
    let here : Some (entry_of c.in-Some-first_in.entry) ≡ find (is_sought c.args.sought) e =
    ap (option_map entry_of) (sym c.in-Some-first_in.is) ∙ c.first_in-in-None.ensures
    ∙ ap (λ k. find (is_sought c.args.sought) (numbered_facts k Shown c.args.e.now)) c.past-shown.ensures in
    find_second (is_sought c.args.sought) l e r (entry_of c.in-Some-first_in.entry) none here

pub returns-in-None-first_in : goal.returns-in-None-first_in
returns-in-None-first_in c =
    let l = numbered_facts 0 Pattern c.args.l.now in
    let e = numbered_facts (past 0 c.args.l.now) Shown c.args.e.now in
    let r = numbered_facts (past (past 0 c.args.l.now) c.args.e.now) Given c.args.r.now in
    let none : None ≡ find (is_sought c.args.sought) l = ap (option_map entry_of) (sym c.in-None.is) ∙ c.first_in.ensures in
    let after : None ≡ find (is_sought c.args.sought) e =
    ap (option_map entry_of) (sym c.in-None-first_in.is) ∙ c.first_in-in-None.ensures
    ∙ ap (λ k. find (is_sought c.args.sought) (numbered_facts k Shown c.args.e.now)) c.past-shown.ensures in
    find_third (is_sought c.args.sought) l e r (option_map entry_of c.first_in-in-None-first_in.result) none after
    (c.first_in-in-None-first_in.ensures ∙ ap (λ k. find (is_sought c.args.sought) (numbered_facts k Given c.args.r.now)) (c.past.ensures ∙ ap (λ k. past k c.args.e.now) c.past-shown.ensures))
