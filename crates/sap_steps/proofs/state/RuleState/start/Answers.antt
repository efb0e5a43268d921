use Rattle.std.proofs.Common.{◌≡◌, List, [], sym, subst}
use Rattle.std.specs.List.{All}
use Rattle.sap_deduce.specs.Entries.{Entries, AreNumbered, terms_of}
use Rattle.sap_share.specs.Shared.{Shared}
use Rattle.sap_sides.specs.Messages.{HoldsSmallMessages}
use Rattle.sap_steps.specs.code.Piled.{Piled, table_of}
use Rattle.sap_steps.specs.code.Ready.{IsReady, rules_of}
use Rattle.sap_steps.specs.declared.prepared.Prepared.{Prepared}
use Rattle.sap_terms.specs.Piles.{Pile}
use Rattle.sap_terms.specs.Signature.{Sig}
use Rattle.sap_steps.proofs.Joined.{joined}
use Rattle.sap_steps.proofs.state.RuleState.start.Goals as goal

pub invariant_of-result : goal.invariant_of-result
invariant_of-result c =
    let g = c.args.t.now.signature in
    let k = c.in_ok-knowledge.knowledge in
    let rs = c.in_ok-knowledge.rules in
    let fs = c.in_ok-knowledge.facts in
    let new : Entries → Type 0 = λ x. (x.sig ≡ g) × (x.entries ≡ []) in
    let tied = joined new (All (IsReady g)) (λ (p : Piled). p.sig ≡ g) k rs fs c.new.result c.made_ready.result c.new-2.result c.ok-knowledge.result c.ok-rules.result c.ok-facts.result c.zip.result c.zip-2.result c.new.ensures.empty c.made_ready.ensures.ready c.new-2.ensures.sig c.ok-knowledge.ensures.value c.ok-rules.ensures.value c.ok-facts.ensures.value c.zip.ensures c.zip-2.ensures c.in_ok-knowledge.ensures.ok_part in
    let none = joined new (All (IsReady g)) (λ (p : Piled). p.slots ≡ []) k rs fs c.new.result c.made_ready.result c.new-2.result c.ok-knowledge.result c.ok-rules.result c.ok-facts.result c.zip.result c.zip-2.result c.new.ensures.empty c.made_ready.ensures.ready c.new-2.ensures.slots c.ok-knowledge.ensures.value c.ok-rules.ensures.value c.ok-facts.ensures.value c.zip.ensures c.zip-2.ensures c.in_ok-knowledge.ensures.ok_part in
    let numbers : Entries → Type 0 = λ x. (s : Shared) → s.sig ≡ g → AreNumbered s x in
    let numbered = joined numbers (All (IsReady g)) (λ (p : Piled). p.sig ≡ g) k rs fs c.new.result c.made_ready.result c.new-2.result c.ok-knowledge.result c.ok-rules.result c.ok-facts.result c.zip.result c.zip-2.result c.new.ensures.numbered c.made_ready.ensures.ready c.new-2.ensures.sig c.ok-knowledge.ensures.value c.ok-rules.ensures.value c.ok-facts.ensures.value c.zip.ensures c.zip-2.ensures c.in_ok-knowledge.ensures.ok_part in
    record {
      ready = subst (λ (h : Sig). All (IsReady h) rs) (sym tied.0.0) tied.1.0;
      held = subst (λ (s : Pile). HoldsSmallMessages k.sig s) (sym none.1.1) (λ n f e. cc);
      numbered = numbered.0 (table_of fs) numbered.1.1;
    }

pub returns-clause-sig : goal.returns-clause-sig
returns-clause-sig c =
    let g = c.args.t.now.signature in
    let k = c.in_ok-knowledge.knowledge in
    let rs = c.in_ok-knowledge.rules in
    let fs = c.in_ok-knowledge.facts in
    let new : Entries → Type 0 = λ x. (x.sig ≡ g) × (x.entries ≡ []) in
    (joined new (All (IsReady g)) (λ (p : Piled). p.sig ≡ g) k rs fs c.new.result c.made_ready.result c.new-2.result c.ok-knowledge.result c.ok-rules.result c.ok-facts.result c.zip.result c.zip-2.result c.new.ensures.empty c.made_ready.ensures.ready c.new-2.ensures.sig c.ok-knowledge.ensures.value c.ok-rules.ensures.value c.ok-facts.ensures.value c.zip.ensures c.zip-2.ensures c.in_ok-knowledge.ensures.ok_part).0.0

pub returns-clause-rules : goal.returns-clause-rules
returns-clause-rules c =
    let g = c.args.t.now.signature in
    let k = c.in_ok-knowledge.knowledge in
    let rs = c.in_ok-knowledge.rules in
    let fs = c.in_ok-knowledge.facts in
    let new : Entries → Type 0 = λ x. (x.sig ≡ g) × (x.entries ≡ []) in
    (joined new (λ (ps : List Prepared). rules_of ps ≡ c.args.t.now.rules) (λ (p : Piled). p.sig ≡ g) k rs fs c.new.result c.made_ready.result c.new-2.result c.ok-knowledge.result c.ok-rules.result c.ok-facts.result c.zip.result c.zip-2.result c.new.ensures.empty c.made_ready.ensures.rules c.new-2.ensures.sig c.ok-knowledge.ensures.value c.ok-rules.ensures.value c.ok-facts.ensures.value c.zip.ensures c.zip-2.ensures c.in_ok-knowledge.ensures.ok_part).1.0

pub returns-clause-at : goal.returns-clause-at
returns-clause-at c =
    let g = c.args.t.now.signature in
    let k = c.in_ok-knowledge.knowledge in
    let rs = c.in_ok-knowledge.rules in
    let fs = c.in_ok-knowledge.facts in
    let new : Entries → Type 0 = λ x. (x.sig ≡ g) × (x.entries ≡ []) in
    let none = joined new (All (IsReady g)) (λ (p : Piled). p.slots ≡ []) k rs fs c.new.result c.made_ready.result c.new-2.result c.ok-knowledge.result c.ok-rules.result c.ok-facts.result c.zip.result c.zip-2.result c.new.ensures.empty c.made_ready.ensures.ready c.new-2.ensures.slots c.ok-knowledge.ensures.value c.ok-rules.ensures.value c.ok-facts.ensures.value c.zip.ensures c.zip-2.ensures c.in_ok-knowledge.ensures.ok_part in
    let no_facts = none.1.1 in
    let no_entries = none.0.1 in
    λ i. record { facts = no_facts i; known = terms_of (no_entries i); made = c.new-3.ensures.empty i }
