use Rattle.std.proofs.Common.{◌≡◌, [], true, length, refl, arith}
use Rattle.std.proofs.lemmas.Grind.{common_steps}
use Rattle.sap_grammar.specs.Cut.{placed, first_line}
use Rattle.sap_grammar.specs.Words.{words_of}
use Rattle.sap_read.specs.ItemGrammar.{IsSomeItem}
use Rattle.sap_read.specs.code.ItemView.{IsAdded}
use Rattle.sap_grammar.proofs.ReadingLaws.Items.{turn_bad, turn_later, turn_over}
use Rattle.sap_read.proofs.ItemTurns.{turn_end, turn_good, turn_located}
use Rattle.sap_read.proofs.items.read_items.Goals as goal

pub loop-rest-init : goal.loop-rest-init
loop-rest-init c = record {
  good = rw (c.new-entries.ensures, c.new-statements.ensures) (λ is r. (is, r, refl, refl));
  located = rw c.new-entries.ensures (λ js r. record { standing = js; items = r; all_is = refl });
  faulty = λ n f. f;
}

pub returns-then-is_last-clause-good : goal.returns-then-is_last-clause-good
returns-then-is_last-clause-good c =
    let over = c.is_last.ensures.0 c.if-is_last.true in
    turn_end c.item_laws.ensures c.args.sig.now c.args.bytes.now c.args.tokens.now c.loop-rest.rest.now c.split_item.result.0.now c.split_item.result.1.now c.loop-rest.entries c.loop-rest.statements
    c.loop-rest.invariant.good c.loop-rest.invariant.located c.split_item.ensures.item over.0 over.1

pub returns-then-not-branch-clause-faulty : goal.returns-then-not-branch-clause-faulty
returns-then-not-branch-clause-faulty c = λ line e cut r.
    let none : IsSomeItem (words_of c.args.bytes.now c.split_item.result.0.now) → ⊥ = rw c.if-not-branch.true at c.in_ok-read_item.ensures in
    let here : line ≡ first_line (placed c.args.bytes.now c.split_item.result.0.now) = cc (e, c.line_of.ensures c.args.bytes.now) in
    turn_bad IsSomeItem c.item_laws.ensures c.args.last c.args.bytes.now c.args.tokens.now c.loop-rest.rest.now c.loop-rest.invariant.faulty c.split_item.result.0.now c.split_item.result.1.now c.split_item.ensures.item
    (λ both. absurd (cc (c.is_last.ensures.1 both, c.if-is_last.false))) none line here cut r

pub loop-rest-preserved : goal.loop-rest-preserved
loop-rest-preserved c =
    let added : IsAdded c.args.sig.now c.args.bytes.now c.split_item.result.0.now (length c.split_item.result.1.now) c.loop-rest.entries c.read_item.new.entries c.loop-rest.statements c.read_item.new.statements true = rw c.if-not-branch.false at c.in_ok-read_item.ensures in
    let some : IsSomeItem (words_of c.args.bytes.now c.split_item.result.0.now) = record { sig = c.args.sig.now; item = added.is.item; is = added.is.spelled } in
    record {
      good = turn_good c.item_laws.ensures c.args.sig.now c.args.bytes.now c.args.tokens.now c.loop-rest.rest.now c.split_item.result.0.now c.split_item.result.1.now c.loop-rest.entries c.loop-rest.statements
          c.loop-rest.invariant.good c.loop-rest.invariant.located c.split_item.ensures.item c.read_item.new.entries c.read_item.new.statements (length c.split_item.result.1.now) added;
      located = turn_located c.item_laws.ensures c.args.sig.now c.args.bytes.now c.args.tokens.now c.loop-rest.rest.now c.split_item.result.0.now c.split_item.result.1.now c.loop-rest.entries c.loop-rest.statements
          c.loop-rest.invariant.good c.loop-rest.invariant.located c.split_item.ensures.item c.read_item.new.entries c.read_item.new.statements (length c.split_item.result.1.now) added refl;
      faulty = turn_later IsSomeItem c.item_laws.ensures c.args.last c.args.bytes.now c.args.tokens.now c.loop-rest.rest.now c.loop-rest.invariant.faulty c.split_item.result.0.now c.split_item.result.1.now c.split_item.ensures.item some;
    }

pub returns-clause-faulty : goal.returns-clause-faulty
returns-clause-faulty c = λ line e cut r.
    let none : c.loop-rest.rest.now ≡ [] = grind (arith, common_steps) in
    let here : line ≡ c.args.last = cc e in
    rw here (turn_over IsSomeItem c.item_laws.ensures c.args.last c.args.bytes.now c.args.tokens.now c.loop-rest.rest.now c.loop-rest.invariant.faulty none cut r)
