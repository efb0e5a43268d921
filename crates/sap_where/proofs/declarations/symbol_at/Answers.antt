use Rattle.std.proofs.Common.{true, false, refl, sym, ap, ◌∙◌}
use Rattle.sap_grammar.specs.Reading.{Read}
use Rattle.sap_terms.specs.declared.signature.Symbol.{Symbol}
use Rattle.sap_grammar.proofs.ReadingLaws.Tokens.{words-drop}
use Rattle.sap_where.specs.FileDeclarations.{alone}
use Rattle.sap_where.proofs.Declaring.{no_arity, no_name, symbol_is}
use Rattle.sap_where.proofs.declarations.symbol_at.Goals as goal
use Rattle.sap_where.proofs.declarations.symbol_at.Goals.{else-is_lower-via-then-is_lower+else-starts, else-is_lower-via-else-is_lower}

pub returns-in_default : goal.returns-in_default
returns-in_default c = no_name _ c.in_default.ensures

pub returns-in_default-arity_at : goal.returns-in_default-arity_at
returns-in_default-arity_at c =
    no_arity _ _ c.in-Some.ensures
    (rw (c.beyond.ensures, words-drop c.args.bytes.now 2 c.args.tokens.now) at c.in_default-arity_at.ensures)

pub returns-in_ok-with_privacy : goal.returns-in_ok-with_privacy
returns-in_ok-with_privacy c =
    let arity = rw (c.beyond.ensures, words-drop c.args.bytes.now 2 c.args.tokens.now) at c.in-Some-arity_at.ensures in
    let slash = rw (c.beyond-then-is_lower.ensures, words-drop c.args.bytes.now 1 c.args.tokens.now) at c.if-starts.ensures in
    let read = rw (c.beyond-then-starts.ensures, words-drop c.args.bytes.now 3 c.args.tokens.now) at c.in_ok-with_privacy.ensures in
    read ∙ ap (λ (r : Read Symbol). alone r) (sym (symbol_is _ _ _ true c.in-Some.ensures arity (rw (← c.if-is_lower.ensures, ← slash) refl)))

pub returns-else-is_lower : goal.returns-else-is_lower
returns-else-is_lower c =
    let arity = rw (c.beyond.ensures, words-drop c.args.bytes.now 2 c.args.tokens.now) at c.in-Some-arity_at.ensures in
    elim c.else-is_lower.branch [
      | else-is_lower-via-then-is_lower+else-starts w ↦
          (let slash = rw (w.beyond-then-is_lower.ensures, words-drop c.args.bytes.now 1 c.args.tokens.now) at w.if-starts.ensures in
          ap (λ (r : Read Symbol). alone r) (sym (symbol_is _ _ _ false c.in-Some.ensures arity (rw (← w.if-is_lower.ensures, ← slash) refl))))
      | else-is_lower-via-else-is_lower w ↦ ap (λ (r : Read Symbol). alone r) (sym (symbol_is _ _ _ false c.in-Some.ensures arity (rw (← w.if-is_lower.ensures) refl)))
    ]
