use Rattle.std.proofs.Common.{◌≡◌, ◌&&◌, Bool, true, false, if◌then◌else◌, ℕ, List, drop, Some, None, refl}
use Rattle.std.specs.Prelude.{codes}
use Rattle.sap_grammar.specs.Words.{Word, is_lower, starts}
use Rattle.sap_grammar.specs.Reading.{given, name_at}
use Rattle.sap_grammar.specs.ItemReading.{arity_at, symbol_at, with_privacy}
use Rattle.sap_grammar.proofs.ReadingLaws.Tokens.{words-drop}
use Rattle.sap_grammar.proofs.declaration.read_symbol.Goals as goal
use Rattle.sap_grammar.proofs.declaration.read_symbol.Goals.{else-is_lower-via-then-is_lower+else-starts, else-is_lower-via-else-is_lower}

no_name : (ws : List Word) → None ≡ name_at ws → symbol_at ws ≡ None
unfolding given
no_name ws none = rw (← none) refl

no_arity : (ws : List Word) (f : List ℕ) → Some f ≡ name_at ws → None ≡ arity_at (drop 2 ws) → symbol_at ws ≡ None
unfolding given
no_arity ws f name none = rw (← name, ← none) refl

symbol_is : (ws : List Word) (f : List ℕ) (n : ℕ) (good : Bool) → Some f ≡ name_at ws → Some n ≡ arity_at (drop 2 ws)
    → is_lower f && starts (codes "/") (drop 1 ws) ≡ good → symbol_at ws ≡ (if good then with_privacy f n (drop 3 ws) else None)
unfolding given
symbol_is ws f n good name arity is = rw (← name, ← arity, is) refl

pub returns-in_default : goal.returns-in_default
returns-in_default c = no_name _ c.in_default.ensures

pub returns-in_default-arity_at : goal.returns-in_default-arity_at
returns-in_default-arity_at c =
    no_arity _ _ c.in-Some.ensures
    (rw (c.beyond.ensures, words-drop c.args.bytes.now 2 c.args.tokens.now) at c.in_default-arity_at.ensures)

pub returns-then-starts : goal.returns-then-starts
returns-then-starts c =
    let arity = rw (c.beyond.ensures, words-drop c.args.bytes.now 2 c.args.tokens.now) at c.in-Some-arity_at.ensures in
    let slash = rw (c.beyond-then-is_lower.ensures, words-drop c.args.bytes.now 1 c.args.tokens.now) at c.if-starts.ensures in
    let read = rw (c.beyond-then-starts.ensures, words-drop c.args.bytes.now 3 c.args.tokens.now) at c.read_privacy.ensures in
    rw (symbol_is _ _ _ true c.in-Some.ensures arity (rw (← c.if-is_lower.ensures, ← slash) refl)) read

pub returns-else-is_lower : goal.returns-else-is_lower
returns-else-is_lower c =
    let arity = rw (c.beyond.ensures, words-drop c.args.bytes.now 2 c.args.tokens.now) at c.in-Some-arity_at.ensures in
    elim c.else-is_lower.branch [
      | else-is_lower-via-then-is_lower+else-starts w ↦
          (let slash = rw (w.beyond-then-is_lower.ensures, words-drop c.args.bytes.now 1 c.args.tokens.now) at w.if-starts.ensures in
          symbol_is _ _ _ false c.in-Some.ensures arity (rw (← w.if-is_lower.ensures, ← slash) refl))
      | else-is_lower-via-else-is_lower w ↦ symbol_is _ _ _ false c.in-Some.ensures arity (rw (← w.if-is_lower.ensures) refl)
    ]
