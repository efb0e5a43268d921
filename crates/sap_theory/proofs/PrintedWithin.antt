-- The printed text of a theory is within the limits, where its terms and the levels of its formulas are.
use Rattle.std.proofs.Common.{ℕ, List, [], ◌∷◌, ◌++◌, arith}
use Rattle.std.specs.Prelude.{map, All}
use Rattle.std.proofs.lemmas.List.Elements.{All-head, All-tail}
use Rattle.sap_terms.specs.declared.limits.TheConstants.{MOST_THEORY_NAME_BYTES}
use Rattle.sap_terms.specs.declared.signature.Symbol.{Symbol}
use Rattle.sap_terms.specs.declared.signature.Builtin.{Builtin}
use Rattle.sap_formula.specs.Form.{RestrictionForm, LemmaForm}
use Rattle.sap_rule.specs.declared.rule.Rule.{Rule}
use Rattle.sap_rule.specs.declared.theory.Theory.{Theory}
use Rattle.sap_grammar.specs.ByteWords.{AreWritten}
use Rattle.sap_grammar.specs.Printed.{ArePrinted}
use Rattle.sap_theory.specs.SignatureText.{builtins_of, functions_of}
use Rattle.sap_theory.specs.TheoryText.{theory_text}
use Rattle.sap_theory.specs.declared.limits.TheConstants.{THEORY_LIMITS}
use Rattle.sap_theory.specs.TheoryGrammar.{TheoryItem, builtins, functions, rule}
use Rattle.sap_theory.specs.PrintableTheory.{IsPrintable}
use Rattle.sap_theory.specs.WithinLimits.{IsShallowRule, IsShallowForm, IsShallow}
use Rattle.sap_theory.specs.ReadAgain.{SpellsWithin}
use Rattle.sap_theory.proofs.FreeItems.{FormsAreFree}
use Rattle.sap_theory.proofs.ItemWords.{item_of, as_restriction, as_lemma, printed_items}
use Rattle.sap_theory.proofs.PrintedItems.{AllSmall}
use Rattle.sap_theory.proofs.PrintableTheories.{WordsHaveTokens, IsTextWithin, text_within}

-- The printed items are within the limits.
skip_builtins : (bs : List Builtin) (vs : List TheoryItem) → AllSmall THEORY_LIMITS vs → AllSmall THEORY_LIMITS (item_of builtins bs ++ vs)
skip_builtins [] vs k = k
skip_builtins (b ∷ bs) vs k = (tt, k)

skip_functions : (ss : List Symbol) (vs : List TheoryItem) → AllSmall THEORY_LIMITS vs → AllSmall THEORY_LIMITS (item_of functions ss ++ vs)
skip_functions [] vs k = k
skip_functions (s ∷ ss) vs k = (tt, k)

rules_small : (rs : List Rule) (vs : List TheoryItem) → All IsShallowRule rs → AllSmall THEORY_LIMITS vs → AllSmall THEORY_LIMITS (map rule rs ++ vs)
rules_small [] vs h k = k
rules_small (r ∷ rs) vs h k = let s = All-head IsShallowRule r rs h in ((s.left, s.acts, s.right), rules_small rs vs (All-tail IsShallowRule r rs h) k)

abbrev IsShallowRestriction : RestrictionForm → Type 0
IsShallowRestriction r = IsShallowForm r.formula

abbrev IsShallowLemma : LemmaForm → Type 0
IsShallowLemma l = IsShallowForm l.formula

restrictions_small : (rs : List RestrictionForm) (vs : List TheoryItem) → All IsShallowRestriction rs → AllSmall THEORY_LIMITS vs → AllSmall THEORY_LIMITS (map as_restriction rs ++ vs)
restrictions_small [] vs h k = k
restrictions_small (r ∷ rs) vs h k =
    let s = All-head IsShallowRestriction r rs h in
    ((s.terms, s.levels), restrictions_small rs vs (All-tail IsShallowRestriction r rs h) k)

lemmas_small : (ls : List LemmaForm) → All IsShallowLemma ls → AllSmall THEORY_LIMITS (map as_lemma ls)
lemmas_small [] h = tt
lemmas_small (l ∷ ls) h = let s = All-head IsShallowLemma l ls h in ((s.terms, s.levels), lemmas_small ls (All-tail IsShallowLemma l ls h))

items_small : (t : Theory) → IsShallow t → AllSmall THEORY_LIMITS (printed_items t)
items_small t h =
    skip_builtins (builtins_of t.signature) _ (skip_functions (functions_of t.signature) _
    (rules_small t.rules _ h.rules (restrictions_small t.restrictions _ h.restrictions (lemmas_small t.lemmas h.lemmas))))

-- so the text spells the theory within the limits
pub printed_within : ArePrinted → FormsAreFree → ((most : ℕ) → AreWritten most) → WordsHaveTokens
    → (t : Theory) → IsPrintable MOST_THEORY_NAME_BYTES t → IsShallow t → SpellsWithin (theory_text t) t
printed_within printed free written lexed t p s =
    let text : IsTextWithin printed free written lexed MOST_THEORY_NAME_BYTES t p THEORY_LIMITS = text_within printed free written lexed MOST_THEORY_NAME_BYTES t p THEORY_LIMITS (items_small t s) in
    record { spelled = text.spelled; short = omega (arith, text.short); small = text.small }
