-- What is read of a declaration, without the words behind it.
use Rattle.std.proofs.Common.{◌≡◌, ℕ, Bool, true, false, List, drop, Option, Some, None, refl, sym, ap, ◌∙◌}
use Rattle.std.specs.Prelude.{◌&&◌, codes, if◌then◌else◌, option_map}
use Rattle.sap_terms.specs.declared.signature.Symbol.{Symbol}
use Rattle.sap_terms.specs.declared.signature.Builtin.{Builtin}
use Rattle.sap_grammar.specs.Words.{Word, is_lower, starts}
use Rattle.sap_grammar.specs.Reading.{Read, given, name_at}
use Rattle.sap_grammar.specs.Declarations.{of_builtin, of_symbol}
use Rattle.sap_grammar.specs.ItemReading.{arity_at, builtin_at, declaration_at, mapped, symbol_at, with_privacy}
use Rattle.sap_where.specs.FileDeclarations.{alone}

mapped_alone : {A B : Type 0} (f : A → B) (r : Read A) → alone (mapped f r) ≡ option_map f (alone r)
mapped_alone f None = refl
mapped_alone f (Some p) = refl

pub builtin_declared : (ws : List Word) (o : Option Builtin) → o ≡ alone (builtin_at ws) → alone (declaration_at true ws) ≡ option_map of_builtin o
builtin_declared ws o e = mapped_alone of_builtin (builtin_at ws) ∙ ap (λ (q : Option Builtin). option_map of_builtin q) (sym e)

pub symbol_declared : (ws : List Word) (o : Option Symbol) → o ≡ alone (symbol_at ws) → alone (declaration_at false ws) ≡ option_map of_symbol o
symbol_declared ws o e = mapped_alone of_symbol (symbol_at ws) ∙ ap (λ (q : Option Symbol). option_map of_symbol q) (sym e)

pub no_name : (ws : List Word) → None ≡ name_at ws → None ≡ alone (symbol_at ws)
unfolding given
no_name ws none = rw (← none) refl

pub no_arity : (ws : List Word) (f : List ℕ) → Some f ≡ name_at ws → None ≡ arity_at (drop 2 ws) → None ≡ alone (symbol_at ws)
unfolding given
no_arity ws f name none = rw (← name, ← none) refl

pub symbol_is : (ws : List Word) (f : List ℕ) (n : ℕ) (good : Bool) → Some f ≡ name_at ws → Some n ≡ arity_at (drop 2 ws)
    → is_lower f && starts (codes "/") (drop 1 ws) ≡ good → symbol_at ws ≡ (if good then with_privacy f n (drop 3 ws) else None)
unfolding given
symbol_is ws f n good name arity is = rw (← name, ← arity, is) refl
