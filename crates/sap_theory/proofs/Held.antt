-- Declarations that don't clash make a signature that holds the symbols of its builtins.
use Rattle.std.proofs.Common.{◌≡◌, List, [], ◌∷◌, Option, Some, None, refl, sym, ap, subst}
use Rattle.std.specs.Prelude.{is_some, if◌then◌else◌}
use Rattle.sap_terms.specs.Laws.{BuiltinsStayHeld}
use Rattle.sap_terms.specs.Signature.{Sig, HoldsBuiltins, builtin_symbols, added, first_clash, pairs_alone}
use Rattle.sap_grammar.specs.Declarations.{Declaration, of_builtin, of_symbol}
use Rattle.sap_grammar.specs.Signatures.{clash_with, with_declaration, signature_from, clash_from}

-- where the first of two is nothing, neither is anything
neither : {A : Type 0} (o p : Option A) → (if is_some o then o else p) ≡ None → (o ≡ None) × (p ≡ None)
neither None p h = (refl, h)
neither (Some x) p h = absurd (cc (h))

held_from : BuiltinsStayHeld → (g : Sig) (ds : List Declaration) → HoldsBuiltins g → clash_from g ds ≡ None → HoldsBuiltins (signature_from g ds)
held_from laws g [] held h = held
held_from laws g (of_builtin b ∷ ds) held h =
    let none = neither (first_clash g.symbols (builtin_symbols b)) (clash_from (with_declaration g (of_builtin b)) ds) h in
    let is : with_declaration g (of_builtin b) ≡ added g b = ap (λ o. if is_some o then g else added g b) none.0 in
    held_from laws (with_declaration g (of_builtin b)) ds (subst HoldsBuiltins (sym is) (laws.behind_builtin g b held none.0)) none.1
held_from laws g (of_symbol s ∷ ds) held h =
    let none = neither (clash_with g (of_symbol s)) (clash_from (with_declaration g (of_symbol s)) ds) h in
    held_from laws (with_declaration g (of_symbol s)) ds (laws.behind_symbol g s held) none.1

pub builtins_held : BuiltinsStayHeld → (ds : List Declaration) → clash_from pairs_alone ds ≡ None → HoldsBuiltins (signature_from pairs_alone ds)
builtins_held laws ds h = held_from laws pairs_alone ds laws.at_start h
