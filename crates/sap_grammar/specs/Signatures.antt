-- The signature that declarations make, and the first of them that clashes.
use Rattle.std.specs.Prelude.{ℕ, List, [], ◌∷◌, Option, Some, None, if◌then◌else◌, is_some}
use Rattle.sap_terms.specs.Signature.{Sig, builtin_symbols, is_held_otherwise, first_clash, declared, added}
use Rattle.sap_grammar.specs.Declarations.{Declaration, of_builtin, of_symbol}

-- the name that the declaration declares otherwise than the signature holds it; of a builtin the first such
abbrev pub clash_with : Sig → Declaration → Option (List ℕ)
clash_with g (of_builtin b) = first_clash g.symbols (builtin_symbols b)
clash_with g (of_symbol s) = if is_held_otherwise g.symbols s then Some s.name else None

-- the signature with what the declaration adds, where it doesn't clash
abbrev pub with_declaration : Sig → Declaration → Sig
with_declaration g (of_builtin b) = if is_some (first_clash g.symbols (builtin_symbols b)) then g
    else added g b
with_declaration g (of_symbol s) =
    record g { symbols = declared g.symbols s.name s.arity s.private }

-- the signature with these, one after another
abbrev pub signature_from : Sig → List Declaration → Sig
signature_from g [] = g
signature_from g (d ∷ ds) = signature_from (with_declaration g d) ds

-- the name at which the first of these clashes with what stands before it
abbrev pub clash_from : Sig → List Declaration → Option (List ℕ)
clash_from g [] = None
clash_from g (d ∷ ds) = if is_some (clash_with g d) then clash_with g d
    else clash_from (with_declaration g d) ds
