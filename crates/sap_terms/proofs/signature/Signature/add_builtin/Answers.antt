use Rattle.std.proofs.Common.{◌≡◌, List, None, sym, ap, subst, ◌∙◌}
use Rattle.sap_terms.specs.Signature.{Sig, IsMap, HoldsBuiltins, added, builtin_symbols, declared_all, first_clash, with_builtin}
use Rattle.sap_terms.specs.declared.builtins.Builtins.{Builtins}
use Rattle.sap_terms.specs.declared.signature.Builtin.{Builtin}
use Rattle.sap_terms.specs.declared.signature.Symbol.{Symbol}
use Rattle.sap_terms.proofs.SignatureLemmas.{IsMap-declared_all, HoldsBuiltins-added}
use Rattle.sap_terms.proofs.signature.Signature.add_builtin.Goals as goal

-- what holds of the signature with the builtin's symbols holds of these symbols and builtins, if they are the same
held : (g : Sig) (b : Builtin) (xs ss : List Symbol) (on : Builtins) → IsMap g.symbols → HoldsBuiltins g → xs ≡ builtin_symbols b → first_clash g.symbols xs ≡ None → ss ≡ declared_all g.symbols xs → on ≡ with_builtin g.builtins b → IsMap ss × HoldsBuiltins (record { symbols = ss; builtins = on })
held g b xs ss on m h is f e o =
    let none = subst (λ ys. first_clash g.symbols ys ≡ None) is f in
    let same = e ∙ ap (declared_all g.symbols) is in
    let made : IsMap (declared_all g.symbols (builtin_symbols b)) × HoldsBuiltins (added g b) = (IsMap-declared_all g.symbols (builtin_symbols b) m, HoldsBuiltins-added g b h none) in
    let both = subst (λ rs. IsMap rs × HoldsBuiltins (record { symbols = rs; builtins = with_builtin g.builtins b })) (sym same) made in
    subst (λ os. IsMap ss × HoldsBuiltins (record { symbols = ss; builtins = os })) (sym o) both

pub invariant_of-self-2 : goal.invariant_of-self-2
invariant_of-self-2 c =
    held (record { symbols = c.self.inside.symbols; builtins = c.self.inside.builtins }) c.args.b c.in_ok-added.added c.join-joined.new.symbols c.including-self-inside.result c.self.invariant.0 c.self.invariant.1 (c.in_ok-added.ensures ∙ c.rows_of.ensures) c.in_ok-joined.ensures.no_clash c.in_ok-joined.ensures.ok c.including-self-inside.ensures
