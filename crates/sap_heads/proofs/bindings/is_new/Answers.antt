use Rattle.std.proofs.Common.{◌++◌, ◌∷◌, [], ◌||◌, not, sym, ap, refl, ◌∙◌, append_assoc}
use Rattle.sap_terms.specs.Variables.{is_known}
use Rattle.sap_heads.specs.Bound.{names_of}
use Rattle.sap_heads.proofs.Known.{any_known, known_append, known_again, known_put, alike_ends, sifted}
use Rattle.sap_heads.proofs.bindings.is_new.Goals as goal

pub returns-then-binds-clause-new : goal.returns-then-binds-clause-new
returns-then-binds-clause-new c =
    let old = c.args.known.now in
    let bound = names_of c.args.env.now in
    ap not (sym (known_append bound old c.args.v.now.name ∙ ap (λ t. t || is_known old c.args.v.now.name) (sym c.binds.ensures ∙ c.if-binds.true)))

pub returns-then-binds-clause-sifts : goal.returns-then-binds-clause-sifts
returns-then-binds-clause-sifts c =
    let old = c.args.known.now in
    let bound = names_of c.args.env.now in
    sifted (bound ++ old) (bound ++ old) c.args.v.now (known_again (bound ++ old) c.args.v.now.name (known_append bound old c.args.v.now.name ∙ ap (λ t. t || is_known old c.args.v.now.name) (sym c.binds.ensures ∙ c.if-binds.true)))

pub returns-clause-new : goal.returns-clause-new
returns-clause-new c =
    let old = c.args.known.now in
    let bound = names_of c.args.env.now in
    c.in_ok-added.ensures.new ∙ ap not (any_known old c.args.v.now.name) ∙ ap not (sym (known_append bound old c.args.v.now.name ∙ ap (λ t. t || is_known old c.args.v.now.name) (sym c.binds.ensures ∙ c.if-binds.false)))

pub returns-clause-sifts : goal.returns-clause-sifts
returns-clause-sifts c =
    let old = c.args.known.now in
    let new = c.insert.new.self in
    let bound = names_of c.args.env.now in
    sifted (bound ++ old) (bound ++ new) c.args.v.now (λ n. alike_ends bound bound new (old ++ c.args.v.now.name ∷ []) (λ m. refl) (known_put old new c.args.v.now.name c.in_ok-added.ensures.more) n ∙ ap (λ ks. is_known ks n) (sym (append_assoc bound old (c.args.v.now.name ∷ []))))
