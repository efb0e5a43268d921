use Rattle.std.proofs.Common.{◌≡◌, List, [], length, inr, refl, sym, ap, subst, ◌∙◌}
use Rattle.sap_terms.specs.Tree.{Tree, apply, trees_of}
use Rattle.sap_rewrite.specs.Match.{IsOnlyMatch, HasNoMatch}
use Rattle.sap_share.specs.Env.{bindings_of}
use Rattle.sap_share.specs.Shared.{trees_at, AreBelow}
use Rattle.sap_heads.specs.code.Rules.{together, IsFit}
use Rattle.sap_heads.proofs.Flat.{shapes_seen, args_seen, args_below}
use Rattle.sap_heads.proofs.fitting.found.Goals as goal

pub returns-then-not-are_alike-clause-refused : goal.returns-then-not-are_alike-clause-refused
returns-then-not-are_alike-clause-refused c =
    inr (refl, λ same. let alike = c.are_alike.ensures.1 (same ∙ shapes_seen c.args.table.now.trees c.args.cited.now) in let no : ⊥ = cc (alike, c.if-not-are_alike.true) in absurd no)

pub fit_terms-requires-clause-below : goal.fit_terms-requires-clause-below
fit_terms-requires-clause-below c = subst (AreBelow (length c.args.table.now.trees)) (sym c.in-Ok.ensures) (args_below (length c.args.table.now.trees) c.args.cited.now c.requires.below)

pub returns-in-Ok-None-clause-refused : goal.returns-in-Ok-None-clause-refused
returns-in-Ok-None-clause-refused c =
    let ts = c.args.table.now.trees in
    let is : trees_at ts c.in-Ok.ks ≡ _ = ap (trees_at ts) c.in-Ok.ensures ∙ args_seen ts c.args.cited.now in
    let none = subst (IsFit ts c.args.env.now c.args.l.now c.in-Ok.ks) c.in-Ok-None.field-0-is c.in-Ok-None.ensures in
    inr (refl, λ same. subst (λ (us : List Tree). HasNoMatch (together c.args.l.now) (apply [] (trees_of us)) (bindings_of ts c.args.env.now)) is none)

pub returns-clause-ok : goal.returns-clause-ok
returns-clause-ok c =
    let ts = c.args.table.now.trees in
    let is : trees_at ts c.in-Ok.ks ≡ _ = ap (trees_at ts) c.in-Ok.ensures ∙ args_seen ts c.args.cited.now in
    let some = subst (IsFit ts c.args.env.now c.args.l.now c.in-Ok.ks) c.in-Ok-Some.field-0-is c.in-Ok-Some.ensures in
    record {
      alike = c.are_alike.ensures.0 c.if-not-are_alike.false ∙ sym (shapes_seen ts c.args.cited.now);
      only = subst (λ (us : List Tree). IsOnlyMatch (together c.args.l.now) (apply [] (trees_of us)) (bindings_of ts c.args.env.now) (bindings_of ts c.in-Ok-Some.found)) is some.0;
      below = some.1;
    }
