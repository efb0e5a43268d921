use Rattle.std.proofs.Common.{◌≡◌, ◌<◌, ℕ, List, length, Some, refl, sym, ap, ◌∙◌, subst, arith}
use Rattle.std.proofs.lemmas.List.{length-map}
use Rattle.std.proofs.lemmas.List.Elements.{All-weaker}
use Rattle.std.proofs.lemmas.Result.{on_ok_weaker}
use Rattle.sap_terms.specs.Tree.{Tree, apply, trees_of, list_of-trees_of}
use Rattle.sap_terms.specs.Message.{IsOver}
use Rattle.sap_terms.specs.Signature.{Sig, IsPublic, arity_of}
use Rattle.sap_share.specs.Shared.{tree_at, trees_at, AreBelow}
use Rattle.sap_derive.specs.code.Clauses.{IsNumbered, HasClause}
use Rattle.sap_derive.specs.declared.line.Line.TheVariants.{Apply}
use Rattle.sap_derive.proofs.Brought.{composed-numbered, makings-applied}
use Rattle.sap_derive.proofs.bring.make_applied.Goals as goal

pub add_applied-requires-clause-this : goal.add_applied-requires-clause-this
add_applied-requires-clause-this c =
    let trees = c.args.table.now.trees in
    let g = c.args.table.now.sig in
    let f = c.args.f.now in
    let ks = c.args.ks.now in
    let n_below = c.requires.number in
    let below : AreBelow (length trees) ks = All-weaker (λ k. k < c.args.n) (λ k. k < length trees) (λ k l. omega arith) ks c.requires.below in
    let over : IsOver g (apply f (trees_of (trees_at trees ks))) = subst (λ (t : Tree). IsOver g t) (sym c.requires.tree) (c.each_is_over.ensures c.args.n n_below) in
    let arity : arity_of g f ≡ Some (length ks) = over.0 ∙ ap Some (ap length (list_of-trees_of (trees_at trees ks)) ∙ length-map ks (tree_at trees)) in
    let public : IsPublic g f = subst (λ (s : Sig). IsPublic s f) c.signature.ensures (c.if-not-is_public.ensures.0 refl) in
    subst (λ (js : List ℕ). IsNumbered g trees (record { line = Apply f js; gives = c.args.n })) (sym c.as_slice.ensures) (composed-numbered g trees f ks c.args.n n_below below public arity c.requires.tree c.requires.normal)

pub returns-clause-has : goal.returns-clause-has
returns-clause-has c =
    let trees = c.args.table.now.trees in
    let g = c.args.table.now.sig in
    let f = c.args.f.now in
    let ks = c.args.ks.now in
    let end = c.add_applied.new.closure in
    let makes = λ (h : HasClause trees end.clauses (trees_at trees c.as_slice.result.now) (tree_at trees c.args.n)).
    makings-applied g trees end.clauses f (trees_at trees ks) (tree_at trees c.args.n) c.requires.tree
    (λ p. subst (λ (js : List ℕ). HasClause trees end.clauses (trees_at trees js) (tree_at trees c.args.n)) c.as_slice.ensures h) in
    on_ok_weaker c.add_applied.result makes c.add_applied.ensures.has
