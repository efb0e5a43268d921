use Rattle.std.proofs.Common.{◌≡◌, ◌++◌, ◌∷◌, [], List, ℕ, ap, sym, ◌∙◌, length, take}
use Rattle.std.proofs.Math.Seq.{take-append_seam}
use Rattle.sap_terms.specs.NameMap.{value_at}
use Rattle.sap_terms.specs.code.Places.{index_of}
use Rattle.sap_terms.proofs.NamedLemmas.{no_place, places-again}
use Rattle.sap_terms.proofs.named.Named.push_new.Goals as goal

-- what is left of a list with an item more
left : {X : Type 0} (items old cut : List X) (x : X) (last : ℕ) → items ≡ old ++ x ∷ [] → last ≡ length old → cut ≡ take last items → old ≡ cut
left items old cut x last more f e = sym (e ∙ (λ i. take (f i) (more i)) ∙ take-append_seam old (x ∷ []))

pub returns-then-first-last-clause-first : goal.returns-then-first-last-clause-first
returns-then-first-last-clause-first g c =
    no_place g.T.HasName.name_of c.args.self.now (g.T.HasName.name_of c.args.item) c.len-last.result c.in_ok-first.first c.in_ok-first.ensures.first (c.len-last.ensures ∙ ap length c.self.view_is) c.if-first-last.true

pub invariant_of-self : goal.invariant_of-self
invariant_of-self g c =
    let old = c.args.self.now in
    let items = c.self-2.inside.items in
    let more : items ≡ old ++ c.args.item ∷ [] = c.self-2.view_is ∙ c.in_ok-first.ensures.ok in
    let last = c.len-last.ensures ∙ ap length c.self.view_is in
    λ n.
    places-again g.T.HasName.name_of (value_at c.self-2.inside.places) items old c.args.item c.len-last.result c.in_ok-first.first more c.self-2.invariant c.in_ok-first.ensures.first last c.if-first-last.false n
    ∙ ap (λ us. index_of g.T.HasName.name_of us n) (left items old c.cut.new.self c.args.item c.len-last.result more last c.cut.ensures)
