-- Facts of one name, list after list.
use Rattle.std.proofs.Common.{◌≡◌, List, [], ◌∷◌, ◌++◌, Bool, ◌||◌, refl, sym, ap, ◌∙◌}
use Rattle.std.proofs.Math.Bool.{or_assoc}
use Rattle.sap_terms.specs.declared.fact.Fact.{Fact}
use Rattle.sap_process.specs.code.Tests.{Shapes, noted_shape, shape_of, is_other_shape, noted, noted_all, has_clash}

pub noted-append : (both : Bool) (met : Shapes) (fs hs : List Fact) → noted_all both met (fs ++ hs) ≡ noted_all both (noted_all both met fs) hs
noted-append both met [] hs = refl
noted-append both met (f ∷ fs) hs = noted-append both (noted met f.name (shape_of both f)) fs hs

pub clash-append : (both : Bool) (met : Shapes) (fs hs : List Fact) → has_clash both met (fs ++ hs) ≡ (has_clash both met fs || has_clash both (noted_all both met fs) hs)
clash-append both met [] hs = refl
clash-append both met (f ∷ fs) hs =
    let after = noted met f.name (shape_of both f) in
    ap (λ b. is_other_shape (noted_shape met f.name) (shape_of both f) || b) (clash-append both after fs hs)
    ∙ sym (or_assoc (is_other_shape (noted_shape met f.name) (shape_of both f)) (has_clash both after fs) (has_clash both (noted_all both after fs) hs))

pub ruleset clash_lists = (noted-append, clash-append)
