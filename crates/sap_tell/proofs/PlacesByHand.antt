-- What stands at a path, and what doesn't, tried by hand.
use Rattle.std.proofs.Common.{◌≡◌, ℕ, List, [], ◌∷◌, Some, refl, sym, ap, subst, ◌∙◌, ⊎_elim}
use Rattle.sap_terms.specs.Ground.{IsGround}
use Rattle.sap_terms.specs.Tree.{Tree, variable}
use Rattle.sap_terms.specs.declared.fact.Fact.{Fact}
use Rattle.sap_terms.specs.declared.var.Sort.TheVariants.{Fresh, Msg}
use Rattle.sap_terms.specs.declared.var.Var.{Var}
use Rattle.sap_process.specs.Instance.{process_instance}
use Rattle.sap_process.specs.Places.{Place, place, place_at}
use Rattle.sap_process.specs.Proc.{Proc, nil}
use Rattle.sap_tell.specs.ThreadPlaces.{nothing_down, IsInstanceAt}
use Rattle.sap_tell.specs.ToldExamples.{a_of, fresh_n, hi, showing, taking, x}

-- what is told to stand at a path is what stands there
body_is : (path : List ℕ) (q : Proc) (a : Place (Unit {0})) → place_at nothing_down tt taking path ≡ Some a → (h : IsInstanceAt taking path q) → q ≡ process_instance h.choice a.body
body_is path q a e h = let same : h.place ≡ a = cc in h.is ∙ ap (λ (b : Place (Unit {0})). process_instance h.choice b.body) same

first_arg : (t u : Tree) → showing t ≡ showing u → t ≡ u
first_arg t u e =
    let facts : a_of t ≡ a_of u = cc in
    let args : t ∷ [] ≡ u ∷ [] = ap (λ (f : Fact). f.args) facts in
    head_is t u args
  where
    head_is : (t u : Tree) → t ∷ [] ≡ u ∷ [] → t ≡ u
    head_is t u e = cc

apart : variable fresh_n ≡ variable x → ⊥
apart e =
    let one : fresh_n ≡ x = cc in
    let sorts : Fresh ≡ Msg = ap (λ (v : Var). v.sort) one in
    absurd (cc)

pub other_variable : ¬ IsInstanceAt taking (1 ∷ 1 ∷ []) (showing (variable fresh_n))
other_variable h =
    let e = first_arg (variable fresh_n) (h.choice x) (body_is (1 ∷ 1 ∷ []) (showing (variable fresh_n)) (place (1 ∷ 1 ∷ []) tt (showing (variable x))) refl h) in
    ⊎_elim (λ k. subst IsGround (sym e) k) (λ k. apart (e ∙ k)) (h.replaces x)

pub other_form : ¬ IsInstanceAt taking (1 ∷ 2 ∷ []) (showing hi)
other_form h = let e = body_is (1 ∷ 2 ∷ []) (showing hi) (place (1 ∷ 2 ∷ []) tt nil) refl h in absurd (cc)

pub further : ¬ IsInstanceAt taking (1 ∷ 1 ∷ 1 ∷ []) (showing hi)
further h = let e = body_is (1 ∷ 1 ∷ 1 ∷ []) (showing hi) (place (1 ∷ 1 ∷ 1 ∷ []) tt nil) refl h in absurd (cc)

pub nowhere : (q : Proc) → ¬ IsInstanceAt taking (2 ∷ []) q
nowhere q h = let e = h.there in absurd (cc)
