-- A search of places list by list.
use Rattle.std.proofs.Common.{◌≡◌, ℕ, List, [], ◌∷◌, ◌++◌, refl, sym, ap, ◌∙◌}
use Rattle.sap_terms.specs.Signature.{Sig}
use Rattle.sap_terms.specs.declared.var.Var.{Var}
use Rattle.sap_process.specs.code.Searches.{searched}
use Rattle.sap_process.specs.Sites.{Site}
use Rattle.sap_process.specs.code.Walks.{found_at, found_after}
use Rattle.sap_process.specs.declared.found.Found.{Found}
use Rattle.sap_process.specs.declared.walk.Walk.{Walk}

found_after-append : (g : Sig) (f : Found) (xs ys : List Site) → found_after g f (xs ++ ys) ≡ found_after g (found_after g f xs) ys
found_after-append g f [] ys = refl
found_after-append g f (x ∷ xs) ys = found_after-append g (found_at g f x) xs ys

-- a search of a list and then of a second one, which depends on where the walk stands, is one of both
pub searched-both : (g : Sig) (xs : List Site) (ys : List ℕ → List Var → List Site) (a b c : Walk) → b ≡ searched g a xs
    → c ≡ searched g b (ys b.trail b.scope) → c ≡ searched g a (xs ++ ys a.trail a.scope)
searched-both g xs ys a b c first second =
    second ∙ ap (λ (z : Walk). searched g z (ys z.trail z.scope)) first
    ∙ ap (λ (f : Found). record a { found = f }) (sym (found_after-append g a.found xs (ys a.trail a.scope)))
