-- Trees as ghost values, so that a proof can tell them apart.
use Rattle.std.specs.Prelude.{◌≡◌, ℕ, zero, suc, List, [], ◌∷◌, refl}
use Rattle.std.proofs.Common.{ap}
use Rattle.std.specs.Coded.{Coded, code_by, coded_list}
use base.Stored.{Gv, gnil, gnum, gcons}
use Rattle.sap_terms.specs.declared.var.Sort.{Sort}
use Rattle.sap_terms.specs.declared.var.Sort.TheVariants.{Msg, Fresh, Pub}
use Rattle.sap_terms.specs.Tree.{Tree, variable, public, fresh, apply, Trees, none, more}

abbrev sort_to : Sort → ℕ
sort_to Msg = 0
sort_to Fresh = 1
sort_to Pub = 2

abbrev sort_from : ℕ → Sort
sort_from zero = Msg
sort_from (suc zero) = Fresh
sort_from (suc (suc n)) = Pub

abbrev name_to : List ℕ → Gv
name_to [] = gnil
name_to (x ∷ xs) = gcons (gnum x) (name_to xs)

abbrev name_from : Gv → List ℕ
name_from gnil = []
name_from (gnum k) = []
name_from (gcons gnil r) = []
name_from (gcons (gnum x) r) = x ∷ name_from r
name_from (gcons (gcons a b) r) = []

abbrev mutual
  tree_to : Tree → Gv
  tree_to (variable v) = gcons (gnum (sort_to v.sort)) (name_to v.name)
  tree_to (public n) = gcons gnil (name_to n)
  tree_to (fresh k) = gnum k
  tree_to (apply f ts) = gcons (gcons gnil (name_to f)) (trees_to ts)

  trees_to : Trees → Gv
  trees_to none = gnil
  trees_to (more t ts) = gcons (tree_to t) (trees_to ts)

abbrev mutual
  tree_from : Gv → Tree
  tree_from gnil = fresh 0
  tree_from (gnum k) = fresh k
  tree_from (gcons gnil n) = public (name_from n)
  tree_from (gcons (gnum s) n) = variable (record { name = name_from n; sort = sort_from s })
  tree_from (gcons (gcons a f) ts) = apply (name_from f) (trees_from ts)

  trees_from : Gv → Trees
  trees_from gnil = none
  trees_from (gnum k) = none
  trees_from (gcons t ts) = more (tree_from t) (trees_from ts)

sort_back : (s : Sort) → sort_from (sort_to s) ≡ s
sort_back Msg = refl
sort_back Fresh = refl
sort_back Pub = refl

name_back : (n : List ℕ) → name_from (name_to n) ≡ n
name_back [] = refl
name_back (x ∷ xs) = ap (λ ys. x ∷ ys) (name_back xs)

mutual
  pub tree_back : (t : Tree) → tree_from (tree_to t) ≡ t
  tree_back (variable v) = λ i. variable (record { name = name_back v.name i; sort = sort_back v.sort i })
  tree_back (public n) = ap public (name_back n)
  tree_back (fresh k) = refl
  tree_back (apply f ts) = λ i. apply (name_back f i) (trees_back ts i)

  pub trees_back : (ts : Trees) → trees_from (trees_to ts) ≡ ts
  trees_back none = refl
  trees_back (more t ts) = λ i. more (tree_back t i) (trees_back ts i)

abbrev coded_gv : Coded Gv
coded_gv = record { code = λ g. g; inj = λ x y p. p }

abbrev pub tree_code : Coded Tree
tree_code = code_by Gv coded_gv tree_to tree_from tree_back

abbrev pub list_code : Coded (List Tree)
list_code = coded_list tree_code
