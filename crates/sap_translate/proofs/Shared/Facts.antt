-- The tests tell names, variables, terms and facts apart.
use Rattle.std.proofs.Common.{◌≡◌, ℕ, ◌==◌, List, refl, sym, ap, ◌∙◌, arith, subst, Bool, true, false, cond}
use Rattle.std.proofs.lemmas.Slice.Eq.{bytes_eq-Decides}
use Rattle.std.specs.Str.{bytes_eq}
use Rattle.sap_terms.specs.Reserved.{is_reserved}
use Rattle.sap_terms.specs.Same.{same_sort}
use Rattle.sap_terms.specs.Signature.{same_bool}
use Rattle.sap_terms.specs.Tree.{Tree, trees_of, list_of, list_of-trees_of}
use Rattle.sap_terms.specs.declared.fact.Fact.{Fact}
use Rattle.sap_terms.specs.declared.var.Sort.{Sort}
use Rattle.sap_terms.specs.declared.var.Sort.TheVariants.{Msg, Fresh, Pub}
use Rattle.sap_terms.specs.declared.var.Var.{Var}
use Rattle.sap_terms.proofs.PlainLaws.Tests.{and_true, and_left, and_right, same_trees-refl, same_trees-sound}
use Rattle.sap_translate.specs.relation.Names.{same_var, same_fact}

-- a choice that is true says that its test is
pub both_true : (b c : Bool) → cond b c false ≡ true → (b ≡ true) × (c ≡ true)
both_true true c e = (refl, e)
both_true false c e = cc

pub eq_true : (m n : ℕ) → (m == n) ≡ true → m ≡ n
eq_true m n e = grind arith

pub eq_self : (n : ℕ) → (n == n) ≡ true
eq_self n = grind arith

pub same_name_true : (a b : List ℕ) → bytes_eq a b ≡ true → a ≡ b
same_name_true a b e = (bytes_eq-Decides a b).0 e

pub same_name_self : (a : List ℕ) → bytes_eq a a ≡ true
same_name_self a = (bytes_eq-Decides a a).1 refl

same_sort_true : (s t : Sort) → same_sort s t ≡ true → s ≡ t
same_sort_true Msg Msg h = refl
same_sort_true Fresh Fresh h = refl
same_sort_true Pub Pub h = refl
same_sort_true _ _ h = cc

same_sort_self : (s : Sort) → same_sort s s ≡ true
same_sort_self Msg = refl
same_sort_self Fresh = refl
same_sort_self Pub = refl

a_var : (m n : List ℕ) (s t : Sort) → m ≡ n → s ≡ t → ◌≡◌ {A = Var} (record { name = m; sort = s }) (record { name = n; sort = t })
a_var m n s t e f = cc

pub same_var_true : (v w : Var) → same_var v w ≡ true → v ≡ w
same_var_true v w e = a_var v.name w.name v.sort w.sort (same_name_true v.name w.name (and_left _ _ e)) (same_sort_true v.sort w.sort (and_right _ _ e))

pub same_var_self : (v : Var) → same_var v v ≡ true
same_var_self v = and_true _ _ (same_name_self v.name) (same_sort_self v.sort)

same_bool_true : (a b : Bool) → same_bool a b ≡ true → a ≡ b
same_bool_true true b e = sym e
same_bool_true false true e = e
same_bool_true false false e = refl

same_bool_self : (a : Bool) → same_bool a a ≡ true
same_bool_self true = refl
same_bool_self false = refl

pub made : (m n : List ℕ) (a b : Bool) (x y : List Tree) → m ≡ n → a ≡ b → x ≡ y → ◌≡◌ {A = Fact} (record { name = m; persistent = a; args = x }) (record { name = n; persistent = b; args = y })
made m n a b x y e f g = cc

pub same_fact_true : (f g : Fact) → same_fact f g ≡ true → f ≡ g
same_fact_true f g e =
    let h = and_right (bytes_eq f.name g.name) _ e in
    let one : f.name ≡ g.name = same_name_true f.name g.name (and_left _ _ e) in
    let two : f.persistent ≡ g.persistent = same_bool_true f.persistent g.persistent (and_left _ _ h) in
    let trees = same_trees-sound (trees_of f.args) (trees_of g.args) (and_right (same_bool f.persistent g.persistent) _ h) in
    let three : f.args ≡ g.args = sym (list_of-trees_of f.args) ∙ ap list_of trees ∙ list_of-trees_of g.args in
    made f.name g.name f.persistent g.persistent f.args g.args one two three

pub same_fact_self : (f : Fact) → same_fact f f ≡ true
same_fact_self f = and_true _ _ (same_name_self f.name) (and_true _ _ (same_bool_self f.persistent) (same_trees-refl (trees_of f.args)))

-- names that the test tells apart
pub names_apart : (a b : List ℕ) → bytes_eq a b ≡ false → a ≡ b → ⊥
names_apart a b e g =
    let h : bytes_eq a b ≡ true = subst (λ n. bytes_eq a n ≡ true) g (same_name_self a) in
    let z : false ≡ true = sym e ∙ h in
    cc

-- a name that isn't reserved is no reserved name
pub not_reserved : (n word : List ℕ) → is_reserved n ≡ false → is_reserved word ≡ true → bytes_eq n word ≡ false
not_reserved n word h r = go (bytes_eq n word) refl
  where
    go : (b : Bool) → bytes_eq n word ≡ b → b ≡ false
    go true e = absurd (let z : false ≡ true = sym h ∙ ap is_reserved (same_name_true n word e) ∙ r in cc)
    go false e = refl
