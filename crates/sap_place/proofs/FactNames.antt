-- Facts of control have the paths of their places.
use Rattle.std.proofs.Common.{◌≡◌, ◌+◌, ℕ, List, [], ◌∷◌, ◌++◌, map, Bool, true, false, refl, sym, ap, ◌∙◌, arith}
use Rattle.std.specs.Prelude.{nat_eq}
use Rattle.sap_terms.specs.FactNames.{state_prefix, semi_prefix}
use Rattle.sap_terms.specs.Tree.{variable}
use Rattle.sap_terms.specs.declared.fact.Fact.{Fact}
use Rattle.sap_terms.specs.declared.var.Var.{Var}
use Rattle.sap_place.specs.StateFacts.{digits, state_of, semi_of}
use Rattle.sap_place.specs.declared.place.Form.{Form}
use Rattle.sap_place.specs.declared.place.Form.TheVariants.{Nil, Par, Rep, New, Out, Send, In, Recv, If, Event, Insert, Delete, Lookup, Lock, Unlock, Embedded}
use Rattle.sap_place.specs.declared.place.Place.{Place}

-- digits are those of one path
one_path : (p q : List ℕ) → digits p ≡ digits q → p ≡ q
one_path [] [] e = refl
one_path [] (d ∷ q) e = cc
one_path (d ∷ p) [] e = cc
one_path (d ∷ p) (k ∷ q) e =
    let first : 48 + d ≡ 48 + k = cc in
    let rest : digits p ≡ digits q = cc in
    let same : d ≡ k = omega arith in
    let later : p ≡ q = one_path p q rest in
    cc

-- what variables are as terms, they are of one list of variables
one_scope : (v w : List Var) → map variable v ≡ map variable w → v ≡ w
one_scope [] [] e = refl
one_scope [] (y ∷ w) e = cc
one_scope (x ∷ v) [] e = cc
one_scope (x ∷ v) (y ∷ w) e =
    let first : variable x ≡ variable y = cc in
    let rest : map variable v ≡ map variable w = cc in
    let same : x ≡ y = cc in
    let later : v ≡ w = one_scope v w rest in
    cc

behind_state : (p q : List ℕ) → state_prefix ++ p ≡ state_prefix ++ q → p ≡ q
behind_state p q e = cc

behind_semi : (p q : List ℕ) → semi_prefix ++ p ≡ semi_prefix ++ q → p ≡ q
behind_semi p q e = cc

pub state_paths : (s t : Place) → (state_of s).name ≡ (state_of t).name → s.path ≡ t.path
state_paths s t e = one_path s.path t.path (behind_state (digits s.path) (digits t.path) e)

pub state_scopes : (s t : Place) → state_of s ≡ state_of t → s.scope ≡ t.scope
state_scopes s t e = one_scope s.scope t.scope (ap (λ (f : Fact). f.args) e)

semi_name : (f : Form) (s : Place) → (semi_of f s).name ≡ semi_prefix ++ digits s.path
semi_name Nil s = refl
semi_name Par s = refl
semi_name Rep s = refl
semi_name New s = refl
semi_name Out s = refl
semi_name Send s = refl
semi_name In s = refl
semi_name Recv s = refl
semi_name If s = refl
semi_name Event s = refl
semi_name Insert s = refl
semi_name Delete s = refl
semi_name Lookup s = refl
semi_name Lock s = refl
semi_name Unlock s = refl
semi_name Embedded s = refl

pub semi_paths : (f h : Form) (s t : Place) → (semi_of f s).name ≡ (semi_of h t).name → s.path ≡ t.path
semi_paths f h s t e =
    one_path s.path t.path (behind_semi (digits s.path) (digits t.path) (sym (semi_name f s) ∙ e ∙ semi_name h t))

-- the second byte is a `t`
abbrev second_t : List ℕ → Bool
second_t (n ∷ m ∷ ns) = nat_eq m 116
second_t _ = false

prefixes_differ : (p q : List ℕ) → state_prefix ++ p ≡ semi_prefix ++ q → ⊥
prefixes_differ p q e = let z : true ≡ false = ap second_t e in cc

pub names_apart : (f : Form) (s t : Place) → (state_of s).name ≡ (semi_of f t).name → ⊥
names_apart f s t e = prefixes_differ (digits s.path) (digits t.path) (e ∙ semi_name f t)
