-- Facts, uses and variables are told apart by tests.
use Rattle.std.proofs.Common.{◌≡◌, ℕ, List, refl, sym, ap, subst, ◌∙◌, inl, inr, Bool, true, false}
use Rattle.std.specs.Prelude.{◌&&◌, ◌⊎◌, Contains, [], ◌∷◌}
use Rattle.std.proofs.lemmas.Slice.Eq.{bytes_eq-Decides}
use Rattle.std.specs.Str.{bytes_eq}
use Rattle.sap_terms.specs.Same.{same_sort, same_trees}
use Rattle.sap_terms.specs.Tree.{Tree, trees_of, list_of, list_of-trees_of}
use Rattle.sap_terms.specs.declared.fact.Fact.{Fact}
use Rattle.sap_terms.specs.declared.var.Sort.{Sort}
use Rattle.sap_terms.specs.declared.var.Sort.TheVariants.{Msg, Fresh, Pub}
use Rattle.sap_terms.specs.declared.var.Var.{Var}
use Rattle.sap_attacks.specs.Settling.{Use}
use Rattle.sap_terms.proofs.PlainLaws.Items.{none_contained, cons_cases, first_item, later_item}
use Rattle.sap_terms.proofs.PlainLaws.Tests.{and_true, and_left, and_right, same_trees-refl, same_trees-sound}

abbrev same_flag : Bool → Bool → Bool
same_flag true b = b
same_flag false true = false
same_flag false false = true

flag_self : (b : Bool) → same_flag b b ≡ true
flag_self true = refl
flag_self false = refl

flag_sound : (b c : Bool) → same_flag b c ≡ true → b ≡ c
flag_sound true c e = sym e
flag_sound false true e = cc
flag_sound false false e = refl

-- the facts are one
abbrev pub is_fact : Fact → Fact → Bool
is_fact f h = bytes_eq f.name h.name && (same_flag f.persistent h.persistent && same_trees (trees_of f.args) (trees_of h.args))

pub is_fact-self : (f : Fact) → is_fact f f ≡ true
is_fact-self f = and_true _ _ ((bytes_eq-Decides f.name f.name).1 refl) (and_true _ _ (flag_self f.persistent) (same_trees-refl (trees_of f.args)))

a_fact : (m n : List ℕ) (b c : Bool) (xs ys : List Tree) → m ≡ n → b ≡ c → xs ≡ ys
    → ◌≡◌ {A = Fact} (record { name = m; persistent = b; args = xs }) (record { name = n; persistent = c; args = ys })
a_fact m n b c xs ys e k l = cc

pub is_fact-sound : (f h : Fact) → is_fact f h ≡ true → f ≡ h
is_fact-sound f h e =
    let more = and_right _ _ e in
    a_fact f.name h.name f.persistent h.persistent f.args h.args ((bytes_eq-Decides f.name h.name).0 (and_left _ _ e)) (flag_sound _ _ (and_left _ _ more))
    (sym (list_of-trees_of f.args) ∙ ap list_of (same_trees-sound (trees_of f.args) (trees_of h.args) (and_right _ _ more)) ∙ list_of-trees_of h.args)

-- the uses are one
abbrev pub is_use : Use → Use → Bool
is_use u v = bytes_eq u.name v.name && same_trees (trees_of u.terms) (trees_of v.terms)

pub is_use-self : (u : Use) → is_use u u ≡ true
is_use-self u = and_true _ _ ((bytes_eq-Decides u.name u.name).1 refl) (same_trees-refl (trees_of u.terms))

a_use : (m n : List ℕ) (xs ys : List Tree) → m ≡ n → xs ≡ ys → ◌≡◌ {A = Use} (record { name = m; terms = xs }) (record { name = n; terms = ys })
a_use m n xs ys e l = cc

pub is_use-sound : (u v : Use) → is_use u v ≡ true → u ≡ v
is_use-sound u v e =
    a_use u.name v.name u.terms v.terms ((bytes_eq-Decides u.name v.name).0 (and_left _ _ e))
    (sym (list_of-trees_of u.terms) ∙ ap list_of (same_trees-sound (trees_of u.terms) (trees_of v.terms) (and_right _ _ e)) ∙ list_of-trees_of v.terms)

sort_sound : (s t : Sort) → same_sort s t ≡ true → s ≡ t
sort_sound Msg Msg h = refl
sort_sound Fresh Fresh h = refl
sort_sound Pub Pub h = refl
sort_sound _ _ h = cc

sort_self : (s : Sort) → same_sort s s ≡ true
sort_self Msg = refl
sort_self Fresh = refl
sort_self Pub = refl

-- the variables are one
abbrev is_var : Var → Var → Bool
is_var v w = bytes_eq v.name w.name && same_sort v.sort w.sort

is_var-self : (v : Var) → is_var v v ≡ true
is_var-self v = and_true _ _ ((bytes_eq-Decides v.name v.name).1 refl) (sort_self v.sort)

a_var : (m n : List ℕ) (s t : Sort) → m ≡ n → s ≡ t → ◌≡◌ {A = Var} (record { name = m; sort = s }) (record { name = n; sort = t })
a_var m n s t e f = cc

is_var-sound : (v w : Var) → is_var v w ≡ true → v ≡ w
is_var-sound v w e = a_var v.name w.name v.sort w.sort ((bytes_eq-Decides v.name w.name).0 (and_left _ _ e)) (sort_sound v.sort w.sort (and_right _ _ e))

-- a variable is one of these, or not
pub var_among : (vs : List Var) (v : Var) → Contains vs v ⊎ (¬ Contains vs v)
var_among [] v = inr none_contained
var_among (w ∷ vs) v = go (is_var w v) refl (var_among vs v) where
  go : (b : Bool) → is_var w v ≡ b → Contains vs v ⊎ (¬ Contains vs v) → Contains (w ∷ vs) v ⊎ (¬ Contains (w ∷ vs) v)
  go true e more = inl (subst (λ u. Contains (w ∷ vs) u) (is_var-sound w v e) (first_item w vs))
  go false e (inl c) = inl (later_item w vs v c)
  go false e (inr n) = inr (λ c. elim (cons_cases w vs v c) [ inl same ↦ absurd (let t : is_var w v ≡ true = subst (λ u. is_var w u ≡ true) same (is_var-self w) in cc) | inr c ↦ n c ])
