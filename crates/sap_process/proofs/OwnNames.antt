-- What can be deduced has no name in it that the adversary neither made nor was sent.
use Rattle.std.proofs.Common.{ℕ, suc, List, [], ◌∷◌, Bool, true, false, ◌||◌, cond, sym, subst, inl, inr, arith}
use Rattle.std.specs.Prelude.{Contains, All}
use Rattle.std.specs.Str.{bytes_eq}
use Rattle.sap_terms.specs.Deduce.{IsDerived, IsDerivation, IsDeducible}
use Rattle.sap_terms.specs.Equations.{app0, snd_name, verify_name, reveal_verify_name, true_name}
use Rattle.sap_terms.specs.Signature.{Sig}
use Rattle.sap_terms.specs.Tree.{Tree, variable, public, fresh, apply, Trees, none, more, trees_of}
use Rattle.sap_process.proofs.Members.{member-head, member-none, member-cases}
use Rattle.sap_process.proofs.StepLemmas.{parts, head_part, second_part, takes_first, value_of, value, values, value_equal}

-- each name in it is such a one
abbrev mutual
  pub HasOnly : (ℕ → Type 0) → Tree → Type 0
  HasOnly N (variable v) = Unit {0}
  HasOnly N (public n) = Unit {0}
  HasOnly N (fresh k) = N k
  HasOnly N (apply f ts) = HaveOnly N ts

  pub HaveOnly : (ℕ → Type 0) → Trees → Type 0
  HaveOnly N none = Unit {0}
  HaveOnly N (more t ts) = HasOnly N t × HaveOnly N ts

parts_have : (N : ℕ → Type 0) (ts : Trees) → HaveOnly N ts → HaveOnly N (parts ts)
parts_have N none h = tt
parts_have N (more (variable v) us) h = tt
parts_have N (more (public n) us) h = tt
parts_have N (more (fresh k) us) h = tt
parts_have N (more (apply f ts) us) h = h.0

head_has : (N : ℕ → Type 0) (ts : Trees) → HaveOnly N ts → HasOnly N (head_part ts)
head_has N none h = tt
head_has N (more t ts) h = h.0

second_has : (N : ℕ → Type 0) (ts : Trees) → HaveOnly N ts → HasOnly N (second_part ts)
second_has N none h = tt
second_has N (more t ts) h = head_has N ts h.1

value_has : (N : ℕ → Type 0) (f : List ℕ) (ts : Trees) → HaveOnly N ts → HasOnly N (value_of f ts)
value_has N f ts h = go (takes_first f) (bytes_eq f snd_name) (bytes_eq f verify_name || bytes_eq f reveal_verify_name)
  where
    go : (one two three : Bool) → HasOnly N (cond one (head_part (parts ts)) (cond two (second_part (parts ts)) (cond three (app0 true_name) (apply f ts))))
    go true two three = head_has N (parts ts) (parts_have N ts h)
    go false true three = second_has N (parts ts) (parts_have N ts h)
    go false false true = tt
    go false false false = h

args_have : (N : ℕ → Type 0) (earlier ts : List Tree) → ((t : Tree) → Contains earlier t → HasOnly N (value t)) → All (Contains earlier) ts
    → HaveOnly N (values (trees_of ts))
args_have N earlier [] h c = tt
args_have N earlier (t ∷ ts) h c = (h t (c 0 t (omega arith)), args_have N earlier ts h (λ k d less. c (suc k) d (omega (arith, less))))

module _ (N : ℕ → Type 0) (g : Sig) (own : List ℕ) (frame : List Tree) (made : (k : ℕ) → Contains own k → N k)
    (sent : (t : Tree) → Contains frame t → HasOnly N (value t)) where
  derived_has : (earlier : List Tree) (t : Tree) → ((u : Tree) → Contains earlier u → HasOnly N (value u)) → IsDerived g own frame earlier t
      → HasOnly N (value t)
  derived_has earlier t h (IsDerived.a_public n e) = subst (λ u. HasOnly N (value u)) (sym e) tt
  derived_has earlier t h (IsDerived.a_name n m e) = subst (λ u. HasOnly N (value u)) (sym e) (made n m)
  derived_has earlier t h (IsDerived.given m) = sent t m
  derived_has earlier t h (IsDerived.applied f ts public_is arity all form) =
      subst (HasOnly N) (value_equal form.equal) (value_has N f (values (trees_of ts)) (args_have N earlier ts h all))

  all_have : (ts : List Tree) → IsDerivation g own frame ts → (t : Tree) → Contains ts t → HasOnly N (value t)
  all_have [] d t m = absurd (member-none t m)
  all_have (u ∷ ts) d t m =
      let later = all_have ts d.1 in
      elim (member-cases u ts t m) [ inl e ↦ subst (λ w. HasOnly N (value w)) e (derived_has ts u later d.0) | inr k ↦ later t k ]

  pub deduced_has : (t : Tree) → IsDeducible g own frame t → HasOnly N (value t)
  deduced_has t d =
      subst (HasOnly N) (sym (value_equal d.is_form.equal)) (all_have (d.form ∷ d.earlier) d.derivation d.form (member-head d.form d.earlier))

-- names that are such ones are such others
mutual
  pub has_more : (N M : ℕ → Type 0) → ((k : ℕ) → N k → M k) → (t : Tree) → HasOnly N t → HasOnly M t
  has_more N M more_are (variable v) h = tt
  has_more N M more_are (public n) h = tt
  has_more N M more_are (fresh k) h = more_are k h
  has_more N M more_are (apply f ts) h = have_more N M more_are ts h

  have_more : (N M : ℕ → Type 0) → ((k : ℕ) → N k → M k) → (ts : Trees) → HaveOnly N ts → HaveOnly M ts
  have_more N M more_are none h = tt
  have_more N M more_are (more t ts) h = (has_more N M more_are t h.0, have_more N M more_are ts h.1)
