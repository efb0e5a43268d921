-- Names as a set and as a list.
use Rattle.std.proofs.Common.{◌≡◌, ℕ, Bool, true, false, ◌||◌, nat_eq, List, [], ◌∷◌, ◌++◌, refl, sym, ap, ◌∙◌, arith}
use Rattle.std.specs.List.{list_any}
use Rattle.indexmap.specs.IndexSet.{insert_key}
use Rattle.sap_rule_lines.specs.Least.{is_among}

either_way : (a b : ℕ) → nat_eq a b ≡ nat_eq b a
either_way a b = grind arith

same_numbers : (a b : ℕ) → nat_eq a b ≡ true → a ≡ b
same_numbers a b h = grind arith

pub any_is : (ns : List ℕ) (n : ℕ) → list_any (nat_eq n) ns ≡ is_among ns n
any_is [] n = refl
any_is (m ∷ ms) n = let h = either_way n m in let i = any_is ms n in λ j. h j || i j

or_last : (a b c : Bool) → (a || b) || c ≡ a || (b || c)
or_last true b c = refl
or_last false b c = refl

or_none : (a : Bool) → a || false ≡ a
or_none true = refl
or_none false = refl

or_swap : (a b : Bool) → a || b ≡ b || a
or_swap true true = refl
or_swap true false = refl
or_swap false true = refl
or_swap false false = refl

or_self : (a b : Bool) → (a ≡ true → b ≡ true) → b ≡ a || b
or_self true b h = h refl
or_self false b h = refl

pub among_both : (ns ms : List ℕ) (n : ℕ) → is_among (ns ++ ms) n ≡ is_among ns n || is_among ms n
among_both [] ms n = refl
among_both (k ∷ ks) ms n = ap (λ b. nat_eq k n || b) (among_both ks ms n) ∙ sym (or_last (nat_eq k n) (is_among ks n) (is_among ms n))

-- one more name
pub among_inserted : (ns : List ℕ) (n m : ℕ) → is_among (insert_key nat_eq ns n) m ≡ nat_eq n m || is_among ns m
among_inserted ns n m = by (list_any (nat_eq n) ns) refl where
  by : (b : Bool) → list_any (nat_eq n) ns ≡ b → is_among (insert_key nat_eq ns n) m ≡ nat_eq n m || is_among ns m
  by true p = rw p (or_self (nat_eq n m) (is_among ns m) (λ h. ap (is_among ns) (sym (same_numbers n m h)) ∙ sym (any_is ns n) ∙ p))
  by false p = rw p (among_both ns (n ∷ []) m ∙ ap (λ b. is_among ns m || b) (or_none (nat_eq n m)) ∙ or_swap (is_among ns m) (nat_eq n m))

-- those of a line, with those that were drawn before, and then those of the later lines
pub among_drawn : (ns ks ms : List ℕ) (n : ℕ) → is_among (ks ++ ns) n || is_among ms n ≡ is_among ns n || is_among (ks ++ ms) n
among_drawn ns ks ms n = ap (λ b. b || is_among ms n) (among_both ks ns n ∙ or_swap (is_among ks n) (is_among ns n))
    ∙ or_last (is_among ns n) (is_among ks n) (is_among ms n) ∙ ap (λ b. is_among ns n || b) (sym (among_both ks ms n))
