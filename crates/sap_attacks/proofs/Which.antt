-- The seven restrictions are told apart, so one alone is false.
use Rattle.std.proofs.Common.{◌≡◌, ℕ, zero, suc, Bool, true, false, refl, sym, ap, subst, ◌∙◌, arith}
use Rattle.std.specs.Prelude.{nat_eq}
use Rattle.sap_restrict.specs.Answer.{IsOnlyFalse}
use Rattle.sap_restrict.specs.declared.which.Which.{Which}
use Rattle.sap_restrict.specs.declared.which.Which.TheVariants.{Eq, In, InEv, Init, Lock, NotEq, NotIn}
use Rattle.sap_terms.specs.Signature.{Sig}
use Rattle.sap_terms.specs.Trace.{Trace}

abbrev number : Which → ℕ
number Init = 0
number Eq = 1
number NotEq = 2
number In = 3
number NotIn = 4
number Lock = 5
number InEv = 6

abbrev numbered : ℕ → Which
numbered zero = Init
numbered (suc zero) = Eq
numbered (suc (suc zero)) = NotEq
numbered (suc (suc (suc zero))) = In
numbered (suc (suc (suc (suc zero)))) = NotIn
numbered (suc (suc (suc (suc (suc zero))))) = Lock
numbered (suc (suc (suc (suc (suc (suc n)))))) = InEv

numbers_tell : (w : Which) → numbered (number w) ≡ w
numbers_tell Init = refl
numbers_tell Eq = refl
numbers_tell NotEq = refl
numbers_tell In = refl
numbers_tell NotIn = refl
numbers_tell Lock = refl
numbers_tell InEv = refl

eq_true : (m n : ℕ) → nat_eq m n ≡ true → m ≡ n
eq_true m n e = grind arith

eq_self : (n : ℕ) → nat_eq n n ≡ true
eq_self n = grind arith

pub which_once : (g : Sig) (tr : Trace) (w v : Which) → IsOnlyFalse g tr w → IsOnlyFalse g tr v → w ≡ v
which_once g tr w v a b = go (nat_eq (number w) (number v)) refl where
  go : (b : Bool) → nat_eq (number w) (number v) ≡ b → w ≡ v
  go true e = sym (numbers_tell w) ∙ ap numbered (eq_true (number w) (number v) e) ∙ numbers_tell v
  go false e = absurd (b.this (a.others v (λ k. let t : nat_eq (number w) (number v) ≡ true = subst (λ n. nat_eq (number w) n ≡ true) (ap number (sym k)) (eq_self (number w)) in cc)))
