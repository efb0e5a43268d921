-- What answers give that are joined.
use Rattle.std.proofs.Common.{◌≡◌, Option, Some, sym, ap, subst, ◌∙◌}
use Rattle.std.specs.Prelude.{Result, Ok, Err, IfOk}
use Rattle.std.specs.Option.{option_zip}
use Rattle.std.specs.Result.{result_ok}
use Rattle.std.proofs.lemmas.Option.{same_Some}

module _ {A B C E : Type 0} (P : A → Type 0) (Q : B → Type 0) (R : C → Type 0) (x : A) (y : B) (z : C) where
  each : (a : Result A E) (b : Result B E) (c : Result C E) → IfOk a P → IfOk b Q → IfOk c R → option_zip (option_zip (result_ok a) (result_ok b)) (result_ok c) ≡ Some ((x, y), z) → P x × (Q y × R z)
  each (Err e) b c p q r h = cc
  each (Ok u) (Err e) c p q r h = cc
  each (Ok u) (Ok v) (Err e) p q r h = cc
  each (Ok u) (Ok v) (Ok w) p q r h =
      let all : ((u, v), w) ≡ ((x, y), z) = same_Some _ _ h in
      (subst P (ap (λ t. t.0.0) all) p, (subst Q (ap (λ t. t.0.1) all) q, subst R (ap (λ t. t.1) all) r))

  -- where three answers are joined, each is as it is said of it
  pub joined : (a : Result A E) (b : Result B E) (c : Result C E) (k : Option A) (l : Option B) (m : Option C) (kl : Option (A × B)) (klm : Option ((A × B) × C)) → IfOk a P → IfOk b Q → IfOk c R → k ≡ result_ok a → l ≡ result_ok b → m ≡ result_ok c → kl ≡ option_zip k l → klm ≡ option_zip kl m → klm ≡ Some ((x, y), z) → P x × (Q y × R z)
  joined a b c k l m kl klm p q r is_k is_l is_m is_kl is_klm is =
      let two : kl ≡ option_zip (result_ok a) (result_ok b) = is_kl ∙ (λ i. option_zip (is_k i) (is_l i)) in
      let three : klm ≡ option_zip (option_zip (result_ok a) (result_ok b)) (result_ok c) = is_klm ∙ (λ i. option_zip (two i) (is_m i)) in
      each a b c p q r (sym three ∙ is)
