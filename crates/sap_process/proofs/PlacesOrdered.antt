-- Paths are ordered as places are in preorder.
use Rattle.std.proofs.Common.{◌≡◌, ℕ, ◌<◌, Bool, true, false, List, [], ◌∷◌, ◌++◌, inl, inr, arith, refl, sym, subst, ◌∙◌}
use Rattle.std.specs.Prelude.{◌⊎◌}
use Rattle.std.proofs.Math.Dec.{ltb}
use Rattle.std.proofs.lemmas.Bool.Decides.{Decides-ltb}
use Rattle.sap_process.specs.Places.{IsBefore}
use Rattle.sap_terms.proofs.PlainLaws.Numbers.{same_number}

pub not_itself : (v : List ℕ) → ¬ IsBefore v v
not_itself [] h = h
not_itself (d ∷ v) (inl l) = omega (arith, l)
not_itself (d ∷ v) (inr h) = not_itself v h.1

pub onward : (v w u : List ℕ) → IsBefore v w → IsBefore w u → IsBefore v u
onward [] [] u h k = absurd h
onward [] (e ∷ w) [] h k = absurd k
onward [] (e ∷ w) (i ∷ u) h k = tt
onward (d ∷ v) [] u h k = absurd h
onward (d ∷ v) (e ∷ w) [] h k = absurd k
onward (d ∷ v) (e ∷ w) (i ∷ u) (inl l) (inl m) = inl (omega (arith, l, m))
onward (d ∷ v) (e ∷ w) (i ∷ u) (inl l) (inr m) = inl (subst (λ n. d < n) m.0 l)
onward (d ∷ v) (e ∷ w) (i ∷ u) (inr h) (inl m) = inl (subst (λ n. n < i) (sym h.0) m)
onward (d ∷ v) (e ∷ w) (i ∷ u) (inr h) (inr m) = inr (h.0 ∙ m.0, onward v w u h.1 m.1)

off : {b : Bool} → b ≡ false → b ≡ true → ⊥
off p q = cc

abbrev AreOrdered : List ℕ → List ℕ → Type 0
AreOrdered v w = IsBefore v w ⊎ ((v ≡ w) ⊎ IsBefore w v)

pub ordered : (v w : List ℕ) → AreOrdered v w
ordered [] [] = inr (inl refl)
ordered [] (e ∷ w) = inl tt
ordered (d ∷ v) [] = inr (inr tt)
ordered (d ∷ v) (e ∷ w) = by (ltb d e) (ltb e d) refl refl (ordered v w) where
  same : d ≡ e → AreOrdered v w → AreOrdered (d ∷ v) (e ∷ w)
  same p (inl h) = inl (inr (p, h))
  same p (inr (inl q)) = inr (inl (λ i. p i ∷ q i))
  same p (inr (inr h)) = inr (inr (inr (sym p, h)))

  by : (s t : Bool) → ltb d e ≡ s → ltb e d ≡ t → AreOrdered v w → AreOrdered (d ∷ v) (e ∷ w)
  by true t p q h = inl (inl ((Decides-ltb d e).0 p))
  by false true p q h = inr (inr (inl ((Decides-ltb e d).0 q)))
  by false false p q h = same (same_number d e (λ l. off p ((Decides-ltb d e).1 l)) (λ l. off q ((Decides-ltb e d).1 l))) h

pub above : (v : List ℕ) (d : ℕ) (w : List ℕ) → IsBefore v (v ++ d ∷ w)
above [] d w = tt
above (e ∷ v) d w = inr (refl, above v d w)

pub left : (v w u : List ℕ) (d e : ℕ) → d < e → IsBefore (v ++ d ∷ w) (v ++ e ∷ u)
left [] w u d e l = inl l
left (i ∷ v) w u d e l = inr (refl, left v w u d e l)
