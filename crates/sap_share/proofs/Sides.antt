-- Where no left side of an equation is found, there is none.
use Rattle.std.proofs.Common.{◌≡◌, ℕ, List, IsTrue, refl}
use Rattle.sap_terms.specs.Equations.{Equations, IsInstance, first, second, symmetric, asymmetric, signing, revealing, revealed, app0, true_name, fst_name, snd_name, pair_name, verify_name, sign_name, reveal_verify_name, reveal_sign_name, get_message_name}
use Rattle.sap_terms.specs.Normal.{IsNoLeftSide}
use Rattle.sap_terms.specs.Tree.{Tree, apply, trees_of}
use Rattle.sap_share.proofs.Shapes.{same_symbol, same_args}
use Rattle.sap_share.specs.code.Sides.{IsOnOne, IsOpened, IsOpenedByKey, IsChecked}

module _ (e : Equations) (f : List ℕ) (ts : List Tree)
    (no_first : (x y : Tree) → IsOnOne fst_name pair_name f ts x y → ⊥)
    (no_second : (x y : Tree) → IsOnOne snd_name pair_name f ts x y → ⊥)
    (no_symmetric : IsTrue e.symmetric → (m k : Tree) → IsOpened f ts m k → ⊥)
    (no_asymmetric : IsTrue e.asymmetric → (m k : Tree) → IsOpenedByKey f ts m k → ⊥)
    (no_revealed : IsTrue e.revealing → (m k : Tree) → IsOnOne get_message_name reveal_sign_name f ts m k → ⊥)
    (no_signing : IsTrue e.signing → (m k : Tree) → IsChecked verify_name sign_name f ts m k → ⊥)
    (no_revealing : IsTrue e.revealing → (m k : Tree) → IsChecked reveal_verify_name reveal_sign_name f ts m k → ⊥) where
  none_is : (t r : Tree) → apply f (trees_of ts) ≡ t → IsInstance e t r → ⊥
  none_is t r h (first {x} {y}) = no_first x y (record { symbol = same_symbol _ _ _ _ h; args = same_args _ _ _ _ h })
  none_is t r h (second {x} {y}) = no_second x y (record { symbol = same_symbol _ _ _ _ h; args = same_args _ _ _ _ h })
  none_is t r h (symmetric {m} {k} on) = no_symmetric on m k (record { symbol = same_symbol _ _ _ _ h; args = same_args _ _ _ _ h })
  none_is t r h (asymmetric {m} {k} on) = no_asymmetric on m k (record { symbol = same_symbol _ _ _ _ h; args = same_args _ _ _ _ h })
  none_is t r h (signing {m} {k} on) = no_signing on m k (record { symbol = same_symbol _ _ _ _ h; args = same_args _ _ _ _ h })
  none_is t r h (revealing {m} {k} on) = no_revealing on m k (record { symbol = same_symbol _ _ _ _ h; args = same_args _ _ _ _ h })
  none_is t r h (revealed {m} {k} on) = no_revealed on m k (record { symbol = same_symbol _ _ _ _ h; args = same_args _ _ _ _ h })

  pub no_left_side : IsNoLeftSide e (apply f (trees_of ts))
  no_left_side r i = none_is (apply f (trees_of ts)) r refl i

-- what is found is an instance
module _ (e : Equations) (f : List ℕ) (ts : List Tree) where
  pub is_first : (x y : Tree) → IsOnOne fst_name pair_name f ts x y → IsInstance e (apply f (trees_of ts)) x
  is_first x y h = rw (h.symbol, h.args) first

  pub is_second : (x y : Tree) → IsOnOne snd_name pair_name f ts x y → IsInstance e (apply f (trees_of ts)) y
  is_second x y h = rw (h.symbol, h.args) second

  pub is_symmetric : IsTrue e.symmetric → (m k : Tree) → IsOpened f ts m k → IsInstance e (apply f (trees_of ts)) m
  is_symmetric on m k h = rw (h.symbol, h.args) (symmetric on)

  pub is_asymmetric : IsTrue e.asymmetric → (m k : Tree) → IsOpenedByKey f ts m k → IsInstance e (apply f (trees_of ts)) m
  is_asymmetric on m k h = rw (h.symbol, h.args) (asymmetric on)

  pub is_revealed : IsTrue e.revealing → (m k : Tree) → IsOnOne get_message_name reveal_sign_name f ts m k → IsInstance e (apply f (trees_of ts)) m
  is_revealed on m k h = rw (h.symbol, h.args) (revealed on)

  pub is_signing : IsTrue e.signing → (m k : Tree) → IsChecked verify_name sign_name f ts m k → IsInstance e (apply f (trees_of ts)) (app0 true_name)
  is_signing on m k h = rw (h.symbol, h.args) (signing on)

  pub is_revealing : IsTrue e.revealing → (m k : Tree) → IsChecked reveal_verify_name reveal_sign_name f ts m k → IsInstance e (apply f (trees_of ts)) (app0 true_name)
  is_revealing on m k h = rw (h.symbol, h.args) (revealing on)
