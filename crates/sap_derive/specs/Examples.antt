-- Which terms stand in others, and which are near, by hand.
use Rattle.std.specs.Prelude.{[], ◌∷◌}
use Rattle.sap_terms.specs.Tree.{fresh}
use Rattle.sap_terms.specs.Equations.{app1, app2, pair_name, senc_name, pk_name}
use Rattle.sap_derive.specs.Near.{IsSubterm, IsNear}

-- ~2 stands in <~1,senc(~2,~3)>, and so does the whole; <~1,~2> doesn't, and ~4 doesn't
pub record StandingByHand : Type 0 where
  pub inside : IsSubterm (fresh 2) (app2 pair_name (fresh 1) (app2 senc_name (fresh 2) (fresh 3)))
  pub itself : IsSubterm (app2 senc_name (fresh 2) (fresh 3)) (app2 senc_name (fresh 2) (fresh 3))
  pub no_part : IsSubterm (app2 pair_name (fresh 1) (fresh 2))
      (app2 pair_name (fresh 1) (app2 senc_name (fresh 2) (fresh 3))) → ⊥
  pub no_leaf : IsSubterm (fresh 4) (app2 senc_name (fresh 2) (fresh 3)) → ⊥
  pub not_above : IsSubterm (app1 pk_name (fresh 1)) (fresh 1) → ⊥

-- of the frame senc(~2,~3), ~3 and the goal ~2, ~3 is near and pk(~3) isn't
pub record NearByHand : Type 0 where
  pub near : IsNear (app2 senc_name (fresh 2) (fresh 3) ∷ fresh 3 ∷ []) (fresh 2) (fresh 3)
  pub far : IsNear (app2 senc_name (fresh 2) (fresh 3) ∷ fresh 3 ∷ []) (fresh 2)
      (app1 pk_name (fresh 3)) → ⊥
