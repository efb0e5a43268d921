-- Along a path the nodes have one list of stems.
use Rattle.std.proofs.Common.{◌≡◌, ℕ, List, [], Option, Some, refl, sym, ap, ◌∙◌, subst}
use Rattle.sap_macro.specs.Located.{Located, call_at}
use Rattle.sap_origin.specs.Definitions.{LocatedDefinition}
use Rattle.sap_origin.specs.Reached.{Standing, Reaches, reaches_here, reaches_use, reaches_left, reaches_right, reaches_copy, reaches_behind, reaches_then, reaches_else, reaches_found, reaches_missing, entered}
use Rattle.sap_stems.specs.Stems.{Put, Stem, behind_use, own_stems, put_in}
use Rattle.sap_stems.specs.StemsAt.{AreStems, puts_along}

module _ (ds : List LocatedDefinition) where
  -- one standing, one place, and one list of what stands for parameters
  record IsSame (z w : Standing) (q r : Located) (rs us : List Put) : Type 0 where
    pub standing : z ≡ w
    pub place : q ≡ r
    pub puts : rs ≡ us

  some_is : {d e : LocatedDefinition} → ◌≡◌ {A = Option LocatedDefinition} (Some d) (Some e) → d ≡ e
  some_is h = cc (h)

  -- what one comes to through a definition, with what stands for parameters then
  record Coming (s : Standing) (p : Located) (path : List ℕ) (z : Standing) (q : Located) (ps us : List Put) : Type 0 where
    pub reaches : Reaches ds s p path z q
    pub puts : puts_along reaches ps ≡ us

  same_end : {s z w : Standing} {p q r : Located} {path : List ℕ} (ps us : List Put) (m : Reaches ds s p path z q) (n : Reaches ds s p path w r) → puts_along n ps ≡ us
      → IsSame z w q r (puts_along m ps) us
  same_end ps us (reaches_here f) (reaches_here g) b = record { standing = refl; place = refl; puts = b }
  same_end ps us (reaches_here f) (reaches_use e every n) b = absurd f
  same_end ps us (reaches_use e every m) (reaches_here f) b = absurd f
  same_end ps us (reaches_use {s = s} {k = k} {f = f} {ts = ts} {d = d} {path = path} e every m) (reaches_use {z = w} {d = c} {q = r} g too n) b =
      let there : Coming (entered s k d) d.body path w r (behind_use s (call_at k f ts) ps d.params ts) us =
      subst (λ (x : LocatedDefinition). Coming (entered s k x) x.body path w r (behind_use s (call_at k f ts) ps x.params ts) us) (some_is (sym g ∙ e)) (record { reaches = n; puts = b }) in
      same_end (behind_use s (call_at k f ts) ps d.params ts) us m there.reaches there.puts
  same_end ps us (reaches_left m) (reaches_left n) b = same_end ps us m n b
  same_end ps us (reaches_right m) (reaches_right n) b = same_end ps us m n b
  same_end ps us (reaches_copy m) (reaches_copy n) b = same_end ps us m n b
  same_end ps us (reaches_behind m) (reaches_behind n) b = same_end ps us m n b
  same_end ps us (reaches_then m) (reaches_then n) b = same_end ps us m n b
  same_end ps us (reaches_else m) (reaches_else n) b = same_end ps us m n b
  same_end ps us (reaches_found m) (reaches_found n) b = same_end ps us m n b
  same_end ps us (reaches_missing m) (reaches_missing n) b = same_end ps us m n b

  pub one_list : {p : Located} {behind : ℕ} {path : List ℕ} {ss rs : List Stem} → AreStems ds p behind path ss → AreStems ds p behind path rs → ss ≡ rs
  one_list a b =
      let same = same_end [] (puts_along b.reaches []) a.reaches b.reaches refl in
      a.stems_are
      ∙ ap (λ (ps : List Put). put_in ps (own_stems a.standing a.place)) same.puts
      ∙ ap (λ (s : Standing). put_in (puts_along b.reaches []) (own_stems s a.place)) same.standing
      ∙ ap (λ (q : Located). put_in (puts_along b.reaches []) (own_stems b.standing q)) same.place
      ∙ sym b.stems_are
