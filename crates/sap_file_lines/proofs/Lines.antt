-- Lines are one function of paths.
use Rattle.std.proofs.Common.{◌≡◌, ℕ, List, [], ◌∷◌, ◌++◌, Option, Some, None, refl, sym, ap, subst, ◌∙◌}
use Rattle.sap_text.specs.declared.token.Token.{Token}
use Rattle.sap_macro.specs.Located.{Located}
use Rattle.sap_origin.specs.Definitions.{LocatedDefinition}
use Rattle.sap_origin.specs.Origins.{start}
use Rattle.sap_origin.specs.Reached.{Reaches, Standing}
use Rattle.sap_file_lines.specs.FileLines.{AreLinesByPath, IsLineAt, IsMissing, line_before, words_from}

-- along a path one comes to one place
abbrev pub OneReach : Type 0
OneReach = (ds : List LocatedDefinition) (s z w : Standing) (p q r : Located) (path : List ℕ) → Reaches ds s p path z q → Reaches ds s p path w r → (z ≡ w) × (q ≡ r)

number_is : {m n : ℕ} → ◌≡◌ {A = Option ℕ} (Some m) (Some n) → m ≡ n
number_is h = cc (h)

-- ---- the last digit of a path

no_last : (front : List ℕ) (d : ℕ) → [] ≡ front ++ d ∷ [] → ⊥
no_last [] d e = cc (e)
no_last (x ∷ front) d e = cc (e)

head_is : {x y : ℕ} {xs ys : List ℕ} → x ∷ xs ≡ y ∷ ys → x ≡ y
head_is e = cc (e)

tail_is : {x y : ℕ} {xs ys : List ℕ} → x ∷ xs ≡ y ∷ ys → xs ≡ ys
tail_is e = cc (e)

pub one_front : (a b : List ℕ) (d e : ℕ) → a ++ d ∷ [] ≡ b ++ e ∷ [] → a ≡ b
one_front [] [] d e h = refl
one_front [] (y ∷ b) d e h = absurd (no_last b e (tail_is h))
one_front (x ∷ a) [] d e h = absurd (no_last a d (sym (tail_is h)))
one_front (x ∷ a) (y ∷ b) d e h = (λ i. head_is h i ∷ one_front a b d e (tail_is h) i)

pub nothing_first : (path front : List ℕ) (d : ℕ) → path ≡ [] → path ≡ front ++ d ∷ [] → ⊥
nothing_first path front d none e = no_last front d (sym none ∙ e)

module _ (one : OneReach) {ds : List LocatedDefinition} {p : Located} {behind : ℕ} where
  -- the same is missing, however one says that one comes there
  pub same_missing : {path : List ℕ} {z w : Standing} {q r : Located} → Reaches ds (start behind) p path z q → Reaches ds (start behind) p path w r → IsMissing ds p behind path z q → IsMissing ds p behind path w r
  same_missing {path = path} {z = z} {w = w} {q = q} {r = r} a b m =
      let same = one ds (start behind) z w p q r path a b in
      subst (λ (y : Standing). IsMissing ds p behind path y r) same.0 (subst (λ (x : Located). IsMissing ds p behind path z x) same.1 m)

  -- a place with another word than the one above it was written
  pub written_by : (front : List ℕ) (d : ℕ) {y z : Standing} {x q : Located} → Reaches ds (start behind) p front y x → (words_from y x ≡ words_from z q → ⊥) → IsMissing ds p behind (front ++ d ∷ []) z q → ⊥
  written_by front d {y = y} {z = z} {x = x} {q = q} above differs m =
      let fronts : m.front ≡ front = one_front m.front front m.digit d (sym m.path_is) in
      let here : Reaches ds (start behind) p front m.standing m.above = subst (λ (i : List ℕ). Reaches ds (start behind) p i m.standing m.above) fronts m.reaches in
      let same = one ds (start behind) y m.standing p x m.above front above here in
      differs (ap (λ (w : Located). words_from y w) same.1 ∙ ap (λ (s : Standing). words_from s m.above) same.0 ∙ m.one_word)

  module _ {bytes : List ℕ} {ts : List Token} where
    pub one_line : {path : List ℕ} {m n : ℕ} → IsLineAt bytes ts ds p behind path m → IsLineAt bytes ts ds p behind path n → m ≡ n
    one_line {path = path} h k =
        let same = one ds (start behind) h.standing k.standing p h.place k.place path h.reaches k.reaches in
        h.line_is ∙ ap (λ (q : Located). line_before bytes ts (words_from h.standing q)) same.1 ∙ ap (λ (z : Standing). line_before bytes ts (words_from z k.place)) same.0 ∙ sym k.line_is

    pub missing_has_none : {path : List ℕ} {z : Standing} {q : Located} {n : ℕ} → Reaches ds (start behind) p path z q → IsMissing ds p behind path z q → IsLineAt bytes ts ds p behind path n → ⊥
    missing_has_none reaches m h = h.is_written (same_missing reaches h.reaches m)

    module _ (lines : List ℕ → Option ℕ) (are : AreLinesByPath bytes ts ds p behind lines) (path : List ℕ) where
      pub at_line : (n : ℕ) → IsLineAt bytes ts ds p behind path n → lines path ≡ Some n
      at_line n h = by (lines path) refl
        where
          by : (o : Option ℕ) → lines path ≡ o → o ≡ Some n
          by None e = absurd (are.none path n e h)
          by (Some m) e = ap Some (one_line (are.some path m e) h)

      pub at_none : ((n : ℕ) → IsLineAt bytes ts ds p behind path n → ⊥) → lines path ≡ None
      at_none none = by (lines path) refl
        where
          by : (o : Option ℕ) → lines path ≡ o → o ≡ None
          by None e = refl
          by (Some m) e = absurd (none m (are.some path m e))

    pub one_at : (a b : List ℕ → Option ℕ) → AreLinesByPath bytes ts ds p behind a → AreLinesByPath bytes ts ds p behind b → (path : List ℕ) → a path ≡ b path
    one_at a b x y path = by (b path) refl
      where
        by : (o : Option ℕ) → b path ≡ o → a path ≡ o
        by None e = at_none a x path (λ n h. y.none path n e h)
        by (Some n) e = at_line a x path n (y.some path n e)

    pub one_lines : (a b : List ℕ → Option ℕ) → AreLinesByPath bytes ts ds p behind a → AreLinesByPath bytes ts ds p behind b → a ≡ b
    one_lines a b x y = λ i path. one_at a b x y path i

    pub written_line : (lines : List ℕ → Option ℕ) → AreLinesByPath bytes ts ds p behind lines → (path : List ℕ) (z : Standing) (q : Located) → Reaches ds (start behind) p path z q
        → (IsMissing ds p behind path z q → ⊥) → lines path ≡ Some (line_before bytes ts (words_from z q))
    written_line lines are path z q reaches is =
        at_line lines are path (line_before bytes ts (words_from z q)) (record { standing = z; place = q; reaches = reaches; is_written = is; line_is = refl })

    pub missing_line : (lines : List ℕ → Option ℕ) → AreLinesByPath bytes ts ds p behind lines → (path : List ℕ) (z : Standing) (q : Located) → Reaches ds (start behind) p path z q
        → IsMissing ds p behind path z q → lines path ≡ None
    missing_line lines are path z q reaches m = at_none lines are path (λ n h. missing_has_none reaches m h)

    pub nowhere_line : (lines : List ℕ → Option ℕ) → AreLinesByPath bytes ts ds p behind lines → (path : List ℕ) → ((z : Standing) (q : Located) → Reaches ds (start behind) p path z q → ⊥) → lines path ≡ None
    nowhere_line lines are path none = at_none lines are path (λ n h. none h.standing h.place h.reaches)
