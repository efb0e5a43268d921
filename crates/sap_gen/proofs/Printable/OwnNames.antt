-- In both theories of a file whose restrictions and lemmas have names of their own, they have such.
use Rattle.std.proofs.Common.{◌≡◌, ℕ, Bool, true, false, List, [], ◌∷◌, ◌++◌, map, filter, if◌then◌else◌, refl, sym, ap, subst, ◌∙◌}
use Rattle.std.specs.List.{AllByRecursion, IsDistinct}
use Rattle.std.specs.Str.{bytes_eq}
use Rattle.sap_formula.specs.Form.{LemmaForm, RestrictionForm}
use Rattle.sap_formula.specs.Truth.{EachIn}
use Rattle.sap_restrict.specs.Inline.{formulas}
use Rattle.sap_restrict.specs.Needed.{needed, needs}
use Rattle.sap_restrict.specs.Restrictions.{is_generated, named, needed_restrictions, restriction_name}
use Rattle.sap_restrict.specs.Standard.{every_which}
use Rattle.sap_restrict.specs.declared.which.Which.{Which}
use Rattle.sap_restrict.specs.declared.which.Which.TheVariants.{Eq, In, InEv, Init, Lock, NotEq, NotIn}
use Rattle.sap_read.specs.Files.{FileContent}
use Rattle.sap_gen.specs.Kept.{all_restrictions, file_theory, inlined_file_theory}
use Rattle.sap_read.specs.OwnNames.{HaveOwnNames, IsNamedApart, statement_names}
use Rattle.sap_gen.specs.Theories.{inlined_lemma}
use Rattle.std.proofs.lemmas.Slice.Eq.{bytes_eq-Decides}
use Rattle.sap_gen.proofs.Printable.Scopes.{each_of_all}

-- none of these has the name
abbrev pub Apart : List ℕ → List (List ℕ) → Type 0
Apart x ys = AllByRecursion (λ y. bytes_eq x y ≡ false) ys

apart_both : (x : List ℕ) (ys zs : List (List ℕ)) → Apart x ys → Apart x zs → Apart x (ys ++ zs)
apart_both x [] zs h k = k
apart_both x (y ∷ ys) zs h k = (h.0, apart_both x ys zs h.1 k)

distinct_both : (xs ys : List (List ℕ)) → IsDistinct bytes_eq xs → IsDistinct bytes_eq ys → EachIn (λ x. Apart x ys) xs → IsDistinct bytes_eq (xs ++ ys)
unfolding IsDistinct
distinct_both [] ys h k a = k
distinct_both (x ∷ xs) ys h k a = (apart_both x xs ys h.0 a.0, distinct_both xs ys h.1 k a.1)

distinct_last : (xs ys : List (List ℕ)) → IsDistinct bytes_eq (xs ++ ys) → IsDistinct bytes_eq ys
unfolding IsDistinct
distinct_last [] ys h = h
distinct_last (x ∷ xs) ys h = distinct_last xs ys h.1

-- the names of the seven

abbrev names : List Which → List (List ℕ)
names ws = map (λ (r : RestrictionForm). r.name) (map named ws)

seven_distinct : IsDistinct bytes_eq (names every_which)
unfolding IsDistinct
seven_distinct = (
  (refl, (refl, (refl, (refl, (refl, (refl, tt)))))),
  ((refl, (refl, (refl, (refl, (refl, tt))))), ((refl, (refl, (refl, (refl, tt)))), ((refl, (refl, (refl, tt))), ((refl, (refl, tt)), ((refl, tt), (tt, tt)))))),
)

apart_kept : (x : List ℕ) (test : Which → Bool) (ws : List Which) → Apart x (names ws) → Apart x (names (filter test ws))
apart_kept x test [] h = tt
apart_kept x test (w ∷ ws) h = go (test w) (h.0, apart_kept x test ws h.1)
  where
    go : (b : Bool) → Apart x (names (w ∷ filter test ws)) → Apart x (names (if b then w ∷ filter test ws else filter test ws))
    go true k = k
    go false k = k.1

distinct_kept : (test : Which → Bool) (ws : List Which) → IsDistinct bytes_eq (names ws) → IsDistinct bytes_eq (names (filter test ws))
unfolding IsDistinct
distinct_kept test [] h = tt
distinct_kept test (w ∷ ws) h = go (test w) (apart_kept (restriction_name w) test ws h.0, distinct_kept test ws h.1)
  where
    go : (b : Bool) → IsDistinct bytes_eq (names (w ∷ filter test ws)) → IsDistinct bytes_eq (names (if b then w ∷ filter test ws else filter test ws))
    go true k = k
    go false k = k.1

is_one : (w : Which) → is_generated (restriction_name w) ≡ true
is_one Init = refl
is_one Eq = refl
is_one NotEq = refl
is_one In = refl
is_one NotIn = refl
is_one Lock = refl
is_one InEv = refl

pub other : (x y : List ℕ) → bytes_eq y x ≡ false → bytes_eq x y ≡ false
other x y h = go (bytes_eq x y) refl
  where
    go : (b : Bool) → bytes_eq x y ≡ b → b ≡ false
    go true e =
        let same : x ≡ y = (bytes_eq-Decides x y).0 e in
        absurd (let z : true ≡ false = sym ((bytes_eq-Decides y y).1 refl) ∙ ap (bytes_eq y) (sym same) ∙ h in cc)
    go false e = refl

not_one : (w : Which) (n : List ℕ) → is_generated n ≡ false → bytes_eq n (restriction_name w) ≡ false
not_one w n h = go (bytes_eq n (restriction_name w)) refl
  where
    go : (b : Bool) → bytes_eq n (restriction_name w) ≡ b → b ≡ false
    go true e =
        let same : n ≡ restriction_name w = (bytes_eq-Decides n (restriction_name w)).0 e in
        absurd (let z : true ≡ false = sym (is_one w) ∙ ap is_generated (sym same) ∙ h in cc)
    go false e = refl

apart_from_own : (w : Which) (ns : List (List ℕ)) → EachIn (λ n. is_generated n ≡ false) ns → Apart (restriction_name w) ns
apart_from_own w [] h = tt
apart_from_own w (n ∷ ns) h = (other (restriction_name w) n (not_one w n h.0), apart_from_own w ns h.1)

all_apart : (ws : List Which) (ns : List (List ℕ)) → EachIn (λ n. is_generated n ≡ false) ns → EachIn (λ x. Apart x ns) (names ws)
all_apart [] ns h = tt
all_apart (w ∷ ws) ns h = (apart_from_own w ns h, all_apart ws ns h)

-- lists

names_joined : (rs ss : List RestrictionForm) (ls : List LemmaForm) → statement_names (rs ++ ss) ls ≡ map (λ (r : RestrictionForm). r.name) rs ++ statement_names ss ls
names_joined [] ss ls = refl
names_joined (r ∷ rs) ss ls = ap (λ (ns : List (List ℕ)). r.name ∷ ns) (names_joined rs ss ls)

names_carried : (rs : List RestrictionForm) (ls : List LemmaForm) → statement_names [] (map (inlined_lemma (formulas rs)) ls) ≡ statement_names [] ls
names_carried rs [] = refl
names_carried rs (l ∷ ls) = ap (λ (ns : List (List ℕ)). l.name ∷ ns) (names_carried rs ls)

module _ (f : FileContent) (apart : IsNamedApart f) where
  pub theory_names : HaveOwnNames (file_theory f).restrictions (file_theory f).lemmas
  theory_names =
      let own = each_of_all (λ (n : List ℕ). is_generated n ≡ false) (statement_names f.restrictions f.lemmas) apart.own in
      subst (IsDistinct bytes_eq) (sym (names_joined (needed_restrictions f.process) f.restrictions f.lemmas))
      (distinct_both (names (needed f.process)) (statement_names f.restrictions f.lemmas) (distinct_kept (λ w. needs w f.process) every_which seven_distinct) apart.distinct
      (all_apart (needed f.process) (statement_names f.restrictions f.lemmas) own))

  pub inlined_theory_names : HaveOwnNames (inlined_file_theory f).restrictions (inlined_file_theory f).lemmas
  inlined_theory_names =
      subst (IsDistinct bytes_eq) (sym (names_carried (all_restrictions f) f.lemmas))
      (distinct_last (map (λ (r : RestrictionForm). r.name) f.restrictions) (statement_names [] f.lemmas) apart.distinct)
