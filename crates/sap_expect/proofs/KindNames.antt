-- The kinds that the walk names are those all of whose words may stand, the widest alone.
use Rattle.std.proofs.Common.{◌≡◌, ℕ, zero, suc, Bool, true, false, List, [], ◌∷◌, ◌++◌, refl, ◌∙◌, ap, arith}
use Rattle.std.specs.Prelude.{codes, cond, map}
use Rattle.std.specs.List.{All, filter, list_all}
use Rattle.std.proofs.lemmas.List.Folds.{list_all-append}
use Rattle.sap_terms.proofs.PlainLaws.Known.{clash}
use Rattle.sap_grammar.specs.Words.{Word}
use Rattle.sap_expect.specs.FileTable.{Open}
use Rattle.sap_expect.specs.Kinds.{Kind, kinds}
use Rattle.sap_expect.specs.MayStand.{AreThose, IsNamed, IsWantedList, IsWithin, KindMayStand, MayStand, none_left, this_is, this_isnt}
use Rattle.sap_expect.specs.code.Going.{AreRowsNamed, CanGo, Each, IsRowNamed, StandsAt, is_within, kind_row, kind_rows, no_row, row_is, row_isnt, witnesses}
use Rattle.sap_expect.proofs.KindFollows.{Follows, arity_follows, can_follow, capital_follows, quoted_follows, small_follows}
use Rattle.sap_expect.proofs.KindWords.{all_of, each_of, is_fine, is_within_of, kind_lettered, some_word, within_is}
use Rattle.sap_expect.proofs.Quiet.{both_true, true_both}

all_of_more : {X : Type 0} (P : X → Type 0) (x : X) (xs : List X) → P x → All P xs → All P (x ∷ xs)
all_of_more P x xs p h zero d lt = p
all_of_more P x xs p h (suc k) d lt = h k d (omega (arith, lt))

pub all_each : {X : Type 0} (P : X → Type 0) (xs : List X) → Each P xs → All P xs
all_each P [] h = λ k d lt. absurd (omega (arith, lt))
all_each P (x ∷ xs) h = all_of_more P x xs h.0 (all_each P xs h.1)

pub each_all : {X : Type 0} (P : X → Type 0) (xs : List X) → All P xs → Each P xs
each_all P [] h = tt
each_all P (x ∷ xs) h = (h zero x (omega arith), each_all P xs (λ k d lt. h (suc k) d (omega (arith, lt))))

pub each_more : {X : Type 0} (P : X → Type 0) (xs : List X) (x : X) → Each P xs → P x → Each P (xs ++ x ∷ [])
each_more P [] x h p = (p, tt)
each_more P (y ∷ xs) x h p = (h.0, each_more P xs x h.1 p)

pub fine_more : (ks : List Kind) (k : Kind) → list_all is_fine ks ≡ true → is_fine k ≡ true → list_all is_fine (ks ++ k ∷ []) ≡ true
fine_more ks k e f = list_all-append is_fine ks (k ∷ []) ∙ true_both e (true_both f refl)

module _ (ws : List Word) (n : ℕ) (vs : List Open) (s : StandsAt ws n vs) where
  goes : {u w : Word} → Follows u w → CanGo n vs u → CanGo n vs w
  goes f g = can_follow f s.only_listed g.2

  pub stands : (k : Kind) → is_fine k ≡ true → Each (CanGo n vs) (witnesses k) → KindMayStand ws k
  stands k f h w e =
      s.on w (kind_lettered k f w e)
      (all_of (CanGo n vs) (λ g x l. goes (small_follows x l) g) (λ g x l. goes (capital_follows x l) g) (λ g x. goes (quoted_follows (codes "x") x) g) (λ g x l. goes (arity_follows x l) g) k h w e)

  pub stands_back : (k : Kind) → KindMayStand ws k → Each (CanGo n vs) (witnesses k)
  stands_back k h = each_of (CanGo n vs) k (λ w e. s.back w (h w e))

  widest : (k : Kind) (before : List Kind) → Each (λ us. Each (CanGo n vs) us → ⊥) (map witnesses (filter (is_within k) before)) → Each (λ j. IsWithin k j → KindMayStand ws j → ⊥) before
  widest k [] h = tt
  widest k (j ∷ js) h = by (widest k js) (is_within k j) refl h
    where
      by : (Each (λ us. Each (CanGo n vs) us → ⊥) (map witnesses (filter (is_within k) js)) → Each (λ i. IsWithin k i → KindMayStand ws i → ⊥) js) → (b : Bool) → is_within k j ≡ b → Each (λ us. Each (CanGo n vs) us → ⊥) (map witnesses (cond b (j ∷ filter (is_within k) js) (filter (is_within k) js)))
          → Each (λ i. IsWithin k i → KindMayStand ws i → ⊥) (j ∷ js)
      by go true e g = ((λ within may. g.0 (stands_back j may)), go g.1)
      by go false e g = ((λ within may. clash (is_within k j) (is_within_of k j within) e), go g)

  widest_back : (k : Kind) (before : List Kind) → list_all is_fine before ≡ true → Each (λ j. IsWithin k j → KindMayStand ws j → ⊥) before
      → Each (λ us. Each (CanGo n vs) us → ⊥) (map witnesses (filter (is_within k) before))
  widest_back k [] f h = tt
  widest_back k (j ∷ js) f h =
      let fine = both_true (is_fine j) (list_all is_fine js) f in
      by fine.0 (widest_back k js fine.1 h.1) (is_within k j) refl
    where
      by : is_fine j ≡ true → Each (λ us. Each (CanGo n vs) us → ⊥) (map witnesses (filter (is_within k) js)) → (b : Bool) → is_within k j ≡ b
          → Each (λ us. Each (CanGo n vs) us → ⊥) (map witnesses (cond b (j ∷ filter (is_within k) js) (filter (is_within k) js)))
      by fine more true e = ((λ g. h.0 (within_is j fine k e) (stands j fine g)), more)
      by fine more false e = more

  pub named : (before : List Kind) (k : Kind) → is_fine k ≡ true → IsRowNamed n vs (kind_row before k) → IsNamed ws before k
  named before k f h = record { stands = stands k f h.0; widest = all_each (λ j. IsWithin k j → KindMayStand ws j → ⊥) before (widest k before h.1) }

  pub named_back : (before : List Kind) (k : Kind) → list_all is_fine before ≡ true → IsNamed ws before k → IsRowNamed n vs (kind_row before k)
  named_back before k f h = (stands_back k h.stands, widest_back k before f (each_all (λ j. IsWithin k j → KindMayStand ws j → ⊥) before h.widest))

  pub those_of : (ks before those : List Kind) → list_all is_fine before ≡ true → list_all is_fine ks ≡ true → AreRowsNamed n vs (kind_rows before ks) those → AreThose (IsNamed ws) before ks those
  those_of [] before those f g no_row = none_left
  those_of (k ∷ ks) before those f g (row_is i r) =
      let b = both_true (is_fine k) (list_all is_fine ks) g in
      this_is (named before k b.0 i) (those_of ks (before ++ k ∷ []) _ (fine_more before k f b.0) b.1 r)
  those_of (k ∷ ks) before those f g (row_isnt i r) =
      let b = both_true (is_fine k) (list_all is_fine ks) g in
      this_isnt (λ j. i (named_back before k f j)) (those_of ks (before ++ k ∷ []) those (fine_more before k f b.0) b.1 r)

  pub wanted_list : (those : List Kind) → AreRowsNamed n vs (kind_rows [] kinds) those → IsWantedList ws those
  wanted_list those r = those_of kinds [] those refl refl r

pub none_may : (ws : List Word) → ((w : Word) → MayStand ws w → ⊥) → (ks before : List Kind) → AreThose (IsNamed ws) before ks []
none_may ws never [] before = none_left
none_may ws never (k ∷ ks) before =
    let w = some_word k in
    this_isnt (λ i. never w.0 (i.stands w.0 w.1)) (none_may ws never ks (before ++ k ∷ []))

-- one list
pub one_list : {Is : List Kind → Kind → Type 0} {before ks xs ys : List Kind} → AreThose Is before ks xs → AreThose Is before ks ys → xs ≡ ys
one_list none_left none_left = refl
one_list (this_is {k = k} i r) (this_is j q) = ap (λ (zs : List Kind). k ∷ zs) (one_list r q)
one_list (this_is i r) (this_isnt j q) = absurd (j i)
one_list (this_isnt i r) (this_is j q) = absurd (i j)
one_list (this_isnt i r) (this_isnt j q) = one_list r q
