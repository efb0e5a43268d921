-- Lists of words and of kinds, tried one by one.
use Rattle.std.proofs.Common.{◌≡◌, ◌<◌, ◌≤◌, ◌+◌, ℕ, zero, suc, Bool, true, false, List, [], ◌∷◌, ◌++◌, append_assoc, Result, Ok, Err, refl, subst, sym, ap, ◌∙◌, arith, length, get_or, drop}
use Rattle.std.proofs.lemmas.List.{append-nil, map-append}
use Rattle.std.specs.Prelude.{map, IfOk}
use Rattle.std.specs.Bool.{Decides}
use Rattle.std.specs.Borrow.{Bor}
use Rattle.sap_text.specs.declared.token.Kind.{Kind as TokenKind}
use Rattle.sap_grammar.specs.Words.{Word}
use Rattle.sap_expect.specs.FileTable.{Counting, Open, TakesBy}
use Rattle.sap_expect.specs.Kinds.{Kind, kind_of, kinds, name_kinds, sign_kinds, wide_kinds, word_kinds}
use Rattle.sap_expect.specs.declared.kind.WordKind as code
use Rattle.sap_expect.specs.code.Going.{AreRowsNamed, Behind, CanGoBy, Each, KindRow, IsRowNamed, kind_row, kind_row_of, kind_rows, no_row, row_is, row_isnt}
use Rattle.sap_expect.specs.code.Steps.{Taken}

pub next_item : {X : Type 0} (k : ℕ) (xs : List X) (d : X) → k < length xs → drop k xs ≡ get_or xs k d ∷ drop (k + 1) xs
next_item k [] d lt = absurd (omega (arith, lt))
next_item zero (x ∷ xs) d lt = refl
next_item (suc k) (x ∷ xs) d lt =
    let i : suc (k + 1) ≡ suc k + 1 = omega arith in
    subst (λ (j : ℕ). drop k xs ≡ get_or xs k d ∷ drop j (x ∷ xs)) i (next_item k xs d (omega (arith, lt)))

none_left : {X : Type 0} (k : ℕ) (xs : List X) → length xs ≤ k → drop k xs ≡ []
none_left zero [] le = refl
none_left zero (x ∷ xs) le = absurd (omega (arith, le))
none_left (suc k) [] le = refl
none_left (suc k) (x ∷ xs) le = none_left k xs (omega (arith, le))

-- the word is taken or not
pub taken_can : (s : Counting) (n k : ℕ) (vs us next : List Open) (w : Word) (b : Bool) → us ≡ vs → Taken s n us w k next b → Decides b (CanGoBy s n vs w)
taken_can s n k vs us next w true e t = ((λ f. (k, next, subst (λ (xs : List Open). TakesBy s n xs w k next) e t)), (λ g. refl))
taken_can s n k vs us next w false e t = ((λ f. absurd (cc (f))), (λ g. absurd (t g.0 g.1 (subst (λ (xs : List Open). TakesBy s n xs w g.0 g.1) (sym e) g.2))))

-- so of each of those that are left where it is so of all, and the other way round
pub record Left {X : Type 0} (P : X → Type 0) (all rest : List X) : Type 0 where
  pub on : Each P rest → Each P all
  pub back : Each P all → Each P rest

pub all_left : {X : Type 0} (P : X → Type 0) (all : List X) → Left P all all
all_left P all = record { on = λ h. h; back = λ h. h }

one_left : {X : Type 0} (P : X → Type 0) (all rest : List X) (x : X) → Left P all (x ∷ rest) → P x → Left P all rest
one_left P all rest x l p = record { on = λ h. l.on (p, h); back = λ h. (l.back h).1 }

module _ {C X : Type 0} (f : C → X) (P : X → Type 0) (cs : List C) (k : ℕ) (d : C) where
  left_now : k < length cs → Left P (map f cs) (map f (drop k cs)) → Left P (map f cs) (f (get_or cs k d) ∷ map f (drop (k + 1) cs))
  left_now lt l = subst (λ (xs : List C). Left P (map f cs) (map f xs)) (next_item k cs d lt) l

  pub that_not : k < length cs → Left P (map f cs) (map f (drop k cs)) → Decides false (P (f (get_or cs k d))) → Decides false (Each P (map f cs))
  that_not lt l h = ((λ e. absurd (cc (e))), (λ g. h.1 ((left_now lt l).back g).0))

  pub that_is : k < length cs → Left P (map f cs) (map f (drop k cs)) → Decides true (P (f (get_or cs k d))) → Left P (map f cs) (map f (drop (k + 1) cs))
  that_is lt l h = one_left P (map f cs) (map f (drop (k + 1) cs)) (f (get_or cs k d)) (left_now lt l) (h.0 refl)

pub all_are : {C X : Type 0} (f : C → X) (P : X → Type 0) (cs : List C) (k : ℕ) → length cs ≤ k → Left P (map f cs) (map f (drop k cs)) → Decides true (Each P (map f cs))
all_are f P cs k le l =
    let none = subst (λ xs. Left P (map f cs) (map f xs)) (none_left k cs le) l in
    ((λ e. none.on tt), (λ h. refl))

pub isnt_true : {A : Type 0} → Decides true A → Decides false (A → ⊥)
isnt_true d = ((λ e. absurd (cc (e))), (λ h. absurd (h (d.0 refl))))

pub isnt_false : {A : Type 0} → Decides false A → Decides true (A → ⊥)
isnt_false d = ((λ e a. absurd (cc (d.1 a))), (λ h. refl))

pub both_true_is : {A B : Type 0} (b : Bool) → Decides true A → Decides b B → Decides b (A × B)
both_true_is b d e = ((λ f. (d.0 refl, e.0 f)), (λ h. e.1 h.1))

pub first_false_is : {A B : Type 0} → Decides false A → Decides false (A × B)
first_false_is d = ((λ f. absurd (cc (f))), (λ h. d.1 h.0))

pub if_ok : {T E : Type 0} (r : Result T E) {P Q : T → Type 0} → ((v : T) → P v → Q v) → IfOk r P → IfOk r Q
if_ok (Ok v) f h = f v h
if_ok (Err e) f h = h

-- what is put of rows
abbrev pub Puts : ℕ → List Open → List KindRow → List Kind → List Kind → Type 0
Puts n vs rows old new = (all rest : List KindRow) → Behind n vs all (rows ++ rest) old → Behind n vs all rest new

abbrev pub CodeRow : Type 0
CodeRow = code.WordKind × Bor (List (TokenKind × Bor (List ℕ))) × Bor (List code.WordKind)

pub one_put : (n : ℕ) (vs : List Open) (r : CodeRow) (old new : List code.WordKind) → Decides true (IsRowNamed n vs (kind_row_of r)) → new ≡ old ++ r.0 ∷ []
    → (all rest : List KindRow) → Behind n vs all (kind_row_of r ∷ rest) (map kind_of old) → Behind n vs all rest (map kind_of new)
one_put n vs r old new d e all rest h more a =
    let put : map kind_of new ≡ map kind_of old ++ kind_of r.0 ∷ [] = ap (λ (ks : List code.WordKind). map kind_of ks) e ∙ map-append kind_of old (r.0 ∷ []) in
    let whole : map kind_of new ++ more ≡ map kind_of old ++ (kind_of r.0 ∷ more) = ap (λ (ks : List Kind). ks ++ more) put ∙ append_assoc (map kind_of old) (kind_of r.0 ∷ []) more in
    subst (λ (ks : List Kind). AreRowsNamed n vs all ks) (sym whole) (h (kind_of r.0 ∷ more) (row_is (d.0 refl) a))

pub none_put : (n : ℕ) (vs : List Open) (r : CodeRow) (old new : List code.WordKind) → Decides false (IsRowNamed n vs (kind_row_of r)) → new ≡ old
    → (all rest : List KindRow) → Behind n vs all (kind_row_of r ∷ rest) (map kind_of old) → Behind n vs all rest (map kind_of new)
none_put n vs r old new d e all rest h more a =
    subst (λ (ks : List code.WordKind). AreRowsNamed n vs all (map kind_of ks ++ more)) (sym e) (h more (row_isnt (λ i. absurd (cc (d.1 i))) a))

-- from row k on
abbrev pub PutsUpTo : ℕ → List Open → List CodeRow → ℕ → List code.WordKind → List code.WordKind → Type 0
PutsUpTo n vs rows k old new = (all rest : List KindRow) → Behind n vs all (map kind_row_of rows ++ rest) (map kind_of old) → Behind n vs all (map kind_row_of (drop k rows) ++ rest) (map kind_of new)

pub next_put : (n : ℕ) (vs : List Open) (rows : List CodeRow) (k : ℕ) (d : CodeRow) (first old new : List code.WordKind) → k < length rows → PutsUpTo n vs rows k first old
    → ((all rest : List KindRow) → Behind n vs all (kind_row_of (get_or rows k d) ∷ rest) (map kind_of old) → Behind n vs all rest (map kind_of new)) → PutsUpTo n vs rows (k + 1) first new
next_put n vs rows k d first old new lt h step all rest b =
    step all (map kind_row_of (drop (k + 1) rows) ++ rest)
    (subst (λ (xs : List CodeRow). Behind n vs all (map kind_row_of xs ++ rest) (map kind_of old)) (next_item k rows d lt) (h all rest b))

pub all_put : (n : ℕ) (vs : List Open) (rows : List CodeRow) (k : ℕ) (first new : List code.WordKind) → length rows ≤ k → PutsUpTo n vs rows k first new
    → Puts n vs (map kind_row_of rows) (map kind_of first) (map kind_of new)
all_put n vs rows k first new le h all rest b =
    subst (λ (xs : List CodeRow). Behind n vs all (map kind_row_of xs ++ rest) (map kind_of new)) (none_left k rows le) (h all rest b)

-- the rows of all kinds are those of their parts
rows_append : (before xs ys : List Kind) → kind_rows before (xs ++ ys) ≡ kind_rows before xs ++ kind_rows (before ++ xs) ys
rows_append before [] ys = ap (λ (ks : List Kind). kind_rows ks ys) (sym (append-nil before))
rows_append before (x ∷ xs) ys =
    ap (λ (rs : List KindRow). kind_row before x ∷ rs)
    (rows_append (before ++ x ∷ []) xs ys ∙ ap (λ (ks : List Kind). kind_rows (before ++ x ∷ []) xs ++ kind_rows ks ys) (append_assoc before (x ∷ []) xs))

module _ (wide signs words names : List Kind) where
  abbrev parts : List KindRow
  parts = kind_rows [] wide ++ (kind_rows wide signs ++ (kind_rows (wide ++ signs) words ++ (kind_rows ((wide ++ signs) ++ words) names ++ [])))

  all_parts : kind_rows [] (wide ++ (signs ++ (words ++ names))) ≡ parts
  all_parts =
      rows_append [] wide (signs ++ (words ++ names))
      ∙ ap (λ (rs : List KindRow). kind_rows [] wide ++ rs)
      (rows_append wide signs (words ++ names)
      ∙ ap (λ (rs : List KindRow). kind_rows wide signs ++ rs)
      (rows_append (wide ++ signs) words names
      ∙ ap (λ (rs : List KindRow). kind_rows (wide ++ signs) words ++ rs) (sym (append-nil (kind_rows ((wide ++ signs) ++ words) names)))))

  all_named : (n : ℕ) (vs : List Open) (none a b c d : List Kind) → none ≡ [] → Puts n vs (kind_rows [] wide) none a → Puts n vs (kind_rows wide signs) a b
      → Puts n vs (kind_rows (wide ++ signs) words) b c → Puts n vs (kind_rows ((wide ++ signs) ++ words) names) c d → AreRowsNamed n vs (kind_rows [] (wide ++ (signs ++ (words ++ names)))) d
  all_named n vs none a b c d e p q r s =
      let start : Behind n vs parts parts none = λ more h. subst (λ (ks : List Kind). AreRowsNamed n vs parts (ks ++ more)) (sym e) h in
      let four : Behind n vs parts [] d =
      s parts [] (r parts (kind_rows ((wide ++ signs) ++ words) names ++ []) (q parts (kind_rows (wide ++ signs) words ++ (kind_rows ((wide ++ signs) ++ words) names ++ []))
      (p parts (kind_rows wide signs ++ (kind_rows (wide ++ signs) words ++ (kind_rows ((wide ++ signs) ++ words) names ++ []))) start))) in
      subst (λ (rs : List KindRow). AreRowsNamed n vs rs d) (sym all_parts) (subst (λ (ks : List Kind). AreRowsNamed n vs parts ks) (append-nil d) (four [] no_row))

pub four_named : (n : ℕ) (vs : List Open) (ws ss ds ns : List KindRow) → ws ≡ kind_rows [] wide_kinds → ss ≡ kind_rows wide_kinds sign_kinds → ds ≡ kind_rows (wide_kinds ++ sign_kinds) word_kinds
    → ns ≡ kind_rows ((wide_kinds ++ sign_kinds) ++ word_kinds) name_kinds → (none a b c d : List Kind) → none ≡ [] → Puts n vs ws none a → Puts n vs ss a b → Puts n vs ds b c → Puts n vs ns c d
    → AreRowsNamed n vs (kind_rows [] kinds) d
four_named n vs ws ss ds ns ew es ed en none a b c d e p q r s =
    all_named wide_kinds sign_kinds word_kinds name_kinds n vs none a b c d e (subst (λ (x : List KindRow). Puts n vs x none a) ew p) (subst (λ (x : List KindRow). Puts n vs x a b) es q)
    (subst (λ (x : List KindRow). Puts n vs x b c) ed r) (subst (λ (x : List KindRow). Puts n vs x c d) en s)
