-- Each word that is taken is of a kind all of whose words are.
use Rattle.std.proofs.Common.{◌≡◌, ◌⊎◌, inl, inr, ℕ, Bool, true, false, List, [], ◌∷◌, ◌++◌, Some, None, refl, sym, ◌∙◌, subst}
use Rattle.std.specs.Prelude.{codes, if◌then◌else◌, map}
use Rattle.std.specs.List.{list_all, list_any}
use Rattle.std.proofs.lemmas.List.Folds.{list_any-append}
use Rattle.std.specs.Str.{bytes_eq}
use Rattle.sap_terms.proofs.PlainLaws.Known.{one_name, own_name}
use Rattle.sap_grammar.specs.Words.{Word, is_lower, is_upper, mark, name, number, quoted}
use Rattle.sap_expect.specs.declared.wanted.Change.{Change}
use Rattle.sap_expect.specs.declared.wanted.Limit.{Limit}
use Rattle.sap_expect.specs.declared.wanted.Part.{Part}
use Rattle.sap_expect.specs.declared.wanted.Part.TheVariants.{Attribute, Builtin, File, Formula, Mode}
use Rattle.sap_expect.specs.declared.wanted.Test.{Test}
use Rattle.sap_expect.specs.FileTable.{Open, Row, Takes, Wanted, all_opened, arity, capital, changed, holds, is_arity, is_wanted, level, nil, otherwise, part, row, row_among, rows, sign, small, takes_level, takes_other, takes_row, takes_word, word}
use Rattle.sap_expect.specs.Kinds.{Kind, file_marks, file_names, file_signs, file_words, is_of, kinds, name_kinds, sign_kinds, this_mark, this_name, wide_kinds, word_kinds}
use Rattle.sap_expect.specs.Letters.{IsLettered}
use Rattle.sap_expect.specs.code.Going.{CanGo, Each, capital_one, is_listed, listed, small_one, witnesses}
use Rattle.sap_expect.proofs.KindFollows.{among_same, can_follow, is_file_name, is_special, lower_alone, one, plain_rows, quoted_follows, same_names, special, upper_alone}
use Rattle.sap_expect.proofs.KindListed.{other_is_listed}
use Rattle.sap_expect.proofs.KindWords.{either}
use Rattle.sap_expect.proofs.Quiet.{both_true}

-- so of one of them
abbrev pub Somewhere : {X : Type 0} → (X → Type 0) → List X → Type 0
Somewhere Is [] = ⊥
Somewhere Is (x ∷ xs) = Is x ⊎ Somewhere Is xs

in_front : {X : Type 0} (Is : X → Type 0) (xs ys : List X) → Somewhere Is xs → Somewhere Is (xs ++ ys)
in_front Is [] ys h = absurd h
in_front Is (x ∷ xs) ys (inl h) = inl h
in_front Is (x ∷ xs) ys (inr h) = inr (in_front Is xs ys h)

in_back : {X : Type 0} (Is : X → Type 0) (xs ys : List X) → Somewhere Is ys → Somewhere Is (xs ++ ys)
in_back Is [] ys h = h
in_back Is (x ∷ xs) ys h = inr (in_back Is xs ys h)

in_list : (Is : Kind → Type 0) (f : List ℕ → Kind) (m : List ℕ) (ms : List (List ℕ)) → list_any (bytes_eq m) ms ≡ true → Is (f m) → Somewhere Is (map f ms)
in_list Is f m [] e h = absurd (cc (e))
in_list Is f m (x ∷ ms) e h =
    either (bytes_eq m x) (list_any (bytes_eq m) ms) e (λ g. inl (subst (λ (y : List ℕ). Is (f y)) (one_name m x g) h)) (λ g. inr (in_list Is f m ms g h))

-- marks

abbrev head_listed : Wanted → Bool
head_listed (sign m) = list_any (bytes_eq m) file_marks
head_listed v = true

heads_listed : (p : Part) → list_all (λ (r : Row). head_listed r.0) (rows p) ≡ true
heads_listed File = refl
heads_listed p = refl

wanted_mark : (m : List ℕ) (v : Wanted) → head_listed v ≡ true → is_wanted v (mark m) ≡ true → list_any (bytes_eq m) file_marks ≡ true
wanted_mark m (sign x) h e = subst (λ (y : List ℕ). list_any (bytes_eq y) file_marks ≡ true) (sym (one_name m x e)) h
wanted_mark m (word x) h e = absurd (cc (e))
wanted_mark m v h e = absurd (cc (e))

head_of : (v : Wanted) → is_listed v ≡ true → head_listed v ≡ true
head_of (sign m) e = e
head_of v e = refl

-- the first row that begins with the word has a head that is it
some_head : (test : Wanted → Bool) (rs : List Row) (w : Word) (t : Test) (rest : List Wanted) → list_all (λ (r : Row). test r.0) rs ≡ true → row_among rs w ≡ Some (t, rest)
    → (v : Wanted) × (test v ≡ true) × (is_wanted v w ≡ true)
some_head test [] w t rest h e = absurd (cc (e))
some_head test (r ∷ rs) w t rest h e =
    let both = both_true (test r.0) (list_all (λ (r : Row). test r.0) rs) h in
    by both.0 (λ f. some_head test rs w t rest both.1 f) (is_wanted r.0 w) refl e
  where
    by : test r.0 ≡ true → (row_among rs w ≡ Some (t, rest) → (v : Wanted) × (test v ≡ true) × (is_wanted v w ≡ true)) → (b : Bool) → is_wanted r.0 w ≡ b
        → (if b then Some (r.1, r.2) else row_among rs w) ≡ Some (t, rest) → (v : Wanted) × (test v ≡ true) × (is_wanted v w ≡ true)
    by f others true g i = (r.0, f, g)
    by f others false g i = others i

mark_taken : {m : List ℕ} {n k : ℕ} {vs next : List Open} → Takes n vs (mark m) k next → listed vs ≡ true → list_any (bytes_eq m) file_marks ≡ true
mark_taken {m = m} (takes_word {v = v} {vs = vs} e) h = wanted_mark m v (head_of v (both_true (is_listed v) (listed vs) h).0) e
mark_taken {m = m} (takes_row {p = p} {t = t} {rest = rest} e o) h =
    let s = some_head head_listed (rows p) (mark m) t rest (heads_listed p) e in
    wanted_mark m s.0 s.1 s.2
mark_taken {n = n} (takes_other {m = m} {p = p} {t = t} {other = other} {vs = vs} none e o s) h = mark_taken s (other_is_listed p t other m n vs e h)
mark_taken (takes_level s) h = mark_taken s h

-- numbers

abbrev not_arity : Wanted → Bool
not_arity arity = false
not_arity v = true

no_arity : (p : Part) → list_all (λ (r : Row). not_arity r.0) (rows p) ≡ true
no_arity File = refl
no_arity p = refl

no_one : (p : Part) → row p one ≡ None
no_one File = refl
no_one p = refl

wanted_number : (s : List ℕ) (v : Wanted) → not_arity v ≡ true → is_wanted v (number s) ≡ true → bytes_eq s (codes "0") ≡ true
wanted_number s nil h e = e
wanted_number s arity h e = absurd (cc (h))
wanted_number s (word x) h e = absurd (cc (e))
wanted_number s v h e = absurd (cc (e))

abbrev NumberIs : List ℕ → ℕ → List Open → Type 0
NumberIs s n vs = (bytes_eq s (codes "0") ≡ true) ⊎ ((is_arity s ≡ true) × CanGo n vs one)

number_word : (s : List ℕ) (n i : ℕ) (v : Wanted) (vs : List Open) → is_wanted v (number s) ≡ true → NumberIs s n ((v, i) ∷ vs)
number_word s n i nil vs e = inl e
number_word s n i arity vs e = inr (e, (n, vs, takes_word refl))
number_word s n i (word x) vs e = absurd (cc (e))
number_word s n i v vs e = absurd (cc (e))

number_other : (s : List ℕ) {n m : ℕ} {p : Part} {l : Limit} {t : Test} {other : List Wanted} {vs : List Open} → otherwise p ≡ Some (t, other) → holds t m n ≡ true
    → NumberIs s n (all_opened m n other ++ vs) → NumberIs s n ((part p l, m) ∷ vs)
number_other s o h (inl e) = inl e
number_other s {p = p} o h (inr g) = inr (g.0, (g.1.0, g.1.1, takes_other (no_one p) o h g.1.2))

number_level : (s : List ℕ) {n i : ℕ} {c : Change} {vs : List Open} → NumberIs s (changed c n i) vs → NumberIs s n ((level c, i) ∷ vs)
number_level s (inl e) = inl e
number_level s (inr g) = inr (g.0, (g.1.0, g.1.1, takes_level g.1.2))

number_taken : {s : List ℕ} {n k : ℕ} {vs next : List Open} → Takes n vs (number s) k next → listed vs ≡ true → NumberIs s n vs
number_taken {s = s} {n = n} (takes_word {k = i} {v = v} {vs = vs} e) h = number_word s n i v vs e
number_taken {s = s} (takes_row {p = p} {t = t} {rest = rest} e o) h =
    let f = some_head not_arity (rows p) (number s) t rest (no_arity p) e in
    inl (wanted_number s f.0 f.1 f.2)
number_taken {s = s} {n = n} (takes_other {m = m} {p = p} {t = t} {other = other} {vs = vs} none e o q) h = number_other s e o (number_taken q (other_is_listed p t other m n vs e h))
number_taken {s = s} (takes_level q) h = number_level s (number_taken q h)

-- names: s is any, x one of the same letter

abbrev NameIs : List ℕ → List ℕ → ℕ → List Open → Type 0
NameIs x s n vs = (is_file_name s ≡ true) ⊎ CanGo n vs (name x)

abbrev only_words : Wanted → Bool
only_words (sign m) = true
only_words (word y) = is_file_name y
only_words v = false

wanted_name : (s : List ℕ) (v : Wanted) → only_words v ≡ true → is_wanted v (name s) ≡ true → is_file_name s ≡ true
wanted_name s (sign m) h e = absurd (cc (e))
wanted_name s (word y) h e = subst (λ (z : List ℕ). is_file_name z ≡ true) (sym (one_name s y e)) h
wanted_name s v h e = absurd (cc (h))

only_name : (s : List ℕ) (rs : List Row) (t : Test) (rest : List Wanted) → list_all (λ (r : Row). only_words r.0) rs ≡ true → row_among rs (name s) ≡ Some (t, rest) → is_file_name s ≡ true
only_name s rs t rest h e =
    let f = some_head only_words rs (name s) t rest h e in
    wanted_name s f.0 f.1 f.2

module _ (x s : List ℕ) (low : is_lower x ≡ is_lower s) (high : is_upper x ≡ is_upper s)
    (in_formula : (n m : ℕ) (l : Limit) (vs : List Open) → CanGo n ((part Formula l, m) ∷ vs) (name x))
    (no_builtin : row Builtin (name x) ≡ None) (no_attribute : row Attribute (name x) ≡ None) (no_mode : row Mode (name x) ≡ None) (no_truth : row Formula (name x) ≡ None) where
  name_word : (n i : ℕ) (v : Wanted) (vs : List Open) → is_listed v ≡ true → is_wanted v (name s) ≡ true → NameIs x s n ((v, i) ∷ vs)
  name_word n i (word y) vs h e = inl (subst (λ (z : List ℕ). is_file_name z ≡ true) (sym (one_name s y e)) h)
  name_word n i nil vs h e = absurd (cc (e))
  name_word n i small vs h e = inr (n, vs, takes_word (low ∙ e))
  name_word n i capital vs h e = inr (n, vs, takes_word (high ∙ e))
  name_word n i v vs h e = inr (n, vs, takes_word e)

  same_rows : (p : Part) → is_special p ≡ false → row p (name x) ≡ row p (name s)
  same_rows p e = among_same (rows p) (name x) (name s) (plain_rows p e) (same_names x s low high)

  abbrev RowIs : Part → Type 0
  RowIs p = (n m : ℕ) (l : Limit) (vs : List Open) (t : Test) (rest : List Wanted) → row p (name s) ≡ Some (t, rest) → holds t m n ≡ true → NameIs x s n ((part p l, m) ∷ vs)

  name_row : (p : Part) → RowIs p
  name_row p = by (is_special p) refl
    where
      by : (b : Bool) → is_special p ≡ b → RowIs p
      by true e = special RowIs (λ n m l vs t rest f h. inl (only_name s (rows Builtin) t rest refl f)) (λ n m l vs t rest f h. inl (only_name s (rows Attribute) t rest refl f))
          (λ n m l vs t rest f h. inl (only_name s (rows Mode) t rest refl f)) (λ n m l vs t rest f h. inr (in_formula n m l vs))
          (λ n m l vs t rest f h. inr (n, all_opened m n rest ++ vs, takes_row f h)) p e
      by false e = λ n m l vs t rest f h. inr (n, all_opened m n rest ++ vs, takes_row (same_rows p e ∙ f) h)

  no_name_row : (p : Part) → row p (name s) ≡ None → row p (name x) ≡ None
  no_name_row p = by (is_special p) refl
    where
      by : (b : Bool) → is_special p ≡ b → row p (name s) ≡ None → row p (name x) ≡ None
      by true e = special (λ q. row q (name s) ≡ None → row q (name x) ≡ None) (λ f. no_builtin) (λ f. no_attribute) (λ f. no_mode) (λ f. no_truth) (λ f. f) p e
      by false e = λ f. same_rows p e ∙ f

  name_other : {n m : ℕ} {p : Part} {l : Limit} {t : Test} {other : List Wanted} {vs : List Open} → row p (name s) ≡ None → otherwise p ≡ Some (t, other) → holds t m n ≡ true
      → NameIs x s n (all_opened m n other ++ vs) → NameIs x s n ((part p l, m) ∷ vs)
  name_other none o h (inl e) = inl e
  name_other {p = p} none o h (inr g) = inr (g.0, g.1, takes_other (no_name_row p none) o h g.2)

  name_level : {n i : ℕ} {c : Change} {vs : List Open} → NameIs x s (changed c n i) vs → NameIs x s n ((level c, i) ∷ vs)
  name_level (inl e) = inl e
  name_level (inr g) = inr (g.0, g.1, takes_level g.2)

  pub name_taken : {n k : ℕ} {vs next : List Open} → Takes n vs (name s) k next → listed vs ≡ true → NameIs x s n vs
  name_taken {n = n} (takes_word {k = i} {v = v} {vs = vs} e) h = name_word n i v vs (both_true (is_listed v) (listed vs) h).0 e
  name_taken {n = n} (takes_row {m = m} {p = p} {l = l} {t = t} {rest = rest} {vs = vs} e o) h = name_row p n m l vs t rest e o
  name_taken {n = n} (takes_other {m = m} {p = p} {t = t} {other = other} {vs = vs} none e o q) h = name_other none e o (name_taken q (other_is_listed p t other m n vs e h))
  name_taken (takes_level q) h = name_level (name_taken q h)

-- the word is of a kind all of whose words may stand

abbrev pub IsGoing : ℕ → List Open → Word → Kind → Type 0
IsGoing n vs w k = Each (CanGo n vs) (witnesses k) × (is_of k w ≡ true)

abbrev SomeKind : ℕ → List Open → Word → Type 0
SomeKind n vs w = Somewhere (IsGoing n vs w) kinds

of_file_name : (n : ℕ) (vs : List Open) (s : List ℕ) → is_file_name s ≡ true → CanGo n vs (name s) → SomeKind n vs (name s)
of_file_name n vs s e g =
    let Is = IsGoing n vs (name s) in
    in_back Is wide_kinds (sign_kinds ++ (word_kinds ++ name_kinds)) (in_back Is sign_kinds (word_kinds ++ name_kinds) (in_back Is word_kinds name_kinds (in_list Is this_name s file_names e ((g, tt), own_name s))))

of_file_mark : (n : ℕ) (vs : List Open) (m : List ℕ) → list_any (bytes_eq m) file_marks ≡ true → CanGo n vs (mark m) → SomeKind n vs (mark m)
of_file_mark n vs m e g =
    let Is = IsGoing n vs (mark m) in
    in_back Is wide_kinds (sign_kinds ++ (word_kinds ++ name_kinds)) (either (list_any (bytes_eq m) file_signs) (list_any (bytes_eq m) file_words) (sym (list_any-append (bytes_eq m) file_signs file_words) ∙ e)
    (λ f. in_front Is sign_kinds (word_kinds ++ name_kinds) (in_list Is this_mark m file_signs f ((g, tt), own_name m)))
    (λ f. in_back Is sign_kinds (word_kinds ++ name_kinds) (in_front Is word_kinds name_kinds (in_list Is this_mark m file_words f ((g, tt), own_name m)))))

small_formula : (n m : ℕ) (l : Limit) (vs : List Open) → CanGo n ((part Formula l, m) ∷ vs) small_one
small_formula n m l vs = (_, _, takes_other refl refl refl (takes_row refl refl))

capital_formula : (n m : ℕ) (l : Limit) (vs : List Open) → CanGo n ((part Formula l, m) ∷ vs) capital_one
capital_formula n m l vs = (_, _, takes_other refl refl refl (takes_row refl refl))

of_small_name : (n : ℕ) (vs : List Open) (s : List ℕ) → listed vs ≡ true → is_lower s ≡ true → CanGo n vs (name s) → SomeKind n vs (name s)
of_small_name n vs s h e g = by (name_taken (codes "x") s (sym e) (sym (lower_alone s e)) small_formula refl refl refl refl g.2 h)
  where
    by : NameIs (codes "x") s n vs → SomeKind n vs (name s)
    by (inl f) = of_file_name n vs s f g
    by (inr f) = inr (inr (inr (inr (inr (inl ((f, tt), e))))))

of_capital_name : (n : ℕ) (vs : List Open) (s : List ℕ) → listed vs ≡ true → is_upper s ≡ true → CanGo n vs (name s) → SomeKind n vs (name s)
of_capital_name n vs s h e g = by (name_taken (codes "X") s (sym (upper_alone s e)) (sym e) capital_formula refl refl refl refl g.2 h)
  where
    by : NameIs (codes "X") s n vs → SomeKind n vs (name s)
    by (inl f) = of_file_name n vs s f g
    by (inr f) = inr (inr (inr (inr (inr (inr (inl ((f, tt), e)))))))

of_number : (n : ℕ) (vs : List Open) (s : List ℕ) → listed vs ≡ true → CanGo n vs (number s) → SomeKind n vs (number s)
of_number n vs s h g = by (number_taken g.2 h)
  where
    by : NumberIs s n vs → SomeKind n vs (number s)
    by (inl e) =
        let z : CanGo n vs (number (codes "0")) = subst (λ (x : List ℕ). CanGo n vs (number x)) (one_name s (codes "0") e) g in
        inr (inr (inr (inr (inr (inr (inr (inr (inr (inl ((z, tt), e))))))))))
    by (inr f) = inr (inr (inr (inr (inr (inr (inr (inr (inl ((f.1, tt), f.0)))))))))

pub some_kind : (n : ℕ) (vs : List Open) (w : Word) → listed vs ≡ true → IsLettered w → CanGo n vs w → SomeKind n vs w
some_kind n vs (mark m) h l g = of_file_mark n vs m (mark_taken g.2 h) g
some_kind n vs (name s) h l g = either (is_lower s) (is_upper s) l (λ e. of_small_name n vs s h e g) (λ e. of_capital_name n vs s h e g)
some_kind n vs (number s) h l g = of_number n vs s h g
some_kind n vs (quoted s) h l g = inr (inr (inr (inr (inr (inr (inr (inl ((can_follow (quoted_follows s (codes "x")) h g.2, tt), refl))))))))
