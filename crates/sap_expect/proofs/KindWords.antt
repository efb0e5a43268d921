-- What is so of the words that stand for a kind is so of all its words.
use Rattle.std.proofs.Common.{◌≡◌, ℕ, Bool, true, false, List, [], ◌∷◌, ◌++◌, refl, sym, subst}
use Rattle.std.specs.Prelude.{◌&&◌, ◌||◌, codes, is_some, map, not}
use Rattle.std.specs.List.{list_all}
use Rattle.std.specs.Str.{bytes_eq}
use Rattle.sap_terms.proofs.PlainLaws.Known.{one_name, own_name}
use Rattle.sap_grammar.specs.Reading.{as_name, as_number, as_quoted, is_zero}
use Rattle.sap_grammar.specs.Words.{Word, is_lower, is_mark, is_upper, mark, name, number, quoted}
use Rattle.sap_expect.specs.FileTable.{is_arity, is_such}
use Rattle.sap_expect.specs.Kinds.{Kind, a_formula, a_name, a_process, a_term, a_zero, an_arity, an_item, begins_term, capital_name, formula_marks, is_lettered_name, is_of, is_one_of, item_marks, process_marks, quoted_name, small_name, term_marks, this_mark, this_name}
use Rattle.sap_expect.specs.Letters.{IsLettered}
use Rattle.sap_expect.specs.MayStand.{IsWithin}
use Rattle.sap_expect.specs.code.Going.{Each, capital_one, is_within, quoted_one, small_one, witnesses}
use Rattle.sap_expect.proofs.Quiet.{both_true, true_both}

pub either : {C : Type 0} (a b : Bool) → (a || b) ≡ true → (a ≡ true → C) → (b ≡ true → C) → C
either true b e f g = f refl
either false b e f g = g e

pub or_left : (a b : Bool) → a ≡ true → (a || b) ≡ true
or_left true b e = refl
or_left false b e = absurd (cc (e))

pub or_right : (a b : Bool) → b ≡ true → (a || b) ≡ true
or_right true b e = refl
or_right false b e = e

each_front : {X : Type 0} (P : X → Type 0) (xs ys : List X) → Each P (xs ++ ys) → Each P xs
each_front P [] ys h = tt
each_front P (x ∷ xs) ys h = (h.0, each_front P xs ys h.1)

each_back : {X : Type 0} (P : X → Type 0) (xs ys : List X) → Each P (xs ++ ys) → Each P ys
each_back P [] ys h = h
each_back P (x ∷ xs) ys h = each_back P xs ys h.1

pub each_of_all : {X : Type 0} (P : X → Type 0) (test : X → Bool) → ((x : X) → test x ≡ true → P x) → (xs : List X) → list_all test xs ≡ true → Each P xs
each_of_all P test h [] e = tt
each_of_all P test h (x ∷ xs) e =
    let b = both_true (test x) (list_all test xs) e in
    (h x b.0, each_of_all P test h xs b.1)

pub all_of_each : {X : Type 0} (test : X → Bool) (xs : List X) → Each (λ x. test x ≡ true) xs → list_all test xs ≡ true
all_of_each test [] h = refl
all_of_each test (x ∷ xs) h = true_both h.0 (all_of_each test xs h.1)

module _ (P : Word → Type 0) (small_all : P small_one → (s : List ℕ) → is_lower s ≡ true → P (name s)) (capital_all : P capital_one → (s : List ℕ) → is_upper s ≡ true → P (name s))
    (quoted_all : P quoted_one → (s : List ℕ) → P (quoted s)) (arity_all : P (number (codes "1")) → (s : List ℕ) → is_arity s ≡ true → P (number s)) where
  of_mark : (m : List ℕ) (w : Word) → is_mark m w ≡ true → P (mark m) → P w
  of_mark m (mark s) e p = subst (λ (x : List ℕ). P (mark x)) (sym (one_name s m e)) p
  of_mark m (name s) e p = absurd (cc (e))
  of_mark m (number s) e p = absurd (cc (e))
  of_mark m (quoted s) e p = absurd (cc (e))

  of_marks : (ms : List (List ℕ)) (w : Word) → is_one_of ms w ≡ true → Each P (map mark ms) → P w
  of_marks [] w e p = absurd (cc (e))
  of_marks (m ∷ ms) w e p = either (is_mark m w) (is_one_of ms w) e (λ f. of_mark m w f p.0) (λ f. of_marks ms w f p.1)

  of_zero : (w : Word) → is_zero w ≡ true → P (number (codes "0")) → P w
  of_zero (number s) e p = subst (λ (x : List ℕ). P (number x)) (sym (one_name s (codes "0") e)) p
  of_zero (mark s) e p = absurd (cc (e))
  of_zero (name s) e p = absurd (cc (e))
  of_zero (quoted s) e p = absurd (cc (e))

  of_small : (w : Word) → is_such is_lower (as_name w) ≡ true → P small_one → P w
  of_small (name s) e p = small_all p s e
  of_small (mark s) e p = absurd (cc (e))
  of_small (number s) e p = absurd (cc (e))
  of_small (quoted s) e p = absurd (cc (e))

  of_capital : (w : Word) → is_such is_upper (as_name w) ≡ true → P capital_one → P w
  of_capital (name s) e p = capital_all p s e
  of_capital (mark s) e p = absurd (cc (e))
  of_capital (number s) e p = absurd (cc (e))
  of_capital (quoted s) e p = absurd (cc (e))

  of_quoted : (w : Word) → is_some (as_quoted w) ≡ true → P quoted_one → P w
  of_quoted (quoted s) e p = quoted_all p s
  of_quoted (mark s) e p = absurd (cc (e))
  of_quoted (number s) e p = absurd (cc (e))
  of_quoted (name s) e p = absurd (cc (e))

  of_arity : (w : Word) → is_such is_arity (as_number w) ≡ true → P (number (codes "1")) → P w
  of_arity (number s) e p = arity_all p s e
  of_arity (mark s) e p = absurd (cc (e))
  of_arity (quoted s) e p = absurd (cc (e))
  of_arity (name s) e p = absurd (cc (e))

  of_this_name : (x : List ℕ) (w : Word) → is_of (this_name x) w ≡ true → P (name x) → P w
  of_this_name x (name s) e p = subst (λ (y : List ℕ). P (name y)) (sym (one_name s x e)) p
  of_this_name x (mark s) e p = absurd (cc (e))
  of_this_name x (number s) e p = absurd (cc (e))
  of_this_name x (quoted s) e p = absurd (cc (e))

  of_name : (w : Word) → is_lettered_name w ≡ true → P small_one → P capital_one → P w
  of_name w e p q = either (is_such is_lower (as_name w)) (is_such is_upper (as_name w)) e (λ f. of_small w f p) (λ f. of_capital w f q)

  of_term : (w : Word) → begins_term w ≡ true → P small_one → P capital_one → P quoted_one → Each P (map mark term_marks) → P w
  of_term w e p q r h =
      either (is_lettered_name w) (is_some (as_quoted w) || is_one_of term_marks w) e (λ f. of_name w f p q)
      (λ f. either (is_some (as_quoted w)) (is_one_of term_marks w) f (λ g. of_quoted w g r) (λ g. of_marks term_marks w g h))

  pub all_of : (k : Kind) → Each P (witnesses k) → (w : Word) → is_of k w ≡ true → P w
  all_of an_item h w e = of_marks item_marks w e h
  all_of a_process h w e =
      either (is_lettered_name w) (is_zero w || is_one_of process_marks w) e (λ f. of_name w f h.0 h.1.0)
      (λ f. either (is_zero w) (is_one_of process_marks w) f (λ g. of_zero w g h.1.1.0) (λ g. of_marks process_marks w g h.1.1.1))
  all_of a_formula h w e =
      either (begins_term w) (is_one_of formula_marks w) e (λ f. of_term w f h.0 h.1.0 h.1.1.0 (each_front P (map mark term_marks) (map mark formula_marks) h.1.1.1))
      (λ f. of_marks formula_marks w f (each_back P (map mark term_marks) (map mark formula_marks) h.1.1.1))
  all_of a_term h w e = of_term w e h.0 h.1.0 h.1.1.0 h.1.1.1
  all_of a_name h w e = of_name w e h.0 h.1.0
  all_of small_name h w e = of_small w e h.0
  all_of capital_name h w e = of_capital w e h.0
  all_of quoted_name h w e = of_quoted w e h.0
  all_of an_arity h w e = of_arity w e h.0
  all_of a_zero h w e = of_zero w e h.0
  all_of (this_mark m) h w e = of_mark m w e h.0
  all_of (this_name x) h w e = of_this_name x w e h.0

-- they are of the kind
own : (k : Kind) → is_within k k ≡ true
own (this_mark m) = true_both (own_name m) refl
own (this_name x) = true_both (own_name x) refl
own k = refl

pub each_of : (P : Word → Type 0) (k : Kind) → ((w : Word) → is_of k w ≡ true → P w) → Each P (witnesses k)
each_of P k h = each_of_all P (is_of k) h (witnesses k) (own k)

-- some word is
pub some_word : (k : Kind) → (w : Word) × (is_of k w ≡ true)
some_word an_item = (mark (codes "let"), refl)
some_word a_process = (small_one, refl)
some_word a_formula = (small_one, refl)
some_word a_term = (small_one, refl)
some_word a_name = (small_one, refl)
some_word small_name = (small_one, refl)
some_word capital_name = (capital_one, refl)
some_word quoted_name = (quoted_one, refl)
some_word an_arity = (number (codes "1"), refl)
some_word a_zero = (number (codes "0"), refl)
some_word (this_mark m) = (mark m, own_name m)
some_word (this_name x) = (name x, own_name x)

-- a name that stands for one kind alone begins with a small letter, and is none of those that stand for more
abbrev pub is_fine : Kind → Bool
is_fine (this_name y) = is_lower y && (not (bytes_eq (codes "x") y) && not (bytes_eq (codes "X") y))
is_fine k = true

no_other : {A : Type 0} (b : Bool) → not b ≡ true → b ≡ true → A
no_other true e f = absurd (cc (e))
no_other false e f = absurd (cc (f))

small_in : (j : Kind) → is_fine j ≡ true → is_of j small_one ≡ true → (s : List ℕ) → is_lower s ≡ true → is_of j (name s) ≡ true
small_in (this_name y) f e s l =
    let b = both_true (is_lower y) (not (bytes_eq (codes "x") y) && not (bytes_eq (codes "X") y)) f in
    no_other (bytes_eq (codes "x") y) (both_true (not (bytes_eq (codes "x") y)) (not (bytes_eq (codes "X") y)) b.1).0 e
small_in an_item f e s l = absurd (cc (e))
small_in (this_mark m) f e s l = absurd (cc (e))
small_in capital_name f e s l = absurd (cc (e))
small_in quoted_name f e s l = absurd (cc (e))
small_in an_arity f e s l = absurd (cc (e))
small_in a_zero f e s l = absurd (cc (e))
small_in small_name f e s l = l
small_in k f e s l = rw l refl

capital_in : (j : Kind) → is_fine j ≡ true → is_of j capital_one ≡ true → (s : List ℕ) → is_upper s ≡ true → is_of j (name s) ≡ true
capital_in (this_name y) f e s l =
    let b = both_true (is_lower y) (not (bytes_eq (codes "x") y) && not (bytes_eq (codes "X") y)) f in
    no_other (bytes_eq (codes "X") y) (both_true (not (bytes_eq (codes "x") y)) (not (bytes_eq (codes "X") y)) b.1).1 e
capital_in an_item f e s l = absurd (cc (e))
capital_in (this_mark m) f e s l = absurd (cc (e))
capital_in small_name f e s l = absurd (cc (e))
capital_in quoted_name f e s l = absurd (cc (e))
capital_in an_arity f e s l = absurd (cc (e))
capital_in a_zero f e s l = absurd (cc (e))
capital_in capital_name f e s l = l
capital_in a_name f e s l = or_right (is_lower s) (is_upper s) l
capital_in a_term f e s l = or_left (is_lower s || is_upper s) false (or_right (is_lower s) (is_upper s) l)
capital_in a_process f e s l = or_left (is_lower s || is_upper s) false (or_right (is_lower s) (is_upper s) l)
capital_in a_formula f e s l = or_left ((is_lower s || is_upper s) || false) false (or_left (is_lower s || is_upper s) false (or_right (is_lower s) (is_upper s) l))

quoted_in : (j : Kind) → is_of j quoted_one ≡ true → (s : List ℕ) → is_of j (quoted s) ≡ true
quoted_in an_item e s = e
quoted_in k e s = e

arity_in : (j : Kind) → is_of j (number (codes "1")) ≡ true → (s : List ℕ) → is_arity s ≡ true → is_of j (number s) ≡ true
arity_in an_arity e s f = f
arity_in a_zero e s f = absurd (cc (e))
arity_in a_process e s f = absurd (cc (e))
arity_in k e s f = e

pub within_is : (j : Kind) → is_fine j ≡ true → (k : Kind) → is_within k j ≡ true → IsWithin k j
within_is j fine k e w f =
    all_of (λ v. is_of j v ≡ true) (small_in j fine) (capital_in j fine) (quoted_in j) (arity_in j) k
    (each_of_all (λ v. is_of j v ≡ true) (is_of j) (λ v h. h) (witnesses k) e) w f

pub is_within_of : (k j : Kind) → IsWithin k j → is_within k j ≡ true
is_within_of k j h = all_of_each (is_of j) (witnesses k) (each_of (λ w. is_of j w ≡ true) k h)

-- its names begin with letters
of_lettered_name : (w : Word) → is_lettered_name w ≡ true → IsLettered w
of_lettered_name (mark s) e = tt
of_lettered_name (number s) e = tt
of_lettered_name (quoted s) e = tt
of_lettered_name (name s) e = e

pub kind_lettered : (k : Kind) → is_fine k ≡ true → (w : Word) → is_of k w ≡ true → IsLettered w
kind_lettered k f (mark s) e = tt
kind_lettered k f (number s) e = tt
kind_lettered k f (quoted s) e = tt
kind_lettered (this_name y) f (name s) e =
    let b = both_true (is_lower y) (not (bytes_eq (codes "x") y) && not (bytes_eq (codes "X") y)) f in
    or_left (is_lower s) (is_upper s) (subst (λ (x : List ℕ). is_lower x ≡ true) (sym (one_name s y e)) b.0)
kind_lettered an_item f (name s) e = absurd (cc (e))
kind_lettered (this_mark m) f (name s) e = absurd (cc (e))
kind_lettered quoted_name f (name s) e = absurd (cc (e))
kind_lettered an_arity f (name s) e = absurd (cc (e))
kind_lettered a_zero f (name s) e = absurd (cc (e))
kind_lettered small_name f (name s) e = or_left (is_lower s) (is_upper s) e
kind_lettered capital_name f (name s) e = or_right (is_lower s) (is_upper s) e
kind_lettered a_name f (name s) e = e
kind_lettered a_term f (name s) e = either (is_lower s || is_upper s) false e (λ g. g) (λ g. absurd (cc (g)))
kind_lettered a_process f (name s) e = either (is_lower s || is_upper s) false e (λ g. g) (λ g. absurd (cc (g)))
kind_lettered a_formula f (name s) e =
    either ((is_lower s || is_upper s) || false) false e (λ g. either (is_lower s || is_upper s) false g (λ h. h) (λ h. absurd (cc (h)))) (λ g. absurd (cc (g)))
