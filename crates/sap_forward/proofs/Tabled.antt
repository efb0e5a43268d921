-- The tables of a conversion are kept.
use Rattle.std.proofs.Common.{◌≡◌, ℕ, zero, suc, ◌+◌, ◌<◌, ◌≤◌, List, [], ◌∷◌, ◌++◌, Option, Some, None, refl, sym, ap, ◌∙◌, subst, arith, slice_get, slice_set, length, map, append-nil, append_assoc, Bool, true, false}
use Rattle.std.specs.Prelude.{if◌then◌else◌}
use Rattle.std.proofs.lemmas.Option.{slice_get_within}
use Rattle.sap_terms.specs.Piles.{Pile, Takes, nothing, one, used}
use Rattle.sap_terms.specs.declared.fact.Fact.{Fact}
use Rattle.sap_translate.specs.relation.Agents.{Agent}
use Rattle.sap_forward.specs.Tables.{RuleTables, thread_fact, AreNumbers, AreRuleTables}
use Rattle.sap_forward.specs.Written.{moved, with_thread_fact, with_facts, with_process_facts, numbers_from}

-- items of lists that are set, or joined

pub length_set : {A : Type 0} (xs : List A) (t : ℕ) (y : A) → length (slice_set xs t y) ≡ length xs
length_set [] t y = refl
length_set (x ∷ xs) zero y = refl
length_set (x ∷ xs) (suc t) y = ap suc (length_set xs t y)

pub length_join : {A : Type 0} (xs ys : List A) → length (xs ++ ys) ≡ length xs + length ys
length_join [] ys = omega arith
length_join (x ∷ xs) ys = let h = length_join xs ys in omega arith

pub get_set : {A : Type 0} (xs : List A) (t : ℕ) (x y : A) → slice_get xs t ≡ Some x → slice_get (slice_set xs t y) t ≡ Some y
get_set [] t x y e = absurd (cc)
get_set (z ∷ xs) zero x y e = refl
get_set (z ∷ xs) (suc t) x y e = get_set xs t x y e

pub get_other : {A : Type 0} (xs : List A) (t i : ℕ) (y : A) → (t ≡ i → ⊥) → slice_get (slice_set xs t y) i ≡ slice_get xs i
get_other [] t i y h = refl
get_other (z ∷ xs) zero zero y h = absurd (h refl)
get_other (z ∷ xs) zero (suc i) y h = refl
get_other (z ∷ xs) (suc t) zero y h = refl
get_other (z ∷ xs) (suc t) (suc i) y h = get_other xs t i y (λ e. h (ap suc e))

pub get_left : {A : Type 0} (xs ys : List A) (i : ℕ) (x : A) → slice_get xs i ≡ Some x → slice_get (xs ++ ys) i ≡ Some x
get_left [] ys i x e = absurd (cc)
get_left (z ∷ xs) ys zero x e = e
get_left (z ∷ xs) ys (suc i) x e = get_left xs ys i x e

pub get_right : {A : Type 0} (xs ys : List A) (i m : ℕ) (x : A) → slice_get ys i ≡ Some x → m ≡ length xs + i → slice_get (xs ++ ys) m ≡ Some x
get_right [] ys i m x e is = (let same : m ≡ i = omega arith in ap (slice_get ys) same) ∙ e
get_right (z ∷ xs) ys i zero x e is = absurd (omega arith)
get_right (z ∷ xs) ys i (suc m) x e is = get_right xs ys i m x e (omega arith)

-- an item of a list that was set
pub data Spot {A : Type 0} (xs : List A) (t : ℕ) (y : A) (i : ℕ) (x : A) : Type 0 where
  here : t ≡ i → x ≡ y → Spot xs t y i x
  there : (t ≡ i → ⊥) → slice_get xs i ≡ Some x → Spot xs t y i x

pub spot_of : {A : Type 0} (xs : List A) (t : ℕ) (y : A) (i : ℕ) (x : A) → slice_get (slice_set xs t y) i ≡ Some x → Spot xs t y i x
spot_of [] t y i x e = absurd (cc)
spot_of (z ∷ xs) zero y zero x e = here refl (let s : Some y ≡ Some x = e in cc)
spot_of (z ∷ xs) zero y (suc i) x e = there (λ s. absurd (omega arith)) e
spot_of (z ∷ xs) (suc t) y zero x e = there (λ s. absurd (omega arith)) e
spot_of (z ∷ xs) (suc t) y (suc i) x e = elim (spot_of xs t y i x e) [ here s h ↦ here (ap suc s) h | there s h ↦ there (λ r. s (omega arith)) h ]

-- an item of a list that was pushed to
pub data Pushed {A : Type 0} (xs : List A) (y : A) (i : ℕ) (x : A) : Type 0 where
  last : i ≡ length xs → x ≡ y → Pushed xs y i x
  before : slice_get xs i ≡ Some x → Pushed xs y i x

pub pushed_of : {A : Type 0} (xs : List A) (y : A) (i : ℕ) (x : A) → slice_get (xs ++ y ∷ []) i ≡ Some x → Pushed xs y i x
pushed_of [] y zero x e = last refl (let s : Some y ≡ Some x = e in cc)
pushed_of [] y (suc i) x e = absurd (cc)
pushed_of (z ∷ xs) y zero x e = before e
pushed_of (z ∷ xs) y (suc i) x e = elim (pushed_of xs y i x e) [ last s h ↦ last (ap suc s) h | before h ↦ before h ]

map_set : {A B : Type 0} (f : A → B) (xs : List A) (t : ℕ) (y : A) → map f (slice_set xs t y) ≡ slice_set (map f xs) t (f y)
map_set f [] t y = refl
map_set f (x ∷ xs) zero y = refl
map_set f (x ∷ xs) (suc t) y = ap (λ ys. f x ∷ ys) (map_set f xs t y)

map_push : {A B : Type 0} (f : A → B) (xs : List A) (y : A) → map f (xs ++ y ∷ []) ≡ map f xs ++ f y ∷ []
map_push f [] y = refl
map_push f (x ∷ xs) y = ap (λ ys. f x ∷ ys) (map_push f xs y)

pub map_get : {A B : Type 0} (f : A → B) (xs : List A) (i : ℕ) (x : A) → slice_get xs i ≡ Some x → slice_get (map f xs) i ≡ Some (f x)
map_get f [] i x e = absurd (cc)
map_get f (z ∷ xs) zero x e = let s : z ≡ x = cc in ap (λ y. Some (f y)) s
map_get f (z ∷ xs) (suc i) x e = map_get f xs i x e

number_of : {A B : Type 0} (xs : List A) (ys : List B) (i : ℕ) (y : B) → length xs ≡ length ys → slice_get ys i ≡ Some y → (x : A) × (slice_get xs i ≡ Some x)
number_of [] [] i y e g = absurd (cc)
number_of [] (z ∷ ys) i y e g = absurd (omega arith)
number_of (x ∷ xs) [] i y e g = absurd (omega arith)
number_of (x ∷ xs) (z ∷ ys) zero y e g = (x, refl)
number_of (x ∷ xs) (z ∷ ys) (suc i) y e g = number_of xs ys i y (omega arith) g

-- facts stay under their numbers, but for this one
abbrev pub Stay : Pile → ℕ → Pile → Type 0
Stay facts k later = (j : ℕ) (f : Fact) → (k ≡ j → ⊥) → slice_get facts j ≡ Some (Some f) → slice_get later j ≡ Some (Some f)

-- those with these numbers do
abbrev pub StayOf : List ℕ → Pile → ℕ → Pile → Type 0
StayOf ns facts k later = (i j : ℕ) (f : Fact) → slice_get ns i ≡ Some j → (k ≡ j → ⊥) → slice_get facts j ≡ Some (Some f) → slice_get later j ≡ Some (Some f)

pub numbers_stay : (wanted : List (Option Fact)) (facts later : Pile) (ns : List ℕ) → AreNumbers wanted facts ns → ((t k : ℕ) (f : Fact) → slice_get ns t ≡ Some k → slice_get facts k ≡ Some (Some f) → slice_get later k ≡ Some (Some f)) → length facts ≤ length later → AreNumbers wanted later ns
numbers_stay wanted facts later ns h stay grown = record {
  live = λ t k f e g. stay t k f g (h.live t k f e g);
  apart = h.apart;
  given = λ t k e. let low = h.given t k e in omega arith;
  all = h.all;
}

numbers_move : (wanted : List (Option Fact)) (facts later : Pile) (ns : List ℕ) (t k m : ℕ) (f : Fact) → AreNumbers wanted facts ns → slice_get ns t ≡ Some k → StayOf ns facts k later → length facts ≤ m → m < length later → slice_get later m ≡ Some (Some f) → AreNumbers (slice_set wanted t (Some f)) later (slice_set ns t m)
numbers_move wanted facts later ns t k m f h mine stay new within there_is = record {
  live = λ i j g e n. live_of i j g (spot_of wanted t (Some f) i (Some g) e) (spot_of ns t m i j n);
  apart = λ i u j e n. apart_of i u j (spot_of ns t m i j e) (spot_of ns t m u j n);
  given = λ i j e. given_of i j (spot_of ns t m i j e);
  all = length_set ns t m ∙ h.all ∙ sym (length_set wanted t (Some f));
}
  where
    live_of : (i j : ℕ) (g : Fact) → Spot wanted t (Some f) i (Some g) → Spot ns t m i j → slice_get later j ≡ Some (Some g)
    live_of i j g (here s e) (here r n) = ap (slice_get later) n ∙ there_is ∙ ap Some (sym e)
    live_of i j g (here s e) (there r n) = absurd (r s)
    live_of i j g (there s e) (here r n) = absurd (s r)
    live_of i j g (there s e) (there r n) = stay i j g n (λ same. s (h.apart t i k mine (n ∙ ap Some (sym same)))) (h.live i j g e n)

    apart_of : (i u j : ℕ) → Spot ns t m i j → Spot ns t m u j → i ≡ u
    apart_of i u j (here s e) (here r n) = sym s ∙ r
    apart_of i u j (here s e) (there r n) = absurd (let low = h.given u j n in omega arith)
    apart_of i u j (there s e) (here r n) = absurd (let low = h.given i j e in omega arith)
    apart_of i u j (there s e) (there r n) = h.apart i u j e n

    given_of : (i j : ℕ) → Spot ns t m i j → j < length later
    given_of i j (here s e) = omega arith
    given_of i j (there s e) = let low = h.given i j e in omega arith

numbers_end : (wanted : List (Option Fact)) (facts later : Pile) (ns : List ℕ) (t k : ℕ) → AreNumbers wanted facts ns → slice_get ns t ≡ Some k → Stay facts k later → length facts ≤ length later → AreNumbers (slice_set wanted t None) later ns
numbers_end wanted facts later ns t k h mine stay grown = record {
  live = λ i j g e n. live_of i j g (spot_of wanted t None i (Some g) e) n;
  apart = h.apart;
  given = λ i j e. let low = h.given i j e in omega arith;
  all = h.all ∙ sym (length_set wanted t None);
}
  where
    live_of : (i j : ℕ) (g : Fact) → Spot wanted t None i (Some g) → slice_get ns i ≡ Some j → slice_get later j ≡ Some (Some g)
    live_of i j g (here s e) n = absurd (cc)
    live_of i j g (there s e) n = stay j g (λ same. s (h.apart t i k mine (n ∙ ap Some (sym same)))) (h.live i j g e n)

length_both : {A B : Type 0} (xs : List A) (ys : List B) (x : A) (y : B) → length xs ≡ length ys → length (xs ++ x ∷ []) ≡ length (ys ++ y ∷ [])
length_both xs ys x y e = let a = length_join xs (x ∷ []) in let b = length_join ys (y ∷ []) in omega arith

-- one fact more is wanted, which comes last
pub numbers_come : (wanted : List (Option Fact)) (facts : Pile) (ns : List ℕ) (m : ℕ) (f : Fact) → AreNumbers wanted facts ns → m ≡ length facts → AreNumbers (wanted ++ Some f ∷ []) (facts ++ Some f ∷ []) (ns ++ m ∷ [])
numbers_come wanted facts ns m f h is = record {
  live = λ i j g e n. live_of i j g (pushed_of wanted (Some f) i (Some g) e) (pushed_of ns m i j n);
  apart = λ i u j e n. apart_of i u j (pushed_of ns m i j e) (pushed_of ns m u j n);
  given = λ i j e. given_of i j (pushed_of ns m i j e);
  all = length_both ns wanted m (Some f) h.all;
}
  where
    live_of : (i j : ℕ) (g : Fact) → Pushed wanted (Some f) i (Some g) → Pushed ns m i j → slice_get (facts ++ Some f ∷ []) j ≡ Some (Some g)
    live_of i j g (last s e) (last r n) = get_right facts (Some f ∷ []) 0 j (Some g) (ap Some (sym e)) (omega arith)
    live_of i j g (last s e) (before n) = absurd (let low = slice_get_within ns i j n in let same = h.all in omega arith)
    live_of i j g (before e) (last r n) = absurd (let low = slice_get_within wanted i (Some g) e in let same = h.all in omega arith)
    live_of i j g (before e) (before n) = get_left facts (Some f ∷ []) j (Some g) (h.live i j g e n)

    apart_of : (i u j : ℕ) → Pushed ns m i j → Pushed ns m u j → i ≡ u
    apart_of i u j (last s e) (last r n) = s ∙ sym r
    apart_of i u j (last s e) (before n) = absurd (let low = h.given u j n in omega arith)
    apart_of i u j (before e) (last r n) = absurd (let low = h.given i j e in omega arith)
    apart_of i u j (before e) (before n) = h.apart i u j e n

    given_of : (i j : ℕ) → Pushed ns m i j → j < length (facts ++ Some f ∷ [])
    given_of i j (last s e) = let long = length_join facts (Some f ∷ []) in omega arith
    given_of i j (before e) = let long = length_join facts (Some f ∷ []) in let low = h.given i j e in omega arith

-- the tables

module _ (agents : List (Option Agent)) (pile facts : Pile) (tables : RuleTables) (h : AreRuleTables agents pile facts tables) where
  -- the number of a thread, and its fact
  pub seat : (t : ℕ) (a : Agent) (f : Fact) → slice_get agents t ≡ Some (Some a) → thread_fact (Some a) ≡ Some f → (k : ℕ) × (slice_get tables.threads t ≡ Some k) × (slice_get facts k ≡ Some (Some f))
  seat t a f e stands =
      let wanted : slice_get (map thread_fact agents) t ≡ Some (Some f) = map_get thread_fact agents t (Some a) e ∙ ap Some stands in
      let n = number_of tables.threads (map thread_fact agents) t (Some f) h.threads.all wanted in
      (n.0, n.1, h.threads.live t n.0 f wanted n.1)

  -- the pile's facts stay, and no thread has one of their numbers
  pub pile_stays : (t k : ℕ) (later : Pile) → slice_get tables.threads t ≡ Some k → Stay facts k later → length facts ≤ length later → AreNumbers pile later tables.facts
  pile_stays t k later mine stay grown = numbers_stay pile facts later tables.facts h.facts (λ u j f n e. stay j f (λ same. h.apart t u k mine (n ∙ ap Some (sym same))) e) grown

  -- a thread has another fact, which comes last of some, and the pile is another
  pub tables_turn : (t k come : ℕ) (later : Pile) (a : Agent) (f : Fact) (other : Pile) → slice_get tables.threads t ≡ Some k → StayOf tables.threads facts k later → AreNumbers other later tables.facts → thread_fact (Some a) ≡ Some f → length later ≡ length facts + come + 1 → slice_get later (length facts + come) ≡ Some (Some f)
      → AreRuleTables (slice_set agents t (Some a)) other later (moved tables t come)
  tables_turn t k come later a f other mine stay numbers stands long there_is =
      let count = h.count in
      let same : length facts + come ≡ tables.count + come = omega arith in
      record {
        threads = subst (λ w. AreNumbers w later (slice_set tables.threads t (tables.count + come))) (ap (slice_set (map thread_fact agents) t) (sym stands) ∙ sym (map_set thread_fact agents t (Some a)))
            (numbers_move (map thread_fact agents) facts later tables.threads t k (tables.count + come) f h.threads mine stay (omega arith) (omega arith) (subst (λ m. slice_get later m ≡ Some (Some f)) same there_is));
        facts = numbers;
        apart = λ i u j e n. apart_of i u j (spot_of tables.threads t (tables.count + come) i j e) n;
        count = omega arith;
      }
    where
      apart_of : (i u j : ℕ) → Spot tables.threads t (tables.count + come) i j → slice_get tables.facts u ≡ Some j → ⊥
      apart_of i u j (here s e) n = absurd (let low = h.facts.given u j n in let count = h.count in omega arith)
      apart_of i u j (there s e) n = h.apart i u j e n

  pub tables_move : (t k come : ℕ) (later : Pile) (a : Agent) (f : Fact) → slice_get tables.threads t ≡ Some k → Stay facts k later → thread_fact (Some a) ≡ Some f → length later ≡ length facts + come + 1 → slice_get later (length facts + come) ≡ Some (Some f) → AreRuleTables (slice_set agents t (Some a)) pile later (moved tables t come)
  tables_move t k come later a f mine stay stands long there_is = tables_turn t k come later a f pile mine (λ i j g n. stay j g) (pile_stays t k later mine stay (omega arith)) stands long there_is

  pub tables_end : (t k : ℕ) (later : Pile) → slice_get tables.threads t ≡ Some k → Stay facts k later → length later ≡ length facts → AreRuleTables (slice_set agents t None) pile later tables
  tables_end t k later mine stay long = record {
    threads = subst (λ w. AreNumbers w later tables.threads) (sym (map_set thread_fact agents t None)) (numbers_end (map thread_fact agents) facts later tables.threads t k h.threads mine stay (omega arith));
    facts = pile_stays t k later mine stay (omega arith);
    apart = h.apart;
    count = h.count ∙ sym long;
  }

  pub tables_come : (a : Agent) (f : Fact) → thread_fact (Some a) ≡ Some f → AreRuleTables (agents ++ Some a ∷ []) pile (facts ++ Some f ∷ []) (with_thread_fact tables)
  tables_come a f stands = record {
    threads = subst (λ w. AreNumbers w (facts ++ Some f ∷ []) (tables.threads ++ tables.count ∷ [])) (ap (λ o. map thread_fact agents ++ o ∷ []) (sym stands) ∙ sym (map_push thread_fact agents (Some a)))
        (numbers_come (map thread_fact agents) facts tables.threads tables.count f h.threads h.count);
    facts = numbers_stay pile facts (facts ++ Some f ∷ []) tables.facts h.facts (λ t k g n e. get_left facts (Some f ∷ []) k (Some g) e) (let long = length_join facts (Some f ∷ []) in omega arith);
    apart = λ i u j e n. apart_of i u j (pushed_of tables.threads tables.count i j e) n;
    count = let long = length_join facts (Some f ∷ []) in let count = h.count in omega arith;
  }
    where
      apart_of : (i u j : ℕ) → Pushed tables.threads tables.count i j → slice_get tables.facts u ≡ Some j → ⊥
      apart_of i u j (last s e) n = absurd (let low = h.facts.given u j n in let count = h.count in omega arith)
      apart_of i u j (before e) n = h.apart i u j e n

  -- facts come that are no thread's and none of the pile
  pub tables_stay : (come : ℕ) (later : Pile) → ((j : ℕ) (f : Fact) → slice_get facts j ≡ Some (Some f) → slice_get later j ≡ Some (Some f)) → length later ≡ length facts + come → AreRuleTables agents pile later (with_facts tables come)
  tables_stay come later stay long = record {
    threads = numbers_stay (map thread_fact agents) facts later tables.threads h.threads (λ t k f n e. stay k f e) (omega arith);
    facts = numbers_stay pile facts later tables.facts h.facts (λ t k f n e. stay k f e) (omega arith);
    apart = h.apart;
    count = let count = h.count in omega arith;
  }

-- facts of the process come
pub pile_comes : (agents : List (Option Agent)) (right : List Fact) (pile facts : Pile) (tables : RuleTables) → AreRuleTables agents pile facts tables → AreRuleTables agents (pile ++ map Some right) (facts ++ map Some right) (with_process_facts tables (length right))
pile_comes agents [] pile facts tables h = record {
  threads = subst (λ x. AreNumbers (map thread_fact agents) x tables.threads) (sym (append-nil facts)) h.threads;
  facts = subst (λ x. AreNumbers (pile ++ []) (facts ++ []) x) (sym (append-nil tables.facts)) (subst (λ x. AreNumbers x (facts ++ []) tables.facts) (sym (append-nil pile)) (subst (λ x. AreNumbers pile x tables.facts) (sym (append-nil facts)) h.facts));
  apart = λ t u k e n. h.apart t u k e (ap (λ x. slice_get x u) (sym (append-nil tables.facts)) ∙ n);
  count = let count = h.count in let same : length (facts ++ []) ≡ length facts = ap length (append-nil facts) in omega arith;
}
pile_comes agents (f ∷ fs) pile facts tables h =
    let first' : AreRuleTables agents (pile ++ Some f ∷ []) (facts ++ Some f ∷ []) (one_more tables) = one_comes in
    let rest = pile_comes agents fs (pile ++ Some f ∷ []) (facts ++ Some f ∷ []) (one_more tables) first' in
    let same : (tables.facts ++ tables.count ∷ []) ++ numbers_from (tables.count + 1) (length fs) ≡ tables.facts ++ (tables.count ∷ numbers_from (tables.count + 1) (length fs)) = append_assoc tables.facts (tables.count ∷ []) (numbers_from (tables.count + 1) (length fs)) in
    let pile_is : (pile ++ Some f ∷ []) ++ map Some fs ≡ pile ++ (Some f ∷ map Some fs) = append_assoc pile (Some f ∷ []) (map Some fs) in
    let facts_are : (facts ++ Some f ∷ []) ++ map Some fs ≡ facts ++ (Some f ∷ map Some fs) = append_assoc facts (Some f ∷ []) (map Some fs) in
    record {
      threads = subst (λ x. AreNumbers (map thread_fact agents) x tables.threads) facts_are rest.threads;
      facts = same_numbers pile_is facts_are same rest.facts;
      apart = λ t u k e n. rest.apart t u k e (ap (λ x. slice_get x u) same ∙ n);
      count = let count = rest.count in let long = ap length facts_are in omega arith;
    }
  where
    one_more : RuleTables → RuleTables
    one_more x = record x { facts = x.facts ++ x.count ∷ []; count = x.count + 1 }

    same_numbers : {w w2 x x2 : Pile} {n n2 : List ℕ} → w ≡ w2 → x ≡ x2 → n ≡ n2 → AreNumbers w x n → AreNumbers w2 x2 n2
    same_numbers {w = w} {w2 = w2} {x = x} {x2 = x2} {n = n} {n2 = n2} a b c k = subst (λ z. AreNumbers z x2 n2) a (subst (λ z. AreNumbers w z n2) b (subst (λ z. AreNumbers w x z) c k))

    one_comes : AreRuleTables agents (pile ++ Some f ∷ []) (facts ++ Some f ∷ []) (one_more tables)
    one_comes = record {
      threads = numbers_stay (map thread_fact agents) facts (facts ++ Some f ∷ []) tables.threads h.threads (λ t k g n e. get_left facts (Some f ∷ []) k (Some g) e) (let long = length_join facts (Some f ∷ []) in omega arith);
      facts = numbers_come pile facts tables.facts tables.count f h.facts h.count;
      apart = λ t u k e n. apart_of t u k e (pushed_of tables.facts tables.count u k n);
      count = let long = length_join facts (Some f ∷ []) in let count = h.count in omega arith;
    }
      where
        apart_of : (t u k : ℕ) → slice_get tables.threads t ≡ Some k → Pushed tables.facts tables.count u k → ⊥
        apart_of t u k e (last s i) = absurd (let low = h.threads.given t k e in let count = h.count in omega arith)
        apart_of t u k e (before n) = h.apart t u k e n

-- facts of the pile are taken under their numbers, and no others
pub record TakenBy (pile facts : Pile) (ns ks : List ℕ) (taken : List Fact) (rest : Pile) : Type 0 where
  pub js : List ℕ
  pub later : Pile
  pub cited : map (slice_get ns) ks ≡ map Some js
  pub takes : Takes facts js taken later
  pub numbers : AreNumbers rest later ns
  pub others : (j : ℕ) → ((i : ℕ) → slice_get ns i ≡ Some j → ⊥) → slice_get later j ≡ slice_get facts j
  pub long : length later ≡ length facts

used_numbers : (pile facts : Pile) (ns : List ℕ) (i j : ℕ) (f : Fact) (b : Bool) → AreNumbers pile facts ns → slice_get ns i ≡ Some j → AreNumbers (if b then pile else slice_set pile i None) (if b then facts else slice_set facts j None) ns
used_numbers pile facts ns i j f true h mine = h
used_numbers pile facts ns i j f false h mine = numbers_end pile facts (slice_set facts j None) ns i j h mine (λ k g apart e. get_other facts j k None apart ∙ e) (let long = length_set facts j None in omega arith)

used_long : (facts : Pile) (j : ℕ) (b : Bool) → length (if b then facts else slice_set facts j None) ≡ length facts
used_long facts j true = refl
used_long facts j false = length_set facts j None

used_other : (facts : Pile) (j k : ℕ) (b : Bool) → (j ≡ k → ⊥) → slice_get (if b then facts else slice_set facts j None) k ≡ slice_get facts k
used_other facts j k true h = refl
used_other facts j k false h = get_other facts j k None h

pub taken_by_table : (pile facts : Pile) (ns ks : List ℕ) (taken : List Fact) (rest : Pile) → AreNumbers pile facts ns → Takes pile ks taken rest → TakenBy pile facts ns ks taken rest
taken_by_table pile facts ns ks taken rest h nothing = record { js = []; later = facts; cited = refl; takes = nothing; numbers = h; others = λ j n. refl; long = refl }
taken_by_table pile facts ns ks taken rest h (one {k = i} {ks = more} {f = f} {fs = fs} e takes) =
    let n = number_of ns pile i (Some f) h.all e in
    let j = n.0 in
    let t = taken_by_table (used pile i f) (used facts j f) ns more fs rest (used_numbers pile facts ns i j f f.persistent h n.1) takes in
    record {
      js = j ∷ t.js;
      later = t.later;
      cited = λ d. n.1 d ∷ t.cited d;
      takes = one (h.live i j f e n.1) t.takes;
      numbers = t.numbers;
      others = λ k no_number. t.others k no_number ∙ used_other facts j k f.persistent (λ same. no_number i (n.1 ∙ ap Some same));
      long = t.long ∙ used_long facts j f.persistent;
    }
