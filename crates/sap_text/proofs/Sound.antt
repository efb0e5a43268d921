-- What is computed stands first.
use Rattle.std.proofs.Common.{rules, ◌≡◌, ◌≤◌, ◌<◌, ◌+◌, ℕ, suc, Bool, true, false, List, [], ◌∷◌, ◌++◌, append_assoc, length, take, drop, Option, Some, None, refl, sym, ap, subst, ◌∙◌, arith}
use Rattle.std.specs.Prelude.{◌==◌, ◌||◌, ◌&&◌, option_map, nat_le, nat_lt, if◌then◌else◌, slice_index}
use Rattle.std.specs.List.{list_all, prefix_len}
use Rattle.std.specs.Char.{is_ascii_alphabetic, is_ascii_digit}
use Rattle.std.proofs.lemmas.Grind.{common_steps}
use Rattle.sap_text.specs.declared.token.Kind.{Kind}
use Rattle.sap_text.specs.declared.token.Kind.TheVariants as kind
use Rattle.sap_text.specs.declared.front.Front.{Front}
use Rattle.sap_text.specs.declared.front.Front.TheVariants as front
use Rattle.sap_text.specs.declared.fault.Lex.TheVariants as fault
use Rattle.sap_text.specs.Tokens.{is_word, is_blank, is_content, is_not_feed, is_inner, is_symbol, starts_two, begins_comment, IsToken, ident, number, quoted, symbol, IsLongest, EndsLine, IsSkip, blank, line_comment, block_comment, IsFault, bad_byte, bad_content, open_comment, open_quote, Stops}
use Rattle.sap_text.specs.code.Front.{close_at, symbol_len, quote_front, comment_front, front_at, Stands, Within}
use Rattle.sap_text.proofs.Splits.{Split, split, run_is, run_most, parts}
use Rattle.sap_text.proofs.Classes.{token_some, same_kind, symbol_short}

choose : (P : Front → Type 0) (c : Bool) (x y : Front) → (c ≡ true → P x) → (c ≡ false → P y) → P (if c then x else y)
choose P true x y t f = t refl
choose P false x y t f = f refl

both : (a b : Bool) → (a && b) ≡ true → (a ≡ true) × (b ≡ true)
both true true e = (refl, refl)
both true false e = absurd (cc)
both false b e = absurd (cc)

neither : (a b : Bool) → a ≡ false → b ≡ false → (a || b) ≡ false
neither a b e f = rw (e, f) refl

num : (a b : ℕ) → (a == b) ≡ true → a ≡ b
num a b e = grind arith

not_num : (a b : ℕ) → (a == b) ≡ false → a ≡ b → ⊥
not_num a b e = grind arith

-- the two bytes, where they stand
two : (x y : ℕ) (z : List ℕ) → starts_two x y z ≡ true → (v : List ℕ) × (z ≡ x ∷ y ∷ v)
two x y [] e = absurd (cc)
two x y (a ∷ []) e = absurd (cc)
two x y (a ∷ b ∷ v) e =
    let h = both (a == x) (b == y) e in
    let f : a ≡ x = num a x h.0 in
    let g : b ≡ y = num b y h.1 in
    (v, cc)

feed_stops : (b : List ℕ) → Stops is_not_feed b → EndsLine b
feed_stops [] s = tt
feed_stops (x ∷ b) s = grind arith

module _ (at : ℕ) (z v : List ℕ) where
  line_stands : z ≡ 47 ∷ 47 ∷ v → Stands at z (front.Skip (prefix_len is_not_feed z))
  line_stands e =
      let s = split is_not_feed v in
      record {
        part = 47 ∷ 47 ∷ s.front;
        rest = s.rest;
        whole = e ∙ ap (λ y. 47 ∷ 47 ∷ y) s.whole;
        counts = rw e (omega (arith, s.counts));
        is = line_comment s.passes (feed_stops s.rest s.stops);
      }

-- the first `*/`
record Closes (v : List ℕ) (n : ℕ) : Type 0 where
  inner : List ℕ
  after : List ℕ
  whole : v ≡ inner ++ (42 ∷ 47 ∷ after)
  counts : length inner ≡ n
  first : (u w : List ℕ) → v ≡ u ++ (42 ∷ 47 ∷ w) → length inner ≤ length u

abbrev Finds : List ℕ → Option ℕ → Type 0
Finds v None = (u w : List ℕ) → v ≡ u ++ (42 ∷ 47 ∷ w) → ⊥
Finds v (Some n) = Closes v n

module _ (b : ℕ) (v : List ℕ) (other : starts_two 42 47 (b ∷ v) ≡ false) where
  no_first : (w : List ℕ) → b ∷ v ≡ 42 ∷ 47 ∷ w → ⊥
  no_first w e = let f : true ≡ false = subst (λ (y : List ℕ). starts_two 42 47 y ≡ false) e other in absurd (cc)

  never : Finds v None → (u w : List ℕ) → b ∷ v ≡ u ++ (42 ∷ 47 ∷ w) → ⊥
  never none [] w e = no_first w e
  never none (x ∷ u) w e = let t : v ≡ u ++ (42 ∷ 47 ∷ w) = cc in none u w t

  go_on : (o : Option ℕ) → Finds v o → Finds (b ∷ v) (option_map (λ n. n + 1) o)
  go_on None none = λ u w e. never none u w e
  go_on (Some n) c = record { inner = b ∷ c.inner; after = c.after; whole = ap (λ y. b ∷ y) c.whole; counts = omega (arith, c.counts); first = earliest }
    where
      earliest : (u w : List ℕ) → b ∷ v ≡ u ++ (42 ∷ 47 ∷ w) → length (b ∷ c.inner) ≤ length u
      earliest [] w e = absurd (no_first w e)
      earliest (x ∷ u) w e = let t : v ≡ u ++ (42 ∷ 47 ∷ w) = cc in omega (arith, c.first u w t)

finds : (v : List ℕ) → Finds v (close_at v)
finds [] = no_more
  where
    no_more : (u w : List ℕ) → [] ≡ u ++ (42 ∷ 47 ∷ w) → ⊥
    no_more [] w e = absurd (cc)
    no_more (x ∷ u) w e = absurd (cc)
finds (b ∷ v) = by_test (starts_two 42 47 (b ∷ v)) refl (finds v)
  where
    by_test : (c : Bool) → starts_two 42 47 (b ∷ v) ≡ c → Finds v (close_at v) → Finds (b ∷ v) (if c then Some 0 else option_map (λ n. n + 1) (close_at v))
    by_test true e later = let h = two 42 47 (b ∷ v) e in record { inner = []; after = h.0; whole = h.1; counts = refl; first = λ u w f. omega arith }
    by_test false e later = go_on b v e (close_at v) later

comment_stands : (at : ℕ) (z v : List ℕ) → z ≡ 47 ∷ 42 ∷ v → (o : Option ℕ) → Finds v o → Stands at z (comment_front at o)
comment_stands at z v e None none = subst (λ (y : List ℕ). IsFault at y (fault.OpenComment at)) (sym e) (open_comment none)
comment_stands at z v e (Some n) c =
    let w : v ≡ c.inner ++ (42 ∷ 47 ∷ c.after) = c.whole in
    let again : (c.inner ++ (42 ∷ 47 ∷ [])) ++ c.after ≡ c.inner ++ (42 ∷ 47 ∷ c.after) = append_assoc c.inner (42 ∷ 47 ∷ []) c.after in
    let size : length (c.inner ++ (42 ∷ 47 ∷ [])) ≡ n + 2 = grind (arith, common_steps, c.counts) in
    record {
      part = 47 ∷ 42 ∷ (c.inner ++ (42 ∷ 47 ∷ []));
      rest = c.after;
      whole = e ∙ ap (λ y. 47 ∷ 42 ∷ y) (w ∙ sym again);
      counts = omega (arith, size);
      is = block_comment c.inner (λ u x f. c.first u x (w ∙ f));
    }

-- a token of this kind that is as long as each token of the kind
pub longest_by_kind : (k : Kind) (p b : List ℕ) → begins_comment (p ++ b) ≡ false → IsToken k p
    → ((q c : List ℕ) → p ++ b ≡ q ++ c → IsToken k q → length q ≤ length p) → IsLongest k p b
longest_by_kind k p b none is most = record { no_comment = none; is = is; longest = all }
  where
    all : (j : Kind) (q c : List ℕ) → p ++ b ≡ q ++ c → IsToken j q → length q ≤ length p
    all j q c e r = let same : j ≡ k = sym (same_kind b c is r e) in most q c e (subst (λ (i : Kind). IsToken i q) same r)

ident_most : (n : ℕ) (q c : List ℕ) → IsToken kind.Ident q → prefix_len is_word (q ++ c) ≡ n → length q ≤ n
ident_most n q c (ident {b = b} {z = z} l w) e =
    let here : is_word b ≡ true = rw l refl in
    let all : list_all is_word (b ∷ z) ≡ true = rw (here, w) refl in
    omega (arith, run_most is_word (b ∷ z) c all, e)

number_most : (n : ℕ) (q c : List ℕ) → IsToken kind.Number q → prefix_len is_ascii_digit (q ++ c) ≡ n → length q ≤ n
number_most n q c (number {b = b} {z = z} l w) e =
    let all : list_all is_ascii_digit (b ∷ z) ≡ true = rw (l, w) refl in
    omega (arith, run_most is_ascii_digit (b ∷ z) c all, e)

module _ (at b : ℕ) (z : List ℕ) (none : begins_comment (b ∷ z) ≡ false) where
  ident_stands : is_ascii_alphabetic b ≡ true → Stands at (b ∷ z) (front.Taken kind.Ident (prefix_len is_word (b ∷ z)))
  ident_stands l =
      let here : is_word b ≡ true = rw l refl in
      let s = split is_word z in
      let w : b ∷ z ≡ (b ∷ s.front) ++ s.rest = ap (λ y. b ∷ y) s.whole in
      let size : length (b ∷ s.front) ≡ prefix_len is_word (b ∷ z) = rw here (omega (arith, s.counts)) in
      record {
        part = b ∷ s.front;
        rest = s.rest;
        whole = w;
        counts = size;
        is = longest_by_kind kind.Ident (b ∷ s.front) s.rest (subst (λ (y : List ℕ). begins_comment y ≡ false) w none) (ident l s.passes)
            (λ q c e r. ident_most (length (b ∷ s.front)) q c r (ap (λ y. prefix_len is_word y) (sym e) ∙ (ap (λ y. prefix_len is_word y) (sym w) ∙ sym size)));
      }

  number_stands : is_ascii_digit b ≡ true → Stands at (b ∷ z) (front.Taken kind.Number (prefix_len is_ascii_digit (b ∷ z)))
  number_stands l =
      let s = split is_ascii_digit z in
      let w : b ∷ z ≡ (b ∷ s.front) ++ s.rest = ap (λ y. b ∷ y) s.whole in
      let size : length (b ∷ s.front) ≡ prefix_len is_ascii_digit (b ∷ z) = rw l (omega (arith, s.counts)) in
      record {
        part = b ∷ s.front;
        rest = s.rest;
        whole = w;
        counts = size;
        is = longest_by_kind kind.Number (b ∷ s.front) s.rest (subst (λ (y : List ℕ). begins_comment y ≡ false) w none) (number l s.passes)
            (λ q c e r. number_most (length (b ∷ s.front)) q c r (ap (λ y. prefix_len is_ascii_digit y) (sym e) ∙ (ap (λ y. prefix_len is_ascii_digit y) (sym w) ∙ sym size)));
      }

-- Behind a quote.
pub content_inner : (w : List ℕ) → list_all is_content w ≡ true → list_all is_inner w ≡ true
content_inner [] e = refl
content_inner (x ∷ w) e =
    let h = both (is_content x) (list_all is_content w) e in
    let more : list_all is_inner w ≡ true = content_inner w h.1 in
    let here : is_inner x ≡ true = inner_byte x h.0 in
    rw (here, more) refl
  where
    inner_byte : (x : ℕ) → is_content x ≡ true → is_inner x ≡ true
    inner_byte x e = grind arith

cut : (w u s t : List ℕ) → w ++ s ≡ u ++ t → length w ≤ length u → (m : List ℕ) × (u ≡ w ++ m) × (s ≡ m ++ t)
cut [] u s t e le = (u, refl, e)
cut (x ∷ w) [] s t e le = absurd (omega (arith, le))
cut (x ∷ w) (y ∷ u) s t e le =
    let tails : w ++ s ≡ u ++ t = cc in
    let heads : x ≡ y = cc in
    let more = cut w u s t tails (omega (arith, le)) in
    let same : u ≡ w ++ more.0 = more.1 in
    (more.0, cc, more.2)

all_right : (f : ℕ → Bool) (w m : List ℕ) → list_all f (w ++ m) ≡ true → list_all f m ≡ true
all_right f [] m e = e
all_right f (x ∷ w) m e = all_right f w m (both (f x) (list_all f (w ++ m)) e).1

at_end : (u r : List ℕ) (x : ℕ) → slice_index (u ++ (x ∷ r)) (length u) ≡ x
at_end [] r x = refl
at_end (y ∷ u) r x = grind (arith, common_steps, at_end u r x)

abbrev Quoted : ℕ → List ℕ → Bool
Quoted n z = nat_lt n (length z) && slice_index z n == 39

quoted_at : (u r : List ℕ) → Quoted (length u) (u ++ r) ≡ true → (v : List ℕ) × (r ≡ 39 ∷ v)
quoted_at u [] e = let h = (both (nat_lt (length u) (length (u ++ []))) (slice_index (u ++ []) (length u) == 39) e).0 in absurd (grind (arith, common_steps))
quoted_at u (x ∷ r) e =
    let h = (both (nat_lt (length u) (length (u ++ (x ∷ r)))) (slice_index (u ++ (x ∷ r)) (length u) == 39) e).1 in
    let same : slice_index (u ++ (x ∷ r)) (length u) ≡ x = at_end u r x in
    let is : slice_index (u ++ (x ∷ r)) (length u) ≡ 39 = num _ 39 h in
    let x_is : x ≡ 39 = cc in
    (r, ap (λ y. y ∷ r) x_is)

quoted_there : (u v : List ℕ) → Quoted (length u) (u ++ (39 ∷ v)) ≡ true
quoted_there u v =
    let same : slice_index (u ++ (39 ∷ v)) (length u) ≡ 39 = at_end u v 39 in
    let lt : length u < length (u ++ (39 ∷ v)) = grind (arith, common_steps) in
    let test : nat_lt (length u) (length (u ++ (39 ∷ v))) ≡ true = search rules in
    rw (test, same) refl

module _ (at : ℕ) (z : List ℕ) where
  open_stands : Quoted (prefix_len is_inner z) z ≡ false → Stands at (39 ∷ z) (front.Fault (fault.OpenQuote at))
  open_stands e = open_quote none
    where
      none : (u v : List ℕ) → z ≡ u ++ (39 ∷ v) → list_all is_inner u ≡ true → ⊥
      none u v w all =
          let n : prefix_len is_inner z ≡ length u = ap (λ y. prefix_len is_inner y) w ∙ run_is is_inner u (39 ∷ v) all refl in
          let no : Quoted (length u) (u ++ (39 ∷ v)) ≡ false = subst (λ (k : ℕ). Quoted k (u ++ (39 ∷ v)) ≡ false) n (subst (λ (y : List ℕ). Quoted (prefix_len is_inner z) y ≡ false) w e) in
          let yes : Quoted (length u) (u ++ (39 ∷ v)) ≡ true = quoted_there u v in
          let clash : true ≡ false = sym yes ∙ no in
          absurd (cc)

  module _ (none : begins_comment (39 ∷ z) ≡ false) (test : Quoted (prefix_len is_inner z) z ≡ true) where
    closed_at : (s : Split is_inner z) → (v : List ℕ) × (s.rest ≡ 39 ∷ v)
    closed_at s =
        let e : Quoted (length s.front) (s.front ++ s.rest) ≡ true =
        subst (λ (k : ℕ). Quoted k (s.front ++ s.rest) ≡ true) (sym s.counts) (subst (λ (y : List ℕ). Quoted (prefix_len is_inner z) y ≡ true) s.whole test) in
        quoted_at s.front s.rest e

    quoted_stands : (prefix_len is_content z == prefix_len is_inner z) ≡ true → Stands at (39 ∷ z) (front.Taken kind.Quoted (prefix_len is_inner z + 2))
    quoted_stands same =
        let s = split is_inner z in
        let r = split is_content z in
        let v = closed_at s in
        let lengths : prefix_len is_content z ≡ prefix_len is_inner z = num _ _ same in
        let p = parts r.front s.front r.rest s.rest (sym r.whole ∙ s.whole) (r.counts ∙ (lengths ∙ sym s.counts)) in
        let inside : list_all is_content s.front ≡ true = subst (λ (y : List ℕ). list_all is_content y ≡ true) p.0 r.passes in
        let part = 39 ∷ (s.front ++ (39 ∷ [])) in
        let again : (s.front ++ (39 ∷ [])) ++ v.0 ≡ s.front ++ (39 ∷ v.0) = append_assoc s.front (39 ∷ []) v.0 in
        let w : 39 ∷ z ≡ part ++ v.0 = ap (λ y. 39 ∷ y) (s.whole ∙ (ap (λ y. s.front ++ y) v.1 ∙ sym again)) in
        let more : length (s.front ++ (39 ∷ [])) ≡ length s.front + 1 = grind (arith, common_steps) in
        let size : length part ≡ prefix_len is_inner z + 2 = omega (arith, more, s.counts) in
        record {
          part = part;
          rest = v.0;
          whole = w;
          counts = size;
          is = longest_by_kind kind.Quoted part v.0 (subst (λ (y : List ℕ). begins_comment y ≡ false) w none) (quoted s.front inside)
              (λ q c e t. quoted_most q c (w ∙ e) t (length part) (size ∙ ap (λ n. n + 2) (sym lengths)));
        }
      where
        quoted_most : (q c : List ℕ) → 39 ∷ z ≡ q ++ c → IsToken kind.Quoted q → (n : ℕ) → n ≡ prefix_len is_content z + 2 → length q ≤ n
        quoted_most q c e (quoted y all) n k =
            let again : (y ++ (39 ∷ [])) ++ c ≡ y ++ (39 ∷ c) = append_assoc y (39 ∷ []) c in
            let tails : z ≡ (y ++ (39 ∷ [])) ++ c = cc in
            let there : prefix_len is_content z ≡ length y = ap (λ x. prefix_len is_content x) (tails ∙ again) ∙ run_is is_content y (39 ∷ c) all refl in
            let more : length (y ++ (39 ∷ [])) ≡ length y + 1 = grind (arith, common_steps) in
            omega (arith, there, more, k)

    content_stands : (prefix_len is_content z == prefix_len is_inner z) ≡ false → Stands at (39 ∷ z) (front.Fault (fault.BadByte (at + (prefix_len is_content z + 1))))
    content_stands other =
        let s = split is_inner z in
        let r = split is_content z in
        let v = closed_at s in
        let all : list_all is_inner r.front ≡ true = content_inner r.front r.passes in
        let most : length r.front ≤ prefix_len is_inner z = subst (λ (y : List ℕ). length r.front ≤ prefix_len is_inner y) (sym r.whole) (run_most is_inner r.front r.rest all) in
        let k = cut r.front s.front r.rest s.rest (sym r.whole ∙ s.whole) (omega (arith, most, s.counts)) in
        finish s.front r.front s.rest r.rest v.0 k.0 k.1 k.2 s.passes r.passes s.counts r.counts r.whole r.stops v.1
      where
        finish : (u w t b v m : List ℕ) → u ≡ w ++ m → b ≡ m ++ t → list_all is_inner u ≡ true → list_all is_content w ≡ true → length u ≡ prefix_len is_inner z → length w ≡ prefix_len is_content z
            → z ≡ w ++ b → Stops is_content b → t ≡ 39 ∷ v → Stands at (39 ∷ z) (front.Fault (fault.BadByte (at + (prefix_len is_content z + 1))))
        finish u w t b v [] e f all pass_w n k whole stops is =
            let same : length (w ++ []) ≡ length w = grind (arith, common_steps) in
            absurd (not_num (prefix_len is_content z) (prefix_len is_inner z) other (sym k ∙ (sym same ∙ (ap length (sym e) ∙ n))))
        finish u w t b v (c ∷ m) e f all pass_w n k whole stops is =
            let inner : list_all is_inner (c ∷ m) ≡ true = all_right is_inner w (c ∷ m) (subst (λ (y : List ℕ). list_all is_inner y ≡ true) e all) in
            let ends : b ≡ c ∷ (m ++ (39 ∷ v)) = f ∙ ap (λ y. (c ∷ m) ++ y) is in
            let bad : is_content c ≡ false = subst (λ (y : List ℕ). Stops is_content y) ends stops in
            let z_is : z ≡ w ++ (c ∷ (m ++ (39 ∷ v))) = whole ∙ ap (λ y. w ++ y) ends in
            let place : at + suc (length w) ≡ at + (prefix_len is_content z + 1) = omega (arith, k) in
            subst (λ (i : ℕ). IsFault at (39 ∷ z) (fault.BadByte i)) place
            (subst (λ (y : List ℕ). IsFault at (39 ∷ y) (fault.BadByte (at + suc (length w)))) (sym z_is) (bad_content w m v c pass_w bad inner))

quote_stands : (at : ℕ) (z : List ℕ) → begins_comment (39 ∷ z) ≡ false → Stands at (39 ∷ z) (quote_front at z)
quote_stands at z none =
    choose (Stands at (39 ∷ z)) (Quoted (prefix_len is_inner z) z) _ _
    (λ test. choose (Stands at (39 ∷ z)) (prefix_len is_content z == prefix_len is_inner z) _ _ (quoted_stands at z none test) (content_stands at z none test))
    (open_stands at z)

-- Symbols.
symbol_at : (n : ℕ) (z q c : List ℕ) → z ≡ q ++ c → length q ≡ n → is_symbol q ≡ true → is_symbol (take n z) ≡ true
symbol_at n z q c e k is =
    let front : take n z ≡ q = front_is n z q c e k in
    rw front is
  where
    front_is : (n : ℕ) (z q c : List ℕ) → z ≡ q ++ c → length q ≡ n → take n z ≡ q
    front_is n z q c e k = rw (e, sym k) (grind (arith, common_steps))

pub symbol_small : (q : List ℕ) → is_symbol q ≡ true → length q ≤ 3
symbol_small q is = let e : nat_le (length q) 3 ≡ true = symbol_short q is in grind arith

-- no symbol of this length stands at the front
abbrev pub NoSymbol : ℕ → List ℕ → Type 0
NoSymbol n z = (q c : List ℕ) → z ≡ q ++ c → length q ≡ n → is_symbol q ≡ true → ⊥

pub no_symbol : (n : ℕ) (z : List ℕ) → is_symbol (take n z) ≡ false → NoSymbol n z
no_symbol n z e q c w k is = let yes : is_symbol (take n z) ≡ true = symbol_at n z q c w k is in let clash : true ≡ false = sym yes ∙ e in absurd (cc)

symbol_taken : (at : ℕ) (z : List ℕ) (n : ℕ) → begins_comment z ≡ false → is_symbol (take n z) ≡ true → ((q c : List ℕ) → z ≡ q ++ c → is_symbol q ≡ true → length q ≤ n)
    → Stands at z (front.Taken kind.Symbol (length (take n z)))
symbol_taken at z n none is most =
    let w : z ≡ take n z ++ drop n z = grind (arith, common_steps) in
    record {
      part = take n z;
      rest = drop n z;
      whole = w;
      counts = refl;
      is = longest_by_kind kind.Symbol (take n z) (drop n z) (subst (λ (y : List ℕ). begins_comment y ≡ false) w none) (symbol is)
          (λ q c e t. fits_in q c (w ∙ e) t);
    }
  where
    fits_in : (q c : List ℕ) → z ≡ q ++ c → IsToken kind.Symbol q → length q ≤ length (take n z)
    fits_in q c e (symbol is) =
        let short : length q ≤ n = most q c e is in
        let whole : length z ≡ length q + length c = ap length e ∙ grind (arith, common_steps) in
        grind (arith, common_steps)

none_small : (z q c : List ℕ) → NoSymbol 3 z → NoSymbol 2 z → NoSymbol 1 z → z ≡ q ++ c → IsToken kind.Symbol q → is_symbol q ≡ true → ⊥
none_small z [] c three two one e t is = let some : 1 ≤ length {A = ℕ} [] = token_some t in absurd (omega (arith, some))
none_small z (x ∷ []) c three two one e t is = one (x ∷ []) c e refl is
none_small z (x ∷ y ∷ []) c three two one e t is = two (x ∷ y ∷ []) c e refl is
none_small z (x ∷ y ∷ u ∷ []) c three two one e t is = three (x ∷ y ∷ u ∷ []) c e refl is
none_small z (x ∷ y ∷ u ∷ w ∷ q) c three two one e t is = absurd (omega (arith, symbol_small (x ∷ y ∷ u ∷ w ∷ q) is))

-- what is no letter, digit, quote or blank and begins no symbol begins nothing
module _ (b : ℕ) (z : List ℕ) (letter : is_ascii_alphabetic b ≡ false) (digit : is_ascii_digit b ≡ false) (quote : (b == 39) ≡ false) where
  begins_nothing : NoSymbol 3 (b ∷ z) → NoSymbol 2 (b ∷ z) → NoSymbol 1 (b ∷ z) → (k : Kind) (p c : List ℕ) → b ∷ z ≡ p ++ c → IsToken k p → ⊥
  begins_nothing three two one k p c e (ident {b = x} l w) = let same : b ≡ x = cc in let clash : true ≡ false = sym l ∙ (ap is_ascii_alphabetic (sym same) ∙ letter) in absurd (cc)
  begins_nothing three two one k p c e (number {b = x} l w) = let same : b ≡ x = cc in let clash : true ≡ false = sym l ∙ (ap is_ascii_digit (sym same) ∙ digit) in absurd (cc)
  begins_nothing three two one k p c e (quoted y w) = let same : b ≡ 39 = cc in not_num b 39 quote same
  begins_nothing three two one k p c e (symbol is) = none_small (b ∷ z) p c three two one e (symbol is) is

choose_length : (P : ℕ → Type 0) (c : Bool) (x y : ℕ) → (c ≡ true → P x) → (c ≡ false → P y) → P (if c then x else y)
choose_length P true x y t f = t refl
choose_length P false x y t f = f refl

module _ (at b : ℕ) (z : List ℕ) (none : begins_comment (b ∷ z) ≡ false) where
  abbrev OfLength : ℕ → Type 0
  OfLength n = Stands at (b ∷ z) (if n == 0 then front.Fault (fault.BadByte at) else front.Taken kind.Symbol n)

  some_length : (n : ℕ) → 1 ≤ n → Stands at (b ∷ z) (front.Taken kind.Symbol n) → OfLength n
  some_length n le s = let test : (n == 0) ≡ false = grind arith in subst (λ (c : Bool). Stands at (b ∷ z) (if c then front.Fault (fault.BadByte at) else front.Taken kind.Symbol n)) (sym test) s

  no_length : IsFault at (b ∷ z) (fault.BadByte at) → OfLength 0
  no_length f = f

  symbol_stands : is_blank b ≡ false → is_ascii_alphabetic b ≡ false → is_ascii_digit b ≡ false → (b == 39) ≡ false → OfLength (symbol_len (b ∷ z))
  symbol_stands no_blank letter digit quote =
      choose_length OfLength (is_symbol (take 3 (b ∷ z))) _ _
      (λ is. some_length _ (omega arith) (symbol_taken at (b ∷ z) 3 none is (λ q c e t. symbol_small q t)))
      (λ three. choose_length OfLength (is_symbol (take 2 (b ∷ z))) _ (if is_symbol (take 1 (b ∷ z)) then length (take 1 (b ∷ z)) else 0)
      (λ is. some_length _ (omega arith) (symbol_taken at (b ∷ z) 2 none is (λ q c e t. below_three q c (no_symbol 3 (b ∷ z) three) e t)))
      (λ two. choose_length OfLength (is_symbol (take 1 (b ∷ z))) (length (take 1 (b ∷ z))) 0
      (λ is. some_length _ (omega arith) (symbol_taken at (b ∷ z) 1 none is (λ q c e t. below_two q c (no_symbol 3 (b ∷ z) three) (no_symbol 2 (b ∷ z) two) e t)))
      (λ one. no_length (bad_byte no_blank (not_num b 39 quote)
      (begins_nothing b z letter digit quote (no_symbol 3 (b ∷ z) three) (no_symbol 2 (b ∷ z) two) (no_symbol 1 (b ∷ z) one))))))
    where
      below_three : (q c : List ℕ) → NoSymbol 3 (b ∷ z) → b ∷ z ≡ q ++ c → is_symbol q ≡ true → length q ≤ 2
      below_three [] c three e t = omega arith
      below_three (x ∷ []) c three e t = omega arith
      below_three (x ∷ y ∷ []) c three e t = omega arith
      below_three (x ∷ y ∷ u ∷ []) c three e t = absurd (three (x ∷ y ∷ u ∷ []) c e refl t)
      below_three (x ∷ y ∷ u ∷ w ∷ q) c three e t = absurd (omega (arith, symbol_small (x ∷ y ∷ u ∷ w ∷ q) t))

      below_two : (q c : List ℕ) → NoSymbol 3 (b ∷ z) → NoSymbol 2 (b ∷ z) → b ∷ z ≡ q ++ c → is_symbol q ≡ true → length q ≤ 1
      below_two [] c three two e t = omega arith
      below_two (x ∷ []) c three two e t = omega arith
      below_two (x ∷ y ∷ []) c three two e t = absurd (two (x ∷ y ∷ []) c e refl t)
      below_two (x ∷ y ∷ u ∷ []) c three two e t = absurd (three (x ∷ y ∷ u ∷ []) c e refl t)
      below_two (x ∷ y ∷ u ∷ w ∷ q) c three two e t = absurd (omega (arith, symbol_small (x ∷ y ∷ u ∷ w ∷ q) t))

pub stands : (at b : ℕ) (z : List ℕ) → Stands at (b ∷ z) (front_at at b z)
unfolding front_at
stands at b z =
    let P : Front → Type 0 = Stands at (b ∷ z) in
    choose P (is_blank b) _ _ (λ e. record { part = b ∷ []; rest = z; whole = refl; counts = refl; is = blank e }) (λ no_blank.
    choose P (starts_two 47 47 (b ∷ z)) _ _ (λ e. let h = two 47 47 (b ∷ z) e in line_stands at (b ∷ z) h.0 h.1) (λ line.
    choose P (starts_two 47 42 (b ∷ z)) _ _ (λ e. let h = two 47 42 (b ∷ z) e in comment_here h.0 h.1) (λ block.
    let none : begins_comment (b ∷ z) ≡ false = neither _ _ line block in
    choose P (is_ascii_alphabetic b) _ _ (λ e. ident_stands at b z none e) (λ letter.
    choose P (is_ascii_digit b) _ _ (λ e. number_stands at b z none e) (λ digit.
    choose P (b == 39) _ _ (λ e. quote_here none (num b 39 e)) (λ quote.
    symbol_stands at b z none no_blank letter digit quote))))))
  where
    comment_here : (v : List ℕ) → b ∷ z ≡ 47 ∷ 42 ∷ v → Stands at (b ∷ z) (comment_front at (close_at (drop 1 z)))
    comment_here v e = let tail : drop 1 z ≡ v = cut_one v e in rw tail (comment_stands at (b ∷ z) v e (close_at v) (finds v))
      where
        cut_one : (v : List ℕ) → b ∷ z ≡ 47 ∷ 42 ∷ v → drop 1 z ≡ v
        cut_one v e = let t : z ≡ 42 ∷ v = cc in rw t refl

    quote_here : begins_comment (b ∷ z) ≡ false → b ≡ 39 → Stands at (b ∷ z) (quote_front at z)
    quote_here none e = subst (λ (x : ℕ). Stands at (x ∷ z) (quote_front at z)) (sym e) (quote_stands at z (subst (λ (x : ℕ). begins_comment (x ∷ z) ≡ false) e none))

pub skip_some : {p b : List ℕ} → IsSkip p b → 1 ≤ length p
skip_some (blank e) = omega arith
skip_some (line_comment e f) = omega arith
skip_some (block_comment z f) = omega arith

front_within : (at : ℕ) (z : List ℕ) (f : Front) → Stands at z f → Within (length z) f
front_within at z (front.Skip n) s =
    let whole : length z ≡ length s.part + length s.rest = ap length s.whole ∙ grind (arith, common_steps) in
    (omega (arith, skip_some s.is, s.counts), omega (arith, whole, s.counts))
front_within at z (front.Taken k n) s =
    let whole : length z ≡ length s.part + length s.rest = ap length s.whole ∙ grind (arith, common_steps) in
    (omega (arith, token_some s.is.is, s.counts), omega (arith, whole, s.counts))
front_within at z (front.Fault f) s = tt

pub front_fits : (at b : ℕ) (z : List ℕ) → Within (length (b ∷ z)) (front_at at b z)
front_fits at b z = front_within at (b ∷ z) (front_at at b z) (stands at b z)

pub stands_whole : (at : ℕ) {b : ℕ} {z : List ℕ} {f : Front} (w : List ℕ) → f ≡ front_at at b z → w ≡ b ∷ z → Stands at w f
stands_whole at {b = b} {z = z} w e whole = rw (e, whole) (stands at b z)

pub fits_whole : (at : ℕ) {b : ℕ} {z : List ℕ} {f : Front} (w : List ℕ) → f ≡ front_at at b z → w ≡ b ∷ z → Within (length w) f
fits_whole at {b = b} {z = z} w e whole = rw (e, whole) (front_fits at b z)
