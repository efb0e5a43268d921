-- The lines that rows tell are read back from the titles of their chart.
use Rattle.std.proofs.Common.{◌≡◌, ◌==◌, ◌&&◌, ◌+◌, ◌-◌, ◌*◌, ◌||◌, ℕ, Bool, true, false, codes, decimal, List, [], ◌∷◌, ◌++◌, drop, length, map, max, min, nat_eq, nat_lt, take, Option, Some, None, refl, sym, ap, subst, ◌∙◌, append_assoc, arith, true≢false, if◌then◌else◌}
use Rattle.std.proofs.Math.Seq.{drop-append-add}
use Rattle.std.specs.List.{list_all, list_any, position_or_len, starts_with}
use Rattle.sap_tell.specs.Escaped.{StandsFor, escaped, has_meaning, is_no_mark}
use Rattle.sap_chart.specs.ChartLaws.{EqualChartsTellTheSame, ToldLinesAreReadBack, told_lines}
use Rattle.sap_chart.specs.ChartText.{Lifeline, above_text, across, across_to, arrow_text, chart_text, down, entry_text, figure_text, head_of, head_text, heads_text, label_text, lifelines, row_text, rows_text, start_text, who_text}
use Rattle.sap_chart.specs.Rows.{Row, shortened}
use Rattle.sap_chart.specs.Titles.{StandForEach, before_mark, begins_row_title, in_mark, none, one_more, row_titles}
use Rattle.sap_chart.specs.declared.figure.Figure.{Figure}
use Rattle.sap_chart.specs.declared.figure.Figure.TheVariants as figure
use Rattle.sap_chart.proofs.NoDocuments.{number_plain}

abbrev begins_mark : ℕ → Bool
begins_mark x = x == 60

either_false : (a b : Bool) → (a || b) ≡ false → (a ≡ false) × (b ≡ false)
either_false true b h = absurd (true≢false h)
either_false false b h = (refl, h)

both_true : (a b : Bool) → (a && b) ≡ true → (a ≡ true) × (b ≡ true)
both_true true b h = (refl, h)
both_true false b h = absurd (true≢false (sym h))

plain_begins_none : (x : ℕ) → has_meaning x ≡ false → begins_mark x ≡ false
plain_begins_none x h = grind arith

written_begins_none : (x : ℕ) → is_no_mark x ≡ true → begins_mark x ≡ false
written_begins_none x h = grind arith

plain_unmarked : (s : List ℕ) → list_any has_meaning s ≡ false → list_any begins_mark s ≡ false
plain_unmarked [] h = refl
plain_unmarked (x ∷ xs) h =
    let parts = either_false (has_meaning x) (list_any has_meaning xs) h in
    rw (plain_begins_none x parts.0) (plain_unmarked xs parts.1)

written_unmarked : (s : List ℕ) → list_all is_no_mark s ≡ true → list_any begins_mark s ≡ false
written_unmarked [] h = refl
written_unmarked (x ∷ xs) h =
    let parts = both_true (is_no_mark x) (list_all is_no_mark xs) h in
    rw (written_begins_none x parts.0) (written_unmarked xs parts.1)

-- text in which no title of a row begins
record IsUntitled (s : List ℕ) : Type 0 where
  has_none : (t : List ℕ) → row_titles (s ++ t) ≡ row_titles t

none_in : (s : List ℕ) → ((t : List ℕ) → row_titles (s ++ t) ≡ row_titles t) → IsUntitled s
none_in s h = record { has_none = h }

both : (a : List ℕ) {b : List ℕ} → IsUntitled a → IsUntitled b → IsUntitled (a ++ b)
both a {b} h k = record { has_none = λ t. ap row_titles (append_assoc a b t) ∙ h.has_none (b ++ t) ∙ k.has_none t }

-- text without a mark is such
not_first : (x : ℕ) (xs : List ℕ) → begins_mark x ≡ false → row_titles (x ∷ xs) ≡ row_titles xs
not_first x xs h = let other : nat_eq 60 x ≡ false = grind arith in rw other refl

skipped : (s t : List ℕ) → list_any begins_mark s ≡ false → row_titles (s ++ t) ≡ row_titles t
skipped [] t h = refl
skipped (x ∷ xs) t h =
    let parts = either_false (begins_mark x) (list_any begins_mark xs) h in
    not_first x (xs ++ t) parts.0 ∙ skipped xs t parts.1

unmarked : (s : List ℕ) → list_any begins_mark s ≡ false → IsUntitled s
unmarked s h = record { has_none = λ t. skipped s t h }

-- the picture's own text, and what follows it
own : (a : List ℕ) {b : List ℕ} → ((t : List ℕ) → row_titles (a ++ t) ≡ row_titles t) → IsUntitled b → IsUntitled (a ++ b)
own a h k = both a (none_in a h) k

number : (n : ℕ) → IsUntitled (decimal n)
number n = unmarked (decimal n) (plain_unmarked (decimal n) (number_plain n))

if_untitled : (b : Bool) {s : List ℕ} → IsUntitled s → IsUntitled (if b then s else [])
if_untitled true h = h
if_untitled false h = none_in [] (λ t. refl)

-- where text ends before a mark
ends_at : (s t : List ℕ) → list_any begins_mark s ≡ false → position_or_len begins_mark (s ++ 60 ∷ t) ≡ length s
ends_at [] t h = refl
ends_at (x ∷ xs) t h =
    let parts = either_false (begins_mark x) (list_any begins_mark xs) h in
    let rest = ends_at xs t parts.1 in
    rw (parts.0, rest) (omega arith)

taken : (s t : List ℕ) → take (length s) (s ++ t) ≡ s
taken [] t = refl
taken (x ∷ xs) t = ap (λ ys. x ∷ ys) (taken xs t)

before_is : (s t : List ℕ) → list_any begins_mark s ≡ false → before_mark (s ++ 60 ∷ t) ≡ s
before_is s t h = ap (λ n. take n (s ++ 60 ∷ t)) (ends_at s t h) ∙ taken s (60 ∷ t)

behind_is : (s t : List ℕ) → list_any begins_mark s ≡ false → in_mark (s ++ 60 ∷ t) ≡ t
behind_is s t h = ap (λ n. drop (n + 1) (s ++ 60 ∷ t)) (ends_at s t h) ∙ drop-append-add s (60 ∷ t) 1

-- what stands behind the title of a row
abbrev margin : List ℕ
margin = codes "/title><text x='10' y='4'>"

module _ (marks : (z : List ℕ) → list_all is_no_mark (escaped z) ≡ true) where
  no_mark : (z : List ℕ) → list_any begins_mark (escaped z) ≡ false
  no_mark z = written_unmarked (escaped z) (marks z)

  written : (z : List ℕ) → IsUntitled (escaped z)
  written z = unmarked (escaped z) (no_mark z)

  -- a title of a row, and another
  a_title : (z t : List ℕ) → row_titles (codes "<title>" ++ (escaped z ++ (60 ∷ (margin ++ t)))) ≡ escaped z ∷ row_titles t
  a_title z t =
      let rest = escaped z ++ (60 ∷ (margin ++ t)) in
      let is : begins_row_title (codes "<title>" ++ rest) ≡ true = ap (λ s. starts_with nat_eq s margin) (behind_is (escaped z) (margin ++ t) (no_mark z)) in
      ap (λ b. if b then before_mark rest ∷ row_titles (codes "title>" ++ rest) else row_titles (codes "title>" ++ rest)) is
      ∙ (λ i. before_is (escaped z) (margin ++ t) (no_mark z) i ∷ (written z).has_none (60 ∷ (margin ++ t)) i)

  another_title : (z s : List ℕ) → ((t : List ℕ) → starts_with nat_eq (s ++ t) margin ≡ false) → IsUntitled (60 ∷ s) → IsUntitled (codes "<title>" ++ (escaped z ++ (60 ∷ s)))
  another_title z s other h = none_in _ at where
    at : (t : List ℕ) → row_titles ((codes "<title>" ++ (escaped z ++ (60 ∷ s))) ++ t) ≡ row_titles t
    at t =
        let rest = escaped z ++ (60 ∷ (s ++ t)) in
        let is : begins_row_title (codes "<title>" ++ rest) ≡ false = ap (λ u. starts_with nat_eq u margin) (behind_is (escaped z) (s ++ t) (no_mark z)) ∙ other t in
        ap (λ u. row_titles (codes "<title>" ++ u)) (append_assoc (escaped z) (60 ∷ s) t)
        ∙ ap (λ b. if b then before_mark rest ∷ row_titles (codes "title>" ++ rest) else row_titles (codes "title>" ++ rest)) is
        ∙ (written z).has_none (60 ∷ (s ++ t)) ∙ h.has_none t

  -- what is drawn
  label_untitled : (x : ℕ) (backing behind label : List ℕ) → ((t : List ℕ) → row_titles (backing ++ t) ≡ row_titles t) → ((t : List ℕ) → row_titles (behind ++ t) ≡ row_titles t)
      → IsUntitled (label_text x backing behind label)
  label_untitled x backing behind label h k =
      own (codes "<g transform='translate(") (λ t. refl) (both (decimal x) (number x) (own backing h (both (decimal (7 * length label + 8)) (number (7 * length label + 8))
      (own behind k (both (escaped label) (written label) (none_in _ (λ t. refl)))))))

  above_untitled : (x : ℕ) (label : List ℕ) → IsUntitled (above_text x label)
  above_untitled x label = label_untitled x (codes ",0)'><rect x='8' y='-18' height='13' fill='white' width='") (codes "'/><text x='12' y='-7' xml:space='preserve'>") label (λ t. refl) (λ t. refl)

  arrow_untitled : (from to : ℕ) (label : List ℕ) → IsUntitled (arrow_text from to label)
  arrow_untitled from to label =
      let left = min from to in
      let right = max from to in
      own (codes "<line x1='") (λ t. refl) (both (decimal from) (number from) (own (codes "' x2='") (λ t. refl) (both (decimal to) (number to) (own (codes "' stroke='black' marker-end='url(#arrow)'/>") (λ t. refl)
      (both (above_text left label) (above_untitled left label) (if_untitled (nat_lt 1280 (right - left)) (above_untitled (right - (7 * length label + 24)) label)))))))

  figure_untitled : (ls : List Lifeline) (f : Figure) (label : List ℕ) → IsUntitled (figure_text ls f label)
  figure_untitled ls (figure.Puts t) label = arrow_untitled (across_to ls t) (across 0) label
  figure_untitled ls (figure.Takes t) label = arrow_untitled (across 0) (across_to ls t) label
  figure_untitled ls (figure.Meets s t) label = arrow_untitled (across_to ls s) (across_to ls t) label
  figure_untitled ls (figure.Shows t) label = label_untitled (across_to ls t) (codes ",0)'><rect x='-4' y='-9' height='18' fill='white' stroke='black' width='")
      (codes "'/><text y='4' xml:space='preserve'>") label (λ t. refl) (λ t. refl)
  figure_untitled ls (figure.Stores t) label = label_untitled (across_to ls t) (codes ",0)'><rect x='8' y='-8' height='16' fill='white' width='")
      (codes "'/><rect x='-4' y='-4' width='8' height='8' fill='white' stroke='black'/><text x='12' y='4' xml:space='preserve'>") label (λ t. refl) (λ t. refl)
  figure_untitled ls (figure.Locks t) label = label_untitled (across_to ls t) (codes ",0)'><rect x='8' y='-8' height='16' fill='white' width='")
      (codes "'/><rect x='-4' y='-4' width='8' height='8'/><text x='12' y='4' xml:space='preserve'>") label (λ t. refl) (λ t. refl)
  figure_untitled ls (figure.Does t) label = label_untitled (across_to ls t) (codes ",0)'><rect x='8' y='-8' height='16' fill='white' width='")
      (codes "'/><circle r='4'/><text x='12' y='4' xml:space='preserve'>") label (λ t. refl) (λ t. refl)
  figure_untitled ls figure.Makes label = label_untitled (across 0) (codes ",0)'><rect x='8' y='-8' height='16' fill='white' width='")
      (codes "'/><circle r='4' fill='white' stroke='black'/><text x='12' y='4' xml:space='preserve'>") label (λ t. refl) (λ t. refl)

  one_untitled : (t : ℕ) → IsUntitled (codes "thread " ++ decimal t)
  one_untitled t = own (codes "thread ") (λ u. refl) (number t)

  who_untitled : (f : Figure) → IsUntitled (who_text f)
  who_untitled (figure.Puts t) = one_untitled t
  who_untitled (figure.Takes t) = one_untitled t
  who_untitled (figure.Meets s t) = own (codes "thread ") (λ u. refl) (both (decimal s) (number s) (own (codes " to ") (λ u. refl) (number t)))
  who_untitled (figure.Shows t) = one_untitled t
  who_untitled (figure.Stores t) = one_untitled t
  who_untitled (figure.Locks t) = one_untitled t
  who_untitled (figure.Does t) = one_untitled t
  who_untitled figure.Makes = none_in _ (λ u. refl)

  entry_untitled : (o : Option ℕ) → IsUntitled (entry_text o)
  entry_untitled None = none_in [] (λ t. refl)
  entry_untitled (Some k) = own (codes "<text x='212' y='4' text-anchor='end'>knows ") (λ t. refl) (both (decimal k) (number k) (none_in _ (λ t. refl)))

  head_untitled : (column : ℕ) (name : List ℕ) → IsUntitled (head_text column name)
  head_untitled column name =
      let behind = codes "/title><line y1='32' y2='100%' stroke='black' stroke-dasharray='2,4'/><text y='24' text-anchor='middle'>" in
      own (codes "<g transform='translate(") (λ t. refl) (both (decimal (across column)) (number (across column)) (own (codes ",0)'>") (λ t. refl)
      (another_title name (behind ++ (escaped (shortened 18 (head_of name)) ++ codes "</text></g>\n")) (λ t. refl)
      (own (60 ∷ behind) (λ t. refl) (both (escaped (shortened 18 (head_of name))) (written (shortened 18 (head_of name))) (none_in _ (λ t. refl)))))))

  heads_untitled : (column : ℕ) (ls : List Lifeline) → IsUntitled (heads_text column ls)
  heads_untitled column [] = none_in [] (λ t. refl)
  heads_untitled column (l ∷ ls) = both (head_text column l.1) (head_untitled column l.1) (heads_untitled (column + 1) ls)

  start_untitled : (threads rows : ℕ) → IsUntitled (start_text threads rows)
  start_untitled threads rows =
      own (codes "<svg xmlns='http://www.w3.org/2000/svg' version='1.1' font-family='monospace' font-size='11' width='") (λ t. refl) (both (decimal (across threads + 450)) (number (across threads + 450))
      (own (codes "' height='") (λ t. refl) (both (decimal (down rows)) (number (down rows)) (none_in _ (λ t. refl)))))

  -- a row has its title
  row_read : (ls : List Lifeline) (k : ℕ) (r : Row) (t : List ℕ) → row_titles (row_text ls k r ++ t) ≡ escaped r.told ∷ row_titles t
  row_read ls k r t =
      let drawn = figure_text ls r.figure (shortened 58 r.label) in
      let who = decimal r.number ++ (codes ". " ++ (who_text r.figure ++ codes "</text>")) in
      let beside = who ++ (entry_text r.entry ++ (drawn ++ codes "</g>\n")) in
      let who_none : IsUntitled who = both (decimal r.number) (number r.number) (own (codes ". ") (λ u. refl) (both (who_text r.figure) (who_untitled r.figure) (none_in _ (λ u. refl)))) in
      let beside_none : IsUntitled beside = both who who_none (both (entry_text r.entry) (entry_untitled r.entry) (both drawn (figure_untitled ls r.figure (shortened 58 r.label)) (none_in _ (λ u. refl)))) in
      let titled = codes "<title>" ++ (escaped r.told ++ (60 ∷ (margin ++ beside))) in
      ap (λ u. row_titles (codes "<g transform='translate(0," ++ u)) (append_assoc (decimal (down k)) (codes ")'>" ++ titled) t)
      ∙ (number (down k)).has_none (codes ")'>" ++ (titled ++ t))
      ∙ ap (λ u. row_titles (codes "<title>" ++ u)) (append_assoc (escaped r.told) (60 ∷ (margin ++ beside)) t)
      ∙ a_title r.told (beside ++ t)
      ∙ ap (λ ts. escaped r.told ∷ ts) (beside_none.has_none t)

  rows_read : (ls : List Lifeline) (k : ℕ) (rs : List Row) → row_titles (rows_text ls k rs ++ codes "</svg>\n") ≡ map escaped (told_lines rs)
  rows_read ls k [] = refl
  rows_read ls k (r ∷ rs) =
      ap row_titles (append_assoc (row_text ls k r) (rows_text ls (k + 1) rs) (codes "</svg>\n")) ∙ row_read ls k r (rows_text ls (k + 1) rs ++ codes "</svg>\n")
      ∙ ap (λ ts. escaped r.told ∷ ts) (rows_read ls (k + 1) rs)

  pub chart_read : (rows : List Row) → row_titles (chart_text rows) ≡ map escaped (told_lines rows)
  chart_read rows =
      let ls = lifelines rows in
      let body = rows_text ls 0 rows ++ codes "</svg>\n" in
      (start_untitled (length ls) (length rows)).has_none (head_text 0 (codes "adversary") ++ (heads_text 1 ls ++ body)) ∙ (head_untitled 0 (codes "adversary")).has_none (heads_text 1 ls ++ body)
      ∙ (heads_untitled 1 ls).has_none body ∙ rows_read ls 0 rows

  module _ (back : (z : List ℕ) → StandsFor (escaped z) z) where
    each_back : (zs : List (List ℕ)) → StandForEach (map escaped zs) zs
    each_back [] = none
    each_back (z ∷ zs) = one_more (escaped z) z (back z) (each_back zs)

    pub told_back : ToldLinesAreReadBack
    told_back rows = subst (λ ts. StandForEach ts (told_lines rows)) (sym (chart_read rows)) (each_back (told_lines rows))

    module _ (one : (t y z : List ℕ) → StandsFor t y → StandsFor t z → y ≡ z) where
      one_reading : {ts us ys zs : List (List ℕ)} → StandForEach ts ys → StandForEach us zs → ts ≡ us → ys ≡ zs
      one_reading none none e = refl
      one_reading none (one_more u z k h) e = absurd (cc)
      one_reading (one_more t y k h) none e = absurd (cc)
      one_reading (one_more {ts = ts} t y k h) (one_more {ts = us} u z l m) e =
          let first : t ≡ u = cc in
          let rest : ts ≡ us = cc in
          let byte : y ≡ z = one u y z (subst (λ (s : List ℕ). StandsFor s y) first k) l in
          let others = one_reading h m rest in
          (λ i. byte i ∷ others i)

      pub tell_the_same : EqualChartsTellTheSame
      tell_the_same rows others e = one_reading (told_back rows) (told_back others) (ap row_titles e)
