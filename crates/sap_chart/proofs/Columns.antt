-- Lifelines come behind those that are there, so that columns and what is drawn at them stay.
use Rattle.std.proofs.Common.{◌≡◌, ◌+◌, ℕ, Bool, true, false, not, cond, codes, List, [], ◌∷◌, ◌++◌, ◌||◌, length, map, fold, nat_eq, Option, Some, None, refl, sym, ap, subst, ◌∙◌, append_assoc, arith, if◌then◌else◌}
use Rattle.std.proofs.Common.{length-append}
use Rattle.std.specs.Cmp.{unsigned_Decides}
use Rattle.std.specs.List.{list_any, position_or_len}
use Rattle.std.specs.Prelude.{flat_map, ⊤}
use Rattle.std.proofs.lemmas.Grind.{flat_map-append}
use Rattle.std.proofs.lemmas.List.{append-nil, map-append}
use Rattle.std.proofs.lemmas.List.Sums.{fold-append}
use Rattle.sap_tell.specs.Stages.{Stage}
use Rattle.sap_tell.specs.ToldText.{thread_text}
use Rattle.sap_chart.specs.ChartText.{Lifeline, across, across_to, arrow_text, box_text, drawn_threads, figure_text, lifelines, mark_text, chart_text, named_threads, row_around, row_text, rows_text, with_lifeline}
use Rattle.sap_chart.specs.Rows.{Row, rows_with, shortened, threads_of}
use Rattle.sap_chart.specs.code.Drawing.{drawn_text, nobody, threads_in}
use Rattle.sap_chart.specs.declared.figure.Figure.{Figure}
use Rattle.sap_chart.specs.declared.figure.Figure.TheVariants as figure

-- the thread has a lifeline, and each of these has
abbrev pub HasLifeline : List Lifeline → ℕ → Type 0
HasLifeline ls t = list_any (nat_eq t) (drawn_threads ls) ≡ true

abbrev pub HaveLifelines : List Lifeline → List ℕ → Type 0
HaveLifelines ls [] = ⊤
HaveLifelines ls (t ∷ ts) = HasLifeline ls t × HaveLifelines ls ts

-- and each thread of these rows
abbrev pub AllDrawn : List Lifeline → List Row → Type 0
AllDrawn ls [] = ⊤
AllDrawn ls (r ∷ rs) = HaveLifelines ls (threads_of r.figure) × AllDrawn ls rs

any_front : (p : ℕ → Bool) (xs ys : List ℕ) → list_any p xs ≡ true → list_any p (xs ++ ys) ≡ true
any_front p [] ys h = cc
any_front p (x ∷ xs) ys h = at (p x) (any_front p xs ys) h where
  at : (b : Bool) → (list_any p xs ≡ true → list_any p (xs ++ ys) ≡ true) → (b || list_any p xs) ≡ true → (b || list_any p (xs ++ ys)) ≡ true
  at true f h = refl
  at false f h = f h

any_last : (p : ℕ → Bool) (xs : List ℕ) (x : ℕ) → p x ≡ true → list_any p (xs ++ x ∷ []) ≡ true
any_last p [] x h = rw h refl
any_last p (y ∷ ys) x h = at (p y) (any_last p ys x h) where
  at : (b : Bool) → list_any p (ys ++ x ∷ []) ≡ true → (b || list_any p (ys ++ x ∷ [])) ≡ true
  at true e = refl
  at false e = e

position_front : (p : ℕ → Bool) (xs ys : List ℕ) → list_any p xs ≡ true → position_or_len p (xs ++ ys) ≡ position_or_len p xs
position_front p [] ys h = cc
position_front p (x ∷ xs) ys h = at (p x) (position_front p xs ys) h where
  at : (b : Bool) → (list_any p xs ≡ true → position_or_len p (xs ++ ys) ≡ position_or_len p xs) → (b || list_any p xs) ≡ true
      → cond (not b) (1 + position_or_len p (xs ++ ys)) 0 ≡ cond (not b) (1 + position_or_len p xs) 0
  at true f h = refl
  at false f h = ap (λ n. 1 + n) (f h)

threads_append : (ls more : List Lifeline) → drawn_threads (ls ++ more) ≡ drawn_threads ls ++ drawn_threads more
threads_append ls more = map-append (λ (l : Lifeline). l.0) ls more

-- who has a lifeline keeps it, and its column
kept : (ls more : List Lifeline) (t : ℕ) → HasLifeline ls t → HasLifeline (ls ++ more) t
kept ls more t h = ap (list_any (nat_eq t)) (threads_append ls more) ∙ any_front (nat_eq t) (drawn_threads ls) (drawn_threads more) h

column_kept : (ls more : List Lifeline) (t : ℕ) → HasLifeline ls t → across_to (ls ++ more) t ≡ across_to ls t
column_kept ls more t h = ap (λ n. across (n + 1)) (ap (position_or_len (nat_eq t)) (threads_append ls more) ∙ position_front (nat_eq t) (drawn_threads ls) (drawn_threads more) h)

all_kept : (ls more : List Lifeline) (ts : List ℕ) → HaveLifelines ls ts → HaveLifelines (ls ++ more) ts
all_kept ls more [] h = tt
all_kept ls more (t ∷ ts) h = (kept ls more t h.0, all_kept ls more ts h.1)

rows_kept : (ls more : List Lifeline) (rs : List Row) → AllDrawn ls rs → AllDrawn (ls ++ more) rs
rows_kept ls more [] h = tt
rows_kept ls more (r ∷ rs) h = (all_kept ls more (threads_of r.figure) h.0, rows_kept ls more rs h.1)

all_drawn_more : (ls : List Lifeline) (rs more : List Row) → AllDrawn ls rs → AllDrawn ls more → AllDrawn ls (rs ++ more)
all_drawn_more ls [] more h k = k
all_drawn_more ls (r ∷ rs) more h k = (h.0, all_drawn_more ls rs more h.1 k)

-- what is drawn at columns that stay, stays
figure_kept : (ls more : List Lifeline) (f : Figure) (label : List ℕ) → HaveLifelines ls (threads_of f) → figure_text (ls ++ more) f label ≡ figure_text ls f label
figure_kept ls more (figure.Puts t) label h = ap (λ x. arrow_text x (across 0) label) (column_kept ls more t h.0)
figure_kept ls more (figure.Takes t) label h = ap (λ x. arrow_text (across 0) x label) (column_kept ls more t h.0)
figure_kept ls more (figure.Meets s t) label h = ap (λ x. arrow_text x (across_to (ls ++ more) t) label) (column_kept ls more s h.0) ∙ ap (λ x. arrow_text (across_to ls s) x label) (column_kept ls more t h.1.0)
figure_kept ls more (figure.Shows t) label h = ap (λ x. box_text x label) (column_kept ls more t h.0)
figure_kept ls more (figure.Stores t) label h = ap (λ x. mark_text x (codes "'/><rect x='-4' y='-4' width='8' height='8' fill='white' stroke='black'/><text x='12' y='4' xml:space='preserve'>") label) (column_kept ls more t h.0)
figure_kept ls more (figure.Locks t) label h = ap (λ x. mark_text x (codes "'/><rect x='-4' y='-4' width='8' height='8'/><text x='12' y='4' xml:space='preserve'>") label) (column_kept ls more t h.0)
figure_kept ls more (figure.Does t) label h = ap (λ x. mark_text x (codes "'/><circle r='4'/><text x='12' y='4' xml:space='preserve'>") label) (column_kept ls more t h.0)
figure_kept ls more figure.Makes label h = refl

texts_kept : (ls more : List Lifeline) (k : ℕ) (rs : List Row) → AllDrawn ls rs → rows_text (ls ++ more) k rs ≡ rows_text ls k rs
texts_kept ls more k [] h = refl
texts_kept ls more k (r ∷ rs) h = (λ i. row_around k r (figure_kept ls more r.figure (shortened 58 r.label) h.0 i) ++ texts_kept ls more (k + 1) rs h.1 i)

texts_append : (ls : List Lifeline) (k : ℕ) (rs more : List Row) → rows_text ls k (rs ++ more) ≡ rows_text ls k rs ++ rows_text ls (k + length rs) more
texts_append ls k [] more = let e : k ≡ k + length {A = Row} [] = omega arith in ap (λ n. rows_text ls n more) e
texts_append ls k (r ∷ rs) more =
    let e : k + 1 + length rs ≡ k + length (r ∷ rs) = omega arith in
    ap (λ z. row_text ls k r ++ z) (texts_append ls (k + 1) rs more)
    ∙ sym (append_assoc (row_text ls k r) (rows_text ls (k + 1) rs) (rows_text ls (k + 1 + length rs) more))
    ∙ ap (λ n. (row_text ls k r ++ rows_text ls (k + 1) rs) ++ rows_text ls n more) e

-- lifelines come behind those that are there
record Grown (ls ms : List Lifeline) : Type 0 where
  more : List Lifeline
  is : ms ≡ ls ++ more

one_grown : (ls : List Lifeline) (a : Lifeline) → Grown ls (with_lifeline ls a)
one_grown ls a = at (list_any (nat_eq a.0) (drawn_threads ls)) where
  at : (b : Bool) → Grown ls (if b then ls else ls ++ a ∷ [])
  at true = record { more = []; is = sym (append-nil ls) }
  at false = record { more = a ∷ []; is = refl }

all_grown : (ls news : List Lifeline) → Grown ls (fold with_lifeline ls news)
all_grown ls [] = record { more = []; is = sym (append-nil ls) }
all_grown ls (a ∷ news) =
    let h = one_grown ls a in
    let k = all_grown (with_lifeline ls a) news in
    record { more = h.more ++ k.more; is = k.is ∙ ap (λ z. z ++ k.more) h.is ∙ append_assoc ls h.more k.more }

one_has : (ls : List Lifeline) (a : Lifeline) → HasLifeline (with_lifeline ls a) a.0
one_has ls a = at (list_any (nat_eq a.0) (drawn_threads ls)) refl where
  at : (b : Bool) → list_any (nat_eq a.0) (drawn_threads ls) ≡ b → HasLifeline (if b then ls else ls ++ a ∷ []) a.0
  at true h = h
  at false h = ap (list_any (nat_eq a.0)) (threads_append ls (a ∷ [])) ∙ any_last (nat_eq a.0) (drawn_threads ls) a.0 ((unsigned_Decides a.0 a.0).1 refl)

all_have : (ls news : List Lifeline) → HaveLifelines (fold with_lifeline ls news) (drawn_threads news)
all_have ls [] = tt
all_have ls (a ∷ news) =
    let g = all_grown (with_lifeline ls a) news in
    (subst (λ (ms : List Lifeline). HasLifeline ms a.0) (sym g.is) (kept (with_lifeline ls a) g.more a.0 (one_has ls a)), all_have (with_lifeline ls a) news)

threads_named : (s : Stage) (ts : List ℕ) → drawn_threads (map (λ t. (t, thread_text s t)) ts) ≡ ts
threads_named s [] = refl
threads_named s (t ∷ ts) = ap (λ z. t ∷ z) (threads_named s ts)

-- so far these rows are drawn
pub record IsDrawing (ls : List Lifeline) (body : List ℕ) (count : ℕ) (rows : List Row) : Type 0 where
  pub lines : ls ≡ lifelines rows
  pub drawn : AllDrawn ls rows
  pub text : body ≡ rows_text ls 0 rows
  pub counted : count ≡ length rows

pub no_drawing : IsDrawing [] [] 0 []
no_drawing = record { lines = refl; drawn = tt; text = refl; counted = refl }

lifelines_more : (rows : List Row) (r : Row) → lifelines (rows ++ r ∷ []) ≡ fold with_lifeline (lifelines rows) (named_threads r)
lifelines_more rows r =
    ap (fold with_lifeline []) (flat_map-append named_threads rows (r ∷ []) ∙ ap (λ z. flat_map named_threads rows ++ z) (append-nil (named_threads r)))
    ∙ fold-append with_lifeline [] (flat_map named_threads rows) (named_threads r)

-- one more line, which has a row or hasn't
pub next_drawing : (ls ms : List Lifeline) (body text : List ℕ) (count n : ℕ) (rows : List Row) (number : ℕ) (stage : Stage) (entry : Option ℕ) (told label : List ℕ) (o : Option Figure)
    → IsDrawing ls body count rows → ms ≡ fold with_lifeline ls (threads_in stage o)
    → text ≡ body ++ rows_text ms count (rows_with number nobody entry told label o) → n ≡ count + length (rows_with number nobody entry told label o)
    → IsDrawing ms text n (rows ++ rows_with number stage entry told label o)
next_drawing ls ms body text count n rows number stage entry told label None h p q s =
    let same : n ≡ count = omega arith in
    let here : text ≡ body = q ∙ append-nil body in
    rw (append-nil rows) (subst (λ (zs : List Lifeline). IsDrawing zs text n rows) (sym p) (rw (same, here) h))
next_drawing ls ms body text count n rows number stage entry told label (Some f) h p q s =
    let r : Row = record { number = number; stage = stage; figure = f; entry = entry; told = told; label = label } in
    let g = all_grown ls (named_threads r) in
    let grown : ms ≡ ls ++ g.more = p ∙ g.is in
    let old : AllDrawn ms rows = subst (λ (zs : List Lifeline). AllDrawn zs rows) (sym grown) (rows_kept ls g.more rows h.drawn) in
    let here : HaveLifelines ms (threads_of f) = subst (λ (zs : List Lifeline). HaveLifelines zs (threads_of f)) (sym p) (subst (HaveLifelines (fold with_lifeline ls (named_threads r))) (threads_named stage (threads_of f)) (all_have ls (named_threads r))) in
    let before : body ≡ rows_text ms 0 rows = h.text ∙ sym (texts_kept ls g.more 0 rows h.drawn) ∙ ap (λ zs. rows_text zs 0 rows) (sym grown) in
    let at : count ≡ 0 + length rows = h.counted ∙ (omega arith) in
    record {
      lines = p ∙ ap (λ zs. fold with_lifeline zs (named_threads r)) h.lines ∙ sym (lifelines_more rows r);
      drawn = all_drawn_more ms rows (r ∷ []) old (here, tt);
      text = q ∙ (λ i. before i ++ rows_text ms (at i) (r ∷ [])) ∙ sym (texts_append ms 0 rows (r ∷ []));
      counted = s ∙ ap (λ k. k + 1) h.counted ∙ sym (length-append rows (r ∷ []));
    }

-- all rows are drawn: this is their chart
pub all_drawing : (ls : List Lifeline) (body : List ℕ) (count : ℕ) (rows : List Row) → IsDrawing ls body count rows → drawn_text ls count body ≡ chart_text rows
all_drawing ls body count rows h =
    ap (λ z. drawn_text ls count z) h.text ∙ ap (λ k. drawn_text ls k (rows_text ls 0 rows)) h.counted
    ∙ ap (λ zs. drawn_text zs (length rows) (rows_text zs 0 rows)) h.lines
