-- The text of a chart, from its rows: a picture of the format SVG 1.1. Lengths are in pixels.
use Rattle.std.specs.Prelude.{ℕ, Bool, not, take, ◌==◌, ◌+◌, ◌-◌, ◌*◌, nat_eq, nat_lt, codes, decimal, List, [], ◌∷◌, ◌++◌, length, map, flat_map, fold, min, max, Option, Some, None, if◌then◌else◌}
use Rattle.std.specs.List.{list_any, position_or_len, prefix_len}
use Rattle.sap_tell.specs.Escaped.{escaped}
use Rattle.sap_tell.specs.ToldText.{thread_text}
use Rattle.sap_chart.specs.Rows.{Row, threads_of, shortened}
use Rattle.sap_chart.specs.declared.figure.Figure.{Figure}
use Rattle.sap_chart.specs.declared.figure.Figure.TheVariants as figure

-- a thread by its number, and its name: what it is called, and where it stands
abbrev pub Lifeline : Type 0
Lifeline = ℕ × List ℕ

-- the threads of a row, with their names
abbrev pub named_threads : Row → List Lifeline
named_threads r = map (λ t. (t, thread_text r.stage t)) (threads_of r.figure)

-- the threads that have these lifelines
abbrev pub drawn_threads : List Lifeline → List ℕ
drawn_threads ls = map (λ (l : Lifeline). l.0) ls

-- the lifelines, and this one, unless the thread has one
abbrev pub with_lifeline : List Lifeline → Lifeline → List Lifeline
with_lifeline ls a = if list_any (nat_eq a.0) (drawn_threads ls) then ls else ls ++ a ∷ []

-- each thread that does something once, in the order of what they first do, by its name then
abbrev pub lifelines : List Row → List Lifeline
lifelines rows = fold with_lifeline [] (flat_map named_threads rows)

-- how far right a column stands, the adversary's being 0, and which is a thread's
abbrev pub across : ℕ → ℕ
across column = 220 + 160 * column

abbrev pub column_of : List Lifeline → ℕ → ℕ
column_of ls t = position_or_len (nat_eq t) (drawn_threads ls) + 1

abbrev pub across_to : List Lifeline → ℕ → ℕ
across_to ls t = across (column_of ls t)

-- how far down a row stands
abbrev pub down : ℕ → ℕ
down k = 70 + 30 * k

-- what stands of a name before a blank and a parenthesis, or all of it: of a thread with a role which one of the role it is
abbrev pub opens_none : ℕ → Bool
opens_none x = not (x == 40)

abbrev pub head_of : List ℕ → List ℕ
head_of name = if nat_lt (prefix_len opens_none name) (length name) then take (prefix_len opens_none name - 1) name else name

-- a lifeline with this above it, and its name whole in its title
abbrev pub head_text : ℕ → List ℕ → List ℕ
head_text column name =
    codes "<g transform='translate(" ++ (decimal (across column) ++ (codes ",0)'><title>" ++ (escaped name
    ++ (codes "</title><line y1='32' y2='100%' stroke='black' stroke-dasharray='2,4'/><text y='24' text-anchor='middle'>"
    ++ (escaped (shortened 18 (head_of name)) ++ codes "</text></g>\n")))))

abbrev pub heads_text : ℕ → List Lifeline → List ℕ
heads_text column [] = []
heads_text column (l ∷ ls) = head_text column l.1 ++ heads_text (column + 1) ls

-- who acts in a figure
abbrev pub who_text : Figure → List ℕ
who_text (figure.Puts t) = codes "thread " ++ decimal t
who_text (figure.Takes t) = codes "thread " ++ decimal t
who_text (figure.Meets s t) = codes "thread " ++ (decimal s ++ (codes " to " ++ decimal t))
who_text (figure.Shows t) = codes "thread " ++ decimal t
who_text (figure.Stores t) = codes "thread " ++ decimal t
who_text (figure.Locks t) = codes "thread " ++ decimal t
who_text (figure.Does t) = codes "thread " ++ decimal t
who_text figure.Makes = codes "adversary"

-- the number of the line and who acts, on the left; and the number of the entry that is known from then on, left of the adversary
abbrev pub margin_text : ℕ → Figure → List ℕ
margin_text number f = codes "<text x='10' y='4'>" ++ (decimal number ++ (codes ". " ++ (who_text f ++ codes "</text>")))

abbrev pub entry_text : Option ℕ → List ℕ
entry_text None = []
entry_text (Some k) = codes "<text x='212' y='4' text-anchor='end'>knows " ++ (decimal k ++ codes "</text>")

-- A label on a ground of its own, so far right; what stands between its place and the width of the ground, and between this width and
-- its text, tells how.
abbrev pub label_text : ℕ → List ℕ → List ℕ → List ℕ → List ℕ
label_text x backing behind label =
    codes "<g transform='translate(" ++ (decimal x ++ (backing ++ (decimal (7 * length label + 8) ++ (behind ++ (escaped label ++ codes "</text></g>")))))

-- a label above an arrow
abbrev pub above_text : ℕ → List ℕ → List ℕ
above_text x label = label_text x (codes ",0)'><rect x='8' y='-18' height='13' fill='white' width='") (codes "'/><text x='12' y='-7' xml:space='preserve'>") label

-- the label of an arrow from so far left to so far right once more at the right, where the arrow goes over more than eight columns
abbrev pub again_text : ℕ → ℕ → List ℕ → List ℕ
again_text left right label = if nat_lt 1280 (right - left) then above_text (right - (7 * length label + 24)) label else []

-- an arrow from the one to the other, with its label above it
abbrev pub arrow_text : ℕ → ℕ → List ℕ → List ℕ
arrow_text from to label =
    codes "<line x1='" ++ (decimal from ++ (codes "' x2='" ++ (decimal to ++ (codes "' stroke='black' marker-end='url(#arrow)'/>"
    ++ (above_text (min from to) label ++ again_text (min from to) (max from to) label)))))

-- a label in a box
abbrev pub box_text : ℕ → List ℕ → List ℕ
box_text x label = label_text x (codes ",0)'><rect x='-4' y='-9' height='18' fill='white' stroke='black' width='") (codes "'/><text y='4' xml:space='preserve'>") label

-- a mark with a label on its right
abbrev pub mark_text : ℕ → List ℕ → List ℕ → List ℕ
mark_text x mark label = label_text x (codes ",0)'><rect x='8' y='-8' height='16' fill='white' width='") mark label

-- marks: a white square at the store, a black one at a lock, a black circle at what else a thread does, a white one at what the
-- adversary does
abbrev pub figure_text : List Lifeline → Figure → List ℕ → List ℕ
figure_text ls (figure.Puts t) label = arrow_text (across_to ls t) (across 0) label
figure_text ls (figure.Takes t) label = arrow_text (across 0) (across_to ls t) label
figure_text ls (figure.Meets s t) label = arrow_text (across_to ls s) (across_to ls t) label
figure_text ls (figure.Shows t) label = box_text (across_to ls t) label
figure_text ls (figure.Stores t) label = mark_text (across_to ls t) (codes "'/><rect x='-4' y='-4' width='8' height='8' fill='white' stroke='black'/><text x='12' y='4' xml:space='preserve'>") label
figure_text ls (figure.Locks t) label = mark_text (across_to ls t) (codes "'/><rect x='-4' y='-4' width='8' height='8'/><text x='12' y='4' xml:space='preserve'>") label
figure_text ls (figure.Does t) label = mark_text (across_to ls t) (codes "'/><circle r='4'/><text x='12' y='4' xml:space='preserve'>") label
figure_text ls figure.Makes label = mark_text (across 0) (codes "'/><circle r='4' fill='white' stroke='black'/><text x='12' y='4' xml:space='preserve'>") label

-- a row round what is drawn in it, with the told line whole in its title
abbrev pub row_around : ℕ → Row → List ℕ → List ℕ
row_around k r drawn =
    codes "<g transform='translate(0," ++ (decimal (down k) ++ (codes ")'><title>" ++ (escaped r.told ++ (codes "</title>"
    ++ (margin_text r.number r.figure ++ (entry_text r.entry ++ (drawn ++ codes "</g>\n")))))))

abbrev pub row_text : List Lifeline → ℕ → Row → List ℕ
row_text ls k r = row_around k r (figure_text ls r.figure (shortened 58 r.label))

-- the rows, the first so far down
abbrev pub rows_text : List Lifeline → ℕ → List Row → List ℕ
rows_text ls k [] = []
rows_text ls k (r ∷ rs) = row_text ls k r ++ rows_text ls (k + 1) rs

-- what stands first: how wide and high the picture is, for so many threads and rows, its title, the head of an arrow, and a white ground
abbrev pub start_text : ℕ → ℕ → List ℕ
start_text threads rows =
    codes "<svg xmlns='http://www.w3.org/2000/svg' version='1.1' font-family='monospace' font-size='11' width='" ++ (decimal (across threads + 450) ++ (codes "' height='"
    ++ (decimal (down rows) ++ codes "'>\n<title>Chart of a run</title>\n<defs><marker id='arrow' viewBox='0 0 8 8' refX='8' refY='4' markerWidth='8' markerHeight='8' orient='auto'><path d='M0,0 L8,4 L0,8 z'/></marker></defs>\n<rect width='100%' height='100%' fill='white'/>\n")))

-- the chart of rows
abbrev pub chart_text : List Row → List ℕ
chart_text rows =
    let ls = lifelines rows in
    start_text (length ls) (length rows) ++ (head_text 0 (codes "adversary") ++ (heads_text 1 ls ++ (rows_text ls 0 rows ++ codes "</svg>\n")))
