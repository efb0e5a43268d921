-- What is parted into items is the words of a file, and such words are parted so; so a file in which a piece is no item isn't one.
use Rattle.std.proofs.Common.{◌≡◌, ℕ, Bool, true, false, List, [], ◌∷◌, ◌++◌, Option, Some, None, Ok, Err, refl, sym, ap, subst, ◌∙◌}
use Rattle.std.specs.Prelude.{codes, ⊤, if◌then◌else◌, option_map, Result}
use Rattle.sap_text.specs.declared.fault.Lex.{Lex}
use Rattle.sap_text.specs.declared.token.Token.{Token}
use Rattle.sap_text.specs.Tokens.{IsLexed, Lexed}
use Rattle.sap_terms.specs.Signature.{Sig, pairs_alone}
use Rattle.sap_grammar.specs.Cut.{AreNoItemWords, IsCut, IsHeader, NoItemWord, Placed, StartsItem, cut_none, cut_one, is_item_word, placed, words}
use Rattle.sap_grammar.specs.Items.{bad_item, items_end, items_more, later_item, no_end}
use Rattle.sap_grammar.specs.Signatures.{clash_from}
use Rattle.sap_grammar.specs.Words.{Word, mark, name, words_of}
use Rattle.sap_grammar.proofs.ReadingLaws.Tokens.{words_placed}
use Rattle.sap_locks.specs.Annotation.{over, without}
use Rattle.sap_statements.specs.Statements.{is_lemma, is_restriction}
use Rattle.sap_statements.specs.declared.statement.Statement.{Statement}
use Rattle.sap_uses.specs.declared.fault.MacroFault.{MacroFault}
use Rattle.sap_uses.specs.declared.fault.MacroFault.TheVariants as uses
use Rattle.sap_terms.specs.declared.limits.TheConstants.{MOST_FILE_NAME_BYTES}
use Rattle.sap_read.specs.Causes.{cause_of, causes, fault_of_uses, first_of}
use Rattle.sap_read.specs.Files.{AreTokens, FileContent, IsParted, IsRead, accepted, ill, locked, no_header, no_item, no_tokens, refused, unchecked, unexpanded}
use Rattle.sap_read.specs.Item.{Body, Item, Standing, bodies, declarations, statements}
use Rattle.sap_read.specs.ItemGrammar.{AreItems, IsFaultyFile, IsItem, IsSomeItem, item_builtins, item_definition, item_functions, item_process, item_statement}
use Rattle.sap_read.specs.declared.fault.ReadFault.{ReadFault}
use Rattle.sap_read.specs.declared.fault.ReadFault.TheVariants.{Arguments, DuplicateName, Flawed, Formula, FunctionClash, Header, Ill, Large, Lex as LexFault, Lock, Mem, NoProcess, Parameters, Syntax, TooDeep, TooMany, TwoProcesses, UnknownProcess}
use Rattle.sap_expect.specs.FileWords.{AreItemWords, AreSomeItems, IsFileWords, one_item, only_end, some_end, some_more}
use Rattle.sap_expect.proofs.FreeItems.{BeginsOne, begins_one}

words-append : (ps qs : List Placed) → words (ps ++ qs) ≡ words ps ++ words qs
words-append [] qs = refl
words-append (p ∷ ps) qs = ap (λ (x : List Word). p.word ∷ x) (words-append ps qs)

cut_nothing : {ps : List Placed} {cut : List (List Placed)} → IsCut ps cut → ◌≡◌ {A = List (List Placed)} cut [] → ps ≡ []
cut_nothing cut_none e = refl
cut_nothing (cut_one p ps rest never s c) e = absurd (cc)

no_pieces : {cut : List (List Placed)} → AreSomeItems cut → ◌≡◌ {A = List (List Placed)} cut [] → ⊥
no_pieces (some_end e) same = absurd (cc)
no_pieces (some_more s q) same = absurd (cc)

-- items under one signature
pub some_of : {g : Sig} {cut : List (List Placed)} {is : List Standing} → AreItems g cut is → AreSomeItems cut
some_of (items_end e) = some_end e
some_of {g = g} (items_more {v = v} s q) = some_more (record { sig = g; item = v; is = s }) (some_of q)

-- what is cut into items, and `end`
are_words : {ps : List Placed} {cut : List (List Placed)} → IsCut ps cut → AreSomeItems cut → AreItemWords (words ps)
are_words cut_none h = absurd (no_pieces h refl)
are_words (cut_one p ps rest never starts c) (some_end e) =
    let none : words rest ≡ [] = ap words (cut_nothing c refl) in
    let all : words ((p ∷ ps) ++ rest) ≡ mark (codes "end") ∷ [] =
    words-append (p ∷ ps) rest ∙ (ap (λ (x : List Word). x ++ words rest) e ∙ ap (λ (x : List Word). mark (codes "end") ∷ x) none) in
    subst AreItemWords (sym all) only_end
are_words (cut_one p ps rest never starts c) (some_more s q) =
    subst AreItemWords (sym (words-append (p ∷ ps) rest)) (one_item s (are_words c q))

pub file_words : (z : List ℕ) (ts : List Token) (x : List ℕ) (cut : List (List Placed)) → IsParted z ts x cut → AreSomeItems cut → IsFileWords (words_of z ts)
file_words z ts x cut p h = record {
  name_of = x;
  items = words p.rest;
  header = sym (words_placed z ts) ∙ ap words p.header.spelled;
  are = are_words p.items h;
}

-- no item is `end` alone
no_end_item : {g : Sig} {i : Item} {a : List Word} → IsItem g i a → a ≡ mark (codes "end") ∷ [] → ⊥
no_end_item (item_builtins r) e = absurd (cc (e))
no_end_item (item_functions r) e = absurd (cc (e))
no_end_item (item_definition s q) e = absurd (cc (e))
no_end_item (item_process q) e = absurd (cc (e))
no_end_item (item_statement (is_restriction r)) e = absurd (cc (e))
no_end_item (item_statement (is_lemma r s t)) e = absurd (cc (e))

none_faulty : {last line : ℕ} {cut : List (List Placed)} → IsFaultyFile last cut line → AreSomeItems cut → ⊥
none_faulty no_end h = no_pieces h refl
none_faulty (bad_item never more) (some_end e) = more e refl
none_faulty (bad_item never more) (some_more s q) = never s
none_faulty (later_item s f) (some_end e) = no_end_item s.is e
none_faulty (later_item s f) (some_more t q) = none_faulty f q

-- words that are two lists of words, one behind the other
record Split (ps : List Placed) (u a : List Word) : Type 0 where
  pub front : List Placed
  pub behind : List Placed
  pub is : ps ≡ front ++ behind
  pub front_is : words front ≡ u
  pub behind_is : words behind ≡ a

split : (ps : List Placed) (u a : List Word) → words ps ≡ u ++ a → Split ps u a
split ps [] a e = record { front = []; behind = ps; is = refl; front_is = refl; behind_is = e }
split [] (w ∷ u) a e = absurd (cc (e))
split (p ∷ ps) (w ∷ u) a e =
    let first : p.word ≡ w = cc (e) in
    let next : words ps ≡ u ++ a = cc (e) in
    let s = split ps u a next in
    record { front = p ∷ s.front; behind = s.behind; is = ap (λ (x : List Placed). p ∷ x) s.is; front_is = λ i. first i ∷ s.front_is i; behind_is = s.behind_is }

no_words : (ps : List Placed) → AreNoItemWords (words ps) → NoItemWord ps
no_words [] h = tt
no_words (p ∷ ps) h = (h.0, no_words ps h.1)

-- these words are cut into items
record HasCut (ps : List Placed) : Type 0 where
  pub cut : List (List Placed)
  pub is : IsCut ps cut
  pub items : AreSomeItems cut
  pub starts : StartsItem ps

end_cut : (ps : List Placed) → words ps ≡ mark (codes "end") ∷ [] → HasCut ps
end_cut [] e = absurd (cc (e))
end_cut (p ∷ []) e =
    let first : p.word ≡ mark (codes "end") = cc (e) in
    record { cut = (p ∷ []) ∷ []; is = cut_one p [] [] tt tt cut_none; items = some_end e; starts = ap is_item_word first }
end_cut (p ∷ q ∷ ps) e = absurd (cc (e))

item_cut : {u : List Word} → BeginsOne u → IsSomeItem u → (front behind : List Placed) → words front ≡ u → HasCut behind → HasCut (front ++ behind)
item_cut (begins_one i n) s [] behind e h = absurd (cc (e))
item_cut (begins_one {w = w} {ws = ws} i n) s (p ∷ front) behind e h =
    let first : p.word ≡ w = cc (e) in
    let others : words front ≡ ws = cc (e) in
    record {
      cut = (p ∷ front) ∷ h.cut;
      is = cut_one p front behind (no_words front (subst AreNoItemWords (sym others) n)) h.starts h.is;
      items = some_more (subst IsSomeItem (sym e) s) h.items;
      starts = ap is_item_word first ∙ i;
    }

module _ (free : (g : Sig) (i : Item) (a : List Word) → IsItem g i a → BeginsOne a) where
  cut_of : {a : List Word} → AreItemWords a → (ps : List Placed) → words ps ≡ a → HasCut ps
  cut_of only_end ps e = end_cut ps e
  cut_of (one_item {u = u} {a = a} s q) ps e =
      let b = split ps u a e in
      subst (λ (x : List Placed). HasCut x) (sym b.is) (item_cut (free s.sig s.item u s.is) s b.front b.behind b.front_is (cut_of q b.behind b.behind_is))

-- words that begin with a header do so on their lines
record HasHeader (x : List ℕ) (ps : List Placed) (items : List Word) : Type 0 where
  pub rest : List Placed
  pub header : IsHeader x ps rest
  pub words_are : words rest ≡ items

header_of : (x : List ℕ) (ps : List Placed) (items : List Word) → words ps ≡ mark (codes "theory") ∷ name x ∷ mark (codes "begin") ∷ items → HasHeader x ps items
header_of x [] items e = absurd (cc (e))
header_of x (p ∷ []) items e = absurd (cc (e))
header_of x (p ∷ q ∷ []) items e = absurd (cc (e))
header_of x (p ∷ q ∷ r ∷ ps) items e =
    let first : p.word ≡ mark (codes "theory") = cc (e) in
    let second : q.word ≡ name x = cc (e) in
    let third : r.word ≡ mark (codes "begin") = cc (e) in
    let others : words ps ≡ items = cc (e) in
    record {
      rest = ps;
      header = record {
        theory_line = p.line;
        name_line = q.line;
        begin_line = r.line;
        spelled = λ i. record { word = first i; line = p.line } ∷ record { word = second i; line = q.line } ∷ record { word = third i; line = r.line } ∷ ps;
      };
      words_are = others;
    }

-- of two headers the words behind are the same
one_rest : {x y : List ℕ} {ps rest others : List Placed} → IsHeader x ps rest → IsHeader y ps others → rest ≡ others
one_rest h k =
    let same = sym h.spelled ∙ k.spelled in
    cc (same)

-- a refusal, once the items of a file are read
abbrev behind_items : ReadFault → Bool
behind_items Mem = true
behind_items (LexFault f) = false
behind_items Header = false
behind_items (Syntax n) = false
behind_items NoProcess = true
behind_items (TwoProcesses n) = true
behind_items (UnknownProcess x) = true
behind_items (DuplicateName x) = true
behind_items (FunctionClash x) = true
behind_items (Parameters x) = true
behind_items (Arguments x) = true
behind_items TooMany = true
behind_items TooDeep = true
behind_items (Large x) = true
behind_items (Flawed x w p) = true
behind_items (Ill w p) = true
behind_items (Lock f) = true
behind_items (Formula x f) = true

abbrev is_behind : Result FileContent ReadFault → Bool
is_behind (Ok f) = true
is_behind (Err e) = behind_items e

-- so of one that there may be, and of each
abbrev IsBehind : Option ReadFault → Type 0
IsBehind None = ⊤
IsBehind (Some e) = behind_items e ≡ true

abbrev AreBehind : List (Option ReadFault) → Type 0
AreBehind [] = ⊤
AreBehind (o ∷ os) = IsBehind o × AreBehind os

first_behind : (os : List (Option ReadFault)) → AreBehind os → IsBehind (first_of os)
first_behind [] h = tt
first_behind (None ∷ os) h = first_behind os h.1
first_behind (Some e ∷ os) h = h.0

behind_if : (b : Bool) (e : ReadFault) → behind_items e ≡ true → IsBehind (if b then Some e else None)
behind_if true e h = h
behind_if false e h = tt

behind_map : {A : Type 0} (f : A → ReadFault) (o : Option A) → ((x : A) → behind_items (f x) ≡ true) → IsBehind (option_map f o)
behind_map f None h = tt
behind_map f (Some x) h = h x

causes_behind : (bs : List Body) (ss : List Statement) (o : Option (List ℕ)) → AreBehind (causes bs ss o)
causes_behind bs ss o = (
  behind_if _ NoProcess refl,
  (
    behind_map (λ (b : Body). TwoProcesses b.line) _ (λ b. refl),
    (
      behind_map UnknownProcess _ (λ x. refl),
      (behind_map DuplicateName _ (λ x. refl), (behind_map DuplicateName _ (λ x. refl), (behind_map FunctionClash o (λ x. refl), tt))),
    ),
  ),
)

cause_behind : (is : List Standing) (e : ReadFault) → cause_of is ≡ Some e → behind_items e ≡ true
cause_behind is e c =
    let o = clash_from pairs_alone (declarations is) in
    subst IsBehind c (first_behind (causes (bodies is) (statements is) o) (causes_behind (bodies is) (statements is) o))

uses_behind : (f : MacroFault) → behind_items (fault_of_uses f) ≡ true
uses_behind uses.Mem = refl
uses_behind (uses.Parameters x) = refl
uses_behind (uses.Arguments x) = refl
uses_behind uses.TooMany = refl
uses_behind uses.TooDeep = refl
uses_behind (uses.Large x) = refl
uses_behind (uses.Flawed x w p) = refl

-- how far bytes are read
data HowFar (z : List ℕ) : Result FileContent ReadFault → Type 0 where
  at_bytes : {f : Lex} → IsLexed MOST_FILE_NAME_BYTES 0 1 z (Err f) → HowFar z (Err (LexFault f))
  at_header : HowFar z (Err Header)
  at_piece : {ts : List Token} {x : List ℕ} {cut : List (List Placed)} {last line : ℕ} → IsParted z ts x cut → IsFaultyFile last cut line → HowFar z (Err (Syntax line))
  behind : {ts : List Token} {x : List ℕ} {cut : List (List Placed)} {g : Sig} {is : List Standing} {o : Result FileContent ReadFault} → IsParted z ts x cut → AreItems g cut is
      → is_behind o ≡ true → HowFar z o

how_far : {z : List ℕ} {o : Result FileContent ReadFault} → IsRead z o → HowFar z o
how_far (no_tokens l) = at_bytes l
how_far (no_header a n) = at_header
how_far (no_item p f) = at_piece p f
how_far (refused {is = is} {e = e} p a c) = behind p a (cause_behind is e c)
how_far (unexpanded {f = f} p a c u) = behind p a (uses_behind f)
how_far (ill p a c q f) = behind p a refl
how_far (locked {w = without} p a c q w f) = behind p a refl
how_far (locked {w = over} p a c q w f) = behind p a refl
how_far (unchecked p a c q w n f) = behind p a refl
how_far (accepted p a c q w n f) = behind p a refl

module _ (free : (g : Sig) (i : Item) (a : List Word) → IsItem g i a → BeginsOne a)
    (one_cut : (ps : List Placed) (is js : List (List Placed)) → IsCut ps is → IsCut ps js → is ≡ js)
    (one_answer : (most : ℕ) (z : List ℕ) (o u : Lexed) → IsLexed most 0 1 z o → IsLexed most 0 1 z u → o ≡ u) where
  pub words_parted : (z : List ℕ) (ts : List Token) → AreTokens z ts → IsFileWords (words_of z ts) → (x : List ℕ) × (cut : List (List Placed)) × IsParted z ts x cut × AreSomeItems cut
  words_parted z ts t w =
      let h = header_of w.name_of (placed z ts) w.items (words_placed z ts ∙ w.header) in
      let c = cut_of free w.are h.rest h.words_are in
      (w.name_of, c.cut, record { tokens = t; rest = h.rest; header = h.header; items = c.is }, c.items)

  one_tokens : (z : List ℕ) (ts us : List Token) → AreTokens z ts → AreTokens z us → ts ≡ us
  one_tokens z ts us a b =
      let same : ◌≡◌ {A = Lexed} (Ok ts) (Ok us) = one_answer MOST_FILE_NAME_BYTES z (Ok ts) (Ok us) a b in
      cc (same)

  piece_refused : {z : List ℕ} {ts us : List Token} {x : List ℕ} {cut : List (List Placed)} {last line : ℕ} → IsParted z us x cut → IsFaultyFile last cut line → AreTokens z ts
      → IsFileWords (words_of z ts) → ⊥
  piece_refused {z = z} {ts = ts} {us = us} {cut = cut} {last = last} {line = line} p f t w =
      let same = one_tokens z ts us t p.tokens in
      let q = words_parted z us p.tokens (subst (λ (vs : List Token). IsFileWords (words_of z vs)) same w) in
      let pieces : cut ≡ q.1 = one_cut p.rest cut q.1 p.items (subst (λ (ps : List Placed). IsCut ps q.1) (one_rest q.2.header p.header) q.2.items) in
      none_faulty (subst (λ (c : List (List Placed)). IsFaultyFile last c line) pieces f) q.3

  -- a file that is refused for a piece isn't such words
  pub not_of_refused : (z : List ℕ) (ts : List Token) (line : ℕ) → AreTokens z ts → IsRead z (Err (Syntax line)) → IsFileWords (words_of z ts) → ⊥
  not_of_refused z ts line t r w = by (how_far r) refl
    where
      by : {o : Result FileContent ReadFault} → HowFar z o → o ≡ Err (Syntax line) → ⊥
      by (at_bytes l) e = absurd (cc (e))
      by at_header e = absurd (cc (e))
      by (at_piece p f) e = piece_refused p f t w
      by (behind p a b) e =
          let never : false ≡ true = subst (λ (o : Result FileContent ReadFault). is_behind o ≡ true) e b in
          absurd (cc (never))

  -- one that is refused neither for its header nor for a piece, nor for its bytes, is
  pub of_read : (z : List ℕ) (ts : List Token) (o : Result FileContent ReadFault) → AreTokens z ts → IsRead z o → (o ≡ Err Header → ⊥) → ((line : ℕ) → o ≡ Err (Syntax line) → ⊥)
      → IsFileWords (words_of z ts)
  of_read z ts o t r header piece = by (how_far r) header piece
    where
      by : {o : Result FileContent ReadFault} → HowFar z o → (o ≡ Err Header → ⊥) → ((line : ℕ) → o ≡ Err (Syntax line) → ⊥) → IsFileWords (words_of z ts)
      by (at_bytes {f = f} l) h n =
          let clash : ◌≡◌ {A = Lexed} (Err f) (Ok ts) = one_answer MOST_FILE_NAME_BYTES z (Err f) (Ok ts) l t in
          absurd (cc (clash))
      by at_header h n = absurd (h refl)
      by (at_piece p f) h n = absurd (n _ refl)
      by (behind {ts = us} {x = x} {cut = cut} p a b) h n =
          subst (λ (vs : List Token). IsFileWords (words_of z vs)) (one_tokens z us ts p.tokens t) (file_words z us x cut p (some_of a))
