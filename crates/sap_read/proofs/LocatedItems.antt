-- Items with the words of their places: without these they are the items, and however they are spelled they are the same.
use Rattle.std.proofs.Common.{◌≡◌, ℕ, ◌+◌, true, false, List, [], ◌∷◌, ◌++◌, append_assoc, append-nil, length, drop, Some, None, refl, sym, ap, subst, ◌∙◌, arith, map}
use Rattle.std.specs.Prelude.{codes}
use Rattle.std.proofs.lemmas.List.{map-append, length-append, length-map}
use Rattle.sap_terms.specs.Signature.{Sig}
use Rattle.sap_text.specs.declared.token.Token.{Token}
use Rattle.sap_grammar.specs.Words.{Word, starts}
use Rattle.sap_grammar.specs.Reading.{name_at}
use Rattle.sap_grammar.specs.Cut.{Placed, placed, words, first_line, IsCut, cut_none, cut_one}
use Rattle.sap_grammar.specs.Items.{items_end, items_more}
use Rattle.sap_grammar.specs.ItemLaws.{ItemLaws}
use Rattle.sap_grammar.specs.ItemReading.{cut}
use Rattle.sap_grammar.specs.declared.limits.Limits.{Limits}
use Rattle.sap_draft.specs.ProcessGrammar.{IsPar, IsProcess}
use Rattle.sap_draft.specs.LocatedProcesses.{par_located}
use Rattle.sap_draft.specs.declared.limits.TheConstants.{FILE_LIMITS}
use Rattle.sap_macro.specs.Located.{Located, without_numbers}
use Rattle.sap_macro.specs.Written.{Written}
use Rattle.sap_statements.specs.Statements.{is_restriction, is_lemma}
use Rattle.sap_read.specs.Item.{Item, Body, Standing, body_of, bodies}
use Rattle.sap_read.specs.ItemGrammar.{HasParameters, IsItem, AreItems, item_builtins, item_functions, item_definition, item_process, item_statement}
use Rattle.sap_read.specs.LocatedItems.{LocatedBody, located_by, located_bodies, plain_body, word_count}
use Rattle.sap_read.specs.code.ItemView.{AreLeft}
use Rattle.sap_read.proofs.ItemsRead.{never_end}
use Rattle.sap_read.proofs.ReadParameters.{one_head}

-- what the laws of located processes say
abbrev pub ArePlain : Type 0
ArePlain = (g : Sig) (m : Limits) (n : ℕ) (p : Written) (a b : List Word) (r : IsPar g m p n a b) → without_numbers (par_located r) ≡ p

abbrev pub AreOne : Type 0
AreOne = (g : Sig) (m : Limits) (n k : ℕ) (p q : Written) (a : List Word) (r : IsPar g m p n a []) (s : IsPar g m q k a []) → par_located r ≡ par_located s

-- ---- without the numbers

plain_by : ArePlain → {g : Sig} {v : Item} {a : List Word} (r : IsItem g v a) (line n : ℕ) → map plain_body (located_by r line n) ≡ body_of v line
plain_by plain (item_builtins r) line n = refl
plain_by plain (item_functions r) line n = refl
plain_by plain {g = g} (item_definition {x = x} {xs = xs} {p = p} {b = b} h r) line n =
    ap (λ (w : Written). record { label = Some x; params = xs; content = w; line = line } ∷ []) (plain g FILE_LIMITS r.levels p b [] r.spelled)
plain_by plain {g = g} (item_process {p = p} {a = a} r) line n =
    ap (λ (w : Written). record { label = None; params = []; content = w; line = line } ∷ []) (plain g FILE_LIMITS r.levels p a [] r.spelled)
plain_by plain (item_statement r) line n = refl

pub plain_items : ArePlain → {g : Sig} {cut : List (List Placed)} {is : List Standing} (r : AreItems g cut is) → map plain_body (located_bodies r) ≡ bodies is
plain_items plain (items_end e) = refl
plain_items plain (items_more {i = i} {is = is} {v = v} {vs = vs} r rs) =
    map-append plain_body (located_by r (first_line i) (word_count is)) (located_bodies rs)
    ∙ ap (λ (bs : List Body). bs ++ map plain_body (located_bodies rs)) (plain_by plain r (first_line i) (word_count is))
    ∙ ap (λ (bs : List Body). body_of v (first_line i) ++ bs) (plain_items plain rs)

-- ---- however they are spelled

-- of a process behind the head of a definition
same_places : AreOne → {g : Sig} {p q : Written} {b c : List Word} → b ≡ c → (r : IsProcess g p b) (s : IsProcess g q c) → par_located r.spelled ≡ par_located s.spelled
same_places one {g = g} {p = p} {q = q} {b = b} e r s =
    subst (λ (w : List Word). (t : IsProcess g q w) → par_located r.spelled ≡ par_located t.spelled) e
    (λ t. one g FILE_LIMITS r.levels t.levels p q b r.spelled t.spelled) s

one_body : AreOne → {g : Sig} {u v : Item} {a : List Word} (r : IsItem g u a) (s : IsItem g v a) (line n : ℕ) → located_by r line n ≡ located_by s line n
one_body one (item_builtins r) (item_builtins s) line n = refl
one_body one (item_functions r) (item_functions s) line n = refl
one_body one (item_definition {x = x} {xs = xs} h r) (item_definition {xs = ys} k s) line n =
    let heads = one_head h k in
    let same = same_places one heads.1 r s in
    λ i. record { label = Some x; params = heads.0 i; content = same i; line = line; behind = n } ∷ []
one_body one (item_process r) (item_process s) line n =
    ap (λ (w : Located). record { label = None; params = []; content = w; line = line; behind = n } ∷ []) (same_places one refl r s)
one_body one (item_statement r) (item_statement s) line n = refl
one_body one (item_builtins r) (item_statement s) line n = elim s [ ]
one_body one (item_functions r) (item_statement s) line n = elim s [ ]
one_body one (item_definition h r) (item_statement s) line n = elim s [ ]
one_body one (item_process r) (item_statement s) line n = elim s [ ]
one_body one (item_statement r) (item_builtins s) line n = elim r [ ]
one_body one (item_statement r) (item_functions s) line n = elim r [ ]
one_body one (item_statement r) (item_definition h s) line n = elim r [ ]
one_body one (item_statement r) (item_process s) line n = elim r [ ]

pub one_place_each : AreOne → {g : Sig} {cut : List (List Placed)} {is js : List Standing} (r : AreItems g cut is) (s : AreItems g cut js) → located_bodies r ≡ located_bodies s
one_place_each one (items_end e) (items_end f) = refl
one_place_each one {g = g} (items_end {i = i} e) (items_more {v = v} s ss) = never_end g i v e s
one_place_each one {g = g} (items_more {i = i} {v = v} r rs) (items_end e) = never_end g i v e r
one_place_each one (items_more {i = i} {is = is} r rs) (items_more s ss) =
    let first = one_body one r s (first_line i) (word_count is) in
    let rest = one_place_each one rs ss in
    λ j. first j ++ rest j

-- ---- what is read

-- a definition says one thing of a process, with this name, these parameters and these places
pub definition_located : AreOne → (g : Sig) (ws : List Word) (x : List ℕ) (xs : List (List ℕ)) (b : List Word) (p : Written) (r : IsProcess g p b) (w : Located) (line n : ℕ)
    → starts (codes "let") ws ≡ true → name_at (drop 1 ws) ≡ Some x → HasParameters xs (drop 2 ws) b → par_located r.spelled ≡ w
    → (v : Item) (s : IsItem g v ws) → located_by s line n ≡ record { label = Some x; params = xs; content = w; line = line; behind = n } ∷ []
definition_located one g ws x xs b p r w line n l named h there v s = go l named h s
  where
    go : {u : Item} {a : List Word} → starts (codes "let") a ≡ true → name_at (drop 1 a) ≡ Some x → HasParameters xs (drop 2 a) b
        → (s : IsItem g u a) → located_by s line n ≡ record { label = Some x; params = xs; content = w; line = line; behind = n } ∷ []
    go l named h (item_builtins s) = absurd (cc)
    go l named h (item_functions s) = absurd (cc)
    go l named h (item_definition {x = y} {xs = ys} k s) =
        let heads = one_head k h in
        let same : par_located s.spelled ≡ w = same_places one heads.1 s r ∙ there in
        let name_is : y ≡ x = cc in
        λ i. record { label = Some (name_is i); params = heads.0 i; content = same i; line = line; behind = n } ∷ []
    go l named h (item_process s) = absurd (cc)
    go l named h (item_statement (is_restriction s)) = absurd (cc)
    go l named h (item_statement (is_lemma c d s)) = absurd (cc)

-- the item of the file's process too
pub process_located : AreOne → (g : Sig) (ws : List Word) (p : Written) (r : IsProcess g p (drop 2 ws)) (w : Located) (line n : ℕ)
    → starts (codes "process") ws ≡ true → par_located r.spelled ≡ w
    → (v : Item) (s : IsItem g v ws) → located_by s line n ≡ record { label = None; params = []; content = w; line = line; behind = n } ∷ []
process_located one g ws p r w line n l there v s = go l r there s
  where
    go : {u : Item} {a : List Word} → starts (codes "process") a ≡ true → (r : IsProcess g p (drop 2 a)) → par_located r.spelled ≡ w
        → (s : IsItem g u a) → located_by s line n ≡ record { label = None; params = []; content = w; line = line; behind = n } ∷ []
    go l r there (item_builtins s) = absurd (cc)
    go l r there (item_functions s) = absurd (cc)
    go l r there (item_definition k s) = absurd (cc)
    go l r there (item_process s) =
        ap (λ (y : Located). record { label = None; params = []; content = y; line = line; behind = n } ∷ []) (same_places one refl s r ∙ there)
    go l r there (item_statement (is_restriction s)) = absurd (cc)
    go l r there (item_statement (is_lemma c d s)) = absurd (cc)

-- an item that begins with neither word of processes says nothing
pub nothing_located : (g : Sig) (ws : List Word) (line n : ℕ) → starts (codes "let") ws ≡ false → starts (codes "process") ws ≡ false
    → (v : Item) (s : IsItem g v ws) → located_by s line n ≡ []
nothing_located g ws line n l p v s = go l p s
  where
    go : {u : Item} {a : List Word} → starts (codes "let") a ≡ false → starts (codes "process") a ≡ false → (s : IsItem g u a) → located_by s line n ≡ []
    go l p (item_builtins s) = refl
    go l p (item_functions s) = refl
    go l p (item_definition k s) = absurd (cc)
    go l p (item_process s) = absurd (cc)
    go l p (item_statement s) = refl

-- ---- pieces, and how many words they have

count_of_cut : {ps : List Placed} {is : List (List Placed)} → IsCut ps is → word_count is ≡ length ps
count_of_cut cut_none = refl
count_of_cut (cut_one p ps rest {items = items} a b r) =
    let more : word_count items ≡ length rest = count_of_cut r in
    let long : length (ps ++ rest) ≡ length ps + length rest = length-append ps rest in
    grind (arith, more, long)

pub count_of_tokens : ItemLaws → (z : List ℕ) (ts : List Token) → word_count (cut (placed z ts)) ≡ length ts
count_of_tokens laws z ts = count_of_cut (laws.is_cut (placed z ts)) ∙ length-map ts _

-- ---- turns of the loop over items

-- behind one item
more_left : {g : Sig} {i : List Placed} {more : List (List Placed)} {js : List Standing} (before places all : List LocatedBody) (v : Item) → IsItem g v (words i)
    → ((u : Item) (r : IsItem g u (words i)) → located_by r (first_line i) (word_count more) ≡ places)
    → (r : AreItems g (i ∷ more) js) → all ≡ before ++ located_bodies r → AreLeft g more (before ++ places) all
more_left {g = g} {i = i} before places all v is are (items_end e) there = never_end g i v e is
more_left before places all v is are (items_more {v = u} {vs = vs} r rs) there = record {
  standing = vs;
  items = rs;
  all_is = there ∙ ap (λ (bs : List LocatedBody). before ++ (bs ++ located_bodies rs)) (are u r) ∙ sym (append_assoc before places (located_bodies rs));
}

pub left_more : {g : Sig} {i : List Placed} {more : List (List Placed)} (before places all : List LocatedBody) (v : Item) → IsItem g v (words i)
    → ((u : Item) (r : IsItem g u (words i)) → located_by r (first_line i) (word_count more) ≡ places)
    → AreLeft g (i ∷ more) before all → AreLeft g more (before ++ places) all
left_more before places all v is are left = more_left before places all v is are left.items left.all_is

nothing_behind : {A : Type 0} {g : Sig} {js : List Standing} → AreItems g [] js → A
nothing_behind r = elim r [ ]

-- behind the last one
none_left : {g : Sig} {i : List Placed} {js : List Standing} (before all : List LocatedBody) → (r : AreItems g (i ∷ []) js) → all ≡ before ++ located_bodies r → all ≡ before
none_left before all (items_end e) there = there ∙ append-nil before
none_left before all (items_more r rs) there = nothing_behind rs

pub left_none : {g : Sig} {i : List Placed} (before all : List LocatedBody) → AreLeft g (i ∷ []) before all → all ≡ before
left_none before all left = none_left before all left.items left.all_is
