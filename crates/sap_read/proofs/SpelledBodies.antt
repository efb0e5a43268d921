-- The words of a file that spell its processes.
use Rattle.std.proofs.Common.{◌≡◌, ◌≤◌, ℕ, zero, suc, ◌+◌, ◌-◌, List, [], ◌∷◌, ◌++◌, append_assoc, length, take, drop, Some, None, inl, inr, refl, sym, ap, subst, ◌∙◌, arith}
use Rattle.std.specs.Prelude.{◌⊎◌, Contains, codes}
use Rattle.std.proofs.lemmas.List.Elements.{Contains-append_cases}
use Rattle.std.proofs.Math.Seq.{take-append_seam, drop-append_seam}
use Rattle.std.proofs.lemmas.List.{length-append, length-drop, take-append-drop, length-map, map-append}
use Rattle.sap_terms.specs.Signature.{Sig}
use Rattle.sap_text.specs.declared.token.Token.{Token}
use Rattle.sap_grammar.specs.Words.{Word, mark, name, words_of}
use Rattle.sap_grammar.specs.Cut.{Placed, words, first_line, IsCut, cut_none, cut_one}
use Rattle.sap_grammar.specs.Items.{items_end, items_more}
use Rattle.sap_grammar.proofs.ReadingLaws.Tokens.{words_placed}
use Rattle.sap_draft.specs.LocatedProcesses.{par_located}
use Rattle.sap_draft.specs.ProcessGrammar.{IsProcess}
use Rattle.sap_macro.specs.Written.{Written}
use Rattle.sap_read.specs.Files.{IsParted}
use Rattle.sap_read.specs.Item.{Item, Standing}
use Rattle.sap_read.specs.ItemGrammar.{AreItems, AreParameters, HasParameters, IsItem, parameters_last, parameters_more, without_parameters, with_parameters, item_builtins, item_functions, item_definition, item_process, item_statement}
use Rattle.sap_read.specs.LocatedItems.{LocatedBody, located_bodies, located_by, word_count}
use Rattle.sap_read.specs.SpelledBodies.{IsSpelledIn, item_end}

-- ---- the last words of what stands between

-- the last k words of b, behind which r is
pub last_of : (ws f b r : List Word) (k : ℕ) → ws ≡ f ++ (b ++ r) → k ≤ length b → item_end ws k (length r) ≡ drop (length b - k) b
last_of ws f b r k is few =
    let n = length b - k in
    let early = take n b in
    let late = drop n b in
    let split : ws ≡ (f ++ early) ++ (late ++ r) = is ∙ ap (λ (v : List Word). f ++ (v ++ r)) (sym (take-append-drop n b)) ∙ ap (λ (v : List Word). f ++ v) (append_assoc early late r) ∙ sym (append_assoc f early (late ++ r)) in
    let late_is : length late ≡ k = length-drop n b ∙ omega (arith, few) in
    let whole = ap length split ∙ length-append (f ++ early) (late ++ r) in
    let behind = length-append late r in
    let before : length ws - (k + length r) ≡ length (f ++ early) = omega (arith, whole, behind, late_is) in
    ap (λ (j : ℕ). take k (drop j ws)) before
    ∙ ap (λ (v : List Word). take k (drop (length (f ++ early)) v)) split
    ∙ ap (λ (v : List Word). take k v) (drop-append_seam (f ++ early) (late ++ r))
    ∙ ap (λ (j : ℕ). take j (late ++ r)) (sym late_is)
    ∙ take-append_seam late r

-- a process that b spells, behind which r is
spelled_between : {g : Sig} {p : Written} (ws f b r : List Word) (c : LocatedBody) (q : IsProcess g p b) → ws ≡ f ++ (b ++ r) → c.content ≡ par_located q.spelled → c.behind ≡ length r → IsSpelledIn g ws c
spelled_between {p = p} ws f b r c q is content behind =
    let whole = ap length is ∙ length-append f (b ++ r) in
    let inner = length-append b r in
    record {
      written = p;
      levels = q.levels;
      words = b;
      spelled = q.spelled;
      places = sym content;
      inside = omega (arith, whole, inner, behind);
      stand = λ k few. ap (λ (n : ℕ). item_end ws k n) behind ∙ last_of ws f b r k is few;
    }

-- ---- what an item's process is behind

-- words before a process in its item
record Before (a b : List Word) : Type 0 where
  front : List Word
  is : a ≡ front ++ b

behind_parameters : {xs : List (List ℕ)} {a b : List Word} → AreParameters xs a b → Before a b
behind_parameters (parameters_last {x = x}) = record { front = name x ∷ mark (codes ")") ∷ []; is = refl }
behind_parameters (parameters_more {x = x} r) =
    let h = behind_parameters r in
    record { front = name x ∷ mark (codes ",") ∷ h.front; is = ap (λ (v : List Word). name x ∷ mark (codes ",") ∷ v) h.is }

behind_head : {xs : List (List ℕ)} {a b : List Word} → HasParameters xs a b → Before a b
behind_head without_parameters = record { front = mark (codes "=") ∷ []; is = refl }
behind_head (with_parameters {b = b} r) =
    let h = behind_parameters r in
    record { front = mark (codes "(") ∷ (h.front ++ mark (codes "=") ∷ []); is = ap (λ (v : List Word). mark (codes "(") ∷ v) (h.is ∙ sym (append_assoc h.front (mark (codes "=") ∷ []) b)) }

-- ---- the words of pieces

all_words : List (List Placed) → List Word
all_words [] = []
all_words (i ∷ is) = words i ++ all_words is

count_words : (is : List (List Placed)) → word_count is ≡ length (all_words is)
unfolding all_words
count_words [] = refl
count_words (i ∷ is) =
    let h = count_words is in
    let w : length (words i) ≡ length i = length-map i (λ (p : Placed). p.word) in
    let l = length-append (words i) (all_words is) in
    omega (arith, h, w, l)

cut_words : {ps : List Placed} {cut : List (List Placed)} → IsCut ps cut → words ps ≡ all_words cut
unfolding all_words
cut_words cut_none = refl
cut_words (cut_one p ps rest {items = items} never starts c) =
    map-append (λ (q : Placed). q.word) (p ∷ ps) rest ∙ ap (λ (v : List Word). words (p ∷ ps) ++ v) (cut_words c)

-- ---- each process of items is spelled

Each : Sig → List Word → List LocatedBody → Type 0
Each g ws bs = (b : LocatedBody) → Contains bs b → IsSpelledIn g ws b

none_each : (g : Sig) (ws : List Word) → Each g ws []
unfolding Each
none_each g ws b h = let below = h.1 in absurd (omega (arith, below))

one_each : (g : Sig) (ws : List Word) (c : LocatedBody) → IsSpelledIn g ws c → Each g ws (c ∷ [])
unfolding Each
one_each g ws c h b (zero, below, same) = subst (λ (d : LocatedBody). IsSpelledIn g ws d) same h
one_each g ws c h b (suc k, below, same) = absurd (omega (arith, below))

both_each : (g : Sig) (ws : List Word) (bs cs : List LocatedBody) → Each g ws bs → Each g ws cs → Each g ws (bs ++ cs)
unfolding Each
both_each g ws bs cs one two b h = by (Contains-append_cases bs cs b h)
  where
    by : Contains bs b ⊎ Contains cs b → IsSpelledIn g ws b
    by (inl k) = one b k
    by (inr k) = two b k

item_each : {g : Sig} {v : Item} {a : List Word} (q : IsItem g v a) (ws f r : List Word) (line n : ℕ) → ws ≡ f ++ (a ++ r) → n ≡ length r → Each g ws (located_by q line n)
item_each {g = g} (item_builtins q) ws f r line n is behind = none_each g ws
item_each {g = g} (item_functions q) ws f r line n is behind = none_each g ws
item_each {g = g} (item_definition {x = x} {xs = xs} {a = a} {b = b} h q) ws f r line n is behind =
    let front = behind_head h in
    let before = mark (codes "let") ∷ name x ∷ front.front in
    let whole : ws ≡ (f ++ before) ++ (b ++ r) =
    is ∙ ap (λ (v : List Word). f ++ ((mark (codes "let") ∷ name x ∷ v) ++ r)) front.is ∙ ap (λ (v : List Word). f ++ v) (append_assoc before b r) ∙ sym (append_assoc f before (b ++ r)) in
    one_each g ws (record { label = Some x; params = xs; content = par_located q.spelled; line = line; behind = n })
    (spelled_between ws (f ++ before) b r (record { label = Some x; params = xs; content = par_located q.spelled; line = line; behind = n }) q whole refl behind)
item_each {g = g} (item_process {a = a} q) ws f r line n is behind =
    let before = mark (codes "process") ∷ mark (codes ":") ∷ [] in
    let whole : ws ≡ (f ++ before) ++ (a ++ r) = is ∙ sym (append_assoc f before (a ++ r)) in
    one_each g ws (record { label = None; params = []; content = par_located q.spelled; line = line; behind = n })
    (spelled_between ws (f ++ before) a r (record { label = None; params = []; content = par_located q.spelled; line = line; behind = n }) q whole refl behind)
item_each {g = g} (item_statement q) ws f r line n is behind = none_each g ws

items_each : {g : Sig} {cut : List (List Placed)} {is : List Standing} (q : AreItems g cut is) (ws f : List Word) → ws ≡ f ++ all_words cut → Each g ws (located_bodies q)
unfolding all_words
items_each {g = g} (items_end e) ws f is = none_each g ws
items_each {g = g} (items_more {i = i} {is = js} s q) ws f is =
    both_each g ws (located_by s (first_line i) (word_count js)) (located_bodies q)
    (item_each s ws f (all_words js) (first_line i) (word_count js) is (count_words js))
    (items_each q ws (f ++ words i) (is ∙ sym (append_assoc f (words i) (all_words js))))

pub spelled_in : {g : Sig} {z : List ℕ} {ts : List Token} {x : List ℕ} {cut : List (List Placed)} {is : List Standing} → IsParted z ts x cut → (q : AreItems g cut is)
    → (b : LocatedBody) → Contains (located_bodies q) b → IsSpelledIn g (words_of z ts) b
unfolding Each
spelled_in {z = z} {ts = ts} {x = x} {cut = cut} p q =
    let front = mark (codes "theory") ∷ name x ∷ mark (codes "begin") ∷ [] in
    items_each q (words_of z ts) front
    (sym (words_placed z ts) ∙ ap words p.header.spelled ∙ ap (λ (v : List Word). front ++ v) (cut_words p.items))
