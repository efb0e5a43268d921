-- Turns of the readers of items.
use Rattle.std.proofs.Common.{◌≡◌, ℕ, Bool, true, false, List, [], ◌∷◌, append_assoc, append-nil, drop, length, Option, Some, None, refl, sym, ap, subst, ◌∙◌}
use Rattle.std.specs.Prelude.{codes, map, is_some, Result, Ok, Err, IfOk}
use Rattle.sap_terms.specs.declared.mem.Mem.{Mem}
use Rattle.std.proofs.lemmas.List.{map_push}
use Rattle.sap_terms.specs.Signature.{Sig}
use Rattle.sap_text.specs.declared.token.Token.{Token}
use Rattle.sap_grammar.specs.Words.{Word, mark, name, words_of, starts}
use Rattle.sap_grammar.specs.Reading.{name_at}
use Rattle.sap_grammar.specs.Cut.{Placed, placed, words, first_line, IsCut}
use Rattle.sap_grammar.specs.Declarations.{Declaration, declares_builtins, declares_functions}
use Rattle.sap_grammar.specs.Items.{IsEnd, items_end, items_more}
use Rattle.sap_grammar.specs.ItemReading.{cut, declared_in}
use Rattle.sap_macro.specs.Written.{Written}
use Rattle.sap_statements.specs.Added.{IsStated}
use Rattle.sap_statements.specs.declared.statement.Statement.{Statement}
use Rattle.sap_statements.specs.Statements.{IsStatement, is_restriction, is_lemma}
use Rattle.sap_draft.specs.declared.limits.TheConstants.{FILE_LIMITS}
use Rattle.sap_read.specs.Item.{Item, Standing, definition, process, statement, bodies, statements}
use Rattle.sap_read.specs.LocatedItems.{LocatedBody, located_by, located_bodies, word_count}
use Rattle.sap_draft.specs.ProcessGrammar.{IsProcess}
use Rattle.sap_read.specs.ItemGrammar.{HasParameters, IsItem, AreItems, IsSomeItem, item_builtins, item_functions, item_definition, item_process, item_statement}
use Rattle.sap_read.specs.declared.entry.Entry.{Entry}
use Rattle.sap_read.specs.Entries.{body, located_body}
use Rattle.sap_read.specs.code.ItemView.{AreLeft, AreLocatedBehind, IsItemOf, IsAdded, IsAdding, IsGoodBehind, IsPushed, SaysProcess, AreSaid}
use Rattle.sap_grammar.proofs.ReadingLaws.Items.{cut_is}
use Rattle.sap_grammar.specs.ItemLaws.{ItemLaws}
use Rattle.sap_grammar.proofs.ReadingLaws.OnRead.{starts_is, name_is}
use Rattle.sap_grammar.proofs.ReadingLaws.Tokens.{words-drop, words_placed}
use Rattle.sap_read.proofs.ItemsRead.{declared_sound}
use Rattle.sap_read.proofs.LocatedItems.{count_of_tokens, left_more, left_none, nothing_located}
use Rattle.sap_read.proofs.ReadParameters.{one_head}

-- the words of the tokens behind the first n
pub words-beyond : (z : List ℕ) (n : ℕ) (ts rest : List Token) → rest ≡ drop n ts → words_of z rest ≡ drop n (words_of z ts)
words-beyond z n ts rest e = ap (λ (y : List Token). words_of z y) e ∙ words-drop z n ts

-- Items that say of processes.

pub definition_spelled : (ws : List Word) (x : List ℕ) → starts (codes "let") ws ≡ true → name_at (drop 1 ws) ≡ Some x → ws ≡ mark (codes "let") ∷ name x ∷ drop 2 ws
definition_spelled [] x s n = absurd (cc)
definition_spelled (w ∷ []) x s n = absurd (cc)
definition_spelled (w ∷ v ∷ ws) x s n =
    let first = starts_is (codes "let") (w ∷ v ∷ ws) s in
    let second = name_is (v ∷ ws) x n in
    cc

pub process_spelled : (ws : List Word) → starts (codes "process") ws ≡ true → starts (codes ":") (drop 1 ws) ≡ true → ws ≡ mark (codes "process") ∷ mark (codes ":") ∷ drop 2 ws
process_spelled [] s e = absurd (cc)
process_spelled (w ∷ []) s e = absurd (cc)
process_spelled (w ∷ v ∷ ws) s e =
    let first = starts_is (codes "process") (w ∷ v ∷ ws) s in
    let second = starts_is (codes ":") (v ∷ ws) e in
    cc

pub definition_read : (g : Sig) (z : List ℕ) (ts : List Token) (x : List ℕ) (xs : List (List ℕ)) (p : Written) (b : List Word) (line : ℕ) → starts (codes "let") (words_of z ts) ≡ true → name_at (drop 1 (words_of z ts)) ≡ Some x
    → HasParameters xs (drop 2 (words_of z ts)) b → IsProcess g p b → line ≡ first_line (placed z ts)
    → IsItemOf g z ts (record { label = Some x; params = xs; content = p; line = line } ∷ []) []
definition_read g z ts x xs p b line s n h r l = record {
  item = definition x xs p;
  spelled = subst (λ (w : List Word). IsItem g (definition x xs p) w) (sym (definition_spelled (words_of z ts) x s n)) (item_definition h r);
  says = rw l refl;
  states = refl;
}

pub process_read : (g : Sig) (z : List ℕ) (ts : List Token) (p : Written) (line : ℕ) → starts (codes "process") (words_of z ts) ≡ true → starts (codes ":") (drop 1 (words_of z ts)) ≡ true
    → IsProcess g p (drop 2 (words_of z ts)) → line ≡ first_line (placed z ts)
    → IsItemOf g z ts (record { label = None; params = []; content = p; line = line } ∷ []) []
process_read g z ts p line s e r l = record {
  item = process p;
  spelled = subst (λ (w : List Word). IsItem g (process p) w) (sym (process_spelled (words_of z ts) s e)) (item_process r);
  says = rw l refl;
  states = refl;
}

-- what such an item can't lack
pub no_name : {g : Sig} {v : Item} {a : List Word} → starts (codes "let") a ≡ true → name_at (drop 1 a) ≡ None → IsItem g v a → ⊥
no_name s n (item_builtins r) = absurd (cc)
no_name s n (item_functions r) = absurd (cc)
no_name s n (item_definition h r) = absurd (cc)
no_name s n (item_process r) = absurd (cc)
no_name s n (item_statement (is_restriction r)) = absurd (cc)
no_name s n (item_statement (is_lemma a d r)) = absurd (cc)

pub no_head : {g : Sig} {v : Item} {a : List Word} → starts (codes "let") a ≡ true → ((xs : List (List ℕ)) (b : List Word) → HasParameters xs (drop 2 a) b → ⊥) → IsItem g v a → ⊥
no_head s e (item_builtins r) = absurd (cc)
no_head s e (item_functions r) = absurd (cc)
no_head s e (item_definition {xs = xs} {b = b} h r) = e xs b h
no_head s e (item_process r) = absurd (cc)
no_head s e (item_statement (is_restriction r)) = absurd (cc)
no_head s e (item_statement (is_lemma a d r)) = absurd (cc)

pub no_colon : {g : Sig} {v : Item} {a : List Word} → starts (codes "process") a ≡ true → starts (codes ":") (drop 1 a) ≡ false → IsItem g v a → ⊥
no_colon s e (item_builtins r) = absurd (cc)
no_colon s e (item_functions r) = absurd (cc)
no_colon s e (item_definition h r) = absurd (cc)
no_colon s e (item_process r) = absurd (cc)
no_colon s e (item_statement (is_restriction r)) = absurd (cc)
no_colon s e (item_statement (is_lemma a d r)) = absurd (cc)

pub no_definition : (ws : List Word) (ys : List (List ℕ)) (d : List Word) → starts (codes "let") ws ≡ true → HasParameters ys (drop 2 ws) d → ((g : Sig) (p : Written) → IsProcess g p d → ⊥) → IsSomeItem ws → ⊥
no_definition ws ys d s head never it = go s head it.is
  where
    go : {g : Sig} {v : Item} {a : List Word} → starts (codes "let") a ≡ true → HasParameters ys (drop 2 a) d → IsItem g v a → ⊥
    go s head (item_builtins r) = absurd (cc)
    go s head (item_functions r) = absurd (cc)
    go {g = g} s head (item_definition {p = p} h r) = never g p (subst (λ (w : List Word). IsProcess g p w) (one_head h head).1 r)
    go s head (item_process r) = absurd (cc)
    go s head (item_statement (is_restriction r)) = absurd (cc)
    go s head (item_statement (is_lemma a d r)) = absurd (cc)

pub no_process : (ws : List Word) → starts (codes "process") ws ≡ true → ((g : Sig) (p : Written) → IsProcess g p (drop 2 ws) → ⊥) → IsSomeItem ws → ⊥
no_process ws s never it = go s never it.is
  where
    go : {g : Sig} {v : Item} {a : List Word} → starts (codes "process") a ≡ true → ((g : Sig) (p : Written) → IsProcess g p (drop 2 a) → ⊥) → IsItem g v a → ⊥
    go s never (item_builtins r) = absurd (cc)
    go s never (item_functions r) = absurd (cc)
    go s never (item_definition h r) = absurd (cc)
    go {g = g} s never (item_process {p = p} r) = never g p r
    go s never (item_statement (is_restriction r)) = absurd (cc)
    go s never (item_statement (is_lemma a d r)) = absurd (cc)

-- the words are no restriction or lemma, under any signature
abbrev pub NoStatement : List Word → Type 0
NoStatement ws = (h : Sig) (s : Statement) → IsStatement h FILE_LIMITS s ws → ⊥

-- an item that begins with neither word of processes declares something, or is a restriction or a lemma
pub no_other : ItemLaws → (ws : List Word) → starts (codes "let") ws ≡ false → starts (codes "process") ws ≡ false → declared_in ws ≡ None → NoStatement ws → IsSomeItem ws → ⊥
no_other laws ws l p none never it = go l p none never it.is
  where
    go : {g : Sig} {v : Item} {a : List Word} → starts (codes "let") a ≡ false → starts (codes "process") a ≡ false → declared_in a ≡ None → NoStatement a → IsItem g v a → ⊥
    go l p none never (item_builtins {a = a} r) = let read = laws.declared _ _ (declares_builtins r) in absurd (cc (read, none))
    go l p none never (item_functions {a = a} r) = let read = laws.declared _ _ (declares_functions r) in absurd (cc (read, none))
    go l p none never (item_definition h r) = absurd (cc)
    go l p none never (item_process r) = absurd (cc)
    go {g = g} l p none never (item_statement {s = s} r) = never g s r

-- an item that says of a process, which stands last
said_added : (g : Sig) (z : List ℕ) (ts : List Token) (n : ℕ) (before after : List Entry) (ss : List Statement) (b : Bool) (o : Option Entry) → SaysProcess g z ts n (Ok o) → IsPushed b o before after
    → IsAdded g z ts n before after ss ss b
said_added g z ts n before after ss true None none p = let no : true ≡ false = p.0 in absurd (cc)
said_added g z ts n before after ss false None none p = none
said_added g z ts n before after ss false (Some e) is p = let no : false ≡ true = p.0 in absurd (cc)
said_added g z ts n before after ss true (Some e) is p = record {
  said = body e ∷ [];
  stated = [];
  places = located_body e ∷ [];
  is = is.0;
  are_located = is.1;
  bodies_are = ap (map body) p.1 ∙ map_push body before e;
  places_are = ap (map located_body) p.1 ∙ map_push located_body before e;
  statements_are = sym (append-nil ss);
}

-- the same, where putting it last may fail
pub said_tried : (g : Sig) (z : List ℕ) (ts : List Token) (n : ℕ) (before after : List Entry) (ss : List Statement) (r : Result Bool Mem) (o : Option Entry) → SaysProcess g z ts n (Ok o)
    → IfOk r (λ b. IsPushed b o before after) → IfOk r (λ b. IsAdded g z ts n before after ss ss b)
said_tried g z ts n before after ss (Ok b) o says pushed = said_added g z ts n before after ss b o says pushed
said_tried g z ts n before after ss (Err e) o says pushed = tt

-- an item that declares something
pub declaration_added : ItemLaws → (g : Sig) (z : List ℕ) (ts : List Token) (n : ℕ) (es : List Entry) (ss : List Statement) → starts (codes "let") (words_of z ts) ≡ false
    → starts (codes "process") (words_of z ts) ≡ false → is_some (declared_in (words_of z ts)) ≡ true → IsAdded g z ts n es es ss ss true
declaration_added laws g z ts n es ss l p e = go (declared_in (words_of z ts)) refl e
  where
    go : (o : Option (List Declaration)) → declared_in (words_of z ts) ≡ o → is_some o ≡ true → IsAdded g z ts n es es ss ss true
    go None none e = absurd (cc)
    go (Some ds) some e =
        let alone = declared_sound laws (words_of z ts) ds some in
        record {
          said = [];
          stated = [];
          places = [];
          is = record { item = alone.item; spelled = alone.spelled g; says = alone.no_body (first_line (placed z ts)); states = alone.no_statement };
          are_located = nothing_located g (words_of z ts) (first_line (placed z ts)) n l p;
          bodies_are = sym (append-nil (map body es));
          places_are = sym (append-nil (map located_body es));
          statements_are = sym (append-nil ss);
        }

-- where the tokens declare nothing, and are asked whether they are a restriction or a lemma
stated_added : ItemLaws → (g : Sig) (z : List ℕ) (ts : List Token) (n : ℕ) (es : List Entry) (ss after : List Statement) (b : Bool) → starts (codes "let") (words_of z ts) ≡ false
    → starts (codes "process") (words_of z ts) ≡ false → is_some (declared_in (words_of z ts)) ≡ false → IsStated g FILE_LIMITS z ts ss after b → IsAdded g z ts n es es ss after b
stated_added laws g z ts n es ss after true l p none is = record {
  said = [];
  stated = is.0 ∷ [];
  places = [];
  is = record { item = statement is.0; spelled = item_statement is.1; says = refl; states = refl };
  are_located = nothing_located g (words_of z ts) (first_line (placed z ts)) n l p;
  bodies_are = sym (append-nil (map body es));
  places_are = sym (append-nil (map located_body es));
  statements_are = is.2;
}
stated_added laws g z ts n es ss after false l p none never = no_other laws (words_of z ts) l p (nothing (declared_in (words_of z ts)) none) never
  where
    nothing : (o : Option (List Declaration)) → is_some o ≡ false → o ≡ None
    nothing None e = refl
    nothing (Some ds) e = absurd (cc)

-- the same, where asking may fail
pub stated_tried : ItemLaws → (g : Sig) (z : List ℕ) (ts : List Token) (n : ℕ) (es : List Entry) (ss after : List Statement) (r : Result Bool Mem) → starts (codes "let") (words_of z ts) ≡ false
    → starts (codes "process") (words_of z ts) ≡ false → is_some (declared_in (words_of z ts)) ≡ false → IfOk r (λ b. IsStated g FILE_LIMITS z ts ss after b) → IfOk r (λ b. IsAdded g z ts n es es ss after b)
stated_tried laws g z ts n es ss after (Ok b) l p none is = stated_added laws g z ts n es ss after b l p none is
stated_tried laws g z ts n es ss after (Err e) l p none is = tt

-- Turns of the loop over items, where `entries` and `earlier` were read before the tokens `rest`.
module _ (laws : ItemLaws) (g : Sig) (z : List ℕ) (ts rest item behind : List Token) (entries : List Entry) (earlier : List Statement)
    (good : IsGoodBehind g z ts rest entries earlier) (located : AreLocatedBehind g z ts rest entries)
    (split : cut (placed z rest) ≡ placed z item ∷ cut (placed z behind)) where
  pub turn_end : IsEnd (placed z item) → behind ≡ [] → (items : List (List Placed)) → IsCut (placed z ts) items → AreSaid g items entries earlier
  turn_end e none items r =
      let over : cut (placed z rest) ≡ placed z item ∷ [] = split ∙ rw none refl in
      let all = good [] (subst (λ (y : List (List Placed)). AreItems g y []) (sym over) (items_end e)) in
      record {
        standing = all.0;
        items = subst (λ (y : List (List Placed)). AreItems g y all.0) (cut_is laws r) all.1;
        bodies_are = sym (append-nil (map body entries)) ∙ all.2;
        statements_are = sym (append-nil earlier) ∙ all.3;
        places_are = subst (λ (y : List (List Placed)). (js : List Standing) (q : AreItems g y js) → located_bodies q ≡ map located_body entries) (cut_is laws r)
            (λ js q. left_none (map located_body entries) (located_bodies q)
            (subst (λ (y : List (List Placed)). AreLeft g y (map located_body entries) (located_bodies q)) over (located js q)));
      }

  module _ (after : List Entry) (later : List Statement) (n : ℕ) (it : IsAdding g z item n entries after earlier later) where
    pub turn_located : n ≡ length behind → AreLocatedBehind g z ts behind after
    turn_located count js q =
        let is : IsItem g it.is.item (words (placed z item)) = rw (words_placed z item) it.is.spelled in
        let many : word_count (cut (placed z behind)) ≡ n = count_of_tokens laws z behind ∙ sym count in
        let each : (v : Item) (r : IsItem g v (words (placed z item))) → located_by r (first_line (placed z item)) (word_count (cut (placed z behind))) ≡ it.places =
        subst (λ (k : ℕ). (v : Item) (r : IsItem g v (words (placed z item))) → located_by r (first_line (placed z item)) k ≡ it.places) (sym many)
        (subst (λ (w : List Word). (v : Item) (r : IsItem g v w) → located_by r (first_line (placed z item)) n ≡ it.places) (sym (words_placed z item)) it.are_located) in
        subst (λ (bs : List LocatedBody). AreLeft g (cut (placed z behind)) bs (located_bodies q)) (sym it.places_are)
        (left_more (map located_body entries) it.places (located_bodies q) it.is.item is each
        (subst (λ (y : List (List Placed)). AreLeft g y (map located_body entries) (located_bodies q)) split (located js q)))

    pub turn_good : IsGoodBehind g z ts behind after later
    turn_good is r =
        let spelled : IsItem g it.is.item (words (placed z item)) = rw (words_placed z item) it.is.spelled in
        let one : AreItems g (placed z item ∷ cut (placed z behind)) (record { item = it.is.item; line = first_line (placed z item) } ∷ is) = items_more spelled r in
        let all = good (record { item = it.is.item; line = first_line (placed z item) } ∷ is) (subst (λ (y : List (List Placed)). AreItems g y (record { item = it.is.item; line = first_line (placed z item) } ∷ is)) (sym split) one) in (
          all.0,
          all.1,
          rw (it.bodies_are, append_assoc (map body entries) it.said (bodies is), ← it.is.says) all.2,
          rw (it.statements_are, append_assoc earlier it.stated (statements is), ← it.is.states) all.3,
        )
