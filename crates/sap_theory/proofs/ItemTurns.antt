-- Turns of the reader of items.
use Rattle.std.proofs.Common.{◌≡◌, ℕ, Bool, true, false, List, [], ◌∷◌, ◌++◌, append_assoc, append-nil, Option, Some, None, refl, sym, ap, subst, ◌∙◌}
use Rattle.std.specs.Prelude.{codes, is_some, Result, Ok, Err, IfOk}
use Rattle.sap_terms.specs.declared.mem.Mem.{Mem}
use Rattle.sap_terms.specs.Signature.{Sig}
use Rattle.sap_text.specs.declared.token.Token.{Token}
use Rattle.sap_rule.specs.declared.rule.Rule.{Rule}
use Rattle.sap_grammar.specs.Words.{Word, word_of, words_of, starts}
use Rattle.sap_grammar.specs.Cut.{Placed, placed, words, first_line, IsCut, cut_one}
use Rattle.sap_grammar.specs.Declarations.{Declaration, Declares, declares_builtins, declares_functions}
use Rattle.sap_grammar.specs.Items.{Standing, IsEnd, items_end, items_more, no_end, bad_item, later_item}
use Rattle.sap_grammar.specs.ItemReading.{cut, declared_in}
use Rattle.sap_statements.specs.Added.{IsStated}
use Rattle.sap_statements.specs.declared.statement.Statement.{Statement}
use Rattle.sap_statements.specs.Statements.{IsStatement, is_restriction, is_lemma}
use Rattle.sap_theory.specs.declared.limits.TheConstants.{THEORY_LIMITS}
use Rattle.sap_theory.specs.TheoryGrammar.{TheoryItem, builtins, functions, rule, statement, IsWrittenItem, item_builtins, item_functions, item_rule, item_statement, items_of, rules_in, statements_in}
use Rattle.sap_theory.specs.WrittenItems.{AreWrittenItems, IsSomeWrittenItem, IsFaultyTheory}
use Rattle.sap_grammar.proofs.ReadingLaws.Items.{cut_is}
use Rattle.sap_grammar.proofs.ReadingLaws.Tokens.{words_placed}
use Rattle.sap_grammar.specs.ItemLaws.{ItemLaws}
use Rattle.sap_theory.specs.code.ItemView.{IsRuled, IsAdding, IsAdded, AreSaid, IsGoodBehind}

-- the item that stands first, and those behind it
rules_behind : (v : TheoryItem) (vs : List TheoryItem) → rules_in (v ∷ vs) ≡ rules_in (v ∷ []) ++ rules_in vs
rules_behind (builtins bs) vs = refl
rules_behind (functions ss) vs = refl
rules_behind (rule r) vs = refl
rules_behind (statement s) vs = refl

statements_behind : (v : TheoryItem) (vs : List TheoryItem) → statements_in (v ∷ vs) ≡ statements_in (v ∷ []) ++ statements_in vs
statements_behind (builtins bs) vs = refl
statements_behind (functions ss) vs = refl
statements_behind (rule r) vs = refl
statements_behind (statement s) vs = refl

joined_behind : {A : Type 0} (after before one rest more all : List A) → after ≡ before ++ one → more ≡ one ++ rest → before ++ more ≡ all → after ++ rest ≡ all
joined_behind after before one rest more all p q r = ap (λ xs. xs ++ rest) p ∙ (append_assoc before one rest ∙ (ap (λ xs. before ++ xs) (sym q) ∙ r))

-- Each kind of item.

abbrev pub NoRule : List Word → Type 0
NoRule ws = (h : Sig) (r : Rule) → IsWrittenItem h THEORY_LIMITS (rule r) ws → ⊥

abbrev pub NoStatement : List Word → Type 0
NoStatement ws = (h : Sig) (s : Statement) → IsStatement h THEORY_LIMITS s ws → ⊥

-- an item that begins with `rule` is one
pub no_ruled : {g : Sig} {v : TheoryItem} {ws : List Word} → starts (codes "rule") ws ≡ true → NoRule ws → IsWrittenItem g THEORY_LIMITS v ws → ⊥
no_ruled s never (item_builtins r) = absurd (cc (s))
no_ruled s never (item_functions r) = absurd (cc (s))
no_ruled {g = g} s never (item_rule {x = x} {l = l} {e = e} {r = r} b) = never g (record { name = x; left = l; acts = e; right = r }) (item_rule b)
no_ruled s never (item_statement (is_restriction r)) = absurd (cc (s))
no_ruled s never (item_statement (is_lemma a d r)) = absurd (cc (s))

-- one that doesn't declares something, or is a restriction or a lemma
pub no_other : ItemLaws → {g : Sig} {v : TheoryItem} {ws : List Word} → starts (codes "rule") ws ≡ false → declared_in ws ≡ None → NoStatement ws → IsWrittenItem g THEORY_LIMITS v ws → ⊥
no_other laws s none never (item_builtins r) = let read = laws.declared _ _ (declares_builtins r) in absurd (cc (read, none))
no_other laws s none never (item_functions r) = let read = laws.declared _ _ (declares_functions r) in absurd (cc (read, none))
no_other laws s none never (item_rule b) = absurd (cc (s))
no_other laws {g = g} s none never (item_statement {s = t} r) = never g t r

-- the tokens begin with `rule`
ruled_added : (g : Sig) (z : List ℕ) (ts : List Token) (rs after : List Rule) (ss : List Statement) (b : Bool) → starts (codes "rule") (words_of z ts) ≡ true → IsRuled g z ts rs after b → IsAdded g z ts rs after ss ss b
ruled_added g z ts rs after ss true s is = record { item = rule is.0; spelled = is.1; rules_are = is.2; statements_are = sym (append-nil ss) }
ruled_added g z ts rs after ss false s never = λ it. no_ruled s never it.is

-- the same, where reading may fail
pub ruled_tried : (g : Sig) (z : List ℕ) (ts : List Token) (rs after : List Rule) (ss : List Statement) (o : Result Bool Mem) → starts (codes "rule") (words_of z ts) ≡ true
    → IfOk o (λ b. IsRuled g z ts rs after b) → IfOk o (λ b. IsAdded g z ts rs after ss ss b)
ruled_tried g z ts rs after ss (Ok b) s is = ruled_added g z ts rs after ss b s is
ruled_tried g z ts rs after ss (Err e) s is = tt

-- they declare something
pub declaration_added : ItemLaws → (g : Sig) (z : List ℕ) (ts : List Token) (rs : List Rule) (ss : List Statement) → is_some (declared_in (words_of z ts)) ≡ true → IsAdded g z ts rs rs ss ss true
declaration_added laws g z ts rs ss e = go (declared_in (words_of z ts)) refl e
  where
    by : (ws : List Word) (ds : List Declaration) → Declares ws ds → ws ≡ words_of z ts → IsAdded g z ts rs rs ss ss true
    by _ _ (declares_builtins {bs = bs} r) w = record {
      item = builtins bs;
      spelled = subst (λ (y : List Word). IsWrittenItem g THEORY_LIMITS (builtins bs) y) w (item_builtins r);
      rules_are = sym (append-nil rs);
      statements_are = sym (append-nil ss);
    }
    by _ _ (declares_functions {ss = us} r) w = record {
      item = functions us;
      spelled = subst (λ (y : List Word). IsWrittenItem g THEORY_LIMITS (functions us) y) w (item_functions r);
      rules_are = sym (append-nil rs);
      statements_are = sym (append-nil ss);
    }

    go : (o : Option (List Declaration)) → declared_in (words_of z ts) ≡ o → is_some o ≡ true → IsAdded g z ts rs rs ss ss true
    go None none e = absurd (cc (e))
    go (Some ds) some e = by (words_of z ts) ds (laws.declares (words_of z ts) ds some) refl

-- they do neither, and are asked whether they are a restriction or a lemma
stated_added : ItemLaws → (g : Sig) (z : List ℕ) (ts : List Token) (rs : List Rule) (ss after : List Statement) (b : Bool) → starts (codes "rule") (words_of z ts) ≡ false
    → is_some (declared_in (words_of z ts)) ≡ false → IsStated g THEORY_LIMITS z ts ss after b → IsAdded g z ts rs rs ss after b
stated_added laws g z ts rs ss after true s none is = record { item = statement is.0; spelled = item_statement is.1; rules_are = sym (append-nil rs); statements_are = is.2 }
stated_added laws g z ts rs ss after false s none never = λ it. no_other laws s (nothing (declared_in (words_of z ts)) none) never it.is
  where
    nothing : (o : Option (List Declaration)) → is_some o ≡ false → o ≡ None
    nothing None e = refl
    nothing (Some ds) e = absurd (cc (e))

-- the same, where asking may fail
pub stated_tried : ItemLaws → (g : Sig) (z : List ℕ) (ts : List Token) (rs : List Rule) (ss after : List Statement) (o : Result Bool Mem) → starts (codes "rule") (words_of z ts) ≡ false
    → is_some (declared_in (words_of z ts)) ≡ false → IfOk o (λ b. IsStated g THEORY_LIMITS z ts ss after b) → IfOk o (λ b. IsAdded g z ts rs rs ss after b)
stated_tried laws g z ts rs ss after (Ok b) s none is = stated_added laws g z ts rs ss after b s none is
stated_tried laws g z ts rs ss after (Err e) s none is = tt

-- Turns of the loop over items, where `rules` and `statements` were read before the tokens `rest`.
module _ (laws : ItemLaws) (g : Sig) (z : List ℕ) (ts rest item behind : List Token) (rules : List Rule) (statements : List Statement)
    (good : IsGoodBehind g z ts rest rules statements)
    (split : cut (placed z rest) ≡ placed z item ∷ cut (placed z behind)) where
  pub turn_end : IsEnd (placed z item) → behind ≡ [] → (pieces : List (List Placed)) → IsCut (placed z ts) pieces → AreSaid g pieces rules statements
  turn_end e none pieces r =
      let over : cut (placed z rest) ≡ placed z item ∷ [] = split ∙ rw none refl in
      let all = good [] (subst (λ (y : List (List Placed)). AreWrittenItems g y []) (sym over) (items_end e)) in
      record {
        standing = all.0;
        items = subst (λ (y : List (List Placed)). AreWrittenItems g y all.0) (cut_is laws r) all.1;
        rules_are = sym (append-nil rules) ∙ all.2;
        statements_are = sym (append-nil statements) ∙ all.3;
      }

  module _ (after : List Rule) (later : List Statement) (it : IsAdding g z item rules after statements later) where
    spelled_here : IsWrittenItem g THEORY_LIMITS it.item (words (placed z item))
    spelled_here = rw (words_placed z item) it.spelled

    pub turn_good : IsGoodBehind g z ts behind after later
    turn_good is r =
        let one : Standing TheoryItem = record { item = it.item; line = first_line (placed z item) } in
        let first : AreWrittenItems g (placed z item ∷ cut (placed z behind)) (one ∷ is) = items_more spelled_here r in
        let all = good (one ∷ is) (subst (λ (y : List (List Placed)). AreWrittenItems g y (one ∷ is)) (sym split) first) in (
          all.0,
          all.1,
          joined_behind after rules (rules_in (it.item ∷ [])) (rules_in (items_of is)) (rules_in (it.item ∷ items_of is)) (rules_in (items_of all.0)) it.rules_are (rules_behind it.item (items_of is)) all.2,
          joined_behind later statements (statements_in (it.item ∷ [])) (statements_in (items_of is)) (statements_in (it.item ∷ items_of is)) (statements_in (items_of all.0)) it.statements_are (statements_behind it.item (items_of is)) all.3,
        )
