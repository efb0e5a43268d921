-- Bytes spell one theory at most.
use Rattle.std.proofs.Common.{◌≡◌, ◌≤◌, max, ℕ, true, false, List, [], ◌∷◌, drop, Some, refl, sym, ap, subst, ◌∙◌, arith}
use Rattle.std.specs.Prelude.{codes, Ok, Err, ⊤, if◌then◌else◌}
use Rattle.sap_text.specs.declared.token.Token.{Token}
use Rattle.sap_text.specs.Tokens.{Lexed, before, IsLexed, ended, skipped, taken, long, failed}
use Rattle.sap_terms.specs.declared.fact.Fact.{Fact}
use Rattle.sap_terms.specs.Signature.{Sig, pairs_alone}
use Rattle.sap_rule.specs.declared.theory.Theory.{Theory}
use Rattle.sap_grammar.specs.declared.limits.Limits.{Limits}
use Rattle.sap_grammar.specs.Words.{Word, mark, name, starts}
use Rattle.sap_grammar.specs.Reading.{Read}
use Rattle.sap_grammar.specs.FactGrammar.{AreFacts}
use Rattle.sap_grammar.specs.Cut.{Placed, words, placed, IsHeader, IsCut, first_line}
use Rattle.sap_grammar.specs.Declarations.{Declaration, AreBuiltins, AreSymbols}
use Rattle.sap_grammar.specs.Items.{Standing, AreItems, items_end, items_more}
use Rattle.sap_grammar.specs.Signatures.{signature_from}
use Rattle.sap_grammar.specs.ItemReading.{told, declared_in}
use Rattle.sap_statements.specs.declared.statement.Statement.{Statement}
use Rattle.sap_statements.specs.Statements.{IsStatement, is_restriction, is_lemma}
use Rattle.sap_statements.specs.Sorted.{sorted_statement}
use Rattle.sap_theory.specs.TheoryGrammar.{TheoryItem, builtins, functions, rule, statement, IsRuleBody, body_silent, body_acts, IsItemBy, item_builtins, item_functions, item_rule, item_statement, IsAnyTheoryItem, declared_by, declarations, items_of, rules_in, restrictions_in, lemmas_in, signature_of, AreSameSignatures, SpellsTheory, AreSameTheories}
use Rattle.sap_theory.proofs.DeclaredItems.{item_declares, items_declare}
use Rattle.sap_theory.proofs.ReadLaws.{ReadLaws}
use Rattle.sap_theory.proofs.Wider.{joined_limits, wider_left, wider_right, facts_wider, statement_wider}

behind : {a b c : List Word} (n : ℕ) → a ≡ b → a ≡ c → drop n c ≡ drop n b
behind n e f = ap (λ (z : List Word). drop n z) (sym f ∙ e)

first_name : {x y : List ℕ} {a b : List Word} → name x ∷ a ≡ name y ∷ b → x ≡ y
first_name e = cc (e)

module _ (laws : ReadLaws) (g : Sig) where
  one_facts : (w : List ℕ) → (w ≡ codes "," → ⊥) → (w ≡ codes "!" → ⊥) → (m k : Limits) (fs hs : List Fact) (a b c : List Word)
      → AreFacts g m true w fs a b → AreFacts g k true w hs a c → (fs ≡ hs) × (b ≡ c)
  one_facts w no_comma no_sign m k fs hs a b c r s =
      let n = joined_limits m k in
      let same : ◌≡◌ {A = Read (List Fact)} (Some (fs, b)) (Some (hs, c)) =
      sym (laws.facts_read g n true w fs a b no_comma no_sign (facts_wider m n (wider_left m k) r)) ∙ laws.facts_read g n true w hs a c no_comma no_sign (facts_wider k n (wider_right m k) s) in
      let both : ◌≡◌ {A = List Fact × List Word} (fs, b) (hs, c) = cc in
      (ap (λ x. x.0) both, ap (λ x. x.1) both)

  square : (m k : Limits) (fs hs : List Fact) (a b c : List Word) → AreFacts g m true (codes "]") fs a b → AreFacts g k true (codes "]") hs a c → (fs ≡ hs) × (b ≡ c)
  square = one_facts (codes "]") (λ e. cc (e)) (λ e. cc (e))

  acts : (m k : Limits) (fs hs : List Fact) (a b c : List Word) → AreFacts g m true (codes "]->") fs a b → AreFacts g k true (codes "]->") hs a c → (fs ≡ hs) × (b ≡ c)
  acts = one_facts (codes "]->") (λ e. cc (e)) (λ e. cc (e))

  one_body : (m n : Limits) (l k e d r s : List Fact) (a : List Word) → IsRuleBody g m l e r a → IsRuleBody g n k d s a → (l ≡ k) × (e ≡ d) × (r ≡ s)
  one_body m n l k e d r s a (body_silent {b = b} x y) (body_silent {b = c} u v) =
      let left = square m n l k _ _ _ x u in
      let next : c ≡ b = sym (behind 2 left.1 refl) in
      let right = square m n r s _ _ _ y (subst (λ (z : List Word). AreFacts g n true (codes "]") s z []) next v) in
      (left.0, refl, right.0)
  one_body m n l k e d r s a (body_silent x y) (body_acts u v w) =
      absurd (let left = square m n l k _ _ _ x u in let t : true ≡ false = ap (λ (z : List Word). starts (codes "-->") z) left.1 in cc (t))
  one_body m n l k e d r s a (body_acts u v w) (body_silent x y) =
      absurd (let left = square m n l k _ _ _ u x in let t : false ≡ true = ap (λ (z : List Word). starts (codes "-->") z) left.1 in cc (t))
  one_body m n l k e d r s a (body_acts {b = b} {c = c} x y z) (body_acts {b = p} {c = q} u v w) =
      let left = square m n l k _ _ _ x u in
      let next : p ≡ b = sym (behind 1 left.1 refl) in
      let middle = acts m n e d _ _ _ y (subst (λ (z : List Word). AreFacts g n true (codes "]->") d z (mark (codes "[") ∷ q)) next v) in
      let more : q ≡ c = sym (behind 1 middle.1 refl) in
      let right = square m n r s _ _ _ z (subst (λ (z : List Word). AreFacts g n true (codes "]") s z []) more w) in
      (left.0, middle.0, right.0)

  module _ (sorting : Statement → Statement) where
    -- what the words of an item are
    abbrev Shape : Limits → TheoryItem → List Word → Type 0
    Shape m (builtins bs) a = (b : List Word) × (a ≡ mark (codes "builtins") ∷ mark (codes ":") ∷ b) × AreBuiltins bs b
    Shape m (functions ss) a = (b : List Word) × (a ≡ mark (codes "functions") ∷ mark (codes ":") ∷ b) × AreSymbols ss b
    Shape m (rule r) a = (b : List Word) × (a ≡ mark (codes "rule") ∷ name r.name ∷ mark (codes ":") ∷ b) × IsRuleBody g m r.left r.acts r.right b
    Shape m (statement s) a = (written : Statement) × (s ≡ sorting written) × IsStatement g m written a

    shape : {m : Limits} {v : TheoryItem} {a : List Word} → IsItemBy sorting g m v a → Shape m v a
    shape (item_builtins r) = (_, refl, r)
    shape (item_functions r) = (_, refl, r)
    shape (item_rule r) = (_, refl, r)
    shape (item_statement r) = (_, refl, r)

    abbrev kind : TheoryItem → ℕ
    kind (builtins bs) = 0
    kind (functions ss) = 1
    kind (rule r) = 2
    kind (statement s) = 3

    abbrev kind_of : List Word → ℕ
    kind_of ws =
        if starts (codes "builtins") ws then 0
        else if starts (codes "functions") ws then 1
        else if starts (codes "rule") ws then 2
        else 3

    kind_is : {m : Limits} {v : TheoryItem} {a : List Word} → IsItemBy sorting g m v a → kind_of a ≡ kind v
    kind_is (item_builtins r) = refl
    kind_is (item_functions r) = refl
    kind_is (item_rule r) = refl
    kind_is (item_statement (is_restriction r)) = refl
    kind_is (item_statement (is_lemma r s t)) = refl

    one_item : (m n : Limits) (a : List Word) (v u : TheoryItem) → Shape m v a → Shape n u a → kind v ≡ kind u → v ≡ u
    one_item m n a (builtins bs) (builtins cs) x y e = ap builtins (laws.one_builtins bs cs x.0 x.2 (subst (λ (z : List Word). AreBuiltins cs z) (behind 2 x.1 y.1) y.2))
    one_item m n a (builtins bs) (functions ts) x y e = absurd (cc (e))
    one_item m n a (builtins bs) (rule s) x y e = absurd (cc (e))
    one_item m n a (builtins bs) (statement s) x y e = absurd (cc (e))
    one_item m n a (functions ss) (builtins cs) x y e = absurd (cc (e))
    one_item m n a (functions ss) (functions ts) x y e = ap functions (laws.one_symbols ss ts x.0 x.2 (subst (λ (z : List Word). AreSymbols ts z) (behind 2 x.1 y.1) y.2))
    one_item m n a (functions ss) (rule s) x y e = absurd (cc (e))
    one_item m n a (functions ss) (statement s) x y e = absurd (cc (e))
    one_item m n a (rule r) (builtins cs) x y e = absurd (cc (e))
    one_item m n a (rule r) (functions ts) x y e = absurd (cc (e))
    one_item m n a (rule r) (rule s) x y e =
        let w : name s.name ∷ mark (codes ":") ∷ y.0 ≡ name r.name ∷ mark (codes ":") ∷ x.0 = behind 1 x.1 y.1 in
        let names : s.name ≡ r.name = first_name w in
        let body = one_body m n r.left s.left r.acts s.acts r.right s.right x.0 x.2 (subst (λ (z : List Word). IsRuleBody g n s.left s.acts s.right z) (behind 3 x.1 y.1) y.2) in
        λ i. rule (record { name = sym names i; left = body.0 i; acts = body.1 i; right = body.2 i })
    one_item m n a (rule r) (statement s) x y e = absurd (cc (e))
    one_item m n a (statement r) (builtins cs) x y e = absurd (cc (e))
    one_item m n a (statement r) (functions ts) x y e = absurd (cc (e))
    one_item m n a (statement r) (rule s) x y e = absurd (cc (e))
    one_item m n a (statement r) (statement s) x y e =
        let both = joined_limits m n in
        let same : x.0 ≡ y.0 = laws.one_statement g both x.0 y.0 a (statement_wider m both (wider_left m n) x.2) (statement_wider n both (wider_right m n) y.2) in
        ap statement (x.1 ∙ (ap sorting same ∙ sym y.1))

    pub one_item_by : {m n : Limits} {v u : TheoryItem} {a : List Word} → IsItemBy sorting g m v a → IsItemBy sorting g n u a → v ≡ u
    one_item_by {m = m} {n = n} {v = v} {u = u} {a = a} r s = one_item m n a v u (shape r) (shape s) (sym (kind_is r) ∙ kind_is s)

no_items : {Spells : TheoryItem → List Word → Type 0} {vs : List (Standing TheoryItem)} {cut : List (List Placed)} → cut ≡ [] → AreItems Spells cut vs → ⊥
no_items e (items_end f) = absurd (cc (e))
no_items e (items_more r rs) = absurd (cc (e))

-- what is cut is one list of items, where words spell one item at most
pub one_list : {Spells : TheoryItem → List Word → Type 0} → ((v u : TheoryItem) (a : List Word) → Spells v a → Spells u a → v ≡ u)
    → (cut : List (List Placed)) (vs us : List (Standing TheoryItem)) → AreItems Spells cut vs → AreItems Spells cut us → vs ≡ us
one_list one cut vs us (items_end e) (items_end f) = refl
one_list one cut vs us (items_end e) (items_more r rs) = absurd (no_items refl rs)
one_list one cut vs us (items_more r rs) (items_end e) = absurd (no_items refl rs)
one_list one cut vs us (items_more {i = p} {v = v} {vs = ws} r rs) (items_more {v = u} {vs = xs} s ss) =
    let here : v ≡ u = one v u (words p) r s in
    λ i. record { item = here i; line = first_line p } ∷ one_list one _ ws xs rs ss i

-- each under the signature of its own items
pub one_own_list : {Spells : Sig → TheoryItem → List Word → Type 0} → ((g : Sig) (v u : TheoryItem) (a : List Word) → Spells g v a → Spells g u a → v ≡ u)
    → ((g : Sig) (v : TheoryItem) (a : List Word) → Spells g v a → told (declared_in a) ≡ declared_by v)
    → (cut : List (List Placed)) (vs us : List (Standing TheoryItem)) → AreItems (Spells (signature_of vs)) cut vs → AreItems (Spells (signature_of us)) cut us → vs ≡ us
one_own_list {Spells = Spells} one declares cut vs us r s =
    let same : declarations us ≡ declarations vs = items_declare (declares (signature_of us)) s ∙ sym (items_declare (declares (signature_of vs)) r) in
    let own : signature_of us ≡ signature_of vs = ap (λ (ds : List Declaration). signature_from pairs_alone ds) same in
    one_list (one (signature_of vs)) cut vs us r (subst (λ (g : Sig). AreItems (Spells g) cut us) own s)

one_theory_list : ReadLaws → (cut : List (List Placed)) (vs us : List (Standing TheoryItem)) → AreItems (IsAnyTheoryItem (signature_of vs)) cut vs → AreItems (IsAnyTheoryItem (signature_of us)) cut us → vs ≡ us
one_theory_list laws cut vs us r s = one_own_list {Spells = IsAnyTheoryItem} (λ g v u a p q. one_item_by laws g sorted_statement p.is q.is) (λ g v a p. item_declares laws.declared p.is) cut vs us r s

-- Tokens with a greater limit of names.
abbrev pub AreRead : Lexed → Type 0
AreRead (Ok ts) = ⊤
AreRead (Err f) = ⊥

read_before : (t : Token) (o : Lexed) → AreRead (before t o) → AreRead o
read_before t (Ok ts) h = h
read_before t (Err f) h = h

pub lexed_wider : {m k at line : ℕ} {z : List ℕ} {o : Lexed} → m ≤ k → IsLexed m at line z o → AreRead o → IsLexed k at line z o
lexed_wider le ended h = ended
lexed_wider le (skipped s r) h = skipped s (lexed_wider le r h)
lexed_wider le (taken {o = o} l fits r) h = taken l (omega (arith, fits, le)) (lexed_wider le r (read_before _ o h))
lexed_wider le (long l lt) h = absurd h
lexed_wider le (failed s) h = absurd h

one_tokens : ReadLaws → (m k : ℕ) (z : List ℕ) (ts us : List Token) → IsLexed m 0 1 z (Ok ts) → IsLexed k 0 1 z (Ok us) → ts ≡ us
one_tokens laws m k z ts us r s =
    let same : ◌≡◌ {A = Lexed} (Ok ts) (Ok us) = laws.one_answer (max m k) z (Ok ts) (Ok us) (lexed_wider {k = max m k} (omega arith) r tt) (lexed_wider {k = max m k} (omega arith) s tt) in
    cc

same_signatures : {f g h : Sig} → AreSameSignatures f g → AreSameSignatures h g → AreSameSignatures f h
same_signatures r s = record { symbols = λ x. r.symbols x ∙ sym (s.symbols x); builtins = r.builtins ∙ sym s.builtins }

-- the theories that bytes spell are the same
pub one_theory : ReadLaws → (z : List ℕ) (t u : Theory) → SpellsTheory z t → SpellsTheory z u → AreSameTheories t u
one_theory laws z t u r s =
    let tokens : r.tokens ≡ s.tokens = one_tokens laws r.most s.most z r.tokens s.tokens r.lexed s.lexed in
    let headers = laws.one_header t.name u.name (placed z r.tokens) r.rest s.rest r.header (subst (λ (ts : List Token). IsHeader u.name (placed z ts) s.rest) (sym tokens) s.header) in
    let pieces : r.pieces ≡ s.pieces = laws.one_cut r.rest r.pieces s.pieces r.is_cut (subst (λ (ps : List Placed). IsCut ps s.pieces) (sym headers.1) s.is_cut) in
    let items : r.items ≡ s.items = one_theory_list laws r.pieces r.items s.items r.are (subst (λ (ps : List (List Placed)). AreItems (IsAnyTheoryItem (signature_of s.items)) ps s.items) (sym pieces) s.are) in
    record {
      names = headers.0;
      signatures = same_signatures r.signature (subst (λ (vs : List (Standing TheoryItem)). AreSameSignatures u.signature (signature_of vs)) (sym items) s.signature);
      rules = r.rules ∙ (ap (λ (vs : List (Standing TheoryItem)). rules_in (items_of vs)) items ∙ sym s.rules);
      restrictions = r.restrictions ∙ (ap (λ (vs : List (Standing TheoryItem)). restrictions_in (items_of vs)) items ∙ sym s.restrictions);
      lemmas = r.lemmas ∙ (ap (λ (vs : List (Standing TheoryItem)). lemmas_in (items_of vs)) items ∙ sym s.lemmas);
    }
