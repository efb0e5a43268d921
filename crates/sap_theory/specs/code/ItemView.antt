-- What the answers of the code that reads items stand for.
use Rattle.std.specs.Prelude.{◌≡◌, ℕ, Bool, true, false, List, [], ◌∷◌, ◌++◌}
use Rattle.sap_terms.specs.Signature.{Sig}
use Rattle.sap_text.specs.declared.token.Token.{Token}
use Rattle.sap_rule.specs.declared.rule.Rule.{Rule}
use Rattle.sap_grammar.specs.Words.{words_of}
use Rattle.sap_grammar.specs.Cut.{Placed, placed}
use Rattle.sap_grammar.specs.Items.{Standing}
use Rattle.sap_grammar.specs.ItemReading.{cut}
use Rattle.sap_statements.specs.declared.statement.Statement.{Statement}
use Rattle.sap_statements.specs.Statements.{IsStatement}
use Rattle.sap_theory.specs.declared.limits.TheConstants.{THEORY_LIMITS}
use Rattle.sap_theory.specs.TheoryGrammar.{TheoryItem, rule, IsWrittenItem, items_of, rules_in, statements_in}
use Rattle.sap_theory.specs.WrittenItems.{AreWrittenItems, IsSomeWrittenItem}

-- the tokens are a rule, which stands last; or they are none, under any signature
abbrev pub IsRuled : Sig → List ℕ → List Token → List Rule → List Rule → Bool → Type 0
IsRuled g bytes tokens before after true = (r : Rule) × IsWrittenItem g THEORY_LIMITS (rule r) (words_of bytes tokens) × (after ≡ before ++ r ∷ [])
IsRuled g bytes tokens before after false = (h : Sig) (r : Rule) → IsWrittenItem h THEORY_LIMITS (rule r) (words_of bytes tokens) → ⊥

-- the tokens are an item, and where it is a rule, a restriction or a lemma, it stands last
pub record IsAdding (g : Sig) (bytes : List ℕ) (tokens : List Token) (before after : List Rule) (earlier later : List Statement) : Type 0 where
  pub item : TheoryItem
  pub spelled : IsWrittenItem g THEORY_LIMITS item (words_of bytes tokens)
  pub rules_are : after ≡ before ++ rules_in (item ∷ [])
  pub statements_are : later ≡ earlier ++ statements_in (item ∷ [])

-- it is so, or they are no item
abbrev pub IsAdded : Sig → List ℕ → List Token → List Rule → List Rule → List Statement → List Statement → Bool → Type 0
IsAdded g bytes tokens before after earlier later true = IsAdding g bytes tokens before after earlier later
IsAdded g bytes tokens before after earlier later false = IsSomeWrittenItem (words_of bytes tokens) → ⊥

-- the pieces are items with these rules, and these restrictions and lemmas, in order
pub record AreSaid (g : Sig) (cut : List (List Placed)) (rules : List Rule) (statements : List Statement) : Type 0 where
  pub standing : List (Standing TheoryItem)
  pub items : AreWrittenItems g cut standing
  pub rules_are : rules ≡ rules_in (items_of standing)
  pub statements_are : statements ≡ statements_in (items_of standing)

-- behind these rules, restrictions and lemmas the items of the tokens `rest` are the last of those of all tokens
abbrev pub IsGoodBehind : Sig → List ℕ → List Token → List Token → List Rule → List Statement → Type 0
IsGoodBehind g bytes tokens rest rules statements =
    (is : List (Standing TheoryItem)) → AreWrittenItems g (cut (placed bytes rest)) is
    → (js : List (Standing TheoryItem)) × AreWrittenItems g (cut (placed bytes tokens)) js × (rules ++ rules_in (items_of is) ≡ rules_in (items_of js))
    × (statements ++ statements_in (items_of is) ≡ statements_in (items_of js))
